use Rattle.lexer.proofs.ChainLaws.{Passed}
use Rattle.lexer.proofs.table.find_linked.Given as goal

abbrev pub invariant-loop-k : goal.invariant-loop-k
invariant-loop-k l = Passed l.first l.second l.table l.count l.hash l.word l.found l.k

abbrev pub decreases-loop-k : goal.decreases-loop-k
decreases-loop-k l = l.k
