use borrow.Author.Rules.{rules}
use Rattle.pairs.specs.Twins.Branching.{true_taken}
use Rattle.pairs.proofs.branch.take_true.Goals as goal

pub returns-in-Atom : goal.returns-in-Atom
unfolding true_taken
returns-in-Atom c = search rules

pub returns-in-Pair : goal.returns-in-Pair
unfolding true_taken
returns-in-Pair c = rw (c.in-Pair.is, ← c.take_pair.ensures)

pub returns-in-Variable : goal.returns-in-Variable
unfolding true_taken
returns-in-Variable c = rw c.in-Variable.is c.split_pair.ensures
