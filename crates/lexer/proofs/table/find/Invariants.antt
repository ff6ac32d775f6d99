use mathlib.Core.Path.{◌≡◌}
use Prim.Native.Nat.{◌-◌}
use Rattle.lexer.specs.Twins.Table.{find_at}
use Rattle.lexer.proofs.table.find.Given as goal

abbrev pub invariant-loop-k : goal.invariant-loop-k
invariant-loop-k l =
    find_at l.first l.second l.table l.hash l.word l.count 0 ≡ find_at l.first l.second l.table l.hash l.word (l.count - l.k) l.k
