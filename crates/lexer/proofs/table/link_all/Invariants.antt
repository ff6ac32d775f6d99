use mathlib.Core.Path.{◌≡◌}
use Prim.Native.Nat.{◌-◌}
use lib.ListN.{length}
use Rattle.lexer.specs.Twins.Chains.{linked_all}
use Rattle.lexer.proofs.table.link_all.Given as goal

abbrev pub invariant-loop-k : goal.invariant-loop-k
invariant-loop-k l =
    (linked_all l.base l.table l.count 0 l.initial.chains ≡ linked_all l.base l.table (l.count - l.k) l.k l.chains) × (length l.chains ≡ length l.initial.chains)
