use mathlib.Core.Path.{◌≡◌}
use Prim.Native.Nat.{◌-◌}
use Rattle.values.specs.Twins.Values.{tokens_written}
use Rattle.values.proofs.tokens.push_tokens.Given as goal

abbrev pub invariant-loop-j : goal.invariant-loop-j
invariant-loop-j l =
    tokens_written l.code l.frame l.base (l.to - l.i) l.i l.used l.initial.heap ≡ tokens_written l.code l.frame l.base (l.to - l.j) l.j l.k l.heap
