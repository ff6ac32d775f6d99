use mathlib.Core.Path.{◌≡◌}
use Prim.Native.Nat.{◌<◌}
use Rattle.words.proofs.WordLaws.{value_in}
use Rattle.words.proofs.fit.value.Given as goal

abbrev pub invariant-loop-i : goal.invariant-loop-i
invariant-loop-i l =
    (value_in l.word l.from 0 ≡ value_in l.word l.i l.v) × (l.v < 65536)
