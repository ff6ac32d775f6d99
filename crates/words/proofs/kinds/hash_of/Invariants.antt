use mathlib.Core.Path.{◌≡◌}
use Prim.Native.Nat.{◌<◌}
use lib.ListN.{drop}
use Rattle.words.specs.Twins.Judged.{hash_from}
use Rattle.words.proofs.kinds.hash_of.Given as goal

abbrev pub invariant-loop-i : goal.invariant-loop-i
invariant-loop-i l =
    (hash_from 0 l.word ≡ hash_from l.h (drop l.i l.word)) × (l.h < 65536)
