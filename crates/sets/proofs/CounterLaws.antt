-- What the counter hands out, up to the last number that has a code.
use Prim.Native.Nat.{ℕ, ◌≤◌, ◌<◌}
use mathlib.Core.Path.{◌≡◌, refl}
use borrow.Author.Tests.{lt-ltb, le-ltb}
use Rattle.std.specs.Prelude.{Some, None}
use Rattle.expressions.specs.Split.{take_numbers}
use Rattle.sets.specs.Twins.Counting.{fresh, handed}

pub handed_numbers : (k : ℕ) → k ≤ 16381 → handed k ≡ Some (fresh k)
handed_numbers k h = rw (le-ltb 16381 k h)

pub handed_spent : (k : ℕ) → 16381 < k → handed k ≡ None
handed_spent k h = rw (lt-ltb 16381 k h)

-- "three numbers from the path's counter ..: head, tail, atom"
pub fresh_numbers : (k : ℕ) → ((fresh k).head ≡ (take_numbers k).head) × ((fresh k).tail ≡ (take_numbers k).tail) × ((fresh k).atom ≡ (take_numbers k).atom) ×
    ((fresh k).next.next ≡ (take_numbers k).next)
fresh_numbers k = (refl, refl, refl, refl)
