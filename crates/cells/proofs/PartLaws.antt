-- Laws of the part of a list between two places.
use Prim.Native.Nat.{ℕ, ◌-◌, ◌≤◌}
use mathlib.Core.Path.{◌≡◌, ◌∙◌, sym}
use mathlib.Core.List.{List, []}
use native.Mathlib.Omega.{arith}
use lib.ListN.{length, take, drop, drop_of_length-le, length-drop}
use lib.Seq.{take_all, take-nil}

-- no bytes from behind the end, and none up to where they begin
pub part_behind : (s : List ℕ) (a e : ℕ) → length s ≤ a → take (e - a) (drop a s) ≡ []
part_behind s a e h = rw (drop_of_length-le s h) (take-nil (e - a))

pub part_none : (s : List ℕ) (a e : ℕ) → e ≤ a → take (e - a) (drop a s) ≡ []
part_none s a e h = let z : e - a ≡ 0 = omega arith in rw z

-- past the end there is nothing more
pub part_all : (s : List ℕ) (a e : ℕ) → length s ≤ e → take (e - a) (drop a s) ≡ take (length s - a) (drop a s)
part_all s a e h =
    let l = length-drop a s in
    take_all (e - a) (drop a s) (omega arith) ∙ sym (take_all (length s - a) (drop a s) (omega arith))
