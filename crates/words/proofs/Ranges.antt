-- The kind of every byte of a range, by one test that antt computes over the range.
use mathlib.Core.Path.{◌≡◌, refl}
use mathlib.Core.Bool.{Bool, true, false, ◌||◌, ◌&&◌}
use Prim.Native.Nat.{ℕ, zero, suc, ◌+◌, ◌≤◌, ◌<◌}
use native.Mathlib.Omega.{arith}
use native.Mathlib.Decide.{ℕ_discrete}
use lib.Dec.{T, eqb}
use borrow.Author.Tests.{ne_eqb, eqb-true}
use Rattle.language.specs.Bytes.{Byte, blank, bracket, digit, letter, mark, outside, byte_kind}

-- the test f passes at the n numbers from low on
abbrev run : (ℕ → Bool) → ℕ → ℕ → Bool
run f low zero = true
run f low (suc n) = f low && run f (suc low) n

both_left : (a b : Bool) → T (a && b) → T a
both_left true b t = tt
both_left false b t = t

both_right : (a b : Bool) → T (a && b) → T b
both_right true b t = t
both_right false b t = absurd t

run_at : (f : ℕ → Bool) (low n : ℕ) → T (run f low n) → (b : ℕ) → low ≤ b → b < low + n → T (f b)
run_at f low zero t b l h = absurd (omega arith)
run_at f low (suc n) t b l h = go (ℕ_discrete low b) (run_at f (suc low) n (both_right (f low) (run f (suc low) n) t) b)
  where
    go : Dec (low ≡ b) → (suc low ≤ b → b < suc low + n → T (f b)) → T (f b)
    go (yes e) again = rw (← e) (both_left (f low) (run f (suc low) n) t)
    go (no e) again = again (omega arith) (omega arith)

abbrev code : Byte → ℕ
code blank = 0
code bracket = 1
code digit = 2
code letter = 3
code mark = 4
code outside = 5

abbrev back : ℕ → Byte
back zero = blank
back (suc zero) = bracket
back (suc (suc zero)) = digit
back (suc (suc (suc zero))) = letter
back (suc (suc (suc (suc zero)))) = mark
back (suc (suc (suc (suc (suc n))))) = outside

back_code : (k : Byte) → back (code k) ≡ k
back_code blank = refl
back_code bracket = refl
back_code digit = refl
back_code letter = refl
back_code mark = refl
back_code outside = refl

-- what is tested at b: it is of kind k, or one of the bytes that stand alone
abbrev test : Byte → ℕ → Bool
test k b = eqb (code (byte_kind b)) (code k) || (eqb b 32 || (eqb b 91 || eqb b 93))

settle : (a b : Bool) → b ≡ false → T (a || b) → a ≡ true
settle true b e t = refl
settle false b e t = absurd (rw e at t)

pub in_range : (low n : ℕ) (k : Byte) → T (run (test k) low n) → (b : ℕ) → low ≤ b → b < low + n → (b ≡ 32 → ⊥) → (b ≡ 91 → ⊥) → (b ≡ 93 → ⊥) → k ≡ byte_kind b
in_range low n k t b l h p q r =
    let e : eqb (code (byte_kind b)) (code k) ≡ true = settle (eqb (code (byte_kind b)) (code k)) _ (simp (ne_eqb b 32 p, ne_eqb b 91 q, ne_eqb b 93 r)) (run_at (test k) low n t b l h) in
    let z = eqb-true (code (byte_kind b)) (code k) e in
    rw (← (back_code k), ← z) (back_code (byte_kind b))
