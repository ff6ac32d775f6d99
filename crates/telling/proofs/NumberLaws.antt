-- Numbers written one after the other, zeros behind them.
use Prim.Native.Nat.{ℕ, zero, suc, ◌+◌, ◌-◌, ◌<◌}
use mathlib.Core.Path.{◌≡◌, refl, ap, ◌∙◌, sym}
use mathlib.Core.List.{List, [], ◌∷◌, ◌++◌, append_assoc, append-nil}
use native.Mathlib.Nat.{not-suc-le-zero, le_of_suc-le-suc}
use native.Mathlib.Omega.{arith}
use lib.ListN.{length, get_or, set, drop, replicate, length-append, drop_of_length-le, get_or-replicate}
use lib.Seq.{set-append_seam, drop-cons}
use Rattle.telling.specs.Numbers.{padded}

zeros_more : (n : ℕ) → replicate {A = ℕ} (suc n) 0 ≡ replicate n 0 ++ (0 ∷ [])
zeros_more zero = refl
zeros_more (suc n) = ap (λ (r : List ℕ). 0 ∷ r) (zeros_more n)

pub padded_more : (v : List ℕ) (i : ℕ) → padded v (suc i) ≡ padded v i ++ (get_or v i 0 ∷ [])
unfolding padded
padded_more [] zero = refl
padded_more [] (suc i) =
    let e : suc (suc i) - 0 ≡ suc (suc i) = omega arith in
    let f : suc i - 0 ≡ suc i = omega arith in
    rw (e, f) (zeros_more (suc i))
padded_more (x ∷ v) zero =
    let e : 1 - suc (length v) ≡ 0 = omega arith in
    let f : 0 - suc (length v) ≡ 0 = omega arith in
    rw (e, f) refl
padded_more (x ∷ v) (suc i) =
    let e : suc (suc i) - suc (length v) ≡ suc i - length v = omega arith in
    let f : suc i - suc (length v) ≡ i - length v = omega arith in
    rw (e, f) (ap (λ (r : List ℕ). x ∷ r) (padded_more v i))

add_one : {m i : ℕ} → m ≡ i → m + 1 ≡ suc i
add_one e = omega (arith, e)

pub padded_length : (v : List ℕ) (i : ℕ) → length (padded v i) ≡ i
unfolding padded
padded_length v zero = let z : 0 - length v ≡ 0 = omega arith in rw (z) refl
padded_length v (suc i) = ap length (padded_more v i) ∙ length-append (padded v i) (get_or v i 0 ∷ []) ∙ add_one (padded_length v i)

pub padded_none : (v s : List ℕ) → padded v 0 ++ drop 0 s ≡ s
unfolding padded
padded_none v s = let z : 0 - length v ≡ 0 = omega arith in rw (z) refl

-- one number more
pub one_more : (v s : List ℕ) (i : ℕ) → i < length s → set (padded v i ++ drop i s) i (get_or v i 0) ≡ padded v (i + 1) ++ drop (i + 1) s
one_more v s i h =
    let e : suc i ≡ i + 1 = omega arith in
    ap (λ (r : List ℕ). set (padded v i ++ r) i (get_or v i 0)) (drop-cons s i 0 h)
    ∙ ap (λ (k : ℕ). set (padded v i ++ (get_or s i 0 ∷ drop (suc i) s)) k (get_or v i 0)) (sym (padded_length v i))
    ∙ set-append_seam (padded v i) (get_or s i 0) (drop (suc i) s) (get_or v i 0)
    ∙ sym (append_assoc (padded v i) (get_or v i 0 ∷ []) (drop (suc i) s))
    ∙ ap (λ (r : List ℕ). r ++ drop (suc i) s) (sym (padded_more v i))
    ∙ ap (λ (n : ℕ). padded v n ++ drop n s) e

pub all_written : (v s : List ℕ) (i : ℕ) → i ≡ length s → padded v i ++ drop i s ≡ padded v (length s)
all_written v s i e =
    ap (λ (n : ℕ). padded v n ++ drop n s) e ∙ ap (λ (l : List ℕ). padded v (length s) ++ l) (drop_of_length-le s {i = length s} (omega arith)) ∙ append-nil (padded v (length s))

-- a number that was written is there
pub padded_at : (v : List ℕ) (n i : ℕ) → i < n → get_or (padded v n) i 0 ≡ get_or v i 0
unfolding padded
padded_at v zero i h = absurd (not-suc-le-zero h)
padded_at [] (suc n) i h = let e : suc n - 0 ≡ suc n = omega arith in rw (e) (get_or-replicate (suc n) i 0 0 h)
padded_at (x ∷ v) (suc n) zero h = refl
padded_at (x ∷ v) (suc n) (suc i) h = let e : suc n - suc (length v) ≡ n - length v = omega arith in rw (e) (padded_at v n i (le_of_suc-le-suc h))
