-- What was read where nothing failed.
use Rattle.std.proofs.Common.{◌≡◌, ℕ, ◌≤◌, ◌<◌, ◌⊎◌, inl, inr, List, [], ◌++◌, None, Some, IfSome, arith, length, take, sym, ap, ◌∙◌, append-nil}
use Rattle.std.proofs.Math.Nat.{eq-or-lt_of_le}
use Rattle.std.specs.Io.KnownBytes.{Consumes, IsAtEnd}
use Rattle.std.specs.declared.option.Option.{Option}
use lib.Seq.{take_all, take_at}

-- all of it, or as much as there is room for
front_read : (x z : List ℕ) (n m : ℕ) (ys : List ℕ) → length (take n ys) ≡ n → x ≡ take n ys ++ z → (n < m → z ≡ []) → (n ≡ m) ⊎ (n < m) → take n ys ≡ take m x
front_read x z n m ys l p e (inl f) = sym (ap (λ r. take m r) p ∙ take_at (take n ys) z m (l ∙ f))
front_read x z n m ys l p e (inr k) =
    let all : x ≡ take n ys = p ∙ ap (λ r. take n ys ++ r) (e k) ∙ append-nil (take n ys) in
    let short : length x ≤ m = omega (arith, ap (λ (r : List ℕ). length r) all, l, k) in
    sym (take_all m x short ∙ all)

-- n bytes, up to the reader's end or as many as there is room for
pub whole_read : (a b : Option (List ℕ)) (n m : ℕ) (ys : List ℕ) → n ≤ m → length (take n ys) ≡ n → Consumes a b (take n ys) → (n < m → IsAtEnd b) → IfSome a (λ xs. (n ≡ 0) ⊎ (take n ys ≡ take m xs))
whole_read None b n m ys h l p e = tt
whole_read (Some x) None n m ys h l p e = absurd p
whole_read (Some x) (Some z) n m ys h l p e = inr (front_read x z n m ys l p e (eq-or-lt_of_le h))
