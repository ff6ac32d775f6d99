-- What stands at the front of storage behind whose front more was read.
use Rattle.std.proofs.Common.{◌≡◌, ℕ, ◌+◌, ◌≤◌, List, ◌++◌, length, take, drop, sym, ap, ◌∙◌, subst, le_refl, drop_at, length-take-le}
use Rattle.std.proofs.lemmas.Slice.{take-put_mid_below}
use Rattle.std.proofs.KnownBytes.{Consumes-trans, Consumes-kept}
use Rattle.std.specs.Io.KnownBytes.{Consumes, Keeps}
use Rattle.std.specs.declared.option.Option.{Option}
use borrow.Rule.Slice.PartMut.{put_mid, post_of}
use lib.Seq.{take-add, take-append-le}

-- the n bytes that were put behind the first `at`
put_behind : (at k n : ℕ) (xs ys : List ℕ) → at ≤ length xs → n ≤ length ys → take n (drop at (put_mid at k xs ys)) ≡ take n ys
put_behind at k n xs ys within fits =
    ap (take n) (drop_at (take at xs) (ys ++ post_of at k xs) at (length-take-le at xs within)) ∙ take-append-le n ys (post_of at k xs) fits

pub filled_on : (a b c : Option (List ℕ)) (m at k n : ℕ) (xs ys : List ℕ) → m ≡ at + n → at ≤ length xs → n ≤ length ys → Consumes a b (take at xs) → Consumes b c (take n ys)
    → Consumes a c (take m (put_mid at k xs ys))
filled_on a b c m at k n xs ys e within fits p q =
    let all = put_mid at k xs ys in
    let front : take at all ≡ take at xs = take-put_mid_below _ _ _ _ _ (le_refl _) within in
    let joined : take at xs ++ take n ys ≡ take m all =
    ap (λ l. l ++ take n ys) (sym front) ∙ ap (λ l. take at all ++ l) (sym (put_behind at k n xs ys within fits)) ∙ sym (take-add at n all) ∙ ap (λ z. take z all) (sym e) in
    subst (Consumes a c) joined (Consumes-trans a b c _ _ p q)

-- a read that failed leaves the front as it was
pub filled_kept : (a b c : Option (List ℕ)) (m at k : ℕ) (xs ys : List ℕ) → m ≡ at → at ≤ length xs → Consumes a b (take at xs) → Keeps b c → Consumes a c (take m (put_mid at k xs ys))
filled_kept a b c m at k xs ys e within p q =
    let front = take-put_mid_below _ _ _ _ _ (le_refl _) within in
    subst (Consumes a c) (sym (ap (λ z. take z (put_mid at k xs ys)) e ∙ front)) (Consumes-kept a b c _ p q)
