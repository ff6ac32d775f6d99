-- The number of a symbol's word: n where its name is Q and n, n from 1 up to 5,120, and of no other word.
use Prim.Native.Nat.{ℕ, ◌%◌, ◌≤◌}
use mathlib.Core.Path.{◌≡◌, refl, ap, ap₂, ◌∙◌, sym as inv}
use mathlib.Core.Bool.{Bool, true, false, cond, ◌&&◌, true≢false}
use mathlib.Core.List.{[], ◌∷◌}
use native.Mathlib.Omega.{arith}
use lib.Dec.{eqb, leb, ltb}
use lib.ListN.{length, drop}
use borrow.Author.Tests.{eqb-true, eqb-false, eq-eqb, le-ltb, ltb-false, le-leb}
use Rattle.language.specs.Words.{Word, same, is_numeral, numeral_fit, fits, long, broken, value}
use Rattle.words.specs.Twins.Marks.{fit_number}
use Rattle.words.specs.Twins.Judged.{value_cell}
use Rattle.lexer.proofs.TableMeaning.{same_word}
use Rattle.listing.specs.Print.{digits}
use Rattle.listing.specs.Sample.{name_q}
use Rattle.samples.specs.Twins.Numbers.{counting, numeral_of, number_of}
use Rattle.samples.proofs.NumeralLaws.{value_digits, digits_numeral, digits_few, digits_value, value_few}

-- what a numeral's number is: its value, from 1 up to 5,120
numeral_sound : (u : Word) (n : ℕ) → numeral_of u ≡ n → 1 ≤ n → u ≡ digits n
unfolding numeral_of
numeral_sound u n e l = go (ltb 4 (length u)) refl (is_numeral u) refl (leb (length u) 7) (leb (value_cell u) 5120) e
  where
    go : (s : Bool) → ltb 4 (length u) ≡ s → (t : Bool) → is_numeral u ≡ t → (a b : Bool) →
        cond s 0 (cond (eqb (fit_number (cond t (cond a fits long) broken)) 0) (cond b (value_cell u) 0) 0) ≡ n → u ≡ digits n
    go true f t g a b z = absurd (omega arith)
    go false f false g a b z = absurd (omega arith)
    go false f true g false b z = absurd (omega arith)
    go false f true g true false z = absurd (omega arith)
    go false f true g true true z =
        let few = value_few u g (ltb-false 4 (length u) f) in
        let v : value u ≡ n = omega arith in
        inv (digits_value u g (omega arith)) ∙ ap digits v

numeral_complete : (n : ℕ) → 1 ≤ n → n ≤ 5120 → numeral_of (digits n) ≡ n
unfolding numeral_of
numeral_complete n l h =
    let few = digits_few n (omega arith) in
    let v : value_cell (digits n) ≡ n = ap (λ (k : ℕ). k % 65536) (value_digits n l) ∙ omega arith in
    ap (λ (b : Bool). cond b 0 (cond (eqb (fit_number (numeral_fit (digits n))) 0) (counting (value_cell (digits n))) 0)) (le-ltb 4 (length (digits n)) few)
    ∙ ap₂ (λ (s t : Bool). cond (eqb (fit_number (cond s (cond t fits long) broken)) 0) (counting (value_cell (digits n))) 0) (digits_numeral n l) (le-leb (length (digits n)) 7 (omega arith))
    ∙ ap counting v ∙ ap (λ (b : Bool). cond b n 0) (le-leb n 5120 h)

-- the name begins with Q
number_sound : (w : Word) (n : ℕ) → number_of w ≡ n → 1 ≤ n → drop 1 w ≡ name_q n
unfolding number_of
number_sound [] n e l = absurd (omega arith)
number_sound (a ∷ []) n e l = absurd (omega arith)
number_sound (a ∷ (b ∷ u)) n e l = go (eqb b 81) refl e
  where
    go : (s : Bool) → eqb b 81 ≡ s → cond s (numeral_of u) 0 ≡ n → b ∷ u ≡ name_q n
    go true f z = ap₂ ◌∷◌ (eqb-true b 81 f) (numeral_sound u n z l)
    go false f z = absurd (omega arith)

number_complete : (w : Word) (n : ℕ) → 1 ≤ n → n ≤ 5120 → drop 1 w ≡ name_q n → number_of w ≡ n
unfolding number_of
number_complete [] n l h e = absurd (let z : ◌≡◌ {A = ℕ} 0 1 = cc in omega arith)
number_complete (a ∷ []) n l h e = absurd (let z : ◌≡◌ {A = ℕ} 0 1 = cc in omega arith)
number_complete (a ∷ (b ∷ u)) n l h e =
    let q : b ≡ 81 = cc in
    let d : u ≡ digits n = cc in
    ap (λ (t : Bool). cond t (numeral_of u) 0) (eq-eqb b 81 q) ∙ ap numeral_of d ∙ numeral_complete n l h

-- so that the test of numbers is the test of names
same_self : (w : Word) → same w w ≡ true
same_self [] = refl
same_self (b ∷ w) = ap₂ ◌&&◌ (eq-eqb b b refl) (same_self w)

pub number_test : (w : Word) (n : ℕ) → 1 ≤ n → n ≤ 5120 → same (drop 1 w) (name_q n) ≡ eqb (number_of w) n
number_test w n l h = go (eqb (number_of w) n) refl (same (drop 1 w) (name_q n)) refl
  where
    go : (s : Bool) → eqb (number_of w) n ≡ s → (t : Bool) → same (drop 1 w) (name_q n) ≡ t → t ≡ s
    go true e true f = refl
    go true e false f = absurd (true≢false (inv (same_self (name_q n)) ∙ ap (λ (v : Word). same v (name_q n)) (inv (number_sound w n (eqb-true (number_of w) n e) l)) ∙ f))
    go false e true f = absurd (eqb-false (number_of w) n e (number_complete w n l h (same_word (drop 1 w) (name_q n) f)))
    go false e false f = refl

-- different numbers, different names
pub name_q_apart : (m n : ℕ) → 1 ≤ m → 1 ≤ n → name_q m ≡ name_q n → m ≡ n
name_q_apart m n k l e = let d : digits m ≡ digits n = cc in inv (value_digits m k) ∙ ap value d ∙ value_digits n l
