-- A printed number is a numeral, without leading noughts, whose value is that number.
use Prim.Native.Nat.{ℕ, zero, suc, ◌+◌, ◌*◌, ◌-◌, ◌/◌, ◌%◌, ◌≤◌, ◌<◌}
use mathlib.Core.Path.{◌≡◌, refl, ap, ap₂, ◌∙◌, sym as inv}
use mathlib.Core.Bool.{Bool, true, false, cond, ◌&&◌, ◌||◌, not, false≢true, true≢false}
use mathlib.Core.List.{List, [], ◌∷◌, ◌++◌}
use native.Mathlib.Omega.{arith}
use lib.Dec.{ltb, leb}
use lib.ListN.{length, length-append}
use borrow.Author.Tests.{ltb-true, ltb-false, le-leb, ne_eqb}
use Rattle.expressions.proofs.Predicates.{All, all_append}
use Rattle.expressions.proofs.Tests.{and_both}
use Rattle.language.specs.Bytes.{Byte, blank, bracket, digit, letter, mark, outside, byte_kind, is_outside, is_digit, in_name, in_word}
use Rattle.language.specs.Words.{Word, same, begins, all, fits, long, broken, is_name, name_fit, is_numeral, numeral_fit, value_from, value}
use Rattle.listing.specs.Print.{digits_within, digits}

abbrev pub Digit : ℕ → Type 0
Digit b = is_digit (byte_kind b) ≡ true

-- a byte of a name, that is of a word and inside the set
abbrev pub Named : ℕ → Type 0
Named b = in_name (byte_kind b) ≡ true

pub digit_named : (b : ℕ) → Digit b → Named b
digit_named b h = go (byte_kind b) h
  where
    go : (k : Byte) → is_digit k ≡ true → in_name k ≡ true
    go blank e = e
    go bracket e = e
    go digit e = refl
    go letter e = refl
    go mark e = e
    go outside e = e

pub named_inside : (b : ℕ) → Named b → (in_word (byte_kind b) ≡ true) × (is_outside (byte_kind b) ≡ false)
named_inside b h = go (byte_kind b) h
  where
    go : (k : Byte) → in_name k ≡ true → (in_word k ≡ true) × (is_outside k ≡ false)
    go blank e = absurd (false≢true e)
    go bracket e = absurd (false≢true e)
    go digit e = (refl, refl)
    go letter e = (refl, refl)
    go mark e = (refl, refl)
    go outside e = absurd (false≢true e)

digit_is : (r : ℕ) → r < 10 → Digit (48 + r)
digit_is zero h = refl
digit_is (suc zero) h = refl
digit_is (suc (suc zero)) h = refl
digit_is (suc (suc (suc zero))) h = refl
digit_is (suc (suc (suc (suc zero)))) h = refl
digit_is (suc (suc (suc (suc (suc zero))))) h = refl
digit_is (suc (suc (suc (suc (suc (suc zero)))))) h = refl
digit_is (suc (suc (suc (suc (suc (suc (suc zero))))))) h = refl
digit_is (suc (suc (suc (suc (suc (suc (suc (suc zero)))))))) h = refl
digit_is (suc (suc (suc (suc (suc (suc (suc (suc (suc zero))))))))) h = refl
digit_is (suc (suc (suc (suc (suc (suc (suc (suc (suc (suc r)))))))))) h = absurd (omega arith)

value_behind : (v b : ℕ) (w : Word) → value_from v (w ++ (b ∷ [])) ≡ 10 * value_from v w + (b - 48)
value_behind v b [] = refl
value_behind v b (c ∷ w) = value_behind (10 * v + (c - 48)) b w

-- ds are the digits of n
pub record Written (n : ℕ) (ds : List ℕ) : Type 0 where
  pub value : value ds ≡ n
  pub digits : All Digit ds
  pub filled : same ds [] ≡ false
  pub nought : 1 ≤ n → begins (48 ∷ []) ds ≡ false

written_one : (n : ℕ) → n < 10 → Written n ((48 + n) ∷ [])
written_one n h = record { value = omega arith; digits = (digit_is n h, tt); filled = refl; nought = λ l. ap (λ (t : Bool). t && true) (ne_eqb 48 (48 + n) (λ e. omega arith)) }

written_more : (n : ℕ) (ds : List ℕ) → 10 ≤ n → Written (n / 10) ds → Written n (ds ++ ((48 + n % 10) ∷ []))
written_more n ds l h = record {
  value = value_behind 0 (48 + n % 10) ds ∙ rw h.value (omega arith);
  digits = all_append Digit ds ((48 + n % 10) ∷ []) h.digits (digit_is (n % 10) (omega arith), tt);
  filled = full ds;
  nought = λ m. first ds h.filled (h.nought (omega arith));
}
  where
    full : (ds : List ℕ) → same (ds ++ ((48 + n % 10) ∷ [])) [] ≡ false
    full [] = refl
    full (d ∷ ds) = refl

    first : (ds : List ℕ) → same ds [] ≡ false → begins (48 ∷ []) ds ≡ false → begins (48 ∷ []) (ds ++ ((48 + n % 10) ∷ [])) ≡ false
    first [] f e = absurd (true≢false f)
    first (d ∷ ds) f e = e

abbrev one_or : Bool → ℕ → List ℕ → List ℕ
one_or t n ds = elim t [ true ↦ (48 + n) ∷ [] | false ↦ ds ++ ((48 + n % 10) ∷ []) ]

within_written : (k n : ℕ) → n < k → Written n (digits_within k n)
within_written zero n h = absurd (omega arith)
within_written (suc k) n h = go (ltb n 10) refl (λ l. within_written k (n / 10) (omega arith))
  where
    go : (t : Bool) → ltb n 10 ≡ t → (10 ≤ n → Written (n / 10) (digits_within k (n / 10))) → Written n (one_or t n (digits_within k (n / 10)))
    go true e again = written_one n (ltb-true n 10 e)
    go false e again = let l = ltb-false n 10 e in written_more n (digits_within k (n / 10)) l (again l)

pub written : (n : ℕ) → Written n (digits n)
written n = within_written (suc n) n (omega arith)

-- different numbers have different digits
pub digits_apart : (m n : ℕ) → digits m ≡ digits n → m ≡ n
digits_apart m n e = inv (written m).value ∙ ap value e ∙ (written n).value

-- 10, 100, ..
abbrev pub tens : ℕ → ℕ
tens zero = 10
tens (suc d) = 10 * tens d

within_short : (d k n : ℕ) → n < tens d → length (digits_within k n) ≤ suc d
within_short d zero n h = omega arith
within_short zero (suc k) n h = go (ltb n 10) refl
  where
    go : (t : Bool) → ltb n 10 ≡ t → length (one_or t n (digits_within k (n / 10))) ≤ 1
    go true e = omega arith
    go false e = let l = ltb-false n 10 e in absurd (omega arith)
within_short (suc d) (suc k) n h = go (ltb n 10) (within_short d k (n / 10) (omega arith))
  where
    go : (t : Bool) → length (digits_within k (n / 10)) ≤ suc d → length (one_or t n (digits_within k (n / 10))) ≤ suc (suc d)
    go true l = omega arith
    go false l = omega (arith, length-append (digits_within k (n / 10)) ((48 + n % 10) ∷ []))

pub digits_short : (d n : ℕ) → n < tens d → length (digits n) ≤ suc d
digits_short d n h = within_short d (suc n) n h

all_is : (f : ℕ → Bool) (w : Word) → All (λ b. f b ≡ true) w → all f w ≡ true
all_is f [] h = refl
all_is f (b ∷ w) h = ap₂ ◌&&◌ h.0 (all_is f w h.1)

pub all_each : (f : ℕ → Bool) (w : Word) → all f w ≡ true → All (λ b. f b ≡ true) w
all_each f [] e = tt
all_each f (b ∷ w) e = let r = and_both (f b) (all f w) e in (r.0, all_each f w r.1)

pub numeral_fits : (n : ℕ) → n < 10000000 → numeral_fit (digits n) ≡ fits
numeral_fits n h =
    let w = written n in
    let a : is_numeral (digits n) ≡ true = rw (w.filled, all_is (λ b. is_digit (byte_kind b)) (digits n) w.digits) (leading n (digits n) refl w) in
    rw (a, le-leb (length (digits n)) 7 (digits_short 6 n (omega arith)))
  where
    leading : (n : ℕ) (ds : List ℕ) → digits n ≡ ds → Written n ds → (same ds (48 ∷ []) || not (begins (48 ∷ []) ds)) ≡ true
    leading zero ds e w = rw (← e)
    leading (suc n) ds e w = rw (w.nought (omega arith)) (either (same ds (48 ∷ [])))
      where
        either : (t : Bool) → (t || true) ≡ true
        either true = refl
        either false = refl

-- a name of letters and digits, at most 16
pub name_fits : (w : Word) → same w [] ≡ false → All Named w → length w ≤ 16 → name_fit w ≡ fits
name_fits w f h l = rw (f, all_is (λ b. in_name (byte_kind b)) w h, le-leb (length w) 16 l)

all_digits_named : (ds : List ℕ) → All Digit ds → All Named ds
all_digits_named [] h = tt
all_digits_named (d ∷ ds) h = (digit_named d h.0, all_digits_named ds h.1)

pub digits_named : (n : ℕ) → All Named (digits n)
digits_named n = all_digits_named (digits n) (written n).digits

-- a word that fits as a name
pub fit_named : (w : Word) → name_fit w ≡ fits → All Named w
fit_named w e = go (is_name w) refl e
  where
    go : (t : Bool) → is_name w ≡ t → cond t (cond (leb (length w) 16) fits long) broken ≡ fits → All Named w
    go true q e = all_each (λ b. in_name (byte_kind b)) w (and_both (not (same w [])) _ q).1
    go false q e = let z : ◌≡◌ {A = ℕ} 0 1 = cc in let n : ⊥ = omega arith in absurd n
