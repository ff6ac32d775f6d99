-- A number's digits are the numeral of its value, and a numeral the digits of its value.
use Prim.Native.Nat.{ℕ, zero, suc, ◌+◌, ◌-◌, ◌*◌, ◌/◌, ◌%◌, ◌≤◌, ◌<◌}
use mathlib.Core.Path.{◌≡◌, refl, ap, ap₂, ◌∙◌, sym as inv}
use mathlib.Core.Bool.{Bool, true, false, cond, ◌&&◌, ◌||◌, not, false≢true}
use mathlib.Core.List.{[], ◌∷◌, ◌++◌, append-nil}
use native.Mathlib.Omega.{arith}
use native.Mathlib.Decide.{dec_lt, ℕ_discrete}
use lib.Dec.{eqb, leb}
use lib.ListN.{length, length-append}
use lib.Seq.{append_snoc}
use borrow.Author.Tests.{leb-true, eq-eqb, ne_eqb}
use Rattle.expressions.proofs.Tests.{and_both}
use Rattle.language.specs.Bytes.{blank, bracket, digit, letter, mark, outside, byte_kind, is_digit, within}
use Rattle.language.specs.Words.{Word, same, all, is_numeral, value_from, value}
use Rattle.listing.specs.Print.{digits}
use Rattle.words.proofs.Ranges.{in_range}
use Rattle.lexer.proofs.TableMeaning.{same_word}
use Rattle.window.proofs.DigitLaws.{digits_one, digits_more}

abbrev all_digits : Word → Bool
all_digits w = all (λ b. is_digit (byte_kind b)) w

digit_range : (b : ℕ) → is_digit (byte_kind b) ≡ true → (48 ≤ b) × (b ≤ 57)
digit_range b e =
    let x = and_both (leb 48 b) (leb b 57) (third (eqb b 32 || within 9 10 b) (within 40 41 b || eqb b 91 || eqb b 93) (within 48 57 b) (within 65 90 b || within 97 122 b) (within 32 126 b) e) in
    (leb-true 48 b x.0, leb-true b 57 x.1)
  where
    third : (p q r s t : Bool) → is_digit (cond p blank (cond q bracket (cond r digit (cond s letter (cond t mark outside))))) ≡ true → r ≡ true
    third true q r s t e = absurd (false≢true e)
    third false true r s t e = absurd (false≢true e)
    third false false true s t e = refl
    third false false false true t e = absurd (false≢true e)
    third false false false false true e = absurd (false≢true e)
    third false false false false false e = absurd (false≢true e)

range_digit : (b : ℕ) → 48 ≤ b → b ≤ 57 → is_digit (byte_kind b) ≡ true
range_digit b l h = ap is_digit (inv (in_range 48 10 digit tt b l (omega arith) (λ z. omega arith) (λ z. omega arith) (λ z. omega arith)))

-- one digit more behind
value_last : (w : Word) (v b : ℕ) → value_from v (w ++ (b ∷ [])) ≡ 10 * value_from v w + (b - 48)
value_last [] v b = refl
value_last (c ∷ w) v b = value_last w (10 * v + (c - 48)) b

all_last : (w : Word) (b : ℕ) → all_digits w ≡ true → is_digit (byte_kind b) ≡ true → all_digits (w ++ (b ∷ [])) ≡ true
all_last [] b e f = ap (λ (t : Bool). t && true) f
all_last (c ∷ w) b e f = let x = and_both (is_digit (byte_kind c)) (all_digits w) e in ap₂ ◌&&◌ x.0 (all_last w b x.1 f)

-- of a number from 1 up: its first digit, which is no nought, and the digits behind it
pub record Leading (n : ℕ) : Type 0 where
  pub first : ℕ
  pub rest : Word
  pub is : digits n ≡ first ∷ rest
  pub low : 49 ≤ first
  pub high : first ≤ 57
  pub behind : all_digits rest ≡ true
  pub value_is : value (digits n) ≡ n

leading_within : (k n : ℕ) → n < k → 1 ≤ n → Leading n
leading_within zero n h l = absurd (omega arith)
leading_within (suc k) n h l = go (dec_lt n 10) (λ m a b. leading_within k m a b)
  where
    go : Dec (n < 10) → ((m : ℕ) → m < k → 1 ≤ m → Leading m) → Leading n
    go (yes s) again =
        let d = digits_one n s in
        record { first = 48 + n; rest = []; is = d; low = omega arith; high = omega arith; behind = refl; value_is = ap value d ∙ omega arith }
    go (no s) again =
        let a = again (n / 10) (omega arith) (omega arith) in
        let d : digits n ≡ digits (n / 10) ++ ((48 + n % 10) ∷ []) = digits_more n (omega arith) in
        record {
          first = a.first;
          rest = a.rest ++ ((48 + n % 10) ∷ []);
          is = d ∙ ap (λ (w : Word). w ++ ((48 + n % 10) ∷ [])) a.is;
          low = a.low;
          high = a.high;
          behind = all_last a.rest (48 + n % 10) a.behind (range_digit (48 + n % 10) (omega arith) (omega arith));
          value_is = ap value d ∙ value_last (digits (n / 10)) 0 (48 + n % 10) ∙ omega (arith, a.value_is);
        }

pub leading : (n : ℕ) → 1 ≤ n → Leading n
leading n l = leading_within (suc n) n (omega arith) l

pub value_digits : (n : ℕ) → 1 ≤ n → value (digits n) ≡ n
value_digits n l = (leading n l).value_is

-- no leading nought
pub digits_numeral : (n : ℕ) → 1 ≤ n → is_numeral (digits n) ≡ true
digits_numeral n l =
    let a = leading n l in
    ap is_numeral a.is
    ∙ ap₂ ◌&&◌ (ap₂ ◌&&◌ (range_digit a.first (omega (arith, a.low)) a.high) a.behind)
    (ap₂ (λ (s t : Bool). (s && same a.rest []) || not (t && true)) (ne_eqb a.first 48 (λ e. omega (arith, a.low))) (ne_eqb 48 a.first (λ e. omega (arith, a.low))))

-- at most four digits
digit_more : (d n : ℕ) → 10 ≤ n → length (digits (n / 10)) ≤ d → length (digits n) ≤ suc d
digit_more d n h l = omega (arith, ap length (digits_more n h), length-append (digits (n / 10)) ((48 + n % 10) ∷ []))

digit_one : (n : ℕ) → n < 10 → length (digits n) ≤ 1
digit_one n h = omega (arith, ap length (digits_one n h))

digits_within_lem : (d top : ℕ) → ((n : ℕ) → n < top → length (digits n) ≤ suc d) → (n : ℕ) → n < 10 * top → length (digits n) ≤ suc (suc d)
digits_within_lem d top low n h = go (dec_lt n 10)
  where
    go : Dec (n < 10) → length (digits n) ≤ suc (suc d)
    go (yes s) = omega (arith, digit_one n s)
    go (no s) = digit_more (suc d) n (omega arith) (low (n / 10) (omega arith))

pub digits_few : (n : ℕ) → n < 10000 → length (digits n) ≤ 4
digits_few n h = digits_within_lem 2 1000 (digits_within_lem 1 100 (digits_within_lem 0 10 digit_one)) n h

-- a numeral that does not begin with a nought, behind digits that come to v
digits_value_from : (w : Word) (v : ℕ) → 1 ≤ v → all_digits w ≡ true → digits (value_from v w) ≡ digits v ++ w
digits_value_from [] v l e = inv (append-nil (digits v))
digits_value_from (b ∷ w) v l e =
    let x = and_both (is_digit (byte_kind b)) (all_digits w) e in
    let r = digit_range b x.0 in
    let r0 = r.0 in
    let r1 = r.1 in
    let n = 10 * v + (b - 48) in
    let tens : n / 10 ≡ v = omega arith in
    let one : 48 + n % 10 ≡ b = omega arith in
    digits_value_from w n (omega arith) x.1
    ∙ ap (λ (u : Word). u ++ w) (digits_more n (omega arith) ∙ ap₂ (λ (m c : ℕ). digits m ++ (c ∷ [])) tens one)
    ∙ append_snoc (digits v) b w

numeral_parts : (b : ℕ) (u : Word) → is_numeral (b ∷ u) ≡ true → (is_digit (byte_kind b) ≡ true) × (all_digits u ≡ true) × (b ≡ 48 → u ≡ [])
numeral_parts b u e =
    let x = and_both (is_digit (byte_kind b) && all_digits u) _ e in
    let y = and_both (is_digit (byte_kind b)) (all_digits u) x.0 in
    (y.0, y.1, λ z. same_word u [] (nought (eqb b 48) (eqb 48 b) (same u []) (eq-eqb b 48 z) (eq-eqb 48 b (inv z)) x.1))
  where
    nought : (p q s : Bool) → p ≡ true → q ≡ true → ((p && s) || not (q && true)) ≡ true → s ≡ true
    nought true true true f g h = refl
    nought true true false f g h = absurd (false≢true h)
    nought true false s f g h = absurd (false≢true g)
    nought false q s f g h = absurd (false≢true f)

pub digits_value : (w : Word) → is_numeral w ≡ true → 1 ≤ value w → digits (value w) ≡ w
digits_value [] e l = absurd (false≢true e)
digits_value (b ∷ u) e l = go (ℕ_discrete b 48)
  where
    parts : (is_digit (byte_kind b) ≡ true) × (all_digits u ≡ true) × (b ≡ 48 → u ≡ [])
    parts = numeral_parts b u e

    go : Dec (b ≡ 48) → digits (value (b ∷ u)) ≡ b ∷ u
    go (yes z) = absurd (let n : value (b ∷ u) ≡ 0 = ap₂ (λ (c : ℕ) (w : Word). value (c ∷ w)) z (parts.2 z) in omega arith)
    go (no z) =
        let r = digit_range b parts.0 in
        let r0 = r.0 in
        let r1 = r.1 in
        let v = 10 * 0 + (b - 48) in
        let d : digits v ≡ b ∷ [] = digits_one v (omega arith) ∙ ap (λ (c : ℕ). c ∷ []) (omega arith) in
        digits_value_from u v (omega arith) parts.1 ∙ ap (λ (w : Word). w ++ u) d

-- four digits come to less than 10,000
value_next : (b v : ℕ) (w : Word) (top all-top : ℕ) → all_digits (b ∷ w) ≡ true → v < top → ((u : ℕ) → u < 10 * top → all_digits w ≡ true → value_from u w < all-top) → value_from v (b ∷ w) < all-top
value_next b v w top all-top e h next =
    let x = and_both (is_digit (byte_kind b)) (all_digits w) e in
    let r = digit_range b x.0 in
    let r0 = r.0 in
    let r1 = r.1 in
    next (10 * v + (b - 48)) (omega arith) x.1

value_small : (w : Word) → length w ≤ 4 → all_digits w ≡ true → value w < 10000
value_small [] h e = omega arith
value_small (a ∷ []) h e = value_next a 0 [] 1 10000 e (omega arith) (λ u k f. omega arith)
value_small (a ∷ (b ∷ [])) h e = value_next a 0 (b ∷ []) 1 10000 e (omega arith) (λ u k f. value_next b u [] 10 10000 f k (λ u k f. omega arith))
value_small (a ∷ (b ∷ (c ∷ []))) h e =
    value_next a 0 (b ∷ (c ∷ [])) 1 10000 e (omega arith) (λ u k f. value_next b u (c ∷ []) 10 10000 f k (λ u k f. value_next c u [] 100 10000 f k (λ u k f. omega arith)))
value_small (a ∷ (b ∷ (c ∷ (d ∷ [])))) h e =
    value_next a 0 (b ∷ (c ∷ (d ∷ []))) 1 10000 e (omega arith) (λ u k f.
    value_next b u (c ∷ (d ∷ [])) 10 10000 f k (λ u k f. value_next c u (d ∷ []) 100 10000 f k (λ u k f. value_next d u [] 1000 10000 f k (λ u k f. omega arith))))
value_small (a ∷ (b ∷ (c ∷ (d ∷ (g ∷ w))))) h e = absurd (omega arith)

pub value_few : (w : Word) → is_numeral w ≡ true → length w ≤ 4 → value w < 10000
value_few [] e h = absurd (false≢true e)
value_few (b ∷ u) e h = let p = numeral_parts b u e in value_small (b ∷ u) h (ap₂ ◌&&◌ p.0 p.1)
