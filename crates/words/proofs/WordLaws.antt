-- Laws of words judged by index.
use Prim.Native.Nat.{ℕ, suc, ◌+◌, ◌-◌, ◌*◌, ◌/◌, ◌%◌, ◌≤◌, ◌<◌}
use mathlib.Core.Path.{◌≡◌, refl, ap, ◌∙◌, sym}
use mathlib.Core.Bool.{Bool, true, false, cond, ◌&&◌, ◌||◌, not}
use mathlib.Core.List.{List, [], ◌∷◌}
use native.Mathlib.Omega.{arith}
use native.Mathlib.Numerals.{add-one}
use native.Mathlib.Nat.{mod-mod, mod-eq_of_lt, mod-add-div, add-mul-mod_self_left}
use lib.Dec.{eqb, leb}
use borrow.Author.Tests.{eq-eqb, ne_eqb, le-leb, lt-leb, eqb-true, eqb-false}
use lib.ListN.{length, drop, get_or, length-drop, drop_of_length-le}
use lib.Seq.{drop-cons, get_or-drop}
use Rattle.language.specs.Bytes.{byte_kind, in_name, is_digit, within}
use Rattle.language.specs.Words.{Word, same, begins, all, fits, broken, long, name_fit, is_numeral, numeral_fit, number_fit, value_from, value}
use Rattle.words.specs.Twins.Cutting.{scan, scan_at}
use Rattle.words.specs.Twins.Judged.{value_cell, hash_from}

-- comparing
pub begins_on : (v w : Word) (i : ℕ) → i < length v → i < length w → get_or v i 0 ≡ get_or w i 0 → begins (drop i v) (drop i w) ≡ begins (drop (i + 1) v) (drop (i + 1) w)
begins_on v w i h k e = rw (add-one i, drop-cons v i 0, drop-cons w i 0, eq-eqb (get_or v i 0) (get_or w i 0) e)

pub begins_not : (v w : Word) (i : ℕ) → i < length v → i < length w → (get_or v i 0 ≡ get_or w i 0 → ⊥) → begins (drop i v) (drop i w) ≡ false
begins_not v w i h k e = rw (drop-cons v i 0, drop-cons w i 0, ne_eqb (get_or v i 0) (get_or w i 0) e)

pub begins_short : (v w : Word) (i : ℕ) → i < length v → length w ≤ i → begins (drop i v) (drop i w) ≡ false
begins_short v w i h k = rw (drop-cons v i 0, drop_of_length-le w k)

pub begins_end : (v w : Word) (i : ℕ) → length v ≤ i → begins (drop i v) (drop i w) ≡ true
begins_end v w i h = rw (drop_of_length-le v h)

pub same_long : (v w : Word) → length v ≡ length w → same v w ≡ begins v w
same_long [] [] e = refl
same_long [] (c ∷ w) e = let z : ⊥ = omega arith in absurd z
same_long (b ∷ v) [] e = let z : ⊥ = omega arith in absurd z
same_long (b ∷ v) (c ∷ w) e = ap (λ x. eqb b c && x) (same_long v w (omega arith))

and_false : (a : Bool) → (a && false) ≡ false
and_false true = refl
and_false false = refl

pub same_unlike : (v w : Word) → (length v ≡ length w → ⊥) → same v w ≡ false
same_unlike [] [] e = absurd (e refl)
same_unlike [] (c ∷ w) e = refl
same_unlike (b ∷ v) [] e = refl
same_unlike (b ∷ v) (c ∷ w) e = ap (λ x. eqb b c && x) (same_unlike v w (λ z. e (ap suc z))) ∙ and_false (eqb b c)

-- a scan that reaches the end has found nothing
module _ (f : ℕ → Bool) where
  scan_least : (o : ℕ) (bs : List ℕ) → o ≤ scan f o bs
  unfolding scan
  scan_least o [] = omega arith
  scan_least o (b ∷ bs) = go (f b) (scan_least (o + 1) bs)
    where
      go : (t : Bool) → o + 1 ≤ scan f (o + 1) bs → o ≤ cond t (scan f (o + 1) bs) o
      go true h = omega arith
      go false h = omega arith

  all_short : (o : ℕ) (bs : List ℕ) → scan f o bs < o + length bs → all f bs ≡ false
  unfolding scan
  all_short o [] h = let z : ⊥ = omega arith in absurd z
  all_short o (b ∷ bs) h = go (f b) h (all_short (o + 1) bs)
    where
      go : (t : Bool) → cond t (scan f (o + 1) bs) o < o + suc (length bs) → (scan f (o + 1) bs < (o + 1) + length bs → all f bs ≡ false) → (t && all f bs) ≡ false
      go true h k = k (omega arith)
      go false h k = refl

  all_whole : (o : ℕ) (bs : List ℕ) → o + length bs ≤ scan f o bs → all f bs ≡ true
  unfolding scan
  all_whole o [] h = refl
  all_whole o (b ∷ bs) h = go (f b) h (all_whole (o + 1) bs)
    where
      go : (t : Bool) → o + suc (length bs) ≤ cond t (scan f (o + 1) bs) o → ((o + 1) + length bs ≤ scan f (o + 1) bs → all f bs ≡ true) → (t && all f bs) ≡ true
      go true h k = k (omega arith)
      go false h k = let z : ⊥ = omega arith in absurd z

  pub scanned_short : (s : List ℕ) (i : ℕ) → i < length s → scan_at f s i < length s → all f (drop i s) ≡ false
  scanned_short s i l h = let k = length-drop i s in all_short i (drop i s) (omega arith)

  pub scanned_whole : (s : List ℕ) (i : ℕ) → i < length s → length s ≤ scan_at f s i → all f (drop i s) ≡ true
  scanned_whole s i l h = let k = length-drop i s in all_whole i (drop i s) (omega arith)

-- names
module _ (s : Word) (i : ℕ) where
  pub name_none : length s ≤ i → name_fit (drop i s) ≡ broken
  name_none h = rw (drop_of_length-le s h)

  pub name_broken : i < length s → scan_at (λ b. in_name (byte_kind b)) s i < length s → name_fit (drop i s) ≡ broken
  name_broken l h = go (drop i s) (scanned_short (λ b. in_name (byte_kind b)) s i l h)
    where
      go : (w : Word) → all (λ b. in_name (byte_kind b)) w ≡ false → name_fit w ≡ broken
      go [] e = refl
      go (b ∷ w) e = ap (λ t. cond t (cond (leb (length (b ∷ w)) 16) fits long) broken) e

  pub name_whole : i < length s → length s ≤ scan_at (λ b. in_name (byte_kind b)) s i → name_fit (drop i s) ≡ cond (leb (length s - i) 16) fits long
  name_whole l h = go (drop i s) (omega (arith, length-drop i s)) (scanned_whole (λ b. in_name (byte_kind b)) s i l h) ∙ ap (λ n. cond (leb n 16) fits long) (length-drop i s)
    where
      go : (w : Word) → 0 < length w → all (λ b. in_name (byte_kind b)) w ≡ true → name_fit w ≡ cond (leb (length w) 16) fits long
      go [] k e = let z : ⊥ = omega arith in absurd z
      go (b ∷ w) k e = ap (λ t. cond t (cond (leb (length (b ∷ w)) 16) fits long) broken) e

  -- numerals
  pub numeral_none : length s ≤ i → is_numeral (drop i s) ≡ false
  numeral_none h = rw (drop_of_length-le s h)

  pub numeral_broken : i < length s → scan_at (λ b. is_digit (byte_kind b)) s i < length s → is_numeral (drop i s) ≡ false
  numeral_broken l h = go (drop i s) (scanned_short (λ b. is_digit (byte_kind b)) s i l h)
    where
      go : (w : Word) → all (λ b. is_digit (byte_kind b)) w ≡ false → is_numeral w ≡ false
      go [] e = refl
      go (b ∷ w) e = ap (λ t. t && (same (b ∷ w) (48 ∷ []) || not (begins (48 ∷ []) (b ∷ w)))) e

  -- the digits are sound: only a nought in front of others is wrong
  abbrev Digits : Type 0
  Digits = length s ≤ scan_at (λ b. is_digit (byte_kind b)) s i

  pub numeral_one : i < length s → Digits → length s - i ≡ 1 → is_numeral (drop i s) ≡ true
  numeral_one l h n = go (drop i s) (length-drop i s ∙ n) (scanned_whole (λ b. is_digit (byte_kind b)) s i l h)
    where
      one : (b : ℕ) (t : Bool) → eqb b 48 ≡ t → ((t && true) || not (eqb 48 b && true)) ≡ true
      one b true e = refl
      one b false e = ap (λ t. not (t && true)) (ne_eqb 48 b (λ z. eqb-false b 48 e (sym z)))

      go : (w : Word) → length w ≡ 1 → all (λ b. is_digit (byte_kind b)) w ≡ true → is_numeral w ≡ true
      go [] n e = let z : ⊥ = omega arith in absurd z
      go (b ∷ []) n e = ap (λ t. t && (same (b ∷ []) (48 ∷ []) || not (begins (48 ∷ []) (b ∷ [])))) e ∙ one b (eqb b 48) refl
      go (b ∷ c ∷ w) n e = let z : ⊥ = omega arith in absurd z

  numeral_more : i < length s → Digits → (length s - i ≡ 1 → ⊥) → is_numeral (drop i s) ≡ not (eqb 48 (get_or s i 0))
  numeral_more l h n =
      let first : get_or (drop i s) 0 0 ≡ get_or s i 0 = rw get_or-drop (ap (λ n. get_or s n 0) (omega arith)) in
      go (drop i s) (omega (arith, length-drop i s)) (λ z. n (sym (length-drop i s) ∙ z)) (scanned_whole (λ b. is_digit (byte_kind b)) s i l h)
      ∙ ap (λ b. not (eqb 48 b)) first
    where
      and_true : (a : Bool) → (a && true) ≡ a
      and_true true = refl
      and_true false = refl

      go : (w : Word) → 0 < length w → (length w ≡ 1 → ⊥) → all (λ b. is_digit (byte_kind b)) w ≡ true → is_numeral w ≡ not (eqb 48 (get_or w 0 0))
      go [] k n e = let z : ⊥ = omega arith in absurd z
      go (b ∷ []) k n e = absurd (n refl)
      go (b ∷ c ∷ w) k n e = ap (λ t. t && (same (b ∷ c ∷ w) (48 ∷ []) || not (begins (48 ∷ []) (b ∷ c ∷ w)))) e
          ∙ ap (λ t. t || not (eqb 48 b && true)) (and_false (eqb b 48)) ∙ ap not (and_true (eqb 48 b))

  numeral_nought : i < length s → Digits → (length s - i ≡ 1 → ⊥) → get_or s i 0 ≡ 48 → is_numeral (drop i s) ≡ false
  numeral_nought l h n e = numeral_more l h n ∙ ap not (eq-eqb 48 (get_or s i 0) (sym e))

  numeral_sound : i < length s → Digits → (length s - i ≡ 1 → ⊥) → (get_or s i 0 ≡ 48 → ⊥) → is_numeral (drop i s) ≡ true
  numeral_sound l h n e = numeral_more l h n ∙ ap not (ne_eqb 48 (get_or s i 0) (λ z. e (sym z)))

  -- "no leading noughts"
  pub numeral_last : i < length s → Digits → (length s - i ≡ 1 → ⊥) → is_numeral (drop i s) ≡ not (eqb (get_or s i 0) 48)
  numeral_last l h n = go (eqb (get_or s i 0) 48) refl
    where
      go : (t : Bool) → eqb (get_or s i 0) 48 ≡ t → is_numeral (drop i s) ≡ not t
      go true e = numeral_nought l h n (eqb-true (get_or s i 0) 48 e)
      go false e = numeral_sound l h n (eqb-false (get_or s i 0) 48 e)

-- values modulo 65,536
value_mod : (x : ℕ) (w : Word) → value_from (x % 65536) w % 65536 ≡ value_from x w % 65536
value_mod x [] = mod-mod x 65536
value_mod x (b ∷ w) = sym (value_mod (10 * (x % 65536) + (b - 48)) w) ∙ ap (λ n. value_from n w % 65536) (digit x (b - 48)) ∙ value_mod (10 * x + (b - 48)) w
  where
    digit : (x d : ℕ) → (10 * (x % 65536) + d) % 65536 ≡ (10 * x + d) % 65536
    digit x d = sym (add-mul-mod_self_left (10 * (x % 65536) + d) 65536 (10 * (x / 65536))) ∙ ap (λ n. n % 65536) (omega (arith, mod-add-div x 65536))

-- the value from i on, behind digits that come to v
abbrev pub value_in : Word → ℕ → ℕ → ℕ
value_in s i v = value_from v (drop i s) % 65536

pub value_on : (s : Word) (i v : ℕ) → i < length s → value_in s i v ≡ value_in s (i + 1) ((10 * v + (get_or s i 0 - 48)) % 65536)
value_on s i v h = rw (add-one i, drop-cons s i 0) (sym (value_mod (10 * v + (get_or s i 0 - 48)) (drop (suc i) s)))

pub value_end : (s : Word) (i v : ℕ) → length s ≤ i → v < 65536 → value_in s i v ≡ v
value_end s i v h l = rw (drop_of_length-le s h) (mod-eq_of_lt l)

-- three bytes come to less than 65,536
small : (w : Word) → length w ≤ 3 → ((k : ℕ) → get_or w k 0 < 256) → value_cell w ≡ value w
small [] l h = refl
small (a ∷ []) l h = let x = h 0 in mod-eq_of_lt {m = 65536} (omega arith)
small (a ∷ b ∷ []) l h = let x = h 0 in let y = h 1 in mod-eq_of_lt {m = 65536} (omega arith)
small (a ∷ b ∷ c ∷ []) l h = let x = h 0 in let y = h 1 in let z = h 2 in mod-eq_of_lt {m = 65536} (omega arith)
small (a ∷ b ∷ c ∷ d ∷ w) l h = let z : ⊥ = omega arith in absurd z

module _ (s : Word) (i : ℕ) where
  pub numeral_fits : is_numeral (drop i s) ≡ true → numeral_fit (drop i s) ≡ cond (leb (length s - i) 7) fits long
  numeral_fits e = ap (λ t. cond t (cond (leb (length (drop i s)) 7) fits long) broken) e ∙ ap (λ n. cond (leb n 7) fits long) (length-drop i s)

  pub numeral_unfit : is_numeral (drop i s) ≡ false → numeral_fit (drop i s) ≡ broken
  numeral_unfit e = ap (λ t. cond t (cond (leb (length (drop i s)) 7) fits long) broken) e

  pub number_unfit : is_numeral (drop i s) ≡ false → number_fit (drop i s) ≡ broken
  number_unfit e = ap (λ t. cond t (cond (leb (length (drop i s)) 3 && within 1 999 (value (drop i s))) fits long) broken) e

  number_numeral : is_numeral (drop i s) ≡ true → number_fit (drop i s) ≡ cond (leb (length s - i) 3 && within 1 999 (value (drop i s))) fits long
  number_numeral e = ap (λ t. cond t (cond (leb (length (drop i s)) 3 && within 1 999 (value (drop i s))) fits long) broken) e
      ∙ ap (λ n. cond (leb n 3 && within 1 999 (value (drop i s))) fits long) (length-drop i s)

  pub number_long : is_numeral (drop i s) ≡ true → 3 < length s - i → number_fit (drop i s) ≡ long
  number_long e l = number_numeral e ∙ ap (λ t. cond (t && within 1 999 (value (drop i s))) fits long) (lt-leb (length s - i) 3 l)

  pub number_short : is_numeral (drop i s) ≡ true → length s - i ≤ 3 → ((k : ℕ) → get_or s k 0 < 256) → number_fit (drop i s) ≡ cond (within 1 999 (value_cell (drop i s))) fits long
  number_short e l h = number_numeral e ∙ ap (λ t. cond (t && within 1 999 (value (drop i s))) fits long) (le-leb (length s - i) 3 l)
      ∙ ap (λ v. cond (within 1 999 v) fits long) (sym (small (drop i s) (omega (arith, length-drop i s)) (λ k. rw get_or-drop (h (i + k)))))

-- hashes
pub hash_on : (s : Word) (i h : ℕ) → i < length s → hash_from h (drop i s) ≡ hash_from ((31 * h + get_or s i 0) % 65536) (drop (i + 1) s)
hash_on s i h l = rw (add-one i, drop-cons s i 0)

pub hash_end : (s : Word) (i h : ℕ) → length s ≤ i → hash_from h (drop i s) ≡ h
hash_end s i h l = rw (drop_of_length-le s l)
