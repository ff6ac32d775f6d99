-- A numeral read again from the text: its value, from the offset of its token.
use Prim.Native.Nat.{ℕ, zero, suc, ◌+◌, ◌-◌, ◌*◌, ◌≤◌, ◌<◌}
use mathlib.Core.Path.{◌≡◌, refl, ap, ◌∙◌, sym}
use mathlib.Core.Bool.{Bool, true, false, cond, ◌||◌, true≢false, false≢true}
use mathlib.Core.List.{List, [], ◌∷◌, ◌++◌}
use native.Mathlib.Omega.{arith}
use native.Mathlib.Numerals.{add-one}
use lib.Dec.{leb, ltb, eqb}
use lib.ListN.{length, take, drop, get_or, length-drop, drop_of_length-le, take-append-drop, get_or-eq_default}
use lib.Seq.{drop-cons, get_or-drop, take-nil}
use borrow.Author.Tests.{ltb-true, ltb-false, le-ltb, lt-leb, leb-true}
use Rattle.expressions.proofs.Tests.{and_both}
use Rattle.language.specs.Bytes.{Byte, blank, bracket, digit, letter, mark, outside, byte_kind, is_digit, in_word, within}
use Rattle.language.specs.Words.{Word, all, fits, broken, long, is_numeral, numeral_fit, value_from, value}
use Rattle.words.specs.Twins.Cutting.{piece_end, word_at}
use Rattle.job_checker.specs.Twins.JobStored.{numeral_from}
use Rattle.syntax.proofs.CheckLaws.{ahead_in}
use Rattle.words.proofs.CutByIndex.{end_ahead, end_stops}
use Rattle.words.proofs.Ranges.{in_range}

-- digits
digit_range : (b : ℕ) → is_digit (byte_kind b) ≡ true → (48 ≤ b) × (b ≤ 57)
digit_range b e = let x = and_both (leb 48 b) (leb b 57) (third (eqb b 32 || within 9 10 b) (within 40 41 b || eqb b 91 || eqb b 93) (within 48 57 b) (within 65 90 b || within 97 122 b) (within 32 126 b) e) in (leb-true 48 b x.0, leb-true b 57 x.1)
  where
    third : (p q r s t : Bool) → is_digit (cond p blank (cond q bracket (cond r digit (cond s letter (cond t mark outside))))) ≡ true → r ≡ true
    third true q r s t e = absurd (false≢true e)
    third false true r s t e = absurd (false≢true e)
    third false false true s t e = refl
    third false false false true t e = absurd (false≢true e)
    third false false false false true e = absurd (false≢true e)
    third false false false false false e = absurd (false≢true e)

digit_word : (k : Byte) → is_digit k ≡ true → in_word k ≡ true
digit_word blank e = absurd (false≢true e)
digit_word bracket e = absurd (false≢true e)
digit_word digit e = refl
digit_word letter e = absurd (false≢true e)
digit_word mark e = absurd (false≢true e)
digit_word outside e = absurd (false≢true e)

-- a byte that ends a numeral
abbrev stop : ℕ → Bool
stop b = ltb b 48 || ltb 57 b

stop_word : (b : ℕ) → in_word (byte_kind b) ≡ false → stop b ≡ true
stop_word b e = go (ltb b 48) refl (ltb 57 b) refl
  where
    go : (p : Bool) → ltb b 48 ≡ p → (q : Bool) → ltb 57 b ≡ q → (p || q) ≡ true
    go true x q y = refl
    go false x true y = refl
    go false x false y =
        let l = ltb-false b 48 x in let m = ltb-false 57 b y in
        let k = in_range 48 10 digit tt b l (omega arith) (λ z. omega arith) (λ z. omega arith) (λ z. omega arith) in
        absurd (true≢false (ap in_word k ∙ e))

-- what d digits come to is less
top : ℕ → ℕ
top zero = 1
top (suc d) = 10 * top d

top_six : (d : ℕ) → d ≤ 6 → top d ≤ 1000000
unfolding top
top_six zero h = omega arith
top_six (suc zero) h = omega arith
top_six (suc (suc zero)) h = omega arith
top_six (suc (suc (suc zero))) h = omega arith
top_six (suc (suc (suc (suc zero)))) h = omega arith
top_six (suc (suc (suc (suc (suc zero))))) h = omega arith
top_six (suc (suc (suc (suc (suc (suc zero)))))) h = omega arith
top_six (suc (suc (suc (suc (suc (suc (suc d))))))) h = let z : ⊥ = omega arith in absurd z

module _ (text : List ℕ) where
  here : (i : ℕ) (us : List ℕ) → drop i text ≡ us → get_or text i 0 ≡ get_or us 0 0
  here i us e = let n : i + 0 ≡ i = omega arith in ap (λ k. get_or text k 0) (sym n) ∙ sym (get_or-drop i text 0 0) ∙ ap (λ l. get_or l 0 0) e

  stopped : (i v again : ℕ) → stop (get_or text i 0) ≡ true → cond (ltb (get_or text i 0) 48) v (cond (ltb 57 (get_or text i 0)) v again) ≡ v
  stopped i v again e = go (ltb (get_or text i 0) 48) (ltb 57 (get_or text i 0)) e
    where
      go : (p q : Bool) → (p || q) ≡ true → cond p v (cond q v again) ≡ v
      go true q e = refl
      go false true e = refl
      go false false e = absurd (false≢true e)

  -- the digits w from i on, behind d that come to v
  digits_from : (w rest : List ℕ) (left i v d : ℕ) → drop i text ≡ w ++ rest → stop (get_or rest 0 0) ≡ true → all (λ b. is_digit (byte_kind b)) w ≡ true → length w ≤ left → d + length w ≤ 7 → v < top d →
      numeral_from text left i v ≡ value_from v w
  unfolding numeral_from
  digits_from [] rest zero i v d e s a l m t = refl
  digits_from [] rest (suc left) i v d e s a l m t = stopped i v _ (ap stop (here i rest e) ∙ s)
  digits_from (b ∷ w) rest zero i v d e s a l m t = let z : ⊥ = omega arith in absurd z
  digits_from (b ∷ w) rest (suc left) i v d e s a l m t =
      let x = and_both (is_digit (byte_kind b)) (all (λ b. is_digit (byte_kind b)) w) a in
      let r = digit_range b x.0 in let r0 = r.0 in let r1 = r.1 in
      let g : get_or text i 0 ≡ b = here i (b ∷ (w ++ rest)) e in
      let k = top_six d (omega arith) in
      let n = length-drop i text in let n1 = ap length e in
      let h : i < length text = omega arith in
      let tail : drop (i + 1) text ≡ w ++ rest = ap (λ n. drop n text) (add-one i) ∙ tails (sym (drop-cons text i 0 h) ∙ e) in
      rw (g, le-ltb b 48 r0, le-ltb 57 b r1, lt-leb 1000000 v (omega arith), ahead_in (length text) 1 i (omega arith))
      (digits_from w rest left (i + 1) (10 * v + (b - 48)) (suc d) tail s x.1 (omega arith) (omega arith) (unfold top in (omega arith)))
    where
      tails : {a b : ℕ} {us vs : List ℕ} → (a ∷ us) ≡ (b ∷ vs) → us ≡ vs
      tails e = cc

  -- a numeral that fits, at o
  module _ (o : ℕ) where
    -- what follows the word at o
    abbrev behind : List ℕ
    behind = drop (piece_end text o - o) (drop o text)

    word_split : drop o text ≡ word_at text o ++ behind
    unfolding word_at
    word_split = sym (take-append-drop (piece_end text o - o) (drop o text))

    word_behind : length text ≤ o → word_at text o ≡ []
    unfolding word_at
    word_behind h = ap (take (piece_end text o - o)) (drop_of_length-le text h) ∙ take-nil (piece_end text o - o)

    behind_stops : o < length text → is_digit (byte_kind (get_or text o 0)) ≡ true → stop (get_or behind 0 0) ≡ true
    behind_stops h d = ap stop (get_or-drop (piece_end text o - o) (drop o text) 0 0 ∙ get_or-drop o text (piece_end text o - o + 0) 0 ∙ ap (λ n. get_or text n 0) at_end_lem) ∙ go (ltb (piece_end text o) (length text)) refl
      where
        at_end_lem : o + (piece_end text o - o + 0) ≡ piece_end text o
        at_end_lem = let l = end_ahead text o h in omega arith

        go : (b : Bool) → ltb (piece_end text o) (length text) ≡ b → stop (get_or text (piece_end text o) 0) ≡ true
        go true e = stop_word (get_or text (piece_end text o) 0) (end_stops text o h (digit_word (byte_kind (get_or text o 0)) d) (ltb-true (piece_end text o) (length text) e))
        go false e = ap stop (get_or-eq_default text 0 (ltb-false (piece_end text o) (length text) e))

    pub numeral_read : numeral_fit (word_at text o) ≡ fits → numeral_from text 7 o 0 ≡ value (word_at text o)
    unfolding top
    numeral_read e = go (word_at text o) refl e
      where
        passed : (p q : Bool) → cond p (cond q fits long) broken ≡ fits → (p ≡ true) × (q ≡ true)
        passed true true e = (refl, refl)
        passed true false e = let z : ◌≡◌ {A = ℕ} 0 1 = cc in let n : ⊥ = omega arith in absurd n
        passed false q e = let z : ◌≡◌ {A = ℕ} 0 1 = cc in let n : ⊥ = omega arith in absurd n

        go : (w : Word) → word_at text o ≡ w → numeral_fit w ≡ fits → numeral_from text 7 o 0 ≡ value w
        go [] x f = let z : ◌≡◌ {A = ℕ} 0 1 = cc in let n : ⊥ = omega arith in absurd n
        go (b ∷ w) x f =
            let p = passed (is_numeral (b ∷ w)) (leb (length (b ∷ w)) 7) f in
            let d = (and_both (all (λ b. is_digit (byte_kind b)) (b ∷ w)) _ p.0).0 in
            let split : drop o text ≡ (b ∷ w) ++ behind = word_split ∙ ap (λ v. v ++ behind) x in
            let g : get_or text o 0 ≡ b = here o ((b ∷ w) ++ behind) split in
            let n = length-drop o text in let n1 = ap length split in
            let h : o < length text = omega arith in
            let first : is_digit (byte_kind (get_or text o 0)) ≡ true = ap (λ c. is_digit (byte_kind c)) g ∙ (and_both (is_digit (byte_kind b)) _ d).0 in
            let few = leb-true (length (b ∷ w)) 7 p.1 in
            digits_from (b ∷ w) behind 7 o 0 0 split (behind_stops h first) d few (omega arith) (omega arith)
