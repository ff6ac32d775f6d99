-- Reading over cells answers what reading the text comes to, where the reader and the check over the cells do (`text_answer`).
use Prim.Native.Nat.{ℕ, suc, ◌+◌, ◌-◌, ◌≤◌}
use mathlib.Core.Path.{◌≡◌, refl, ap, ap₂, ◌∙◌, sym}
use mathlib.Core.Bool.{Bool, true, false, cond, not}
use mathlib.Core.List.{List, [], ◌∷◌}
use mathlib.Core.Option.{none, some}
use native.Mathlib.Omega.{arith}
use native.Mathlib.Numerals.{add-one}
use lib.Dec.{leb, ltb}
use lib.ListN.{length}
use borrow.Author.Tests.{lt-ltb, le-ltb, leb-true}
use Rattle.language.specs.Bytes.{byte_kind, is_outside, outside_from, unless, ◌or_else◌, bytes_verdict}
use Rattle.language.specs.Bytes as bytes
use Rattle.language.specs.Words.{Word}
use Rattle.language.specs.Tokens.{Text, Token, tokens}
use Rattle.language.specs.Reader.{Res, ok, refused, refuse, and_then, unless_fault, Reader}
use Rattle.language.specs.Reading.{read_text}
use Rattle.refusals.specs.declared.refusal.Refusal.{Refusal}
use Rattle.std.specs.Prelude.{Result, Ok, Err}
use Rattle.refusals.specs.Faults.{fault}
use Rattle.verdicts.specs.Twins.Found.{Verdict}
use Rattle.grammar.specs.Twins.Positions.{on_past}
use Rattle.words.specs.Twins.Cutting.{scan, outside_at, sound_at, short_at, bytes_at}
use Rattle.syntax.specs.Twins.ReadAnswer.{verdict_got, answer, res_got, bytes_got}
use Rattle.syntax.proofs.Tracks.{got_of}
use Rattle.syntax.proofs.CheckLaws.{coded}

-- the first byte outside the set
abbrev sound : ℕ → Bool
sound b = not (is_outside (byte_kind b))

outside_from_lem : (o : ℕ) (bs : List ℕ) → sound_at (ltb (scan sound o bs) (o + length bs)) (scan sound o bs) ≡ bytes_got (outside_from o bs) (o + length bs)
unfolding scan
outside_from_lem o [] = ap (λ b. sound_at b o) (le-ltb o (o + 0) (omega arith)) ∙ ap Ok (omega arith)
outside_from_lem o (b ∷ bs) = go (is_outside (byte_kind b)) (outside_from_lem (suc o) bs)
  where
    go : (t : Bool) → sound_at (ltb (scan sound (suc o) bs) (suc o + length bs)) (scan sound (suc o) bs) ≡ bytes_got (outside_from (suc o) bs) (suc o + length bs) →
        sound_at (ltb (cond (not t) (scan sound (o + 1) bs) o) (o + suc (length bs))) (cond (not t) (scan sound (o + 1) bs) o) ≡ bytes_got (cond t (bytes.fault 2 o) (outside_from (suc o) bs)) (o + suc (length bs))
    go true again = ap (λ b. sound_at b o) (lt-ltb o (o + suc (length bs)) (omega arith))
    go false again = let n : o + suc (length bs) ≡ suc o + length bs = omega arith in rw (n, add-one o) again

-- refusals 1 and 2
pub bytes_found : (limit : ℕ) (bs : List ℕ) → bytes_at limit bs ≡ bytes_got (bytes_verdict limit bs) (length bs)
bytes_found limit bs = go (leb (length bs) limit)
  where
    z : 0 + length bs ≡ length bs
    z = omega arith

    go : (b : Bool) → short_at b limit bs ≡ bytes_got (unless b 1 limit or_else outside_from 0 bs) (length bs)
    go true = ap (λ n. sound_at (ltb (outside_at bs) n) (outside_at bs)) (sym z) ∙ outside_from_lem 0 bs ∙ ap (bytes_got (outside_from 0 bs)) z
    go false = refl

-- a text that passes is short
passes_short : (limit : ℕ) (bs : List ℕ) → bytes_verdict limit bs ≡ none → length bs ≤ limit
passes_short limit bs e = go (leb (length bs) limit) refl e
  where
    go : (b : Bool) → leb (length bs) limit ≡ b → (unless b 1 limit or_else outside_from 0 bs) ≡ none → length bs ≤ limit
    go true x z = leb-true (length bs) limit x
    go false x z = let y : ◌≡◌ {A = ℕ} 0 1 = cc in let n : ⊥ = omega arith in absurd n

pub past_short : (limit : ℕ) (bs : List ℕ) (i : ℕ) → bytes_at limit bs ≡ Ok i → bytes_verdict limit bs ≡ none
past_short limit bs i e = go (bytes_verdict limit bs) (sym (bytes_found limit bs) ∙ e)
  where
    go : (v : bytes.Verdict) → bytes_got v (length bs) ≡ Ok i → v ≡ none
    go none z = refl
    go (some r) z = let y : ◌≡◌ {A = ℕ} 0 1 = cc in let n : ⊥ = omega arith in absurd n

module _ {A : Type 0} (text : Text) (limit : ℕ) (reader : Reader A) (check : A → bytes.Verdict) (before : List Word) (bs : List ℕ) where
  abbrev ts : List Token
  ts = tokens text before bs

  -- refused for its bytes
  pub text_refused : (f : Refusal) → bytes_at limit bs ≡ Err f → read_text text limit reader check before bs ≡ refuse f.number f.offset
  text_refused f e = go (bytes_verdict limit bs) (sym (bytes_found limit bs) ∙ e)
    where
      same : (r : bytes.Refusal) → ◌≡◌ {A = Result ℕ Refusal} (fault r.number r.at) (Err f) → ◌≡◌ {A = Res A} (refused r) (refuse f.number f.offset)
      same r z = let x : r.number ≡ f.number = cc in let y : r.at ≡ f.offset = cc in ap₂ (λ n o. refuse n o) x y

      go : (v : bytes.Verdict) → bytes_got v (length bs) ≡ Err f → and_then (unless_fault v bs) (λ bs. and_then (reader (tokens text before bs)) (λ r. unless_fault (check r.0) r.0)) ≡ refuse f.number f.offset
      go none z = let y : ◌≡◌ {A = ℕ} 0 1 = cc in let n : ⊥ = omega arith in absurd n
      go (some r) z = same r z

  -- read and checked are what the reader and the check over the cells come to, of a text whose bytes pass
  module _ (read : Result ℕ Refusal) (checked : Verdict) (reads : length bs ≤ limit → read ≡ got_of ts (reader ts)) (checks : length bs ≤ limit → (a : A) (rest : List Token) → reader ts ≡ ok (a, rest) → checked ≡ coded (check a)) where
    -- what is behind the bytes; n is the number that an accepted text has
    abbrev Judged : (ℕ → ℕ) → Type 0
    Judged n = (k : ℕ) × (on_past (λ i. verdict_got checked (n i)) read ≡ res_got (and_then (reader ts) (λ r. unless_fault (check r.0) r.0)) (n k))

    check_answer : (n : ℕ) (a : A) → checked ≡ coded (check a) → verdict_got checked n ≡ res_got (unless_fault (check a) a) n
    check_answer n a e = ap (λ v. verdict_got v n) e ∙ go (check a)
      where
        go : (v : bytes.Verdict) → verdict_got (coded v) n ≡ res_got (unless_fault v a) n
        go none = refl
        go (some r) = refl

    judged : length bs ≤ limit → (n : ℕ → ℕ) → Judged n
    judged l n = go (reader ts) refl
      where
        go : (r : Res (A × List Token)) → reader ts ≡ r → (k : ℕ) × (on_past (λ i. verdict_got checked (n i)) read ≡ res_got (and_then r (λ r. unless_fault (check r.0) r.0)) (n k))
        go (ok r) z = (length ts - length r.1, ap (on_past (λ i. verdict_got checked (n i))) (reads l ∙ ap (got_of ts) z) ∙ check_answer (n (length ts - length r.1)) r.0 (checks l r.0 r.1 z))
        go (refused r) z = (0, ap (on_past (λ i. verdict_got checked (n i))) (reads l ∙ ap (got_of ts) z))

    -- a text whose bytes pass: the index that an accepted one has is that of its end
    pub text_judged : (i : ℕ) → bytes_at limit bs ≡ Ok i → (k : ℕ) × (on_past (verdict_got checked) read ≡ res_got (read_text text limit reader check before bs) k)
    text_judged i e =
        let p = past_short limit bs i e in
        let j = judged (passes_short limit bs p) (λ k. k) in
        (j.0, j.1 ∙ ap (λ v. res_got (and_then (unless_fault v bs) (λ bs. and_then (reader (tokens text before bs)) (λ r. unless_fault (check r.0) r.0))) j.0) (sym p))

    -- the whole: bytes, reader and check
    pub text_answer : (n : ℕ) → answer n (bytes_at limit bs) read checked ≡ res_got (read_text text limit reader check before bs) n
    text_answer n = ap (λ g. answer n g read checked) (bytes_found limit bs) ∙ go (bytes_verdict limit bs) refl
      where
        go : (v : bytes.Verdict) → bytes_verdict limit bs ≡ v → answer n (bytes_got v (length bs)) read checked ≡
            res_got (and_then (unless_fault v bs) (λ bs. and_then (reader (tokens text before bs)) (λ r. unless_fault (check r.0) r.0))) n
        go none z = (judged (passes_short limit bs z) (λ k. n)).1
        go (some r) z = refl

-- what is read as a has short bytes, is read by the reader and passes the check
pub record Accepted {A : Type 0} (text : Text) (limit : ℕ) (reader : Reader A) (check : A → bytes.Verdict) (before : List Word) (bs : List ℕ) (a : A) : Type 0 where
  pub short : length bs ≤ limit
  pub rest : List Token
  pub read : reader (tokens text before bs) ≡ ok (a, rest)
  pub checked : check a ≡ none

refused_ok : {A B : Type 0} (r : bytes.Refusal) (a : A) → refused r ≡ ok a → B
refused_ok r a e = let z : ◌≡◌ {A = ℕ} 0 1 = cc in let n : ⊥ = omega arith in absurd n

module _ {A : Type 0} (text : Text) (limit : ℕ) (reader : Reader A) (check : A → bytes.Verdict) (before : List Word) (bs : List ℕ) (a : A) where
  pub text_accepted : read_text text limit reader check before bs ≡ ok a → Accepted text limit reader check before bs a
  text_accepted e = found (bytes_verdict limit bs) refl e
    where
      ok_same : (b c : A) → ok b ≡ ok c → b ≡ c
      ok_same b c e = cc

      judged : length bs ≤ limit → (r : A × List Token) → reader (tokens text before bs) ≡ ok r → (v : bytes.Verdict) → check r.0 ≡ v → unless_fault v r.0 ≡ ok a → Accepted text limit reader check before bs a
      judged l r x none y z = let i = ok_same r.0 a z in record { short = l; rest = r.1; read = x ∙ ap (λ b. ok (b, r.1)) i; checked = ap check (sym i) ∙ y }
      judged l r x (some f) y z = refused_ok f a z

      read : length bs ≤ limit → (r : Res (A × List Token)) → reader (tokens text before bs) ≡ r → and_then r (λ r. unless_fault (check r.0) r.0) ≡ ok a → Accepted text limit reader check before bs a
      read l (ok r) x z = judged l r x (check r.0) refl z
      read l (refused f) x z = refused_ok f a z

      found : (v : bytes.Verdict) → bytes_verdict limit bs ≡ v → and_then (unless_fault v bs) (λ bs. and_then (reader (tokens text before bs)) (λ r. unless_fault (check r.0) r.0)) ≡ ok a → Accepted text limit reader check before bs a
      found none x z = read (passes_short limit bs x) (reader (tokens text before bs)) refl z
      found (some f) x z = refused_ok f a z
