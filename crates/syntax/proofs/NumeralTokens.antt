-- The numerals of a job: each token that is one has the value that is read again from the text at its offset; and the number of a `?aK` is below 1,000.
use Prim.Native.Nat.{ℕ, zero, suc, ◌≤◌, ◌<◌}
use mathlib.Core.Path.{◌≡◌, refl, ap, subst, ◌∙◌, sym}
use mathlib.Core.Bool.{Bool, true, false, cond, false≢true}
use mathlib.Core.List.{List, [], ◌∷◌}
use native.Mathlib.Omega.{arith}
use lib.Dec.{leb, ltb}
use lib.ListN.{length, drop, get_or}
use borrow.Author.Tests.{leb-true, ltb-true, ltb-false}
use Rattle.expressions.proofs.Predicates.{All}
use Rattle.expressions.proofs.Tests.{and_both}
use Rattle.language.specs.Bytes.{within}
use Rattle.language.specs.Words.{Word, fits, broken, long, is_numeral, numeral_fit, number_fit, value}
use Rattle.language.specs.Tokens.{Piece, cut, Kind, symbol, ename, aname, evariable, avariable, plain, same_kind, kind_of, of_job, fit_of, num_of, fitting, symbols_of, names_of, Token, token, tokens_from, tokens}
use Rattle.language.specs.Reader.{is_a}
use Rattle.grammar.specs.Twins.Positions.{nothing}
use Rattle.words.specs.Twins.Cutting.{start_at, piece_end, word_at}
use Rattle.job_checker.specs.Twins.JobStored.{numeral_from}
use Rattle.syntax.proofs.Tracks.{token_at}
use Rattle.words.proofs.CutByIndex.{start_most, end_most}
use Rattle.lexer.proofs.LexedStep.{first_piece}
use Rattle.syntax.proofs.NumeralLaws.{numeral_read}

pub plain_kind : (k : Kind) → same_kind k plain ≡ true → k ≡ plain
plain_kind symbol e = absurd (false≢true e)
plain_kind ename e = absurd (false≢true e)
plain_kind aname e = absurd (false≢true e)
plain_kind evariable e = absurd (false≢true e)
plain_kind avariable e = absurd (false≢true e)
plain_kind plain e = refl

module _ (text : List ℕ) where
  -- a piece's word is the one that begins at its offset
  abbrev Cut : Piece → Type 0
  Cut p = p.word ≡ word_at text p.at

  pieces_cut : (ps : List Piece) (i : ℕ) → i ≤ length text → cut i (drop i text) ≡ ps → All Cut ps
  pieces_cut [] i h e = tt
  pieces_cut (p ∷ qs) i h e = (
    (first_piece text i h p qs e).word ∙ ap (word_at text) (sym (first_piece text i h p qs e).begins),
    go (ltb (start_at text i) (length text)) refl (pieces_cut qs),
  )
    where
      go : (b : Bool) → ltb (start_at text i) (length text) ≡ b → ((j : ℕ) → j ≤ length text → cut j (drop j text) ≡ qs → All Cut qs) → All Cut qs
      go true x again = again (piece_end text (start_at text i)) (end_most text (start_at text i) (start_most text i h)) ((first_piece text i h p qs e).on (ltb-true (start_at text i) (length text) x))
      go false x again = subst (λ (qs : List Piece). All Cut qs) (sym ((first_piece text i h p qs e).end (ltb-false (start_at text i) (length text) x)).1) tt

  -- t is a numeral and has its value
  abbrev Valued : Token → Type 0
  Valued t = is_a plain t ≡ true → t.fit ≡ fits → numeral_from text 7 t.at 0 ≡ t.num

  piece_valued : (symbols names : List Word) (n : ℕ) (p : Piece) → Cut p → Valued (token symbols names of_job n p)
  piece_valued symbols names n p c k f =
      let z : kind_of p.word ≡ plain = plain_kind (kind_of p.word) k in
      let g : numeral_fit p.word ≡ fits = ap (λ k. fit_of of_job k p.word) (sym z) ∙ f in
      let v : (token symbols names of_job n p).num ≡ value p.word = ap (λ k. fitting (fit_of of_job k p.word) (num_of symbols names of_job k p.word)) z ∙ ap (λ f. fitting f (value p.word)) g in
      numeral_read text p.at (ap numeral_fit (sym c) ∙ g) ∙ ap value (sym c) ∙ sym v

  tokens_valued : (symbols names : List Word) (n i : ℕ) (ps : List Piece) → All Cut ps → Valued (get_or (tokens_from symbols names of_job n ps) i nothing)
  tokens_valued symbols names n i [] c = λ k f. let z : ◌≡◌ {A = ℕ} 0 1 = cc in let x : ⊥ = omega arith in absurd x
  tokens_valued symbols names n zero (p ∷ ps) c = piece_valued symbols names n p c.0
  tokens_valued symbols names n (suc i) (p ∷ ps) c = tokens_valued symbols names (suc n) i ps c.1

  pub numeral_again : (zs : List Word) (i : ℕ) → Valued (token_at (tokens of_job zs text) i)
  unfolding tokens
  numeral_again zs i = tokens_valued (symbols_of zs text) (names_of text) 0 i (cut 0 text) (pieces_cut (cut 0 text) 0 (omega arith) refl)

avariable_kind : (k : Kind) → same_kind k avariable ≡ true → k ≡ avariable
avariable_kind symbol e = absurd (false≢true e)
avariable_kind ename e = absurd (false≢true e)
avariable_kind aname e = absurd (false≢true e)
avariable_kind evariable e = absurd (false≢true e)
avariable_kind avariable e = refl
avariable_kind plain e = absurd (false≢true e)

-- "K is 1 to 999"
value_few : (w : Word) → number_fit w ≡ fits → value w < 1000
value_few w e =
    let a = and_both (leb (length w) 3) (within 1 999 (value w)) (passed (is_numeral w) _ e) in
    let b = and_both (leb 1 (value w)) (leb (value w) 999) a.1 in
    omega (arith, leb-true (value w) 999 b.1)
  where
    passed : (a b : Bool) → cond a (cond b fits long) broken ≡ fits → b ≡ true
    passed true true e = refl
    passed true false e = let z : ◌≡◌ {A = ℕ} 0 1 = cc in let n : ⊥ = omega arith in absurd n
    passed false b e = let z : ◌≡◌ {A = ℕ} 0 1 = cc in let n : ⊥ = omega arith in absurd n

abbrev Few : Token → Type 0
Few t = is_a avariable t ≡ true → t.fit ≡ fits → t.num < 1000

piece_few : (symbols names : List Word) (n : ℕ) (p : Piece) → Few (token symbols names of_job n p)
piece_few symbols names n p k f =
    let z : kind_of p.word ≡ avariable = avariable_kind (kind_of p.word) k in
    let g : number_fit (drop 2 p.word) ≡ fits = ap (λ k. fit_of of_job k p.word) (sym z) ∙ f in
    let v : (token symbols names of_job n p).num ≡ value (drop 2 p.word) = ap (λ k. fitting (fit_of of_job k p.word) (num_of symbols names of_job k p.word)) z ∙ ap (λ f. fitting f (value (drop 2 p.word))) g in
    subst (λ (n : ℕ). n < 1000) (sym v) (value_few (drop 2 p.word) g)

tokens_few : (symbols names : List Word) (n i : ℕ) (ps : List Piece) → Few (get_or (tokens_from symbols names of_job n ps) i nothing)
tokens_few symbols names n i [] = λ k f. let z : ◌≡◌ {A = ℕ} 0 1 = cc in let x : ⊥ = omega arith in absurd x
tokens_few symbols names n zero (p ∷ ps) = piece_few symbols names n p
tokens_few symbols names n (suc i) (p ∷ ps) = tokens_few symbols names (suc n) i ps

pub variable_few : (text : List ℕ) (zs : List Word) (i : ℕ) → Few (token_at (tokens of_job zs text) i)
unfolding tokens
variable_few text zs i = tokens_few (symbols_of zs text) (names_of text) 0 i (cut 0 text)
