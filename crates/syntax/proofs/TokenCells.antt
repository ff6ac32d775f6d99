-- What holds of every token of a text, by its index: its key is known, the end is no word that fits, and its number stands in a cell whole
-- unless it is a job's numeral.
use Prim.Native.Nat.{ℕ, zero, suc, ◌≤◌, ◌<◌}
use mathlib.Core.Path.{◌≡◌, refl, ap, ◌∙◌, sym}
use mathlib.Core.Bool.{Bool, true, false}
use mathlib.Core.List.{List, [], ◌∷◌}
use native.Mathlib.Omega.{arith}
use native.Mathlib.Nat.{mod-eq_of_lt}
use lib.ListN.{length, get_or}
use Rattle.expressions.proofs.Predicates.{All}
use Rattle.language.specs.Words.{Word, Fit, fits, broken, long, many}
use Rattle.language.specs.Tokens.{Piece, cut, Kind, symbol, ename, aname, evariable, avariable, plain, kind_of, Text, of_program, of_job, fit_of, num_of, fitting, symbols_of, names_of, Token, tokens_from, tokens}
use Rattle.language.proofs.TokenNumbers.{KindNumber, TokenNumber, text_numbered}
use Rattle.grammar.specs.Twins.Positions.{nothing}
use Rattle.words.specs.Twins.Marks.{fit_number, cell_of}
use Rattle.lexer.specs.Twins.Lexed.{shut_at, shuts}
use Rattle.syntax.proofs.Tracks.{token_at}
use Rattle.lexer.proofs.TokenMeaning.{key_most}
use Rattle.syntax.proofs.LexedMeaning.{key_none}
use Rattle.lexer.proofs.LexedStep.{open_over}

keys_known : (symbols names : List Word) (t : Text) (n i : ℕ) (ps : List Piece) → (get_or (tokens_from symbols names t n ps) i nothing).key ≤ 18
keys_known symbols names t n i [] = omega arith
keys_known symbols names t n zero (p ∷ ps) = key_most p.word
keys_known symbols names t n (suc i) (p ∷ ps) = keys_known symbols names t (suc n) i ps

pub key_known : (t : Text) (before : List Word) (bs : List ℕ) (i : ℕ) → (token_at (tokens t before bs) i).key ≤ 18
unfolding tokens
key_known t before bs i = keys_known (symbols_of before bs) (names_of bs) t 0 i (cut 0 bs)

-- the end is broken, so no reader passes it and its number is 0
empty_broken : (t : Text) → fit_of t (kind_of []) [] ≡ broken
empty_broken of_program = refl
empty_broken of_job = refl

ends_broken : (symbols names : List Word) (t : Text) (n i : ℕ) (ps : List Piece) → (get_or (tokens_from symbols names t n ps) i nothing).key ≡ 0 → (get_or (tokens_from symbols names t n ps) i nothing).fit ≡ broken
ends_broken symbols names t n i [] e = refl
ends_broken symbols names t n zero (p ∷ ps) e = ap (λ w. fit_of t (kind_of w) w) (key_none p.word e) ∙ empty_broken t
ends_broken symbols names t n (suc i) (p ∷ ps) e = ends_broken symbols names t (suc n) i ps e

pub end_broken : (t : Text) (before : List Word) (bs : List ℕ) (i : ℕ) → (token_at (tokens t before bs) i).key ≡ 0 → (token_at (tokens t before bs) i).fit ≡ broken
unfolding tokens
end_broken t before bs i = ends_broken (symbols_of before bs) (names_of bs) t 0 i (cut 0 bs)

pub end_shuts : (t : Token) → t.key ≡ 0 → t.fit ≡ broken → shuts t ≡ true
end_shuts t k f = ap (λ f. shut_at t.over (fit_number f) t.key) f ∙ ap (shut_at t.over 1) k ∙ shut t.over
  where
    shut : (o : Bool) → shut_at o 1 0 ≡ true
    shut true = refl
    shut false = refl

unfit_none : (f : Fit) (n : ℕ) → (f ≡ fits → ⊥) → fitting f n ≡ 0
unfit_none fits n h = absurd (h refl)
unfit_none broken n h = refl
unfit_none long n h = refl
unfit_none many n h = refl

unfits : (symbols names : List Word) (t : Text) (n i : ℕ) (ps : List Piece) → ((get_or (tokens_from symbols names t n ps) i nothing).fit ≡ fits → ⊥) → (get_or (tokens_from symbols names t n ps) i nothing).num ≡ 0
unfits symbols names t n i [] h = refl
unfits symbols names t n zero (p ∷ ps) h = unfit_none (fit_of t (kind_of p.word) p.word) (num_of symbols names t (kind_of p.word) p.word) h
unfits symbols names t n (suc i) (p ∷ ps) h = unfits symbols names t (suc n) i ps h

unfit_number : (t : Text) (before : List Word) (bs : List ℕ) (i : ℕ) → ((token_at (tokens t before bs) i).fit ≡ fits → ⊥) → (token_at (tokens t before bs) i).num ≡ 0
unfolding tokens
unfit_number t before bs i h = unfits (symbols_of before bs) (names_of bs) t 0 i (cut 0 bs) h

-- numbers that stand in a cell: all but a job's numerals
abbrev pub InCell : Text → Kind → Type 0
InCell t symbol = Unit {0}
InCell t ename = Unit {0}
InCell t aname = Unit {0}
InCell t evariable = Unit {0}
InCell t avariable = Unit {0}
InCell of_program plain = Unit {0}
InCell of_job plain = ⊥

number_small : (t : Text) (k : Kind) (n : ℕ) → InCell t k → KindNumber t k n → n < 65536
number_small t symbol n c h = omega arith
number_small t ename n c h = omega arith
number_small t aname n c h = omega arith
number_small t evariable n c h = omega (arith, h.1)
number_small t avariable n c h = omega (arith, h.1)
number_small of_program plain n c h = omega arith
number_small of_job plain n c h = absurd c

all_at : (Q : Token → Type 0) (ts : List Token) (i : ℕ) → All Q ts → i < length ts → Q (get_or ts i nothing)
all_at Q [] i h l = let z : ⊥ = omega arith in absurd z
all_at Q (t ∷ ts) zero h l = h.0
all_at Q (t ∷ ts) (suc i) h l = all_at Q ts i h.1 (omega arith)

is_fits : (f : Fit) → Dec (f ≡ fits)
is_fits fits = yes refl
is_fits broken = no (λ e. let z : ◌≡◌ {A = ℕ} 0 1 = cc in omega arith)
is_fits long = no (λ e. let z : ◌≡◌ {A = ℕ} 0 1 = cc in omega arith)
is_fits many = no (λ e. let z : ◌≡◌ {A = ℕ} 0 1 = cc in omega arith)

module _ (t : Text) (before : List Word) (bs : List ℕ) (i : ℕ) where
  abbrev it : Token
  it = token_at (tokens t before bs) i

  nought_cell : it.num ≡ 0 → cell_of it.num ≡ it.num
  nought_cell e = ap cell_of e ∙ sym e

  -- the number of a token that readers pass, and of the end
  pub passed_cell : i < length (tokens t before bs) → shuts it ≡ false → InCell t it.kind → cell_of it.num ≡ it.num
  passed_cell l s c = go (is_fits it.fit)
    where
      go : Dec (it.fit ≡ fits) → cell_of it.num ≡ it.num
      go (no u) = nought_cell (unfit_number t before bs i u)
      go (yes f) = mod-eq_of_lt {n = it.num} {m = 65536} (number_small t it.kind it.num c
          (all_at (TokenNumber t) (tokens t before bs) i (text_numbered t before bs) l f (open_over it.over (fit_number it.fit) it.key s)))

  pub end_cell : it.key ≡ 0 → cell_of it.num ≡ it.num
  end_cell e = nought_cell (unfit_number t before bs i (λ f. let g = end_broken t before bs i e in let z : ◌≡◌ {A = ℕ} 0 1 = cc in omega arith))
