-- What holds of every token of a text: a fixed word is plain, and a word that fits as a name, a symbol or a numeral is no bracket.
use Prim.Native.Nat.{ℕ, zero, suc, ◌≤◌, ◌<◌}
use Prim.Native.String.{String}
use mathlib.Core.Path.{◌≡◌, refl, ap, ◌∙◌, sym as inv}
use mathlib.Core.Bool.{Bool, true, false, ◌&&◌, ◌||◌, not, false≢true}
use mathlib.Core.List.{List, [], ◌∷◌}
use native.Mathlib.Omega.{arith}
use lib.Dec.{eqb, ltb}
use lib.ListN.{length, get_or}
use borrow.Author.Tests.{ne_eqb, ltb-true, ltb-false}
use Rattle.expressions.proofs.Tests.{and_both}
use Rattle.language.specs.Bytes.{txt}
use Rattle.language.specs.Words.{Word, same, Fit, fits, broken, long, many}
use Rattle.language.specs.Tokens.{Piece, plain, kind_of, same_kind, key_in, key_of, fixed_words, Text, of_program, of_job, fit_of, tokens_from, tokens, symbols_of, names_of, cut}
use Rattle.language.specs.Reader.{is_a}
use Rattle.grammar.specs.Twins.Positions.{nothing}
use Rattle.syntax.proofs.Tracks.{token_at}
use Rattle.syntax.proofs.JobLaws.{Fixed}
use Rattle.syntax.proofs.EndsLaws.{Unbracketed}
use Rattle.lexer.proofs.TableMeaning.{same_word}
use Rattle.lexer.proofs.LexedStep.{or_none}

-- what holds of the fixed words holds of a word that is one
all_words : (Word → Bool) → List String → Bool
all_words f [] = true
all_words f (v ∷ vs) = f (txt v) && all_words f vs

among : (f : Word → Bool) (vs : List String) (w : Word) → all_words f vs ≡ true → key_in vs w < length vs → f w ≡ true
unfolding all_words
among f [] w a l = let z : ⊥ = omega arith in absurd z
among f (v ∷ vs) w a l = go (same (txt v) w) refl l (λ h. among f vs w (and_both (f (txt v)) (all_words f vs) a).1 h)
  where
    go : (b : Bool) → same (txt v) w ≡ b → elim b [ true ↦ 0 | false ↦ suc (key_in vs w) ] < suc (length vs) → (key_in vs w < length vs → f w ≡ true) → f w ≡ true
    go true e l h = ap f (inv (same_word (txt v) w e)) ∙ (and_both (f (txt v)) (all_words f vs) a).0
    go false e l h = h (omega arith)

plain_words : (w : Word) → key_of w < 18 → same_kind (kind_of w) plain ≡ true
unfolding all_words
plain_words w l = among (λ w. same_kind (kind_of w) plain) fixed_words w refl l

tokens_fixed : (symbols names : List Word) (t : Text) (n i : ℕ) (ps : List Piece) → (get_or (tokens_from symbols names t n ps) i nothing).key < 18 → is_a plain (get_or (tokens_from symbols names t n ps) i nothing) ≡ true
tokens_fixed symbols names t n i [] l = let z : ⊥ = omega arith in absurd z
tokens_fixed symbols names t n zero (p ∷ ps) l = plain_words p.word l
tokens_fixed symbols names t n (suc i) (p ∷ ps) l = tokens_fixed symbols names t (suc n) i ps l

pub all_fixed : (t : Text) (before : List Word) (bs : List ℕ) → Fixed (λ i. token_at (tokens t before bs) i)
unfolding tokens
all_fixed t before bs i l = tokens_fixed (symbols_of before bs) (names_of bs) t 0 i (cut 0 bs) l

-- a bracket is broken where a name, a symbol or a numeral is due
abbrev bracket : ℕ → Bool
bracket k = (eqb k 1 || eqb k 3) || (eqb k 2 || eqb k 4)

abbrev is_broken : Fit → Bool
is_broken fits = false
is_broken broken = true
is_broken long = false
is_broken many = false

abbrev sound : Text → Word → Bool
sound t w = not (bracket (key_of w)) || is_broken (fit_of t (kind_of w) w)

sound_fixed : (t : Text) → all_words (sound t) fixed_words ≡ true
unfolding all_words
sound_fixed of_program = refl
sound_fixed of_job = refl

large : (k : ℕ) → 18 ≤ k → bracket k ≡ false
large k l = rw (ne_eqb k 1 (λ e. omega arith), ne_eqb k 3 (λ e. omega arith), ne_eqb k 2 (λ e. omega arith), ne_eqb k 4 (λ e. omega arith))

sound_word : (t : Text) (w : Word) → sound t w ≡ true
sound_word t w = go (ltb (key_of w) 18) refl
  where
    go : (b : Bool) → ltb (key_of w) 18 ≡ b → sound t w ≡ true
    go true e = among (sound t) fixed_words w (sound_fixed t) (ltb-true (key_of w) 18 e)
    go false e = ap (λ b. not b || is_broken (fit_of t (kind_of w) w)) (large (key_of w) (ltb-false (key_of w) 18 e))

no_bracket : (b : Bool) (f : Fit) → f ≡ fits → (not b || is_broken f) ≡ true → b ≡ false
no_bracket false f e h = refl
no_bracket true f e h = absurd (false≢true (inv (ap is_broken e) ∙ h))

tokens_unbracketed : (symbols names : List Word) (t : Text) (n i : ℕ) (ps : List Piece) → (get_or (tokens_from symbols names t n ps) i nothing).fit ≡ fits → bracket (get_or (tokens_from symbols names t n ps) i nothing).key ≡ false
tokens_unbracketed symbols names t n i [] e = refl
tokens_unbracketed symbols names t n zero (p ∷ ps) e = no_bracket (bracket (key_of p.word)) (fit_of t (kind_of p.word) p.word) e (sound_word t p.word)
tokens_unbracketed symbols names t n (suc i) (p ∷ ps) e = tokens_unbracketed symbols names t (suc n) i ps e

pub all_unbracketed : (t : Text) (before : List Word) (bs : List ℕ) → Unbracketed (λ i. token_at (tokens t before bs) i)
unfolding tokens
all_unbracketed t before bs i e = or_none _ _ (tokens_unbracketed (symbols_of before bs) (names_of bs) t 0 i (cut 0 bs) e)
