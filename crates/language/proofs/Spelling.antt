-- A text that is written from words, cut into these words again: for what is printed to be read (02, requests 2 and 8).
use Prim.Native.Nat.{ℕ, suc, ◌+◌}
use mathlib.Core.Path.{◌≡◌, refl, ap, ◌∙◌}
use mathlib.Core.Bool.{true, false, false≢true}
use mathlib.Core.List.{List, [], ◌∷◌, ◌++◌, map}
use native.Mathlib.Omega.{arith}
use lib.ListN.{length}
use Rattle.expressions.proofs.Predicates.{All}
use Rattle.language.specs.Bytes.{Byte, blank, bracket, digit, letter, mark, outside, byte_kind, is_blank, in_word}
use Rattle.language.specs.Words.{Word}
use Rattle.language.specs.Tokens.{Piece, piece, goes_on, lengthen, cut, kind_of, key_of, Text, fit_of, num_of, fitting, Token, tokens_from, symbols_of, names_of, tokens}

-- a byte of a word
abbrev pub OfWord : ℕ → Type 0
OfWord b = in_word (byte_kind b) ≡ true

-- These bytes spell these words: brackets stand by themselves, a word is as long as it goes on, and blanks may stand anywhere between.
pub data Spells : List ℕ → List Word → Type 0 where
  ended : Spells [] []
  spaced : (b : ℕ) (bs : List ℕ) (ws : List Word) → byte_kind b ≡ blank → Spells bs ws → Spells (b ∷ bs) ws
  bracketed : (b : ℕ) (bs : List ℕ) (ws : List Word) → byte_kind b ≡ bracket → Spells bs ws → Spells (b ∷ bs) ((b ∷ []) ∷ ws)
  worded : (b : ℕ) (w : Word) (bs : List ℕ) (ws : List Word) → OfWord b → All OfWord w → goes_on bs ≡ false → Spells bs ws → Spells (b ∷ (w ++ bs)) ((b ∷ w) ∷ ws)

not_blank : (k : Byte) → in_word k ≡ true → is_blank k ≡ false
not_blank blank e = absurd (false≢true e)
not_blank bracket e = refl
not_blank digit e = refl
not_blank letter e = refl
not_blank mark e = refl
not_blank outside e = refl

-- a byte of a word that goes on, and one that does not
cut_on : (at b : ℕ) (bs : List ℕ) → OfWord b → goes_on bs ≡ true → cut at (b ∷ bs) ≡ lengthen at b (cut (suc at) bs)
unfolding cut
cut_on at b bs h e = rw (not_blank (byte_kind b) h, h, e)

cut_off : (at b : ℕ) (bs : List ℕ) → OfWord b → goes_on bs ≡ false → cut at (b ∷ bs) ≡ piece at (b ∷ []) ∷ cut (suc at) bs
unfolding cut
cut_off at b bs h e = rw (not_blank (byte_kind b) h, h, e)

-- a word, followed by what does not go on
pub cut_word : (at b : ℕ) (w rest : List ℕ) → OfWord b → All OfWord w → goes_on rest ≡ false → cut at (b ∷ (w ++ rest)) ≡ piece at (b ∷ w) ∷ cut (at + suc (length w)) rest
cut_word at b [] rest h k e = let s : suc at ≡ at + suc 0 = omega arith in cut_off at b rest h e ∙ ap (λ (n : ℕ). piece at (b ∷ []) ∷ cut n rest) s
cut_word at b (c ∷ w) rest h k e =
    let s : suc at + suc (length w) ≡ at + suc (suc (length w)) = omega arith in
    cut_on at b ((c ∷ w) ++ rest) h k.0 ∙ ap (lengthen at b) (cut_word (suc at) c w rest k.0 k.1 e) ∙ ap (λ (n : ℕ). piece at (b ∷ (c ∷ w)) ∷ cut n rest) s

-- a bracket or a blank by itself
pub cut_bracket : (at b : ℕ) (rest : List ℕ) → byte_kind b ≡ bracket → cut at (b ∷ rest) ≡ piece at (b ∷ []) ∷ cut (suc at) rest
unfolding cut
cut_bracket at b rest e = rw e

pub cut_blank : (at b : ℕ) (rest : List ℕ) → byte_kind b ≡ blank → cut at (b ∷ rest) ≡ cut (suc at) rest
unfolding cut
cut_blank at b rest e = rw e

abbrev pub words_of : List Piece → List Word
words_of ps = map (λ p. p.word) ps

-- what is spelled is cut into its words; last stands the end, a piece of no bytes
pub cut_spelled : {bs : List ℕ} {ws : List Word} (at : ℕ) → Spells bs ws → words_of (cut at bs) ≡ ws ++ ([] ∷ [])
unfolding cut
cut_spelled at ended = refl
cut_spelled at (spaced b bs ws e h) = ap words_of (cut_blank at b bs e) ∙ cut_spelled (suc at) h
cut_spelled at (bracketed b bs ws e h) = ap words_of (cut_bracket at b bs e) ∙ ap (λ (l : List Word). (b ∷ []) ∷ l) (cut_spelled (suc at) h)
cut_spelled at (worded b w bs ws e k g h) = ap words_of (cut_word at b w bs e k g) ∙ ap (λ (l : List Word). (b ∷ w) ∷ l) (cut_spelled (at + suc (length w)) h)

-- what a token has of its word; its offset and whether it is one too many are left open
pub record Spelled (text : Text) (symbols names : List Word) (w : Word) (t : Token) : Type 0 where
  pub key : t.key ≡ key_of w
  pub kind : t.kind ≡ kind_of w
  pub fit : t.fit ≡ fit_of text (kind_of w) w
  pub num : t.num ≡ fitting (fit_of text (kind_of w) w) (num_of symbols names text (kind_of w) w)

module _ (text : Text) (symbols names : List Word) where
  abbrev pub Spelt : List Word → List Token → Type 0
  Spelt [] [] = Unit {0}
  Spelt [] (t ∷ ts) = ⊥
  Spelt (w ∷ ws) [] = ⊥
  Spelt (w ∷ ws) (t ∷ ts) = Spelled text symbols names w t × Spelt ws ts

  pub tokens_spelt : (i : ℕ) (ps : List Piece) → Spelt (words_of ps) (tokens_from symbols names text i ps)
  tokens_spelt i [] = tt
  tokens_spelt i (p ∷ ps) = (record { key = refl; kind = refl; fit = refl; num = refl }, tokens_spelt (suc i) ps)

-- the tokens of a text that is spelled
pub text_spelt : {bs : List ℕ} {ws : List Word} (text : Text) (before : List Word) → Spells bs ws → Spelt text (symbols_of before bs) (names_of bs) (ws ++ ([] ∷ [])) (tokens text before bs)
unfolding tokens
text_spelt {bs} {ws} text before h = rw (cut_spelled 0 h) at (tokens_spelt text (symbols_of before bs) (names_of bs) 0 (cut 0 bs))
