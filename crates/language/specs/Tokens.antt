-- Tokens: a text cut into words and brackets; of each its kind, how it fits, its number, its offset.
use Rattle.std.specs.Prelude.{ℕ, suc, Bool, true, false, cond, ◌&&◌, ◌||◌, not, List, [], ◌∷◌, ◌++◌, eqb, leb, ltb, length, drop}
use Prim.Native.String.{String}
use Rattle.language.specs.Bytes.{txt, byte_kind, is_blank, in_word}
use Rattle.language.specs.Words.{Word, same, begins, Fit, fits, broken, long, many, name_fit, numeral_fit, number_fit, value}

-- a part of the text: where it begins, and its bytes
pub record Piece : Type 0 where
  pub at : ℕ
  pub word : Word

abbrev pub piece : ℕ → Word → Piece
piece at w = record { at = at; word = w }

-- the text goes on with a byte of a word
abbrev pub goes_on : List ℕ → Bool
goes_on [] = false
goes_on (b ∷ bs) = in_word (byte_kind b)

-- one byte more, in front of the first piece
abbrev pub lengthen : ℕ → ℕ → List Piece → List Piece
lengthen at b [] = []
lengthen at b (p ∷ ps) = piece at (b ∷ p.word) ∷ ps

-- "Tokens are brackets, words and numerals; blanks, tabs and line feeds part them": a word is as long as it goes on.
-- Last stands a piece of no bytes, at the text's length: the end.
unfoldable pub cut : ℕ → List ℕ → List Piece
cut at [] = piece at [] ∷ []
cut at (b ∷ bs) =
    let ps = cut (suc at) bs in
    cond (is_blank (byte_kind b)) ps (cond (in_word (byte_kind b) && goes_on bs) (lengthen at b ps) (piece at (b ∷ []) ∷ ps))

-- the place of a word in a list of words, the list's length where it is not there
abbrev pub place : Word → List Word → ℕ
place w [] = 0
place w (v ∷ vs) = elim (same v w) [ true ↦ 0 | false ↦ suc (place w vs) ]

-- the words that the grammar names; the empty one is the end
abbrev pub fixed_words : List String
fixed_words = "" ∷ "(" ∷ ")" ∷ "[" ∷ "]" ∷ "define" ∷ "call" ∷ "if" ∷ "cons" ∷ "eqa?" ∷ "cons?" ∷
    "job" ∷ "in" ∷ "out" ∷ "neq" ∷ "steps" ∷ "walk" ∷ "table" ∷ []

-- the place of a word among them
abbrev pub key_in : List String → Word → ℕ
key_in [] w = 0
key_in (v ∷ vs) w = elim (same (txt v) w) [ true ↦ 0 | false ↦ suc (key_in vs w) ]

abbrev pub key_of : Word → ℕ
key_of w = key_in fixed_words w

-- `'Z`, `e.NAME`, `a.NAME`, `?eK`, `?aK`, or any other word
pub data Kind : Type 0 where
  symbol ename aname evariable avariable plain : Kind

abbrev pub kind_of : Word → Kind
kind_of w =
    cond (begins (txt "'") w) symbol
    (cond (begins (txt "e.") w) ename
    (cond (begins (txt "a.") w) aname
    (cond (begins (txt "?e") w) evariable
    (cond (begins (txt "?a") w) avariable plain))))

abbrev pub tag : Kind → ℕ
tag symbol = 0
tag ename = 1
tag aname = 2
tag evariable = 3
tag avariable = 4
tag plain = 5

abbrev pub same_kind : Kind → Kind → Bool
same_kind k l = eqb (tag k) (tag l)

-- what is read
pub data Text : Type 0 where
  of_program of_job : Text

-- how a word fits: "F, NAME and Z", "K", and a word of no other kind, which is an F in a program and a numeral in a job
abbrev pub fit_of : Text → Kind → Word → Fit
fit_of t symbol w = name_fit (drop 1 w)
fit_of t ename w = name_fit (drop 2 w)
fit_of t aname w = name_fit (drop 2 w)
fit_of t evariable w = number_fit (drop 2 w)
fit_of t avariable w = number_fit (drop 2 w)
fit_of of_program plain w = name_fit w
fit_of of_job plain w = numeral_fit w

abbrev pub is_among : Word → List Word → Bool
is_among w ws = ltb (place w ws) (length ws)

-- the different words that pass the test, in order of first standing, behind those of ws
abbrev pub firsts : (Word → Bool) → List Word → List Piece → List Word
firsts f ws [] = ws
firsts f ws (p ∷ ps) = firsts f (cond (f p.word && not (is_among p.word ws)) (ws ++ (p.word ∷ [])) ws) ps

abbrev pub is_symbol : Word → Bool
is_symbol w = same_kind (kind_of w) symbol

-- the symbols of a text, behind those that stood before it (the program's, for the job); the other words
unfoldable pub symbols_of : List Word → List ℕ → List Word
unfolding cut
symbols_of before bs = firsts is_symbol before (cut 0 bs)

unfoldable pub names_of : List ℕ → List Word
unfolding cut
names_of bs = firsts (λ w. not (is_symbol w)) [] (cut 0 bs)

-- a word's number: its place among the symbols or among the names, by first standing, or its numeral's value
abbrev pub num_of : List Word → List Word → Text → Kind → Word → ℕ
num_of symbols names t symbol w = place w symbols
num_of symbols names t ename w = place w names
num_of symbols names t aname w = place w names
num_of symbols names t evariable w = value (drop 2 w)
num_of symbols names t avariable w = value (drop 2 w)
num_of symbols names of_program plain w = place w names
num_of symbols names of_job plain w = value w

-- a number counts only where its word fits
abbrev pub fitting : Fit → ℕ → ℕ
fitting fits n = n
fitting broken n = 0
fitting long n = 0
fitting many n = 0

-- A token: its place among the fixed words, its kind, how it fits, its number, its offset, and whether it is one too many.
pub record Token : Type 0 where
  pub key : ℕ
  pub kind : Kind
  pub fit : Fit
  pub num : ℕ
  pub at : ℕ
  pub over : Bool

-- the token number i: "A text has at most 4,096 tokens"; "both texts together 1,024 different symbols (Z)"
abbrev pub token : List Word → List Word → Text → ℕ → Piece → Token
token symbols names t i p =
    let k = kind_of p.word in
    let f = fit_of t k p.word in
    let n = fitting f (num_of symbols names t k p.word) in
    record {
      key = key_of p.word;
      kind = k;
      fit = f;
      num = n;
      at = p.at;
      over = leb 4096 i || (same_kind k symbol && leb 1024 n);
    }

abbrev pub tokens_from : List Word → List Word → Text → ℕ → List Piece → List Token
tokens_from symbols names t i [] = []
tokens_from symbols names t i (p ∷ ps) = token symbols names t i p ∷ tokens_from symbols names t (suc i) ps

-- the tokens of a text, the symbols `before` having stood before it
unfoldable pub tokens : Text → List Word → List ℕ → List Token
unfolding cut symbols_of names_of
tokens t before bs = tokens_from (symbols_of before bs) (names_of bs) t 0 (cut 0 bs)
