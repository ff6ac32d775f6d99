-- Words: lists of bytes, compared, and judged as names, numerals and variable numbers.
use Rattle.std.specs.Prelude.{ℕ, ◌+◌, ◌*◌, ◌-◌, Bool, true, false, cond, ◌&&◌, ◌||◌, not, List, [], ◌∷◌, eqb, leb, length}
use Rattle.language.specs.Bytes.{byte_kind, is_digit, in_name, within}

abbrev pub Word : Type 0
Word = List ℕ

-- the same bytes
abbrev pub same : Word → Word → Bool
same [] [] = true
same [] (c ∷ w) = false
same (b ∷ v) [] = false
same (b ∷ v) (c ∷ w) = eqb b c && same v w

-- the first word is a beginning of the second
abbrev pub begins : Word → Word → Bool
begins [] w = true
begins (b ∷ v) [] = false
begins (b ∷ v) (c ∷ w) = eqb b c && begins v w

abbrev pub all : (ℕ → Bool) → Word → Bool
all f [] = true
all f (b ∷ w) = f b && all f w

-- how a token stands to the place where it stands: 3 broken, 4 long, 5 many, or it fits
pub data Fit : Type 0 where
  fits broken long many : Fit

abbrev pub is_name : Word → Bool
is_name w = not (same w []) && all (λ b. in_name (byte_kind b)) w

-- "F, NAME and Z have 1 to 16 letters or digits"; "4 a name over 16"
abbrev pub name_fit : Word → Fit
name_fit w = cond (is_name w) (cond (leb (length w) 16) fits long) broken

-- "no leading noughts"
abbrev pub is_numeral : Word → Bool
is_numeral w = not (same w []) && all (λ b. is_digit (byte_kind b)) w && (same w (48 ∷ []) || not (begins (48 ∷ []) w))

-- "Numerals are base ten, no leading noughts, at most 7 digits"; "4 a numeral over 7 digits"
abbrev pub numeral_fit : Word → Fit
numeral_fit w = cond (is_numeral w) (cond (leb (length w) 7) fits long) broken

-- "Numerals are base ten": v is what the digits before come to
abbrev pub value_from : ℕ → Word → ℕ
value_from v [] = v
value_from v (b ∷ w) = value_from (10 * v + (b - 48)) w

abbrev pub value : Word → ℕ
value w = value_from 0 w

-- "K is 1 to 999"; "4 K outside 1 to 999"
abbrev pub number_fit : Word → Fit
number_fit w = cond (is_numeral w) (cond (leb (length w) 3 && within 1 999 (value w)) fits long) broken
