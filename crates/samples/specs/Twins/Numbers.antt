-- The number of a name that is Q and a number. proofs/NumberLaws.antt: n for the name Q and n, from 1 up to 5,120, and 0 for every other.
use Rattle.std.specs.Prelude.{ℕ, cond, eqb, leb, ltb, length, drop, get_or}
use Rattle.language.specs.Words.{Word, numeral_fit}
use Rattle.words.specs.Twins.Marks.{fit_number}
use Rattle.words.specs.Twins.Judged.{value_cell}

abbrev pub counting : ℕ → ℕ
counting n = cond (leb n 5120) n 0

unfoldable pub numeral_of : Word → ℕ
numeral_of w = cond (ltb 4 (length w)) 0 (cond (eqb (fit_number (numeral_fit w)) 0) (counting (value_cell w)) 0)

-- of a symbol's word: its first byte is the quote
unfoldable pub number_of : Word → ℕ
number_of w = cond (eqb (get_or w 1 0) 81) (numeral_of (drop 2 w)) 0
