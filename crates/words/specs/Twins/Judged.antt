-- What the code makes of a word: its value in a cell, its hash, the token that it is.
use Rattle.std.specs.Prelude.{ℕ, ◌+◌, ◌*◌, ◌%◌, Bool, true, false, [], ◌∷◌}
use Rattle.language.specs.Words.{Word, value}
use Rattle.language.specs.Tokens.{Text, of_program, of_job}
use Rattle.words.specs.Twins.Marks.{cell_of}

abbrev pub value_cell : Word → ℕ
value_cell w = cell_of (value w)

abbrev pub text_of : Bool → Text
text_of false = of_program
text_of true = of_job

-- a number of 16 bits made of a word's bytes, so that different words seldom have the same
abbrev pub hash_from : ℕ → Word → ℕ
hash_from h [] = h
hash_from h (b ∷ w) = hash_from ((31 * h + b) % 65536) w

abbrev pub hash_of : Word → ℕ
hash_of w = hash_from 0 w
