-- The text of a listing in cells.
use Rattle.std.specs.Prelude.{ℕ, Bool, List, [], ◌∷◌, ◌++◌}
use Rattle.semantics.specs.Walk.{stop21, stop22, stop23, Word, whole, cut, stop}
use Rattle.listing.specs.Print.{digits, print_word}
use Rattle.answers.specs.declared.list.Word.{Word as FirstWord}
use Rattle.answers.specs.declared.list.Word.TheVariants.{Whole, Cut, Stop21, Stop22, Stop23}
use Rattle.writer.specs.Twins.LineText.{lines_text}

-- the paper's word for each case
abbrev pub walk_word : FirstWord → Word
walk_word Whole = whole
walk_word Cut = cut
walk_word Stop21 = stop stop21
walk_word Stop22 = stop stop22
walk_word Stop23 = stop stop23

-- the word and a blank
abbrev pub word_text : FirstWord → List ℕ
word_text w = print_word (walk_word w) ++ (32 ∷ [])

unfoldable pub first_text : FirstWord → ℕ → ℕ → List ℕ
first_text w lines count = word_text w ++ (digits lines ++ (32 ∷ digits count)) ++ (10 ∷ [])

-- vars are the cells of the job's inputs and output; with samples, or without
unfoldable pub listing_text : (ℕ → List ℕ) → List ℕ → Bool → FirstWord → ℕ → ℕ → List ℕ → List ℕ
listing_text name vars samples w lines count answer = first_text w lines count ++ lines_text name vars samples lines 0 answer
