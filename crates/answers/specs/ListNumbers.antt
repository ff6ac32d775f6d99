-- The number and values of each case of what `list` answers (01, "From the input", "From the state").
use Rattle.std.specs.Prelude.{ℕ, cond, List, [], ◌∷◌, Ok, Err, Result, eqb, get_or}
use Rattle.refusals.specs.RefusalNumbers as refused
pub use Rattle.refusals.specs.AnswerNumbers.{letter_of, offset_of}
use Rattle.refusals.specs.AnswerNumbers.{unless_refused}
use Rattle.refusals.specs.declared.refusal.Refused.{Refused}
use Rattle.answers.specs.ListEnding.{unstopped_as}
use Rattle.answers.specs.declared.list.Word.{Word}
use Rattle.answers.specs.declared.list.Word.TheVariants.{Whole, Cut, Stop21, Stop22, Stop23}
use Rattle.answers.specs.declared.list.Listed.{Listed}

-- "First line: `whole`, `cut` or `stop21` to `stop23`": "21 over 4,096 nodes", "22 a line would be number T+1, or ..", "23 a transition
-- would be number W+1"; whole and cut have no number
abbrev pub word_number : Word → ℕ
word_number Whole = 0
word_number Cut = 0
word_number Stop21 = 21
word_number Stop22 = 22
word_number Stop23 = 23

-- "A walk that isn't stopped ends as cut if a configuration N deep is no end, else as whole."
abbrev pub word_cut : Word → ℕ
word_cut Whole = 0
word_cut Cut = 1
word_cut Stop21 = 0
word_cut Stop22 = 0
word_cut Stop23 = 0

-- a listing, or the refusal of a text or of storage that is too short
abbrev pub Answer : Type 0
Answer = Result Listed Refused

-- 1 to 13 of a refused text, 20, 21 to 23
abbrev pub number_of : Answer → ℕ
number_of (Ok a) = word_number a.word
number_of (Err r) = refused.number_of r

abbrev pub cut_of : Answer → ℕ
cut_of (Ok a) = word_cut a.word
cut_of (Err r) = 0

-- "After whole or cut the answer storage holds the listing, after 21 to 23 the lines found before": how many they are
abbrev pub lines_of : Answer → ℕ
lines_of (Ok a) = a.lines
lines_of (Err r) = 0

-- "It counts each transition of the tree once, and that count is the one reported"
abbrev pub transitions_of : Answer → ℕ
transitions_of (Ok a) = a.count
transitions_of (Err r) = 0

-- what stands in `said` beside the number
abbrev pub said_of : Answer → List ℕ
said_of a = letter_of a ∷ offset_of a ∷ cut_of a ∷ lines_of a ∷ transitions_of a ∷ []

abbrev pub word_from : ℕ → ℕ → Word
word_from number cut =
    cond (eqb number 21) Stop21
    (cond (eqb number 22) Stop22
    (cond (eqb number 23) Stop23
    (unstopped_as (eqb cut 1))))

-- the listing of these values
abbrev pub listed_from : ℕ → List ℕ → Listed
listed_from number said = record { word = word_from number (get_or said 2 0); lines = get_or said 3 0; count = get_or said 4 0 }

-- the answer with this number and these values; 20 has none
abbrev pub answer_from : ℕ → List ℕ → Answer
answer_from number said = unless_refused number said (listed_from number said)

-- what `list` can answer: a text is refused with 1 to 13
abbrev pub Numbered : Answer → Type 0
Numbered (Ok a) = Unit {0}
Numbered (Err r) = refused.Numbered r
