-- What `list` answers, and what it leaves in the two lent storages (01, "The walk and what stops it", "From the state").
use Rattle.std.specs.Prelude.{ℕ, ◌-◌, Bool, true, false, cond, List, ◌++◌, Ok, Err, ltb, length, replicate}
use Rattle.semantics.specs.Tree.{Line}
use Rattle.semantics.specs.Walk.{stop21, stop22, stop23, Word, whole, cut, stop, word_of, lines_of, count_of}
use Rattle.semantics.specs.Answer as meaning
use Rattle.lent.specs.Storage.{zeros}
use Rattle.lines.specs.LineCells.{lines_cells, answer_room}
use Rattle.resolve.specs.RunAnswer.{refused_as, work_cells}
use Rattle.refusals.specs.declared.refusal.Refused.TheVariants.{Short}
use Rattle.answers.specs.ListNumbers.{Answer}
use Rattle.answers.specs.declared.list.Word.{Word as FirstWord}
use Rattle.answers.specs.declared.list.Word.TheVariants.{Whole, Cut, Stop21, Stop22, Stop23}

-- an answer, the working storage and the answer storage
pub record ListLeft : Type 0 where
  pub answer : Answer
  pub work : List ℕ
  pub cells : List ℕ

abbrev pub first_word : Word → FirstWord
first_word whole = Whole
first_word cut = Cut
first_word (stop stop21) = Stop21
first_word (stop stop22) = Stop22
first_word (stop stop23) = Stop23

-- by the first word of the listing, the number of its lines and of the transitions
abbrev pub worded : Word → ℕ → ℕ → Answer
worded word lines count = Ok (record { word = first_word word; lines = lines; count = count })

abbrev pub answer_of : meaning.Answer meaning.Listed → Answer
answer_of (meaning.Answer.answered w) = worded (word_of w.walked) (length (lines_of w.walked)) (count_of w.walked)
answer_of (meaning.Answer.refused t r) = Err (refused_as t r)

-- "the lines found before, as its beginning; zeros follow to the end"
abbrev pub lines_then : List Line → List ℕ → List ℕ
lines_then ls d = lines_cells ls ++ replicate (length d - length (lines_cells ls)) 0

-- after a refusal "answer storage unchanged"
abbrev pub cells_after : meaning.Answer meaning.Listed → List ℕ → List ℕ
cells_after (meaning.Answer.answered w) d = lines_then (lines_of w.walked) d
cells_after (meaning.Answer.refused t r) d = d

-- "20 lent storage shorter than its least length": in cells
abbrev pub too_short : List ℕ → List ℕ → Bool
too_short work answer = cond (ltb (length work) work_cells) true (ltb (length answer) answer_room)

-- "before all else, .. nothing touched"
abbrev pub unless_short : Bool → ListLeft → List ℕ → List ℕ → ListLeft
unless_short true w work answer = record { answer = Err Short; work = work; cells = answer }
unless_short false w work answer = w

-- "Working storage is zero after each call but one refused with 20."
unfoldable pub list_left : List ℕ → List ℕ → List ℕ → List ℕ → ListLeft
list_left program job work answer =
    unless_short (too_short work answer) (record { answer = answer_of (meaning.list program job); work = zeros work; cells = cells_after (meaning.list program job) answer }) work answer
