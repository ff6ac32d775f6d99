-- Listing two texts in cells: what each function of list.rt answers and leaves.
use Rattle.std.specs.Prelude.{ℕ, ◌≡◌, Bool, false, List, Result, Ok, Err, replicate}
use Rattle.lent.specs.Storage.{zeros}
use Rattle.syntax.specs.declared.job_ends.JobEnds.{JobEnds}
use Rattle.syntax.specs.declared.numerals.Numerals.{Numerals}
use Rattle.linking.specs.Twins.Linking.{program_linked, program_end}
use Rattle.initial.specs.Twins.Beginning.{main_body}
use Rattle.walk.specs.Twins.Jobs.{JobLeft, walk_job}
use Rattle.turns.specs.declared.found.Ending.{Ending}
use Rattle.turns.specs.declared.found.Ending.TheVariants.{Done, Over, Full, Spent}
use Rattle.turns.specs.declared.found.Walked.{Walked}
use Rattle.resolve.specs.ListAnswer.{ListLeft}
use Rattle.reading.specs.Twins.BothCells.{BothAnswer, both_over}
use Rattle.reading.specs.declared.both.Both.{Both}
use Rattle.refusals.specs.declared.refusal.Refused.{Refused}
use Rattle.answers.specs.ListEnding.{unstopped_as}
use Rattle.answers.specs.ListNumbers.{Answer}
use Rattle.answers.specs.declared.list.Listed.{Listed}
use Rattle.answers.specs.declared.list.Word.{Word}
use Rattle.answers.specs.declared.list.Word.TheVariants.{Stop21, Stop22, Stop23}

abbrev pub ended_as : Ending → Bool → Word
ended_as Done cut = unstopped_as cut
ended_as Over cut = Stop21
ended_as Full cut = Stop22
ended_as Spent cut = Stop23

abbrev pub came_to : Walked → Listed
came_to w = record { word = ended_as w.ending w.found.cut; lines = w.found.lines.count; count = w.found.count }

abbrev pub ListOut : Answer → List ℕ → List ℕ → ListLeft → Type 0
ListOut r work d w = (r ≡ w.answer) × (work ≡ w.work) × (d ≡ w.cells)

-- an answer and the answer storage
pub record ReadLeft : Type 0 where
  pub answer : Answer
  pub cells : List ℕ

abbrev pub read_left : Answer → List ℕ → ReadLeft
read_left r d = record { answer = r; cells = d }

-- the walk of accepted texts, whose parts stand in the storages, or a refusal
abbrev pub after_both : (ℕ → JobEnds → Numerals → JobLeft) → List ℕ → Result Both Refused → ReadLeft
after_both f d (Ok b) = let w = f b.count b.parts b.numerals in read_left (Ok (came_to w.walked)) w.answer
after_both f d (Err r) = read_left (Err r) d

-- a program of c definitions, linked, and a job
abbrev pub walked_texts : List ℕ → List ℕ → List ℕ → List ℕ → List ℕ → List ℕ → List ℕ → ℕ → JobEnds → Numerals → JobLeft
walked_texts marks nums ends heads jmarks jnums a c e k = walk_job (program_linked marks nums ends heads c (replicate 24582 0)) (program_end ends heads c) (main_body marks heads) jmarks jnums e k a

-- both texts as they were read
unfoldable pub listed_read : Result Both Refused → List ℕ → List ℕ → List ℕ → List ℕ → List ℕ → List ℕ → List ℕ → ReadLeft
listed_read both marks nums ends heads jmarks jnums d = after_both (walked_texts marks nums ends heads jmarks jnums (zeros d)) d both

abbrev pub with_work : List ℕ → ReadLeft → ListLeft
with_work work w = record { answer = w.answer; work = work; cells = w.cells }

abbrev pub list_behind : List ℕ → BothAnswer → ListLeft
list_behind d w = let j = w.job in with_work j.work (listed_read j.placed.texts w.marks w.nums j.placed.ends j.placed.heads j.jmarks j.jnums d)

unfoldable pub list_texts : List ℕ → List ℕ → List ℕ → List ℕ → ListLeft
list_texts program job work d = list_behind d (both_over false program job work)
