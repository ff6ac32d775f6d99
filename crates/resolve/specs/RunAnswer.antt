-- What `run` answers, and what it leaves in the two lent storages (01, "Running forwards", "From the state").
use Rattle.std.specs.Prelude.{ℕ, ◌-◌, Bool, true, false, cond, List, ◌++◌, Ok, Err, ltb, length, replicate}
use Rattle.expressions.specs.Expression.{Value}
use Rattle.sets.specs.Cells.{cells}
use Rattle.language.specs.Bytes.{Refusal}
use Rattle.language.specs.Tokens.{Text, of_program, of_job}
use Rattle.semantics.specs.Embedding.{embed}
use Rattle.semantics.specs.Runner.{Ran, value, ran_over, not_within, nodes_value}
use Rattle.semantics.specs.Answer as meaning
use Rattle.lent.specs.Storage.{zeros}
use Rattle.refusals.specs.declared.refusal.Refused.{Refused}
use Rattle.refusals.specs.declared.refusal.Refused.TheVariants.{Program, Job, Short}
use Rattle.run_answers.specs.RunNumbers.{Answer}
use Rattle.run_answers.specs.declared.run.Ran.{Ran as Came}
use Rattle.run_answers.specs.declared.run.Ran.TheVariants.{Value as ValueOf, Over, NotWithin}

-- an answer, the working storage and the answer storage
pub record RunLeft : Type 0 where
  pub answer : Answer
  pub work : List ℕ
  pub cells : List ℕ

-- the refusal of a text, by its number and offset
abbrev pub refused_as : Text → Refusal → Refused
refused_as of_program r = Program (record { number = r.number; offset = r.at })
refused_as of_job r = Job (record { number = r.number; offset = r.at })

-- a value has so many cells
abbrev pub came_as : Ran → Came
came_as (value s v) = ValueOf s (nodes_value v)
came_as ran_over = Over
came_as not_within = NotWithin

abbrev pub answer_of : meaning.Answer Ran → Answer
answer_of (meaning.Answer.answered r) = Ok (came_as r)
answer_of (meaning.Answer.refused t r) = Err (refused_as t r)

-- "The runner's value stands in its answer storage in the same way": the value's cells, then zeros
abbrev pub value_cells : Value → List ℕ → List ℕ
value_cells v d = cells (embed v) ++ replicate (length d - nodes_value v) 0

-- "It stops only with 21 or "not within N", and then its answer storage is zero"; after a refusal "answer storage unchanged"
abbrev pub cells_after : meaning.Answer Ran → List ℕ → List ℕ
cells_after (meaning.Answer.answered (value s v)) d = value_cells v d
cells_after (meaning.Answer.answered ran_over) d = zeros d
cells_after (meaning.Answer.answered not_within) d = zeros d
cells_after (meaning.Answer.refused t r) d = d

-- "20 lent storage shorter than its least length": in cells
abbrev pub work_cells : ℕ
work_cells = 8194

abbrev pub answer_cells : ℕ
answer_cells = 4096

abbrev pub too_short : List ℕ → List ℕ → Bool
too_short work answer = cond (ltb (length work) work_cells) true (ltb (length answer) answer_cells)

-- "before all else, .. nothing touched"
abbrev pub unless_short : Bool → RunLeft → List ℕ → List ℕ → RunLeft
unless_short true w work answer = record { answer = Err Short; work = work; cells = answer }
unless_short false w work answer = w

-- "Working storage is zero after each call but one refused with 20."
unfoldable pub run_left : List ℕ → List ℕ → List ℕ → List ℕ → RunLeft
run_left program job work answer =
    unless_short (too_short work answer) (record { answer = answer_of (meaning.run program job); work = zeros work; cells = cells_after (meaning.run program job) answer }) work answer
