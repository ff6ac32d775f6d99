-- The configuration in main's body: what each function of begin.rt answers and leaves.
use Rattle.std.specs.Prelude.{ℕ, Bool, List, get_or, Option, Result, Some, None, Ok, Err}
use Rattle.restrictions.specs.declared.failure.Failure.{Failure}
use Rattle.restrictions.specs.declared.failure.Failure.TheVariants.{Over}
use Rattle.restrictions.specs.Twins.Restricting.{RestrictAnswer}
use Rattle.syntax.specs.declared.job_ends.JobEnds.{JobEnds}
use Rattle.heap.specs.Twins.Entries.{PushAnswer, pushed}
use Rattle.heap.specs.declared.configuration.Configuration.{Configuration}
use Rattle.linking.specs.Twins.Linking.{on, closing_at}
use Rattle.initial.specs.Twins.Trees.{trees_entered}
use Rattle.layout.specs.Twins.Fresh.{first_fresh_cells}
use Rattle.layout.specs.Twins.Laying.{LaidLeft, job_laid, sides_taken}
use Rattle.layout.specs.declared.job.Parts.{Parts}
use Rattle.initial.specs.declared.begin.Entered.{Entered}

-- behind the parameters of the first definition
abbrev pub main_body : List ℕ → List ℕ → ℕ
main_body marks heads = on (closing_at marks (on (get_or heads 0 0) 2)) 1

-- so many inputs, and entries in all
abbrev pub counted : ℕ → ℕ → Entered
counted inputs entries = record { inputs = inputs; entries = entries }

pub record EnterLeft : Type 0 where
  pub answer : Option Entered
  pub frame : List ℕ

abbrev pub enter_left : Option Entered → List ℕ → EnterLeft
enter_left a f = record { answer = a; frame = f }

abbrev pub entered_as : ℕ → Option ℕ → Option Entered
entered_as inputs (Some n) = Some (counted inputs n)
entered_as inputs None = None

abbrev pub entered_left : ℕ → PushAnswer → EnterLeft
entered_left inputs w = enter_left (entered_as inputs w.answer) w.frame

abbrev pub values_entered : ℕ → Option ℕ → ℕ → List ℕ → List ℕ → EnterLeft
values_entered inputs (Some n) to h f = entered_left inputs (trees_entered n 0 to h f)
values_entered inputs None to h f = enter_left None f

abbrev pub behind_output : ℕ → ℕ → List ℕ → PushAnswer → EnterLeft
behind_output n ins h w = values_entered n w.answer ins h w.frame

abbrev pub output_entered : Option ℕ → ℕ → ℕ → List ℕ → List ℕ → EnterLeft
output_entered (Some n) ins io h f = behind_output n ins h (pushed n 0 ins io f)
output_entered None ins io h f = enter_left None f

abbrev pub behind_inputs : ℕ → ℕ → List ℕ → PushAnswer → EnterLeft
behind_inputs ins io h w = output_entered w.answer ins io h w.frame

-- the inputs, the wanted output, and the inputs once more
unfoldable pub job_entered : ℕ → ℕ → List ℕ → List ℕ → EnterLeft
job_entered ins io h f = behind_inputs ins io h (trees_entered 0 0 ins h f)

abbrev pub begun_with : ℕ → ℕ → ℕ → ℕ → Option Entered → Result Configuration Failure
begun_with body used neqs next (Some e) =
    Ok (record { inputs = e.inputs; outputs = 1; entries = e.entries; used = used; neqs = neqs; place = body; counter = next })
begun_with body used neqs next None = Err Over

pub record BegunFrame : Type 0 where
  pub answer : Result Configuration Failure
  pub frame : List ℕ

abbrev pub begun_frame : Result Configuration Failure → List ℕ → BegunFrame
begun_frame a f = record { answer = a; frame = f }

abbrev pub begun_entered : ℕ → ℕ → ℕ → ℕ → EnterLeft → BegunFrame
begun_entered body used neqs next w = begun_frame (begun_with body used neqs next w.answer) w.frame

abbrev pub kept_begun : ℕ → Parts → ℕ → Result ℕ Failure → List ℕ → List ℕ → BegunFrame
kept_begun body s next (Ok n) h f = begun_entered body s.io n next (job_entered s.ins s.io h f)
kept_begun body s next (Err x) h f = begun_frame (Err x) f

-- an answer, and what is left in the three storages
pub record BegunLeft : Type 0 where
  pub answer : Result Configuration Failure
  pub heap : List ℕ
  pub frame : List ℕ
  pub q : List ℕ

abbrev pub begun_left : Result Configuration Failure → List ℕ → List ℕ → List ℕ → BegunLeft
begun_left a h f q = record { answer = a; heap = h; frame = f; q = q }

abbrev pub besides : List ℕ → List ℕ → BegunFrame → BegunLeft
besides h q w = begun_left w.answer h w.frame q

abbrev pub sides_begun : ℕ → Parts → List ℕ → List ℕ → RestrictAnswer → BegunLeft
sides_begun body s h f w = besides h w.cells (kept_begun body s (first_fresh_cells s.all h) w.answer h f)

abbrev pub laid_begun : ℕ → Option Parts → List ℕ → List ℕ → List ℕ → BegunLeft
laid_begun body (Some s) h f q = sides_begun body s h f (sides_taken s.io s.all h q)
laid_begun body None h f q = begun_left (Err Over) h f q

abbrev pub begun_from : ℕ → List ℕ → List ℕ → LaidLeft → BegunLeft
begun_from body f q w = laid_begun body w.answer w.heap f q

unfoldable pub begun_at : ℕ → List ℕ → List ℕ → JobEnds → Bool → List ℕ → List ℕ → List ℕ → BegunLeft
begun_at body marks nums e run h f q = begun_from body f q (job_laid marks nums e run h)
