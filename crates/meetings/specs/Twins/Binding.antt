-- One binding, for cells of any content.
use Rattle.std.specs.Prelude.{ℕ, ◌+◌, List, get_or, Result, Ok, Err}
use Rattle.std.specs.declared.ops.ControlFlow.TheVariants.{Break}
use Rattle.restrictions.specs.declared.failure.Failure.{Failure}
use Rattle.restrictions.specs.declared.failure.Failure.TheVariants.{Contradiction}
use Rattle.restrictions.specs.Twins.Restricting.{RestrictAnswer}
use Rattle.heap.specs.Twins.Contracted.{Stores, contracted_entries}
use Rattle.heap.specs.Twins.Moving.{bound_restriction}
use Rattle.meetings.specs.Twins.Classes.{Step, output_entry, with_neqs, grown_by}
use Rattle.meetings.specs.declared.class.Class.{Class}

-- an answer, and what is left in heap and frame
pub record Bound : Type 0 where
  pub step : Step
  pub heap : List ℕ
  pub frame : List ℕ

abbrev pub bound : Step → List ℕ → List ℕ → Bound
bound s h f = record { step = s; heap = h; frame = f }

abbrev pub grown_stores : Class → Stores → Bound
grown_stores c w = bound (grown_by c w.answer w.frame) w.heap w.frame

unfoldable pub entries_bound : Class → ℕ → ℕ → ℕ → List ℕ → List ℕ → Bound
entries_bound c var from to h f = grown_stores c (contracted_entries 0 (output_entry c + 1) var from to c.used h f)

-- an answer, and what is left in the three storages
pub record StepLeft : Type 0 where
  pub step : Step
  pub heap : List ℕ
  pub frame : List ℕ
  pub q : List ℕ

abbrev pub step_left : Step → List ℕ → List ℕ → List ℕ → StepLeft
step_left s h f q = record { step = s; heap = h; frame = f; q = q }

abbrev pub bound_beside : List ℕ → Bound → StepLeft
bound_beside q w = step_left w.step w.heap w.frame q

abbrev pub bound_after : Class → ℕ → ℕ → ℕ → List ℕ → List ℕ → Result ℕ Failure → List ℕ → StepLeft
bound_after c var from to h f (Ok n) q = bound_beside q (entries_bound (with_neqs c n) var from to h f)
bound_after c var from to h f (Err e) q = step_left (Break (Err Contradiction)) h f q

abbrev pub bound_from : Class → ℕ → ℕ → ℕ → List ℕ → List ℕ → RestrictAnswer → StepLeft
bound_from c var from to h f w = bound_after c var from to h f w.answer w.cells

-- "a binding is tested for contradiction before 21"
unfoldable pub variable_bound : Class → ℕ → ℕ → ℕ → List ℕ → List ℕ → List ℕ → StepLeft
variable_bound c var from to h f q = bound_from c var from to h f (bound_restriction c.neqs var (get_or h from 0) q)
