-- The unifier, for cells of any content.
use Rattle.std.specs.Prelude.{ℕ, zero, suc, ◌+◌, cond, List, leb, ltb, Ok, Err}
use Rattle.std.specs.declared.ops.ControlFlow.TheVariants.{Continue, Break}
use Rattle.restrictions.specs.declared.failure.Failure.TheVariants.{Contradiction, Over}
use Rattle.compaction.specs.Twins.Compacting.{Compaction, compacted}
use Rattle.meetings.specs.Twins.Differing.{leftmost_in}
use Rattle.meetings.specs.Twins.Classes.{Met, Step, place_in, output_entry, wanted_entry, class_nodes, with_used, bindings_in}
use Rattle.meetings.specs.Twins.Binding.{StepLeft, step_left, variable_bound}
use Rattle.meetings.specs.declared.difference.Disagreement.{Disagreement}
use Rattle.meetings.specs.declared.difference.Disagreement.TheVariants.{Same, Apart as Differ, Bind}
use Rattle.meetings.specs.declared.class.Class.{Class}
use Rattle.meetings.specs.declared.class.Place.{Place}

abbrev pub between_places : Place → Place → List ℕ → Disagreement
between_places w u h = leftmost_in w.from w.to u.from u.to h

abbrev pub disagreement_in : Class → List ℕ → List ℕ → Disagreement
disagreement_in c h f = between_places (place_in (wanted_entry c) f) (place_in (output_entry c) f) h

abbrev pub unified_by : Class → List ℕ → List ℕ → List ℕ → Disagreement → StepLeft
unified_by c h f q Same = step_left (Break (Ok c)) h f q
unified_by c h f q Differ = step_left (Break (Err Contradiction)) h f q
unified_by c h f q (Bind var from to) = variable_bound c var from to h f q

unfoldable pub unify_stepped : Class → List ℕ → List ℕ → List ℕ → StepLeft
unify_stepped c h f q = unified_by c h f q (disagreement_in c h f)

-- a class, and what is left in heap and frame
pub record Roomed : Type 0 where
  pub class : Class
  pub heap : List ℕ
  pub frame : List ℕ

abbrev pub roomed : Class → List ℕ → List ℕ → Roomed
roomed c h f = record { class = c; heap = h; frame = f }

abbrev pub roomed_by : Class → Compaction → Roomed
roomed_by c w = roomed (with_used c w.answer) w.heap w.frame

unfoldable pub room_made : Class → List ℕ → List ℕ → Roomed
room_made c h f = cond (leb c.used 57343) (roomed c h f) (roomed_by c (compacted (output_entry c + 1) c.floor c.used h f))

abbrev pub turned_from : List ℕ → Roomed → StepLeft
turned_from q w = unify_stepped w.class w.heap w.frame q

-- room first, since it moves ranges
unfoldable pub unify_turned : Class → List ℕ → List ℕ → List ℕ → StepLeft
unify_turned c h f q = turned_from q (room_made c h f)

-- an answer, and what is left in the three storages
pub record MetLeft : Type 0 where
  pub met : Met
  pub heap : List ℕ
  pub frame : List ℕ
  pub q : List ℕ

abbrev pub met_left : Met → List ℕ → List ℕ → List ℕ → MetLeft
met_left m h f q = record { met = m; heap = h; frame = f; q = q }

abbrev pub on_step : (Class → List ℕ → List ℕ → List ℕ → MetLeft) → Step → List ℕ → List ℕ → List ℕ → MetLeft
on_step again (Continue c) h f q = again c h f q
on_step again (Break m) h f q = met_left m h f q

abbrev pub on_step_from : (Class → List ℕ → List ℕ → List ℕ → MetLeft) → StepLeft → MetLeft
on_step_from again w = on_step again w.step w.heap w.frame w.q

-- at most the given number of disagreements
unfoldable pub unified_many : ℕ → Class → List ℕ → List ℕ → List ℕ → MetLeft
unified_many zero c h f q = met_left (Err Contradiction) h f q
unified_many (suc n) c h f q = on_step_from (unified_many n) (unify_turned c h f q)

-- "21 .. at the start of an intersection or after a binding"
unfoldable pub unified : Class → List ℕ → List ℕ → List ℕ → MetLeft
unified c h f q = cond (ltb 4096 (class_nodes c f)) (met_left (Err Over) h f q) (unified_many (bindings_in c f) c h f q)
