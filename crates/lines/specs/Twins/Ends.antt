-- The end of a path: what each function of end.rt answers and leaves.
use Rattle.std.specs.Prelude.{ℕ, List, Option, Some, None, Result, Ok, Err, ok_or}
use Rattle.meetings.specs.Twins.Classes.{Met}
use Rattle.restrictions.specs.declared.failure.Failure.TheVariants.{Contradiction, Over as MetOver}
use Rattle.heap.specs.Twins.Entries.{pushed}
use Rattle.heap.specs.declared.configuration.Configuration.{Configuration}
use Rattle.saving.specs.declared.head.Node.{Node}
use Rattle.values.specs.Twins.Names.{names_from}
use Rattle.values.specs.Twins.Values.{value_at}
use Rattle.values.specs.declared.value.Valued.{Valued}
use Rattle.meetings.specs.Twins.Unifying.{MetLeft, met_left, unified}
use Rattle.meetings.specs.declared.class.Class.{Class}
use Rattle.lines.specs.Twins.Lines.{line_added}
use Rattle.lines.specs.declared.line.Lines.{Lines}
use Rattle.lines.specs.declared.end.Unstored.{Unstored}
use Rattle.lines.specs.declared.end.Unstored.TheVariants.{Over, Full}

abbrev pub class_at : Configuration → ℕ → Class
class_at c used = record { entries = names_from c; used = used; neqs = c.neqs; floor = c.used }

abbrev pub value_met : Configuration → Option Valued → List ℕ → List ℕ → List ℕ → MetLeft
value_met c (Some v) h f q = unified (class_at c v.used) h (pushed (names_from c) v.known v.from v.to f).frame q
value_met c None h f q = met_left (Err MetOver) h f q

unfoldable pub output_met : List ℕ → Configuration → List ℕ → List ℕ → List ℕ → MetLeft
output_met code c h f q = let v = value_at code f (names_from c) c.used c.place h in value_met c v.answer v.heap f q

abbrev pub Ended : Type 0
Ended = Result Lines Unstored

abbrev pub ended_as : Option Lines → Ended
ended_as a = ok_or a Full

pub record EndLeft : Type 0 where
  pub ended : Ended
  pub heap : List ℕ
  pub frame : List ℕ
  pub q : List ℕ
  pub answer : List ℕ

abbrev pub end_left : Ended → List ℕ → List ℕ → List ℕ → List ℕ → EndLeft
end_left r h f q a = record { ended = r; heap = h; frame = f; q = q; answer = a }

abbrev pub after_meeting : ℕ → ℕ → Lines → List ℕ → MetLeft → Met → EndLeft
after_meeting steps table l a w (Ok c) =
    let d = line_added c steps table l w.heap w.frame w.q a in end_left (ended_as d.added) w.heap w.frame w.q d.answer
after_meeting steps table l a w (Err Contradiction) = end_left (Ok l) w.heap w.frame w.q a
after_meeting steps table l a w (Err MetOver) = end_left (Err Over) w.heap w.frame w.q a

unfoldable pub met_end : List ℕ → Node → ℕ → Lines → List ℕ → List ℕ → List ℕ → List ℕ → EndLeft
met_end code n table l h f q a = let w = output_met code n.at h f q in after_meeting n.steps table l a w w.met
