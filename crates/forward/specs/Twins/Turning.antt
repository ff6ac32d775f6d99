-- One transition of a run, over cells of any content.
use Rattle.std.specs.Prelude.{ℕ, ◌-◌, min, Bool, cond, List, ltb, Result, Ok, Err}
use Rattle.restrictions.specs.declared.failure.Failure.{Failure}
use Rattle.std.specs.declared.ops.ControlFlow.{ControlFlow}
use Rattle.std.specs.declared.ops.ControlFlow.TheVariants.{Continue, Break}
use Rattle.compaction.specs.Twins.Compacting.{Compaction, compacted}
use Rattle.heap.specs.Twins.Entries.{nodes_from}
use Rattle.heap.specs.Twins.Moving.{Left}
use Rattle.heap.specs.declared.configuration.Configuration.{Configuration}
use Rattle.tracing.specs.Twins.Asking.{AskLeft, asked_at, branches_asked, taken_as}
use Rattle.tracing.specs.declared.ask.Asked.{Asked}
use Rattle.forward.specs.Twins.Next.{next_place, ends_at, over_in}
use Rattle.forward.specs.Twins.Output.{OutLeft, output_put}
use Rattle.running.specs.Twins.Answers.{ran_by}
use Rattle.run_answers.specs.declared.run.Ran.{Ran}
use Rattle.run_answers.specs.declared.run.Ran.TheVariants.{Over}

unfoldable pub used_as : Configuration → ℕ → Configuration
used_as c used = record { inputs = c.inputs; outputs = c.outputs; entries = c.entries; used = used; neqs = c.neqs; place = c.place; counter = c.counter }

-- a configuration, and what is left in heap and frame
pub record RoomLeft : Type 0 where
  pub at : Configuration
  pub heap : List ℕ
  pub frame : List ℕ

abbrev pub room_left : Configuration → List ℕ → List ℕ → RoomLeft
room_left c h f = record { at = c; heap = h; frame = f }

abbrev pub roomed_to : Configuration → Compaction → RoomLeft
roomed_to c w = room_left (used_as c w.answer) w.heap w.frame

unfoldable pub roomed : Configuration → List ℕ → List ℕ → RoomLeft
roomed c h f = cond (ltb 40959 c.used) (roomed_to c (compacted c.entries 0 c.used h f)) (room_left c h f)

-- "at an end of the inputs and the output": how many nodes an output may have
abbrev pub output_room : Configuration → List ℕ → ℕ
output_room c f = 4096 - nodes_from (min c.inputs 4120) 0 f

-- what a run comes to, and what is left in heap and answer storage
pub record FinishLeft : Type 0 where
  pub ran : Ran
  pub heap : List ℕ
  pub answer : List ℕ

abbrev pub finish_left : Ran → List ℕ → List ℕ → FinishLeft
finish_left r h d = record { ran = r; heap = h; answer = d }

abbrev pub finished_by : ℕ → OutLeft → FinishLeft
finished_by steps w = finish_left (ran_by steps w.answer) w.heap w.cells

unfoldable pub finished : List ℕ → Configuration → Asked → ℕ → ℕ → List ℕ → List ℕ → List ℕ → FinishLeft
finished code c a i steps h f d = finished_by steps (output_put code c a (output_room c f) f i h d)

-- the next state, or what the run comes to
abbrev pub Turn : Type 0
Turn = ControlFlow Ran Configuration

-- a turn, and what is left in heap, frame and non-equalities
pub record TurnBy : Type 0 where
  pub turn : Turn
  pub heap : List ℕ
  pub frame : List ℕ
  pub q : List ℕ

abbrev pub turn_by : Turn → List ℕ → List ℕ → List ℕ → TurnBy
turn_by t h f q = record { turn = t; heap = h; frame = f; q = q }

-- "21 .. after a transition"
abbrev pub sized_turn : Result Configuration Failure → List ℕ → Turn
sized_turn (Ok d) f = cond (over_in d f) (Break Over) (Continue d)
sized_turn (Err e) f = Break Over

abbrev pub sized_left : Left → TurnBy
sized_left w = turn_by (sized_turn w.answer w.frame) w.heap w.frame w.q

unfoldable pub advanced : List ℕ → Configuration → Asked → Bool → List ℕ → List ℕ → List ℕ → TurnBy
advanced code c a b h f q = sized_left (taken_as code c a b h f q)

-- with the answer storage
pub record TurnLeft : Type 0 where
  pub turn : Turn
  pub heap : List ℕ
  pub frame : List ℕ
  pub q : List ℕ
  pub answer : List ℕ

abbrev pub turn_left : Turn → List ℕ → List ℕ → List ℕ → List ℕ → TurnLeft
turn_left t h f q d = record { turn = t; heap = h; frame = f; q = q; answer = d }

abbrev pub ended_turn : List ℕ → List ℕ → FinishLeft → TurnLeft
ended_turn f q w = turn_left (Break w.ran) w.heap f q w.answer

abbrev pub went_turn : List ℕ → TurnBy → TurnLeft
went_turn d w = turn_left w.turn w.heap w.frame w.q d

-- by the branch that is taken, b
abbrev pub turned_by : List ℕ → Configuration → ℕ → Asked → Bool → List ℕ → List ℕ → List ℕ → List ℕ → TurnLeft
turned_by code c steps a b h f q d =
    let i = next_place code c.place b in cond (ends_at code i) (ended_turn f q (finished code c a i steps h f d)) (went_turn d (advanced code c a b h f q))

abbrev pub turned_asked : List ℕ → Configuration → ℕ → AskLeft → List ℕ → List ℕ → List ℕ → TurnLeft
turned_asked code c steps w f q d = turned_by code c steps w.asked (branches_asked c.neqs w.asked q).yes w.heap f q d

abbrev pub turned_from : List ℕ → ℕ → RoomLeft → List ℕ → List ℕ → TurnLeft
turned_from code steps m q d = turned_asked code m.at steps (asked_at code m.at m.heap m.frame) m.frame q d

-- the last of `steps` transitions
unfoldable pub turned : List ℕ → Configuration → ℕ → List ℕ → List ℕ → List ℕ → List ℕ → TurnLeft
turned code c steps h f q d = turned_from code steps (roomed c h f) q d
