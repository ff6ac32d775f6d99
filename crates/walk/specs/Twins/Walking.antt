-- The walk over cells: what each function of walk.rt answers and leaves.
use Rattle.std.specs.Prelude.{ℕ, zero, suc, ◌+◌, min, List, Ok, Err}
use Rattle.linking.specs.Twins.Code.{link_at}
use Rattle.saving.specs.declared.head.Node.{Node}
use Rattle.replay.specs.Twins.Rooms.{RoomLeft, made_room}
use Rattle.positions.specs.declared.position.Bounds.{Bounds}
use Rattle.turns.specs.Twins.Finding.{walked}
use Rattle.turns.specs.Twins.Choices.{way_on}
use Rattle.turns.specs.Twins.States.{Turn, state_at}
use Rattle.walk.specs.Twins.Making.{CalledLeft, made_call, made_choice}
use Rattle.walk.specs.Twins.Backing.{TurnLeft, turn_left, beside_answer, turned_back}
use Rattle.turns.specs.declared.choice.Way.{Way}
use Rattle.turns.specs.declared.choice.Way.TheVariants.{Call, Choice, Leaf}
use Rattle.turns.specs.declared.found.Ending.TheVariants.{Spent}
use Rattle.turns.specs.declared.found.Found.{Found}
use Rattle.turns.specs.declared.found.Walked.{Walked}
use Rattle.turns.specs.declared.state.State.{State}

abbrev pub way_at : List ℕ → Bounds → Node → Way
way_at code b n = way_on (link_at code n.at.place).mark b n

abbrev pub beside_call : List ℕ → List ℕ → List ℕ → List ℕ → CalledLeft → TurnLeft
beside_call q path saved a w = turn_left w.turn w.heap w.frame q path saved a

abbrev pub by_way : List ℕ → Bounds → State → List ℕ → List ℕ → List ℕ → List ℕ → List ℕ → List ℕ → Way → TurnLeft
by_way code b s h f q path saved a Call = beside_call q path saved a (made_call code s b.walk h f)
by_way code b s h f q path saved a Choice = beside_answer a (made_choice code b s h f q path saved)
by_way code b s h f q path saved a Leaf = turned_back code b s h f q path saved a

abbrev pub in_room : List ℕ → Bounds → Found → List ℕ → List ℕ → List ℕ → List ℕ → RoomLeft → TurnLeft
in_room code b found q path saved a r = by_way code b (state_at r.position found) r.heap r.frame q path saved a (way_at code b r.position.node)

unfoldable pub walk_turn : List ℕ → Bounds → State → List ℕ → List ℕ → List ℕ → List ℕ → List ℕ → List ℕ → TurnLeft
walk_turn code b s h f q path saved a = in_room code b s.found q path saved a (made_room b.base s.at saved h f)

-- what a walk comes to, and what is left in its storages
pub record WalkedLeft : Type 0 where
  pub walked : Walked
  pub heap : List ℕ
  pub frame : List ℕ
  pub q : List ℕ
  pub path : List ℕ
  pub saved : List ℕ
  pub answer : List ℕ

abbrev pub walked_left : Walked → List ℕ → List ℕ → List ℕ → List ℕ → List ℕ → List ℕ → WalkedLeft
walked_left r h f q p s a = record { walked = r; heap = h; frame = f; q = q; path = p; saved = s; answer = a }

abbrev pub after_turn : (State → List ℕ → List ℕ → List ℕ → List ℕ → List ℕ → List ℕ → WalkedLeft) → TurnLeft → Turn → WalkedLeft
after_turn again w (Ok s) = again s w.heap w.frame w.q w.path w.saved w.answer
after_turn again w (Err r) = walked_left r w.heap w.frame w.q w.path w.saved w.answer

-- `left` turns more
unfoldable pub walked_from : List ℕ → Bounds → ℕ → State → List ℕ → List ℕ → List ℕ → List ℕ → List ℕ → List ℕ → WalkedLeft
walked_from code b zero s h f q path saved answer = walked_left (walked Spent s.found) h f q path saved answer
walked_from code b (suc left) s h f q path saved answer = let t = walk_turn code b s h f q path saved answer in after_turn (walked_from code b left) t t.turn

abbrev pub walked_on : List ℕ → Bounds → State → List ℕ → List ℕ → List ℕ → List ℕ → List ℕ → List ℕ → WalkedLeft
walked_on code b s h f q path saved answer = walked_from code b (min b.walk 1000000 + 1) s h f q path saved answer
