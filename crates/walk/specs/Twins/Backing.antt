-- Behind a leaf: what each function of back.rt answers and leaves.
use Rattle.std.specs.Prelude.{ℕ, ◌-◌, false, cond, List, eqb, Ok, Err}
use Rattle.tracing.specs.Twins.Asking.{asked_at}
use Rattle.trails.specs.Twins.TrailCells.{PathLeft, backtracked}
use Rattle.positions.specs.Twins.Positions.{at_depth}
use Rattle.replay.specs.Twins.Replaying.{ReplayLeft, brought_back}
use Rattle.positions.specs.declared.position.Bounds.{Bounds}
use Rattle.turns.specs.Twins.Finding.{walked}
use Rattle.turns.specs.Twins.States.{Turn, state_at}
use Rattle.turns.specs.declared.found.Found.{Found}
use Rattle.turns.specs.declared.found.Ending.TheVariants.{Done}
use Rattle.turns.specs.declared.state.State.{State}
use Rattle.walk.specs.Twins.Leaves.{LeafLeft, leaf_met}
use Rattle.walk.specs.Twins.Making.{BranchLeft, branch_left, branch_taken}

abbrev pub false_taken : List ℕ → ℕ → List ℕ → ℕ → Found → ReplayLeft → BranchLeft
false_taken code walk path depth found w =
    let n = w.position.node in
    let a = asked_at code n.at w.heap w.frame in
    branch_taken code walk (state_at (at_depth n depth w.position.top) found) a.asked false a.heap w.frame w.q path w.saved

abbrev pub along_trail : List ℕ → Bounds → State → List ℕ → List ℕ → List ℕ → List ℕ → PathLeft → BranchLeft
along_trail code b s h f q saved t =
    cond (eqb t.depth 0) (branch_left (Err (walked Done s.found)) h f q t.path saved)
    (false_taken code b.walk t.path t.depth s.found (brought_back code t.path b.base (t.depth - 1) b.steps s.at.top h f q saved))

unfoldable pub went_back : List ℕ → Bounds → State → List ℕ → List ℕ → List ℕ → List ℕ → List ℕ → BranchLeft
went_back code b s h f q path saved = along_trail code b s h f q saved (backtracked path s.at.node.depth)

-- a turn, and what is left in the storages of a walk
pub record TurnLeft : Type 0 where
  pub turn : Turn
  pub heap : List ℕ
  pub frame : List ℕ
  pub q : List ℕ
  pub path : List ℕ
  pub saved : List ℕ
  pub answer : List ℕ

abbrev pub turn_left : Turn → List ℕ → List ℕ → List ℕ → List ℕ → List ℕ → List ℕ → TurnLeft
turn_left t h f q p s a = record { turn = t; heap = h; frame = f; q = q; path = p; saved = s; answer = a }

abbrev pub beside_answer : List ℕ → BranchLeft → TurnLeft
beside_answer a w = turn_left w.turn w.heap w.frame w.q w.path w.saved a

abbrev pub after_leaf : List ℕ → Bounds → List ℕ → List ℕ → LeafLeft → Turn → TurnLeft
after_leaf code b path saved w (Ok s) = beside_answer w.answer (went_back code b s w.heap w.frame w.q path saved)
after_leaf code b path saved w (Err r) = turn_left (Err r) w.heap w.frame w.q path saved w.answer

unfoldable pub turned_back : List ℕ → Bounds → State → List ℕ → List ℕ → List ℕ → List ℕ → List ℕ → List ℕ → TurnLeft
turned_back code b s h f q path saved a = let w = leaf_met code b s h f q a in after_leaf code b path saved w w.leaving
