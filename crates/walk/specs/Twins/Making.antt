-- A transition made: what each function of make.rt answers and leaves.
use Rattle.std.specs.Prelude.{ℕ, Bool, cond, List, Result, Ok, Err}
use Rattle.restrictions.specs.declared.failure.Failure.{Failure}
use Rattle.heap.specs.Twins.Moving.{Move, Left, left}
use Rattle.heap.specs.declared.configuration.Branches.{Branches}
use Rattle.heap.specs.declared.configuration.Configuration.{Configuration}
use Rattle.values.specs.Twins.Names.{names_from}
use Rattle.values.specs.Twins.Sizes.{sized_as}
use Rattle.calls.specs.Twins.Calls.{called_to}
use Rattle.tracing.specs.Twins.Asking.{AskLeft, asked_at, branches_asked, taken_as}
use Rattle.tracing.specs.declared.ask.Asked.{Asked}
use Rattle.trails.specs.Twins.TrailCells.{pushed}
use Rattle.positions.specs.Twins.Positions.{at_depth}
use Rattle.replay.specs.Twins.Replaying.{saved_if}
use Rattle.positions.specs.declared.position.Position.{Position}
use Rattle.positions.specs.declared.position.Bounds.{Bounds}
use Rattle.turns.specs.Twins.Choices.{is_both, first_branch, is_spent}
use Rattle.turns.specs.Twins.Finding.{walked}
use Rattle.turns.specs.Twins.States.{Turn, state_at, after_move}
use Rattle.turns.specs.declared.found.Ending.TheVariants.{Spent}
use Rattle.turns.specs.declared.state.State.{State}

abbrev pub sized_move : Result Configuration Failure → List ℕ → Result Configuration Failure
sized_move (Ok c) f = sized_as c f
sized_move (Err e) f = Err e

abbrev pub sized_left : Left → Left
sized_left w = left (sized_move w.answer w.frame) w.heap w.frame w.q

abbrev pub moved_on : List ℕ → Configuration → Asked → Bool → List ℕ → List ℕ → List ℕ → Left
moved_on code c a taken h f q = sized_left (taken_as code c a taken h f q)

-- a turn, and what is left of heap and frame
pub record CalledLeft : Type 0 where
  pub turn : Turn
  pub heap : List ℕ
  pub frame : List ℕ

abbrev pub called_left : Turn → List ℕ → List ℕ → CalledLeft
called_left t h f = record { turn = t; heap = h; frame = f }

abbrev pub behind_call : State → Move → CalledLeft
behind_call s w = called_left (after_move s (sized_move w.answer w.frame)) w.heap w.frame

unfoldable pub made_call : List ℕ → State → ℕ → List ℕ → List ℕ → CalledLeft
made_call code s walk h f =
    let c = s.at.node.at in
    cond (is_spent walk s.found) (called_left (Err (walked Spent s.found)) h f) (behind_call s (called_to code (names_from c) c h f))

-- a position, and what is left of the path and of what is saved
pub record ChoiceLeft : Type 0 where
  pub position : Position
  pub path : List ℕ
  pub saved : List ℕ

abbrev pub choice_left : Position → List ℕ → List ℕ → ChoiceLeft
choice_left p path saved = record { position = p; path = path; saved = saved }

unfoldable pub choice_recorded : Position → Branches → ℕ → List ℕ → List ℕ → List ℕ → List ℕ → ChoiceLeft
choice_recorded p w base f q path saved =
    let d = pushed p.node.depth (first_branch w) (is_both w) path in
    let k = saved_if (is_both w) p base f q saved in
    choice_left (at_depth p.node d.depth k.top) d.path k.saved

-- a turn, and what is left in five storages
pub record BranchLeft : Type 0 where
  pub turn : Turn
  pub heap : List ℕ
  pub frame : List ℕ
  pub q : List ℕ
  pub path : List ℕ
  pub saved : List ℕ

abbrev pub branch_left : Turn → List ℕ → List ℕ → List ℕ → List ℕ → List ℕ → BranchLeft
branch_left t h f q p s = record { turn = t; heap = h; frame = f; q = q; path = p; saved = s }

abbrev pub behind_move : State → List ℕ → List ℕ → Left → BranchLeft
behind_move s path saved w = branch_left (after_move s w.answer) w.heap w.frame w.q path saved

-- the transition from s by a branch of what it asks: "23 a transition would be number W+1"
unfoldable pub branch_taken : List ℕ → ℕ → State → Asked → Bool → List ℕ → List ℕ → List ℕ → List ℕ → List ℕ → BranchLeft
branch_taken code walk s a taken h f q path saved =
    cond (is_spent walk s.found) (branch_left (Err (walked Spent s.found)) h f q path saved) (behind_move s path saved (moved_on code s.at.node.at a taken h f q))

abbrev pub choice_taken : List ℕ → ℕ → State → AskLeft → Branches → List ℕ → List ℕ → ChoiceLeft → BranchLeft
choice_taken code walk s a w f q k = branch_taken code walk (state_at k.position s.found) a.asked (first_branch w) a.heap f q k.path k.saved

unfoldable pub made_choice : List ℕ → Bounds → State → List ℕ → List ℕ → List ℕ → List ℕ → List ℕ → BranchLeft
made_choice code b s h f q path saved =
    let a = asked_at code s.at.node.at h f in
    let w = branches_asked s.at.node.at.neqs a.asked q in
    choice_taken code b.walk s a w f q (choice_recorded s.at w b.base f q path saved)
