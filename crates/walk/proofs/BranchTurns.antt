-- A branch taken, of the choice at a node or of one behind it: what the calls of a function come to together.
use Prim.Native.Nat.{ℕ, ◌-◌}
use mathlib.Core.Path.{◌≡◌, refl, ap, ◌∙◌, sym as inv}
use mathlib.Core.Bool.{Bool, true, false}
use mathlib.Core.List.{List}
use borrow.Author.Tests.{eq-eqb, ne_eqb}
use Rattle.std.specs.Prelude.{Result, Err}
use Rattle.heap.specs.Twins.Moving.{left}
use Rattle.heap.specs.declared.configuration.Branches.{Branches}
use Rattle.heap.specs.declared.configuration.Configuration.{Configuration}
use Rattle.restrictions.specs.declared.failure.Failure.{Failure}
use Rattle.tracing.specs.Twins.Asking.{AskLeft, ask_left, asked_at, branches_asked}
use Rattle.tracing.specs.declared.ask.Asked.{Asked}
use Rattle.trails.specs.Twins.TrailCells.{path_left, backtracked}
use Rattle.positions.specs.Twins.Positions.{at_depth}
use Rattle.replay.specs.Twins.Replaying.{replay_left, brought_back}
use Rattle.positions.specs.declared.position.Position.{Position}
use Rattle.positions.specs.declared.position.Bounds.{Bounds}
use Rattle.turns.specs.Twins.Choices.{first_branch, is_spent}
use Rattle.turns.specs.Twins.Finding.{walked}
use Rattle.turns.specs.Twins.States.{Turn, state_at, after_move}
use Rattle.turns.specs.declared.found.Ending.TheVariants.{Done, Spent}
use Rattle.turns.specs.declared.state.State.{State}
use Rattle.walk.specs.Twins.Making.{moved_on, ChoiceLeft, choice_left, choice_recorded, BranchLeft, branch_left, behind_move, branch_taken, choice_taken, made_choice}
use Rattle.walk.specs.Twins.Backing.{false_taken, along_trail, went_back}

module _ (code : List ℕ) (walk : ℕ) (s : State) (a : Asked) (taken : Bool) (h f q path saved : List ℕ) {t : Bool} (e : t ≡ is_spent walk s.found) where
  pub branch_spends : t ≡ true → branch_left (Err (walked Spent s.found)) h f q path saved ≡ branch_taken code walk s a taken h f q path saved
  unfolding branch_taken
  branch_spends i = let z : is_spent walk s.found ≡ true = inv e ∙ i in rw z

  move_taken : t ≡ false → behind_move s path saved (moved_on code s.at.node.at a taken h f q) ≡ branch_taken code walk s a taken h f q path saved
  unfolding branch_taken
  move_taken i = let z : is_spent walk s.found ≡ false = inv e ∙ i in rw z

  pub branch_moves : t ≡ false → {m : Result Configuration Failure} {h' f' q' : List ℕ} → left m h' f' q' ≡ moved_on code s.at.node.at a taken h f q → {x : State} → x ≡ s → {r : Turn} → r ≡ after_move x m →
      branch_left r h' f' q' path saved ≡ branch_taken code walk s a taken h f q path saved
  branch_moves i {m} {h'} {f'} {q'} w j k =
      ap (λ (z : Turn). branch_left z h' f' q' path saved) (k ∙ ap (λ (z : State). after_move z m) j) ∙ ap (behind_move s path saved) w ∙ move_taken i

-- a choice that is recorded leaves the configuration as it is
recorded_at : (p : Position) (w : Branches) (base : ℕ) (f q path saved : List ℕ) → (choice_recorded p w base f q path saved).position.node.at ≡ p.node.at
unfolding choice_recorded
recorded_at p w base f q path saved = refl

module _ (code : List ℕ) (b : Bounds) (s : State) (h f q path saved : List ℕ) {a : Asked} {g : List ℕ} (asks : ask_left a g ≡ asked_at code s.at.node.at h f)
    {w : Branches} (are : w ≡ branches_asked s.at.node.at.neqs a q) {p : Position} {path' saved' : List ℕ} (recorded : choice_left p path' saved' ≡ choice_recorded s.at w b.base f q path saved) where
  abbrev by : AskLeft → Branches → BranchLeft
  by x z = choice_taken code b.walk s x z f q (choice_recorded s.at z b.base f q path saved)

  choice_is : by (ask_left a g) w ≡ made_choice code b s h f q path saved
  unfolding made_choice
  choice_is = ap (by (ask_left a g)) are ∙ ap (λ (x : AskLeft). by x (branches_asked s.at.node.at.neqs x.asked q)) asks

  choice_goes : {r : BranchLeft} → r ≡ branch_taken code b.walk (state_at p s.found) a (first_branch w) g f q path' saved' → r ≡ made_choice code b s h f q path saved
  choice_goes z = z ∙ ap (choice_taken code b.walk s (ask_left a g) w f q) recorded ∙ choice_is

  pub choice_spends : {t : Bool} → t ≡ is_spent b.walk s.found → t ≡ true → branch_left (Err (walked Spent s.found)) g f q path' saved' ≡ made_choice code b s h f q path saved
  choice_spends e i = choice_goes (branch_spends code b.walk (state_at p s.found) a (first_branch w) g f q path' saved' e i)

  pub choice_moves : {t : Bool} → t ≡ is_spent b.walk s.found → t ≡ false → {y : Bool} → y ≡ first_branch w → {m : Result Configuration Failure} {h' f' q' : List ℕ} → left m h' f' q' ≡ moved_on code s.at.node.at a y g f q →
      {x : State} → x ≡ state_at p s.found → {r : Turn} → r ≡ after_move x m → branch_left r h' f' q' path' saved' ≡ made_choice code b s h f q path saved
  choice_moves e i first to j k =
      let same : p.node.at ≡ s.at.node.at = ap (λ (x : ChoiceLeft). x.position.node.at) recorded ∙ recorded_at s.at w b.base f q path saved in
      let z = to ∙ ap (λ (y : Bool). moved_on code s.at.node.at a y g f q) first ∙ ap (λ (c : Configuration). moved_on code c a (first_branch w) g f q) (inv same) in
      choice_goes (branch_moves code b.walk (state_at p s.found) a (first_branch w) g f q path' saved' e i z j k)

module _ (code : List ℕ) (b : Bounds) (s : State) (h f q path saved : List ℕ) {d : ℕ} {path' : List ℕ} (e : path_left d path' ≡ backtracked path s.at.node.depth) where
  trail_is : along_trail code b s h f q saved (path_left d path') ≡ went_back code b s h f q path saved
  unfolding went_back
  trail_is = ap (along_trail code b s h f q saved) e

  none_untaken : d ≡ 0 → branch_left (Err (walked Done s.found)) h f q path' saved ≡ along_trail code b s h f q saved (path_left d path')
  none_untaken z = rw (eq-eqb d 0 z)

  pub back_ends : d ≡ 0 → branch_left (Err (walked Done s.found)) h f q path' saved ≡ went_back code b s h f q path saved
  back_ends z = none_untaken z ∙ trail_is

  one_untaken : (d ≡ 0 → ⊥) → false_taken code b.walk path' d s.found (brought_back code path' b.base (d - 1) b.steps s.at.top h f q saved) ≡ along_trail code b s h f q saved (path_left d path')
  one_untaken n = rw (ne_eqb d 0 n)

  pub back_goes : (d ≡ 0 → ⊥) → {p : Position} {h' f' q' saved' : List ℕ} → replay_left p h' f' q' saved' ≡ brought_back code path' b.base (d - 1) b.steps s.at.top h f q saved →
      {a : Asked} {g : List ℕ} → ask_left a g ≡ asked_at code p.node.at h' f' → {r : BranchLeft} →
      r ≡ branch_taken code b.walk (state_at (at_depth p.node d p.top) s.found) a false g f' q' path' saved' → r ≡ went_back code b s h f q path saved
  back_goes n {p} {f' = f'} {q' = q'} {saved' = saved'} w k z =
      z ∙ ap (λ (x : AskLeft). branch_taken code b.walk (state_at (at_depth p.node d p.top) s.found) x.asked false x.heap f' q' path' saved') k ∙ ap (false_taken code b.walk path' d s.found) w ∙ one_untaken n
      ∙ trail_is
