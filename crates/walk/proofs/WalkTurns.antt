-- One turn of the walk's loop.
use Prim.Native.Nat.{ℕ, suc, ◌+◌, ◌-◌, ◌≤◌, ◌<◌}
use mathlib.Core.Path.{◌≡◌}
use mathlib.Core.List.{List}
use native.Mathlib.Omega.{arith}
use Rattle.positions.specs.declared.position.Bounds.{Bounds}
use Rattle.turns.specs.Twins.Finding.{walked}
use Rattle.walk.specs.Twins.Walking.{walk_turn, walked_left, after_turn, walked_from}
use Rattle.turns.specs.declared.found.Ending.TheVariants.{Spent}
use Rattle.turns.specs.declared.state.State.{State}

pub walk_end : {n i : ℕ} → n ≤ i → (code : List ℕ) (b : Bounds) (s : State) (h f q path saved answer : List ℕ) →
    walked_from code b (n - i) s h f q path saved answer ≡ walked_left (walked Spent s.found) h f q path saved answer
unfolding walked_from
walk_end {n} {i} l code b s h f q path saved answer = let z : n - i ≡ 0 = omega arith in rw z

pub walk_again : {n i : ℕ} → i < n → (code : List ℕ) (b : Bounds) (s : State) (h f q path saved answer : List ℕ) →
    let t = walk_turn code b s h f q path saved answer in walked_from code b (n - i) s h f q path saved answer ≡ after_turn (walked_from code b (n - (i + 1))) t t.turn
unfolding walked_from
walk_again {n} {i} l code b s h f q path saved answer = let z : n - i ≡ suc (n - (i + 1)) = omega arith in rw z
