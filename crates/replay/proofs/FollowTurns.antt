-- One turn of the loop that follows a path.
use Prim.Native.Nat.{ℕ, suc, ◌+◌, ◌-◌, ◌≤◌, ◌<◌}
use mathlib.Core.Path.{◌≡◌}
use mathlib.Core.Bool.{cond}
use mathlib.Core.List.{List}
use native.Mathlib.Omega.{arith}
use Rattle.replay.specs.Twins.Replaying.{is_there, replay_left, onward, follow_step, follow_from}
use Rattle.positions.specs.declared.position.Position.{Position}

pub follow_end : {n i : ℕ} → n ≤ i → (code path : List ℕ) (base last : ℕ) (p : Position) (h f q saved : List ℕ) → follow_from code path base last (n - i) p h f q saved ≡ replay_left p h f q saved
unfolding follow_from
follow_end {n} {i} l code path base last p h f q saved = let z : n - i ≡ 0 = omega arith in rw z

pub follow_turn : {n i : ℕ} → i < n → (code path : List ℕ) (base last : ℕ) (p : Position) (h f q saved : List ℕ) →
    follow_from code path base last (n - i) p h f q saved
    ≡ cond (is_there code p.node last) (replay_left p h f q saved) (onward (follow_from code path base last (n - (i + 1))) (follow_step code path base p h f q saved))
unfolding follow_from
follow_turn {n} {i} l code path base last p h f q saved = let z : n - i ≡ suc (n - (i + 1)) = omega arith in rw z
