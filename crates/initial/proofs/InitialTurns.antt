-- One turn of each loop, as a step of what its function is equated with.
use Prim.Native.Nat.{ℕ, zero, suc, ◌+◌, ◌-◌, ◌≤◌, ◌<◌}
use mathlib.Core.Path.{◌≡◌, ap, ◌∙◌, sym as inv}
use mathlib.Core.List.{List}
use native.Mathlib.Omega.{arith}
use native.Mathlib.Decide.{dec_le}
use borrow.Author.Tests.{lt-ltb, le-ltb, le-leb, lt-leb}
use Rattle.std.specs.Prelude.{Option, Some, None}
use Rattle.sets.specs.Twins.Copying.{tree_end}
use Rattle.heap.specs.Twins.Entries.{PushAnswer, push_answer, entry, pushed}
use Rattle.layout.proofs.LayoutTurns.{none_left, some_left}
use Rattle.initial.specs.Twins.Trees.{onward_push, trees_from, trees_entered}

module _ (n i : ℕ) (f : List ℕ) where
  pub pushed_full : 4120 ≤ n → (end : ℕ) → pushed n 0 i end f ≡ push_answer None f
  unfolding pushed
  pushed_full l end = rw (le-leb 4120 n l)

  pub pushed_on : n < 4120 → (end : ℕ) → pushed n 0 i end f ≡ push_answer (Some (n + 1)) (entry n 0 i end f)
  unfolding pushed
  pushed_on l end = rw (lt-leb 4120 n l)

  -- one entry fewer has room
  pub trees_less : (end : ℕ) (r : Option ℕ) (g : List ℕ) → push_answer r g ≡ pushed n 0 i end f → (m : ℕ) → r ≡ Some m → 4120 - m < 4120 - n
  trees_less end r g e m q = go (dec_le 4120 n)
    where
      answer : PushAnswer → Option ℕ
      answer w = w.answer

      go : Dec (4120 ≤ n) → 4120 - m < 4120 - n
      go (yes k) = let x : Some m ≡ None = inv q ∙ ap answer (e ∙ pushed_full k end) in let z : ◌≡◌ {A = ℕ} 0 1 = cc in absurd (omega arith)
      go (no k) = let x : Some m ≡ Some (n + 1) = inv q ∙ ap answer (e ∙ pushed_on (omega arith) end) in let y : m ≡ n + 1 = cc in omega arith

-- trees, one by one
module _ (n i to : ℕ) (h f : List ℕ) where
  pub trees_end : to ≤ i → trees_entered n i to h f ≡ push_answer (Some n) f
  unfolding trees_from
  trees_end l = go (4120 - n)
    where
      go : (left : ℕ) → trees_from left n i to h f ≡ push_answer (Some n) f
      go zero = rw (le-ltb i to l)
      go (suc left) = rw (le-ltb i to l)

  none_more : i < to → trees_from 0 n i to h f ≡ push_answer None f
  unfolding trees_from
  none_more l = rw (lt-ltb i to l)

  one_more : i < to → (left : ℕ) → pushed n 0 i (tree_end h i) f ≡ push_answer (Some (n + 1)) (entry n 0 i (tree_end h i) f) →
      trees_from (suc left) n i to h f ≡ trees_from left (n + 1) (tree_end h i) to h (entry n 0 i (tree_end h i) f)
  unfolding trees_from
  one_more l left e = rw (lt-ltb i to l, e)

  pub trees_turn : i < to → let w = pushed n 0 i (tree_end h i) f in
      trees_entered n i to h f ≡ onward_push (λ m g. trees_entered m (tree_end h i) to h g) w.answer w.frame
  trees_turn l = go (dec_le 4120 n)
    where
      go : Dec (4120 ≤ n) → (let w = pushed n 0 i (tree_end h i) f in trees_entered n i to h f ≡ onward_push (λ m g. trees_entered m (tree_end h i) to h g) w.answer w.frame)
      go (yes k) = rw (none_left 4120 n k, pushed_full n i f k (tree_end h i)) (none_more l)
      go (no k) =
          let j : n < 4120 = omega arith in
          rw (some_left 4120 n j, pushed_on n i f j (tree_end h i)) (one_more l (4120 - (n + 1)) (pushed_on n i f j (tree_end h i)))
