-- Trees of the heap as entries, for cells of any content.
use Rattle.std.specs.Prelude.{ℕ, zero, suc, ◌-◌, cond, List, ltb, Option, Some, None}
use Rattle.sets.specs.Twins.Copying.{tree_end}
use Rattle.heap.specs.Twins.Entries.{PushAnswer, push_answer, pushed}

-- on from an answer
abbrev pub onward_push : (ℕ → List ℕ → PushAnswer) → Option ℕ → List ℕ → PushAnswer
onward_push again (Some n) f = again n f
onward_push again None f = push_answer None f

-- the trees from i up to `to` behind n entries, where `left` more have room
unfoldable pub trees_from : ℕ → ℕ → ℕ → ℕ → List ℕ → List ℕ → PushAnswer
trees_from zero n i to h f = cond (ltb i to) (push_answer None f) (push_answer (Some n) f)
trees_from (suc left) n i to h f =
    cond (ltb i to)
    (let w = pushed n 0 i (tree_end h i) f in onward_push (λ m g. trees_from left m (tree_end h i) to h g) w.answer w.frame)
    (push_answer (Some n) f)

abbrev pub trees_entered : ℕ → ℕ → ℕ → List ℕ → List ℕ → PushAnswer
trees_entered n from to h f = trees_from (4120 - n) n from to h f
