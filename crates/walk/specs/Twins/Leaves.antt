-- A leaf of the tree: what `meet_leaf` answers and leaves.
use Rattle.std.specs.Prelude.{ℕ, cond, List, Ok}
use Rattle.linking.specs.Twins.Code.{link_at}
use Rattle.lines.specs.Twins.Ends.{EndLeft, met_end}
use Rattle.positions.specs.declared.position.Bounds.{Bounds}
use Rattle.turns.specs.Twins.Choices.{is_result}
use Rattle.turns.specs.Twins.States.{Turn, after_end, cut_at}
use Rattle.turns.specs.declared.state.State.{State}

-- how it is left, and what is left in four storages
pub record LeafLeft : Type 0 where
  pub leaving : Turn
  pub heap : List ℕ
  pub frame : List ℕ
  pub q : List ℕ
  pub answer : List ℕ

abbrev pub leaf_left : Turn → List ℕ → List ℕ → List ℕ → List ℕ → LeafLeft
leaf_left r h f q a = record { leaving = r; heap = h; frame = f; q = q; answer = a }

abbrev pub behind_end : State → EndLeft → LeafLeft
behind_end s e = leaf_left (after_end s e.ended) e.heap e.frame e.q e.answer

unfoldable pub leaf_met : List ℕ → Bounds → State → List ℕ → List ℕ → List ℕ → List ℕ → LeafLeft
leaf_met code b s h f q a =
    cond (is_result (link_at code s.at.node.at.place).mark) (behind_end s (met_end code s.at.node b.table s.found.lines h f q a)) (leaf_left (Ok (cut_at s)) h f q a)
