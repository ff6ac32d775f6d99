-- A path worked out again: what each function of replay.rt answers and leaves.
use Rattle.std.specs.Prelude.{ℕ, zero, suc, Bool, true, false, cond, List, eqb, leb}
use Rattle.heap.specs.Twins.Moving.{Left}
use Rattle.linking.specs.Twins.Code.{link_at}
use Rattle.tracing.specs.Twins.Asking.{asked_at, is_call, taken_as}
use Rattle.trails.specs.Twins.TrailCells.{taken_at, pending_at}
use Rattle.saving.specs.declared.head.Node.{Node}
use Rattle.saving.specs.Twins.Saving.{SaveLeft, save_left, saved_to, loaded}
use Rattle.positions.specs.Twins.Positions.{after_step, taken_up}
use Rattle.replay.specs.Twins.Rooms.{made_room}
use Rattle.positions.specs.declared.position.Position.{Position}

abbrev pub is_there : List ℕ → Node → ℕ → Bool
is_there code n last = cond (eqb (link_at code n.at.place).mark 3) false (leb last n.depth)

abbrev pub saved_if : Bool → Position → ℕ → List ℕ → List ℕ → List ℕ → SaveLeft
saved_if true p base f q saved = saved_to f q p.node p.top base saved
saved_if false p base f q saved = save_left p.top saved

-- a position, and what is left in four storages
pub record ReplayLeft : Type 0 where
  pub position : Position
  pub heap : List ℕ
  pub frame : List ℕ
  pub q : List ℕ
  pub saved : List ℕ

abbrev pub replay_left : Position → List ℕ → List ℕ → List ℕ → List ℕ → ReplayLeft
replay_left p h f q s = record { position = p; heap = h; frame = f; q = q; saved = s }

abbrev pub stepped_to : Position → Bool → List ℕ → Left → ReplayLeft
stepped_to p decided saved w = replay_left (after_step p w.answer decided) w.heap w.frame w.q saved

unfoldable pub follow_step : List ℕ → List ℕ → ℕ → Position → List ℕ → List ℕ → List ℕ → List ℕ → ReplayLeft
follow_step code path base from h f q saved =
    let r = made_room base from saved h f in
    let p = r.position in
    let a = asked_at code p.node.at r.heap r.frame in
    let k = saved_if (pending_at path p.node.depth) p base r.frame q saved in
    cond (is_call a.asked) (stepped_to p false saved (taken_as code p.node.at a.asked true a.heap r.frame q))
    (stepped_to (record { node = p.node; top = k.top }) true k.saved (taken_as code p.node.at a.asked (taken_at path p.node.depth) a.heap r.frame q))

abbrev pub onward : (Position → List ℕ → List ℕ → List ℕ → List ℕ → ReplayLeft) → ReplayLeft → ReplayLeft
onward again w = again w.position w.heap w.frame w.q w.saved

-- `left` transitions more
unfoldable pub follow_from : List ℕ → List ℕ → ℕ → ℕ → ℕ → Position → List ℕ → List ℕ → List ℕ → List ℕ → ReplayLeft
follow_from code path base last zero p h f q saved = replay_left p h f q saved
follow_from code path base last (suc left) p h f q saved =
    cond (is_there code p.node last) (replay_left p h f q saved) (onward (follow_from code path base last left) (follow_step code path base p h f q saved))

unfoldable pub brought_back : List ℕ → List ℕ → ℕ → ℕ → ℕ → ℕ → List ℕ → List ℕ → List ℕ → List ℕ → ReplayLeft
brought_back code path base last limit top h f q saved =
    let w = loaded saved top f q in
    follow_from code path base last limit (taken_up w.back top base) h w.frame w.q saved
