-- What a turn does at a node that the storages hold: it makes the transition that is ahead, or its leaf is met and the path is exhausted, as in
-- semantics/proofs/Backtrack.antt.
use Prim.Native.Nat.{ℕ, zero, suc, ◌+◌, ◌≤◌, ◌<◌, min}
use mathlib.Core.Path.{◌≡◌, refl, ap, ap₂, subst, ◌∙◌, sym as inv}
use mathlib.Core.Bool.{Bool, true, false, cond, not, false≢true}
use mathlib.Core.List.{List, [], ◌∷◌, ◌++◌}
use mathlib.Core.Option.{Option, none, some}
use mathlib.Core.Logic.{◌⊎◌, inl, inr}
use native.Mathlib.Omega.{arith}
use lib.Dec.{eqb}
use lib.ListN.{length, set, length-set}
use borrow.Author.Tests.{le-leb, lt-leb}
use Rattle.std.specs.Prelude.{Ok, Err}
use Rattle.expressions.specs.Expression.{Exp}
use Rattle.expressions.specs.Class.{nodes_class}
use Rattle.expressions.specs.Substitution.{apply}
use Rattle.expressions.specs.Intersection.{Intersected, common, disjoint, too_large, intersect}
use Rattle.language.specs.Program.{Prog, result}
use Rattle.semantics.specs.Configuration.{subst_of_env, Configuration}
use Rattle.semantics.specs.Trace.{Successors, terminal, called, branches, successors}
use Rattle.semantics.specs.Tree.{Node, root, after_call, after_decision, meeting_at}
use Rattle.semantics.specs.Walk.{meeting_over, Limits, Stop, stop21, stop22, stop23, Untaken, WalkState, going, table_full, with_line, at_end, mark_cut}
use Rattle.semantics.proofs.Backtrack.{Choice, trail_of, PathState, on_path, with_todo, with_path, Turn, ahead, exhausted, halted, after_end, choose, extend}
use Rattle.semantics.proofs.Paths.{trail_length}
use Rattle.semantics.proofs.Soundness.{Small}
use Rattle.semantics.proofs.Reaching.{branch_of, Reaches, here, by_call, by_decision, reaches_call, reaches_decision, reaches_steps}
use Rattle.restrictions.specs.declared.restriction.Kind.{Kind}
use Rattle.restrictions.specs.declared.restriction.Kind.TheVariants.{Contradiction, Redundant, Kept as KeptAs}
use Rattle.restrictions.specs.Twins.Restricting.{kind_cells}
use Rattle.linking.specs.Twins.Code.{link_at}
use Rattle.heap.specs.Twins.Moving.{Move}
use Rattle.heap.specs.declared.configuration.Branches.{Branches}
use Rattle.heap.specs.declared.configuration.Configuration.{Configuration as InCells}
use Rattle.saving.specs.Twins.Records.{Record, record_cells}
use Rattle.saving.specs.Twins.Saving.{SaveLeft}
use Rattle.values.specs.Twins.Names.{names_from}
use Rattle.calls.specs.Twins.Calls.{called_to}
use Rattle.values.proofs.StateLaws.{is_none, Leads}
use Rattle.atoms.specs.Twins.Atoms.{sides_at}
use Rattle.atoms.specs.Twins.Choices.{branches_by, branches_of as branches_same}
use Rattle.looking.specs.Twins.Looking.{look_at}
use Rattle.looking.specs.declared.look.Tested.{Tested}
use Rattle.looking.specs.declared.look.Tested.TheVariants.{Atom, Pair, Variable, Large}
use Rattle.tracing.specs.Twins.Asking.{AskLeft, ask_left, asked_at, is_end, is_call, no_branches, branches_asked, beside, taken_as}
use Rattle.tracing.specs.declared.ask.Asked.{Asked}
use Rattle.tracing.specs.declared.ask.Asked.TheVariants.{End, Call, Same, Test}
use Rattle.tracing.proofs.ShowLaws.{Accepted, end_successors}
use Rattle.trails.specs.Twins.TrailCells.{choice_cell, pushed}
use Rattle.trails.proofs.TrailLaws.{PathHeld, path_pushed}
use Rattle.trails.proofs.ReachLaws.{Decides}
use Rattle.lines.specs.LineCells.{answer_room}
use Rattle.lines.specs.declared.line.Lines.{Lines}
use Rattle.lines.specs.Twins.Ends.{Ended, EndLeft, met_end}
use Rattle.lines.specs.declared.end.Unstored.TheVariants.{Over as EndedOver, Full as EndedFull}
use Rattle.lines.proofs.LineLaws.{LinesHeld}
use Rattle.lines.proofs.EndLaws.{EndMeans, EndKept, end_means, end_kept}
use Rattle.positions.specs.Twins.Positions.{at_depth}
use Rattle.replay.specs.Twins.Rooms.{RoomLeft, made_room}
use Rattle.replay.specs.Twins.Replaying.{saved_if}
use Rattle.positions.specs.declared.position.Bounds.{Bounds}
use Rattle.replay.proofs.RecordLaws.{Entered, Rooted}
use Rattle.replay.proofs.RoomLaws.{Kept, At, room_made_lem}
use Rattle.replay.proofs.ReplayLaws.{Holds, at_constants, Showing, showing, kept_later, choice_kept, Waiting}
use Rattle.turns.specs.Twins.Finding.{walked, with_lines, cut_off}
use Rattle.turns.specs.Twins.Choices.{is_result, is_deep, is_spent}
use Rattle.turns.specs.Twins.States.{state_at}
use Rattle.turns.specs.Twins.States as states
use Rattle.turns.specs.declared.choice.Way.TheVariants.{Leaf}
use Rattle.turns.specs.declared.found.Found.{Found}
use Rattle.turns.specs.declared.found.Ending.{Ending}
use Rattle.turns.specs.declared.found.Ending.TheVariants.{Over, Full, Spent}
use Rattle.turns.specs.declared.state.State.{State}
use Rattle.walk.specs.Twins.Leaves.{behind_end, leaf_met}
use Rattle.walk.specs.Twins.Making.{sized_left, called_left, behind_call, made_call, choice_recorded, branch_left, behind_move, branch_taken, made_choice}
use Rattle.walk.specs.Twins.Backing.{went_back, TurnLeft, beside_answer, after_leaf, turned_back}
use Rattle.walk.specs.Twins.Walking.{way_at, beside_call, by_way, walk_turn}

abbrev pub ending_of : Stop → Ending
ending_of stop21 = Over
ending_of stop22 = Full
ending_of stop23 = Spent

-- an end that a line or none comes of is not over
abbrev overs : Ended → Bool
overs (Ok l) = false
overs (Err EndedOver) = true
overs (Err EndedFull) = false

not_over : (l : Lines) → ◌≡◌ {A = Ended} (Ok l) (Err EndedOver) → ⊥
not_over l e = false≢true (ap overs e)

abbrev both_of : Bool → Bool → Branches
both_of y n = record { yes = y; no = n }

-- a term's mark says what it asks
end_mark : (code : List ℕ) (c : InCells) (h f : List ℕ) → is_end (asked_at code c h f).asked ≡ is_result (link_at code c.place).mark
unfolding asked_at
end_mark code c h f =
    let m = (link_at code c.place).mark in
    let s = sides_at code h f c in
    let t = look_at code c h f in
    pick (eqb m 3) (eqb m 4) (eqb m 5) s.left s.right t.answer t.heap
  where
    pick : (x y z : Bool) (l r : ℕ) (t : Tested) (g : List ℕ) → is_end (cond x (ask_left Call h) (cond y (ask_left (Same l r) h) (cond z (ask_left (Test t) g) (ask_left End h)))).asked ≡ cond x false (cond y false (cond z false true))
    pick true y z l r t g = refl
    pick false true z l r t g = refl
    pick false false true l r t g = refl
    pick false false false l r t g = refl

call_asked : (code : List ℕ) (c : InCells) (h f : List ℕ) → eqb (link_at code c.place).mark 3 ≡ true → asked_at code c h f ≡ ask_left Call h
unfolding asked_at
call_asked code c h f e = rw e

-- a condition has a branch
some_branch : (n : ℕ) (k : Asked) (q : List ℕ) → is_end k ≡ false → is_call k ≡ false → branches_asked n k q ≡ no_branches → ⊥
unfolding branches_same
some_branch n End q e c i = false≢true (inv e)
some_branch n Call q e c i = false≢true (inv c)
some_branch n (Same x y) q e c i = pick (kind_cells n x y q) i
  where
    pick : (k : Kind) → branches_by k ≡ no_branches → ⊥
    pick Contradiction i = false≢true (inv (ap (λ (b : Branches). b.yes) i))
    pick Redundant i = false≢true (inv (ap (λ (b : Branches). b.no) i))
    pick KeptAs i = false≢true (inv (ap (λ (b : Branches). b.yes) i))
some_branch n (Test (Atom u v w)) q e c i = false≢true (inv (ap (λ (b : Branches). b.no) i))
some_branch n (Test (Pair u v w x)) q e c i = false≢true (inv (ap (λ (b : Branches). b.yes) i))
some_branch n (Test (Variable u)) q e c i = false≢true (inv (ap (λ (b : Branches). b.yes) i))
some_branch n (Test Large) q e c i = false≢true (inv (ap (λ (b : Branches). b.yes) i))

-- what a walk has found, in cells
pub record SameFound (s : PathState) (a : List ℕ) (f : Found) : Type 0 where
  pub lines : LinesHeld s.lines s.nodes a f.lines
  pub long : answer_room ≤ length a
  pub counts : f.count ≡ s.count
  pub cuts : f.cut ≡ s.cut

module _ (p : Prog) (bodies : ℕ → ℕ) (code : List ℕ) (ok : Accepted p bodies code) (K₀ : Configuration) (N : ℕ) (most : N ≤ 1000) (y₁ : Node) (b₀ : Record) (base : ℕ) (bottom : base ≡ length (record_cells b₀)) (low-base : b₀.at.used ≤ 16384)
    (entered₀ : Entered p K₀) (m₁ : ℕ) (leads₁ : Rooted p bodies code K₀ N y₁ b₀ [] m₁ y₁) (first : b₀.depth ≡ 0)
    (lim : Limits) (few-lines : lim.table ≤ 256) (bounds : Bounds) (of_steps : bounds.steps ≡ N) (of-table : bounds.table ≡ lim.table) (of-base : bounds.base ≡ base) where
  abbrev E : Configuration → Type 0
  E K = Entered p K

  abbrev R : List Choice → ℕ → Node → Type 0
  R cs m y = Rooted p bodies code K₀ N y₁ b₀ cs m y

  abbrev pub Waits : List Choice → Type 0
  Waits ds = Waiting p bodies code ok K₀ N most y₁ b₀ base bottom low-base ds

  abbrev pub KeptOf : List ℕ → List ℕ → ℕ → ℕ → List Choice → Type 0
  KeptOf h saved used top cs = Kept p bodies code K₀ N y₁ b₀ h saved used top cs

  -- "untaken": each false branch that is said to be so is there
  abbrev pub Undone : List Choice → Type 0
  Undone [] = Unit {0}
  Undone (c ∷ cs) = (c.pending ≡ true → Waits cs) × Undone cs

  -- the path in cells
  pub record Way (cs : List Choice) (path : List ℕ) (depth : ℕ) : Type 0 where
    pub held : PathHeld cs path depth
    pub long : length path ≡ 1000
    pub undone : Undone cs

  -- what the walk has gone through, by its sizes alone
  pub reaches_small : {m k : ℕ} {x y : Node} {bs : List Bool} → Reaches p (Entered p) m x bs k y → Reaches p Small m x bs k y
  reaches_small here = here
  reaches_small (by_call e g r) = by_call e g.size (reaches_small r)
  reaches_small (by_decision e d g r) = by_decision e d g.size (reaches_small r)

  -- the storages hold a node of the walk
  pub record Walking (m : ℕ) (y : Node) (s : PathState) (h f q path saved a : List ℕ) (st : State) : Type 0 where
    pub holds : At p bodies code K₀ N y₁ b₀ 49200 y s.path st.at h f q saved
    pub leads : R s.path m y
    pub way : Way s.path path st.at.node.depth
    pub found : SameFound s a st.found

  -- the transition to i is to be made from what they hold
  pub record Ready (i : Untaken) (s : PathState) (h f q path saved a : List ℕ) (st : State) (k : Asked) (b : Bool) : Type 0 where
    pub before : List ℕ
    pub to : Leads p bodies code before st.at.node.at.used (some i.node.conf) (taken_as code st.at.node.at k b h f q)
    pub low : st.at.node.at.used ≤ 45100
    pub kept : KeptOf before saved st.at.node.at.used st.at.top s.path
    pub deep : i.node.steps ≡ suc st.at.node.steps
    pub early : st.at.node.steps < 1000
    pub depth : st.at.node.depth ≡ length s.path
    pub leads : E i.node.conf → R s.path i.left i.node
    pub small_leads : Small i.node.conf → Reaches p Small N (root K₀) (trail_of s.path) i.left i.node
    pub way : Way s.path path st.at.node.depth
    pub found : SameFound s a st.found

  -- the path has ended: what is needed to go back
  pub record Exhausted (s : PathState) (h f q path saved a : List ℕ) (st : State) : Type 0 where
    pub used : ℕ
    pub kept : KeptOf h saved used st.at.top s.path
    pub of_frame : length f ≡ 12360
    pub of_q : length q ≡ 4096
    pub way : Way s.path path st.at.node.depth
    pub found : SameFound s a st.found

  -- the turn makes the transition to i
  pub record Takes (i : Untaken) (s : PathState) (w : TurnLeft) : Type 0 where
    pub heap : List ℕ
    pub frame : List ℕ
    pub q : List ℕ
    pub path : List ℕ
    pub saved : List ℕ
    pub answer : List ℕ
    pub from : State
    pub asked : Asked
    pub branch : Bool
    pub is : w ≡ beside_answer answer (branch_taken code bounds.walk from asked branch heap frame q path saved)
    pub ready : Ready i s heap frame q path saved answer from asked branch

  -- the turn goes back
  pub record Returns (s : PathState) (w : TurnLeft) : Type 0 where
    pub heap : List ℕ
    pub frame : List ℕ
    pub q : List ℕ
    pub path : List ℕ
    pub saved : List ℕ
    pub answer : List ℕ
    pub from : State
    pub is : w ≡ beside_answer answer (went_back code bounds from heap frame q path saved)
    pub done : Exhausted s heap frame q path saved answer from

  abbrev pub NodeMeans : Turn → TurnLeft → Type 0
  NodeMeans (ahead i s) w = Takes i s w
  NodeMeans (exhausted s) w = Returns s w
  NodeMeans (halted z s) w = (g : Found) × (w.turn ≡ Err (walked (ending_of z) g)) × SameFound s w.answer g

  extend_end : (m : ℕ) (y : Node) (u : Exp) (s : PathState) → extend lim m y (terminal u) s ≡ after_end s.path (at_end lim y.steps (with_todo [] s) (intersect meeting_over (meeting_at y u)))
  extend_end zero y u s = refl
  extend_end (suc m) y u s = refl

  module _ {m : ℕ} {y : Node} {s : PathState} {h f q path saved a : List ℕ} {from : State} (w : Walking m y s h f q path saved a from) where
    abbrev roomed : RoomLeft
    roomed = made_room base from.at saved h f

    abbrev st : State
    st = state_at roomed.position from.found

    made : Holds p bodies code ok K₀ N most y₁ b₀ base bottom low-base y s.path st.at roomed.heap roomed.frame q saved
    made = (room_made_lem p bodies code K₀ N y₁ b₀ base bottom low-base (omega arith) w.holds).0

    low : st.at.node.at.used ≤ 40959
    low = (room_made_lem p bodies code K₀ N y₁ b₀ base bottom low-base (omega arith) w.holds).1

    abbrev asks : AskLeft
    asks = asked_at code st.at.node.at roomed.heap roomed.frame

    abbrev turns : TurnLeft
    turns = walk_turn code bounds from h f q path saved a

    abbrev mark : ℕ
    mark = (link_at code st.at.node.at.place).mark

    steps_are : st.at.node.steps ≡ y.steps
    steps_are = made.steps

    depths_are : st.at.node.depth ≡ length s.path
    depths_are = made.depth

    way_here : Way s.path path st.at.node.depth
    way_here = subst (λ (i : ℕ). Way s.path path i) (w.holds.depth ∙ inv depths_are) w.way

    counted : (m + y.steps ≡ N) × (length s.path ≤ y.steps)
    counted = let k = reaches_steps p E w.leads in (omega (arith, k.0), omega (arith, k.1, trail_length s.path))

    shown : (S : Successors) → successors p y.conf ≡ S → Showing p bodies code ok K₀ N most y₁ b₀ base bottom low-base made S
    shown S e = showing p bodies code ok K₀ N most y₁ b₀ base bottom low-base made S e

    turn_is : turns ≡ by_way code bounds st roomed.heap roomed.frame q path saved a (way_at code bounds st.at.node)
    unfolding walk_turn
    turn_is = rw of-base

    abbrev behind : EndLeft → TurnLeft
    behind g = after_leaf code bounds path saved (behind_end st g) (states.after_end st g.ended)

    leaf_is : way_at code bounds st.at.node ≡ Leaf → turns ≡ turned_back code bounds st roomed.heap roomed.frame q path saved a
    leaf_is e = turn_is ∙ ap (by_way code bounds st roomed.heap roomed.frame q path saved a) e

    end_way : is_result mark ≡ true → way_at code bounds st.at.node ≡ Leaf
    end_way e = rw e

    end_turns : is_result mark ≡ true → turned_back code bounds st roomed.heap roomed.frame q path saved a ≡ behind (met_end code st.at.node lim.table st.found.lines roomed.heap roomed.frame q a)
    unfolding turned_back leaf_met
    end_turns e = rw (e, of-table)

    end_is : is_result mark ≡ true → turns ≡ behind (met_end code st.at.node lim.table st.found.lines roomed.heap roomed.frame q a)
    end_is e = leaf_is (end_way e) ∙ end_turns e

    deep_way : is_result mark ≡ false → is_deep bounds st.at.node ≡ true → way_at code bounds st.at.node ≡ Leaf
    deep_way e d = rw (e, d)

    cut_turns : is_result mark ≡ false → turned_back code bounds st roomed.heap roomed.frame q path saved a ≡ beside_answer a (went_back code bounds (state_at st.at (cut_off st.found)) roomed.heap roomed.frame q path saved)
    unfolding turned_back leaf_met
    cut_turns e = rw e

    cut_is : is_result mark ≡ false → is_deep bounds st.at.node ≡ true → turns ≡ beside_answer a (went_back code bounds (state_at st.at (cut_off st.found)) roomed.heap roomed.frame q path saved)
    cut_is e d = leaf_is (deep_way e d) ∙ cut_turns e

    -- an end that the walk goes on from
    ended_on : (r : WalkState) → r.count ≡ s.count → r.cut ≡ s.cut → (g : EndLeft) → EndMeans a (going r) g.ended g.answer → (g.ended ≡ Err EndedOver) ⊎ EndKept st.at.node.at.used roomed.heap g →
        NodeMeans (exhausted (on_path s.path r)) (behind g)
    ended_on r n c g e (inl o) = absurd (not_over e.0 (inv e.1 ∙ o))
    ended_on r n c g e (inr k) = record {
      heap = g.heap;
      frame = g.frame;
      q = g.q;
      path = path;
      saved = saved;
      answer = g.answer;
      from = state_at st.at (with_lines st.found e.0);
      is = ap (λ (x : Ended). after_leaf code bounds path saved (behind_end st g) (states.after_end st x)) e.1;
      done = record {
        used = st.at.node.at.used;
        kept = kept_later p bodies code ok K₀ N most y₁ b₀ base bottom low-base made made.kept k.same k.of_heap (omega arith);
        of_frame = k.of_frame;
        of_q = k.of_q;
        way = way_here;
        found = record { lines = e.2; long = omega (arith, e.3, w.found.long); counts = w.found.counts ∙ inv n; cuts = w.found.cuts ∙ inv c };
      };
    }

    found_here : SameFound (on_path s.path (with_todo [] s)) a st.found
    found_here = record { lines = w.found.lines; long = w.found.long; counts = w.found.counts; cuts = w.found.cuts }

    ended_over : (g : EndLeft) → g.ended ≡ Err EndedOver → g.answer ≡ a → NodeMeans (halted stop21 (on_path s.path (with_todo [] s))) (behind g)
    ended_over g e t = rw (e, t) (st.found, refl, found_here)

    ended_full : (g : EndLeft) → g.ended ≡ Err EndedFull → g.answer ≡ a → NodeMeans (halted stop22 (on_path s.path (with_todo [] s))) (behind g)
    ended_full g e t = rw (e, t) (st.found, refl, found_here)

    ended_means : (k : ℕ) (I : Intersected) (g : EndLeft) → EndMeans a (at_end lim k (with_todo [] s) I) g.ended g.answer → (g.ended ≡ Err EndedOver) ⊎ EndKept st.at.node.at.used roomed.heap g →
        NodeMeans (after_end s.path (at_end lim k (with_todo [] s) I)) (behind g)
    ended_means k disjoint g e t = ended_on (with_todo [] s) refl refl g e t
    ended_means k too_large g e t = ended_over g e.0 e.1
    ended_means k (common Q) g e t = pick (table_full lim Q (with_todo [] s)) e
      where
        pick : (b : Bool) → EndMeans a (with_line k Q (with_todo [] s) b) g.ended g.answer → NodeMeans (after_end s.path (with_line k Q (with_todo [] s) b)) (behind g)
        pick true e = ended_full g e.0 e.1
        pick false e = ended_on (record { todo = []; lines = s.lines ++ (record { steps = k; class = Q } ∷ []); nodes = s.nodes + nodes_class Q; cut = s.cut; count = s.count }) refl refl g e t

    abbrev output : Exp → Exp
    output d = apply (subst_of_env y.conf.cr.con.env) d

    node_end : (d : Exp) → y.conf.term ≡ result d → asks.asked ≡ End → NodeMeans (extend lim m y (terminal (output d)) s) turns
    node_end d is o =
        let g = met_end code st.at.node lim.table st.found.lines roomed.heap roomed.frame q a in
        let i : st.at.node.steps ≤ 65535 = omega (arith, counted.0, steps_are) in
        let e = end_means p bodies code y made.stands (at_constants p bodies code ok K₀ N most y₁ b₀ base bottom low-base made) d is made.entered.size made.entered.sound.simple made.entered.scoped low lim few-lines st.at.node.steps st.at.node.depth i (with_todo [] s) a st.found.lines w.found.lines w.found.long in
        let t = end_kept p bodies code y made.stands (at_constants p bodies code ok K₀ N most y₁ b₀ base bottom low-base made) d is made.entered.size made.entered.sound.simple made.entered.scoped low lim few-lines st.at.node.steps st.at.node.depth i (with_todo [] s) a st.found.lines w.found.lines w.found.long in
        let e' : EndMeans a (at_end lim y.steps (with_todo [] s) (intersect meeting_over (meeting_at y (output d)))) g.ended g.answer =
        subst (λ (j : ℕ). EndMeans a (at_end lim j (with_todo [] s) (intersect meeting_over (meeting_at y (output d)))) g.ended g.answer) steps_are e in
        rw (extend_end m y (output d) s, end_is (inv (end_mark code st.at.node.at roomed.heap roomed.frame) ∙ ap is_end o)) (ended_means y.steps (intersect meeting_over (meeting_at y (output d))) g e' t)

    node_terminal : (u : Exp) → successors p y.conf ≡ terminal u → NodeMeans (extend lim m y (terminal u) s) turns
    node_terminal u e =
        let v = shown (terminal u) e in
        let z : terminal (output v.2.0) ≡ terminal u = inv (end_successors p y.conf v.2.0 v.2.1) ∙ e in
        subst (λ (S : Successors). NodeMeans (extend lim m y S s) turns) z (node_end v.2.0 v.2.1 v.0)

    no_end : is_end asks.asked ≡ false → is_result mark ≡ false
    no_end r = inv (end_mark code st.at.node.at roomed.heap roomed.frame) ∙ r

    -- N deep
    node_cut : m ≡ zero → is_end asks.asked ≡ false → NodeMeans (exhausted (on_path s.path (mark_cut (with_todo [] s)))) turns
    node_cut z r = record {
      heap = roomed.heap;
      frame = roomed.frame;
      q = q;
      path = path;
      saved = saved;
      answer = a;
      from = state_at st.at (cut_off st.found);
      is = cut_is (no_end r) (le-leb bounds.steps st.at.node.steps (omega (arith, of_steps, counted.0, steps_are)));
      done = record {
        used = st.at.node.at.used;
        kept = made.kept;
        of_frame = made.stands.holds.frame_size;
        of_q = made.stands.holds.q_size;
        way = way_here;
        found = record { lines = w.found.lines; long = w.found.long; counts = w.found.counts; cuts = refl };
      };
    }

    module _ (k : ℕ) (is : m ≡ suc k) where
      before_end : st.at.node.steps < N
      before_end = omega (arith, counted.0, steps_are)

      leads_here : R s.path (suc k) y
      leads_here = subst (λ (i : ℕ). R s.path i y) is w.leads

      not_deep : is_deep bounds st.at.node ≡ false
      not_deep = lt-leb bounds.steps st.at.node.steps (omega (arith, of_steps, before_end))

      call_is : eqb mark 3 ≡ true → turns ≡ beside_answer a (branch_taken code bounds.walk st asks.asked true asks.heap roomed.frame q path saved)
      unfolding made_call branch_taken
      call_is e =
          let c = st.at.node.at in
          rw (turn_is, e, not_deep, call_asked code c roomed.heap roomed.frame e) (pick (is_spent bounds.walk st.found) (called_to code (names_from c) c roomed.heap roomed.frame))
        where
          pick : (t : Bool) (w : Move) → beside_call q path saved a (cond t (called_left (Err (walked Spent st.found)) roomed.heap roomed.frame) (behind_call st w)) ≡
              beside_answer a (cond t (branch_left (Err (walked Spent st.found)) roomed.heap roomed.frame q path saved) (behind_move st path saved (sized_left (beside q w))))
          pick true w = refl
          pick false w = refl

      node_call : (c : Configuration) → successors p y.conf ≡ called c → NodeMeans (ahead (record { left = k; node = after_call y c }) s) turns
      node_call c e =
          let v = shown (called c) e in
          record {
            heap = asks.heap;
            frame = roomed.frame;
            q = q;
            path = path;
            saved = saved;
            answer = a;
            from = st;
            asked = asks.asked;
            branch = true;
            is = call_is (v.3.calls ∙ v.1);
            ready = record {
              before = roomed.heap;
              to = v.2 true;
              low = omega (arith, low);
              kept = made.kept;
              deep = ap suc (inv steps_are);
              early = omega (arith, before_end);
              depth = depths_are;
              leads = λ g. reaches_call p E leads_here e g;
              small_leads = λ g. reaches_call p Small (reaches_small leads_here) e g;
              way = way_here;
              found = w.found;
            };
          }

      short : length s.path < 1000
      short = omega (arith, counted.0, counted.1)

      -- a choice
      module _ (b c : Option Configuration) (e : successors p y.conf ≡ branches b c) where
        decider : Decides p y
        decider = record { yes_to = b; no_to = c; branching = e }

        abbrev keeping : Bool → SaveLeft
        keeping both = saved_if both st.at base roomed.frame q saved

        abbrev chosen : Bool → Bool → State
        chosen t both = state_at (at_depth st.at.node (pushed st.at.node.depth t both path).depth (keeping both).top) st.found

        way_on : (t both : Bool) → (both ≡ true → Waits s.path) → Way (record { taken = t; pending = both } ∷ s.path) (pushed st.at.node.depth t both path).path (pushed st.at.node.depth t both path).depth
        way_on t both u =
            let h = path_pushed (record { taken = t; pending = both }) way_here.held (omega (arith, way_here.long, short)) in
            let z : st.at.node.depth + 1 ≡ min st.at.node.depth 65535 + 1 = omega (arith, depths_are, short) in
            record {
              held = subst (λ (i : ℕ). PathHeld (record { taken = t; pending = both } ∷ s.path) (set path st.at.node.depth (choice_cell t both)) i) z h;
              long = length-set path st.at.node.depth (choice_cell t both) ∙ way_here.long;
              undone = (u, w.way.undone);
            }

        chooses : (t both : Bool) (L : Configuration) → branch_of t b c ≡ some L → (both ≡ true → Waits s.path) → st.at.node.at.place < 4097 →
            Leads p bodies code roomed.heap st.at.node.at.used (some L) (taken_as code st.at.node.at asks.asked t asks.heap roomed.frame q) →
            Ready (record { left = k; node = after_decision y t L }) (with_path (record { taken = t; pending = both } ∷ s.path) s) asks.heap roomed.frame q (pushed st.at.node.depth t both path).path (keeping both).saved a (chosen t both) asks.asked t
        chooses t both L d u place l =
            let kept₁ = choice_kept p bodies code ok K₀ N most y₁ b₀ base bottom low-base made m w.leads decider low place (omega (arith, short)) (omega (arith, counted.0)) (record { taken = t; pending = both }) in
            record {
              before = roomed.heap;
              to = l;
              low = omega (arith, low);
              kept = kept₁;
              deep = ap suc (inv steps_are);
              early = omega (arith, before_end);
              depth = omega (arith, depths_are, short);
              leads = λ g. reaches_decision p E t leads_here e d g;
              small_leads = λ g. reaches_decision p Small t (reaches_small leads_here) e d g;
              way = way_on t both u;
              found = record { lines = w.found.lines; long = w.found.long; counts = w.found.counts; cuts = w.found.cuts };
            }

      no_wait : {ds : List Choice} → false ≡ true → Waits ds
      no_wait i = absurd (false≢true i)

      module _ (b c : Option Configuration) (e : successors p y.conf ≡ branches b c) where
        choice_is : (yes_to no_to : Bool) → branches_asked st.at.node.at.neqs asks.asked q ≡ both_of yes_to no_to → is_result mark ≡ false → eqb mark 3 ≡ false → let both = cond yes_to no_to false in
            turns ≡ beside_answer a (branch_taken code bounds.walk (chosen b c e yes_to both) asks.asked yes_to asks.heap roomed.frame q (pushed st.at.node.depth yes_to both path).path (keeping b c e both).saved)
        unfolding made_choice choice_recorded
        choice_is y n t r i = rw (turn_is, r, not_deep, i, t, of-base)

        takes : (t both : Bool) (L : Configuration) → branch_of t b c ≡ some L → (both ≡ true → Waits s.path) → st.at.node.at.place < 4097 →
            Leads p bodies code roomed.heap st.at.node.at.used (some L) (taken_as code st.at.node.at asks.asked t asks.heap roomed.frame q) →
            turns ≡ beside_answer a (branch_taken code bounds.walk (chosen b c e t both) asks.asked t asks.heap roomed.frame q (pushed st.at.node.depth t both path).path (keeping b c e both).saved) →
            Takes (record { left = k; node = after_decision y t L }) (with_path (record { taken = t; pending = both } ∷ s.path) s) turns
        takes t both L d u place l i = record {
          heap = asks.heap;
          frame = roomed.frame;
          q = q;
          path = (pushed st.at.node.depth t both path).path;
          saved = (keeping b c e both).saved;
          answer = a;
          from = chosen b c e t both;
          asked = asks.asked;
          branch = t;
          is = i;
          ready = chooses b c e t both L d u place l;
        }

      chosen_means : (b c : Option Configuration) (e : successors p y.conf ≡ branches b c) → is_end asks.asked ≡ false → is_call asks.asked ≡ false → eqb mark 3 ≡ false →
          branches_asked st.at.node.at.neqs asks.asked q ≡ both_of (not (is_none b)) (not (is_none c)) → st.at.node.at.place < 4097 →
          Leads p bodies code roomed.heap st.at.node.at.used b (taken_as code st.at.node.at asks.asked true asks.heap roomed.frame q) →
          Leads p bodies code roomed.heap st.at.node.at.used c (taken_as code st.at.node.at asks.asked false asks.heap roomed.frame q) → NodeMeans (choose k y b c s) turns
      chosen_means none none e r o i t place f g = absurd (some_branch st.at.node.at.neqs asks.asked q r o t)
      chosen_means none (some d) e r o i t place f g = takes none (some d) e false false d refl no_wait place g (choice_is none (some d) e false true t (no_end r) i)
      chosen_means (some c) none e r o i t place f g = takes (some c) none e true false c refl no_wait place f (choice_is (some c) none e true false t (no_end r) i)
      chosen_means (some c) (some d) e r o i t place f g =
          takes (some c) (some d) e true true c refl (λ i. record { left = k; node = y; yes_to = some c; no_to = d; leads = leads_here; decides = e }) place f (choice_is (some c) (some d) e true true t (no_end r) i)

      node_branches : (b c : Option Configuration) → successors p y.conf ≡ branches b c → NodeMeans (choose k y b c s) turns
      node_branches b c e = let v = shown (branches b c) e in chosen_means b c e v.0 v.1 (v.6.calls ∙ v.1) (ap₂ both_of v.2 v.3) v.6.place v.4 v.5

    -- THE LAW of a node: what a turn does there is what `extend` has.
    pub node_means : NodeMeans (extend lim m y (successors p y.conf) s) turns
    node_means = go m refl (successors p y.conf) refl
      where
        go : (i : ℕ) → m ≡ i → (S : Successors) → successors p y.conf ≡ S → NodeMeans (extend lim i y S s) turns
        go zero z (terminal u) e = subst (λ (i : ℕ). NodeMeans (extend lim i y (terminal u) s) turns) z (node_terminal u e)
        go zero z (called c) e = node_cut z (shown (called c) e).0
        go zero z (branches b c) e = node_cut z (shown (branches b c) e).0
        go (suc k) z (terminal u) e = subst (λ (i : ℕ). NodeMeans (extend lim i y (terminal u) s) turns) z (node_terminal u e)
        go (suc k) z (called c) e = node_call k z c e
        go (suc k) z (branches b c) e = node_branches k z b c e
