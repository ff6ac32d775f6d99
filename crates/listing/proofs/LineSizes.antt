-- A line has at most 4,096 nodes: "21 over 4,096 nodes: .. at the start of an intersection or after a binding".
use Prim.Native.Nat.{ℕ, zero, suc, ◌≤◌}
use mathlib.Core.Path.{◌≡◌, refl}
use mathlib.Core.Bool.{Bool, true, false}
use mathlib.Core.List.{List, [], ◌∷◌}
use mathlib.Core.Option.{Option, none, some}
use native.Mathlib.Omega.{arith}
use borrow.Author.Tests.{ltb-false}
use Rattle.expressions.specs.Contraction.{CRPair, Contraction, identity, contra, bind_e, bind_a, non_equal, contract}
use Rattle.expressions.specs.Class.{IOClass, nodes_class}
use Rattle.expressions.specs.Intersection.{meeting, Intersected, common, disjoint, too_large, disagreement, unless_over, after_binding, unify_step, unify, bindings_enough, intersect, nodes_meeting}
use Rattle.language.specs.Program.{Prog}
use Rattle.semantics.specs.Lists.{All}
use Rattle.semantics.specs.Configuration.{Configuration, start}
use Rattle.semantics.specs.Trace.{Successors, terminal, called, branches, successors}
use Rattle.semantics.specs.Tree.{Node, root, Line, meeting_at}
use Rattle.semantics.specs.Walk.{meeting_over, state_over, Limits, Untaken, WalkState, Walked, going, stopped, at_start, table_full, with_line, at_end, expand, expand_unless, visit, and_then, taken, take_next, spent, walk, walk_from, resolve, lines_of}
use Rattle.semantics.proofs.Lists.{all_append}

abbrev pub Small : Line → Type 0
Small L = nodes_class L.class ≤ 4096

abbrev SmallClass : Intersected → Type 0
SmallClass (common P) = nodes_class P ≤ 4096
SmallClass disjoint = Unit {0}
SmallClass too_large = Unit {0}

over_small : (f : CRPair meeting → Intersected) → ((Q : CRPair meeting) → nodes_meeting Q ≤ 4096 → SmallClass (f Q)) → (Q : CRPair meeting) → SmallClass (unless_over f Q (meeting_over Q))
over_small f h Q = pick (meeting_over Q) refl
  where
    pick : (b : Bool) → meeting_over Q ≡ b → SmallClass (unless_over f Q b)
    pick true e = tt
    pick false e = h Q (ltb-false 4096 (nodes_meeting Q) e)

step_small : (f : CRPair meeting → Intersected) → ((Q : CRPair meeting) → nodes_meeting Q ≤ 4096 → SmallClass (f Q)) → (P : CRPair meeting) → nodes_meeting P ≤ 4096 → (c : Contraction) → SmallClass (unify_step meeting_over f P c)
step_small f h P l identity = omega arith
step_small f h P l contra = tt
step_small f h P l (non_equal x y) = tt
step_small f h P l (bind_e m d) = bound (contract (bind_e m d) P)
  where
    bound : (b : Option (CRPair meeting)) → SmallClass (after_binding meeting_over f b)
    bound none = tt
    bound (some Q) = over_small f h Q
step_small f h P l (bind_a m x) = bound (contract (bind_a m x) P)
  where
    bound : (b : Option (CRPair meeting)) → SmallClass (after_binding meeting_over f b)
    bound none = tt
    bound (some Q) = over_small f h Q

unify_small : (n : ℕ) (P : CRPair meeting) → nodes_meeting P ≤ 4096 → SmallClass (unify meeting_over n P)
unfolding unify
unify_small zero P l = tt
unify_small (suc n) P l = step_small (unify meeting_over n) (unify_small n) P l (disagreement P.con.io.out P.con.output)

intersect_small : (P : CRPair meeting) → SmallClass (intersect meeting_over P)
intersect_small P = over_small (unify meeting_over (bindings_enough P.con)) (unify_small (bindings_enough P.con)) P

abbrev AllSmall : Walked → Type 0
AllSmall w = All Small (lines_of w)

module _ (p : Prog) (lim : Limits) where
  at_end_lem : (s : ℕ) (r : WalkState) (m : Intersected) → SmallClass m → All Small r.lines → AllSmall (at_end lim s r m)
  at_end_lem s r (common P) h a = pick (table_full lim P r)
    where
      pick : (b : Bool) → AllSmall (with_line s P r b)
      pick true = a
      pick false = all_append Small r.lines (record { steps = s; class = P } ∷ []) a (h, tt)
  at_end_lem s r disjoint h a = a
  at_end_lem s r too_large h a = a

  expanded : (n : ℕ) (x : Node) (c : Successors) (r : WalkState) → All Small r.lines → AllSmall (expand lim n x c r)
  expanded zero x (terminal u) r a = at_end_lem x.steps r (intersect meeting_over (meeting_at x u)) (intersect_small (meeting_at x u)) a
  expanded (suc n) x (terminal u) r a = at_end_lem x.steps r (intersect meeting_over (meeting_at x u)) (intersect_small (meeting_at x u)) a
  expanded zero x (called c) r a = a
  expanded zero x (branches b c) r a = a
  expanded (suc n) x (called c) r a = a
  expanded (suc n) x (branches none none) r a = a
  expanded (suc n) x (branches none (some c)) r a = a
  expanded (suc n) x (branches (some b) none) r a = a
  expanded (suc n) x (branches (some b) (some c)) r a = a

  visited : (i : Untaken) (r : WalkState) → All Small r.lines → AllSmall (visit p lim i r)
  visited i r a = pick (state_over i.node.conf.cr)
    where
      pick : (b : Bool) → AllSmall (expand_unless p lim i r b)
      pick true = a
      pick false = expanded i.left i.node (successors p i.node.conf) r a

  going_on : (f : WalkState → Walked) → ((r : WalkState) → All Small r.lines → AllSmall (f r)) → (w : Walked) → AllSmall w → AllSmall (and_then f w)
  going_on f h (going r) a = h r a
  going_on f h (stopped z r) a = a

  next_small : (f : WalkState → Walked) → ((r : WalkState) → All Small r.lines → AllSmall (f r)) → (is : List Untaken) (r : WalkState) → All Small r.lines → AllSmall (take_next p lim f is r)
  next_small f h [] r a = a
  next_small f h (i ∷ is) r a = going_on f h (visit p lim i (taken is r)) (visited i (taken is r) a)

  walk_small : (w : ℕ) (r : WalkState) → All Small r.lines → AllSmall (walk p lim w r)
  unfolding walk
  walk_small zero r a = pick r.todo
    where
      pick : (is : List Untaken) → AllSmall (spent is r)
      pick [] = a
      pick (i ∷ is) = a
  walk_small (suc w) r a = next_small (walk p lim w) (walk_small w) r.todo r a

  from_small : (n : ℕ) (c : Option Configuration) → AllSmall (walk_from p lim n c)
  from_small n none = tt
  from_small n (some c) =
      going_on (walk p lim lim.walk) (walk_small lim.walk) (visit p lim (record { left = n; node = root c }) at_start) (visited (record { left = n; node = root c }) at_start tt)

-- every line of a listing, stopped or not
pub lines_small : (p : Prog) (j : IOClass) (n : ℕ) (lim : Limits) → All Small (lines_of (resolve p j n lim))
unfolding resolve
lines_small p j n lim = from_small p lim n (start p j)
