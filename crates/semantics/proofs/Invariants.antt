-- A property of configurations that transitions keep holds throughout the tree (001, section 6.1) and throughout the walk.
use Prim.Native.Nat.{ℕ, zero, suc}
use mathlib.Core.Bool.{Bool, true, false}
use mathlib.Core.List.{List, [], ◌∷◌}
use mathlib.Core.Option.{Option, none, some}
use Rattle.expressions.specs.Intersection.{Intersected, common, disjoint, too_large, intersect}
use Rattle.expressions.proofs.Predicates.{OfOption}
use Rattle.language.specs.Program.{Prog}
use Rattle.semantics.specs.Lists.{All}
use Rattle.semantics.specs.Configuration.{Configuration}
use Rattle.semantics.specs.Trace.{Successors, terminal, called, branches, successors}
use Rattle.semantics.specs.Tree.{Node, root, after_call, after_decision, Tree, branch, tree_from, tree_of, leaves, unfinished_nodes, meeting_at}
use Rattle.semantics.specs.Walk.{state_over, meeting_over, Limits, Untaken, WalkState, Walked, going, stopped, at_start, table_full, with_line, at_end, push_branch, expand, expand_unless, visit, and_then, taken, take_next, spent, walk, walk_from, state_of}
use Rattle.semantics.proofs.Lists.{all_append}

module _ (Q : Configuration → Type 0) where
  abbrev pub OfSuccessors : Successors → Type 0
  OfSuccessors (terminal u) = Unit {0}
  OfSuccessors (called c) = Q c
  OfSuccessors (branches a b) = OfOption Q a × OfOption Q b

  -- of the ends, and of the nodes where the tree was cut
  abbrev pub OfTree : Tree → Type 0
  OfTree T = All (λ l. Q l.node.conf) (leaves T) × All (λ x. Q x.conf) (unfinished_nodes T)

  -- of what the untaken transitions lead to
  abbrev pub OfWalk : WalkState → Type 0
  OfWalk r = All (λ i. Q i.node.conf) r.todo

-- a property that the transitions of p keep
abbrev pub Keeps : Prog → (Configuration → Type 0) → Type 0
Keeps p Q = (c : Configuration) → Q c → OfSuccessors Q (successors p c)

module _ (Q : Configuration → Type 0) (p : Prog) (keeps : Keeps p Q) where
  branch_holds : (f : Node → Tree) → ((y : Node) → Q y.conf → OfTree Q (f y)) → (x : Node) (b : Bool) (o : Option Configuration) → OfOption Q o → OfTree Q (branch f x b o)
  branch_holds f h x b none q = (tt, tt)
  branch_holds f h x b (some c) q = h (after_decision x b c) q

  tree_from_lem : (n : ℕ) (x : Node) (D : Successors) → Q x.conf → OfSuccessors Q D → OfTree Q (tree_from p n x D)
  unfolding tree_from
  tree_from_lem zero x (terminal u) q w = ((q, tt), tt)
  tree_from_lem (suc n) x (terminal u) q w = ((q, tt), tt)
  tree_from_lem zero x (called c) q w = (tt, (q, tt))
  tree_from_lem zero x (branches a b) q w = (tt, (q, tt))
  tree_from_lem (suc n) x (called c) q w = tree_from_lem n (after_call x c) (successors p c) w (keeps c w)
  tree_from_lem (suc n) x (branches a b) q w =
      let f : Node → Tree = λ y. tree_from p n y (successors p y.conf) in
      let ih : (y : Node) → Q y.conf → OfTree Q (f y) = λ y v. tree_from_lem n y (successors p y.conf) v (keeps y.conf v) in
      let s = branch_holds f ih x true a w.0 in
      let t = branch_holds f ih x false b w.1 in (
        all_append _ (leaves (branch f x true a)) (leaves (branch f x false b)) s.0 t.0,
        all_append _ (unfinished_nodes (branch f x true a)) (unfinished_nodes (branch f x false b)) s.1 t.1,
      )

  pub tree_holds : (n : ℕ) (o : Option Configuration) → OfOption Q o → OfTree Q (tree_of p n o)
  tree_holds n none q = (tt, tt)
  tree_holds n (some c) q = tree_from_lem n (root c) (successors p c) q (keeps c q)

  -- the machine: an end adds no untaken transition, any other node its successors
  end_holds : (lim : Limits) (s : ℕ) (r : WalkState) (i : Intersected) → OfWalk Q r → OfWalk Q (state_of (at_end lim s r i))
  end_holds lim s r disjoint h = h
  end_holds lim s r too_large h = h
  end_holds lim s r (common P) h = pick (table_full lim P r)
    where
      pick : (t : Bool) → OfWalk Q (state_of (with_line s P r t))
      pick true = h
      pick false = h

  push_holds : (n : ℕ) (x : Node) (b : Bool) (o : Option Configuration) (r : WalkState) → OfOption Q o → OfWalk Q r → OfWalk Q (push_branch n x b o r)
  push_holds n x b none r q h = h
  push_holds n x b (some c) r q h = (q, h)

  expand_holds : (lim : Limits) (n : ℕ) (x : Node) (D : Successors) (r : WalkState) → OfSuccessors Q D → OfWalk Q r → OfWalk Q (state_of (expand lim n x D r))
  expand_holds lim zero x (terminal u) r w h = end_holds lim x.steps r (intersect meeting_over (meeting_at x u)) h
  expand_holds lim (suc n) x (terminal u) r w h = end_holds lim x.steps r (intersect meeting_over (meeting_at x u)) h
  expand_holds lim zero x (called c) r w h = h
  expand_holds lim zero x (branches a b) r w h = h
  expand_holds lim (suc n) x (called c) r w h = (w, h)
  expand_holds lim (suc n) x (branches a b) r w h = push_holds n x true a (push_branch n x false b r) w.0 (push_holds n x false b r w.1 h)

  pub visit_holds : (lim : Limits) (i : Untaken) (r : WalkState) → Q i.node.conf → OfWalk Q r → OfWalk Q (state_of (visit p lim i r))
  visit_holds lim i r q h = pick (state_over i.node.conf.cr)
    where
      pick : (t : Bool) → OfWalk Q (state_of (expand_unless p lim i r t))
      pick true = h
      pick false = expand_holds lim i.left i.node (successors p i.node.conf) r (keeps i.node.conf q) h

  then_holds : (f : WalkState → Walked) → ((r : WalkState) → OfWalk Q r → OfWalk Q (state_of (f r))) → (v : Walked) → OfWalk Q (state_of v) → OfWalk Q (state_of (and_then f v))
  then_holds f g (going r) h = g r h
  then_holds f g (stopped z r) h = h

  next_holds : (lim : Limits) (f : WalkState → Walked) → ((r : WalkState) → OfWalk Q r → OfWalk Q (state_of (f r))) → (is : List Untaken) (r : WalkState) →
      All (λ i. Q i.node.conf) is → OfWalk Q r → OfWalk Q (state_of (take_next p lim f is r))
  next_holds lim f g [] r k h = h
  next_holds lim f g (i ∷ is) r k h = then_holds f g (visit p lim i (taken is r)) (visit_holds lim i (taken is r) k.0 k.1)

  spent_holds : (is : List Untaken) (r : WalkState) → OfWalk Q r → OfWalk Q (state_of (spent is r))
  spent_holds [] r h = h
  spent_holds (i ∷ is) r h = h

  -- w is any number of transitions, so this is of each state that the machine reaches
  pub walk_holds : (lim : Limits) (w : ℕ) (r : WalkState) → OfWalk Q r → OfWalk Q (state_of (walk p lim w r))
  unfolding walk
  walk_holds lim zero r h = spent_holds r.todo r h
  walk_holds lim (suc w) r h = next_holds lim (walk p lim w) (walk_holds lim w) r.todo r h h

  pub walk_from_holds : (lim : Limits) (n : ℕ) (o : Option Configuration) → OfOption Q o → OfWalk Q (state_of (walk_from p lim n o))
  walk_from_holds lim n none q = tt
  walk_from_holds lim n (some c) q =
      let i : Untaken = record { left = n; node = root c } in
      then_holds (walk p lim lim.walk) (walk_holds lim lim.walk) (visit p lim i at_start) (visit_holds lim i at_start q tt)
