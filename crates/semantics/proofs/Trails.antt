-- The leaves of a tree are the derivations of figure 10 of 001 to an end, each once, in true-branch-first order (demand 2).
use Prim.Native.Nat.{ℕ, zero, suc, ◌+◌, ◌≤◌}
use mathlib.Core.Path.{◌≡◌, refl, ap, subst, ◌∙◌, sym as inv}
use mathlib.Core.Bool.{Bool, true, false}
use mathlib.Core.List.{List, [], ◌∷◌, ◌++◌, map, append_assoc, append-nil}
use mathlib.Core.Option.{Option, none, some, none-ne-some, some-injective}
use mathlib.Core.Logic.{inl}
use native.Mathlib.Omega.{arith}
use native.Mathlib.Nat.{not-suc-le-zero, le_of_suc-le-suc}
use Rattle.expressions.specs.Expression.{Exp}
use Rattle.expressions.specs.Class.{IOClass}
use Rattle.expressions.specs.Intersection.{Intersected, common, disjoint, too_large, intersect, no_limit}
use Rattle.language.specs.Program.{Prog, find}
use Rattle.language.specs.WellFormed.{fits, admitted}
use Rattle.semantics.specs.Lists.{All, Any, AllPairs}
use Rattle.semantics.specs.Configuration.{Configuration}
use Rattle.semantics.specs.Figure10.{Transition, Derivation, here, there, Terminal}
use Rattle.semantics.specs.Trace.{Successors, terminal, called, branches, successors}
use Rattle.semantics.specs.Tree.{Node, root, after_call, after_decision, branch, tree_from, tree, Leaf, leaves, Line, meeting_at, line_of, leaves_lines, tree_of, listing}
use Rattle.semantics.specs.Walk.{Limits, resolve}
use Rattle.semantics.specs.Demand2.{Before, first, later, TrailedLine, EndsIn, ByTheRules, TracedLines}
use Rattle.semantics.proofs.Lists.{all_append, all_map, any_left, any_right, pairs_append}
use Rattle.semantics.proofs.Machine.{resolve_beginning}
use Rattle.semantics.proofs.Tracing.{child, Scoped, transition_child, terminal_successors, child_transition, successors_terminal, child_scoped, start_scoped}

-- the lines of leaves, each with the trail of its node
abbrev trailed_of : List Bool → ℕ → Intersected → List TrailedLine
trailed_of bs s (common P) = record { trail = bs; line = record { steps = s; class = P } } ∷ []
trailed_of bs s disjoint = []
trailed_of bs s too_large = []

abbrev trailed_leaf : Leaf → List TrailedLine
trailed_leaf l = trailed_of l.node.trail l.node.steps (intersect no_limit (meeting_at l.node l.output))

abbrev trailed_leaves : List Leaf → List TrailedLine
trailed_leaves [] = []
trailed_leaves (l ∷ ls) = trailed_leaf l ++ trailed_leaves ls

trailed_append : (ls ms : List Leaf) → trailed_leaves (ls ++ ms) ≡ trailed_leaves ls ++ trailed_leaves ms
trailed_append [] ms = refl
trailed_append (l ∷ ls) ms = ap (λ (k : List TrailedLine). trailed_leaf l ++ k) (trailed_append ls ms) ∙ inv (append_assoc (trailed_leaf l) (trailed_leaves ls) (trailed_leaves ms))

lines_trailed : (ls : List Leaf) → leaves_lines ls ≡ map (λ x. x.line) (trailed_leaves ls)
lines_trailed [] = refl
lines_trailed (l ∷ ls) = pick (intersect no_limit (meeting_at l.node l.output)) (lines_trailed ls)
  where
    pick : (I : Intersected) → leaves_lines ls ≡ map (λ x. x.line) (trailed_leaves ls) →
        line_of l.node.steps I ++ leaves_lines ls ≡ map (λ x. x.line) (trailed_of l.node.trail l.node.steps I ++ trailed_leaves ls)
    pick (common P) e = ap (λ (k : List Line). record { steps = l.node.steps; class = P } ∷ k) e
    pick disjoint e = e
    pick too_large e = e

-- as `EndsIn`, from a node of the tree on: its trail and its steps come first
record EndsFrom (p : Prog) (n : ℕ) (x : Node) (y : TrailedLine) : Type 0 where
  m : ℕ
  d : Configuration
  bs : List Bool
  u : Exp
  derivation : Derivation p d x.conf m bs
  within : m ≤ n
  terminal : Terminal d u
  trail : y.trail ≡ x.trail ++ bs
  steps : y.line.steps ≡ x.steps + m
  class : intersect no_limit (meeting_at (record { conf = d; steps = m; trail = y.trail }) u) ≡ common y.line.class

module _ (p : Prog) where
  -- what is behind a node, after one transition more
  after_call_lem : {n : ℕ} {x : Node} {c : Configuration} → Transition p x.conf none c → (y : TrailedLine) → EndsFrom p n (after_call x c) y → EndsFrom p (suc n) x y
  after_call_lem {n} {x} {c} t y e = record {
    m = suc e.m;
    d = e.d;
    bs = e.bs;
    u = e.u;
    derivation = there x.conf c none e.m e.bs t e.derivation;
    within = omega (arith, e.within);
    terminal = e.terminal;
    trail = e.trail;
    steps = omega (arith, e.steps);
    class = e.class;
  }

  after_decision_lem : {n : ℕ} {x : Node} {b : Bool} {c : Configuration} → Transition p x.conf (some b) c → (y : TrailedLine) → EndsFrom p n (after_decision x b c) y → EndsFrom p (suc n) x y
  after_decision_lem {n} {x} {b} {c} t y e = record {
    m = suc e.m;
    d = e.d;
    bs = b ∷ e.bs;
    u = e.u;
    derivation = there x.conf c (some b) e.m e.bs t e.derivation;
    within = omega (arith, e.within);
    terminal = e.terminal;
    trail = e.trail ∙ append_assoc x.trail (b ∷ []) e.bs;
    steps = omega (arith, e.steps);
    class = e.class;
  }

  leaf_sound : (n : ℕ) (x : Node) (u : Exp) → Terminal x.conf u → All (EndsFrom p n x) (trailed_leaves (record { node = x; output = u } ∷ []))
  leaf_sound n x u h = pick (intersect no_limit (meeting_at x u)) refl
    where
      pick : (I : Intersected) → intersect no_limit (meeting_at x u) ≡ I → All (EndsFrom p n x) (trailed_of x.trail x.steps I ++ [])
      pick (common P) e = (
        record { m = 0; d = x.conf; bs = []; u = u; derivation = here; within = omega arith; terminal = h; trail = inv (append-nil x.trail); steps = omega arith; class = e },
        tt,
      )
      pick disjoint e = tt
      pick too_large e = tt

  abbrev lines_behind : ℕ → Node → List TrailedLine
  lines_behind n x = trailed_leaves (leaves (tree p n x))

  abbrev lines_of_branch : ℕ → Node → Bool → Option Configuration → List TrailedLine
  lines_of_branch n x b o = trailed_leaves (leaves (branch (tree p n) x b o))

  -- what is found behind a branch begins with its decision
  abbrev Behind : ℕ → Node → Bool → TrailedLine → Type 0
  Behind n x b y = EndsFrom p (suc n) x y × ((cs : List Bool) × (y.trail ≡ x.trail ++ (b ∷ cs)))

  module _ (wf : admitted p ≡ true) where
    branch_sound : (n : ℕ) (x : Node) (b : Bool) (o : Option Configuration) → Scoped p x.conf → child (some b) (successors p x.conf) ≡ o →
        ((z : Node) → Scoped p z.conf → All (EndsFrom p n z) (lines_behind n z)) → All (Behind n x b) (lines_of_branch n x b o)
    branch_sound n x b none w e ih = tt
    branch_sound n x b (some c) w e ih = all_map (EndsFrom p n (after_decision x b c)) (Behind n x b)
        (λ y h. (after_decision_lem (child_transition p x.conf c (some b) w e) y h, (h.bs, h.trail ∙ append_assoc x.trail (b ∷ []) h.bs)))
        (lines_behind n (after_decision x b c)) (ih (after_decision x b c) (child_scoped p x.conf c (some b) wf w e))

    -- every line is one of a derivation
    sound_from : (n : ℕ) (x : Node) → Scoped p x.conf → (S : Successors) → successors p x.conf ≡ S → All (EndsFrom p n x) (trailed_leaves (leaves (tree_from p n x S)))
    unfolding tree_from
    sound_from zero x w (terminal u) e = leaf_sound zero x u (successors_terminal p x.conf u w e)
    sound_from zero x w (called c) e = tt
    sound_from zero x w (branches a b) e = tt
    sound_from (suc n) x w (terminal u) e = leaf_sound (suc n) x u (successors_terminal p x.conf u w e)
    sound_from (suc n) x w (called c) e =
        let k : child none (successors p x.conf) ≡ some c = ap (child none) e in
        all_map (EndsFrom p n (after_call x c)) (EndsFrom p (suc n) x) (after_call_lem (child_transition p x.conf c none w k)) (lines_behind n (after_call x c))
        (sound_from n (after_call x c) (child_scoped p x.conf c none wf w k) (successors p c) refl)
    sound_from (suc n) x w (branches a b) e =
        let ih : (z : Node) → Scoped p z.conf → All (EndsFrom p n z) (lines_behind n z) = λ z v. sound_from n z v (successors p z.conf) refl in
        subst (All (EndsFrom p (suc n) x)) (inv (trailed_append (leaves (branch (tree p n) x true a)) (leaves (branch (tree p n) x false b))))
        (all_append (EndsFrom p (suc n) x) (lines_of_branch n x true a) (lines_of_branch n x false b)
        (all_map (Behind n x true) (EndsFrom p (suc n) x) (λ y h. h.0) (lines_of_branch n x true a) (branch_sound n x true a w (ap (child (some true)) e) ih))
        (all_map (Behind n x false) (EndsFrom p (suc n) x) (λ y h. h.0) (lines_of_branch n x false b) (branch_sound n x false b w (ap (child (some false)) e) ih)))

    sound : (n : ℕ) (x : Node) → Scoped p x.conf → All (EndsFrom p n x) (lines_behind n x)
    sound n x w = sound_from n x w (successors p x.conf) refl

    -- the lines stand in the order of their trails
    abbrev Sooner : TrailedLine → TrailedLine → Type 0
    Sooner x y = Before x.trail y.trail

    branch_sorted : (n : ℕ) (x : Node) (b : Bool) (o : Option Configuration) → Scoped p x.conf → child (some b) (successors p x.conf) ≡ o →
        ((z : Node) → Scoped p z.conf → AllPairs Sooner (lines_behind n z)) → AllPairs Sooner (lines_of_branch n x b o)
    branch_sorted n x b none w e ih = tt
    branch_sorted n x b (some c) w e ih = ih (after_decision x b c) (child_scoped p x.conf c (some b) wf w e)

    leaf_sorted : (x : Node) (u : Exp) → AllPairs Sooner (trailed_leaves (record { node = x; output = u } ∷ []))
    leaf_sorted x u = pick (intersect no_limit (meeting_at x u))
      where
        pick : (I : Intersected) → AllPairs Sooner (trailed_of x.trail x.steps I ++ [])
        pick (common P) = (tt, tt)
        pick disjoint = tt
        pick too_large = tt

    before_behind : (ts bs cs : List Bool) → Before (ts ++ (true ∷ bs)) (ts ++ (false ∷ cs))
    before_behind [] bs cs = first bs cs
    before_behind (t ∷ ts) bs cs = later t _ _ (before_behind ts bs cs)

    sorted_from : (n : ℕ) (x : Node) → Scoped p x.conf → (S : Successors) → successors p x.conf ≡ S → AllPairs Sooner (trailed_leaves (leaves (tree_from p n x S)))
    unfolding tree_from
    sorted_from zero x w (terminal u) e = leaf_sorted x u
    sorted_from zero x w (called c) e = tt
    sorted_from zero x w (branches a b) e = tt
    sorted_from (suc n) x w (terminal u) e = leaf_sorted x u
    sorted_from (suc n) x w (called c) e = sorted_from n (after_call x c) (child_scoped p x.conf c none wf w (ap (child none) e)) (successors p c) refl
    sorted_from (suc n) x w (branches a b) e =
        let ih : (z : Node) → Scoped p z.conf → AllPairs Sooner (lines_behind n z) = λ z v. sorted_from n z v (successors p z.conf) refl in
        let A = ap (child (some true)) e in
        let B = ap (child (some false)) e in
        subst (AllPairs Sooner) (inv (trailed_append (leaves (branch (tree p n) x true a)) (leaves (branch (tree p n) x false b))))
        (pairs_append Sooner (lines_of_branch n x true a) (lines_of_branch n x false b) (branch_sorted n x true a w A ih) (branch_sorted n x false b w B ih)
        (all_map (Behind n x true) (λ y. All (Sooner y) (lines_of_branch n x false b)) (λ y h. all_map (Behind n x false) (Sooner y)
        (λ z k. subst (Before y.trail) (inv k.1.1) (subst (λ (ts : List Bool). Before ts (x.trail ++ (false ∷ k.1.0))) (inv h.1.1) (before_behind x.trail h.1.0 k.1.0)))
        (lines_of_branch n x false b) (branch_sound n x false b w B (sound n))) (lines_of_branch n x true a) (branch_sound n x true a w A (sound n))))

  -- every derivation to an end has its line; this needs no well-formed program
  tree_end_lem : (n : ℕ) (x : Node) (u : Exp) → leaves (tree_from p n x (terminal u)) ≡ record { node = x; output = u } ∷ []
  unfolding tree_from
  tree_end_lem zero x u = refl
  tree_end_lem (suc n) x u = refl

  abbrev Among : List TrailedLine → TrailedLine → Type 0
  Among ys y = Any (λ z. z ≡ y) ys

  abbrev after : Option Bool → Node → Configuration → Node
  after none x c = after_call x c
  after (some b) x c = after_decision x b c

  complete_behind : (n : ℕ) (x : Node) (o : Option Bool) (e : Configuration) (y : TrailedLine) (S : Successors) → child o S ≡ some e →
      Among (lines_behind n (after o x e)) y → Among (trailed_leaves (leaves (tree_from p (suc n) x S))) y
  unfolding tree_from
  complete_behind n x o e y (terminal u) k h = absurd (none-ne-some _ k)
  complete_behind n x none e y (called c) k h = subst (λ (c : Configuration). Among (lines_behind n (after_call x c)) y) (inv (some-injective _ _ k)) h
  complete_behind n x (some b) e y (called c) k h = absurd (none-ne-some _ k)
  complete_behind n x none e y (branches a b) k h = absurd (none-ne-some _ k)
  complete_behind n x (some true) e y (branches a b) k h = subst (λ (l : List TrailedLine). Among l y) (inv (trailed_append (leaves (branch (tree p n) x true a)) (leaves (branch (tree p n) x false b))))
      (any_left _ (lines_of_branch n x true a) (lines_of_branch n x false b) (subst (λ (o : Option Configuration). Among (lines_of_branch n x true o) y) (inv k) h))
  complete_behind n x (some false) e y (branches a b) k h = subst (λ (l : List TrailedLine). Among l y) (inv (trailed_append (leaves (branch (tree p n) x true a)) (leaves (branch (tree p n) x false b))))
      (any_right _ (lines_of_branch n x true a) (lines_of_branch n x false b) (subst (λ (o : Option Configuration). Among (lines_of_branch n x false o) y) (inv k) h))

  module _ (d : Configuration) (u : Exp) (end : Terminal d u) (y : TrailedLine) where
    abbrev LineOf : Type 0
    LineOf = intersect no_limit (meeting_at (record { conf = d; steps = 0; trail = [] }) u) ≡ common y.line.class

    complete_here : (n s : ℕ) (ts : List Bool) → LineOf → y.trail ≡ ts → y.line.steps ≡ s → Among (lines_behind n (record { conf = d; steps = s; trail = ts })) y
    complete_here n s ts l e f =
        subst (λ (S : Successors). Among (trailed_leaves (leaves (tree_from p n x S))) y) (inv (terminal_successors p end))
        (subst (λ (ls : List Leaf). Among (trailed_leaves ls) y) (inv (tree_end_lem n x u))
        (subst (λ (I : Intersected). Among (trailed_of ts s I ++ []) y) (inv l) (inl (λ i. record { trail = inv e i; line = record { steps = inv f i; class = y.line.class } }))))
      where
        x : Node
        x = record { conf = d; steps = s; trail = ts }

    complete_from : {c : Configuration} {m : ℕ} {bs : List Bool} (n s : ℕ) (ts : List Bool) → LineOf → Derivation p d c m bs → m ≤ n →
        y.trail ≡ ts ++ bs → y.line.steps ≡ s + m → Among (lines_behind n (record { conf = c; steps = s; trail = ts })) y
    complete_from n s ts l here k e f = complete_here n s ts l (e ∙ append-nil ts) (omega arith)
    complete_from zero s ts l (there c b o m bs t h) k e f = absurd (not-suc-le-zero k)
    complete_from (suc n) s ts l (there c b none m bs t h) k e f =
        complete_behind n (record { conf = c; steps = s; trail = ts }) none b y (successors p c) (transition_child t) (complete_from n (suc s) ts l h (le_of_suc-le-suc k) e (omega arith))
    complete_from (suc n) s ts l (there c b (some q) m bs t h) k e f =
        complete_behind n (record { conf = c; steps = s; trail = ts }) (some q) b y (successors p c) (transition_child t)
        (complete_from n (suc s) (ts ++ (q ∷ [])) l h (le_of_suc-le-suc k) (e ∙ inv (append_assoc ts (q ∷ []) bs)) (omega arith))

-- "exactly the lines of the published tracing rules within the job's steps, in true-branch-first order"
pub by_the_rules_lem : (p : Prog) (n : ℕ) (c : Configuration) → admitted p ≡ true → Scoped p c → ByTheRules p n c (leaves_lines (leaves (tree p n (root c))))
by_the_rules_lem p n c wf w = record {
  trailed = lines_behind p n (root c);
  lines_are = lines_trailed (leaves (tree p n (root c)));
  sound = all_map (EndsFrom p n (root c)) (EndsIn p n c) from_root (lines_behind p n (root c)) (sound p wf n (root c) w);
  complete = λ y h. complete_from p h.d h.u h.terminal y n 0 [] h.class h.derivation h.within refl (omega (arith, h.steps));
  sorted = sorted_from p wf n (root c) w (successors p c) refl;
}
  where
    from_root : (y : TrailedLine) → EndsFrom p n (root c) y → EndsIn p n c y
    from_root y h = record {
      m = h.m;
      d = h.d;
      u = h.u;
      derivation = subst (Derivation p h.d c h.m) (inv h.trail) h.derivation;
      within = h.within;
      terminal = h.terminal;
      steps = omega (arith, h.steps);
      class = h.class;
    }

-- the listing, and what a walk found of it, stopped or not
pub traced_lines : (p : Prog) (j : IOClass) (n : ℕ) (lim : Limits) → admitted p ≡ true → fits (find p 0).params j.con.ins ≡ true → TracedLines p n j (resolve p j n lim)
unfolding listing
traced_lines p j n lim wf f = record {
  by_the_rules = λ c e. subst (λ (o : Option Configuration). ByTheRules p n c (leaves_lines (leaves (tree_of p n o)))) (inv e) (by_the_rules_lem p n c wf (start_scoped p j c wf f e));
  no_start = λ e. ap (λ (o : Option Configuration). leaves_lines (leaves (tree_of p n o))) e;
  beginning = resolve_beginning p j n lim;
}
