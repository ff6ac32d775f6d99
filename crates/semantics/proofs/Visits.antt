-- The visits of specs/StopOrder.antt are the configurations of the rules of figure 10 of 001, each once, in the order of the walk, and
-- their lines and transitions are those of the listing.
use Prim.Native.Nat.{ℕ, zero, suc, ◌+◌, ◌≤◌, ◌<◌}
use mathlib.Core.Path.{◌≡◌, refl, ap, ap₂, subst, ◌∙◌, sym as inv}
use mathlib.Core.Bool.{Bool, true, false, ◌||◌, false≢true, or-true}
use mathlib.Core.List.{List, [], ◌∷◌, ◌++◌, append_assoc, append-nil}
use mathlib.Core.Option.{Option, none, some, none-ne-some, some-ne-none, some-injective}
use mathlib.Core.Logic.{◌⊎◌, inl, inr, ◌↔◌}
use native.Mathlib.Omega.{arith}
use native.Mathlib.Nat.{not-suc-le-zero, le_of_suc-le-suc}
use lib.ListN.{length}
use Rattle.expressions.specs.Expression.{Exp}
use Rattle.expressions.specs.Class.{IOClass}
use Rattle.expressions.proofs.Tests.{or_either}
use Rattle.language.specs.Program.{Prog, find}
use Rattle.language.specs.WellFormed.{fits, admitted}
use Rattle.semantics.specs.Lists.{All, Any, AllPairs}
use Rattle.semantics.specs.Configuration.{Configuration, start}
use Rattle.semantics.specs.Figure10.{Derivation, here, there}
use Rattle.semantics.specs.Trace.{Successors, terminal, called, branches, successors}
use Rattle.semantics.specs.Tree.{Node, root, after_call, after_decision, Tree, decision, branch, tree_from, tree, edge_to, edges, leaves, unfinished_nodes, Line, leaves_lines, any_of, tree_of, listing}
use Rattle.semantics.specs.Demand2.{Before, first, later}
use Rattle.semantics.specs.StopOrder.{Visit, output_of, visit_of, visits_branch, visits_from, visits_of, visits, transitions, lines_at, visits_lines, Unfinished, EndsWith, Derived, Sooner, apart, along, VisitsByTheRules}
use Rattle.semantics.proofs.Lists.{all_append, all_map, any_left, any_right, pairs_append}
use Rattle.semantics.proofs.Coverage.{leaves_lines_append, any_of_append}
use Rattle.semantics.proofs.Machine.{edge_to_lem}
use Rattle.semantics.proofs.Tracing.{child, Scoped, transition_child, terminal_successors, child_transition, successors_terminal, child_scoped, start_scoped}
use Rattle.semantics.proofs.Stops.{derivation_after}

pub length_append : {A : Type 0} (xs ys : List A) → length (xs ++ ys) ≡ length xs + length ys
length_append [] ys = omega arith
length_append (x ∷ xs) ys = omega (arith, length_append xs ys)

pub visits_lines_append : (vs us : List Visit) → visits_lines (vs ++ us) ≡ visits_lines vs ++ visits_lines us
visits_lines_append [] us = refl
visits_lines_append (v ∷ vs) us = ap (λ (k : List Line). lines_at v ++ k) (visits_lines_append vs us) ∙ inv (append_assoc (lines_at v) (visits_lines vs) (visits_lines us))

module _ (p : Prog) where
  -- a node comes first of all behind it
  pub visits_head : (k : ℕ) (x : Node) (S : Successors) → (vs : List Visit) × (visits_from p k x S ≡ visit_of x S ∷ vs)
  unfolding visits_from
  visits_head zero x S = ([], refl)
  visits_head (suc k) x (terminal u) = ([], refl)
  visits_head (suc k) x (called c) = (_, refl)
  visits_head (suc k) x (branches a b) = (_, refl)

  abbrev behind : ℕ → Node → List Visit
  behind k x = visits_from p k x (successors p x.conf)

  abbrev behind_branch : ℕ → Node → Bool → Option Configuration → List Visit
  behind_branch k x b o = visits_branch (λ y. visits_from p k y (successors p y.conf)) x b o

  -- Their lines and transitions.
  branch_lines : (k : ℕ) (x : Node) (b : Bool) (o : Option Configuration) → ((y : Node) → visits_lines (behind k y) ≡ leaves_lines (leaves (tree p k y))) →
      visits_lines (behind_branch k x b o) ≡ leaves_lines (leaves (branch (tree p k) x b o))
  branch_lines k x b none ih = refl
  branch_lines k x b (some c) ih = ih (after_decision x b c)

  lines_from : (k : ℕ) (x : Node) (S : Successors) → visits_lines (visits_from p k x S) ≡ leaves_lines (leaves (tree_from p k x S))
  unfolding visits_from tree_from
  lines_from zero x (terminal u) = refl
  lines_from zero x (called c) = refl
  lines_from zero x (branches a b) = refl
  lines_from (suc k) x (terminal u) = refl
  lines_from (suc k) x (called c) = lines_from k (after_call x c) (successors p c)
  lines_from (suc k) x (branches a b) =
      let ih : (y : Node) → visits_lines (behind k y) ≡ leaves_lines (leaves (tree p k y)) = λ y. lines_from k y (successors p y.conf) in
      visits_lines_append (behind_branch k x true a) (behind_branch k x false b) ∙ ap₂ ◌++◌ (branch_lines k x true a ih) (branch_lines k x false b ih)
      ∙ inv (leaves_lines_append (leaves (branch (tree p k) x true a)) (leaves (branch (tree p k) x false b)))

  branch_count : (k : ℕ) (x : Node) (b : Bool) (o : Option Configuration) → ((y : Node) → length (behind k y) ≡ suc (edges (tree p k y))) →
      (let t = branch (tree p k) x b o in length (behind_branch k x b o) ≡ edge_to t + edges t)
  branch_count k x b none ih = refl
  branch_count k x b (some c) ih = omega (arith, ih (after_decision x b c), edge_to_lem p k (after_decision x b c) (successors p c))

  count_from : (k : ℕ) (x : Node) (S : Successors) → length (visits_from p k x S) ≡ suc (edges (tree_from p k x S))
  unfolding visits_from tree_from
  count_from zero x (terminal u) = refl
  count_from zero x (called c) = refl
  count_from zero x (branches a b) = refl
  count_from (suc k) x (terminal u) = refl
  count_from (suc k) x (called c) = omega (arith, count_from k (after_call x c) (successors p c), edge_to_lem p k (after_call x c) (successors p c))
  count_from (suc k) x (branches a b) =
      let ih : (y : Node) → length (behind k y) ≡ suc (edges (tree p k y)) = λ y. count_from k y (successors p y.conf) in
      omega (arith, length_append (behind_branch k x true a) (behind_branch k x false b), branch_count k x true a ih, branch_count k x false b ih)

-- "cut if a configuration N deep is no end"
any_either : {A : Type 0} (Q : A → Type 0) (xs ys : List A) → Any Q (xs ++ ys) → Any Q xs ⊎ Any Q ys
any_either Q [] ys h = inr h
any_either Q (x ∷ xs) ys (inl h) = inl (inl h)
any_either Q (x ∷ xs) ys (inr h) = pick (any_either Q xs ys h)
  where
    pick : Any Q xs ⊎ Any Q ys → Any Q (x ∷ xs) ⊎ Any Q ys
    pick (inl k) = inl (inr k)
    pick (inr k) = inr k

module _ (p : Prog) (n : ℕ) where
  abbrev CutAlike : List Visit → Tree → Type 0
  CutAlike vs t = (any_of (unfinished_nodes t) ≡ true) ↔ Any (Unfinished n) vs

  branch_cut : (k : ℕ) (x : Node) (b : Bool) (o : Option Configuration) → x.steps + suc k ≡ n → ((y : Node) → y.steps + k ≡ n → CutAlike (behind p k y) (tree p k y)) →
      CutAlike (behind_branch p k x b o) (branch (tree p k) x b o)
  branch_cut k x b none e ih = ((λ h. false≢true h), (λ h. absurd h))
  branch_cut k x b (some c) e ih = ih (after_decision x b c) (omega (arith, e))

  cut_from_lem : (k : ℕ) (x : Node) (S : Successors) → x.steps + k ≡ n → CutAlike (visits_from p k x S) (tree_from p k x S)
  unfolding visits_from tree_from
  cut_from_lem zero x (terminal u) e = ((λ h. absurd (false≢true h)), no_cut)
    where
      no_cut : Any (Unfinished n) (visit_of x (terminal u) ∷ []) → false ≡ true
      no_cut (inl h) = absurd (some-ne-none u h.1)
      no_cut (inr h) = absurd h
  cut_from_lem zero x (called c) e = ((λ h. inl (omega (arith, e), refl)), (λ h. refl))
  cut_from_lem zero x (branches a b) e = ((λ h. inl (omega (arith, e), refl)), (λ h. refl))
  cut_from_lem (suc k) x (terminal u) e = ((λ h. absurd (false≢true h)), no_cut)
    where
      no_cut : Any (Unfinished n) (visit_of x (terminal u) ∷ []) → false ≡ true
      no_cut (inl h) = absurd (some-ne-none u h.1)
      no_cut (inr h) = absurd h
  cut_from_lem (suc k) x (called c) e = let ih = cut_from_lem k (after_call x c) (successors p c) (omega (arith, e)) in ((λ h. inr (ih.0 h)), later_cut ih)
    where
      later_cut : CutAlike (behind p k (after_call x c)) (tree p k (after_call x c)) → Any (Unfinished n) (visit_of x (called c) ∷ behind p k (after_call x c)) → any_of (unfinished_nodes (tree p k (after_call x c))) ≡ true
      later_cut ih (inl h) = absurd (omega (arith, e, h.0))
      later_cut ih (inr h) = ih.1 h
  cut_from_lem (suc k) x (branches a b) e =
      let ih : (y : Node) → y.steps + k ≡ n → CutAlike (behind p k y) (tree p k y) = λ y f. cut_from_lem k y (successors p y.conf) f in
      both (branch_cut k x true a e ih) (branch_cut k x false b e ih)
    where
      s : Tree
      s = branch (tree p k) x true a

      t : Tree
      t = branch (tree p k) x false b

      A : List Visit
      A = behind_branch p k x true a

      B : List Visit
      B = behind_branch p k x false b

      both : CutAlike (behind_branch p k x true a) (branch (tree p k) x true a) → CutAlike (behind_branch p k x false b) (branch (tree p k) x false b) →
          CutAlike (visit_of x (branches a b) ∷ (behind_branch p k x true a ++ behind_branch p k x false b)) (decision (branch (tree p k) x true a) (branch (tree p k) x false b))
      both f g = (
        (λ h. inr (or_either (any_of (unfinished_nodes s)) (any_of (unfinished_nodes t)) (inv (any_of_append (unfinished_nodes s) (unfinished_nodes t)) ∙ h)
            (λ y. any_left (Unfinished n) A B (f.0 y)) (λ y. any_right (Unfinished n) A B (g.0 y)))),
        (λ h. any_of_append (unfinished_nodes s) (unfinished_nodes t) ∙ either h),
      )
        where
          found : Any (Unfinished n) (behind_branch p k x true a) ⊎ Any (Unfinished n) (behind_branch p k x false b) →
              (any_of (unfinished_nodes (branch (tree p k) x true a)) || any_of (unfinished_nodes (branch (tree p k) x false b))) ≡ true
          found (inl h) = ap (λ (c : Bool). c || any_of (unfinished_nodes (branch (tree p k) x false b))) (f.1 h)
          found (inr h) = ap (λ (c : Bool). any_of (unfinished_nodes (branch (tree p k) x true a)) || c) (g.1 h) ∙ or-true (any_of (unfinished_nodes (branch (tree p k) x true a)))

          either : Any (Unfinished n) (visit_of x (branches a b) ∷ (behind_branch p k x true a ++ behind_branch p k x false b)) →
              (any_of (unfinished_nodes (branch (tree p k) x true a)) || any_of (unfinished_nodes (branch (tree p k) x false b))) ≡ true
          either (inl h) = absurd (omega (arith, e, h.0))
          either (inr h) = found (any_either (Unfinished n) (behind_branch p k x true a) (behind_branch p k x false b) h)

pub visits_cut : (p : Prog) (n : ℕ) (j : IOClass) → ((listing p n j).cut ≡ true) ↔ Any (Unfinished n) (visits p n j)
unfolding listing
visits_cut p n j = pick (start p j)
  where
    pick : (o : Option Configuration) → (any_of (unfinished_nodes (tree_of p n o)) ≡ true) ↔ Any (Unfinished n) (visits_of p n o)
    pick none = ((λ h. false≢true h), (λ h. absurd h))
    pick (some c) = cut_from_lem p n n (root c) (successors p c) (omega arith)

counted : (vs : List Visit) (e : ℕ) → length vs ≡ suc e → transitions vs ≡ e
counted [] e h = absurd (omega (arith, h))
counted (v ∷ vs) e h = omega (arith, h)

pub visits_listing : (p : Prog) (n : ℕ) (j : IOClass) → (visits_lines (visits p n j) ≡ (listing p n j).lines) × (transitions (visits p n j) ≡ (listing p n j).count)
unfolding listing
visits_listing p n j = pick (start p j)
  where
    pick : (o : Option Configuration) → (visits_lines (visits_of p n o) ≡ leaves_lines (leaves (tree_of p n o))) × (transitions (visits_of p n o) ≡ edges (tree_of p n o))
    pick none = (refl, refl)
    pick (some c) = (lines_from p n (root c) (successors p c), counted (visits_from p n (root c) (successors p c)) (edges (tree p n (root c))) (count_from p n (root c) (successors p c)))

-- a node of the tree from c, with k transitions left of n
record Standing (p : Prog) (n : ℕ) (c : Configuration) (k : ℕ) (x : Node) : Type 0 where
  derivation : Derivation p x.conf c x.steps x.trail
  depth : x.steps + k ≤ n
  scoped : Scoped p x.conf

before_behind : (ts bs cs : List Bool) → Before (ts ++ (true ∷ bs)) (ts ++ (false ∷ cs))
before_behind [] bs cs = first bs cs
before_behind (t ∷ ts) bs cs = later t _ _ (before_behind ts bs cs)

-- what is behind a node goes on along its path
abbrev Below : Node → Node → Type 0
Below x y = ((bs : List Bool) × (y.trail ≡ x.trail ++ bs)) × (x.steps ≤ y.steps)

abbrev BelowBranch : Node → Bool → Node → Type 0
BelowBranch x b y = ((bs : List Bool) × (y.trail ≡ x.trail ++ (b ∷ bs))) × (x.steps < y.steps)

below_call : (x : Node) (c : Configuration) (v : Visit) → Below (after_call x c) v.node → Sooner x v.node
below_call x c v h = along h.0.0 h.0.1 (omega (arith, h.1))

below_decision : (x : Node) (b : Bool) (c : Configuration) (v : Visit) → Below (after_decision x b c) v.node → BelowBranch x b v.node
below_decision x b c v h = ((h.0.0, h.0.1 ∙ append_assoc x.trail (b ∷ []) h.0.0), omega (arith, h.1))

branch_sooner : (x : Node) (b : Bool) (v : Visit) → BelowBranch x b v.node → Sooner x v.node
branch_sooner x b v h = along (b ∷ h.0.0) h.0.1 h.1

true_first : (x : Node) (u v : Visit) → BelowBranch x true u.node → BelowBranch x false v.node → Sooner u.node v.node
true_first x u v h k = apart (subst (Before u.node.trail) (inv k.0.1) (subst (λ (ts : List Bool). Before ts (x.trail ++ (false ∷ k.0.0))) (inv h.0.1) (before_behind x.trail h.0.0 k.0.0)))

module _ (p : Prog) where
  abbrev InOrderOf : Visit → Visit → Type 0
  InOrderOf u v = Sooner u.node v.node

  branch_below : (k : ℕ) (x : Node) (b : Bool) (o : Option Configuration) → ((y : Node) → All (λ v. Below y v.node) (behind p k y)) → All (λ v. BelowBranch x b v.node) (behind_branch p k x b o)
  branch_below k x b none ih = tt
  branch_below k x b (some c) ih = all_map (λ v. Below (after_decision x b c) v.node) (λ v. BelowBranch x b v.node) (below_decision x b c) (behind p k (after_decision x b c)) (ih (after_decision x b c))

  below_here : (x : Node) → Below x x
  below_here x = (([], inv (append-nil x.trail)), omega arith)

  -- of all behind a branch
  branch_weak : (x : Node) (b : Bool) (v : Visit) → BelowBranch x b v.node → Below x v.node
  branch_weak x b v h = ((b ∷ h.0.0, h.0.1), omega (arith, h.1))

  below_from : (k : ℕ) (x : Node) (S : Successors) → All (λ v. Below x v.node) (visits_from p k x S)
  unfolding visits_from
  below_from zero x S = (below_here x, tt)
  below_from (suc k) x (terminal u) = (below_here x, tt)
  below_from (suc k) x (called c) = (
    below_here x,
    all_map (λ v. Below (after_call x c) v.node) (λ v. Below x v.node) (λ v h. (h.0, omega (arith, h.1))) (behind p k (after_call x c)) (below_from k (after_call x c) (successors p c)),
  )
  below_from (suc k) x (branches a b) =
      let ih : (y : Node) → All (λ v. Below y v.node) (behind p k y) = λ y. below_from k y (successors p y.conf) in (
        below_here x,
        all_append (λ v. Below x v.node) (behind_branch p k x true a) (behind_branch p k x false b)
            (all_map (λ v. BelowBranch x true v.node) (λ v. Below x v.node) (branch_weak x true) (behind_branch p k x true a) (branch_below k x true a ih))
            (all_map (λ v. BelowBranch x false v.node) (λ v. Below x v.node) (branch_weak x false) (behind_branch p k x false b) (branch_below k x false b ih)),
      )

  below : (k : ℕ) (y : Node) → All (λ v. Below y v.node) (behind p k y)
  below k y = below_from k y (successors p y.conf)

  -- "depth first, true branch first"
  branch_sorted : (k : ℕ) (x : Node) (b : Bool) (o : Option Configuration) → ((y : Node) → AllPairs InOrderOf (behind p k y)) → AllPairs InOrderOf (behind_branch p k x b o)
  branch_sorted k x b none ih = tt
  branch_sorted k x b (some c) ih = ih (after_decision x b c)

  sorted_from : (k : ℕ) (x : Node) (S : Successors) → AllPairs InOrderOf (visits_from p k x S)
  unfolding visits_from
  sorted_from zero x S = (tt, tt)
  sorted_from (suc k) x (terminal u) = (tt, tt)
  sorted_from (suc k) x (called c) = (
    all_map (λ v. Below (after_call x c) v.node) (InOrderOf (visit_of x (called c))) (below_call x c) (behind p k (after_call x c)) (below k (after_call x c)),
    sorted_from k (after_call x c) (successors p c),
  )
  sorted_from (suc k) x (branches a b) =
      let ih : (y : Node) → AllPairs InOrderOf (behind p k y) = λ y. sorted_from k y (successors p y.conf) in
      let A : All (λ v. BelowBranch x true v.node) (behind_branch p k x true a) = branch_below k x true a (below k) in
      let B : All (λ v. BelowBranch x false v.node) (behind_branch p k x false b) = branch_below k x false b (below k) in (
        all_append (InOrderOf (visit_of x (branches a b))) (behind_branch p k x true a) (behind_branch p k x false b)
            (all_map (λ v. BelowBranch x true v.node) (InOrderOf (visit_of x (branches a b))) (branch_sooner x true) (behind_branch p k x true a) A)
            (all_map (λ v. BelowBranch x false v.node) (InOrderOf (visit_of x (branches a b))) (branch_sooner x false) (behind_branch p k x false b) B),
        pairs_append InOrderOf (behind_branch p k x true a) (behind_branch p k x false b) (branch_sorted k x true a ih) (branch_sorted k x false b ih)
            (all_map (λ v. BelowBranch x true v.node) (λ u. All (InOrderOf u) (behind_branch p k x false b))
            (λ u h. all_map (λ v. BelowBranch x false v.node) (InOrderOf u) (λ v g. true_first x u v h g) (behind_branch p k x false b) B) (behind_branch p k x true a) A),
      )

  module _ (n : ℕ) (c : Configuration) (wf : admitted p ≡ true) where
    -- every one is a derivation's
    ends_with : (d : Configuration) (S : Successors) → Scoped p d → successors p d ≡ S → EndsWith d (output_of S)
    ends_with d (terminal u) s e = successors_terminal p d u s e
    ends_with d (called f) s e = λ u T. let q = inv e ∙ terminal_successors p T in let k : ◌≡◌ {A = ℕ} 0 1 = cc in omega arith
    ends_with d (branches a b) s e = λ u T. let q = inv e ∙ terminal_successors p T in let k : ◌≡◌ {A = ℕ} 0 1 = cc in omega arith

    derived_here : (k : ℕ) (x : Node) (S : Successors) → Standing p n c k x → successors p x.conf ≡ S → Derived p n c (visit_of x S)
    derived_here k x S s e = record { derivation = s.derivation; within = omega (arith, s.depth); output = ends_with x.conf S s.scoped e }

    standing_call : (k : ℕ) (x : Node) (d : Configuration) → Standing p n c (suc k) x → child none (successors p x.conf) ≡ some d → Standing p n c k (after_call x d)
    standing_call k x d s e = record {
      derivation = subst (Derivation p d c (suc x.steps)) (append-nil x.trail) (derivation_after s.derivation (child_transition p x.conf d none s.scoped e));
      depth = omega (arith, s.depth);
      scoped = child_scoped p x.conf d none wf s.scoped e;
    }

    standing_decision : (k : ℕ) (x : Node) (b : Bool) (d : Configuration) → Standing p n c (suc k) x → child (some b) (successors p x.conf) ≡ some d → Standing p n c k (after_decision x b d)
    standing_decision k x b d s e = record {
      derivation = derivation_after s.derivation (child_transition p x.conf d (some b) s.scoped e);
      depth = omega (arith, s.depth);
      scoped = child_scoped p x.conf d (some b) wf s.scoped e;
    }

    branch_derived : (k : ℕ) (x : Node) (b : Bool) (o : Option Configuration) → Standing p n c (suc k) x → child (some b) (successors p x.conf) ≡ o →
        ((y : Node) → Standing p n c k y → All (Derived p n c) (behind p k y)) → All (Derived p n c) (behind_branch p k x b o)
    branch_derived k x b none s e ih = tt
    branch_derived k x b (some d) s e ih = ih (after_decision x b d) (standing_decision k x b d s e)

    derived_from : (k : ℕ) (x : Node) (S : Successors) → Standing p n c k x → successors p x.conf ≡ S → All (Derived p n c) (visits_from p k x S)
    unfolding visits_from
    derived_from zero x S s e = (derived_here zero x S s e, tt)
    derived_from (suc k) x (terminal u) s e = (derived_here (suc k) x (terminal u) s e, tt)
    derived_from (suc k) x (called d) s e =
        (derived_here (suc k) x (called d) s e, derived_from k (after_call x d) (successors p d) (standing_call k x d s (ap (child none) e)) refl)
    derived_from (suc k) x (branches a b) s e =
        let ih : (y : Node) → Standing p n c k y → All (Derived p n c) (behind p k y) = λ y t. derived_from k y (successors p y.conf) t refl in (
          derived_here (suc k) x (branches a b) s e,
          all_append (Derived p n c) (behind_branch p k x true a) (behind_branch p k x false b)
              (branch_derived k x true a s (ap (child (some true)) e) ih) (branch_derived k x false b s (ap (child (some false)) e) ih),
        )

  -- every derivation of at most n transitions has its visit
  abbrev Among : List Visit → Visit → Type 0
  Among ys v = Any (λ y. y ≡ v) ys

  abbrev after : Option Bool → Node → Configuration → Node
  after none x d = after_call x d
  after (some b) x d = after_decision x b d

  among_behind : (k : ℕ) (x : Node) (o : Option Bool) (d : Configuration) (v : Visit) (S : Successors) → child o S ≡ some d → Among (behind p k (after o x d)) v → Among (visits_from p (suc k) x S) v
  unfolding visits_from
  among_behind k x o d v (terminal u) e h = absurd (none-ne-some _ e)
  among_behind k x none d v (called c) e h = inr (subst (λ (c : Configuration). Among (behind p k (after_call x c)) v) (inv (some-injective _ _ e)) h)
  among_behind k x (some b) d v (called c) e h = absurd (none-ne-some _ e)
  among_behind k x none d v (branches a b) e h = absurd (none-ne-some _ e)
  among_behind k x (some true) d v (branches a b) e h =
      inr (any_left (λ y. y ≡ v) (behind_branch p k x true a) (behind_branch p k x false b) (subst (λ (o : Option Configuration). Among (behind_branch p k x true o) v) (inv e) h))
  among_behind k x (some false) d v (branches a b) e h =
      inr (any_right (λ y. y ≡ v) (behind_branch p k x true a) (behind_branch p k x false b) (subst (λ (o : Option Configuration). Among (behind_branch p k x false o) v) (inv e) h))

  module _ (v : Visit) (output : output_of (successors p v.node.conf) ≡ v.output) where
    among_here : (k s : ℕ) (ts : List Bool) → v.node.trail ≡ ts → v.node.steps ≡ s → Among (behind p k (record { conf = v.node.conf; steps = s; trail = ts })) v
    among_here k s ts e f =
        let x : Node = record { conf = v.node.conf; steps = s; trail = ts } in
        subst (λ (ys : List Visit). Among ys v) (inv (visits_head p k x (successors p v.node.conf)).1)
        (inl (λ i. record { node = record { conf = v.node.conf; steps = inv f i; trail = inv e i }; output = output i }))

    among_from : {c : Configuration} {m : ℕ} {bs : List Bool} (k s : ℕ) (ts : List Bool) → Derivation p v.node.conf c m bs → m ≤ k → v.node.trail ≡ ts ++ bs → v.node.steps ≡ s + m →
        Among (behind p k (record { conf = c; steps = s; trail = ts })) v
    among_from k s ts here l e f = among_here k s ts (e ∙ append-nil ts) (omega (arith, f))
    among_from zero s ts (there c b o m bs t h) l e f = absurd (not-suc-le-zero l)
    among_from (suc k) s ts (there c b none m bs t h) l e f =
        among_behind k (record { conf = c; steps = s; trail = ts }) none b v (successors p c) (transition_child t) (among_from k (suc s) ts h (le_of_suc-le-suc l) e (omega (arith, f)))
    among_from (suc k) s ts (there c b (some q) m bs t h) l e f =
        among_behind k (record { conf = c; steps = s; trail = ts }) (some q) b v (successors p c) (transition_child t)
        (among_from k (suc s) (ts ++ (q ∷ [])) h (le_of_suc-le-suc l) (e ∙ inv (append_assoc ts (q ∷ []) bs)) (omega (arith, f)))

  scoped_derived : {d c : Configuration} {m : ℕ} {bs : List Bool} → admitted p ≡ true → Derivation p d c m bs → Scoped p c → Scoped p d
  scoped_derived wf here s = s
  scoped_derived wf (there c e o m bs t h) s = scoped_derived wf h (child_scoped p c e o wf s (transition_child t))

  -- whether it is an end, by the rules and by the function
  output_is : (d : Configuration) (o : Option Exp) → Scoped p d → EndsWith d o → output_of (successors p d) ≡ o
  output_is d none s f = pick (successors p d) refl
    where
      pick : (S : Successors) → successors p d ≡ S → output_of S ≡ none
      pick (terminal u) e = absurd (f u (successors_terminal p d u s e))
      pick (called c) e = refl
      pick (branches a b) e = refl
  output_is d (some u) s T = ap output_of (terminal_successors p T)

-- "the walk is depth first, true branch first, and goes N transitions deep"
pub visits_by_the_rules : (p : Prog) (n : ℕ) (j : IOClass) (c : Configuration) → admitted p ≡ true → fits (find p 0).params j.con.ins ≡ true → start p j ≡ some c →
    VisitsByTheRules p n c (visits p n j)
visits_by_the_rules p n j c wf fit e =
    subst (λ (o : Option Configuration). VisitsByTheRules p n c (visits_of p n o)) (inv e) (record {
      sound = derived_from p n c wf n (root c) (successors p c) (record { derivation = here; depth = omega arith; scoped = s }) refl;
      complete = λ v D. among_from p v (output_is p v.node.conf v.output (scoped_derived p wf D.derivation s) D.output) n 0 [] D.derivation D.within refl (omega arith);
      sorted = sorted_from p n (root c) (successors p c);
    })
  where
    s : Scoped p c
    s = start_scoped p j c wf fit e
