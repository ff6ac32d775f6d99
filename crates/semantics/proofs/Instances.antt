-- Each line's inputs and output are the job's under one substitution (001, theorem 35).
use Prim.Native.Nat.{ℕ, zero, suc, ◌+◌}
use mathlib.Core.Path.{◌≡◌, refl, ap, subst, ◌∙◌, sym as inv}
use mathlib.Core.Bool.{Bool, true, false}
use mathlib.Core.List.{List, [], ◌∷◌}
use mathlib.Core.Option.{Option, none, some}
use Rattle.expressions.specs.Expression.{avar, Exp, atm, evar, pair}
use Rattle.expressions.specs.Substitution.{Substitution, compose, id_subst, apply, apply_atomic}
use Rattle.expressions.specs.Restriction.{Restriction, simplify}
use Rattle.expressions.specs.Contraction.{CRPair, Contraction, subst_of, contract_restriction, contract, apply_pair}
use Rattle.expressions.specs.Class.{IOPair, apply_io, IOClass}
use Rattle.expressions.specs.Split.{take_numbers, split_exp, split_atomic}
use Rattle.expressions.specs.Intersection.{Intersected, common, disjoint, too_large, intersect, no_limit}
use Rattle.expressions.proofs.Filling.{apply_io_compose, apply_io_id}
use Rattle.expressions.proofs.Unification.{intersect_unified}
use Rattle.language.specs.Program.{eqa, consp, Term, call, conditional, result, Prog, atom_of}
use Rattle.semantics.specs.Lists.{All}
use Rattle.semantics.specs.Environment.{update_e, update_a}
use Rattle.semantics.specs.Configuration.{subst_of_env, state, Configuration, with_env, start_with, start}
use Rattle.semantics.specs.Trace.{Successors, terminal, called, branches, configuration, trace_pair, successors_of, successors}
use Rattle.semantics.specs.Tree.{Node, root, after_call, after_decision, Tree, branch, tree_from, tree_of, Leaf, leaves, Line, meeting_at, line_of, leaf_lines, leaves_lines}
use Rattle.semantics.specs.Demand2.{InstanceOf}
use Rattle.semantics.proofs.Lists.{all_append, all_map}

module _ (j : IOPair) where
  -- an io-pair that is j under a substitution
  record Under (c : IOPair) : Type 0 where
    s : Substitution
    is : c ≡ apply_io s j

  under_apply : (s : Substitution) (c : IOPair) → Under c → Under (apply_io s c)
  under_apply s c u = record { s = compose u.s s; is = ap (apply_io s) u.is ∙ apply_io_compose u.s s j }

  abbrev UnderOption : Option Configuration → Type 0
  UnderOption none = Unit {0}
  UnderOption (some c) = Under c.cr.con.io

  contract_under : (t : Term) (k : ℕ) (κ : Contraction) (P : CRPair state) → Under P.con.io → UnderOption (configuration t k (contract κ P))
  contract_under t k κ P u = pick (contract_restriction κ P.neqs)
    where
      pick : (o : Option Restriction) → UnderOption (configuration t k (apply_pair (subst_of κ) P o))
      pick none = tt
      pick (some qs) = under_apply (subst_of κ) P.con.io u

  abbrev UnderSuccessors : Successors → Type 0
  UnderSuccessors (terminal u) = Unit {0}
  UnderSuccessors (called c) = Under c.cr.con.io
  UnderSuccessors (branches a b) = UnderOption a × UnderOption b

  pair_under : (h t x : ℕ) (s r : Term) (P : CRPair state) (k : ℕ) (v : Exp) → Under P.con.io → UnderSuccessors (trace_pair h t x s r P k v)
  pair_under h t x s r P k (atm y) u = (tt, u)
  pair_under h t x s r P k (pair a b) u = (u, tt)
  pair_under h t x s r P k (evar n) u = (
    contract_under s (k + 3) (split_exp n (take_numbers k)).yes (with_env (update_e t (evar (k + 1)) (update_e h (evar k) P.con.env)) P) u,
    contract_under r (k + 3) (split_exp n (take_numbers k)).no (with_env (update_a x (avar (k + 2)) P.con.env) P) u,
  )

  successors_under : (p : Prog) (P : CRPair state) (t : Term) (k : ℕ) → Under P.con.io → UnderSuccessors (successors_of p P t k)
  unfolding successors_of
  successors_under p P (result d) k u = tt
  successors_under p P (call f ds) k u = u
  successors_under p P (conditional (eqa x y) s t) k u =
      let sp = split_atomic (apply_atomic (subst_of_env P.con.env) (atom_of x)) (apply_atomic (subst_of_env P.con.env) (atom_of y)) in
      (contract_under s k sp.yes P u, contract_under t k sp.no P u)
  successors_under p P (conditional (consp d h t x) s r) k u = pair_under h t x s r P k (apply (subst_of_env P.con.env) d) u

  abbrev UnderLeaves : Tree → Type 0
  UnderLeaves T = All (λ l. Under l.node.conf.cr.con.io) (leaves T)

  branch_under : (f : Node → Tree) → ((y : Node) → Under y.conf.cr.con.io → UnderLeaves (f y)) → (x : Node) (b : Bool) (o : Option Configuration) →
      UnderOption o → UnderLeaves (branch f x b o)
  branch_under f h x b none u = tt
  branch_under f h x b (some c) u = h (after_decision x b c) u

  tree_under : (p : Prog) (n : ℕ) (x : Node) (D : Successors) → Under x.conf.cr.con.io → UnderSuccessors D → UnderLeaves (tree_from p n x D)
  unfolding tree_from
  tree_under p zero x (terminal v) u w = (u, tt)
  tree_under p (suc n) x (terminal v) u w = (u, tt)
  tree_under p zero x (called c) u w = tt
  tree_under p zero x (branches a b) u w = tt
  tree_under p (suc n) x (called c) u w = tree_under p n (after_call x c) (successors p c) w (successors_under p c.cr c.term c.fresh w)
  tree_under p (suc n) x (branches a b) u w =
      let f : Node → Tree = λ y. tree_from p n y (successors p y.conf) in
      let ih : (y : Node) → Under y.conf.cr.con.io → UnderLeaves (f y) =
      λ y v. tree_under p n y (successors p y.conf) v (successors_under p y.conf.cr y.conf.term y.conf.fresh v) in
      all_append _ (leaves (branch f x true a)) (leaves (branch f x false b)) (branch_under f ih x true a w.0) (branch_under f ih x false b w.1)

  leaf_instance : (l : Leaf) → Under l.node.conf.cr.con.io → All (λ L. Under L.class.con) (leaf_lines l)
  leaf_instance l u = pick (intersect no_limit (meeting_at l.node l.output)) refl
    where
      pick : (o : Intersected) → intersect no_limit (meeting_at l.node l.output) ≡ o → All (λ L. Under L.class.con) (line_of l.node.steps o)
      pick disjoint e = tt
      pick too_large e = tt
      pick (common Q) e = let w = intersect_unified no_limit (meeting_at l.node l.output) Q e in (subst Under (inv w.con) (under_apply w.s l.node.conf.cr.con.io u), tt)

  leaves_instances : (ls : List Leaf) → All (λ l. Under l.node.conf.cr.con.io) ls → All (λ L. Under L.class.con) (leaves_lines ls)
  leaves_instances [] h = tt
  leaves_instances (l ∷ ls) h = all_append _ (leaf_lines l) (leaves_lines ls) (leaf_instance l h.0) (leaves_instances ls h.1)

pub lines_instances : (p : Prog) (n : ℕ) (j : IOClass) → All (λ L. InstanceOf j L.class) (leaves_lines (leaves (tree_of p n (start p j))))
lines_instances p n j =
    let ls = leaves (tree_of p n (start p j)) in
    all_map (λ (L : Line). Under j.con L.class.con) (λ L. InstanceOf j L.class) (λ L u. record { s = u.s; is = u.is })
    (leaves_lines ls) (leaves_instances j.con ls (pick (simplify j.neqs)))
  where
    u : Under j.con j.con
    u = record { s = id_subst; is = inv (apply_io_id j.con) }

    of : (c : Option Configuration) → UnderOption j.con c → UnderLeaves j.con (tree_of p n c)
    of none v = tt
    of (some c) v = tree_under j.con p n (root c) (successors p c) v (successors_under j.con p c.cr c.term c.fresh v)

    pick : (o : Option Restriction) → UnderLeaves j.con (tree_of p n (start_with p j o))
    pick none = tt
    pick (some qs) = of (start_with p j (some qs)) u
