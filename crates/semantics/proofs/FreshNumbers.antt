-- Numbers of variables on a path: each is below the path's counter, and the counter is bounded by the nodes of the inputs.
use Prim.Native.Nat.{ℕ, ◌+◌, ◌*◌, ◌<◌, ◌≤◌}
use mathlib.Core.Path.{◌≡◌, refl, subst}
use mathlib.Core.Bool.{true, false, false≢true}
use mathlib.Core.List.{List, [], ◌∷◌}
use mathlib.Core.Option.{Option, none, some}
use native.Mathlib.Omega.{arith}
use lib.Dec.{eqb}
use borrow.Author.Tests.{ne_eqb, ltb-false}
use Rattle.expressions.specs.Expression.{AtomicExp, sym, avar, Exp, atm, evar, pair, nodes_all}
use Rattle.expressions.specs.Substitution.{Substitution, apply, apply_atomic, apply_all, subst_e}
use Rattle.expressions.specs.Restriction.{Restriction, simplify}
use Rattle.expressions.specs.Contraction.{CRPair, Contraction, bind_e, non_equal, subst_of, contract_restriction, apply_pair, contract, equality_contraction}
use Rattle.expressions.specs.Class.{IOClass}
use Rattle.expressions.specs.Split.{take_numbers, split_atomic, split_exp, largest_atomic, largest, largest_all, largest_restriction, first_fresh}
use Rattle.expressions.specs.Intersection.{occurs}
use Rattle.expressions.proofs.Tests.{or_either, eqb_same}
use Rattle.expressions.proofs.Predicates.{OfOption}
use Rattle.expressions.proofs.Simplification.{simplify_largest}
use Rattle.expressions.proofs.Numbering.{Below, equality_below, largest_atomic_contract, largest_contract, largest_all_contract, largest_restriction_contract}
use Rattle.expressions.proofs.Splitting.{occurs_in}
use Rattle.language.specs.Program.{eqa, consp, Term, call, conditional, result, Prog, find, atom_of}
use Rattle.language.proofs.Tests.{or_left, or_right}
use Rattle.semantics.specs.Lists.{All}
use Rattle.semantics.specs.Environment.{update, update_e, update_a, bind_params}
use Rattle.semantics.specs.Configuration.{ExpEnv, subst_of_env, state, Configuration, with_env, start_with, start, nodes_state}
use Rattle.semantics.specs.Trace.{configuration, trace_pair, successors_of, successors}
use Rattle.semantics.specs.Tree.{tree_of, leaves, unfinished_nodes}
use Rattle.semantics.specs.Walk.{node_limit, state_over, Limits, walk_from, state_of}
use Rattle.semantics.proofs.Lists.{all_map}
use Rattle.semantics.proofs.Occurrences.{solid, solid_all, solid_all_nodes, solid_all_apply, solid_all_adds, occurs_in_apply, Within, within_apply}
use Rattle.semantics.proofs.EnvironmentValues.{OfEnv, update_all, lookup_all, map_all, params_all}
use Rattle.semantics.proofs.Invariants.{OfSuccessors, OfTree, OfWalk, Keeps, tree_holds, walk_from_holds}

-- what holds of a value of an environment, where k is the counter and cs are the inputs
abbrev pub NumberedValue : ℕ → List Exp → Exp → Type 0
NumberedValue k cs d = (largest d < k) × Within cs d

abbrev pub NumberedAtomic : ℕ → AtomicExp → Type 0
NumberedAtomic k x = largest_atomic x < k

-- Every number is below the counter, and every `?e` of the environment stands in the inputs. "each split of a `?e` takes three
-- numbers from the path's counter", and makes a node of the inputs that is no `?e`: b is the counter's first number.
pub record NumberedAt (b k : ℕ) (P : CRPair state) : Type 0 where
  pub ins : largest_all P.con.io.ins < k
  pub out : largest P.con.io.out < k
  pub env : OfEnv (NumberedValue k P.con.io.ins) (NumberedAtomic k) P.con.env
  pub neqs : largest_restriction P.neqs < k
  pub counted : k ≤ b + 3 * solid_all P.con.io.ins

abbrev pub Numbered : ℕ → Configuration → Type 0
Numbered b c = NumberedAt b c.fresh c.cr

-- a branch that a contraction makes over a new environment σ; j is the counter behind it
module _ (b k : ℕ) (P : CRPair state) (H : NumberedAt b k P) where
  contract_numbered : (u : Term) (j : ℕ) (κ : Contraction) (σ : ExpEnv) → k ≤ j → Below j κ →
      OfEnv (λ d. NumberedValue j (apply_all (subst_of κ) P.con.io.ins) (apply (subst_of κ) d)) (λ x. NumberedAtomic j (apply_atomic (subst_of κ) x)) σ →
      j ≤ b + 3 * solid_all (apply_all (subst_of κ) P.con.io.ins) →
      OfOption (Numbered b) (configuration u j (contract κ (with_env σ P)))
  contract_numbered u j κ σ l bl v n = pick (contract_restriction κ P.neqs) refl
    where
      pick : (o : Option Restriction) → contract_restriction κ P.neqs ≡ o → OfOption (Numbered b) (configuration u j (apply_pair (subst_of κ) (with_env σ P) o))
      pick none e = tt
      pick (some qs) e = record {
        ins = largest_all_contract j κ bl P.con.io.ins (omega arith);
        out = largest_contract j κ bl P.con.io.out (omega arith);
        env = (map_all (NumberedValue j (apply_all (subst_of κ) P.con.io.ins)) (apply (subst_of κ)) σ.evars v.0, map_all (NumberedAtomic j) (apply_atomic (subst_of κ)) σ.avars v.1);
        neqs = largest_restriction_contract j κ bl P.neqs qs e (omega arith);
        counted = n;
      }

  -- a branch without one
  plain_numbered : (σ : ExpEnv) → OfEnv (NumberedValue k P.con.io.ins) (NumberedAtomic k) σ → NumberedAt b k (with_env σ P)
  plain_numbered σ v = record { ins = H.ins; out = H.out; env = v; neqs = H.neqs; counted = H.counted }

  -- what stood in the environment
  carried : (j : ℕ) (κ : Contraction) → k ≤ j → Below j κ →
      OfEnv (λ d. NumberedValue j (apply_all (subst_of κ) P.con.io.ins) (apply (subst_of κ) d)) (λ x. NumberedAtomic j (apply_atomic (subst_of κ) x)) P.con.env
  carried j κ l bl = (
    all_map _ _ (λ d v. (largest_contract j κ bl d.1 (omega arith), within_apply (subst_of κ) P.con.io.ins d.1 v.1)) P.con.env.evars H.env.0,
    all_map _ _ (λ x v. largest_atomic_contract j κ bl x.1 (omega arith)) P.con.env.avars H.env.1,
  )

  eqa_numbered : (u : Term) (κ : Contraction) → Below k κ → OfOption (Numbered b) (configuration u k (contract κ P))
  eqa_numbered u κ bl = contract_numbered u k κ P.con.env (omega arith) bl (carried k κ (omega arith) bl) (omega (arith, solid_all_apply (subst_of κ) P.con.io.ins, H.counted))

  -- the two branches of a split of ?e n: three numbers, and a node more that is no `?e`
  module _ (n : ℕ) (below : n < k) (stands : occurs_in n P.con.io.ins ≡ true) where
    abbrev AfterE : Exp → Exp → Type 0
    AfterE d c = NumberedValue (k + 3) (apply_all (subst_e n d) P.con.io.ins) (apply (subst_e n d) c)

    abbrev AfterA : Exp → AtomicExp → Type 0
    AfterA d x = NumberedAtomic (k + 3) (apply_atomic (subst_e n d) x)

    split_numbered : (u : Term) (d : Exp) (σ : ExpEnv) → 0 < solid d → Below (k + 3) (bind_e n d) → OfEnv (AfterE d) (AfterA d) σ →
        OfOption (Numbered b) (configuration u (k + 3) (contract (bind_e n d) (with_env σ P)))
    split_numbered u d σ pos bl v = contract_numbered u (k + 3) (bind_e n d) σ (omega arith) bl v
        (omega (arith, solid_all_adds (subst_e n d) n (rw (eqb_same n) pos) P.con.io.ins stands, H.counted))

    -- a variable of d is a value behind the split
    new_value : (d : Exp) (m : ℕ) → k ≤ m → m < k + 3 → ((l : ℕ) → eqb m l ≡ true → occurs l d ≡ true) → AfterE d (evar m)
    new_value d m l g h = rw (ne_eqb m n (λ e. omega arith)) (g, λ i o. occurs_in_apply (subst_e n d) i n (rw (eqb_same n) (h i o)) P.con.io.ins stands)

    yes_numbered : (h t : ℕ) (u : Term) →
        OfOption (Numbered b) (configuration u (k + 3) (contract (split_exp n (take_numbers k)).yes (with_env (update_e t (evar (k + 1)) (update_e h (evar k) P.con.env)) P)))
    yes_numbered h t u =
        let d = pair (evar k) (evar (k + 1)) in
        let r = carried (k + 3) (bind_e n d) (omega arith) (omega arith) in
        split_numbered u d (update_e t (evar (k + 1)) (update_e h (evar k) P.con.env)) (omega arith) (omega arith) (
          update_all (AfterE d) t (evar (k + 1)) (update h (evar k) P.con.env.evars) (new_value d (k + 1) (omega arith) (omega arith) (λ l e. or_right (eqb k l) _ e))
              (update_all (AfterE d) h (evar k) P.con.env.evars (new_value d k (omega arith) (omega arith) (λ l e. or_left _ _ e)) r.0),
          r.1,
        )

    no_numbered : (x : ℕ) (u : Term) → OfOption (Numbered b) (configuration u (k + 3) (contract (split_exp n (take_numbers k)).no (with_env (update_a x (avar (k + 2)) P.con.env) P)))
    no_numbered x u =
        let d = atm (avar (k + 2)) in
        let r = carried (k + 3) (bind_e n d) (omega arith) (omega arith) in
        split_numbered u d (update_a x (avar (k + 2)) P.con.env) (omega arith) (omega arith)
        (r.0, update_all (AfterA d) x (avar (k + 2)) P.con.env.avars (omega arith) r.1)

  pair_numbered : (h t x : ℕ) (s u : Term) (v : Exp) → NumberedValue k P.con.io.ins v → OfSuccessors (Numbered b) (trace_pair h t x s u P k v)
  pair_numbered h t x s u (evar n) v = let o = v.1 n (eqb_same n) in (yes_numbered n v.0 o h t s, no_numbered n v.0 o x u)
  pair_numbered h t x s u (atm y) v = (tt, plain_numbered (update_a x y P.con.env) (H.env.0, update_all (NumberedAtomic k) x y P.con.env.avars v.0 H.env.1))
  pair_numbered h t x s u (pair c d) v = (
    plain_numbered (update_e t d (update_e h c P.con.env)) (
      update_all Q t d (update h c P.con.env.evars) (omega arith, λ n o. v.1 n (or_right (occurs n c) _ o))
          (update_all Q h c P.con.env.evars (omega arith, λ n o. v.1 n (or_left _ _ o)) H.env.0),
      H.env.1,
    ),
    tt,
  )
    where
      Q : Exp → Type 0
      Q = NumberedValue k P.con.io.ins

  -- what the environment makes of a program's expressions
  abbrev s : Substitution
  s = subst_of_env P.con.env

  pos : 0 < k
  pos = omega (arith, H.out)

  atomic_below : (x : AtomicExp) → NumberedAtomic k (apply_atomic s x)
  atomic_below (sym z) = pos
  atomic_below (avar n) = lookup_all (NumberedAtomic k) (sym 0) n P.con.env.avars pos H.env.1

  pub value_below : (c : Exp) → NumberedValue k P.con.io.ins (apply s c)
  value_below (atm x) = (atomic_below x, λ n o. absurd (false≢true o))
  value_below (evar n) = lookup_all (NumberedValue k P.con.io.ins) (atm (sym 0)) n P.con.env.evars (pos, λ n o. absurd (false≢true o)) H.env.0
  value_below (pair c d) =
      let v = value_below c in
      let w = value_below d in
      (omega arith, λ n o. or_either (occurs n (apply s c)) (occurs n (apply s d)) o (v.1 n) (w.1 n))

  arguments_below : (ds : List Exp) → All (λ d. NumberedValue k P.con.io.ins (apply s d) × NumberedAtomic k (apply_atomic s (atom_of d))) ds
  arguments_below [] = tt
  arguments_below (d ∷ ds) = ((value_below d, atomic_below (atom_of d)), arguments_below ds)

  transition_numbered : (p : Prog) (t : Term) → OfSuccessors (Numbered b) (successors_of p P t k)
  unfolding successors_of
  transition_numbered p (result d) = tt
  transition_numbered p (call f ds) = plain_numbered (bind_params (apply s) (apply_atomic s) (find p f).params ds)
      (params_all (NumberedValue k P.con.io.ins) (NumberedAtomic k) (apply s) (apply_atomic s) (find p f).params ds (arguments_below ds))
  transition_numbered p (conditional (eqa x y) u t) =
      let a = apply_atomic s (atom_of x) in
      let c = apply_atomic s (atom_of y) in
      let f = atomic_below (atom_of x) in
      let g = atomic_below (atom_of y) in
      (eqa_numbered u (equality_contraction a c) (equality_below k a c f g), eqa_numbered t (non_equal a c) (f, g))
  transition_numbered p (conditional (consp d h t x) u v) = pair_numbered h t x u v (apply s d) (value_below d)

pub successors_numbered : (b : ℕ) (p : Prog) → Keeps p (Numbered b)
successors_numbered b p c H = transition_numbered b c.fresh c.cr H p c.term

-- the start: the environment is made of inputs; ds are some of the inputs cs
inputs_below : (k : ℕ) (cs ds : List Exp) → ((n : ℕ) → occurs_in n ds ≡ true → occurs_in n cs ≡ true) → largest_all ds < k → All (λ d. NumberedValue k cs d × NumberedAtomic k (atom_of d)) ds
inputs_below k cs [] h l = tt
inputs_below k cs (d ∷ ds) h l = (
  ((omega arith, λ n o. h n (or_left _ _ o)), atomic d (omega arith)),
  inputs_below k cs ds (λ n o. h n (or_right (occurs n d) _ o)) (omega arith),
)
  where
    atomic : (d : Exp) → largest d < k → NumberedAtomic k (atom_of d)
    atomic (atm x) l = l
    atomic (evar n) l = omega arith
    atomic (pair c d) l = omega arith

pub start_numbered : (p : Prog) (j : IOClass) → OfOption (Numbered (first_fresh j)) (start p j)
start_numbered p j = pick (simplify j.neqs) refl
  where
    pick : (o : Option Restriction) → simplify j.neqs ≡ o → OfOption (Numbered (first_fresh j)) (start_with p j o)
    pick none e = tt
    pick (some qs) e = record {
      ins = omega arith;
      out = omega arith;
      env = params_all (NumberedValue (first_fresh j) j.con.ins) (NumberedAtomic (first_fresh j)) (λ c. c) (λ x. x) (find p 0).params j.con.ins
          (inputs_below (first_fresh j) j.con.ins j.con.ins (λ n o. o) (omega arith));
      neqs = omega (arith, simplify_largest j.neqs qs e);
      counted = omega arith;
    }

pub started_numbered : (p : Prog) (j : IOClass) (c : Configuration) → start p j ≡ some c → Numbered (first_fresh j) c
started_numbered p j c e = subst (OfOption (Numbered (first_fresh j))) e (start_numbered p j)

-- .. and so throughout the tree and the walk
pub tree_numbered : (p : Prog) (j : IOClass) (n : ℕ) → OfTree (Numbered (first_fresh j)) (tree_of p n (start p j))
tree_numbered p j n = tree_holds (Numbered (first_fresh j)) p (successors_numbered (first_fresh j) p) n (start p j) (start_numbered p j)

pub walk_numbered : (p : Prog) (j : IOClass) (lim : Limits) (n : ℕ) → OfWalk (Numbered (first_fresh j)) (state_of (walk_from p lim n (start p j)))
walk_numbered p j lim n = walk_from_holds (Numbered (first_fresh j)) p (successors_numbered (first_fresh j) p) lim n (start p j) (start_numbered p j)

-- what bounds the counter
pub fresh_nodes : (b : ℕ) (c : Configuration) → Numbered b c → c.fresh ≤ b + 3 * nodes_all c.cr.con.io.ins
fresh_nodes b c H = omega (arith, solid_all_nodes c.cr.con.io.ins, H.counted)

pub tree_fresh : (p : Prog) (j : IOClass) (n : ℕ) → OfTree (λ c. c.fresh ≤ first_fresh j + 3 * nodes_all c.cr.con.io.ins) (tree_of p n (start p j))
tree_fresh p j n =
    let T = tree_of p n (start p j) in
    let r = tree_numbered p j n in
    (all_map _ _ (λ l. fresh_nodes (first_fresh j) l.node.conf) (leaves T) r.0, all_map _ _ (λ x. fresh_nodes (first_fresh j) x.conf) (unfinished_nodes T) r.1)

-- "21 over 4,096 nodes"
pub fresh_bounded : (b : ℕ) (c : Configuration) → Numbered b c → state_over c.cr ≡ false → c.fresh ≤ b + 3 * node_limit
fresh_bounded b c H e = let l = ltb-false node_limit (nodes_state c.cr) e in omega (arith, fresh_nodes b c H)

-- a transition takes three numbers at most, which bounds those of a configuration that 21 stops
module _ (P : CRPair state) (k : ℕ) where
  branch_fresh : (u : Term) (o : Option (CRPair state)) → OfOption (λ c. c.fresh ≤ k + 3) (configuration u k o)
  branch_fresh u none = tt
  branch_fresh u (some Q) = omega arith

  pair_fresh : (h t x : ℕ) (s u : Term) (v : Exp) → OfSuccessors (λ c. c.fresh ≤ k + 3) (trace_pair h t x s u P k v)
  pair_fresh h t x s u (atm y) = (tt, omega arith)
  pair_fresh h t x s u (pair c d) = (omega arith, tt)
  pair_fresh h t x s u (evar n) = (omega arith, omega arith)

  transition_fresh : (p : Prog) (t : Term) → OfSuccessors (λ c. c.fresh ≤ k + 3) (successors_of p P t k)
  unfolding successors_of
  transition_fresh p (result d) = tt
  transition_fresh p (call f ds) = omega arith
  transition_fresh p (conditional (eqa x y) s t) =
      let σ = subst_of_env P.con.env in
      let sp = split_atomic (apply_atomic σ (atom_of x)) (apply_atomic σ (atom_of y)) in
      (branch_fresh s (contract sp.yes P), branch_fresh t (contract sp.no P))
  transition_fresh p (conditional (consp d h t x) s u) = pair_fresh h t x s u (apply (subst_of_env P.con.env) d)

pub successors_fresh : (p : Prog) (c : Configuration) → OfSuccessors (λ d. d.fresh ≤ c.fresh + 3) (successors p c)
successors_fresh p c = transition_fresh c.cr c.fresh p c.term
