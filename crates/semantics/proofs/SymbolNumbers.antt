-- Numbers of symbols on a path: a property of those of the program and of the job holds of all that a walk meets.
use Prim.Native.Nat.{ℕ, zero, suc, ◌+◌}
use mathlib.Core.List.{List, [], ◌∷◌}
use mathlib.Core.Option.{Option, none, some}
use Rattle.expressions.specs.Expression.{AtomicExp, sym, avar, Exp, atm, evar, pair}
use Rattle.expressions.specs.Substitution.{Substitution, apply, apply_atomic}
use Rattle.expressions.specs.Restriction.{Restriction, simplify}
use Rattle.expressions.specs.Contraction.{CRPair, Contraction, non_equal, subst_of, contract_restriction, apply_pair, contract, equality_contraction}
use Rattle.expressions.specs.Class.{IOClass}
use Rattle.expressions.specs.Split.{take_numbers, split_exp}
use Rattle.expressions.proofs.Predicates.{All as Each, OfOption}
use Rattle.expressions.proofs.Numbers.{simplify_all, AtomicNumbers, ExpNumbers, NeqNumbers, ClassNumbers, ContractionNumbers, atomic_contract, exp_contract, exps_contract, neqs_contract, equality_numbers}
use Rattle.language.specs.Program.{eqa, consp, Term, call, conditional, result, Param, pe, pa, Prog, find, atom_of}
use Rattle.language.proofs.Numbers.{TermNumbers, ParamNumbers, DefNumbers, ProgNumbers}
use Rattle.semantics.specs.Lists.{All}
use Rattle.semantics.specs.Environment.{update, update_e, update_a, bind_params, names}
use Rattle.semantics.specs.Configuration.{ExpEnv, subst_of_env, state, Configuration, with_env, start_with, start}
use Rattle.semantics.specs.Trace.{configuration, trace_pair, successors_of}
use Rattle.semantics.specs.Tree.{tree_of}
use Rattle.semantics.specs.Walk.{Limits, walk_from, state_of}
use Rattle.semantics.proofs.Lists.{all_map}
use Rattle.semantics.proofs.EnvironmentValues.{OfEnv, update_all, lookup_all, map_all, params_all}
use Rattle.semantics.proofs.Invariants.{OfSuccessors, OfTree, OfWalk, Keeps, tree_holds, walk_from_holds}

-- a variable may have any number: proofs/FreshNumbers.antt bounds it
abbrev pub AnyNumber : ℕ → Type 0
AnyNumber n = Unit {0}

-- S holds of each symbol of the configuration and of its term, whose names have numbers of which N holds
pub record SymbolsAt (S : ℕ → Type 0) (P : CRPair state) : Type 0 where
  pub ins : Each (ExpNumbers S AnyNumber) P.con.io.ins
  pub out : ExpNumbers S AnyNumber P.con.io.out
  pub env : OfEnv (ExpNumbers S AnyNumber) (AtomicNumbers S AnyNumber) P.con.env
  pub neqs : Each (NeqNumbers S AnyNumber) P.neqs

abbrev pub Symbols : (S N : ℕ → Type 0) → Configuration → Type 0
Symbols S N c = SymbolsAt S c.cr × TermNumbers S N c.term

-- the symbol 0 stands where a lookup finds nothing, which no accepted program meets
module _ (S N : ℕ → Type 0) (nought : S 0) where
  abbrev E : Exp → Type 0
  E = ExpNumbers S AnyNumber

  abbrev A : AtomicExp → Type 0
  A = AtomicNumbers S AnyNumber

  find_symbols : (p : Prog) → ProgNumbers S N p → (f : ℕ) → DefNumbers S N (find p f)
  find_symbols [] h f = (tt, nought)
  find_symbols (d ∷ p) h zero = h.0
  find_symbols (d ∷ p) h (suc f) = find_symbols p h.1 f

  module _ (P : CRPair state) (k : ℕ) (H : SymbolsAt S P) where
    contract_symbols : (u : Term) → TermNumbers S N u → (j : ℕ) (κ : Contraction) → ContractionNumbers S AnyNumber κ → (σ : ExpEnv) → OfEnv E A σ → OfOption (Symbols S N) (configuration u j (contract κ (with_env σ P)))
    contract_symbols u t j κ b σ v = pick (contract_restriction κ P.neqs) (neqs_contract S AnyNumber κ b P.neqs H.neqs)
      where
        pick : (o : Option Restriction) → OfOption (Each (NeqNumbers S AnyNumber)) o → OfOption (Symbols S N) (configuration u j (apply_pair (subst_of κ) (with_env σ P) o))
        pick none h = tt
        pick (some qs) h = (
          record {
            ins = exps_contract S AnyNumber κ b P.con.io.ins H.ins;
            out = exp_contract S AnyNumber κ b P.con.io.out H.out;
            env = (
              map_all E (apply (subst_of κ)) σ.evars (all_map _ _ (λ d. exp_contract S AnyNumber κ b d.1) σ.evars v.0),
              map_all A (apply_atomic (subst_of κ)) σ.avars (all_map _ _ (λ x. atomic_contract S AnyNumber κ b x.1) σ.avars v.1),
            );
            neqs = h;
          },
          t,
        )

    plain_symbols : (σ : ExpEnv) → OfEnv E A σ → SymbolsAt S (with_env σ P)
    plain_symbols σ v = record { ins = H.ins; out = H.out; env = v; neqs = H.neqs }

    -- what the environment makes of the term's expressions
    abbrev s : Substitution
    s = subst_of_env P.con.env

    atomic_symbols : (x : AtomicExp) → AtomicNumbers S N x → A (apply_atomic s x)
    atomic_symbols (sym z) h = h
    atomic_symbols (avar n) h = lookup_all A (sym 0) n P.con.env.avars nought H.env.1

    pub value_symbols : (c : Exp) → ExpNumbers S N c → E (apply s c)
    value_symbols (atm x) h = atomic_symbols x h
    value_symbols (evar n) h = lookup_all E (atm (sym 0)) n P.con.env.evars nought H.env.0
    value_symbols (pair c d) h = (value_symbols c h.0, value_symbols d h.1)

    atom_symbols : (c : Exp) → ExpNumbers S N c → A (apply_atomic s (atom_of c))
    atom_symbols (atm x) h = atomic_symbols x h
    atom_symbols (evar n) h = nought
    atom_symbols (pair c d) h = nought

    arguments_symbols : (ds : List Exp) → Each (ExpNumbers S N) ds → All (λ d. E (apply s d) × A (apply_atomic s (atom_of d))) ds
    arguments_symbols [] h = tt
    arguments_symbols (d ∷ ds) h = ((value_symbols d h.0, atom_symbols d h.0), arguments_symbols ds h.1)

    pair_symbols : (h t x : ℕ) (a b : Term) → TermNumbers S N a → TermNumbers S N b → (v : Exp) → E v → OfSuccessors (Symbols S N) (trace_pair h t x a b P k v)
    pair_symbols h t x a b f g (atm y) v = (tt, (plain_symbols (update_a x y P.con.env) (H.env.0, update_all A x y P.con.env.avars v H.env.1), g))
    pair_symbols h t x a b f g (pair c d) v = (
      (
        plain_symbols (update_e t d (update_e h c P.con.env))
            (update_all E t d (update h c P.con.env.evars) v.1 (update_all E h c P.con.env.evars v.0 H.env.0), H.env.1),
        f,
      ),
      tt,
    )
    pair_symbols h t x a b f g (evar n) v = (
      contract_symbols a f (k + 3) (split_exp n (take_numbers k)).yes (tt, tt) (update_e t (evar (k + 1)) (update_e h (evar k) P.con.env))
          (update_all E t (evar (k + 1)) (update h (evar k) P.con.env.evars) tt (update_all E h (evar k) P.con.env.evars tt H.env.0), H.env.1),
      contract_symbols b g (k + 3) (split_exp n (take_numbers k)).no tt (update_a x (avar (k + 2)) P.con.env) (H.env.0, update_all A x (avar (k + 2)) P.con.env.avars tt H.env.1),
    )

    transition_symbols : (p : Prog) → ProgNumbers S N p → (t : Term) → TermNumbers S N t → OfSuccessors (Symbols S N) (successors_of p P t k)
    unfolding successors_of
    transition_symbols p g (result d) h = tt
    transition_symbols p g (call f ds) h = (
      plain_symbols (bind_params (apply s) (apply_atomic s) (find p f).params ds) (params_all E A (apply s) (apply_atomic s) (find p f).params ds (arguments_symbols ds h)),
      (find_symbols p g f).1,
    )
    transition_symbols p g (conditional (eqa x y) u t) h =
        let v = apply_atomic s (atom_of x) in
        let w = apply_atomic s (atom_of y) in
        let a = atom_symbols x h.0.0 in
        let b = atom_symbols y h.0.1 in (
          contract_symbols u h.1 k (equality_contraction v w) (equality_numbers S AnyNumber v w a b) P.con.env H.env,
          contract_symbols t h.2 k (non_equal v w) (a, b) P.con.env H.env,
        )
    transition_symbols p g (conditional (consp d h t x) u v) m = pair_symbols h t x u v m.1 m.2 (apply s d) (value_symbols d m.0.0)

  pub successors_symbols : (p : Prog) → ProgNumbers S N p → Keeps p (Symbols S N)
  successors_symbols p g c H = transition_symbols c.cr c.fresh H.0 p g c.term H.1

  -- the start: the inputs are the environment's values; M holds of the job's variables
  module _ (M : ℕ → Type 0) where
    any_atomic : (x : AtomicExp) → AtomicNumbers S M x → A x
    any_atomic (sym z) h = h
    any_atomic (avar n) h = tt

    any_exp : (c : Exp) → ExpNumbers S M c → E c
    any_exp (atm x) h = any_atomic x h
    any_exp (evar n) h = tt
    any_exp (pair c d) h = (any_exp c h.0, any_exp d h.1)

    any_atom : (c : Exp) → ExpNumbers S M c → A (atom_of c)
    any_atom (atm x) h = any_atomic x h
    any_atom (evar n) h = nought
    any_atom (pair c d) h = nought

    any_exps : (cs : List Exp) → Each (ExpNumbers S M) cs → Each E cs
    any_exps [] h = tt
    any_exps (c ∷ cs) h = (any_exp c h.0, any_exps cs h.1)

    inputs_symbols : (cs : List Exp) → Each (ExpNumbers S M) cs → All (λ c. E c × A (atom_of c)) cs
    inputs_symbols [] h = tt
    inputs_symbols (c ∷ cs) h = ((any_exp c h.0, any_atom c h.0), inputs_symbols cs h.1)

    any_neqs : (qs : Restriction) → Each (NeqNumbers S M) qs → Each (NeqNumbers S AnyNumber) qs
    any_neqs [] h = tt
    any_neqs (q ∷ qs) h = ((any_atomic q.left h.0.0, any_atomic q.right h.0.1), any_neqs qs h.1)

    names_symbols : (ps : List Param) → Each (ParamNumbers S N) ps → Each (ExpNumbers S N) (names ps)
    names_symbols [] h = tt
    names_symbols (pe x ∷ ps) h = (h.0, names_symbols ps h.1)
    names_symbols (pa x ∷ ps) h = (h.0, names_symbols ps h.1)

    pub start_symbols : (p : Prog) (j : IOClass) → ProgNumbers S N p → ClassNumbers S M j → OfOption (Symbols S N) (start p j)
    start_symbols p j g h = pick (simplify j.neqs) (simplify_all (NeqNumbers S AnyNumber) j.neqs (any_neqs j.neqs h.2))
      where
        pick : (o : Option Restriction) → OfOption (Each (NeqNumbers S AnyNumber)) o → OfOption (Symbols S N) (start_with p j o)
        pick none k = tt
        pick (some qs) k = (
          record {
            ins = any_exps j.con.ins h.0;
            out = any_exp j.con.out h.1;
            env = params_all E A (λ c. c) (λ x. x) (find p 0).params j.con.ins (inputs_symbols j.con.ins h.0);
            neqs = k;
          },
          names_symbols (find p 0).params (find_symbols p g 0).0,
        )

    -- .. and so throughout the tree and the walk
    pub tree_symbols : (p : Prog) (j : IOClass) (n : ℕ) → ProgNumbers S N p → ClassNumbers S M j → OfTree (Symbols S N) (tree_of p n (start p j))
    tree_symbols p j n g h = tree_holds (Symbols S N) p (successors_symbols p g) n (start p j) (start_symbols p j g h)

    pub walk_symbols : (p : Prog) (j : IOClass) (lim : Limits) (n : ℕ) → ProgNumbers S N p → ClassNumbers S M j → OfWalk (Symbols S N) (state_of (walk_from p lim n (start p j)))
    walk_symbols p j lim n g h = walk_from_holds (Symbols S N) p (successors_symbols p g) lim n (start p j) (start_symbols p j g h)
