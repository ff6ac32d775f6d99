-- Symbols of lines, by the rules of figure 10, which have no default: a property of the symbols of the program and of the job holds of those of
-- each line, also where it does not hold of the symbol 0.
use Prim.Native.Nat.{ℕ}
use mathlib.Core.Path.{◌≡◌, refl, subst, sym as inv}
use mathlib.Core.Bool.{Bool, true, false≢true}
use mathlib.Core.List.{List, [], ◌∷◌, map}
use mathlib.Core.Option.{Option, none, some}
use Rattle.expressions.specs.Expression.{AtomicExp, sym, avar, Exp, atm, evar, pair}
use Rattle.expressions.specs.Substitution.{apply, apply_atomic}
use Rattle.expressions.specs.Restriction.{Restriction, simplify}
use Rattle.expressions.specs.Contraction.{CRPair, Contraction, subst_of, contract_restriction, apply_pair, contract}
use Rattle.expressions.specs.Class.{IOClass}
use Rattle.expressions.specs.Intersection.{no_limit}
use Rattle.expressions.proofs.Predicates.{All as Each, OfOption}
use Rattle.expressions.proofs.Numbers.{simplify_all, AtomicNumbers, ExpNumbers, NeqNumbers, ClassNumbers, ContractionNumbers, atomic_contract, exp_contract, exps_contract, neqs_contract, IntersectedNumbers, intersect_numbers}
use Rattle.language.specs.Program.{Term, Param, pe, pa, Def, Prog, find}
use Rattle.language.specs.WellFormed.{fits}
use Rattle.language.proofs.Numbers.{TermNumbers, ParamNumbers, DefNumbers, ProgNumbers}
use Rattle.semantics.specs.Lists.{All}
use Rattle.semantics.specs.Environment.{Binds, here, there, update, bind_params, names}
use Rattle.semantics.specs.Figure4.{Defines, first, later}
use Rattle.semantics.specs.Figure10.{CAtomOf, CValueOf, CArgumentsOf, MkBind, left, right, Leads, equal, assume, exclude, is_pair, is_atomic as is_atomic_rule, split_pair, split_atom, calls, Transition, transition, Derivation, here as arrived, there as onwards}
use Rattle.semantics.specs.Configuration.{ExpEnv, state, Configuration, with_env, start_with, start}
use Rattle.semantics.specs.Tree.{Node, Line, meeting_at, listing}
use Rattle.semantics.specs.Walk.{Walked}
use Rattle.semantics.specs.Demand2.{TrailedLine, EndsIn, TracedLines}
use Rattle.semantics.proofs.Lists.{all_map}
use Rattle.semantics.proofs.EnvironmentValues.{OfEnv, update_all, map_all}
use Rattle.semantics.proofs.SymbolNumbers.{AnyNumber, SymbolsAt, Symbols}

bound_holds : {A : Type 0} {x : ℕ} {v : A} {bs : List (ℕ × A)} (Q : A → Type 0) → Binds x v bs → All (λ b. Q b.1) bs → Q v
bound_holds Q (here bs) h = h.0
bound_holds Q (there y w bs n b) h = bound_holds Q b h.1

module _ (S N : ℕ → Type 0) where
  abbrev E : Exp → Type 0
  E = ExpNumbers S AnyNumber

  abbrev A : AtomicExp → Type 0
  A = AtomicNumbers S AnyNumber

  -- what a term's expressions come to
  atom_symbols : {σ : ExpEnv} {c : Exp} {a : AtomicExp} → CAtomOf σ c a → ExpNumbers S N c → OfEnv E A σ → A a
  atom_symbols (CAtomOf.symbol z) h v = h
  atom_symbols (CAtomOf.variable x a b) h v = bound_holds A b v.1

  value_symbols : {σ : ExpEnv} {c d : Exp} → CValueOf σ c d → ExpNumbers S N c → OfEnv E A σ → E d
  value_symbols (CValueOf.atomic c a r) h v = atom_symbols r h v
  value_symbols (CValueOf.variable x u b) h v = bound_holds E b v.0
  value_symbols (CValueOf.pairs c d u w a b) h v = (value_symbols a h.0 v, value_symbols b h.1 v)

  arguments_symbols : {σ τ : ExpEnv} {ps : List Param} {ds : List Exp} → CArgumentsOf σ ps ds τ → Each (ExpNumbers S N) ds → OfEnv E A σ → OfEnv E A τ
  arguments_symbols CArgumentsOf.done h v = (tt, tt)
  arguments_symbols (CArgumentsOf.any x ps d ds u τ a b) h v = let r = arguments_symbols b h.1 v in ((value_symbols a h.0 v, r.0), r.1)
  arguments_symbols (CArgumentsOf.one x ps d ds u τ a b) h v = let r = arguments_symbols b h.1 v in (r.0, (atom_symbols a h.0 v, r.1))

  defined_symbols : {d : Def} {p : Prog} {f : ℕ} → Defines d p f → ProgNumbers S N p → DefNumbers S N d
  defined_symbols (first p) h = h.0
  defined_symbols (later q p f b) h = defined_symbols b h.1

  bind_symbols : {a b : AtomicExp} {κ : Contraction} → MkBind a b κ → A a → A b → ContractionNumbers S AnyNumber κ
  bind_symbols (left n b) h k = k
  bind_symbols (right z n) h k = h

  leads_symbols : {p : Prog} {σ : ExpEnv} {k k' : ℕ} {σ' : ExpEnv} {t t' : Term} {o : Option Bool} {κ : Contraction} → ProgNumbers S N p → Leads p σ k t o t' σ' κ k' →
      TermNumbers S N t → OfEnv E A σ → TermNumbers S N t' × OfEnv E A σ' × ContractionNumbers S AnyNumber κ
  leads_symbols g (equal x y s t a b c) m v = (m.1, v, tt)
  leads_symbols g (assume x y s t a b κ ha hb n e) m v = (m.1, v, bind_symbols e (atom_symbols ha m.0.0 v) (atom_symbols hb m.0.1 v))
  leads_symbols g (exclude x y s t a b ha hb n) m v = (m.2, v, (atom_symbols ha m.0.0 v, atom_symbols hb m.0.1 v))
  leads_symbols {σ = σ} g (is_pair c h t x s r u w e) m v =
      let q = value_symbols e m.0.0 v in (m.1, (update_all E t w (update h u σ.evars) q.1 (update_all E h u σ.evars q.0 v.0), v.1), tt)
  leads_symbols {σ = σ} g (is_atomic_rule c h t x s r a e) m v = (m.2, (v.0, update_all A x a σ.avars (value_symbols e m.0.0 v) v.1), tt)
  leads_symbols {σ = σ} g (split_pair c h t x s r n e) m v =
      (m.1, (update_all E t _ (update h _ σ.evars) tt (update_all E h _ σ.evars tt v.0), v.1), (tt, tt))
  leads_symbols {σ = σ} g (split_atom c h t x s r n e) m v = (m.2, (v.0, update_all A x _ σ.avars tt v.1), tt)
  leads_symbols g (calls f ds d τ b a) m v = ((defined_symbols b g).1, arguments_symbols a m v, tt)

  contract_symbols : (κ : Contraction) → ContractionNumbers S AnyNumber κ → (P : CRPair state) → SymbolsAt S P → OfOption (SymbolsAt S) (contract κ P)
  contract_symbols κ b P H = pick (contract_restriction κ P.neqs) (neqs_contract S AnyNumber κ b P.neqs H.neqs)
    where
      pick : (o : Option Restriction) → OfOption (Each (NeqNumbers S AnyNumber)) o → OfOption (SymbolsAt S) (apply_pair (subst_of κ) P o)
      pick none h = tt
      pick (some qs) h = record {
        ins = exps_contract S AnyNumber κ b P.con.io.ins H.ins;
        out = exp_contract S AnyNumber κ b P.con.io.out H.out;
        env = (
          map_all E (apply (subst_of κ)) P.con.env.evars (all_map _ _ (λ d. exp_contract S AnyNumber κ b d.1) P.con.env.evars H.env.0),
          map_all A (apply_atomic (subst_of κ)) P.con.env.avars (all_map _ _ (λ x. atomic_contract S AnyNumber κ b x.1) P.con.env.avars H.env.1),
        );
        neqs = h;
      }

  transition_symbols : {p : Prog} {c d : Configuration} {o : Option Bool} → ProgNumbers S N p → Transition p c o d → Symbols S N c → Symbols S N d
  transition_symbols {c} g (transition t σ κ k P l e) H =
      let r = leads_symbols g l H.1 H.0.env in
      let moved : SymbolsAt S (with_env σ c.cr) = record { ins = H.0.ins; out = H.0.out; env = r.1; neqs = H.0.neqs } in
      (subst (OfOption (SymbolsAt S)) e (contract_symbols κ r.2 (with_env σ c.cr) moved), r.0)

  derived_symbols : {p : Prog} {d c : Configuration} {m : ℕ} {bs : List Bool} → ProgNumbers S N p → Derivation p d c m bs → Symbols S N c → Symbols S N d
  derived_symbols g arrived H = H
  derived_symbols g (onwards c e o m bs t r) H = derived_symbols g r (transition_symbols g t H)

  end_symbols : {p : Prog} {n : ℕ} {c : Configuration} (x : TrailedLine) → ProgNumbers S N p → Symbols S N c → EndsIn p n c x → ClassNumbers S AnyNumber x.line.class
  end_symbols x g H r =
      let K = derived_symbols g r.derivation H in
      let node : Node = record { conf = r.d; steps = r.m; trail = x.trail } in
      let u = value_symbols r.terminal.value (subst (TermNumbers S N) r.terminal.term K.1) K.0.env in
      subst (IntersectedNumbers S AnyNumber) r.class (intersect_numbers S AnyNumber no_limit (meeting_at node r.u) (K.0.ins, K.0.out, u, K.0.neqs))

  -- the start: M holds of the job's variables
  module _ (M : ℕ → Type 0) where
    any_atomic : (x : AtomicExp) → AtomicNumbers S M x → A x
    any_atomic (sym z) h = h
    any_atomic (avar n) h = tt

    any_exp : (c : Exp) → ExpNumbers S M c → E c
    any_exp (atm x) h = any_atomic x h
    any_exp (evar n) h = tt
    any_exp (pair c d) h = (any_exp c h.0, any_exp d h.1)

    any_exps : (cs : List Exp) → Each (ExpNumbers S M) cs → Each E cs
    any_exps [] h = tt
    any_exps (c ∷ cs) h = (any_exp c h.0, any_exps cs h.1)

    any_neqs : (qs : Restriction) → Each (NeqNumbers S M) qs → Each (NeqNumbers S AnyNumber) qs
    any_neqs [] h = tt
    any_neqs (q ∷ qs) h = ((any_atomic q.left h.0.0, any_atomic q.right h.0.1), any_neqs qs h.1)

    env_symbols : (ps : List Param) (cs : List Exp) → fits ps cs ≡ true → Each (ExpNumbers S M) cs → OfEnv E A (bind_params (λ c. c) (λ x. x) ps cs)
    env_symbols [] cs f h = (tt, tt)
    env_symbols (p ∷ ps) [] f h = (tt, tt)
    env_symbols (pe x ∷ ps) (c ∷ cs) f h = let r = env_symbols ps cs f h.1 in ((any_exp c h.0, r.0), r.1)
    env_symbols (pa x ∷ ps) (atm y ∷ cs) f h = let r = env_symbols ps cs f h.1 in (r.0, (any_atomic y h.0, r.1))
    env_symbols (pa x ∷ ps) (evar n ∷ cs) f h = absurd (false≢true f)
    env_symbols (pa x ∷ ps) (pair c d ∷ cs) f h = absurd (false≢true f)

    names_symbols : (ps : List Param) → Each (ParamNumbers S N) ps → Each (ExpNumbers S N) (names ps)
    names_symbols [] h = tt
    names_symbols (pe x ∷ ps) h = (h.0, names_symbols ps h.1)
    names_symbols (pa x ∷ ps) h = (h.0, names_symbols ps h.1)

    main_symbols : (p : Prog) → ProgNumbers S N p → Each (ParamNumbers S N) (find p 0).params
    main_symbols [] g = tt
    main_symbols (d ∷ p) g = g.0.0

    start_symbols : (p : Prog) (j : IOClass) → ProgNumbers S N p → ClassNumbers S M j → fits (find p 0).params j.con.ins ≡ true → OfOption (Symbols S N) (start p j)
    start_symbols p j g h f = pick (simplify j.neqs) (simplify_all (NeqNumbers S AnyNumber) j.neqs (any_neqs j.neqs h.2))
      where
        pick : (o : Option Restriction) → OfOption (Each (NeqNumbers S AnyNumber)) o → OfOption (Symbols S N) (start_with p j o)
        pick none k = tt
        pick (some qs) k = (
          record { ins = any_exps j.con.ins h.0; out = any_exp j.con.out h.1; env = env_symbols (find p 0).params j.con.ins f h.0; neqs = k },
          names_symbols (find p 0).params (main_symbols p g),
        )

    -- every line of the tracing rules, and so each of a walk's, stopped or not
    pub traced_symbols : (p : Prog) (n : ℕ) (j : IOClass) (w : Walked) → ProgNumbers S N p → ClassNumbers S M j → fits (find p 0).params j.con.ins ≡ true → TracedLines p n j w →
        All (λ L. ClassNumbers S AnyNumber L.class) (listing p n j).lines
    traced_symbols p n j w g h f T = pick (start p j) refl (start_symbols p j g h f)
      where
        Q : Line → Type 0
        Q L = ClassNumbers S AnyNumber L.class

        each : (xs : List TrailedLine) → All (λ x. Q x.line) xs → All Q (map (λ x. x.line) xs)
        each [] q = tt
        each (x ∷ xs) q = (q.0, each xs q.1)

        pick : (o : Option Configuration) → start p j ≡ o → OfOption (Symbols S N) o → All Q (listing p n j).lines
        pick none e k = subst (All Q) (inv (T.no_start e)) tt
        pick (some c) e k =
            let r = T.by_the_rules c e in
            subst (All Q) (inv r.lines_are) (each r.trailed (all_map _ _ (λ x. end_symbols x g k) r.trailed r.sound))
