-- Where the term stands to which a state of a run leads, and what gives its names their values.
use Prim.Native.Nat.{ℕ, ◌+◌, ◌≤◌, ◌<◌}
use mathlib.Core.Path.{◌≡◌, refl, ap, subst, ◌∙◌, sym as inv}
use mathlib.Core.Bool.{Bool, true, false, cond}
use mathlib.Core.List.{List, [], ◌∷◌, ◌++◌}
use mathlib.Core.Option.{Option, none, some}
use native.Mathlib.Omega.{arith}
use lib.Dec.{eqb}
use lib.ListN.{length}
use Rattle.expressions.specs.Expression.{Value, atom, cons, AtomicExp, sym, Exp, atm, evar, pair, nodes}
use Rattle.expressions.specs.Substitution.{Substitution, ground_exp, ground_atomic, apply, apply_atomic, apply_all}
use Rattle.expressions.specs.Contraction.{CRPair, contract}
use Rattle.expressions.specs.Split.{split_atomic}
use Rattle.language.specs.Program.{eqa, consp, Term, call, conditional, result, Param, pe, pa, Prog, find, atom_of}
use Rattle.language.specs.Scope.{Scope}
use Rattle.semantics.specs.Environment.{lookup, bind_params}
use Rattle.semantics.specs.Figure4.{ValueEnv}
use Rattle.semantics.specs.Evaluate.{ground_of, go, step}
use Rattle.semantics.specs.Embedding.{embed}
use Rattle.semantics.proofs.EmbeddedStates.{embed_env}
use Rattle.semantics.specs.Configuration.{ExpEnv, subst_of_env, state, nodes_values, Configuration}
use Rattle.semantics.specs.Runner.{nodes_next}
use Rattle.semantics.specs.Trace.{Successors, called, branches, configuration, trace_pair, successors_of, successors}
use Rattle.semantics.proofs.Forward.{apply_embed}
use Rattle.semantics.proofs.Scopes.{Covers, WellScoped, scoped_call, scoped_consp}
use Rattle.heap.specs.declared.configuration.Configuration.{Configuration as InCells}
use Rattle.runs.proofs.RunLaws.{Below, below_self}
use Rattle.linking.specs.Twins.Code.{link, link_at}
use Rattle.linking.specs.Twins.Linked.{with_name, ExpLinked, ExpsLinked, TermLinked, call_linked, same_linked}
use Rattle.linking.specs.Twins.Places.{env_of}
use Rattle.linking.specs.declared.code.Link.{Link}
use Rattle.linking.proofs.PlaceLaws.{bound_arguments}
use Rattle.constants.proofs.ConstantLaws.{NoConstants, none_held}
use Rattle.values.proofs.ValueLaws.{Typed, Known}
use Rattle.values.proofs.StateLaws.{known_in_scope, all_known, Stands}
use Rattle.values.proofs.PairLaws.{entries_few, fits_typed}
use Rattle.values.proofs.BodyLaws.{found_linked}
use Rattle.atoms.specs.Twins.Atoms.{sides_at}
use Rattle.atoms.proofs.AtomLaws.{side_of}
use Rattle.atoms.proofs.TakeLaws.{same_successors}
use Rattle.looking.specs.Twins.Looking.{test_at, LookLeft, look_at}
use Rattle.looking.specs.declared.look.Tested.{Tested}
use Rattle.looking.specs.declared.look.Tested.TheVariants.{Atom, Pair, Large}
use Rattle.pairs.proofs.NameLaws.{typed_with_e, typed_with_a, env_with_a, env_with_parts}
use Rattle.pairs.proofs.LookLaws.{TestAt, test_at_lem, Looked, atom_at, variable_at, pair_at, large_at}
use Rattle.pairs.proofs.BranchLaws.{stands_look}
use Rattle.tracing.specs.Twins.Asking.{AskLeft, asked_at}
use Rattle.tracing.specs.declared.ask.Asked.TheVariants.{Same, Test}
use Rattle.tracing.proofs.ShowLaws.{Accepted}
use Rattle.forward.specs.Twins.Next.{next_place}
use Rattle.forward.proofs.OutputLaws.{Sources}
use Rattle.forward.proofs.WayLaws.{way_to, at, size, in_scope, Way}
use Rattle.forward.proofs.SourceLaws.{same_sources, call_sources, atom_sources, pair_sources, large_sources}

-- what a call's term stands as, and an `eqa?`'s
call_parts : {p : Prog} {bodies : ℕ → ℕ} {code : List ℕ} {sc : List Param} {i g : ℕ} {ds : List Exp} {k : ℕ} → TermLinked p bodies code sc i (call g ds) k →
    (j : ℕ) × (g < length p → link_at code i ≡ link 3 (length (find p g).params) (bodies g) (j + 2)) × ExpsLinked code sc (i + 4) ds j
call_parts (call_linked a b) = (_, a, b)

record SameAt (p : Prog) (bodies : ℕ → ℕ) (code : List ℕ) (sc : List Param) (i : ℕ) (s u : Term) : Type 0 where
  yes_at : ℕ
  no_at : ℕ
  past : ℕ
  last : ℕ
  opens : link_at code i ≡ link 4 yes_at no_at past
  on_true : TermLinked p bodies code sc yes_at s no_at
  on_false : TermLinked p bodies code sc no_at u last

same_parts : {p : Prog} {bodies : ℕ → ℕ} {code : List ℕ} {sc : List Param} {i : ℕ} {a b : Exp} {s u : Term} {k : ℕ} → TermLinked p bodies code sc i (conditional (eqa a b) s u) k → SameAt p bodies code sc i s u
same_parts (same_linked o c d y z) = record { yes_at = _; no_at = _; past = _; last = _; opens = o; on_true = y; on_false = z }

-- what is asked, by the mark at the place
asks_same : (code : List ℕ) (c : InCells) (h f : List ℕ) → (link_at code c.place).mark ≡ 4 → (l : ℕ) × (r : ℕ) × (asked_at code c h f ≡ record { asked = Same l r; heap = h })
unfolding asked_at
asks_same code c h f e = ((sides_at code h f c).left, (sides_at code h f c).right, rw e)

asks_test : (code : List ℕ) (c : InCells) (h f : List ℕ) → (link_at code c.place).mark ≡ 5 → asked_at code c h f ≡ record { asked = Test (look_at code c h f).answer; heap = (look_at code c h f).heap }
unfolding asked_at
asks_test code c h f e = rw e

term_of : (t : Term) (k : ℕ) (o : Option (CRPair state)) (L : Configuration) → configuration t k o ≡ some L → t ≡ L.term
term_of t k none L e = let z : ◌≡◌ {A = ℕ} 0 1 = cc in absurd (omega arith)
term_of t k (some P) L e = cc

same_env : (b : Bool) (s t u : Term) (σ τ : ValueEnv) → cond b (go s σ) (go t σ) ≡ go u τ → σ ≡ τ
same_env true s t u σ τ e = cc
same_env false s t u σ τ e = cc

-- a value that is bound has no more nodes than all of them
lookup_nodes : (x : ℕ) (bs : List (ℕ × Exp)) → nodes (lookup (atm (sym 0)) x bs) ≤ 1 + nodes_values bs
lookup_nodes x [] = omega arith
lookup_nodes x (b ∷ bs) = pick (eqb b.0 x) (lookup_nodes x bs)
  where
    pick : (o : Bool) → nodes (lookup (atm (sym 0)) x bs) ≤ 1 + nodes_values bs → nodes (cond o b.1 (lookup (atm (sym 0)) x bs)) ≤ 1 + (nodes b.1 + nodes_values bs)
    pick true l = omega arith
    pick false l = omega arith

-- an expression whose value is large is a `cons`
cons_of : (ρ : ExpEnv) (e a b : Exp) → apply (subst_of_env ρ) e ≡ pair a b → nodes_values ρ.evars ≤ 4097 → 8192 < nodes (pair a b) → (d : Exp) × (g : Exp) × (e ≡ pair d g) × (apply (subst_of_env ρ) d ≡ a) × (apply (subst_of_env ρ) g ≡ b)
cons_of ρ (atm x) a b q l o = let z : ◌≡◌ {A = ℕ} 0 1 = cc in absurd (omega arith)
cons_of ρ (evar x) a b q l o = absurd (omega (arith, lookup_nodes x ρ.evars, ap nodes q))
cons_of ρ (pair d g) a b q l o = (d, g, refl, cc, cc)

some_same : {A : Type 0} {a b : A} → some a ≡ some b → a ≡ b
some_same e = cc

module _ (p : Prog) (bodies : ℕ → ℕ) (code : List ℕ) (ok : Accepted p bodies code) (empty : NoConstants code) (is : List Value) {h f q : List ℕ} {c : InCells} {t : Term} {σ : ValueEnv} (x : Stands p bodies code h f q c (at p bodies code ok empty is t σ))
    (fits : nodes_next is (go t σ) ≤ 4096) (scoped : WellScoped p t σ) (room : c.used + 8192 ≤ 65535) where
  abbrev K : Term → ValueEnv → Configuration
  K u τ = at p bodies code ok empty is u τ

  abbrev asking : AskLeft
  asking = asked_at code c h f

  abbrev OnWay : Term → ValueEnv → Type 0
  OnWay u τ = Way p bodies code ok empty is x fits scoped room u τ

  -- the term u with the environment τ behind the way that is taken: each of its names has a source
  pub record Landing (b : Bool) (u : Term) (τ : ValueEnv) : Type 0 where
    pub names : List Param
    pub past : ℕ
    pub term : TermLinked p bodies code names (next_place code c.place b) u past
    pub values : List Exp
    pub typed : Typed names values
    pub env : embed_env τ ≡ env_of names values
    pub B : ℕ
    pub sources : Sources code c asking.asked f B asking.heap values

  abbrev ρ : Substitution
  ρ = subst_of_env (embed_env σ)

  abbrev υ : Substitution
  υ = subst_of_env (env_of x.names x.holds.values)

  few : c.entries < 4120
  few = omega (arith, entries_few x.holds (size p bodies code ok empty is x fits scoped room))

  subst_is : ρ ≡ υ
  subst_is = ap subst_of_env x.holds.env

  here : (s : Term) → t ≡ s → TermLinked p bodies code x.names c.place s x.past
  here s e = subst (λ (u : Term). TermLinked p bodies code x.names c.place u x.past) e x.term

  scoped_as : (s : Term) → t ≡ s → WellScoped p s (embed_env σ)
  scoped_as s e = subst (λ (u : Term). WellScoped p u (embed_env σ)) e (in_scope p bodies code ok empty is x fits scoped room)

  covered : (sc : Scope) → Covers sc (embed_env σ) → Covers sc (env_of x.names x.holds.values)
  covered sc k = subst (λ (τ : ExpEnv). Covers sc τ) x.holds.env k

  -- behind a call
  landing_call : (g : ℕ) (ds : List Exp) → t ≡ call g ds → (u : Term) (τ : ValueEnv) (w : OnWay u τ) → Landing w.by u τ
  unfolding successors_of
  landing_call g ds e u τ w =
      let wc = scoped_as (call g ds) e in
      let sc = scoped_call wc in
      let ps = (find p g).params in
      let L : Configuration = record { cr = record { con = record { io = (K t σ).cr.con.io; env = bind_params (apply ρ) (apply_atomic ρ) ps ds }; neqs = [] }; term = (find p g).body; fresh = 1 } in
      let s : successors p (K t σ) ≡ called L = rw e in
      let k = w.calls L s in
      let m : L ≡ K u τ = some_same (inv (ap (λ (z : Successors). way_to z w.by) s) ∙ w.to) in
      let parts = call_parts (here (call g ds) e) in
      let y = found_linked g ok.linked sc.0 in
      let known = all_known x.holds.typed wc.scope (covered wc.scope wc.covers) ds sc.2 in
      let second : (link_at code c.place).second ≡ bodies g = ap (λ (l : Link). l.second) (parts.1 sc.0) in
      let at-four : test_at c ≡ c.place + 4 = omega (arith, w.place) in
      record {
        names = ps;
        past = y.0;
        term = rw (k.0, second) (subst (λ (v : Term). TermLinked p bodies code ps (bodies g) v y.0) (ap (λ (z : Configuration). z.term) m) y.1);
        values = apply_all υ ds;
        typed = fits_typed υ ps ds sc.1;
        env = inv (ap (λ (z : Configuration). z.cr.con.env) m) ∙ ap (λ (s : Substitution). bind_params (apply s) (apply_atomic s) ps ds) subst_is ∙ bound_arguments υ ps ds sc.1;
        B = c.used;
        sources = rw k.1 (call_sources code empty x.holds few room asking.heap w.same at-four parts.2 known);
      }

  -- behind an `eqa?`
  same_way : (P Q : Option (CRPair state)) (s v u : Term) (τ : ValueEnv) (o : Bool) → way_to (branches (configuration s 1 P) (configuration v 1 Q)) o ≡ some (K u τ) → SameAt p bodies code x.names c.place s v →
      (past : ℕ) × TermLinked p bodies code x.names (next_place code c.place o) u past
  same_way P Q s v u τ true e y = (y.no_at, rw y.opens (subst (λ (z : Term). TermLinked p bodies code x.names y.yes_at z y.no_at) (term_of s 1 P (K u τ) e) y.on_true))
  same_way P Q s v u τ false e y = (y.last, rw y.opens (subst (λ (z : Term). TermLinked p bodies code x.names y.no_at z y.last) (term_of v 1 Q (K u τ) e) y.on_false))

  landing_same : (a b : Exp) (s v : Term) → t ≡ conditional (eqa a b) s v → (u : Term) (τ : ValueEnv) → σ ≡ τ → (w : OnWay u τ) → Landing w.by u τ
  landing_same a b s v e u τ m w =
      let parts = same_parts (here (conditional (eqa a b) s v) e) in
      let k = asks_same code c h f (rw parts.opens) in
      let P = contract (split_atomic (side_of (K t σ) a) (side_of (K t σ) b)).yes (K t σ).cr in
      let Q = contract (split_atomic (side_of (K t σ) a) (side_of (K t σ) b)).no (K t σ).cr in
      let y = same_way P Q s v u τ w.by (inv (ap (λ (z : Successors). way_to z w.by) (same_successors p (K t σ) e)) ∙ w.to) parts in
      record {
        names = x.names;
        past = y.0;
        term = y.1;
        values = x.holds.values;
        typed = x.holds.typed;
        env = ap embed_env (inv m) ∙ x.holds.env;
        B = c.used;
        sources =
            subst (λ (z : AskLeft). Sources code c z.asked f c.used z.heap x.holds.values) (inv k.2)
            (same_sources code empty x.holds few room h below_self k.0 k.1);
      }

  -- behind a `cons?`
  module _ (e : Exp) (m k n : ℕ) (s v : Term) (is-test : t ≡ conditional (consp e m k n) s v) where
    test_here : TestAt p bodies code x.names c.place e m k n s v
    test_here = test_at_lem (here (conditional (consp e m k n) s v) is-test)

    known : Known x.names e
    known = let w = scoped_as (conditional (consp e m k n) s v) is-test in known_in_scope x.holds.typed w.scope (covered w.scope w.covers) e (scoped_consp w)

    abbrev looked : LookLeft
    looked = look_at code c h f

    asks_looked : asking ≡ record { asked = Test looked.answer; heap = looked.heap }
    asks_looked = asks_test code c h f (rw test_here.opens)

    test_successors : successors p (K t σ) ≡ trace_pair m k n s v (K t σ).cr 1 (apply ρ e)
    unfolding successors_of
    test_successors = rw is-test

    abbrev SourcesOf : Tested → ℕ → List Exp → Type 0
    SourcesOf a B ws = Sources code c (Test a) f B looked.heap ws

    sources_as : (a : Tested) (B : ℕ) (ws : List Exp) → looked.answer ≡ a → SourcesOf a B ws → Sources code c asking.asked f B asking.heap ws
    sources_as a B ws i y = subst (λ (z : AskLeft). Sources code c z.asked f B z.heap ws) (inv asks_looked) (rw i y)

    -- on an atom
    landing_atom : (y : AtomicExp) (B : ℕ) (a : Tested) → looked.answer ≡ a → SourcesOf a B (x.holds.values ++ (atm y ∷ [])) →
        (b : Bool) (u : Term) (τ : ValueEnv) → way_to (trace_pair m k n s v (K t σ).cr 1 (atm y)) b ≡ some (K u τ) → Landing b u τ
    landing_atom y B a i z true u τ q = let o : ◌≡◌ {A = ℕ} 0 1 = cc in absurd (omega arith)
    landing_atom y B a i z false u τ q =
        let T = test_here in
        let l = some_same q in
        record {
          names = with_name (pa n) x.names;
          past = T.end;
          term = rw T.opens (subst (λ (r : Term). TermLinked p bodies code (with_name (pa n) x.names) T.false_from r T.end) (ap (λ (z : Configuration). z.term) l) T.on_false);
          values = x.holds.values ++ (atm y ∷ []);
          typed = typed_with_a n y x.holds.typed;
          env = inv (ap (λ (z : Configuration). z.cr.con.env) l) ∙ env_with_a x.holds few n y T.new_atom_lem;
          B = B;
          sources = sources_as a B (x.holds.values ++ (atm y ∷ [])) i z;
        }

    -- on a pair
    abbrev parts : Exp → Exp → List Exp
    parts a b = (x.holds.values ++ (a ∷ [])) ++ (b ∷ [])

    landing_pair : (a b : Exp) (B : ℕ) (r : Tested) → looked.answer ≡ r → SourcesOf r B (parts a b) → (o : Bool) (u : Term) (τ : ValueEnv) → way_to (trace_pair m k n s v (K t σ).cr 1 (pair a b)) o ≡ some (K u τ) → Landing o u τ
    landing_pair a b B r i z false u τ q = let o : ◌≡◌ {A = ℕ} 0 1 = cc in absurd (omega arith)
    landing_pair a b B r i z true u τ q =
        let T = test_here in
        let l = some_same q in
        record {
          names = with_name (pe k) (with_name (pe m) x.names);
          past = T.false_from;
          term = rw T.opens (subst (λ (r : Term). TermLinked p bodies code (with_name (pe k) (with_name (pe m) x.names)) (T.names_from_lem + 4) r T.false_from) (ap (λ (z : Configuration). z.term) l) T.on_true);
          values = parts a b;
          typed = typed_with_e k b (typed_with_e m a x.holds.typed);
          env = inv (ap (λ (z : Configuration). z.cr.con.env) l) ∙ env_with_parts x.holds few m k a b T.new_head T.new_tail;
          B = B;
          sources = sources_as r B (parts a b) i z;
        }

    -- by what is tested
    landing_kind : (d : Exp) → apply ρ e ≡ d → (val : Value) → d ≡ embed val → Below c.used looked.heap h → Looked c.used looked.heap looked.answer d →
        (o : Bool) (u : Term) (τ : ValueEnv) → way_to (trace_pair m k n s v (K t σ).cr 1 d) o ≡ some (K u τ) → Landing o u τ
    landing_kind d is-d val e2 b (atom_at {y = y} from to now i there grown most fits) o u τ q =
        landing_atom y now (Atom from to now) i (atom_sources code empty x.holds few room looked.heap b test_here now grown fits from to y there) o u τ q
    landing_kind d is-d (atom z) e2 b (variable_at i) o u τ q = let o : ◌≡◌ {A = ℕ} 0 1 = cc in absurd (omega arith)
    landing_kind d is-d (cons a r) e2 b (variable_at i) o u τ q = let o : ◌≡◌ {A = ℕ} 0 1 = cc in absurd (omega arith)
    landing_kind d is-d val e2 b (pair_at {a = a} {b = r} from mid to now i head tail grown most fits) o u τ q =
        landing_pair a r now (Pair from mid to now) i (pair_sources code empty x.holds few room looked.heap b test_here now grown fits from mid to a r head tail) o u τ q
    landing_kind d is-d val e2 b (large_at {a = a} {b = r} i large) o u τ q =
        let w = cons_of (embed_env σ) e a r is-d (omega (arith, size p bodies code ok empty is x fits scoped room)) large in
        let l = subst (λ (z : Exp). ExpLinked code x.names (c.place + 4) z test_here.names_from_lem) w.2 test_here.tested in
        let kn = subst (λ (z : Exp). Known x.names z) w.2 known in
        let a2 : apply υ w.0 ≡ a = ap (λ (z : Substitution). apply z w.0) (inv subst_is) ∙ w.3 in
        let r2 : apply υ w.1 ≡ r = ap (λ (z : Substitution). apply z w.1) (inv subst_is) ∙ w.4 in
        landing_pair a r c.used Large i (subst (λ (z : Exp). SourcesOf Large c.used (parts z r)) a2 (subst (λ (z : Exp). SourcesOf Large c.used (parts (apply υ w.0) z)) r2
        (large_sources code empty x.holds few room looked.heap b test_here l kn))) o u τ q

    landing_test : (u : Term) (τ : ValueEnv) (w : OnWay u τ) → Landing w.by u τ
    landing_test u τ w =
        let l = stands_look x (none_held empty) (size p bodies code ok empty is x fits scoped room) room first_number (in_scope p bodies code ok empty is x fits scoped room) is-test in
        landing_kind (apply ρ e) refl (ground_exp (ground_of σ) e) (apply_embed σ e) l.same l.is w.by u τ (inv (ap (λ (z : Successors). way_to z w.by) test_successors) ∙ w.to)
      where
        first_number : 1 ≤ 16381
        first_number = omega arith

  by_term : (s : Term) → t ≡ s → (u : Term) (τ : ValueEnv) → step p s σ ≡ go u τ → (w : OnWay u τ) → Landing w.by u τ
  unfolding step
  by_term (result e) i u τ q w = let z : ◌≡◌ {A = ℕ} 0 1 = cc in absurd (omega arith)
  by_term (call g ds) i u τ q w = landing_call g ds i u τ w
  by_term (conditional (eqa a b) s v) i u τ q w = landing_same a b s v i u τ (same_env (eqb (ground_atomic (ground_of σ) (atom_of a)) (ground_atomic (ground_of σ) (atom_of b))) s v u σ τ q) w
  by_term (conditional (consp e m k n) s v) i u τ q w = landing_test e m k n s v i u τ w

  -- THE LAW of what comes next
  pub landing : (u : Term) (τ : ValueEnv) → step p t σ ≡ go u τ → (w : OnWay u τ) → Landing w.by u τ
  landing u τ q w = by_term t refl u τ q w
