-- Both branches of a `cons?`, taken by what it tests, lead to the two successors of semantics/specs/Trace.antt; and which of them there are.
use Prim.Native.Nat.{ℕ, ◌+◌, ◌≤◌, ◌<◌}
use mathlib.Core.Path.{◌≡◌, refl, ap, subst, ◌∙◌, sym as inv}
use mathlib.Core.Bool.{not}
use mathlib.Core.List.{List}
use mathlib.Core.Option.{Option}
use mathlib.Core.Logic.{◌⊎◌, inl, inr}
use native.Mathlib.Omega.{arith}
use lib.ListN.{length}
use Rattle.std.specs.Prelude.{Err}
use Rattle.restrictions.specs.declared.failure.Failure.TheVariants.{Over}
use Rattle.expressions.specs.Expression.{AtomicExp, Exp, atm, evar, pair}
use Rattle.expressions.specs.Substitution.{apply}
use Rattle.expressions.specs.Contraction.{CRPair}
use Rattle.language.specs.Program.{consp, Term, conditional, Param, Prog}
use Rattle.semantics.specs.Environment.{Env}
use Rattle.semantics.specs.Configuration.{subst_of_env, state, nodes_state, Configuration}
use Rattle.semantics.specs.Trace.{Successors, branches, trace_pair, successors_of}
use Rattle.semantics.proofs.Scopes.{Covers, WellScoped, scoped_consp}
use Rattle.heap.specs.Twins.Moving.{Left}
use Rattle.heap.specs.declared.configuration.Configuration.{Configuration as InCells}
use Rattle.runs.proofs.RunLaws.{Below}
use Rattle.linking.specs.Twins.Linked.{TermLinked}
use Rattle.constants.proofs.ConstantLaws.{Constants}
use Rattle.values.proofs.ValueLaws.{Known}
use Rattle.values.proofs.StateLaws.{is_none, HoldsPair, known_in_scope, Stands, Arrives, Leads, none_leads}
use Rattle.values.proofs.ContractionLaws.{few_entries}
use Rattle.looking.specs.Twins.Looking.{LookLeft, look_at}
use Rattle.pairs.specs.Twins.Branching.{branches_of, true_taken, false_taken}
use Rattle.looking.specs.declared.look.Tested.{Tested}
use Rattle.pairs.proofs.NameLaws.{both_have}
use Rattle.pairs.proofs.LookLaws.{TestAt, test_at_lem, Looked, atom_at, variable_at, pair_at, large_at, Looks, look_means}
use Rattle.pairs.proofs.TakeLaws.{with_neqs, later_holds, over_leads, pair_leads, atom_leads}
use Rattle.pairs.proofs.SplitLaws.{split_pair_leads, split_atom_leads}

-- The two branches by what is tested: v is left by the true one, w by the false one.
pub record BothLead (p : Prog) (bodies : ℕ → ℕ) (code h : List ℕ) (used : ℕ) (S : Successors) (t : Tested) (v w : Left) : Type 0 where
  pub yes_to : Option Configuration
  pub no_to : Option Configuration
  pub successors : S ≡ branches yes_to no_to
  pub on_true : Leads p bodies code h used yes_to v
  pub on_false : Leads p bodies code h used no_to w
  pub yes_is : (branches_of t).yes ≡ not (is_none yes_to)
  pub no_is : (branches_of t).no ≡ not (is_none no_to)

-- from a heap that is the same below what is used
leads_from : {p : Prog} {bodies : ℕ → ℕ} {code g h : List ℕ} {used : ℕ} {o : Option Configuration} {w : Left} → Leads p bodies code g used o w → Below used g h → Leads p bodies code h used o w
leads_from {p} {bodies} {code} {g} {h} {used} {o} {w} x b = record { to = λ K e. go K (x.to K e) }
  where
    arrives : (K : Configuration) → Arrives p bodies code g used K w → Arrives p bodies code h used K w
    arrives K a = record { at = a.at; moved = a.moved; stands = a.stands; same = record { same = λ j l. a.same.same j l ∙ b.same j l }; grown = a.grown; most = a.most }

    go : (K : Configuration) → ((w.answer ≡ Err Over) × (4097 < nodes_state K.cr)) ⊎ Arrives p bodies code g used K w → ((w.answer ≡ Err Over) × (4097 < nodes_state K.cr)) ⊎ Arrives p bodies code h used K w
    go K (inl o) = inl o
    go K (inr a) = inr (arrives K a)

module _ {p : Prog} {bodies : ℕ → ℕ} {code h f q : List ℕ} {names : List Param} {P : CRPair state} {e : Exp} {m k n : ℕ} {s u : Term} (c : InCells) (T : TestAt p bodies code names c.place e m k n s u)
    (x : HoldsPair h f q c names P) (few : c.entries ≤ 4097) (room : c.used + 8192 ≤ 65535) (next : ℕ) (counts : c.counter ≡ next) (coded : next ≤ 16381) where
  abbrev Both : Exp → LookLeft → Type 0
  Both d w =
      BothLead p bodies code h c.used (trace_pair m k n s u P next d) w.answer (with_neqs q (true_taken code c w.answer w.heap f)) (with_neqs q (false_taken code c w.answer w.heap f))

  by_kind : (d : Exp) (t : Tested) (g : List ℕ) → Below c.used g h → length g ≡ 65535 → Looked c.used g t d → Both d (record { answer = t; heap = g })
  unfolding true_taken false_taken
  by_kind (atm y) t g b z (atom_at from to now i at grown most fits) =
      rw i (record {
        yes_to = _;
        no_to = _;
        successors = refl;
        on_true = none_leads p bodies code _;
        on_false = atom_leads c T now (later_holds x g now b grown fits z) few b grown next counts from to y at most;
        yes_is = refl;
        no_is = refl;
      })
  by_kind (evar v) t g b z (variable_at i) =
      let y = later_holds x g c.used b (omega arith) (omega arith) z in
      rw i (record {
        yes_to = _;
        no_to = _;
        successors = refl;
        on_true = leads_from (split_pair_leads c T y few room next counts coded v) b;
        on_false = leads_from (split_atom_leads c T y few room next counts coded v) b;
        yes_is = refl;
        no_is = refl;
      })
  by_kind (pair a d) t g b z (pair_at from mid to now i head tail grown most fits) =
      rw i (record {
        yes_to = _;
        no_to = _;
        successors = refl;
        on_true = pair_leads c T now (later_holds x g now b grown fits z) few b grown next counts from mid to a d head tail most;
        on_false = none_leads p bodies code _;
        yes_is = refl;
        no_is = refl;
      })
  by_kind (pair a d) t g b z (large_at i l) =
      rw i (record {
        yes_to = _;
        no_to = _;
        successors = refl;
        on_true = over_leads p bodies code _ _ refl (omega (arith, both_have x (omega arith) m k a d T.new_head T.new_tail));
        on_false = none_leads p bodies code _;
        yes_is = refl;
        no_is = refl;
      })

  -- THE LAW of both branches, by where the parts of the `cons?` stand
  pub test_leads : Constants code h c.used → Known names e → Both (apply (subst_of_env P.con.env) e) (look_at code c h f)
  test_leads constants kn =
      let w = look_means x (omega arith) T constants kn room in
      by_kind (apply (subst_of_env P.con.env) e) (look_at code c h f).answer (look_at code c h f).heap w.same w.size w.is

module _ {p : Prog} {bodies : ℕ → ℕ} {code h f q : List ℕ} {c : InCells} {K : Configuration} (x : Stands p bodies code h f q c K) (constants : Constants code h c.used) (fits : nodes_state K.cr ≤ 4097) (room : c.used + 8192 ≤ 65535)
    (coded : K.fresh ≤ 16381) (scoped : WellScoped p K.term K.cr.con.env) {e : Exp} {m k n : ℕ} {s u : Term} (is : K.term ≡ conditional (consp e m k n) s u) where
  abbrev looked : LookLeft
  looked = look_at code c h f

  -- what the branches leave
  abbrev pub yes_left : Left
  yes_left = with_neqs q (true_taken code c looked.answer looked.heap f)

  abbrev pub no_left : Left
  no_left = with_neqs q (false_taken code c looked.answer looked.heap f)

  tested_at : TestAt p bodies code x.names c.place e m k n s u
  tested_at = test_at_lem (subst (λ (t : Term). TermLinked p bodies code x.names c.place t x.past) is x.term)

  scoped_here : WellScoped p (conditional (consp e m k n) s u) K.cr.con.env
  scoped_here = subst (λ (t : Term). WellScoped p t K.cr.con.env) is scoped

  known : Known x.names e
  known =
      let w = scoped_here in
      known_in_scope x.holds.typed w.scope (subst (λ (σ : Env Exp AtomicExp). Covers w.scope σ) x.holds.env w.covers) e (scoped_consp w)

  -- what is tested
  pub stands_look : Looks h c.used (apply (subst_of_env K.cr.con.env) e) looked
  stands_look = look_means x.holds (omega (arith, few_entries x.holds fits)) tested_at constants known room

  -- THE LAW of both branches
  pub consp_lead : BothLead p bodies code h c.used (successors_of p K.cr K.term K.fresh) looked.answer yes_left no_left
  unfolding successors_of
  consp_lead = rw is (test_leads c tested_at x.holds (few_entries x.holds fits) room K.fresh x.fresh coded constants known)

  module _ {a b : Option Configuration} (two : successors_of p K.cr K.term K.fresh ≡ branches a b) where
    same_to : (w : BothLead p bodies code h c.used (successors_of p K.cr K.term K.fresh) looked.answer yes_left no_left) → (w.yes_to ≡ a) × (w.no_to ≡ b)
    same_to w = let z : branches w.yes_to w.no_to ≡ branches a b = inv w.successors ∙ two in (cc, cc)

    pub true_leads : Leads p bodies code h c.used a yes_left
    true_leads = subst (λ (o : Option Configuration). Leads p bodies code h c.used o yes_left) (same_to consp_lead).0 consp_lead.on_true

    pub false_leads : Leads p bodies code h c.used b no_left
    false_leads = subst (λ (o : Option Configuration). Leads p bodies code h c.used o no_left) (same_to consp_lead).1 consp_lead.on_false

    pub yes_branch : (branches_of looked.answer).yes ≡ not (is_none a)
    yes_branch = consp_lead.yes_is ∙ ap (λ (o : Option Configuration). not (is_none o)) (same_to consp_lead).0

    pub no_branch : (branches_of looked.answer).no ≡ not (is_none b)
    no_branch = consp_lead.no_is ∙ ap (λ (o : Option Configuration). not (is_none o)) (same_to consp_lead).1
