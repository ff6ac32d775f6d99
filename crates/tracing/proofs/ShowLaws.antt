-- What a configuration that the storages hold shows: what its term asks, which branches there are and where each transition leads are its successors.
use Prim.Native.Nat.{ℕ, ◌+◌, ◌≤◌, ◌<◌}
use mathlib.Core.Path.{◌≡◌, refl, ap, subst, ◌∙◌, sym as inv}
use mathlib.Core.Bool.{Bool, true, false, not}
use mathlib.Core.List.{List}
use mathlib.Core.Option.{Option, none, some}
use native.Mathlib.Omega.{arith}
use native.Mathlib.Decide.{dec_le}
use lib.Dec.{eqb}
use lib.ListN.{length}
use borrow.Author.Tests.{le-ltb, ne_eqb}
use Rattle.expressions.specs.Expression.{Exp}
use Rattle.expressions.specs.Substitution.{apply, apply_atomic}
use Rattle.expressions.specs.Restriction.{simplify}
use Rattle.expressions.specs.Contraction.{CRPair, contract}
use Rattle.expressions.specs.Split.{split_atomic}
use Rattle.language.specs.Program.{eqa, consp, Term, call, conditional, result, Param, Prog, find}
use Rattle.language.specs.WellFormed.{admitted}
use Rattle.semantics.specs.Environment.{bind_params}
use Rattle.semantics.specs.Configuration.{subst_of_env, state, with_env, nodes_state, Configuration}
use Rattle.semantics.specs.Trace.{Successors, terminal, called, branches, configuration, successors_of, successors}
use Rattle.semantics.proofs.Scopes.{WellScoped, scoped_call}
use Rattle.sets.specs.Cells.{atomic_code}
use Rattle.heap.specs.Twins.Moving.{Left, left}
use Rattle.heap.specs.declared.configuration.Configuration.{Configuration as InCells}
use Rattle.runs.proofs.RunLaws.{Below, below_self}
use Rattle.linking.specs.Twins.Code.{link, link_at}
use Rattle.linking.specs.Twins.Linked.{sym_linked, e_linked, a_linked, cons_linked, TermLinked, call_linked, same_linked, test_linked, result_linked, ProgramLinked}
use Rattle.constants.proofs.ConstantLaws.{Constants}
use Rattle.values.specs.Twins.Names.{names_from}
use Rattle.calls.specs.Twins.Calls.{called_to}
use Rattle.values.proofs.StateLaws.{is_none, Stands, Leads}
use Rattle.values.proofs.PairLaws.{base_is, entries_few, entries_are}
use Rattle.calls.proofs.CallLeads.{call_leads}
use Rattle.atoms.specs.Twins.Atoms.{sides_at}
use Rattle.atoms.proofs.AtomLaws.{side_of, sides_mean}
use Rattle.atoms.proofs.BranchLaws.{branches_mean}
use Rattle.atoms.proofs.TakeLaws.{equal_leads, unequal_leads, same_successors}
use Rattle.looking.specs.Twins.Looking.{look_at}
use Rattle.pairs.proofs.BranchLaws.{stands_look, consp_lead}
use Rattle.tracing.specs.Twins.Asking.{AskLeft, asked_at, is_end, is_call, branches_asked, taken_as}
use Rattle.tracing.specs.declared.ask.Asked.{Asked}
use Rattle.tracing.specs.declared.ask.Asked.TheVariants.{End, Call, Same, Test}

-- a program that is linked and well formed: "64 definitions of at most 16 parameters"
pub record Accepted (p : Prog) (bodies : ℕ → ℕ) (code : List ℕ) : Type 0 where
  pub linked : ProgramLinked p bodies code
  pub formed : admitted p ≡ true
  pub few : (f : ℕ) → f < length p → length (find p f).params ≤ 16

none_past : (code : List ℕ) (i : ℕ) → 4097 ≤ i → (link_at code i).past ≡ 0
unfolding link_at
none_past code i l = rw (le-ltb i 4097 l)

-- a token with something behind it stands in the code
pub in_code : (code : List ℕ) (i : ℕ) → 0 < (link_at code i).past → i < 4097
in_code code i l = go (dec_le 4097 i)
  where
    go : Dec (4097 ≤ i) → i < 4097
    go (yes m) = absurd (omega (arith, none_past code i m))
    go (no m) = omega arith

-- the link of a term, by its form
pub record At (code : List ℕ) (i m : ℕ) : Type 0 where
  pub mark : (link_at code i).mark ≡ m
  pub past : 0 < (link_at code i).past

at_link : {code : List ℕ} {i m a b k : ℕ} → link_at code i ≡ link m a b k → 0 < k → At code i m
at_link e l = record { mark = rw e; past = rw e l }

-- what a term's form says of its successors
pub end_successors : (p : Prog) (K : Configuration) (e : Exp) → K.term ≡ result e → successors p K ≡ terminal (apply (subst_of_env K.cr.con.env) e)
unfolding successors_of
end_successors p K e is = ap (λ (t : Term). successors_of p K.cr t K.fresh) is

call_successors : (p : Prog) (K : Configuration) (g : ℕ) (ds : List Exp) → K.term ≡ call g ds → successors p K ≡
    called (record { cr = with_env (bind_params (apply (subst_of_env K.cr.con.env)) (apply_atomic (subst_of_env K.cr.con.env)) (find p g).params ds) K.cr; term = (find p g).body; fresh = K.fresh })
unfolding successors_of
call_successors p K g ds is = ap (λ (t : Term). successors_of p K.cr t K.fresh) is

module _ {p : Prog} {bodies : ℕ → ℕ} {code : List ℕ} {sc : List Param} where
  pub end_at : {i k : ℕ} {e : Exp} → TermLinked p bodies code sc i (result e) k → (m : ℕ) × At code i m × (m < 3)
  end_at (result_linked (sym_linked l)) = (1, at_link l (omega arith), omega arith)
  end_at (result_linked (e_linked l)) = (2, at_link l (omega arith), omega arith)
  end_at (result_linked (a_linked l)) = (2, at_link l (omega arith), omega arith)
  end_at (result_linked (cons_linked o w u v z)) = (0, at_link o (omega arith), omega arith)

  pub call_at_lem : {i g k : ℕ} {ds : List Exp} → TermLinked p bodies code sc i (call g ds) k → g < length p → At code i 3
  call_at_lem (call_linked l ds) d = at_link (l d) (omega arith)

  pub same_at : {i k : ℕ} {a b : Exp} {s t : Term} → TermLinked p bodies code sc i (conditional (eqa a b) s t) k → At code i 4
  same_at (same_linked l c d s t) = at_link l (omega arith)

  pub test_at_lem : {i k h t y : ℕ} {e : Exp} {s u : Term} → TermLinked p bodies code sc i (conditional (consp e h t y) s u) k → At code i 5
  test_at_lem (test_linked l c d e g s u) = at_link l (omega arith)

module _ (p : Prog) (bodies : ℕ → ℕ) (code : List ℕ) (ok : Accepted p bodies code) {h f q : List ℕ} {c : InCells} {K : Configuration} (x : Stands p bodies code h f q c K) (constants : Constants code h c.used) (size : nodes_state K.cr ≤ 4097) (less : length K.cr.neqs ≤ 2047)
    (simple : simplify K.cr.neqs ≡ some K.cr.neqs) (coded : K.fresh ≤ 16381) (scoped : WellScoped p K.term K.cr.con.env) (room : c.used + 8192 ≤ 65535) where
  abbrev pub asked : AskLeft
  asked = asked_at code c h f

  abbrev pub taking : Bool → Left
  taking b = taken_as code c asked.asked b asked.heap f q

  -- the heap is the same below what is used, and the term's place is one of the code
  pub record Looked : Type 0 where
    pub same : Below c.used asked.heap h
    pub whole : length asked.heap ≡ 65535
    pub place : c.place < 4097
    pub calls : eqb (link_at code c.place).mark 3 ≡ is_call asked.asked

  -- what a configuration with these successors shows
  abbrev pub Shows : Successors → Type 0
  Shows (terminal u) = (asked.asked ≡ End) × (asked.heap ≡ h) × ((e : Exp) × (K.term ≡ result e)) × Looked
  Shows (called L) = (is_end asked.asked ≡ false) × (is_call asked.asked ≡ true) × ((b : Bool) → Leads p bodies code h c.used (some L) (taking b)) × Looked
  Shows (branches a b) =
      let t = branches_asked c.neqs asked.asked q in
      (is_end asked.asked ≡ false) × (is_call asked.asked ≡ false) × (t.yes ≡ not (is_none a)) × (t.no ≡ not (is_none b)) × Leads p bodies code h c.used a (taking true) × Leads p bodies code h c.used b (taking false) × Looked

  names_are : names_from c ≡ c.inputs + c.outputs
  names_are = omega (arith, base_is x.holds, entries_few x.holds size, entries_are x.holds)

  -- what is asked, by the mark at the place
  asked_call : (link_at code c.place).mark ≡ 3 → asked_at code c h f ≡ record { asked = Call; heap = h }
  unfolding asked_at
  asked_call e = rw e

  asked_same : (link_at code c.place).mark ≡ 4 → (l r : ℕ) → sides_at code h f c ≡ record { left = l; right = r } → asked_at code c h f ≡ record { asked = Same l r; heap = h }
  unfolding asked_at
  asked_same e l r s = rw (e, s)

  asked_test : (link_at code c.place).mark ≡ 5 → asked_at code c h f ≡ record { asked = Test (look_at code c h f).answer; heap = (look_at code c h f).heap }
  unfolding asked_at
  asked_test e = rw e

  asked_end : (m : ℕ) → (link_at code c.place).mark ≡ m → m < 3 → asked_at code c h f ≡ record { asked = End; heap = h }
  unfolding asked_at
  asked_end m e l = rw (e, ne_eqb m 3 (λ z. omega arith), ne_eqb m 4 (λ z. omega arith), ne_eqb m 5 (λ z. omega arith))

  looked : (m : ℕ) (t : Asked) (g : List ℕ) → At code c.place m → asked_at code c h f ≡ record { asked = t; heap = g } → Below c.used g h → length g ≡ 65535 → eqb m 3 ≡ is_call t → Looked
  looked m t g a e b l z = record {
    same = rw e b;
    whole = rw e l;
    place = in_code code c.place a.past;
    calls = ap (λ (k : ℕ). eqb k 3) a.mark ∙ z ∙ inv (ap (λ (w : AskLeft). is_call w.asked) e);
  }

  abbrev Here : Term → Type 0
  Here t = TermLinked p bodies code x.names c.place t x.past

  here : (t : Term) → K.term ≡ t → Here t
  here t e = subst (λ (u : Term). Here u) e x.term

  -- an end
  shows_end : (e : Exp) → K.term ≡ result e → Shows (successors p K)
  shows_end e is =
      let a = end_at (here (result e) is) in
      let k = asked_end a.0 a.1.mark a.2 in
      subst Shows (inv (end_successors p K e is)) (ap (λ (w : AskLeft). w.asked) k, ap (λ (w : AskLeft). w.heap) k, (e, is), looked a.0 End h a.1 k below_self x.holds.heap_size (ne_eqb a.0 3 (λ z. omega (arith, a.2))))

  configured_none : (t : Term) (k : ℕ) (o : Option (CRPair state)) → is_none (configuration t k o) ≡ is_none o
  configured_none t k none = refl
  configured_none t k (some P) = refl

  abbrev behind : ℕ → List Exp → Configuration
  behind g ds = record { cr = with_env (bind_params (apply (subst_of_env K.cr.con.env)) (apply_atomic (subst_of_env K.cr.con.env)) (find p g).params ds) K.cr; term = (find p g).body; fresh = K.fresh }

  -- a call
  shows_call : (g : ℕ) (ds : List Exp) → K.term ≡ call g ds → Shows (successors p K)
  shows_call g ds is =
      let d : g < length p = (scoped_call (subst (λ (t : Term). WellScoped p t K.cr.con.env) is scoped)).0 in
      let a = call_at_lem (here (call g ds) is) d in
      let k = asked_call a.mark in
      let l = call_leads p bodies code ok.linked ok.few h f q c K x constants size room g ds is scoped in
      let w : (b : Bool) → Leads p bodies code h c.used (some (behind g ds)) (taken_as code c Call b h f q) = λ b. either b l in
      subst Shows (inv (call_successors p K g ds is)) (rw k (refl, refl, w, looked 3 Call h a k below_self x.holds.heap_size refl))
    where
      either : (b : Bool) → Leads p bodies code h c.used (some (behind g ds)) (let w = called_to code (c.inputs + c.outputs) c h f in left w.answer w.heap w.frame q) →
          Leads p bodies code h c.used (some (behind g ds)) (taken_as code c Call b h f q)
      either true l = rw names_are l
      either false l = rw names_are l

  -- an `eqa?`
  shows_same : (a b : Exp) (t u : Term) → K.term ≡ conditional (eqa a b) t u → Shows (successors p K)
  shows_same a b t u is =
      let m = same_at (here (conditional (eqa a b) t u) is) in
      let y = side_of K a in
      let z = side_of K b in
      let k = asked_same m.mark (atomic_code y) (atomic_code z) (sides_mean p bodies code x is size scoped) in
      let w = branches_mean x.holds simple y z in
      subst Shows (inv (same_successors p K is)) (rw k (
        refl,
        refl,
        w.0 ∙ ap not (inv (configured_none t K.fresh (contract (split_atomic y z).yes K.cr))),
        w.1 ∙ ap not (inv (configured_none u K.fresh (contract (split_atomic y z).no K.cr))),
        equal_leads p bodies code x is size room y z simple,
        unequal_leads p bodies code x is size room y z less simple,
        looked 4 (Same (atomic_code y) (atomic_code z)) h m k below_self x.holds.heap_size refl,
      ))

  -- a `cons?`
  shows_test : (e : Exp) (g k y : ℕ) (t u : Term) → K.term ≡ conditional (consp e g k y) t u → Shows (successors p K)
  shows_test e g k y t u is =
      let m = test_at_lem (here (conditional (consp e g k y) t u) is) in
      let w = asked_test m.mark in
      let b = consp_lead x constants size room coded scoped is in
      let l = stands_look x constants size room coded scoped is in
      subst Shows (inv b.successors) (rw w (
        refl,
        refl,
        b.yes_is,
        b.no_is,
        b.on_true,
        b.on_false,
        looked 5 (Test (look_at code c h f).answer) (look_at code c h f).heap m w l.same l.size refl,
      ))

  -- THE LAW of a transition
  pub shows : Shows (successors p K)
  shows = go K.term refl
    where
      go : (t : Term) → K.term ≡ t → Shows (successors p K)
      go (result e) is = shows_end e is
      go (call g ds) is = shows_call g ds is
      go (conditional (eqa a b) t u) is = shows_same a b t u is
      go (conditional (consp e g k y) t u) is = shows_test e g k y t u is
