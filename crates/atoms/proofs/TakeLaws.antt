-- What the transitions to the two branches of an `eqa?` leave: storages that hold the contracted configuration at the branch's term, or 21.
use Prim.Native.Nat.{ℕ, ◌+◌, ◌%◌, ◌≤◌, ◌<◌}
use mathlib.Core.Path.{◌≡◌, refl, ap, ap₂, subst, ◌∙◌, sym as inv}
use mathlib.Core.Bool.{Bool, true, false, cond}
use mathlib.Core.List.{List, [], ◌∷◌}
use mathlib.Core.Option.{Option, none, some}
use mathlib.Core.Logic.{inl, inr}
use native.Mathlib.Omega.{arith}
use lib.Dec.{eqb}
use lib.ListN.{length}
use Rattle.std.specs.Prelude.{Ok, Err}
use Rattle.restrictions.specs.declared.failure.Failure.TheVariants.{Over}
use Rattle.expressions.specs.Expression.{AtomicExp, sym, avar, Exp}
use Rattle.expressions.specs.Substitution.{apply, apply_atomic, id_subst, subst_a}
use Rattle.expressions.specs.Restriction.{Restriction, same_atomic, simplify, add, subst_restriction}
use Rattle.expressions.specs.Contraction.{CRPair, identity, bind_a, apply_pair, contract, mk_bind}
use Rattle.expressions.specs.Split.{split_atomic}
use Rattle.expressions.proofs.Filling.{apply_id, apply_atomic_id, apply_io_id}
use Rattle.language.specs.Program.{Term, conditional, eqa, Param, Prog}
use Rattle.semantics.specs.Environment.{map_values}
use Rattle.semantics.specs.Configuration.{State, state, Configuration, nodes_state}
use Rattle.semantics.specs.Trace.{configuration, branches, successors_of, successors}
use Rattle.sets.specs.Cells.{avar_code, atomic_code}
use Rattle.restrictions.specs.Twins.Restricting.{RestrictAnswer, bind_cells, add_cells}
use Rattle.sets.specs.Twins.Contracting.{equality}
use Rattle.sets.specs.declared.contraction.Contraction.TheVariants.{Identity, Contradiction as Contradictory, Bind, NonEqual}
use Rattle.sets.proofs.ContractionLaws.{code_tag, atomic_code_same}
use Rattle.restrictions.proofs.RestrictionLaws.{Answers, bind_cells_means, add_cells_means}
use Rattle.heap.specs.Twins.Contracted.{Stores}
use Rattle.heap.specs.Twins.Moving.{Left, left, grown_stores, bound_cell, bound_restriction, leaf_from, leaf_bound, restricted_left, contracted}
use Rattle.heap.specs.declared.configuration.Configuration.{Configuration as InCells}
use Rattle.runs.proofs.RunLaws.{Below, below_self}
use Rattle.heap.proofs.HeapLaws.{filling_a}
use Rattle.linking.specs.Twins.Linked.{TermLinked}
use Rattle.values.proofs.StateLaws.{HoldsPair, Stands, Leads, none_leads, leads_to}
use Rattle.values.proofs.ContractionLaws.{applied_pair, restricted_pair, used_to, pair_same, pair_restricted, few_entries, AppliedOutcome, bound_cell_lem}
use Rattle.atoms.specs.Twins.Taking.{placed_at, taken_by, equal_taken, unequal_taken}
use Rattle.atoms.proofs.BindingLaws.{against}
use Rattle.atoms.proofs.AtomLaws.{side_of, parts}

-- the identity substitution
map_id : {A : Type 0} (f : A → A) → ((x : A) → f x ≡ x) → (bs : List (ℕ × A)) → map_values f bs ≡ bs
map_id f h [] = refl
map_id {A} f h (b ∷ bs) = ap₂ {C = List (ℕ × A)} (λ x l. (b.0, x) ∷ l) (h b.1) (map_id f h bs)

state_id : (c : State) → state.apply id_subst c ≡ c
state_id c = λ i. record {
  io = apply_io_id c.io i;
  env = record { evars = map_id (apply id_subst) apply_id c.env.evars i; avars = map_id (apply_atomic id_subst) apply_atomic_id c.env.avars i };
}

pair_id : (P : CRPair state) → P ≡ applied_pair id_subst P
pair_id P = ap (λ (c : State). record { con = c; neqs = P.neqs }) (inv (state_id P.con))

module _ (p : Prog) (bodies : ℕ → ℕ) (code : List ℕ) (h : List ℕ) (used : ℕ) where
  -- the storages hold P at the term t
  module _ {names : List Param} {t : Term} {past k : ℕ} {P : CRPair state} (w : Left) (d : InCells) (on : w.answer ≡ Ok d) (x : HoldsPair w.heap w.frame w.q d names P)
      (same : Below used w.heap h) (grown : used ≤ d.used) (most : d.used ≤ used + 4 + nodes_state P) (linked : TermLinked p bodies code names d.place t past) (fresh : d.counter ≡ k) where
    on_leads : Leads p bodies code h used (some (record { cr = P; term = t; fresh = k })) w
    on_leads = leads_to p bodies code (record { cr = P; term = t; fresh = k }) w (inr (record {
      at = d;
      moved = on;
      stands = record { names = names; holds = x; past = past; term = linked; fresh = fresh };
      same = same;
      grown = grown;
      most = omega arith;
    }))

  -- there is no room for what has more than 4,097 nodes
  over_leads : (K : Configuration) (w : Left) → w.answer ≡ Err Over → 4097 < nodes_state K.cr → Leads p bodies code h used (some K) w
  over_leads K w e l = leads_to p bodies code K w (inl (e, l))

module _ (p : Prog) (bodies : ℕ → ℕ) (code : List ℕ) {h f q : List ℕ} {c : InCells} {names : List Param} {P : CRPair state} (x : HoldsPair h f q c names P) (small : nodes_state P ≤ 4097)
    (room : c.used + 8192 ≤ 65535) {t : Term} {past k : ℕ} (linked : TermLinked p bodies code names c.place t past) (fresh : c.counter ≡ k) where
  few : c.entries ≤ 4120
  few = omega (arith, few_entries x small)

  -- the configuration with other non-equalities
  abbrev counted_as : ℕ → InCells
  counted_as n = record { inputs = c.inputs; outputs = c.outputs; entries = c.entries; used = c.used; neqs = n; place = c.place; counter = c.counter }

  abbrev reached : CRPair state → Configuration
  reached Q = record { cr = Q; term = t; fresh = k }

  -- sides that are the same
  same_leads : Leads p bodies code h c.used (some (reached (applied_pair id_subst P))) ((left (Ok c) h f q))
  same_leads = on_leads p bodies code h c.used (left (Ok c) h f q) c refl (subst (λ (Q : CRPair state). HoldsPair h f q c names Q) (pair_id P) x) below_self (omega arith) (omega arith) linked fresh

  module _ (m : ℕ) (z : AtomicExp) where
    -- the entries bound, behind non-equalities that are
    entries_lead : (out : Restriction) (r : List ℕ) (w : Stores) → AppliedOutcome h r (counted_as (length out)) names (applied_pair (subst_a m z) (restricted_pair out P)) (c.used + 1) w →
        Leads p bodies code h c.used (some (reached (applied_pair (subst_a m z) (restricted_pair out P)))) ((grown_stores c (length out) r w))
    entries_lead out r w (inl o) = over_leads p bodies code h c.used (reached (applied_pair (subst_a m z) (restricted_pair out P))) (grown_stores c (length out) r w) (rw o.0) (omega (arith, o.1))
    entries_lead out r w (inr a) =
        on_leads p bodies code h c.used (grown_stores c (length out) r w) (used_to a.now (counted_as (length out))) (rw a.done) a.holds a.same a.grown (omega (arith, a.most)) linked fresh

    bound_leads : simplify P.neqs ≡ some P.neqs → Leads p bodies code h c.used (configuration t k (contract (bind_a m z) P)) ((leaf_bound c (avar_code m) (atomic_code z) h f q))
    unfolding leaf_bound bound_restriction
    bound_leads simple = rw (code_tag m 3 (omega arith)) (go (subst_restriction (subst_a m z) P.neqs) (bind_cells c.neqs (avar_code m) (atomic_code z) q) (rw x.count (bind_cells_means m z P.neqs q x.neqs simple)))
      where
        go : (o : Option Restriction) (w : RestrictAnswer) → Answers (length P.neqs) q o w →
            Leads p bodies code h c.used (configuration t k (apply_pair (subst_a m z) P o)) ((leaf_from c (avar_code m) (atomic_code z) h f w))
        go none w a = none_leads p bodies code _
        go (some out) w a =
            rw a.0 (entries_lead out w.cells (bound_cell c.entries (avar_code m) (atomic_code z) c.used h f)
            (bound_cell_lem (pair_restricted x (counted_as (length out)) out w.cells refl refl refl refl refl a.1 (a.4 ∙ x.q_size)) few (filling_a m z)))

  -- the true branch
  equal_taken_lem : simplify P.neqs ≡ some P.neqs → (y z : AtomicExp) → Leads p bodies code h c.used (configuration t k (contract (split_atomic y z).yes P)) ((contracted (equality (atomic_code y) (atomic_code z)) c h f q))
  equal_taken_lem simple y z = rw (atomic_code_same y z) (pick (same_atomic y z))
    where
      unequal : (u v : AtomicExp) → Leads p bodies code h c.used (configuration t k (contract (mk_bind u v) P))
          ((contracted (cond (eqb (atomic_code u % 4) 3) (Bind (atomic_code u) (atomic_code v)) (cond (eqb (atomic_code v % 4) 3) (Bind (atomic_code v) (atomic_code u)) Contradictory)) c h f q))
      unequal (sym a) (sym b) = rw (code_tag a 1 (omega arith), code_tag b 1 (omega arith)) (none_leads p bodies code _)
      unequal (sym a) (avar m) = rw (code_tag a 1 (omega arith), code_tag m 3 (omega arith)) (bound_leads m (sym a) simple)
      unequal (avar m) v = rw (code_tag m 3 (omega arith)) (bound_leads m v simple)

      pick : (b : Bool) → Leads p bodies code h c.used (configuration t k (contract (cond b identity (mk_bind y z)) P))
          ((contracted (cond b Identity (cond (eqb (atomic_code y % 4) 3) (Bind (atomic_code y) (atomic_code z)) (cond (eqb (atomic_code z % 4) 3) (Bind (atomic_code z) (atomic_code y)) Contradictory))) c h f q))
      pick true = same_leads
      pick false = unequal y z

  -- the false branch
  unequal_taken_lem : length P.neqs ≤ 2047 → simplify P.neqs ≡ some P.neqs → (y z : AtomicExp) →
      Leads p bodies code h c.used (configuration t k (contract (split_atomic y z).no P)) ((contracted (NonEqual (atomic_code y) (atomic_code z)) c h f q))
  unequal_taken_lem less simple y z =
      go (add P.neqs (against y z ∷ [])) (add_cells c.neqs (atomic_code y) (atomic_code z) q) (rw x.count (add_cells_means P.neqs (against y z) q simple x.neqs (omega (arith, x.q_size))))
    where
      go : (o : Option Restriction) (w : RestrictAnswer) → Answers (length P.neqs + 1) q o w →
          Leads p bodies code h c.used (configuration t k (apply_pair id_subst P o)) ((restricted_left c h f w))
      go none w a = none_leads p bodies code _
      go (some out) w a =
          rw a.0 (on_leads p bodies code h c.used (left (Ok (counted_as (length out))) h f w.cells) (counted_as (length out)) refl
          (subst (λ (Q : CRPair state). HoldsPair h f w.cells (counted_as (length out)) names Q) (pair_id (restricted_pair out P)) (pair_restricted x (counted_as (length out)) out w.cells refl refl refl refl refl a.1 (a.4 ∙ x.q_size))) below_self (omega arith) (omega arith) linked fresh)

-- THE LAWS of the two branches
module _ (p : Prog) (bodies : ℕ → ℕ) (code : List ℕ) {h f q : List ℕ} {c : InCells} {K : Configuration} (S : Stands p bodies code h f q c K) {a b : Exp} {t u : Term} (is : K.term ≡ conditional (eqa a b) t u)
    (small : nodes_state K.cr ≤ 4097) (room : c.used + 8192 ≤ 65535) (x y : AtomicExp) where
  at_place : (i : ℕ) → HoldsPair h f q (placed_at i c) S.names K.cr
  at_place i = pair_same S.holds (placed_at i c) refl refl refl refl refl

  pub equal_leads : simplify K.cr.neqs ≡ some K.cr.neqs → Leads p bodies code h c.used (configuration t K.fresh (contract (split_atomic x y).yes K.cr)) (equal_taken code c (atomic_code x) (atomic_code y) h f q)
  unfolding equal_taken taken_by
  equal_leads simple =
      let s = parts p bodies code S is in
      rw s.linked (equal_taken_lem p bodies code (at_place (s.end + 1)) small room s.true_branch S.fresh simple x y)

  pub unequal_leads : length K.cr.neqs ≤ 2047 → simplify K.cr.neqs ≡ some K.cr.neqs → Leads p bodies code h c.used (configuration u K.fresh (contract (split_atomic x y).no K.cr)) (unequal_taken code c (atomic_code x) (atomic_code y) h f q)
  unfolding unequal_taken taken_by
  unequal_leads less simple =
      let s = parts p bodies code S is in
      rw s.linked (unequal_taken_lem p bodies code (at_place s.other) small room s.false_branch_lem S.fresh less simple x y)

-- They are the transitions that there are.
pub same_successors : (p : Prog) (K : Configuration) {a b : Exp} {t u : Term} → K.term ≡ conditional (eqa a b) t u →
    successors p K ≡ branches (configuration t K.fresh (contract (split_atomic (side_of K a) (side_of K b)).yes K.cr)) (configuration u K.fresh (contract (split_atomic (side_of K a) (side_of K b)).no K.cr))
unfolding successors_of
same_successors p K is = ap (λ (s : Term). successors_of p K.cr s K.fresh) is
