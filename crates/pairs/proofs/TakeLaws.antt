-- The branches of a `cons?` on a pair and on an atom lead to the successors of semantics/specs/Trace.antt.
use Prim.Native.Nat.{ℕ, ◌+◌, ◌≤◌, ◌<◌}
use mathlib.Core.Path.{◌≡◌, refl, ap, subst, ◌∙◌}
use mathlib.Core.List.{List}
use mathlib.Core.Option.{some}
use mathlib.Core.Logic.{inl, inr}
use native.Mathlib.Omega.{arith}
use lib.ListN.{length}
use Rattle.std.specs.Prelude.{Result, Some, Ok, Err}
use Rattle.restrictions.specs.declared.failure.Failure.{Failure}
use Rattle.restrictions.specs.declared.failure.Failure.TheVariants.{Over}
use Rattle.expressions.specs.Expression.{AtomicExp, Exp, atm, pair, nodes}
use Rattle.expressions.specs.Contraction.{CRPair}
use Rattle.language.specs.Program.{Term, Param, pe, pa, Prog}
use Rattle.semantics.specs.Environment.{update_e, update_a}
use Rattle.semantics.specs.Configuration.{state, with_env, nodes_state, Configuration}
use Rattle.heap.specs.Twins.Entries.{PushAnswer, pushed}
use Rattle.heap.specs.Twins.Moving.{Left, left}
use Rattle.heap.specs.Twins.Moving.{Move}
use Rattle.heap.specs.declared.configuration.Configuration.{Configuration as InCells}
use Rattle.runs.proofs.RunLaws.{Below}
use Rattle.heap.proofs.HeapLaws.{Holds}
use Rattle.heap.proofs.FrameLaws.{held_kept}
use Rattle.linking.specs.Twins.Linked.{with_name, TermLinked}
use Rattle.values.proofs.StateLaws.{HoldsPair, Leads, leads_to}
use Rattle.values.proofs.ContractionLaws.{used_to, pair_same}
use Rattle.looking.specs.Twins.Taking.{placed_as, parts_bound, placed_with, pair_taken, atom_taken}
use Rattle.pairs.proofs.NameLaws.{entries_to, Named, bound_name_e, bound_name_a, both_have}
use Rattle.pairs.proofs.LookLaws.{TestAt}

-- `cons?` touches no non-equality
abbrev pub with_neqs : List ℕ → Move → Left
with_neqs q w = left w.answer w.heap w.frame q

-- the same cr-pair in a heap that is the same below what was used, with more of it used
pub later_holds : {h f q : List ℕ} {c : InCells} {names : List Param} {P : CRPair state} → HoldsPair h f q c names P → (g : List ℕ) (now : ℕ) → Below c.used g h → c.used ≤ now → now ≤ 65535 → length g ≡ 65535 →
    HoldsPair g f q (used_to now c) names P
later_holds x g now b l m z = record {
  values = x.values;
  typed = x.typed;
  env = x.env;
  held = held_kept x.held b l (record { same = λ j k. refl });
  inputs = x.inputs;
  outputs = x.outputs;
  entries = x.entries;
  neqs = x.neqs;
  count = x.count;
  fits = m;
  heap_size = z;
  frame_size = x.frame_size;
  q_size = x.q_size;
}

-- the term, the counter and what is used beside a cr-pair that the storages hold
pub placed_holds : {h f q : List ℕ} {names : List Param} {P : CRPair state} (c : InCells) (n used place counter : ℕ) → HoldsPair h f q (entries_to n (used_to used c)) names P → HoldsPair h f q (placed_as c n used place counter) names P
unfolding placed_as
placed_holds c n used place counter x = pair_same x (placed_as c n used place counter) refl refl refl refl refl

-- the fields of a placed configuration
module _ (c : InCells) (n used place counter : ℕ) where
  pub placed_entries : (placed_as c n used place counter).entries ≡ n
  unfolding placed_as
  placed_entries = refl

  pub placed_used : (placed_as c n used place counter).used ≡ used
  unfolding placed_as
  placed_used = refl

  pub placed_place : (placed_as c n used place counter).place ≡ place
  unfolding placed_as
  placed_place = refl

  pub placed_counter : (placed_as c n used place counter).counter ≡ counter
  unfolding placed_as
  placed_counter = refl

module _ (p : Prog) (bodies : ℕ → ℕ) (code : List ℕ) where
  -- a branch that is over before it is taken
  pub over_leads : {h : List ℕ} {used : ℕ} (K : Configuration) (w : Left) → w.answer ≡ Err Over → 4097 < nodes_state K.cr → Leads p bodies code h used (some K) w
  over_leads K w e l = leads_to p bodies code K w (inl (e, l))

  -- storages that hold a configuration
  pub on_leads : {h g f q : List ℕ} {used : ℕ} {d : InCells} {names : List Param} {P : CRPair state} → HoldsPair g f q d names P → Below used g h → used ≤ d.used → d.used ≤ used + (nodes_state P + 4) → (t : Term) (fresh past : ℕ) →
      TermLinked p bodies code names d.place t past → d.counter ≡ fresh → (a : Result InCells Failure) → a ≡ Ok d → Leads p bodies code h used (some (record { cr = P; term = t; fresh = fresh })) (left a g f q)
  on_leads {h} {g} {f} {q} {used} {d} {names} {P} x same grown most t fresh past term counts a e = leads_to p bodies code (record { cr = P; term = t; fresh = fresh }) (left a g f q) (inr (record {
    at = d;
    moved = e;
    stands = record { names = names; holds = x; past = past; term = term; fresh = counts };
    same = same;
    grown = grown;
    most = most;
  }))

module _ {p : Prog} {bodies : ℕ → ℕ} {code g f q : List ℕ} {names : List Param} {P : CRPair state} {e : Exp} {m k n : ℕ} {s u : Term} (c : InCells) (T : TestAt p bodies code names c.place e m k n s u)
    (used : ℕ) (x : HoldsPair g f q (used_to used c) names P) (few : c.entries ≤ 4097) where
  -- the cr-pair with the two parts' names, and with the atom's
  abbrev pub with_parts : Exp → Exp → CRPair state
  with_parts a b = with_env (update_e k b (update_e m a P.con.env)) P

  abbrev pub with_atom : AtomicExp → CRPair state
  with_atom y = with_env (update_a n y P.con.env) P

  module _ (from mid to : ℕ) (a b : Exp) (head : Holds g used from mid a) (tail : Holds g used mid to b) where
    -- the two `e.` names
    pub parts_named : Named g q (used_to used c) 2 (with_name (pe k) (with_name (pe m) names)) (with_parts a b) (parts_bound c.entries from mid to f)
    unfolding parts_bound
    parts_named =
        let v = bound_name_e x (omega arith) m a from mid head T.new_head in
        let w = bound_name_e v.holds (omega arith) k b mid to tail T.new_tail in
        let two : c.entries + 1 + 1 ≡ c.entries + 2 = omega arith in
        let g2 = (pushed (c.entries + 1) 0 mid to (pushed c.entries 0 from mid f).frame).frame in
        rw v.done (record {
          done = w.done ∙ ap Some two;
          holds = subst (λ (i : ℕ). HoldsPair g g2 q (entries_to i (used_to used c)) (with_name (pe k) (with_name (pe m) names)) (with_parts a b)) two w.holds;
        })

  -- the `a.` name
  pub atom_named : (from to : ℕ) (y : AtomicExp) → Holds g used from to (atm y) → Named g q (used_to used c) 1 (with_name (pa n) names) (with_atom y) (pushed c.entries 0 from to f)
  atom_named from to y is = bound_name_a x (omega arith) n y from to is T.new_atom_lem

  -- the names bound, at a branch
  module _ {h : List ℕ} (same : Below c.used g h) (grown : c.used ≤ used) (fresh : ℕ) (counts : c.counter ≡ fresh) where
    module _ (more place past : ℕ) (sc : List Param) (R : CRPair state) (t : Term) (w : PushAnswer) (N : Named g q (used_to used c) more sc R w) (some_more : more ≤ 2)
        (term : TermLinked p bodies code sc place t past) (most : used ≤ c.used + (nodes_state R + 4)) where
      bound_placed : placed_with c used place w.answer ≡ Ok (placed_as c (c.entries + more) used place c.counter)
      unfolding placed_with
      bound_placed = rw N.done

      bound_leads : Leads p bodies code h c.used (some (record { cr = R; term = t; fresh = fresh })) (left (placed_with c used place w.answer) g w.frame q)
      bound_leads =
          let d = placed_as c (c.entries + more) used place c.counter in
          let j = placed_used c (c.entries + more) used place c.counter in
          on_leads p bodies code {d = d} (placed_holds c (c.entries + more) used place c.counter N.holds) same (omega arith) (omega arith) t fresh past
          (rw (placed_place c (c.entries + more) used place c.counter) term) (placed_counter c (c.entries + more) used place c.counter ∙ counts) _ bound_placed

    -- THE LAW of the true branch on a pair
    pub pair_leads : (from mid to : ℕ) (a b : Exp) → Holds g used from mid a → Holds g used mid to b → used ≤ c.used + nodes (pair a b) →
        let w = pair_taken code c from mid to used f in Leads p bodies code h c.used (some (record { cr = with_parts a b; term = s; fresh = fresh })) (left w.answer g w.frame q)
    unfolding pair_taken
    pair_leads from mid to a b head tail most =
        let v = both_have x (omega arith) m k a b T.new_head T.new_tail in
        rw T.opens (bound_leads 2 (T.names_from_lem + 4) T.false_from (with_name (pe k) (with_name (pe m) names)) (with_parts a b) s (parts_bound c.entries from mid to f)
        (parts_named from mid to a b head tail) (omega arith) T.on_true (omega arith))

    -- THE LAW of the false branch on an atom
    pub atom_leads : (from to : ℕ) (y : AtomicExp) → Holds g used from to (atm y) → used ≤ c.used + 1 →
        let w = atom_taken code c from to used f in Leads p bodies code h c.used (some (record { cr = with_atom y; term = u; fresh = fresh })) (left w.answer g w.frame q)
    unfolding atom_taken
    atom_leads from to y is most =
        rw T.opens (bound_leads 1 T.false_from T.end (with_name (pa n) names) (with_atom y) u (pushed c.entries 0 from to f) (atom_named from to y is) (omega arith) T.on_false (omega arith))
