-- The branches of a `cons?` on a `?e` lead to the successors of semantics/specs/Trace.antt: "true gives a pair of two fresh `?e`, false a fresh `?a`".
use Prim.Native.Nat.{ℕ, ◌+◌, ◌*◌, ◌%◌, ◌≤◌, ◌<◌}
use mathlib.Core.Path.{◌≡◌, refl, ap, ◌∙◌}
use mathlib.Core.List.{List, [], ◌∷◌}
use mathlib.Core.Option.{some}
use mathlib.Core.Logic.{inl, inr}
use native.Mathlib.Omega.{arith}
use lib.ListN.{set}
use borrow.Author.Tests.{le-ltb}
use Rattle.std.specs.Prelude.{Some, None, Ok, Err}
use Rattle.restrictions.specs.declared.failure.Failure.TheVariants.{Over}
use Rattle.expressions.specs.Expression.{avar, Exp, atm, evar, pair}
use Rattle.expressions.specs.Substitution.{Substitution, subst_e}
use Rattle.expressions.specs.Contraction.{CRPair, contract}
use Rattle.expressions.specs.Split.{take_numbers, split_exp}
use Rattle.language.specs.Program.{Term, Param, Prog}
use Rattle.semantics.specs.Environment.{update_e, update_a}
use Rattle.semantics.specs.Configuration.{state, with_env}
use Rattle.semantics.specs.Trace.{configuration}
use Rattle.sets.specs.Cells.{cells, evar_code, avar_code}
use Rattle.sets.specs.Twins.Counting.{fresh, handed}
use Rattle.sets.proofs.CounterLaws.{handed_numbers}
use Rattle.runs.specs.Twins.Runs.{appended_pair}
use Rattle.heap.specs.Twins.Contracted.{Stores, contracted_entries}
use Rattle.heap.specs.Twins.Entries.{PushAnswer}
use Rattle.heap.specs.Twins.Moving.{left}
use Rattle.heap.specs.declared.configuration.Configuration.{Configuration as InCells}
use Rattle.runs.proofs.RunLaws.{Below, below_self}
use Rattle.heap.proofs.HeapLaws.{Holds, Range, Filling, filling_e, Grown, written_holds}
use Rattle.heap.proofs.PairLaws.{head_holds, tail_holds}
use Rattle.linking.specs.Twins.Linked.{TermLinked}
use Rattle.values.proofs.StateLaws.{HoldsPair, Leads}
use Rattle.values.proofs.ContractionLaws.{applied_pair, used_to, AppliedOutcome, contract_pair, written_range, written_same, written_size}
use Rattle.looking.specs.Twins.Taking.{placed_as}
use Rattle.pairs.specs.Twins.Splitting.{filled_on, contracted_all, bound_contracted, pair_made, atom_made, pair_split, atom_split, code_of}
use Rattle.pairs.proofs.NameLaws.{Named}
use Rattle.pairs.proofs.LookLaws.{TestAt}
use Rattle.pairs.proofs.TakeLaws.{with_neqs, later_holds, placed_holds, placed_entries, placed_used, placed_place, placed_counter, over_leads, on_leads, parts_named, atom_named}

module _ (p : Prog) (bodies : ℕ → ℕ) (code : List ℕ) where
  -- A contraction of all entries: cr/κ for a substitution of one `?e`.
  module _ {h g f q : List ℕ} {used : ℕ} {d : InCells} {names : List Param} {R : CRPair state} (x : HoldsPair g f q d names R) (few : d.entries ≤ 4120) (same : Below used g h) (grown : used ≤ d.used)
      (near : d.used ≤ used + 3) (room : used + 8192 ≤ 65535) {var from : ℕ} {v : List ℕ} {s : Substitution} (fill : Filling var v s) (value : Range g d.used from d.used v)
      (t : Term) (next past : ℕ) (term : TermLinked p bodies code names d.place t past) (counts : d.counter ≡ next) where
    abbrev Is : Stores → Type 0
    Is w = Leads p bodies code h used (some (record { cr = applied_pair s R; term = t; fresh = next })) (left (filled_on d w.answer) w.heap w.frame q)

    filled_over : (w : Stores) → w.answer ≡ None → filled_on d w.answer ≡ Err Over
    unfolding filled_on
    filled_over w e = rw e

    filled_done : (w : Stores) (now : ℕ) → w.answer ≡ Some now → filled_on d w.answer ≡ Ok (placed_as d d.entries now d.place d.counter)
    unfolding filled_on
    filled_done w now e = rw e

    filled_leads : (w : Stores) → AppliedOutcome g q d names (applied_pair s R) d.used w → Is w
    filled_leads w (inl (o, l)) = over_leads p bodies code _ _ (filled_over w o) (omega arith)
    filled_leads w (inr a) =
        let j = placed_used d d.entries a.now d.place d.counter in
        let b = a.grown in
        let m = a.most in
        on_leads p bodies code {d = placed_as d d.entries a.now d.place d.counter} (placed_holds d d.entries a.now d.place d.counter a.holds)
        (record { same = λ n l. a.same.same n (omega arith) ∙ same.same n l }) (omega arith) (omega arith) t next past
        (rw (placed_place d d.entries a.now d.place d.counter) term) (placed_counter d d.entries a.now d.place d.counter ∙ counts) _ (filled_done w a.now a.done)

    contracted_leads : Leads p bodies code h used (some (record { cr = applied_pair s R; term = t; fresh = next })) (with_neqs q (contracted_all d var from g f))
    unfolding contracted_all
    contracted_leads =
        filled_leads (contracted_entries 0 d.entries var from d.used d.used g f) (contract_pair x few fill g d.used from d.used x.heap_size below_self (omega arith) x.fits value)

-- the code of a variable that has one
code_is : (n tag : ℕ) → n < 16384 → code_of n tag ≡ 4 * n + tag
code_is n tag l = let z : n % 16384 ≡ n = omega arith in rw z

module _ {p : Prog} {bodies : ℕ → ℕ} {code h f q : List ℕ} {names : List Param} {P : CRPair state} {e : Exp} {m k n : ℕ} {s u : Term} (c : InCells) (T : TestAt p bodies code names c.place e m k n s u)
    (x : HoldsPair h f q c names P) (few : c.entries ≤ 4097) (room : c.used + 8192 ≤ 65535) (next : ℕ) (counts : c.counter ≡ next) (coded : next ≤ 16381) (v : ℕ) where
  -- The names bound, then the contraction.
  module _ {g : List ℕ} {used more place past : ℕ} {sc : List Param} {R : CRPair state} {w : PushAnswer} (N : Named g q (used_to used c) more sc R w) (some_more : more ≤ 3) (same : Below c.used g h)
      (grown : c.used ≤ used) (near : used ≤ c.used + 3) {d : Exp} (value : Holds g used c.used used d) (t : Term) (after : ℕ) (term : TermLinked p bodies code sc place t past) where
    bound_is : bound_contracted c (evar_code v) used place after w.answer g w.frame ≡ contracted_all (placed_as c (c.entries + more) used place after) (evar_code v) c.used g w.frame
    unfolding bound_contracted
    bound_is = rw N.done

    split_leads : Leads p bodies code h c.used (some (record { cr = applied_pair (subst_e v d) R; term = t; fresh = after })) (with_neqs q (bound_contracted c (evar_code v) used place after w.answer g w.frame))
    split_leads =
        let i = placed_entries c (c.entries + more) used place after in
        let j = placed_used c (c.entries + more) used place after in
        let y : Range g (placed_as c (c.entries + more) used place after).used c.used (placed_as c (c.entries + more) used place after).used (cells d) = rw j (record { below = value.below; is = value.is }) in
        rw bound_is (contracted_leads p bodies code (placed_holds c (c.entries + more) used place after N.holds) (omega arith) same (omega arith) (omega arith) room (filling_e v d) y t after past
        (rw (placed_place c (c.entries + more) used place after) term) (placed_counter c (c.entries + more) used place after))

  module _ (a b : ℕ) where
    abbrev made : Exp
    made = pair (evar a) (evar b)

    pair_grown : Grown h c.used made (appended_pair (evar_code a) (evar_code b) c.used h)
    pair_grown = written_holds h x.heap_size c.used made 3 (cells made) refl refl (omega arith)

    pair_made_lem : (after : ℕ) → Leads p bodies code h c.used (some (record { cr = applied_pair (subst_e v made) (with_env (update_e k (evar b) (update_e m (evar a) P.con.env)) P); term = s; fresh = after }))
        (with_neqs q (pair_made code c (evar_code v) (evar_code a) (evar_code b) after h f))
    unfolding pair_made
    pair_made_lem after =
        let y = pair_grown in
        let i : c.used + 1 + 1 ≡ c.used + 2 = omega arith in
        let g = (appended_pair (evar_code a) (evar_code b) c.used h).cells in
        let head : Holds g (c.used + 3) (c.used + 1) (c.used + 2) (evar a) = rw i at (head_holds y.holds) in
        let tail : Holds g (c.used + 3) (c.used + 2) (c.used + 3) (evar b) = rw i at (tail_holds y.holds) in
        let z = later_holds x g (c.used + 3) y.same (omega arith) (omega arith) y.size in
        rw (le-ltb 65532 c.used (omega arith), T.opens) (split_leads (parts_named c T (c.used + 3) z few (c.used + 1) (c.used + 2) (c.used + 3) (evar a) (evar b) head tail) (omega arith) y.same (omega arith) (omega arith)
        y.holds s after T.on_true)

  numbers : handed c.counter ≡ Some (fresh next)
  numbers = ap handed counts ∙ handed_numbers next coded

  -- THE LAW of the true branch on a `?e`
  pub split_pair_leads : let r = take_numbers next in
      Leads p bodies code h c.used (configuration s r.next (contract (split_exp v r).yes (with_env (update_e k (evar r.tail) (update_e m (evar r.head) P.con.env)) P))) (with_neqs q (pair_split code c (evar_code v) h f))
  unfolding pair_split
  split_pair_leads = rw (numbers, code_is next 2 (omega arith), code_is (next + 1) 2 (omega arith)) (pair_made_lem next (next + 1) (next + 3))

  atom_made_lem : (a after : ℕ) → Leads p bodies code h c.used (some (record { cr = applied_pair (subst_e v (atm (avar a))) (with_env (update_a n (avar a) P.con.env) P); term = u; fresh = after }))
      (with_neqs q (atom_made code c (evar_code v) (avar_code a) after h f))
  unfolding atom_made
  atom_made_lem a after =
      let w = avar_code a ∷ [] in
      let r = written_range x (omega arith) w (omega arith) in
      let b = written_same x (omega arith) w (omega arith) in
      let y : Holds (set h c.used (avar_code a)) (c.used + 1) c.used (c.used + 1) (atm (avar a)) = record { below = r.below; is = r.is } in
      let z = later_holds x (set h c.used (avar_code a)) (c.used + 1) b (omega arith) (omega arith) (written_size x (omega arith) w (omega arith)) in
      rw (le-ltb 65534 c.used (omega arith), T.opens) (split_leads (atom_named c T (c.used + 1) z few c.used (c.used + 1) (avar a) y) (omega arith) b (omega arith) (omega arith) y u after T.on_false)

  -- THE LAW of the false branch on a `?e`
  pub split_atom_leads : let r = take_numbers next in
      Leads p bodies code h c.used (configuration u r.next (contract (split_exp v r).no (with_env (update_a n (avar r.atom) P.con.env) P))) (with_neqs q (atom_split code c (evar_code v) h f))
  unfolding atom_split
  split_atom_leads = rw (numbers, code_is (next + 2) 3 (omega arith)) (atom_made_lem (next + 2) (next + 3))
