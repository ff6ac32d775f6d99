-- What `meet_end` answers and leaves at an end of a walk is what the walk's definition finds there.
use Prim.Native.Nat.{ℕ, ◌+◌, ◌*◌, ◌≤◌, ◌<◌, min}
use mathlib.Core.Path.{◌≡◌, refl, ap, subst, ◌∙◌, sym as inv}
use mathlib.Core.Bool.{Bool, true, false, cond, ◌||◌}
use mathlib.Core.List.{List, [], ◌∷◌, append_assoc}
use mathlib.Core.Option.{some}
use mathlib.Core.Logic.{◌⊎◌, inl, inr}
use native.Mathlib.Omega.{arith}
use lib.Dec.{leb, ltb}
use lib.ListN.{length}
use borrow.Author.Tests.{lt-ltb, le-ltb, lt-leb, ltb-true, ltb-false, leb-false}
use Rattle.std.specs.Prelude.{Some, None, Ok, Err}
use Rattle.meetings.specs.Twins.Classes.{Met}
use Rattle.restrictions.specs.declared.failure.Failure.TheVariants.{Contradiction, Over as MetOver}
use Rattle.expressions.specs.Expression.{Exp, nodes}
use Rattle.expressions.specs.Substitution.{apply}
use Rattle.expressions.specs.Restriction.{simplify}
use Rattle.expressions.specs.Contraction.{CRPair}
use Rattle.expressions.specs.Class.{IOClass, nodes_class}
use Rattle.expressions.specs.Intersection.{meeting, Intersected, common, disjoint, too_large, intersect, nodes_meeting}
use Rattle.language.specs.Program.{Term, result, Param, Prog}
use Rattle.semantics.specs.Configuration.{ExpEnv, subst_of_env, nodes_state}
use Rattle.semantics.specs.Tree.{Node, meeting_at}
use Rattle.semantics.specs.Walk.{meeting_over, Limits, stop21, stop22, stop23, WalkState, Walked, going, stopped, table_full, with_line, at_end}
use Rattle.semantics.proofs.Scopes.{Covers, WellScoped}
use Rattle.heap.specs.Twins.Entries.{entry, entry_known, entry_from, entry_to, pushed}
use Rattle.heap.specs.declared.configuration.Configuration.{Configuration as InCells}
use Rattle.runs.proofs.RunLaws.{Below}
use Rattle.heap.proofs.HeapLaws.{Holds, nodes_positive}
use Rattle.heap.proofs.FrameLaws.{Held, held_front, entry_length, entry_before, entry_known_lem, entry_from_lem, entry_to_lem}
use Rattle.heap.proofs.KnownLaws.{KnownOf}
use Rattle.heap.proofs.FrameLaws as frame
use Rattle.heap.proofs.PartLaws.{held_joined}
use Rattle.heap.proofs.NodeLaws.{holds_nodes}
use Rattle.linking.specs.Twins.Linked.{ExpLinked, TermLinked, result_linked}
use Rattle.linking.specs.Twins.Places.{env_of}
use Rattle.constants.proofs.ConstantLaws.{Constants}
use Rattle.values.specs.Twins.Names.{names_from}
use Rattle.values.specs.Twins.Values.{ValueLeft, valued as valued_at, value_at}
use Rattle.values.proofs.ValueLaws.{Known}
use Rattle.values.proofs.RoomLaws.{value_outcome}
use Rattle.values.proofs.RoomLaws as values
use Rattle.values.proofs.StateLaws.{HoldsPair, Stands, known_in_scope}
use Rattle.values.proofs.PairLaws.{ends, ends_length, ends_held, values_held, base_is, entries_are, entries_few}
use Rattle.meetings.specs.Twins.Unifying.{MetLeft, met_left, unified}
use Rattle.meetings.specs.declared.class.Class.{Class}
use Rattle.meetings.proofs.ClassLaws.{over, reached, MeetingHeld, class_over}
use Rattle.meetings.proofs.BindingLaws.{Kept}
use Rattle.meetings.proofs.UnifierLaws.{Answered, unify_means}
use Rattle.lines.specs.LineCells.{answer_room}
use Rattle.meetings.specs.Twins.LineCells.{line_put}
use Rattle.lines.specs.Twins.Lines.{nodes_in_line, AddLeft, add_left, one_more, line_added}
use Rattle.lines.specs.Twins.Ends.{class_at, output_met, Ended, ended_as, EndLeft, after_meeting, met_end}
use Rattle.lines.specs.declared.line.Lines.{Lines}
use Rattle.lines.specs.declared.end.Unstored.TheVariants.{Over, Full}
use Rattle.lines.proofs.LineLaws.{LinesHeld, nodes_in, line_stored, line_long}

-- What an end comes to: the lines then stand in the answer storage; where the walk stops, that is as it was.
abbrev pub EndMeans : List ℕ → Walked → Ended → List ℕ → Type 0
EndMeans a (going r) e b = (l : Lines) × (e ≡ Ok l) × LinesHeld r.lines r.nodes b l × (length b ≡ length a)
EndMeans a (stopped stop21 r) e b = (e ≡ Err Over) × (b ≡ a)
EndMeans a (stopped stop22 r) e b = (e ≡ Err Full) × (b ≡ a)
EndMeans a (stopped stop23 r) e b = ⊥

-- "22 a line would be number T+1, or take the lines .. over 16,384 nodes"
module _ (lim : Limits) (few : lim.table ≤ 256) (steps : ℕ) (within : steps ≤ 65535) (r : WalkState) (a : List ℕ) (l : Lines) (held : LinesHeld r.lines r.nodes a l) (long : answer_room ≤ length a) where
  module _ (Q : IOClass) (h f q : List ℕ) (c : Class) (m : MeetingHeld (reached Q) h f q c) (low : c.used ≤ 65535) where
    abbrev added : AddLeft
    added = line_added c steps lim.table l h f q a

    abbrev sum : ℕ
    sum = min l.nodes 65535 + nodes_in_line c f

    nodes_test : ltb 16384 sum ≡ ltb 16384 (r.nodes + nodes_class Q)
    nodes_test = pick (ltb 16384 (r.nodes + nodes_class Q)) refl
      where
        pick : (t : Bool) → ltb 16384 (r.nodes + nodes_class Q) ≡ t → ltb 16384 sum ≡ t
        pick true e = lt-ltb 16384 sum (omega (arith, held.nodes, held.few, nodes_in Q h f q c m low, ltb-true 16384 (r.nodes + nodes_class Q) e))
        pick false e = le-ltb 16384 sum (omega (arith, held.nodes, nodes_in Q h f q c m low, ltb-false 16384 (r.nodes + nodes_class Q) e))

    abbrev Added : Bool → Bool → AddLeft
    Added s t = cond s (add_left None a) (cond t (add_left None a) (one_more l sum (line_put c steps h f q l.top a)))

    added_is : added ≡ Added (leb lim.table (length r.lines)) (ltb 16384 (r.nodes + nodes_class Q))
    unfolding line_added
    added_is = rw (held.count, nodes_test)

    by_tests : (s t : Bool) → leb lim.table (length r.lines) ≡ s → ltb 16384 (r.nodes + nodes_class Q) ≡ t → EndMeans a (with_line steps Q r (s || t)) (ended_as (Added s t).added) (Added s t).answer
    by_tests true t e g = (refl, refl)
    by_tests false true e g = (refl, refl)
    by_tests false false e g =
        let m₁ : length r.lines < lim.table = leb-false lim.table (length r.lines) e in
        let n₁ : r.nodes + nodes_class Q ≤ 16384 = ltb-false 16384 (r.nodes + nodes_class Q) g in
        let s₁ : sum ≡ r.nodes + nodes_class Q = omega (arith, held.nodes, nodes_in Q h f q c m low) in
        (_, refl, rw s₁ (line_stored Q h f q c m low steps within held n₁ (omega arith) long), line_long Q h f q c m low steps within held n₁ (omega arith) long)

    added_means : EndMeans a (with_line steps Q r (table_full lim Q r)) (ended_as added.added) added.answer
    added_means =
        let s = leb lim.table (length r.lines) in
        let t = ltb 16384 (r.nodes + nodes_class Q) in
        subst (λ (w : AddLeft). EndMeans a (with_line steps Q r (table_full lim Q r)) (ended_as w.added) w.answer) (inv added_is) (by_tests s t refl refl)

  -- by what is left of the class
  met_means : (i : Intersected) (w : MetLeft) → Answered i w → let e = after_meeting steps lim.table l a w w.met in EndMeans a (at_end lim steps r i) e.ended e.answer
  met_means (common Q) w (c, e, m, low) = rw e (added_means Q w.heap w.frame w.q c m (omega arith))
  met_means disjoint w e = rw e (l, refl, held, refl)
  met_means too_large w e = rw e (refl, refl)

-- what is left of the storages behind an end that the walk goes on from
pub record EndKept (used : ℕ) (h : List ℕ) (w : EndLeft) : Type 0 where
  pub same : Below used w.heap h
  pub of_heap : length w.heap ≡ 65535
  pub of_frame : length w.frame ≡ 12360
  pub of_q : length w.q ≡ 4096

result_parts : {p : Prog} {bodies : ℕ → ℕ} {code : List ℕ} {sc : List Param} {i k : ℕ} {e : Exp} → TermLinked p bodies code sc i (result e) k → ExpLinked code sc i e k
result_parts (result_linked y) = y

unified_over : (P : CRPair meeting) (h f q : List ℕ) (c : Class) → MeetingHeld P h f q c → over P ≡ true → unified c h f q ≡ met_left (Err MetOver) h f q
unfolding unified
unified_over P h f q c m e = rw (class_over m, e)

-- The end of a path that the storages hold.
module _ (p : Prog) (bodies : ℕ → ℕ) (code : List ℕ) {h f q : List ℕ} {c : InCells} (x : Node) (S : Stands p bodies code h f q c x.conf) (constants : Constants code h c.used) (e : Exp) (is : x.conf.term ≡ result e) (size : nodes_state x.conf.cr ≤ 4096)
    (simple : simplify x.conf.cr.neqs ≡ some x.conf.cr.neqs) (scoped : WellScoped p x.conf.term x.conf.cr.con.env) (low : c.used ≤ 40959) where
  abbrev v : HoldsPair h f q c S.names x.conf.cr
  v = S.holds

  abbrev u : Exp
  u = apply (subst_of_env x.conf.cr.con.env) e

  abbrev P : CRPair meeting
  P = meeting_at x u

  abbrev valued : ValueLeft
  valued = value_at code f (names_from c) c.used c.place h

  names_at : names_from c ≡ length (ends x.conf.cr)
  names_at = omega (arith, base_is v, entries_few v (omega arith), entries_are v)

  few_names : names_from c + length v.values ≤ 4120
  few_names = omega (arith, names_at, entries_are v, entries_few v (omega arith))

  held_names : Held h c.used f (names_from c) v.values
  held_names = rw names_at (values_held v)

  known : Known S.names e
  known =
      let w : WellScoped p (result e) x.conf.cr.con.env = subst (λ (t : Term). WellScoped p t x.conf.cr.con.env) is scoped in
      known_in_scope v.typed w.scope (subst (λ (σ : ExpEnv). Covers w.scope σ) v.env w.covers) e w.well_formed

  linked : ExpLinked code S.names c.place e S.past
  linked = result_parts (subst (λ (t : Term). TermLinked p bodies code S.names c.place t S.past) is S.term)

  -- the output behind inputs and wanted output
  module _ (from to now kn : ℕ) (g : List ℕ) (at : Holds g now from to u) (knows : KnownOf kn u) (same : Below c.used g h) (grown : c.used ≤ now) (fits : now ≤ 65535) (whole : length g ≡ 65535) where
    abbrev f' : List ℕ
    f' = entry (names_from c) kn from to f

    pushed_is : (pushed (names_from c) kn from to f).frame ≡ f'
    unfolding pushed
    pushed_is = rw (lt-leb 4120 (names_from c) (omega (arith, names_at, entries_are v, entries_few v (omega arith))))

    meets : MeetingHeld P g f' q (class_at c now)
    meets =
        let b : names_from c < 4120 = omega (arith, names_at, entries_are v, entries_few v (omega arith)) in
        let r : 3 * (names_from c + 1) ≤ length f = omega (arith, v.frame_size) in
        let k = holds_nodes at in
        let n = nodes_positive u in
        let i : min from 65535 ≡ from = omega (arith, at.below) in
        let j : min to 65535 ≡ to = omega (arith, at.below) in
        let at' : Holds g now (entry_from f' (names_from c)) (entry_to f' (names_from c)) u = rw (entry_from_lem (names_from c) kn from to f r, entry_to_lem (names_from c) kn from to f r, i, j) at in
        let kn' : KnownOf (entry_known f' (names_from c)) u = rw (entry_known_lem (names_from c) kn from to f r) knows in
        let one : Held g now f' (names_from c) (u ∷ []) = frame.Held.more at' kn' frame.Held.none in
        let two : Held g now f' 0 (ends x.conf.cr) = held_front (ends_held v) same grown (record { same = λ j l. (entry_before (names_from c) kn from to f).same j (omega (arith, names_at)) }) in
        let z : 0 + length (ends x.conf.cr) ≡ names_from c = omega (arith, names_at) in
        record {
          entries = omega (arith, names_at, ends_length x.conf.cr);
          neqs = v.count;
          holds = subst (λ (ts : List Exp). Held g now f' 0 ts) (append_assoc x.conf.cr.con.io.ins (x.conf.cr.con.io.out ∷ []) (u ∷ [])) (held_joined two (rw z one));
          restriction = v.neqs;
          of_heap = whole;
          of_frame = entry_length (names_from c) kn from to f ∙ v.frame_size;
          of_q = v.q_size;
        }

  -- what the meeting answers and leaves
  record MeetsAs (w : MetLeft) : Type 0 where
    answered : Answered (intersect over P) w
    kept : (w.met ≡ Err MetOver) ⊎ Kept c.used h w.heap w.frame w.q

  too_large_lem : over P ≡ true → (w : MetLeft) → w.met ≡ Err MetOver → MeetsAs w
  too_large_lem e w i = record { answered = subst (λ (o : Intersected). Answered o w) (inv is_large) i; kept = inl i }
    where
      is_large : intersect over P ≡ too_large
      is_large = rw e

  module _ (from to now kn : ℕ) (at : Holds valued.heap now from to u) (knows : KnownOf kn u) (same : Below c.used valued.heap h) (grown : c.used ≤ now) (most : now ≤ c.used + nodes u) (fits : now ≤ 65535) (whole : length valued.heap ≡ 65535) where
    abbrev m : MeetingHeld P valued.heap (entry (names_from c) kn from to f) q (class_at c now)
    m = meets from to now kn valued.heap at knows same grown fits whole

    abbrev w : MetLeft
    w = unified (class_at c now) valued.heap (entry (names_from c) kn from to f) q

    met_value : (t : Bool) → over P ≡ t → MeetsAs w
    met_value true e = too_large_lem e w (ap (λ (k : MetLeft). k.met) (unified_over P valued.heap (entry (names_from c) kn from to f) q (class_at c now) m e))
    met_value false e =
        let n = ltb-false 4096 (nodes_meeting P) e in
        let k = unify_means P valued.heap (entry (names_from c) kn from to f) q (class_at c now) simple m (record { floored = grown; low = omega arith; room = omega arith }) in
        record {
          answered = k.answered;
          kept = inr (record { same = record { same = λ j l. k.kept.same.same j l ∙ same.same j l }; of_heap = k.kept.of_heap; of_frame = k.kept.of_frame; of_q = k.kept.of_q });
        }

    output_is : valued.answer ≡ Some (valued_at from to now kn) → output_met code c h f q ≡ w
    unfolding output_met
    output_is d = rw (d, pushed_is from to now kn valued.heap at knows same grown fits whole)

  output_none : valued.answer ≡ None → (output_met code c h f q).met ≡ Err MetOver
  unfolding output_met
  output_none d = rw d

  met : MeetsAs (output_met code c h f q)
  met = go u refl (value_outcome code f (names_from c) h c.used S.names v.values v.typed held_names few_names v.heap_size v.fits constants linked known)
    where
      go : (d : Exp) → u ≡ d → values.Outcome code f (names_from c) h c.used S.names v.values v.typed held_names few_names c.place (apply (subst_of_env (env_of S.names v.values)) e) → MeetsAs (output_met code c h f q)
      go d i (inl (o, l)) =
          let z : nodes (apply (subst_of_env (env_of S.names v.values)) e) ≡ nodes u = ap (λ (σ : ExpEnv). nodes (apply (subst_of_env σ) e)) (inv v.env) in
          too_large_lem (lt-ltb 4096 (nodes_meeting P) (omega arith)) (output_met code c h f q) (output_none o)
      go d i (inr k) =
          let z : apply (subst_of_env (env_of S.names v.values)) e ≡ u = ap (λ (σ : ExpEnv). apply (subst_of_env σ) e) (inv v.env) in
          let t : Holds valued.heap k.now k.from k.to u = subst (λ (j : Exp). Holds valued.heap k.now k.from k.to j) z k.holds in
          let kn : KnownOf k.known u = subst (KnownOf k.known) z k.knows in
          let n : k.now ≤ c.used + nodes u = subst (λ (j : Exp). k.now ≤ c.used + nodes j) z k.most in
          subst MeetsAs (inv (output_is k.from k.to k.now k.known t kn k.same k.grown n k.fits k.size k.done)) (met_value k.from k.to k.now k.known t kn k.same k.grown n k.fits k.size (over P) refl)

  -- THE LAW of an end
  module _ (lim : Limits) (few : lim.table ≤ 256) (steps depth : ℕ) (within : steps ≤ 65535) (r : WalkState) (a : List ℕ) (l : Lines) (held : LinesHeld r.lines r.nodes a l) (long : answer_room ≤ length a) where
    abbrev left : EndLeft
    left = met_end code (record { at = c; steps = steps; depth = depth }) lim.table l h f q a

    pub end_means : EndMeans a (at_end lim steps r (intersect meeting_over (meeting_at x u))) left.ended left.answer
    unfolding met_end
    end_means = met_means lim few steps within r a l held long (intersect over P) (output_met code c h f q) met.answered

    pub end_kept : (left.ended ≡ Err Over) ⊎ EndKept c.used h left
    unfolding met_end
    end_kept = go (output_met code c h f q) met.kept
      where
        by : (w : MetLeft) (k : Met) → Kept c.used h w.heap w.frame w.q → EndKept c.used h (after_meeting steps lim.table l a w k)
        by w (Ok d) y = record { same = y.same; of_heap = y.of_heap; of_frame = y.of_frame; of_q = y.of_q }
        by w (Err Contradiction) y = record { same = y.same; of_heap = y.of_heap; of_frame = y.of_frame; of_q = y.of_q }
        by w (Err MetOver) y = record { same = y.same; of_heap = y.of_heap; of_frame = y.of_frame; of_q = y.of_q }

        go : (w : MetLeft) → (w.met ≡ Err MetOver) ⊎ Kept c.used h w.heap w.frame w.q → ((after_meeting steps lim.table l a w w.met).ended ≡ Err Over) ⊎ EndKept c.used h (after_meeting steps lim.table l a w w.met)
        go w (inl i) = inl (rw i)
        go w (inr y) = inr (by w w.met y)
