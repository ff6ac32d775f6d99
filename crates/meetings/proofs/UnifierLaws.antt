-- `unify` is the intersection of the class that the entries and q hold.
use Prim.Native.Nat.{ℕ, zero, suc, ◌+◌, ◌≤◌, min}
use mathlib.Core.Path.{◌≡◌, refl, subst, ◌∙◌, sym as inv}
use mathlib.Core.Bool.{Bool, true, false, cond}
use mathlib.Core.List.{List, [], ◌∷◌, ◌++◌, map}
use mathlib.Core.Logic.{◌↔◌}
use mathlib.Core.Option.{Option, none, some}
use native.Mathlib.Omega.{arith}
use lib.ListN.{length, get_or}
use Rattle.std.specs.Prelude.{Ok, Err}
use Rattle.restrictions.specs.declared.failure.Failure.TheVariants.{Contradiction, Over}
use Rattle.expressions.specs.Expression.{AtomicExp, Exp, atm}
use Rattle.expressions.specs.Substitution.{subst_e, subst_a}
use Rattle.expressions.specs.Restriction.{Restriction, simplify, apply_non_equality, subst_restriction}
use Rattle.expressions.specs.Contraction.{CRPair, Contraction, apply_pair}
use Rattle.expressions.specs.Class.{IOClass}
use Rattle.expressions.specs.Intersection.{meeting, disagreement, Intersected, common, disjoint, too_large, unless_over, after_binding, unify_step, unify, bindings_enough, intersect}
use Rattle.expressions.proofs.Combination.{simplify_idempotent}
use Rattle.expressions.proofs.Unification.{bound}
use Rattle.expressions.proofs.Disagreement.{IsIdentity, disagreement_identity}
use Rattle.sets.specs.Cells.{evar_code, avar_code, atomic_code}
use Rattle.restrictions.specs.Twins.Restricting.{RestrictAnswer, bind_cells}
use Rattle.sets.proofs.ContractionLaws.{code_tag}
use Rattle.restrictions.proofs.RestrictionLaws.{Answers, bind_cells_means}
use Rattle.heap.specs.Twins.Moving.{bound_restriction}
use Rattle.runs.proofs.RunLaws.{Below, below_self, run_cons}
use Rattle.heap.proofs.HeapLaws.{Holds, filling_e, filling_a}
use Rattle.heap.proofs.FrameLaws.{Held}
use Rattle.heap.proofs.NodeLaws.{holds_nodes}
use Rattle.meetings.specs.Twins.Classes.{place_in, output_entry, wanted_entry, bindings_in}
use Rattle.meetings.specs.Twins.Binding.{StepLeft, bound_from, variable_bound}
use Rattle.meetings.specs.Twins.Unifying.{disagreement_in, unified_by, unify_stepped, Roomed, room_made, unify_turned, MetLeft, met_left, on_step_from, unified_many, unified}
use Rattle.meetings.specs.declared.difference.Disagreement.{Disagreement}
use Rattle.meetings.specs.declared.class.Class.{Class}
use Rattle.meetings.proofs.DifferenceLaws.{Coded, same, apart, binds_e, binds_a, leftmost_means}
use Rattle.meetings.proofs.KeepLaws.{below_then}
use Rattle.meetings.proofs.ClassLaws.{over, MeetingHeld, reached, few, output_at_lem, wanted_at, wanted_holds, output_holds, class_over}
use Rattle.meetings.proofs.BindingLaws.{Kept, Roomy, Stepped, entries_stepped, RoomHeld, room_made_lem}

-- The answer: the class that is left stands in the entries and q; or nothing is left; or it is over.
abbrev pub Answered : Intersected → MetLeft → Type 0
Answered (common Q) w = (c : Class) × (w.met ≡ Ok c) × MeetingHeld (reached Q) w.heap w.frame w.q c × (c.used ≤ 61439)
Answered disjoint w = w.met ≡ Err Contradiction
Answered too_large w = w.met ≡ Err Over

-- .. and below `floor` the heap is as it was
pub record Meets (floor : ℕ) (h : List ℕ) (r : Intersected) (w : MetLeft) : Type 0 where
  pub answered : Answered r w
  pub kept : Kept floor h w.heap w.frame w.q

meets_below : {floor : ℕ} {g h : List ℕ} {r : Intersected} {w : MetLeft} → Below floor h g → Meets floor h r w → Meets floor g r w
meets_below b m = record {
  answered = m.answered;
  kept = record { same = below_then m.kept.same b (omega arith); of_heap = m.kept.of_heap; of_frame = m.kept.of_frame; of_q = m.kept.of_q };
}

kept_self : {floor : ℕ} {P : CRPair meeting} {h f q : List ℕ} {c : Class} → MeetingHeld P h f q c → Kept floor h h f q
kept_self m = record { same = below_self; of_heap = m.of_heap; of_frame = m.of_frame; of_q = m.of_q }

heads : {a b : ℕ} {r s : List ℕ} → a ∷ r ≡ b ∷ s → a ≡ b
heads e = cc

-- the cell of a leaf
leaf_cell : {h : List ℕ} {used from to : ℕ} {x : AtomicExp} → Holds h used from to (atm x) → get_or h from 0 ≡ atomic_code x
leaf_cell {h} {used} {from} {to} x = let n = holds_nodes x in heads (inv (run_cons from to h (omega arith)) ∙ x.is)

-- What is left after one disagreement more is known of the meeting behind it.
abbrev Goes : ℕ → Type 0
Goes n = (Q : CRPair meeting) (h f q : List ℕ) (c : Class) → simplify Q.neqs ≡ some Q.neqs → MeetingHeld Q h f q c → Roomy c 61439 → over Q ≡ false → Meets c.floor h (unify over n Q) (unified_many n c h f q)

module _ (n : ℕ) (again : Goes n) where
  after_binding_lem : (Q : CRPair meeting) (floor : ℕ) (g : List ℕ) (w : StepLeft) → simplify Q.neqs ≡ some Q.neqs → Stepped Q floor g w → Meets floor g (unless_over (unify over n) Q (over Q)) (on_step_from (unified_many n) w)
  after_binding_lem Q floor g w simple d = pick (over Q) refl
    where
      goes : (c : Class) → c.floor ≡ floor → MeetingHeld Q w.heap w.frame w.q c → Roomy c 61439 → over Q ≡ false → Meets floor g (unify over n Q) (unified_many n c w.heap w.frame w.q)
      goes c e m r z = meets_below d.kept.same (subst (λ (k : ℕ). Meets k w.heap (unify over n Q) (unified_many n c w.heap w.frame w.q)) e (again Q w.heap w.frame w.q c simple m r z))

      pick : (t : Bool) → over Q ≡ t → Meets floor g (unless_over (unify over n) Q t) (on_step_from (unified_many n) w)
      pick true e = rw (d.ends e) (record { answered = refl; kept = d.kept })
      pick false e = let g = d.goes e in rw g.1 (goes g.0 g.2 g.3 g.4 e)

  module _ (P : CRPair meeting) (h f q : List ℕ) (c : Class) (simple : simplify P.neqs ≡ some P.neqs) (m : MeetingHeld P h f q c) (r : Roomy c 57343) where
    bound_e : (i : ℕ) (d : Exp) (from to : ℕ) → Holds h c.used from to d → let Q = bound (subst_e i d) P.neqs P in
        Meets c.floor h (unless_over (unify over n) Q (over Q)) (on_step_from (unified_many n) (variable_bound c (evar_code i) from to h f q))
    unfolding variable_bound bound_restriction
    bound_e i d from to v =
        rw (code_tag i 2 (omega arith)) (after_binding_lem (bound (subst_e i d) P.neqs P) c.floor h _ simple
        (entries_stepped m r (filling_e i d) (record { below = v.below; is = v.is }) P.neqs q c.neqs m.neqs m.restriction m.of_q))

    bound_a : (i : ℕ) (x : AtomicExp) (from to : ℕ) → Holds h c.used from to (atm x) →
        Meets c.floor h (after_binding over (unify over n) (apply_pair (subst_a i x) P (subst_restriction (subst_a i x) P.neqs))) (on_step_from (unified_many n) (variable_bound c (avar_code i) from to h f q))
    unfolding variable_bound bound_restriction
    bound_a i x from to v =
        let b : Answers (length P.neqs) q (subst_restriction (subst_a i x) P.neqs) (bind_cells c.neqs (avar_code i) (atomic_code x) q) = rw m.neqs (bind_cells_means i x P.neqs q m.restriction simple) in
        rw (code_tag i 3 (omega arith), leaf_cell v) (pick (subst_restriction (subst_a i x) P.neqs) refl (bind_cells c.neqs (avar_code i) (atomic_code x) q) b)
      where
        pick : (o : Option Restriction) → subst_restriction (subst_a i x) P.neqs ≡ o → (a : RestrictAnswer) → Answers (length P.neqs) q o a →
            Meets c.floor h (after_binding over (unify over n) (apply_pair (subst_a i x) P o)) (on_step_from (unified_many n) (bound_from c (avar_code i) from to h f a))
        pick none e a b = rw b.0 (record { answered = refl; kept = record { same = below_self; of_heap = m.of_heap; of_frame = m.of_frame; of_q = b.2 ∙ m.of_q } })
        pick (some qs) e a b =
            rw b.0 (after_binding_lem (bound (subst_a i x) qs P) c.floor h _ (simplify_idempotent (map (apply_non_equality (subst_a i x)) P.neqs) qs e)
            (entries_stepped m r (filling_a i x) (record { below = v.below; is = v.is }) qs a.cells (length qs) refl b.1 (b.4 ∙ m.of_q)))

    step_means : (D : Disagreement) (κ : Contraction) → Coded h c.used D κ → disagreement P.con.io.out P.con.output ≡ κ →
        Meets c.floor h (unify_step over (unify over n) P κ) (on_step_from (unified_many n) (unified_by c h f q D))
    step_means D κ same e =
        let i : P.con.output ≡ P.con.io.out = inv (disagreement_identity P.con.io.out P.con.output (subst IsIdentity (inv e) tt)) in
        record {
          answered = (
            c,
            refl,
            record {
              entries = m.entries;
              neqs = m.neqs;
              holds = subst (λ (u : Exp). Held h c.used f 0 (P.con.io.ins ++ (P.con.io.out ∷ (u ∷ [])))) i m.holds;
              restriction = m.restriction;
              of_heap = m.of_heap;
              of_frame = m.of_frame;
              of_q = m.of_q;
            },
            omega (arith, r.room),
          );
          kept = kept_self m;
        }
    step_means D κ apart e = record { answered = refl; kept = kept_self m }
    step_means D κ (binds_e i d from to v) e = bound_e i d from to v
    step_means D κ (binds_a i x from to v) e = bound_a i x from to v

    found : Coded h c.used (disagreement_in c h f) (disagreement P.con.io.out P.con.output)
    unfolding place_in
    found =
        let a : min (wanted_entry c) 4119 ≡ length P.con.io.ins = omega (arith, wanted_at m, few m) in
        let b : min (output_entry c) 4119 ≡ length P.con.io.ins + 1 = omega (arith, output_at_lem m, few m) in
        rw (a, b) (leftmost_means h c.used _ _ _ _ P.con.io.out P.con.output m.of_heap (omega (arith, r.room)) (wanted_holds m) (output_holds m))

    step_stepped : Meets c.floor h (unify_step over (unify over n) P (disagreement P.con.io.out P.con.output)) (on_step_from (unified_many n) (unify_stepped c h f q))
    unfolding unify_stepped
    step_stepped = step_means (disagreement_in c h f) (disagreement P.con.io.out P.con.output) found refl

  turned : (P : CRPair meeting) (h f q : List ℕ) (c : Class) → simplify P.neqs ≡ some P.neqs → MeetingHeld P h f q c → Roomy c 61439 → over P ≡ false →
      Meets c.floor h (unify_step over (unify over n) P (disagreement P.con.io.out P.con.output)) (on_step_from (unified_many n) (unify_turned c h f q))
  unfolding unify_turned
  turned P h f q c simple m r z = go (room_made c h f) (room_made_lem m r z)
    where
      go : (w : Roomed) → RoomHeld P c.floor h q w →
          Meets c.floor h (unify_step over (unify over n) P (disagreement P.con.io.out P.con.output)) (on_step_from (unified_many n) (unify_stepped w.class w.heap w.frame q))
      go w a =
          meets_below a.same (subst (λ (k : ℕ). Meets k w.heap (unify_step over (unify over n) P (disagreement P.con.io.out P.con.output)) (on_step_from (unified_many n) (unify_stepped w.class w.heap w.frame q))) a.floor_is
          (step_stepped P w.heap w.frame q w.class simple a.holds a.roomy))

many_means : (n : ℕ) → Goes n
unfolding unify unified_many
many_means zero P h f q c simple m r z = record { answered = refl; kept = kept_self m }
many_means (suc n) P h f q c simple m r z = turned n (many_means n) P h f q c simple m r z

-- THE LAW of a meeting: `unify` is the intersection of the class that the entries and q hold
pub unify_means : (P : CRPair meeting) (h f q : List ℕ) (c : Class) → simplify P.neqs ≡ some P.neqs → MeetingHeld P h f q c → Roomy c 61439 → Meets c.floor h (intersect over P) (unified c h f q)
unfolding unified
unify_means P h f q c simple m r = rw (class_over m) (pick (over P) refl)
  where
    fuel : bindings_in c f ≡ bindings_enough P.con
    fuel =
        let a : min (wanted_entry c) 4119 ≡ length P.con.io.ins = omega (arith, wanted_at m, few m) in
        let b : min (output_entry c) 4119 ≡ length P.con.io.ins + 1 = omega (arith, output_at_lem m, few m) in
        rw (a, b) (omega (arith, holds_nodes (wanted_holds m), holds_nodes (output_holds m)))

    pick : (t : Bool) → over P ≡ t → Meets c.floor h (unless_over (unify over (bindings_enough P.con)) P t) (cond t (met_left (Err Over) h f q) (unified_many (bindings_in c f) c h f q))
    pick true e = record { answered = refl; kept = kept_self m }
    pick false e = rw fuel (many_means (bindings_enough P.con) P h f q c simple m r e)

-- .. and back: which answer says what
module _ (w : MetLeft) where
  pub answered_common : (r : Intersected) → Answered r w → (c : Class) → w.met ≡ Ok c → (Q : IOClass) × (r ≡ common Q) × MeetingHeld (reached Q) w.heap w.frame w.q c × (c.used ≤ 61439)
  answered_common (common Q) a c e =
      let d : a.0 ≡ c = cc in
      (Q, refl, subst (λ (k : Class). MeetingHeld (reached Q) w.heap w.frame w.q k) d a.2, subst (λ (k : Class). k.used ≤ 61439) d a.3)
  answered_common disjoint a c e = let z : ◌≡◌ {A = ℕ} 0 1 = cc in absurd (omega arith)
  answered_common too_large a c e = let z : ◌≡◌ {A = ℕ} 0 1 = cc in absurd (omega arith)

  pub answered_apart : (r : Intersected) → Answered r w → (w.met ≡ Err Contradiction) ↔ (r ≡ disjoint)
  answered_apart (common Q) a = ((λ e. let z : ◌≡◌ {A = ℕ} 0 1 = apart_common a.0 (inv e ∙ a.1) in absurd (omega arith)), λ e. cc)
    where
      apart_common : (c : Class) → Err Contradiction ≡ Ok c → ◌≡◌ {A = ℕ} 0 1
      apart_common c e = cc
  answered_apart disjoint a = ((λ e. refl), λ e. a)
  answered_apart too_large a = ((λ e. cc), λ e. cc)

  pub answered_over : (r : Intersected) → Answered r w → (w.met ≡ Err Over) ↔ (r ≡ too_large)
  answered_over (common Q) a = ((λ e. let z : ◌≡◌ {A = ℕ} 0 1 = over_common a.0 (inv e ∙ a.1) in absurd (omega arith)), λ e. cc)
    where
      over_common : (c : Class) → Err Over ≡ Ok c → ◌≡◌ {A = ℕ} 0 1
      over_common c e = cc
  answered_over disjoint a = ((λ e. cc), λ e. cc)
  answered_over too_large a = ((λ e. refl), λ e. a)
