-- One binding in entries is the meeting with the substitution applied, or it is over the limit; and what room for it means.
use Prim.Native.Nat.{ℕ, ◌+◌, ◌-◌, ◌*◌, ◌≤◌, min}
use mathlib.Core.Path.{◌≡◌, refl, ap, subst, ◌∙◌, sym as inv}
use mathlib.Core.Bool.{Bool, true, false, cond}
use mathlib.Core.List.{List}
use mathlib.Core.Logic.{inl, inr}
use native.Mathlib.Omega.{arith}
use lib.Dec.{leb}
use lib.ListN.{length}
use borrow.Author.Tests.{ltb-false, leb-true}
use Rattle.std.specs.Prelude.{Err}
use Rattle.restrictions.specs.declared.failure.Failure.TheVariants.{Over}
use Rattle.expressions.specs.Expression.{Exp, nodes_all}
use Rattle.expressions.specs.Substitution.{Substitution, apply_all}
use Rattle.expressions.specs.Restriction.{Restriction}
use Rattle.expressions.specs.Contraction.{CRPair}
use Rattle.expressions.specs.Intersection.{meeting, nodes_meeting}
use Rattle.expressions.proofs.Unification.{bound}
use Rattle.restrictions.proofs.RestrictionLaws.{Front}
use Rattle.heap.specs.Twins.Contracted.{Stores, contracted_from}
use Rattle.compaction.specs.Twins.Compacting.{Compaction, compacted}
use Rattle.runs.proofs.RunLaws.{Below, below_self}
use Rattle.heap.proofs.HeapLaws.{Range, Filling}
use Rattle.heap.proofs.FrameLaws.{Held, Contracts, Outcome, contract_means}
use Rattle.compaction.proofs.CompactLaws.{Compacted, compact_means}
use Rattle.meetings.specs.Twins.Classes.{Step, output_entry, with_used, with_neqs}
use Rattle.meetings.specs.Twins.Binding.{StepLeft, bound_beside, grown_stores, entries_bound}
use Rattle.meetings.specs.Twins.Unifying.{Roomed, roomed, roomed_by, room_made}
use Rattle.meetings.specs.declared.class.Class.{Class}
use Rattle.std.specs.declared.ops.ControlFlow.TheVariants.{Continue, Break}
use Rattle.meetings.proofs.KeepLaws.{below_then, Keeps, contract_keeps}
use Rattle.meetings.proofs.ClassLaws.{trees, trees_length, trees_nodes, trees_apply, apply_length, over, MeetingHeld, few, all_entries, output_at_lem, class_over}

-- what stands below `floor` is as it was, and the storages keep their lengths
pub record Kept (floor : ℕ) (g h f q : List ℕ) : Type 0 where
  pub same : Below floor h g
  pub of_heap : length h ≡ 65535
  pub of_frame : length f ≡ 12360
  pub of_q : length q ≡ 4096

-- the class has room in the heap for what a binding writes
pub record Roomy (c : Class) (most : ℕ) : Type 0 where
  pub floored : c.floor ≤ c.used
  pub low : c.floor + 16384 ≤ 65535
  pub room : c.used ≤ most

-- a binding made the meeting Q, or that is over
pub record Stepped (Q : CRPair meeting) (floor : ℕ) (g : List ℕ) (w : StepLeft) : Type 0 where
  pub kept : Kept floor g w.heap w.frame w.q
  pub ends : over Q ≡ true → w.step ≡ Break (Err Over)
  pub goes : over Q ≡ false → (c : Class) × (w.step ≡ Continue c) × (c.floor ≡ floor) × MeetingHeld Q w.heap w.frame w.q c × Roomy c 61439

module _ {P : CRPair meeting} {h f q : List ℕ} {c : Class} (m : MeetingHeld P h f q c) (r : Roomy c 57343) {x vfrom vto : ℕ} {v : List ℕ} {s : Substitution} (fill : Filling x v s)
    (value : Range h c.used vfrom vto v) (qs : Restriction) (p : List ℕ) (k : ℕ) (is : k ≡ length qs) (front : Front qs p) (of-p : length p ≡ 4096) where
  abbrev Q : CRPair meeting
  Q = bound s qs P

  abbrev wrote : Stores
  wrote = contracted_from (length (trees P.con)) 0 x vfrom vto c.used h f

  keeps : Keeps c.used h f wrote
  keeps = contract_keeps (length (trees P.con)) 0 x vfrom vto c.used h f

  kept_all : (w : Stores) → Keeps c.used h f w → Kept c.floor h w.heap w.frame p
  kept_all w k = record {
    same = below_then k.same below_self r.floored;
    of_heap = k.size ∙ m.of_heap;
    of_frame = k.entries ∙ m.of_frame;
    of_q = of-p;
  }

  nodes_of : nodes_all (apply_all s (trees P.con)) + 2 * length qs ≡ nodes_meeting Q
  nodes_of = omega (arith, ap nodes_all (trees_apply s P.con), trees_nodes Q.con)

  abbrev after : ℕ → Class
  after now = with_used (with_neqs c k) now

  held_after : (w : Stores) (a : Contracts h f c.used 0 (length (trees P.con)) (apply_all s (trees P.con)) w) → MeetingHeld Q w.heap w.frame p (after a.now)
  held_after w a = record {
    entries = m.entries ∙ ap (λ (n : ℕ). n + 1) (inv (apply_length s P.con.io.ins));
    neqs = is;
    holds = subst (λ (ts : List Exp). Held w.heap a.now w.frame 0 ts) (trees_apply s P.con) a.holds;
    restriction = front;
    of_heap = a.size;
    of_frame = a.entries ∙ m.of_frame;
    of_q = of-p;
  }

  outcome : (w : Stores) → Keeps c.used h f w → Outcome h f c.used 0 (length (trees P.con)) (apply_all s (trees P.con)) w → Stepped Q c.floor h (bound_beside p (grown_stores (with_neqs c k) w))
  outcome w b (inl o) = rw o.0 (record {
    kept = kept_all w b;
    ends = λ e. refl;
    goes = λ e. absurd (omega (arith, o.1, ltb-false 4096 (nodes_meeting Q) e, nodes_of, r.room));
  })
  outcome w b (inr a) = rw (a.done, class_over (held_after w a)) (record { kept = kept_all w b; ends = λ e. rw e; goes = goes })
    where
      goes : over Q ≡ false → (d : Class) × (cond {A = Step} (over Q) (Break (Err Over)) (Continue (after a.now)) ≡ Continue d) × (d.floor ≡ c.floor) × MeetingHeld Q w.heap w.frame p d × Roomy d 61439
      goes e = (
        after a.now,
        rw e,
        refl,
        held_after w a,
        record {
          floored = omega (arith, r.floored, a.grown);
          low = r.low;
          room = omega (arith, a.most, r.room, ltb-false 4096 (nodes_meeting Q) e, nodes_of);
        },
      )

  -- THE LAW of a binding in the entries
  pub entries_stepped : Stepped Q c.floor h (bound_beside p (entries_bound (with_neqs c k) x vfrom vto h f))
  unfolding entries_bound
  entries_stepped =
      let e : min (output_entry c + 1) 4120 - 0 ≡ length (trees P.con) = omega (arith, all_entries m) in
      rw e (outcome wrote keeps
      (contract_means vfrom vto fill (trees P.con) 0 c.used h f m.of_heap (omega (arith, r.room)) (omega (arith, trees_length P.con, few m, m.of_frame)) value m.holds))

-- THE LAW of room: the class is the same, and has room for a binding
pub record RoomHeld (P : CRPair meeting) (floor : ℕ) (g q : List ℕ) (w : Roomed) : Type 0 where
  pub holds : MeetingHeld P w.heap w.frame q w.class
  pub same : Below floor w.heap g
  pub roomy : Roomy w.class 57343
  pub floor_is : w.class.floor ≡ floor

module _ {P : CRPair meeting} {h f q : List ℕ} {c : Class} (m : MeetingHeld P h f q c) (r : Roomy c 61439) (small : over P ≡ false) where
  nodes_few : nodes_all (trees P.con) ≤ 4096
  nodes_few = omega (arith, trees_nodes P.con, ltb-false 4096 (nodes_meeting P) small)

  compact_held : (w : Compaction) → Compacted h f c.floor (output_entry c + 1) (trees P.con) w → RoomHeld P c.floor h q (roomed_by c w)
  compact_held w a = record {
    holds = record {
      entries = m.entries;
      neqs = m.neqs;
      holds = a.holds;
      restriction = m.restriction;
      of_heap = a.size;
      of_frame = a.entries;
      of_q = m.of_q;
    };
    same = a.same;
    roomy = record { floored = a.least; low = r.low; room = omega (arith, a.most, r.low, nodes_few) };
    floor_is = refl;
  }

  pub room_made_lem : RoomHeld P c.floor h q (room_made c h f)
  unfolding room_made
  room_made_lem = pick (leb c.used 57343) refl
    where
      pick : (b : Bool) → leb c.used 57343 ≡ b → RoomHeld P c.floor h q (cond b (roomed c h f) (roomed_by c (compacted (output_entry c + 1) c.floor c.used h f)))
      pick true e = record {
        holds = m;
        same = below_self;
        roomy = record { floored = r.floored; low = r.low; room = leb-true c.used 57343 e };
        floor_is = refl;
      }
      pick false e =
          compact_held (compacted (output_entry c + 1) c.floor c.used h f)
          (compact_means h f c.floor c.used (output_entry c + 1) (trees P.con) m.of_heap m.of_frame (omega (arith, trees_length P.con, few m)) (omega (arith, output_at_lem m, trees_length P.con))
          r.floored (omega (arith, r.room, nodes_few)) m.holds)
