-- A meeting in entries and non-equalities: where its parts stand, and that its cells are over where it is.
use Prim.Native.Nat.{ℕ, suc, ◌+◌, ◌*◌, ◌≤◌, min}
use mathlib.Core.Path.{◌≡◌, refl, ap, ◌∙◌}
use mathlib.Core.Bool.{Bool, true, false}
use mathlib.Core.List.{List, [], ◌∷◌, ◌++◌}
use native.Mathlib.Omega.{arith}
use native.Mathlib.Decide.{dec_le}
use lib.Dec.{ltb}
use lib.ListN.{length, length-append, get_or-eq_default}
use borrow.Author.Tests.{lt-ltb, le-ltb, ltb-true, ltb-false}
use Rattle.expressions.specs.Expression.{Exp, nodes, nodes_all}
use Rattle.expressions.specs.Substitution.{Substitution, apply, apply_all}
use Rattle.expressions.specs.Contraction.{CRPair}
use Rattle.expressions.specs.Class.{IOClass}
use Rattle.expressions.specs.Intersection.{Meeting, meeting, nodes_meeting}
use Rattle.heap.specs.Twins.Entries.{entry_from, entry_to, nodes_from}
use Rattle.meetings.specs.Twins.Classes.{output_entry, wanted_entry, class_nodes}
use Rattle.meetings.specs.declared.class.Class.{Class}
use Rattle.restrictions.proofs.RestrictionLaws.{Front}
use Rattle.heap.proofs.HeapLaws.{Holds, nodes_positive}
use Rattle.heap.proofs.FrameLaws.{Held, more}
use Rattle.heap.proofs.NodeLaws.{holds_nodes, held_nodes}

-- the trees of a meeting in the order of their entries: the inputs, the wanted output, the output
abbrev pub trees : Meeting → List Exp
trees m = m.io.ins ++ (m.io.out ∷ (m.output ∷ []))

pub trees_length : (m : Meeting) → length (trees m) ≡ length m.io.ins + 2
trees_length m = length-append m.io.ins (m.io.out ∷ (m.output ∷ []))

pub nodes_append : (cs ds : List Exp) → nodes_all (cs ++ ds) ≡ nodes_all cs + nodes_all ds
nodes_append [] ds = omega arith
nodes_append (c ∷ cs) ds = omega (arith, nodes_append cs ds)

pub trees_nodes : (m : Meeting) → nodes_all (trees m) ≡ nodes_all m.io.ins + nodes m.io.out + nodes m.output
trees_nodes m = omega (arith, nodes_append m.io.ins (m.io.out ∷ (m.output ∷ [])))

apply_append : (s : Substitution) (cs ds : List Exp) → apply_all s (cs ++ ds) ≡ apply_all s cs ++ apply_all s ds
apply_append s [] ds = refl
apply_append s (c ∷ cs) ds = ap (λ (l : List Exp). apply s c ∷ l) (apply_append s cs ds)

pub trees_apply : (s : Substitution) (m : Meeting) → apply_all s (trees m) ≡ trees (meeting.apply s m)
trees_apply s m = apply_append s m.io.ins (m.io.out ∷ (m.output ∷ []))

pub apply_length : (s : Substitution) (cs : List Exp) → length (apply_all s cs) ≡ length cs
apply_length s [] = refl
apply_length s (c ∷ cs) = ap suc (apply_length s cs)

-- an entry among those that hold
pub held_at : {h : List ℕ} {used : ℕ} {f : List ℕ} (bs : List Exp) (t : Exp) (ts : List Exp) (j : ℕ) {i : ℕ} → j ≡ i + length bs → Held h used f i (bs ++ (t ∷ ts)) → Holds h used (entry_from f j) (entry_to f j) t
held_at {f = f} [] t ts j {i = i} e (more x k r) = let z : j ≡ i = omega arith in rw z x
held_at (b ∷ bs) t ts j e (more x k r) = held_at bs t ts j (omega arith) r

-- entries that hold trees are in the frame, since a tree has a cell
pub held_room : {h : List ℕ} {used : ℕ} {f : List ℕ} (t : Exp) (ts : List Exp) {i : ℕ} → Held h used f i (t ∷ ts) → 3 * (i + suc (length ts)) ≤ length f
held_room {f = f} t [] {i = i} (more x k r) = pick (dec_le (3 * i + 3) (length f))
  where
    pick : Dec (3 * i + 3 ≤ length f) → 3 * (i + 1) ≤ length f
    pick (yes l) = omega arith
    pick (no l) =
        let z : entry_to f i ≡ 0 = get_or-eq_default f 0 {n = 3 * i + 2} (omega arith) in
        absurd (omega (arith, holds_nodes x, nodes_positive t))
held_room t (u ∷ ts) (more x k r) = omega (arith, held_room u ts r)

-- "over 4,096 nodes": the limit of a walk's meetings
abbrev pub over : CRPair meeting → Bool
over P = ltb 4096 (nodes_meeting P)

-- the storages hold the meeting
pub record MeetingHeld (P : CRPair meeting) (h f q : List ℕ) (c : Class) : Type 0 where
  pub entries : c.entries ≡ length P.con.io.ins + 1
  pub neqs : c.neqs ≡ length P.neqs
  pub holds : Held h c.used f 0 (trees P.con)
  pub restriction : Front P.neqs q
  pub of_heap : length h ≡ 65535
  pub of_frame : length f ≡ 12360
  pub of_q : length q ≡ 4096

-- a class, met with its own output
abbrev pub reached : IOClass → CRPair meeting
reached Q = record { con = record { io = Q.con; output = Q.con.out }; neqs = Q.neqs }

module _ {P : CRPair meeting} {h f q : List ℕ} {c : Class} (m : MeetingHeld P h f q c) where
  abbrev count : ℕ
  count = length P.con.io.ins

  pub few : count + 2 ≤ 4120
  few = pick (trees P.con) (trees_length P.con) m.holds
    where
      pick : (ts : List Exp) → length ts ≡ count + 2 → Held h c.used f 0 ts → count + 2 ≤ 4120
      pick [] e x = omega arith
      pick (t ∷ ts) e x = omega (arith, held_room t ts x, m.of_frame)

  pub output_at_lem : output_entry c ≡ count + 1
  output_at_lem = omega (arith, few, m.entries)

  pub wanted_at : wanted_entry c ≡ count
  wanted_at = omega (arith, few, m.entries)

  pub wanted_holds : Holds h c.used (entry_from f count) (entry_to f count) P.con.io.out
  wanted_holds = held_at P.con.io.ins P.con.io.out (P.con.output ∷ []) count (omega arith) m.holds

  pub output_holds : Holds h c.used (entry_from f (count + 1)) (entry_to f (count + 1)) P.con.output
  output_holds = pick P.con.io.ins 0 (count + 1) (omega arith) m.holds
    where
      pick : (bs : List Exp) (i j : ℕ) → j ≡ i + length bs + 1 → Held h c.used f i (bs ++ (P.con.io.out ∷ (P.con.output ∷ []))) →
          Holds h c.used (entry_from f j) (entry_to f j) P.con.output
      pick [] i j e (more x k (more y n r)) = let z : j ≡ i + 1 = omega arith in rw z y
      pick (b ∷ bs) i j e (more x k r) = pick bs (i + 1) j (omega arith) r

  pub all_entries : min (output_entry c + 1) 4120 ≡ length (trees P.con)
  all_entries = omega (arith, few, output_at_lem, trees_length P.con)

  nodes_held : nodes_from (min (output_entry c + 1) 4120) 0 f ≡ nodes_all (trees P.con)
  nodes_held = ap (λ (n : ℕ). nodes_from n 0 f) all_entries ∙ held_nodes m.holds

  pub class_over : ltb 4096 (class_nodes c f) ≡ over P
  class_over = pick (over P) refl
    where
      pick : (t : Bool) → over P ≡ t → ltb 4096 (class_nodes c f) ≡ t
      pick true e = lt-ltb 4096 (class_nodes c f) (omega (arith, ltb-true 4096 (nodes_meeting P) e, nodes_held, trees_nodes P.con, m.neqs))
      pick false e = le-ltb 4096 (class_nodes c f) (omega (arith, ltb-false 4096 (nodes_meeting P) e, nodes_held, trees_nodes P.con, m.neqs))
