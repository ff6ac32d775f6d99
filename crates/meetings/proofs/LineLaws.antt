-- A line stands in the answer storage behind what stood there, and the place behind it is answered.
use Prim.Native.Nat.{ℕ, ◌+◌, ◌*◌, ◌≤◌, ◌<◌, min}
use mathlib.Core.Path.{◌≡◌, refl, ap, ap₂, subst, ◌∙◌, sym as inv}
use mathlib.Core.List.{List, [], ◌∷◌, ◌++◌, append_assoc, append-nil}
use native.Mathlib.Omega.{arith}
use lib.ListN.{length, take, drop, set, length-append, length-drop}
use lib.Seq.{set_at, take_at, drop_at, drop-drop}
use Rattle.expressions.specs.Expression.{Exp, nodes, nodes_all}
use Rattle.expressions.specs.Contraction.{CRPair}
use Rattle.expressions.specs.Class.{IOClass, nodes_class}
use Rattle.expressions.specs.Intersection.{meeting}
use Rattle.sets.specs.Twins.Copying.{CopyAnswer, copied}
use Rattle.sets.specs.Cells.{cells, cells_all, restriction_cells}
use Rattle.sets.proofs.CellLaws.{cells_nodes, cells_all_nodes, restriction_cells_nodes, copied_done}
use Rattle.restrictions.proofs.RestrictionLaws.{front_room}
use Rattle.heap.specs.Twins.Entries.{entry_from, entry_to}
use Rattle.heap.proofs.HeapLaws.{Holds, nodes_positive}
use Rattle.heap.proofs.FrameLaws.{Held, none, more}
use Rattle.heap.proofs.NodeLaws.{holds_nodes, held_nodes}
use Rattle.meetings.specs.Twins.Classes.{place_in, output_entry, wanted_entry}
use Rattle.meetings.specs.ClassCells.{class_cells, line_cells}
use Rattle.meetings.specs.Twins.LineCells.{line_answer, last_place, header_put, entry_put, on_from, entries_put, sides_put, header_of, line_put}
use Rattle.meetings.specs.declared.class.Class.{Class}
use Rattle.meetings.specs.declared.line.Header.{Header}
use Rattle.meetings.proofs.DifferenceLaws.{run_part}
use Rattle.meetings.proofs.ClassLaws.{nodes_append, MeetingHeld, few, output_at_lem, wanted_at, wanted_holds}

-- how many cells a line takes
pub class_length : (P : IOClass) → length (class_cells P) ≡ nodes_class P
class_length P =
    let a = length-append (cells_all P.con.ins) (cells P.con.out ++ restriction_cells P.neqs) in
    let b = length-append (cells P.con.out) (restriction_cells P.neqs) in
    omega (arith, cells_all_nodes P.con.ins, cells_nodes P.con.out, restriction_cells_nodes P.neqs)

-- a store behind p and h
set_behind : (p h : List ℕ) (at k : ℕ) → length p ≡ at → length h ≡ k → (y : ℕ) (r : List ℕ) (a : ℕ) → set (p ++ (h ++ (y ∷ r))) (at + k) a ≡ p ++ (h ++ (a ∷ r))
set_behind p h at k is this y r a =
    let n : length (p ++ h) ≡ at + k = length-append p h ∙ omega arith in
    rw (← (append_assoc p h (y ∷ r))) (set_at (p ++ h) y r a (at + k) n ∙ append_assoc p h (a ∷ r))

abbrev header : ℕ → ℕ → ℕ → ℕ → List ℕ
header steps ins out neqs = steps ∷ (ins ∷ (out ∷ (neqs ∷ [])))

module _ (steps ins out neqs top : ℕ) (p : List ℕ) (is : length p ≡ top) (low : top ≤ last_place) (s : steps ≤ 65535) (i : ins ≤ 65535) (o : out ≤ 65535) (q : neqs ≤ 65535) where
  abbrev hd : Header
  hd = record { steps = steps; ins = ins; out = out; neqs = neqs }

  header_cells_lem : (w x y z : ℕ) (r : List ℕ) → header_put hd top (p ++ (w ∷ (x ∷ (y ∷ (z ∷ r))))) ≡ line_answer (top + 4) (p ++ (steps ∷ (ins ∷ (out ∷ (neqs ∷ r)))))
  unfolding header_put
  header_cells_lem w x y z r =
      let t : min top last_place ≡ top = omega arith in
      let a : min steps 65535 ≡ steps = omega arith in
      let b : min ins 65535 ≡ ins = omega arith in
      let c : min out 65535 ≡ out = omega arith in
      let d : min neqs 65535 ≡ neqs = omega arith in
      rw (
        t,
        a,
        b,
        c,
        d,
        set_at p w (x ∷ (y ∷ (z ∷ r))) steps top is,
        set_behind p (steps ∷ []) top 1 is refl x (y ∷ (z ∷ r)) ins,
        set_behind p (steps ∷ (ins ∷ [])) top 2 is refl y (z ∷ r) out,
        set_behind p (steps ∷ (ins ∷ (out ∷ []))) top 3 is refl z r neqs,
      )

  header_put_lem : (r : List ℕ) → 4 ≤ length r → header_put hd top (p ++ r) ≡ line_answer (top + 4) ((p ++ header steps ins out neqs) ++ drop 4 r)
  header_put_lem [] l = absurd (omega arith)
  header_put_lem (w ∷ []) l = absurd (omega arith)
  header_put_lem (w ∷ (x ∷ [])) l = absurd (omega arith)
  header_put_lem (w ∷ (x ∷ (y ∷ []))) l = absurd (omega arith)
  header_put_lem (w ∷ (x ∷ (y ∷ (z ∷ r)))) l = header_cells_lem w x y z r ∙ ap (line_answer (top + 4)) (inv (append_assoc p (header steps ins out neqs) r))

-- a copy behind p
copied_behind : (src : List ℕ) (from n : ℕ) (p r : List ℕ) (at : ℕ) → length p ≡ at → from + n ≤ length src → n ≤ length r → (copied src from n (p ++ r) at).cells ≡ (p ++ take n (drop from src)) ++ drop n r
copied_behind src from n p r at is in_src in-r =
    let m : at + n ≤ length (p ++ r) = omega (arith, length-append p r) in
    let e : take at (p ++ r) ≡ p = take_at p r at is in
    let f : drop (at + n) (p ++ r) ≡ drop n r = inv (drop-drop n at (p ++ r)) ∙ ap (drop n) (drop_at p r at is) in
    ap (λ (w : CopyAnswer). w.cells) (copied_done src from n (p ++ r) at in_src m) ∙ rw (e, f)

module _ (h f : List ℕ) (used : ℕ) (in_heap_lem : used ≤ length h) where
  entry_put_lem : (i : ℕ) (t : Exp) → Holds h used (entry_from f i) (entry_to f i) t → i < 4120 → (p r : List ℕ) (top : ℕ) → length p ≡ top → top ≤ last_place → nodes t ≤ length r →
      entry_put i h f top (p ++ r) ≡ line_answer (top + nodes t) ((p ++ cells t) ++ drop (nodes t) r)
  unfolding entry_put place_in
  entry_put_lem i t x small p r top is low room =
      let a : min i 4119 ≡ i = omega arith in
      let b : min top last_place ≡ top = omega arith in
      let n = holds_nodes x in
      let c : take (nodes t) (drop (entry_from f i) h) ≡ cells t = ap (λ (k : ℕ). take k (drop (entry_from f i) h)) (inv n) ∙ inv (run_part (entry_from f i) (entry_to f i) h (omega (arith, x.below))) ∙ x.is in
      let e = copied_behind h (entry_from f i) (nodes t) p r top is (omega (arith, x.below, nodes_positive t)) room in
      rw (a, b, n) (ap (line_answer (top + nodes t)) (e ∙ rw c))

  -- the entries of ts, and what else is held behind them
  entries_put_lem : (ts us : List Exp) (i : ℕ) → Held h used f i (ts ++ us) → i + length ts ≤ 4120 → (p r : List ℕ) (top : ℕ) → length p ≡ top → top + nodes_all ts ≤ last_place → nodes_all ts ≤ length r →
      entries_put (length ts) i h f top (p ++ r) ≡ line_answer (top + nodes_all ts) ((p ++ cells_all ts) ++ drop (nodes_all ts) r)
  unfolding entries_put
  entries_put_lem [] us i x small p r top is low room = let e : top + 0 ≡ top = omega arith in rw (e, append-nil p)
  entries_put_lem (t ∷ ts) us i (more x k y) small p r top is low room =
      let one = entry_put_lem i t x (omega arith) p r top is (omega arith) (omega arith) in
      let again = entries_put_lem ts us (i + 1) y (omega arith) (p ++ cells t) (drop (nodes t) r) (top + nodes t) (length-append p (cells t) ∙ omega (arith, cells_nodes t)) (omega arith) (omega (arith, length-drop (nodes t) r)) in
      let n : top + nodes t + nodes_all ts ≡ top + (nodes t + nodes_all ts) = omega arith in
      ap (on_from (entries_put (length ts) (i + 1) h f)) one ∙ again ∙ rw (n, drop-drop (nodes_all ts) (nodes t) r, append_assoc p (cells t) (cells_all ts))

cells_append : (cs ds : List Exp) → cells_all (cs ++ ds) ≡ cells_all cs ++ cells_all ds
cells_append [] ds = refl
cells_append (c ∷ cs) ds = ap (λ (l : List ℕ). cells c ++ l) (cells_append cs ds) ∙ inv (append_assoc (cells c) (cells_all cs) (cells_all ds))

held_prefix : {h : List ℕ} {used : ℕ} {f : List ℕ} (cs ds : List Exp) {i : ℕ} → Held h used f i (cs ++ ds) → Held h used f i cs
held_prefix [] ds x = none
held_prefix (c ∷ cs) ds (more x k y) = more x k (held_prefix cs ds y)

-- THE LAW of a line: behind p stands the line of the class, and behind it what stood there
module _ {P : CRPair meeting} {h f q : List ℕ} {c : Class} (m : MeetingHeld P h f q c) (in_heap_lem : c.used ≤ 65535) (steps : ℕ) (within : steps ≤ 65535) where
  abbrev Q : IOClass
  Q = record { con = P.con.io; neqs = P.neqs }

  abbrev ins : List Exp
  ins = P.con.io.ins

  abbrev out : Exp
  out = P.con.io.out

  abbrev pairs : List Exp
  pairs = ins ++ (out ∷ [])

  module _ (small : nodes_class Q ≤ 65535) (p r : List ℕ) (top : ℕ) (is : length p ≡ top) (low : top + (4 + nodes_class Q) ≤ last_place) (room : 4 + nodes_class Q ≤ length r) where
    abbrev hdr : List ℕ
    hdr = header steps (nodes_all ins) (nodes out) (length P.neqs)

    wanted_entry_lem : min (wanted_entry c) 4119 ≡ length ins
    wanted_entry_lem = omega (arith, wanted_at m, few m)

    header_of_lem : header_of c steps f ≡ record { steps = steps; ins = nodes_all ins; out = nodes out; neqs = length P.neqs }
    header_of_lem =
        let a : min (wanted_entry c) 4120 ≡ length ins = omega (arith, wanted_at m, few m) in
        rw (a, wanted_entry_lem, holds_nodes (wanted_holds m), held_nodes (held_prefix ins (out ∷ (P.con.output ∷ [])) m.holds), m.neqs)

    first : header_put (header_of c steps f) top (p ++ r) ≡ line_answer (top + 4) ((p ++ hdr) ++ drop 4 r)
    first =
        ap (λ (x : Header). header_put x top (p ++ r)) header_of_lem
        ∙ header_put_lem steps (nodes_all ins) (nodes out) (length P.neqs) top p is (omega arith) within (omega arith) (omega arith) (omega arith) r (omega arith)

    pairs_nodes : nodes_all pairs ≡ nodes_all ins + nodes out
    pairs_nodes = omega (arith, nodes_append ins (out ∷ []))

    pairs_cells : cells_all pairs ≡ cells_all ins ++ cells out
    pairs_cells = cells_append ins (out ∷ []) ∙ ap (λ (l : List ℕ). cells_all ins ++ l) (append-nil (cells out))

    second : entries_put (output_entry c) 0 h f (top + 4) ((p ++ hdr) ++ drop 4 r) ≡ line_answer (top + 4 + nodes_all pairs) (((p ++ hdr) ++ cells_all pairs) ++ drop (nodes_all pairs) (drop 4 r))
    second =
        let n : output_entry c ≡ length pairs = output_at_lem m ∙ inv (length-append ins (out ∷ [])) in
        let x : Held h c.used f 0 (pairs ++ (P.con.output ∷ [])) = subst (λ (ts : List Exp). Held h c.used f 0 ts) (inv (append_assoc ins (out ∷ []) (P.con.output ∷ []))) m.holds in
        let l : length (p ++ hdr) ≡ top + 4 = length-append p hdr ∙ omega arith in
        rw n (entries_put_lem h f c.used (omega (arith, m.of_heap)) pairs (P.con.output ∷ []) 0 x (omega (arith, few m, length-append ins (out ∷ []))) (p ++ hdr) (drop 4 r) (top + 4) l
        (omega (arith, pairs_nodes)) (omega (arith, pairs_nodes, length-drop 4 r)))

    third : (a : List ℕ) (k : ℕ) (rest : List ℕ) → length a ≡ k → k ≤ last_place → 2 * length P.neqs ≤ length rest →
        sides_put c.neqs q k (a ++ rest) ≡ line_answer (k + 2 * length P.neqs) ((a ++ restriction_cells P.neqs) ++ drop (2 * length P.neqs) rest)
    third a k rest e l g =
        let n : min c.neqs 2048 ≡ length P.neqs = omega (arith, m.neqs, front_room P.neqs q m.restriction, m.of_q) in
        let b : min k last_place ≡ k = omega arith in
        rw (n, b) (ap (line_answer (k + 2 * length P.neqs)) (copied_behind q 0 (2 * length P.neqs) a rest k e (omega (arith, front_room P.neqs q m.restriction)) g ∙ rw m.restriction))

    line_size : length (line_cells steps Q) ≡ 4 + nodes_class Q
    line_size = omega (arith, class_length Q)

    pub line_means : line_put c steps h f q top (p ++ r) ≡ line_answer (top + length (line_cells steps Q)) (p ++ (line_cells steps Q ++ drop (length (line_cells steps Q)) r))
    unfolding line_put
    line_means =
        let A = (p ++ hdr) ++ cells_all pairs in
        let R = drop (nodes_all pairs) (drop 4 r) in
        let k = top + 4 + nodes_all pairs in
        let N = 2 * length P.neqs in
        let l : length A ≡ k = omega (arith, length-append (p ++ hdr) (cells_all pairs), length-append p hdr, cells_all_nodes pairs) in
        let d : drop N R ≡ drop (4 + nodes_all pairs + N) r = ap (drop N) (drop-drop (nodes_all pairs) 4 r) ∙ drop-drop N (4 + nodes_all pairs) r in
        let z : 4 + nodes_all pairs + N ≡ length (line_cells steps Q) = omega (arith, line_size, pairs_nodes) in
        let t : k + N ≡ top + length (line_cells steps Q) = omega (arith, line_size, pairs_nodes) in
        let s = third A k R l (omega (arith, pairs_nodes)) (omega (arith, pairs_nodes, length-drop (nodes_all pairs) (drop 4 r), length-drop 4 r)) in
        ap (on_from (sides_put c.neqs q)) (ap (on_from (entries_put (output_entry c) 0 h f)) first ∙ second) ∙ s
        ∙ ap₂ line_answer t (rw (d, z, pairs_cells) (simp append_assoc))
