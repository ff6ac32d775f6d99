-- The lines that stand in the answer storage are read back from it.
use Prim.Native.Nat.{ℕ, zero, suc, ◌+◌, ◌*◌, ◌/◌, ◌%◌, ◌≤◌}
use mathlib.Core.Path.{◌≡◌, refl, ap, ap₂, ◌∙◌, sym as inv}
use mathlib.Core.List.{List, [], ◌∷◌, ◌++◌, append_assoc, append-nil}
use native.Mathlib.Omega.{arith}
use lib.ListN.{length, take, drop, length-append}
use lib.Seq.{take_at, drop_at}
use borrow.Author.Tests.{ne_eqb}
use Rattle.expressions.specs.Expression.{AtomicExp, sym, avar, Exp, atm, evar, pair, nodes, nodes_all}
use Rattle.expressions.specs.Restriction.{Restriction}
use Rattle.expressions.specs.Class.{IOClass}
use Rattle.sets.specs.Cells.{evar_code, atomic_code, cells, cells_all, restriction_cells}
use Rattle.sets.proofs.CellLaws.{atomic_not_pair, cells_nodes, cells_all_nodes, restriction_cells_nodes}
use Rattle.semantics.specs.Tree.{Line}
use Rattle.meetings.specs.ClassCells.{class_cells}
use Rattle.meetings.proofs.LineLaws.{class_length}
use Rattle.lines.specs.LineCells.{line_cells, lines_cells}
use Rattle.lines.specs.LineReading.{atomic_at, TreeRead, tree_read, read_tree, read_trees, read_neqs, read_class, read_line, past_line, read_lines}
use Rattle.lines.specs.declared.line.Lines.{Lines}
use Rattle.heap.proofs.HeapLaws.{nodes_positive}
use Rattle.lines.proofs.LineLaws.{zeros, LinesHeld}

atomic_read : (x : AtomicExp) → atomic_at (atomic_code x) ≡ x
atomic_read (sym z) = let t : (4 * z + 1) % 4 ≡ 1 = omega arith in let d : (4 * z + 1) / 4 ≡ z = omega arith in rw (t, d)
atomic_read (avar z) = let t : (4 * z + 3) % 4 ≡ 3 = omega arith in let d : (4 * z + 3) / 4 ≡ z = omega arith in rw (t, d)

atomic_tag : (x : AtomicExp) → atomic_code x % 4 ≡ 2 → ⊥
atomic_tag (sym z) e = omega arith
atomic_tag (avar z) e = omega arith

pub tree_read_lem : (n : ℕ) (c : Exp) (r : List ℕ) → nodes c ≤ n → read_tree n (cells c ++ r) ≡ tree_read c r
tree_read_lem zero c r l = absurd (omega (arith, nodes_positive c))
tree_read_lem (suc n) (atm x) r l = rw (ne_eqb (atomic_code x) 4 (atomic_not_pair x), ne_eqb (atomic_code x % 4) 2 (atomic_tag x), atomic_read x)
tree_read_lem (suc n) (evar m) r l =
    let t : (4 * m + 2) % 4 ≡ 2 = omega arith in
    let d : (4 * m + 2) / 4 ≡ m = omega arith in
    rw (ne_eqb (evar_code m) 4 (omega arith), t, d)
tree_read_lem (suc n) (pair c d) r l =
    rw (append_assoc (cells c) (cells d) r, tree_read_lem n c (cells d ++ r) (omega arith), tree_read_lem n d r (omega arith))

trees_read : (n : ℕ) (cs : List Exp) → nodes_all cs ≤ n → read_trees n (cells_all cs) ≡ cs
trees_read zero [] l = refl
trees_read zero (c ∷ cs) l = absurd (omega (arith, nodes_positive c))
trees_read (suc n) [] l = refl
trees_read (suc n) (c ∷ cs) l = first (cells c ++ cells_all cs) refl (trees_read n cs (omega (arith, nodes_positive c)))
  where
    first : (s : List ℕ) → s ≡ cells c ++ cells_all cs → read_trees n (cells_all cs) ≡ cs → read_trees (suc n) s ≡ c ∷ cs
    first [] e again = absurd (omega (arith, ap length e, length-append (cells c) (cells_all cs), cells_nodes c, nodes_positive c))
    first (x ∷ s) e again =
        let m : nodes c ≤ suc (length s) = omega (arith, ap length e, length-append (cells c) (cells_all cs), cells_nodes c) in
        let t : read_tree (suc (length s)) (x ∷ s) ≡ tree_read c (cells_all cs) = ap (read_tree (suc (length s))) e ∙ tree_read_lem (suc (length s)) c (cells_all cs) m in
        ap₂ {C = List Exp} (λ (d : Exp) (l : List Exp). d ∷ l) (ap (λ (w : TreeRead). w.tree) t) (ap (λ (w : TreeRead). read_trees n w.rest) t ∙ again)

neqs_read : (qs : Restriction) → read_neqs (restriction_cells qs) ≡ qs
neqs_read [] = refl
neqs_read (q ∷ qs) = rw (atomic_read q.left, atomic_read q.right, neqs_read qs)

class_read : (P : IOClass) (r : List ℕ) → read_class (nodes_all P.con.ins) (nodes P.con.out) (length P.neqs) (class_cells P ++ r) ≡ P
class_read P r =
    let i = nodes_all P.con.ins in
    let o = nodes P.con.out in
    let A = cells_all P.con.ins in
    let B = cells P.con.out in
    let C = restriction_cells P.neqs in
    let s : class_cells P ++ r ≡ A ++ (B ++ (C ++ r)) = simp append_assoc in
    let d : drop i (A ++ (B ++ (C ++ r))) ≡ B ++ (C ++ r) = drop_at A (B ++ (C ++ r)) i (cells_all_nodes P.con.ins) in
    let n : length (A ++ B) ≡ i + o = omega (arith, length-append A B, cells_all_nodes P.con.ins, cells_nodes P.con.out) in
    let b : drop (i + o) (A ++ (B ++ (C ++ r))) ≡ C ++ r = rw (← (append_assoc A B (C ++ r))) (drop_at (A ++ B) (C ++ r) (i + o) n) in
    let ta : take i (A ++ (B ++ (C ++ r))) ≡ A = take_at A (B ++ (C ++ r)) i (cells_all_nodes P.con.ins) in
    let tb : take o (B ++ (C ++ r)) ≡ B = take_at B (C ++ r) o (cells_nodes P.con.out) in
    let tc : take (2 * length P.neqs) (C ++ r) ≡ C = take_at C r (2 * length P.neqs) (restriction_cells_nodes P.neqs) in
    let t : read_tree o B ≡ tree_read P.con.out [] = ap (read_tree o) (inv (append-nil B)) ∙ tree_read_lem o P.con.out [] (omega arith) in
    rw (s, d, b, ta, tb, tc, t, trees_read i P.con.ins (omega arith), neqs_read P.neqs)

line_read : (l : Line) (r : List ℕ) → read_line (line_cells l ++ r) ≡ l
line_read l r = ap (λ (P : IOClass). record { steps = l.steps; class = P }) (class_read l.class r)

-- Decoding gives back what was encoded.
pub lines_read : (ls : List Line) (r : List ℕ) → read_lines (length ls) (lines_cells ls ++ r) ≡ ls
lines_read [] r = refl
lines_read (l ∷ ls) r =
    let s : (line_cells l ++ lines_cells ls) ++ r ≡ line_cells l ++ (lines_cells ls ++ r) = append_assoc (line_cells l) (lines_cells ls) r in
    let d : drop (past_line (line_cells l ++ (lines_cells ls ++ r))) (line_cells l ++ (lines_cells ls ++ r)) ≡ lines_cells ls ++ r =
    drop_at (line_cells l) (lines_cells ls ++ r) (past_line (line_cells l ++ (lines_cells ls ++ r))) (omega (arith, class_length l.class)) in
    rw (s, line_read l (lines_cells ls ++ r), d, lines_read ls r)

-- .. so that the answer storage says the lines
pub held_read : {ls : List Line} {n : ℕ} {a : List ℕ} {l : Lines} → LinesHeld ls n a l → read_lines l.count a ≡ ls
held_read {ls} {n} {a} {l} h = rw (h.count, h.stored) (lines_read ls (zeros h.spare))
