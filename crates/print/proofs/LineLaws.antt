-- Where the cells hold lines, their text is what `print_lines` prints, and that of a listing what `print_listing` prints.
use Prim.Native.Nat.{ℕ, suc, ◌+◌, ◌-◌, ◌*◌}
use mathlib.Core.Path.{◌≡◌, refl, ap, ap₂, ◌∙◌, sym as inv}
use mathlib.Core.Bool.{Bool, false}
use mathlib.Core.List.{List, [], ◌∷◌, ◌++◌, append_assoc, append-nil}
use native.Mathlib.Omega.{arith}
use lib.ListN.{length, get_or, take, drop, length-append}
use lib.Seq.{take_at, drop_at, drop-drop}
use Rattle.expressions.specs.Expression.{nodes, nodes_all}
use Rattle.expressions.specs.Restriction.{Restriction}
use Rattle.expressions.specs.Class.{IOClass}
use Rattle.language.specs.Words.{Word}
use Rattle.semantics.specs.Lists.{All}
use Rattle.semantics.specs.Demand2.{InstanceOf}
use Rattle.semantics.specs.Tree.{Line}
use Rattle.semantics.specs.Walk.{Walked, word_of, lines_of, count_of}
use Rattle.listing.specs.Print.{digits, print_restriction, print_line, print_lines, print_word, print_first, print_listing}
use Rattle.sets.specs.Twins.Copying.{part}
use Rattle.sets.specs.Cells.{cells, cells_all, restriction_cells}
use Rattle.sets.proofs.CellLaws.{cells_nodes, cells_all_nodes}
use Rattle.answers.specs.declared.list.Word.{Word as FirstWord}
use Rattle.lines.specs.LineCells.{line_cells, lines_cells}
use Rattle.writer.specs.Twins.LineCells.{class_end, line_end}
use Rattle.writer.specs.Twins.SampleText.{sample_if}
use Rattle.writer.specs.Twins.LineText.{bindings_text, non_equality_text, restriction_text, line_text, lines_text}
use Rattle.print.specs.Twins.ListingText.{walk_word, first_text, listing_text}
use Rattle.print.proofs.TreeLaws.{leaf_atomic}
use Rattle.print.proofs.BindingLaws.{pair_cells, instance_fits, bindings_printed}

pub restriction_cells_lem : (qs : Restriction) → length (restriction_cells qs) ≡ 2 * length qs
restriction_cells_lem [] = refl
restriction_cells_lem (q ∷ qs) = omega (arith, restriction_cells_lem qs)

-- the parts of a line, and what is behind it
module _ (s a b q : ℕ) (X Q rest : List ℕ) (size : length X ≡ a + b) (sides : length Q ≡ 2 * q) where
  abbrev line : List ℕ
  line = s ∷ a ∷ b ∷ q ∷ (X ++ Q) ++ rest

  behind_head : (n : ℕ) → drop (4 + n) line ≡ drop n (X ++ (Q ++ rest))
  behind_head n = inv (drop-drop n 4 line) ∙ ap (drop n) (append_assoc X Q rest)

  line_class : part 4 (class_end line) line ≡ X
  line_class = take_front (class_end line - 4) (omega arith)
    where
      take_front : (n : ℕ) → length X ≡ n → take n ((X ++ Q) ++ rest) ≡ X
      take_front n e = ap (take n) (append_assoc X Q rest) ∙ take_at X (Q ++ rest) n e

  line_sides : part (class_end line) (line_end line) line ≡ Q
  line_sides =
      let n : class_end line ≡ 4 + length X = omega arith in
      let m : length Q ≡ line_end line - class_end line = omega arith in
      ap (take (line_end line - class_end line)) (ap (λ (k : ℕ). drop k line) n ∙ behind_head (length X) ∙ drop_at X (Q ++ rest) (length X) refl) ∙ take_at Q rest (line_end line - class_end line) m

  line_behind : drop (line_end line) line ≡ rest
  line_behind =
      let n : line_end line ≡ 4 + (length X + length Q) = omega arith in
      ap (λ (k : ℕ). drop k line) n ∙ behind_head (length X + length Q)
      ∙ ap (drop (length X + length Q)) (inv (append_assoc X Q rest)) ∙ drop_at (X ++ Q) rest (length X + length Q) (length-append X Q)

-- the sizes in the head of a line are those of its parts
pub pair_size : (L : Line) → length (pair_cells L.class.con) ≡ nodes_all L.class.con.ins + nodes L.class.con.out
pair_size L =
    let p = L.class.con in
    length-append (cells_all p.ins) (cells p.out) ∙ ap₂ (λ (x y : ℕ). x + y) (cells_all_nodes p.ins) (cells_nodes p.out)

abbrev pub line_of : Line → List ℕ → List ℕ
line_of L rest = let P = L.class in line L.steps (nodes_all P.con.ins) (nodes P.con.out) (length P.neqs) (pair_cells P.con) (restriction_cells P.neqs) rest (pair_size L) (restriction_cells_lem P.neqs)

line_form : (L : Line) (rest : List ℕ) → line_cells L ++ rest ≡ line_of L rest
line_form L rest =
    let P = L.class in
    ap (λ (x : List ℕ). L.steps ∷ nodes_all P.con.ins ∷ nodes P.con.out ∷ length P.neqs ∷ (x ++ rest)) (inv (append_assoc (cells_all P.con.ins) (cells P.con.out) (restriction_cells P.neqs)))

module _ (ns : List Word) (name : ℕ → List ℕ) (named : (z : ℕ) → name z ≡ 39 ∷ get_or ns z []) where
  pub restriction_printed : (qs : Restriction) → restriction_text name (restriction_cells qs) ≡ print_restriction ns qs
  unfolding restriction_text non_equality_text
  restriction_printed [] = refl
  restriction_printed (q ∷ qs) =
      ap₂ (λ (a b : List ℕ). a ++ b)
      (ap₂ (λ (a b : List ℕ). (32 ∷ 35 ∷ 32 ∷ a) ++ (32 ∷ b)) (leaf_atomic ns name named q.left) (leaf_atomic ns name named q.right))
      (restriction_printed qs)

  module _ (j : IOClass) where
    abbrev vars : List ℕ
    vars = pair_cells j.con

    pub line_printed : (i : ℕ) (L : Line) (rest : List ℕ) → InstanceOf j L.class → line_text name vars i (line_of L rest) ≡ print_line ns j.con i L
    unfolding line_text
    line_printed i L rest is =
        let f = instance_fits j L.class is in
        let X = pair_cells L.class.con in
        let Q = restriction_cells L.class.neqs in
        let a = nodes_all L.class.con.ins in
        let b = nodes L.class.con.out in
        let c = line_class L.steps a b (length L.class.neqs) X Q rest (pair_size L) (restriction_cells_lem L.class.neqs) in
        let d = line_sides L.steps a b (length L.class.neqs) X Q rest (pair_size L) (restriction_cells_lem L.class.neqs) in
        ap₂ (λ (x y : List ℕ). (digits i ++ (32 ∷ digits L.steps)) ++ x ++ y ++ (10 ∷ []))
        (ap (bindings_text name vars) c ∙ bindings_printed ns name named j.con L.class.con f.0 f.1)
        (ap (restriction_text name) d ∙ restriction_printed L.class.neqs)

    -- Lines that are printed each as `each` says, with samples or without: `all` puts them one behind the other.
    module _ (samples : Bool) (Q : Line → Type 0) (each : ℕ → Line → List ℕ) (all : ℕ → List Line → List ℕ)
        (none : (k : ℕ) → all k [] ≡ []) (more : (k : ℕ) (L : Line) (Ls : List Line) → all k (L ∷ Ls) ≡ each k L ++ all (suc k) Ls)
        (one : (i : ℕ) (L : Line) (rest : List ℕ) → Q L → line_text name vars i (line_of L rest) ++ sample_if name samples (line_of L rest) ≡ each i L) where
      lines_each : (Ls : List Line) (i k : ℕ) (rest : List ℕ) → k ≡ i + 1 → All Q Ls → lines_text name vars samples (length Ls) i (lines_cells Ls ++ rest) ≡ all k Ls
      unfolding lines_text
      lines_each [] i k rest e is = inv (none k)
      lines_each (L ∷ Ls) i k rest e is =
          let n : suc k ≡ (i + 1) + 1 = omega arith in
          let l : (line_cells L ++ lines_cells Ls) ++ rest ≡ line_of L (lines_cells Ls ++ rest) = append_assoc (line_cells L) (lines_cells Ls) rest ∙ line_form L (lines_cells Ls ++ rest) in
          let behind = line_behind L.steps (nodes_all L.class.con.ins) (nodes L.class.con.out) (length L.class.neqs) (pair_cells L.class.con) (restriction_cells L.class.neqs)
          (lines_cells Ls ++ rest) (pair_size L) (restriction_cells_lem L.class.neqs) in
          ap (λ (x : List ℕ). (line_text name vars (i + 1) x ++ sample_if name samples x) ++ lines_text name vars samples (length Ls) (i + 1) (drop (line_end x) x)) l
          ∙ ap₂ (λ (x y : List ℕ). x ++ y)
          (one (i + 1) L (lines_cells Ls ++ rest) is.0 ∙ ap (λ (m : ℕ). each m L) (inv e))
          (ap (lines_text name vars samples (length Ls) (i + 1)) behind ∙ lines_each Ls (i + 1) (suc k) rest n is.1)
          ∙ inv (more k L Ls)

      -- what the entry prints of a walk's answer
      pub listing_each : (w : Walked) (word : FirstWord) (rest : List ℕ) → walk_word word ≡ word_of w → All Q (lines_of w) →
          listing_text name vars samples word (length (lines_of w)) (count_of w) (lines_cells (lines_of w) ++ rest) ≡ print_first w (all 1 (lines_of w))
      unfolding listing_text first_text
      listing_each w word rest e is =
          let P = print_word (word_of w) in
          let D = digits (length (lines_of w)) in
          let C = digits (count_of w) in
          let head : (P ++ (32 ∷ [])) ++ (D ++ (32 ∷ C)) ≡ P ++ (32 ∷ D) ++ (32 ∷ C) = append_assoc P (32 ∷ []) (D ++ (32 ∷ C)) ∙ inv (append_assoc P (32 ∷ D) (32 ∷ C)) in
          ap₂ (λ (x y : List ℕ). x ++ y)
          (ap (λ (x : List ℕ). x ++ (10 ∷ [])) (ap (λ v. (print_word v ++ (32 ∷ [])) ++ (D ++ (32 ∷ C))) e ∙ head))
          (lines_each (lines_of w) 0 1 rest refl is)

    pub listing_printed : (w : Walked) (word : FirstWord) (rest : List ℕ) → walk_word word ≡ word_of w → All (λ L. InstanceOf j L.class) (lines_of w) →
        listing_text name vars false word (length (lines_of w)) (count_of w) (lines_cells (lines_of w) ++ rest) ≡ print_listing ns j.con w
    unfolding print_listing
    listing_printed =
        listing_each false (λ (L : Line). InstanceOf j L.class) (print_line ns j.con) (print_lines ns j.con) (λ k. refl) (λ k L Ls. refl)
        (λ i L rest is. append-nil (line_text name vars i (line_of L rest)) ∙ line_printed i L rest is)
