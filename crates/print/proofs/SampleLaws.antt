-- Where the cells hold a line, the text of its sample is what `print_line_sample` prints.
use Prim.Native.Nat.{ℕ, ◌+◌, ◌-◌, ◌≤◌, ◌<◌}
use mathlib.Core.Path.{◌≡◌, refl, ap, ap₂, ◌∙◌, sym as inv}
use mathlib.Core.Bool.{true}
use mathlib.Core.List.{List, [], ◌∷◌, ◌++◌, append_assoc, map}
use native.Mathlib.Omega.{arith}
use lib.ListN.{length, get_or, drop, length-drop}
use lib.Seq.{take_at, drop_at}
use Rattle.expressions.specs.Expression.{Value, nodes, nodes_all}
use Rattle.expressions.specs.Class.{IOClass}
use Rattle.expressions.proofs.Predicates.{All as Each}
use Rattle.expressions.proofs.Numbers.{ExpNumbers, ClassNumbers}
use Rattle.language.specs.Bytes.{txt}
use Rattle.language.specs.Words.{Word}
use Rattle.language.proofs.TokenNumbers.{SymbolNumber}
use Rattle.semantics.specs.Lists.{All}
use Rattle.semantics.specs.Embedding.{embed}
use Rattle.semantics.specs.Demand2.{InstanceOf}
use Rattle.semantics.specs.Tree.{Line}
use Rattle.semantics.specs.Walk.{Walked, word_of, lines_of, count_of}
use Rattle.semantics.proofs.SymbolNumbers.{AnyNumber}
use Rattle.listing.specs.Bindings.{variables}
use Rattle.listing.specs.Print.{print_value, print_inputs, print_line}
use Rattle.listing.specs.Sample.{sample, sample_names, line_names, print_line_sample, print_sampled_lines, print_sampled_listing}
use Rattle.listing.proofs.LineSizes.{Small}
use Rattle.sets.specs.Twins.Copying.{tree_end}
use Rattle.sets.specs.Cells.{cells, cells_all, restriction_cells}
use Rattle.sets.proofs.CellLaws.{Stands, stands_behind, stands_part}
use Rattle.answers.specs.declared.list.Word.{Word as FirstWord}
use Rattle.lines.specs.LineCells.{lines_cells}
use Rattle.samples.proofs.FillMeaning.{sample_ins_nodes, variables_few, sample_atoms}
use Rattle.samples.proofs.NameLaws.{name_old}
use Rattle.window.specs.Twins.TreeText.{tree_text}
use Rattle.writer.specs.Twins.SampleText.{filled_cells, inputs_from, inputs_text, sample_text, sample_if}
use Rattle.writer.specs.Twins.LineText.{line_text}
use Rattle.writer.proofs.FilledLaws.{sample_of, filled_cells_lem}
use Rattle.writer.proofs.TextTurns.{inputs_start, inputs_step, inputs_end}
use Rattle.print.specs.Twins.ListingText.{walk_word, listing_text}
use Rattle.print.proofs.TreeLaws.{stands_below, tree_printed}
use Rattle.print.proofs.BindingLaws.{pair_cells}
use Rattle.print.proofs.LineLaws.{line_of, line_printed, listing_each}
use Rattle.print.proofs.OutcomeLaws.{print_embed}
use Rattle.print.proofs.AlikeLaws.{class_follows, Alike, print_alike, line_alike}

-- the cells of a line's sample
sample_cells_lem : (L : Line) (rest : List ℕ) → Small L → filled_cells (line_of L rest) ≡ sample_of L.class.con
sample_cells_lem L rest small =
    let c = L.class.con in
    let Q = restriction_cells L.class.neqs in
    ap (λ (x : List ℕ). filled_cells (L.steps ∷ nodes_all c.ins ∷ nodes c.out ∷ length L.class.neqs ∷ x)) (append_assoc (pair_cells c) Q rest ∙ append_assoc (cells_all c.ins) (cells c.out) (Q ++ rest))
    ∙ filled_cells_lem L.steps (length L.class.neqs) c (Q ++ rest) (omega arith)

-- ns are names by which every symbol is printed, ms those of the definition, which agree on the sample's atoms
module _ (ns : List Word) (name : ℕ → List ℕ) (named : (z : ℕ) → name z ≡ 39 ∷ get_or ns z []) where
  module _ (ms : List Word) where
    value_printed : (v : Value) → ExpNumbers (Alike ns ms AnyNumber) AnyNumber (embed v) → tree_text name (cells (embed v)) ≡ print_value ms v
    value_printed v h = tree_printed ns name named (embed v) ∙ print_alike ns ms AnyNumber (embed v) h ∙ print_embed ms v

    inputs_from_lem : (s : List ℕ) (vs : List Value) (at : ℕ) → drop at s ≡ cells_all (map embed vs) → Each (ExpNumbers (Alike ns ms AnyNumber) AnyNumber) (map embed vs) →
        inputs_from name s (length s - at) at ≡ print_inputs ms vs
    inputs_from_lem s [] at e h = inputs_end name s at (omega (arith, length-drop at s, ap length e))
    inputs_from_lem s (v ∷ vs) at e h =
        let t : Stands s at (embed v) (cells_all (map embed vs)) = record { here = e } in
        inputs_step name s at (tree_end s at) refl (stands_below t)
        ∙ ap₂ (λ (x y : List ℕ). ((32 ∷ []) ++ x) ++ y) (ap (tree_text name) (stands_part t) ∙ value_printed v h.0) (inputs_from_lem s vs (tree_end s at) (stands_behind t) h.1)

    inputs_printed : (vs : List Value) → Each (ExpNumbers (Alike ns ms AnyNumber) AnyNumber) (map embed vs) → inputs_text name (cells_all (map embed vs)) ≡ print_inputs ms vs
    inputs_printed vs h = inputs_start name (cells_all (map embed vs)) ∙ inputs_from_lem (cells_all (map embed vs)) vs 0 refl h

    pair_printed : (a b : List ℕ) (vs : List Value) (v : Value) (n : ℕ) → a ≡ cells_all (map embed vs) → b ≡ cells (embed v) → length a ≡ n →
        Each (ExpNumbers (Alike ns ms AnyNumber) AnyNumber) (map embed vs) → ExpNumbers (Alike ns ms AnyNumber) AnyNumber (embed v) →
        sample_text name (a ++ b) n ≡ txt "(in" ++ print_inputs ms vs ++ txt ") (out " ++ print_value ms v ++ txt ")\n"
    unfolding sample_text
    pair_printed a b vs v n e f l h k =
        ap₂ (λ (x y : List ℕ). txt "(in" ++ x ++ txt ") (out " ++ y ++ txt ")\n")
        (ap (inputs_text name) (take_at a b n l ∙ e) ∙ inputs_printed vs h)
        (ap (tree_text name) (drop_at a b n l ∙ f) ∙ value_printed v k)

  -- os are the names of the texts' symbols
  module _ (os : List Word) (old : (z : ℕ) → z < 1024 → get_or ns z [] ≡ get_or os z [])
      (new : (m k : ℕ) → m ≤ 4096 → k < m → get_or ns (1024 + k) [] ≡ get_or (sample_names os m) (1024 + k) []) where
    abbrev pub Plain : Line → Type 0
    Plain L = Small L × ClassNumbers SymbolNumber AnyNumber L.class

    sample_printed : (L : Line) (rest : List ℕ) → Plain L → sample_if name true (line_of L rest) ≡ print_line_sample os L
    sample_printed L rest h =
        let c = L.class.con in
        let ms = line_names os c in
        let m : length (variables c) ≤ 4096 = omega (arith, h.0, variables_few c) in
        let q = class_follows SymbolNumber (Alike ns ms AnyNumber) AnyNumber (λ z k. old z k ∙ inv (name_old os (length (variables c)) z k)) L.class h.1 in
        let w = sample_atoms c (Alike ns ms AnyNumber) AnyNumber AnyNumber (λ k l. new (length (variables c)) k m l) q.0 q.1 in
        ap (λ (x : List ℕ). sample_text name x (nodes_all c.ins)) (sample_cells_lem L rest h.0)
        ∙ pair_printed ms (cells_all (map embed (sample c).ins)) (cells (embed (sample c).out)) (sample c).ins (sample c).out (nodes_all c.ins) refl refl (sample_ins_nodes c) w.0 w.1

    module _ (j : IOClass) where
      abbrev Listed : Line → Type 0
      Listed L = InstanceOf j L.class × Plain L

      block_printed : (i : ℕ) (L : Line) (rest : List ℕ) → Listed L → line_text name (pair_cells j.con) i (line_of L rest) ++ sample_if name true (line_of L rest) ≡ print_line os j.con i L ++ print_line_sample os L
      block_printed i L rest h =
          ap₂ (λ (x y : List ℕ). x ++ y)
          (line_printed ns name named j i L rest h.0 ∙ line_alike ns os AnyNumber j.con i L (class_follows SymbolNumber (Alike ns os AnyNumber) AnyNumber old L.class h.1.1))
          (sample_printed L rest h.1)

      all_both : (Ls : List Line) → All (λ L. InstanceOf j L.class) Ls → All Plain Ls → All Listed Ls
      all_both [] h k = tt
      all_both (L ∷ Ls) h k = ((h.0, k.0), all_both Ls h.1 k.1)

      -- what the entry prints of a walk's answer
      pub sampled_printed : (w : Walked) (word : FirstWord) (rest : List ℕ) → walk_word word ≡ word_of w → All (λ L. InstanceOf j L.class) (lines_of w) → All Plain (lines_of w) →
          listing_text name (pair_cells j.con) true word (length (lines_of w)) (count_of w) (lines_cells (lines_of w) ++ rest) ≡ print_sampled_listing os j.con w
      unfolding print_sampled_listing
      sampled_printed w word rest e is ps =
          listing_each ns name named j true Listed (λ i L. print_line os j.con i L ++ print_line_sample os L) (print_sampled_lines os j.con) (λ k. refl) (λ k L Ls. refl) block_printed
          w word rest e (all_both (lines_of w) is ps)
