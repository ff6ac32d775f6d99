-- The cells of a stored line's sample (02, request 2): of a line's cells they are those of the definitions' sample.
use Prim.Native.Nat.{ℕ, ◌+◌, ◌-◌, ◌≤◌, min}
use mathlib.Core.Path.{◌≡◌, ap, ap₂, ◌∙◌, sym as inv}
use mathlib.Core.List.{List, [], ◌∷◌, ◌++◌, map, append_assoc, append-nil}
use native.Mathlib.Omega.{arith}
use lib.ListN.{length, take, drop, replicate, length-append, length-replicate}
use lib.Seq.{take_at}
use Rattle.expressions.specs.Expression.{nodes, nodes_all}
use Rattle.expressions.specs.Class.{IOPair, nodes_io}
use Rattle.semantics.specs.Embedding.{embed}
use Rattle.listing.specs.Sample.{sample}
use Rattle.sets.specs.Cells.{cells, cells_all}
use Rattle.sets.proofs.CellLaws.{cells_nodes, cells_all_nodes, copied_done}
use Rattle.sets.specs.Twins.Copying.{part, CopyAnswer, copied}
use Rattle.samples.specs.Twins.Filling.{sampled_cells}
use Rattle.samples.proofs.FillMeaning.{fill_means, sample_ins_nodes, sample_out_nodes}
use Rattle.writer.specs.Twins.SampleText.{filled_line, filled_cells}

-- a beginning copied to the front of a storage
pub copied_front : (c r d : List ℕ) (n : ℕ) → length c ≡ n → n ≤ length d → (copied (c ++ r) 0 n d 0).cells ≡ c ++ drop n d
copied_front c r d n e l =
    let z : 0 + n ≡ n = omega arith in
    ap (λ (w : CopyAnswer). w.cells) (copied_done (c ++ r) 0 n d 0 (omega (arith, length-append c r)) (omega arith))
    ∙ ap (λ (k : ℕ). take n (c ++ r) ++ drop k d) z
    ∙ ap (λ (x : List ℕ). x ++ drop n d) (take_at c r n e)

-- the cells of a ground_exp pair: its inputs, then its output
abbrev pub sample_of : IOPair → List ℕ
sample_of c = cells_all (map embed (sample c).ins) ++ cells (embed (sample c).out)

pub sample_length : (c : IOPair) → length (sample_of c) ≡ nodes_io c
sample_length c = omega (arith, length-append (cells_all (map embed (sample c).ins)) (cells (embed (sample c).out)), sample_ins_nodes c, sample_out_nodes c)

-- a line's cells: steps, how many cells and non-equalities there are, the cells of its inputs and its output, and what stands behind
abbrev stored : ℕ → ℕ → IOPair → List ℕ → List ℕ
stored s q c r = s ∷ (nodes_all c.ins ∷ (nodes c.out ∷ (q ∷ (cells_all c.ins ++ (cells c.out ++ r)))))

pub filled_means : (s q : ℕ) (c : IOPair) (r : List ℕ) → nodes_io c ≤ 4096 →
    ((filled_line (stored s q c r) (replicate 4096 0)).size ≡ nodes_io c) × ((filled_line (stored s q c r) (replicate 4096 0)).cells ≡ sample_of c ++ drop {A = ℕ} (nodes_io c) (replicate 4096 0))
unfolding filled_line
filled_means s q c r few =
    let n = nodes_io c in
    let l = stored s q c r in
    let C = cells_all c.ins ++ cells c.out in
    let Z : List ℕ = drop n (replicate 4096 0) in
    let k : length C ≡ n = omega (arith, length-append (cells_all c.ins) (cells c.out), cells_all_nodes c.ins, cells_nodes c.out) in
    let m : (4 + nodes_all c.ins + nodes c.out) - 4 ≡ n = omega arith in
    let p : part 4 (4 + nodes_all c.ins + nodes c.out) l ≡ C =
    ap₂ (λ (i : ℕ) (x : List ℕ). take i x) m (inv (append_assoc (cells_all c.ins) (cells c.out) r)) ∙ take_at C r n k in
    let z : min (length C) 4096 ≡ n = omega (arith, k) in
    let put : (copied C 0 n (replicate 4096 0) 0).cells ≡ C ++ Z =
    ap (λ (x : List ℕ). (copied x 0 n (replicate 4096 0) 0).cells) (inv (append-nil C)) ∙ copied_front C [] (replicate 4096 0) n k (omega (arith, length-replicate {A = ℕ} 4096 0)) in
    let fill : sampled_cells n (C ++ Z) ≡ sample_of c ++ Z =
    ap (sampled_cells n) (append_assoc (cells_all c.ins) (cells c.out) Z) ∙ fill_means c Z few ∙ inv (append_assoc (cells_all (map embed (sample c).ins)) (cells (embed (sample c).out)) Z) in
    (ap (λ (x : List ℕ). min (length x) 4096) p ∙ z, ap (λ (x : List ℕ). sampled_cells (min (length x) 4096) (copied x 0 (min (length x) 4096) (replicate 4096 0) 0).cells) p ∙ ap (λ (i : ℕ). sampled_cells i (copied C 0 i (replicate 4096 0) 0).cells) z ∙ ap (sampled_cells n) put ∙ fill)

pub filled_cells_lem : (s q : ℕ) (c : IOPair) (r : List ℕ) → nodes_io c ≤ 4096 → filled_cells (stored s q c r) ≡ sample_of c
unfolding filled_cells
filled_cells_lem s q c r few =
    let w = filled_means s q c r few in
    ap₂ (λ (i : ℕ) (x : List ℕ). take i x) w.0 w.1 ∙ take_at (sample_of c) (drop {A = ℕ} (nodes_io c) (replicate 4096 0)) (nodes_io c) (sample_length c)
