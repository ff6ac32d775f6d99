-- The text of a line's sample, the line in cells.
use Rattle.std.specs.Prelude.{ℕ, zero, suc, min, Bool, cond, List, [], ◌∷◌, ◌++◌, ltb, length, get_or, take, drop, replicate}
use Rattle.language.specs.Bytes.{txt}
use Rattle.sets.specs.Twins.Copying.{part, tree_end, copied}
use Rattle.samples.specs.Twins.Filling.{sampled_cells}
use Rattle.window.specs.Twins.TreeText.{tree_text}
use Rattle.writer.specs.Twins.LineCells.{class_end}

-- how many cells a line's inputs and output take, and a storage that has them with a new atom for each variable
pub record Filled : Type 0 where
  pub size : ℕ
  pub cells : List ℕ

unfoldable pub filled_line : List ℕ → List ℕ → Filled
filled_line l d =
    let class = part 4 (class_end l) l in
    let n = min (length class) 4096 in
    record { size = n; cells = sampled_cells n (copied class 0 n d 0).cells }

unfoldable pub filled_cells : List ℕ → List ℕ
filled_cells l = let w = filled_line l (replicate 4096 0) in take w.size w.cells

module _ (name : ℕ → List ℕ) where
  -- the trees from the place `at` on, no more than n
  unfoldable pub inputs_from : List ℕ → ℕ → ℕ → List ℕ
  inputs_from s zero at = []
  inputs_from s (suc n) at = cond (ltb at (length s)) (((32 ∷ []) ++ tree_text name (part at (tree_end s at) s)) ++ inputs_from s n (tree_end s at)) []

  unfoldable pub inputs_text : List ℕ → List ℕ
  inputs_text s = inputs_from s (length s) 0

  unfoldable pub sample_text : List ℕ → ℕ → List ℕ
  sample_text s ins = txt "(in" ++ inputs_text (take ins s) ++ txt ") (out " ++ tree_text name (drop ins s) ++ txt ")\n"

  abbrev pub filled_text : List ℕ → List ℕ
  filled_text l = sample_text (filled_cells l) (get_or l 1 0)

  abbrev pub sample_if : Bool → List ℕ → List ℕ
  sample_if samples l = cond samples (filled_text l) []
