-- Cells put into the answer storage: what each function of writing.rt answers and leaves.
use Rattle.std.specs.Prelude.{ℕ, ◌+◌, ◌-◌, cond, List, Some, None, ltb, leb, set}
use Rattle.sets.specs.Twins.Copying.{copied}
use Rattle.sets.specs.Twins.Fill.{FillAnswer, fill_answer}

-- a cell more, where there are fewer than `limit`
unfoldable pub cell_put : ℕ → ℕ → ℕ → List ℕ → FillAnswer
cell_put x at limit d = cond (leb limit at) (fill_answer None d) (fill_answer (Some (at + 1)) (set d at x))

-- the cells of a range, where there are no more than `limit` then
unfoldable pub range_put : ℕ → ℕ → ℕ → ℕ → List ℕ → List ℕ → FillAnswer
range_put from to at limit h d =
    let n = to - from in
    cond (ltb limit at) (fill_answer None d) (cond (ltb (limit - at) n) (fill_answer None d) (fill_answer (Some (at + n)) (copied h from n d at).cells))
