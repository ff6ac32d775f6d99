-- The sample of one line, from cells of any content.
use Rattle.std.specs.Prelude.{ℕ, zero, suc, ◌-◌, Bool, false, cond, Result, Ok, Err, List, eqb, leb, ltb, length, drop, get_or, replicate}
use Rattle.lent.specs.Storage.{zeros}
use Rattle.sets.specs.Twins.Copying.{copied}
use Rattle.writer.specs.Twins.LineCells.{line_end}
use Rattle.writer.specs.Twins.SampleText.{filled_line}
use Rattle.sampling.specs.declared.line.Sampled.{Sampled}
use Rattle.sampling.specs.declared.line.Unsampled.{Unsampled}
use Rattle.sampling.specs.declared.line.Unsampled.TheVariants.{Absent, Short}

-- what stands behind so many lines
unfoldable pub behind_lines : ℕ → List ℕ → List ℕ
behind_lines zero d = d
behind_lines (suc k) d = behind_lines k (drop (line_end d) d)

abbrev pub is_line : ℕ → ℕ → Bool
is_line ins out = cond (eqb out 0) false (cond (ltb 4096 ins) false (leb out (4096 - ins)))

unfoldable pub sample_cells : List ℕ → List ℕ → List ℕ
sample_cells line sample = let w = filled_line line (replicate 4096 0) in (copied w.cells 0 w.size (zeros sample) 0).cells

-- the answer where there is a sample: the cells of its inputs and those of its output
abbrev pub done : ℕ → ℕ → Result Sampled Unsampled
done ins out = Ok (record { ins = ins; out = out })

-- an answer, and what is left in the storage for the sample
pub record SampleLeft : Type 0 where
  pub answer : Result Sampled Unsampled
  pub cells : List ℕ

abbrev pub sample_of : List ℕ → List ℕ → SampleLeft
sample_of line sample =
    cond (is_line (get_or line 1 0) (get_or line 2 0))
    (record { answer = done (get_or line 1 0) (get_or line 2 0); cells = sample_cells line sample })
    (record { answer = Err Absent; cells = sample })

-- by the line's number, counted from 1; the storage for a sample has at least 4,096 cells
unfoldable pub sample_left : ℕ → List ℕ → List ℕ → SampleLeft
sample_left number answer sample =
    cond (ltb (length sample) 4096) (record { answer = Err Short; cells = sample })
    (cond (eqb number 0) (record { answer = Err Absent; cells = sample })
    (sample_of (behind_lines (number - 1) answer) sample))
