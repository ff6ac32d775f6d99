-- The cells of a job's data: what each function of datum.rt answers and leaves.
use Rattle.std.specs.Prelude.{ℕ, zero, suc, ◌+◌, ◌*◌, ◌%◌, cond, List, [], ◌∷◌, eqb, get_or, Some}
use Rattle.sets.specs.Twins.Fill.{FillAnswer, fill_answer}
use Rattle.runs.specs.Twins.Runs.{written}
use Rattle.linking.specs.Twins.Linking.{key_of, kind_of}
use Rattle.values.specs.Twins.Values.{onward_fill}

-- the code of a number and a tag
abbrev pub number_code : ℕ → ℕ → ℕ
number_code k tag = 4 * (k % 16384) + tag % 4

module _ (marks nums : List ℕ) where
  -- the code that the token i gives, 0 if none
  unfoldable pub datum_cell : ℕ → ℕ
  datum_cell i =
      cond (eqb (key_of marks i) 8) 4
      (cond (eqb (kind_of marks i) 0) (number_code (get_or nums i 0) 1)
      (cond (eqb (kind_of marks i) 3) (number_code (get_or nums i 0) 2)
      (cond (eqb (kind_of marks i) 4) (number_code (get_or nums i 0) 3) 0)))

  -- at k
  unfoldable pub datum_written : ℕ → ℕ → List ℕ → FillAnswer
  datum_written i k h = cond (eqb (datum_cell i) 0) (fill_answer (Some k) h) (written k 1 (datum_cell i ∷ []) h)

  -- those of `left` tokens from i on, one behind the other
  unfoldable pub data_written : ℕ → ℕ → ℕ → List ℕ → FillAnswer
  data_written zero i k h = fill_answer (Some k) h
  data_written (suc left) i k h = let w = datum_written i k h in onward_fill (λ m g. data_written left (i + 1) m g) w.answer w.cells
