-- A new atom for each variable, cell by cell. proofs/FillMeaning.antt: of the cells of a line these are the cells of its sample.
use Rattle.std.specs.Prelude.{ℕ, zero, suc, ◌+◌, ◌*◌, ◌%◌, min, Bool, true, cond, List, eqb, get_or}
use Rattle.sets.specs.Twins.Fill.{renamed}

abbrev pub is_variable : ℕ → Bool
is_variable c = cond (eqb (c % 4) 2) true (eqb (c % 4) 3)

abbrev pub new_code : ℕ → ℕ
new_code k = 4 * (1024 + k) + 1

-- of the first n cells, `left` of them from i on still to be looked at, k variables having stood before
unfoldable pub sampled_from : ℕ → ℕ → ℕ → ℕ → List ℕ → List ℕ
sampled_from n zero i k s = s
sampled_from n (suc left) i k s =
    cond (is_variable (get_or s i 0)) (sampled_from n left (i + 1) (k + 1) (renamed n (get_or s i 0) (new_code k) s)) (sampled_from n left (i + 1) k s)

abbrev pub sampled_cells : ℕ → List ℕ → List ℕ
sampled_cells n s = sampled_from (min n 4096) (min n 4096) 0 0 s
