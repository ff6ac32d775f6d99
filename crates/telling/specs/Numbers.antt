-- An answer's numbers in lent storage (01, "The walk and what stops it", "From the state").
use Rattle.std.specs.Prelude.{ℕ, ◌-◌, Bool, cond, List, ◌++◌, eqb, length, take, replicate}

-- "zeros follow to the end, as they do after any other text or record that an entry writes": n numbers, as many of v as there is room for
unfoldable pub padded : List ℕ → ℕ → List ℕ
padded v n = take n v ++ replicate (n - length v) 0

-- "20 .. before all else, offset 0, nothing touched"
abbrev pub said_after : ℕ → List ℕ → List ℕ → List ℕ
said_after number v said = cond (eqb number 20) said (padded v (length said))

-- the number of a line's sample: "20 lent storage shorter than its least length", else none
abbrev pub sample_number : Bool → ℕ
sample_number short = cond short 20 0
