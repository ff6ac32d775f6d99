-- One cell of a heap, of any content.
use Rattle.std.specs.Prelude.{ℕ, ◌%◌, cond, eqb, ltb}

-- 1 once x was met
abbrev pub met_of : ℕ → ℕ → ℕ → ℕ
met_of n c x = cond (eqb c x) 1 n

-- 1 once a variable was met, whose code is 4 n + 2 or 4 n + 3
abbrev pub variable_met : ℕ → ℕ → ℕ
variable_met n c = cond (ltb (c % 4) 2) n 1

-- what a count of x grows by
abbrev pub one_if : ℕ → ℕ → ℕ
one_if c x = cond (eqb c x) 1 0

abbrev pub renamed_cell : ℕ → ℕ → ℕ → ℕ
renamed_cell c x y = cond (eqb c x) y c
