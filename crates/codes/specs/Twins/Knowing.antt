-- What is known of a value.
use Rattle.std.specs.Prelude.{ℕ, ◌+◌, ◌%◌, cond, eqb}

-- a tree of one cell in the place of a variable keeps every length
abbrev pub known_after : ℕ → ℕ → ℕ
known_after known size = cond (eqb size 1) known 0

-- no variable stands in the value
abbrev pub closed_as : ℕ → ℕ
closed_as known = cond (eqb (known % 2) 1) known (known + 1)
