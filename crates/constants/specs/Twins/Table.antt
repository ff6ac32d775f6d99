-- The table of constants, in the cells behind a linked program.
use Rattle.std.specs.Prelude.{ℕ, ◌+◌, ◌*◌, min, cond, List, ltb, get_or, set}
use Rattle.constants.specs.declared.table.Constant.{Constant}

abbrev pub constant : ℕ → ℕ → Constant
constant a b = record { from = a; to = b }

-- the range of the token i; none past the last one
unfoldable pub constant_at : List ℕ → ℕ → Constant
constant_at code i = cond (ltb i 4097) (constant (get_or code (16388 + 2 * i) 0) (get_or code (16389 + 2 * i) 0)) (constant 0 0)

-- the range of the token i set, where there is one
unfoldable pub entered : ℕ → ℕ → ℕ → List ℕ → List ℕ
entered i from to code = cond (ltb i 4097) (set (set code (16388 + 2 * i) (min from 65535)) (16389 + 2 * i) (min to 65535)) code
