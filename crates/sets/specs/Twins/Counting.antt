-- What the counter hands out.
use Rattle.std.specs.Prelude.{ℕ, ◌+◌, cond, ltb, Option, Some, None}
use Rattle.sets.specs.declared.counter.Fresh.{Fresh}

abbrev pub fresh : ℕ → Fresh
fresh k = record { head = k; tail = k + 1; atom = k + 2; next = record { next = k + 3 } }

abbrev pub handed : ℕ → Option Fresh
handed k = cond (ltb 16381 k) None (Some (fresh k))
