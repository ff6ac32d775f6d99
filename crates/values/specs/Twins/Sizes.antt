-- The nodes of a configuration over cells of any content.
use Rattle.std.specs.Prelude.{ℕ, ◌+◌, ◌*◌, min, cond, List, ltb, Result, Ok, Err}
use Rattle.restrictions.specs.declared.failure.Failure.{Failure}
use Rattle.restrictions.specs.declared.failure.Failure.TheVariants.{Over}
use Rattle.heap.specs.Twins.Entries.{nodes_from}
use Rattle.heap.specs.declared.configuration.Configuration.{Configuration}

-- more than 4,096 of either are all alike
unfoldable pub kept_nodes : ℕ → ℕ → List ℕ → ℕ
kept_nodes n neqs f = min (nodes_from (min n 4120) 0 f) 4097 + 2 * min neqs 4097

unfoldable pub sized_as : Configuration → List ℕ → Result Configuration Failure
sized_as c f = cond (ltb 4096 (kept_nodes c.entries c.neqs f)) (Err Over) (Ok c)
