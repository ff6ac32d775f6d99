-- "21 over 4,096 nodes" where the entries hold trees.
use Prim.Native.Nat.{ℕ, ◌+◌, ◌*◌, ◌≤◌, ◌<◌, min}
use mathlib.Core.Path.{◌≡◌}
use mathlib.Core.List.{List}
use native.Mathlib.Omega.{arith}
use lib.ListN.{length}
use borrow.Author.Tests.{lt-ltb, le-ltb}
use Rattle.std.specs.Prelude.{Ok, Err}
use Rattle.restrictions.specs.declared.failure.Failure.TheVariants.{Over}
use Rattle.expressions.specs.Expression.{Exp, nodes_all}
use Rattle.heap.specs.declared.configuration.Configuration.{Configuration}
use Rattle.heap.proofs.FrameLaws.{Held}
use Rattle.heap.proofs.NodeLaws.{held_nodes}
use Rattle.values.specs.Twins.Sizes.{kept_nodes, sized_as}

module _ {h f : List ℕ} {used : ℕ} {ts : List Exp} (held : Held h used f 0 ts) (few : length ts ≤ 4120) where
  pub kept_is : (neqs : ℕ) → kept_nodes (length ts) neqs f ≡ min (nodes_all ts) 4097 + 2 * min neqs 4097
  unfolding kept_nodes
  kept_is neqs = let z : min (length ts) 4120 ≡ length ts = omega arith in rw (z, held_nodes held)

  module _ (c : Configuration) (all : c.entries ≡ length ts) where
    pub sized_on : nodes_all ts + 2 * c.neqs ≤ 4096 → sized_as c f ≡ Ok c
    unfolding sized_as
    sized_on l = rw (all, kept_is c.neqs, le-ltb 4096 (min (nodes_all ts) 4097 + 2 * min c.neqs 4097) (omega arith))

    pub sized_over : 4096 < nodes_all ts + 2 * c.neqs → sized_as c f ≡ Err Over
    unfolding sized_as
    sized_over l = rw (all, kept_is c.neqs, lt-ltb 4096 (min (nodes_all ts) 4097 + 2 * min c.neqs 4097) (omega arith))
