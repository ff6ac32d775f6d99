use mathlib.Core.Path.{◌≡◌, refl}
use Prim.Native.Nat.{ℕ}
use Rattle.std.specs.Prelude.{Option, Some, None}
use Rattle.heap.specs.declared.configuration.Configuration.{Configuration}
use Rattle.heap.specs.Twins.Moving.{grown_by}
use Rattle.looking.specs.Twins.Taking.{placed_as}
use Rattle.pairs.specs.Twins.Splitting.{filled_on, contracted_all}
use Rattle.pairs.proofs.split.contract_all.Goals as goal

grown_is : (c : Configuration) (w : Option ℕ) → grown_by c c.neqs w ≡ filled_on c w
unfolding filled_on placed_as
grown_is c (Some k) = refl
grown_is c None = refl

pub returns : goal.returns
unfolding contracted_all
returns c =
    let w = c.contract_entries-w in
    rw (← w.ensures, ← grown_is c.args.c w.result, ← c.grown.ensures)
