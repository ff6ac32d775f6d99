-- The branches of an `eqa?` over cells of any content.
use Rattle.std.specs.Prelude.{ℕ, true, false, List}
use Rattle.restrictions.specs.Twins.Restricting.{kind_cells}
use Rattle.restrictions.specs.declared.restriction.Kind.{Kind}
use Rattle.restrictions.specs.declared.restriction.Kind.TheVariants.{Contradiction, Redundant, Kept}
use Rattle.heap.specs.declared.configuration.Branches.{Branches}

abbrev pub branches_by : Kind → Branches
branches_by Contradiction = record { yes = true; no = false }
branches_by Redundant = record { yes = false; no = true }
branches_by Kept = record { yes = true; no = true }

-- by what the non-equality would be beside those there are
unfoldable pub branches_of : ℕ → ℕ → ℕ → List ℕ → Branches
branches_of n x y q = branches_by (kind_cells n x y q)
