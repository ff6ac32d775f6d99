use native.Mathlib.Omega.{arith}
use mathlib.Core.Path.{◌≡◌}
use borrow.Author.Rules.{rules}
use Rattle.std.specs.Prelude.{Some}
use Rattle.looking.specs.Twins.Taking.{placed_as}
use Rattle.pairs.specs.Twins.Splitting.{bound_contracted}
use Rattle.pairs.proofs.split.bound_contracted.Goals as goal

pub returns : goal.returns
unfolding bound_contracted placed_as
returns c =
    let e : c.args.p ≡ Some c.in_ok-entries.entries = grind arith in
    rw e c.contract_all.ensures

pub returns-in_err-entries : goal.returns-in_err-entries
unfolding bound_contracted
returns-in_err-entries c = search rules
