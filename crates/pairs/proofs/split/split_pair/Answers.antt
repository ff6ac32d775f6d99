use native.Mathlib.Omega.{arith}
use mathlib.Core.Path.{◌≡◌}
use borrow.Author.Rules.{rules}
use Rattle.std.specs.Prelude.{Some}
use Rattle.pairs.specs.Twins.Splitting.{pair_split}
use Rattle.pairs.proofs.split.split_pair.Goals as goal

pub returns : goal.returns
unfolding pair_split
returns c =
    let e : c.take.result ≡ Some c.in_ok-f.f = grind arith in
    rw (← c.take.ensures, e, ← c.code-head.ensures, ← c.code-tail.ensures) c.make_pair.ensures

pub returns-in_err-f : goal.returns-in_err-f
unfolding pair_split
returns-in_err-f c = search rules
