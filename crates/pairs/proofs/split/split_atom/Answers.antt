use native.Mathlib.Omega.{arith}
use mathlib.Core.Path.{◌≡◌}
use borrow.Author.Rules.{rules}
use Rattle.std.specs.Prelude.{Some}
use Rattle.pairs.specs.Twins.Splitting.{atom_split}
use Rattle.pairs.proofs.split.split_atom.Goals as goal

pub returns : goal.returns
unfolding atom_split
returns c =
    let e : c.take.result ≡ Some c.in_ok-f.f = grind arith in
    rw (← c.take.ensures, e, ← c.code-atom.ensures) c.make_atom.ensures

pub returns-in_err-f : goal.returns-in_err-f
unfolding atom_split
returns-in_err-f c = search rules
