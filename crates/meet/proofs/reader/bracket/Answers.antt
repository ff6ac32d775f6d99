use native.Mathlib.Omega.{arith}
use Rattle.std.proofs.lemmas.Grind.{common_steps}
use Rattle.brackets.specs.Twins.Passing.{passed}
use Rattle.meet.proofs.reader.bracket.Goals as goal

pub returns : goal.returns
unfolding passed
returns c = grind (arith, common_steps)
