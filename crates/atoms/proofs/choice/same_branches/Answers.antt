use Rattle.atoms.specs.Twins.Choices.{branches_of}
use Rattle.atoms.proofs.choice.same_branches.Goals as goal

pub returns : goal.returns
unfolding branches_of
returns c = rw (← c.kind_of-k.ensures, ← c.branches_by.ensures)
