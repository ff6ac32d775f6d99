use borrow.Author.Rules.{rules}
use Rattle.looking.specs.Twins.Taking.{placed_as, placed_with}
use Rattle.looking.proofs.take.placed_with.Goals as goal

pub returns : goal.returns
unfolding placed_with placed_as
returns c = search rules

pub returns-in_err-entries : goal.returns-in_err-entries
unfolding placed_with
returns-in_err-entries c = search rules
