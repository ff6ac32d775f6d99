use mathlib.Core.Path.{ap₂}
use borrow.Author.Tests.{eq-eqb, ne_eqb}
use Rattle.restrictions.specs.Twins.Restricting.{restrict_answer}
use Rattle.heap.specs.Twins.Moving.{bound_restriction}
use Rattle.heap.proofs.apply.bind_restriction.Goals as goal

pub returns-then-x-eq3 : goal.returns-then-x-eq3
unfolding bound_restriction
returns-then-x-eq3 c = rw (eq-eqb _ _ c.if-x-eq3.true) (ap₂ restrict_answer c.bind.ensures.0 c.bind.ensures.1)

pub returns : goal.returns
unfolding bound_restriction
returns c = rw (ne_eqb _ _ c.if-x-eq3.false)
