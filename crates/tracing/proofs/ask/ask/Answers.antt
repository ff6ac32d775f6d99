use native.Mathlib.Omega.{arith}
use borrow.Author.Tests.{ne_eqb}
use Rattle.tracing.specs.Twins.Asking.{asked_at}
use Rattle.tracing.proofs.ask.ask.Goals as goal

pub returns-in-3 : goal.returns-in-3
unfolding asked_at
returns-in-3 c = rw (← c.link_at.ensures, c.in-3.is)

pub returns-in-4 : goal.returns-in-4
unfolding asked_at
returns-in-4 c = rw (← c.link_at.ensures, c.in-4.is, ← c.sides_at-s.ensures)

pub returns-in-5 : goal.returns-in-5
unfolding asked_at
returns-in-5 c = rw (← c.link_at.ensures, c.in-5.is, ← c.look.ensures)

pub returns-in_default : goal.returns-in_default
unfolding asked_at
returns-in_default c =
    let m = c.link_at.result.mark in
    rw (← c.link_at.ensures, ne_eqb m 3 (λ e. omega arith), ne_eqb m 4 (λ e. omega arith), ne_eqb m 5 (λ e. omega arith))
