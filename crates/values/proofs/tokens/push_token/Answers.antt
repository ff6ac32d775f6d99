use native.Mathlib.Omega.{arith}
use borrow.Author.Tests.{ne_eqb}
use Rattle.values.specs.Twins.Values.{token_written}
use Rattle.values.proofs.tokens.push_token.Goals as goal

pub returns-in-1 : goal.returns-in-1
unfolding token_written
returns-in-1 c = rw (← c.link_at-l.ensures, c.in-1.is, ← c.push_cell.ensures)

pub returns-in-2 : goal.returns-in-2
unfolding token_written
returns-in-2 c = rw (← c.link_at-l.ensures, c.in-2.is, ← c.place_at.ensures, ← c.entry_at-e.ensures, ← c.append.ensures)

pub returns-in_default : goal.returns-in_default
unfolding token_written
returns-in_default c =
    let m = c.link_at-l.result.mark in
    rw (← c.link_at-l.ensures, ne_eqb m 1 (λ e. omega arith), ne_eqb m 2 (λ e. omega arith))
