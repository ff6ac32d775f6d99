use native.Mathlib.Omega.{arith}
use mathlib.Core.Path.{◌≡◌}
use borrow.Author.Rules.{rules}
use Rattle.std.specs.Prelude.{Some, None, Err}
use Rattle.restrictions.specs.declared.failure.Failure.TheVariants.{Over}
use Rattle.calls.specs.Twins.Calls.{called_to}
use Rattle.calls.proofs.call.call.Goals as goal

pub returns : goal.returns
unfolding called_to
returns c =
    let e : c.arguments.result ≡ Some c.in_ok-a.a = grind arith in
    rw (← c.link_at-l.ensures, ← c.kept_nodes.ensures, ← c.min-i.ensures, ← c.from-n.ensures, ← c.arguments.ensures, e, ← c.move_entries.ensures, ← c.from.ensures, ← c.in_body.ensures)

pub returns-in_err-a : goal.returns-in_err-a
unfolding called_to
returns-in_err-a c =
    let e : c.arguments.result ≡ None = grind arith in
    let r : c.from_residual.result ≡ Err Over = search rules in
    rw (r, ← c.link_at-l.ensures, ← c.kept_nodes.ensures, ← c.min-i.ensures, ← c.from-n.ensures, ← c.arguments.ensures, e)
