use native.Mathlib.Omega.{arith}
use mathlib.Core.Path.{◌≡◌}
use borrow.Author.Rules.{rules}
use Rattle.std.specs.Prelude.{Some, None, Err}
use Rattle.restrictions.specs.declared.failure.Failure.TheVariants.{Over}
use Rattle.initial.specs.Twins.Beginning.{begun_at}
use Rattle.initial.proofs.begin.begin.Goals as goal

pub returns : goal.returns
unfolding begun_at
returns c =
    let s : c.lay_job.result ≡ Some c.in_ok-s.s = grind arith in
    let e : c.enter_job.result ≡ Some c.in_ok-e.e = grind arith in
    rw (← c.lay_job.ensures, s, ← c.first_fresh-counter.ensures, ← c.take_sides.ensures, c.in_ok-neqs.was, ← c.enter_job.ensures, e)

pub returns-in_err-s : goal.returns-in_err-s
unfolding begun_at
returns-in_err-s c =
    let s : c.lay_job.result ≡ None = grind arith in
    let r : c.from_residual.result ≡ Err Over = search rules in
    rw (r, ← c.lay_job.ensures, s)

pub returns-in_err-neqs : goal.returns-in_err-neqs
unfolding begun_at
returns-in_err-neqs c =
    let s : c.lay_job.result ≡ Some c.in_ok-s.s = grind arith in
    let r : c.from_residual-in_err-neqs.result ≡ Err c.in_err-neqs.field-0.0 = search rules in
    rw (r, ← c.lay_job.ensures, s, ← c.take_sides.ensures, c.in_err-neqs.was)

pub returns-in_err-e : goal.returns-in_err-e
unfolding begun_at
returns-in_err-e c =
    let s : c.lay_job.result ≡ Some c.in_ok-s.s = grind arith in
    let e : c.enter_job.result ≡ None = grind arith in
    let r : c.from_residual-in_err-e.result ≡ Err Over = search rules in
    rw (r, ← c.lay_job.ensures, s, ← c.take_sides.ensures, c.in_ok-neqs.was, ← c.enter_job.ensures, e)
