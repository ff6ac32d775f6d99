use mathlib.Core.Path.{◌≡◌, refl}
use borrow.Author.Rules.{rules}
use Rattle.std.specs.Prelude.{Err}
use Rattle.resolve.specs.Twins.ListCells.{listed_read}
use Rattle.resolve.proofs.ListMeaning.{walked_behind}
use Rattle.resolve.proofs.list.list_read.Goals as goal

pub returns-in_err-both : goal.returns-in_err-both
unfolding listed_read
returns-in_err-both c =
    let e : c.from_residual.result ≡ Err c.in_err-both.field-0.0 = search rules in
    rw (e, c.in_err-both.was) refl

pub returns : goal.returns
returns c =
    let a = c.args in
    rw c.in_ok-both.was
    (walked_behind a.answer.now a.marks.now a.nums.now a.ends.now a.heads.now a.jmarks.now a.jnums.now c.in_ok-both.both c.link_program.ensures c.program_end-tokens.ensures c.main_body-body.ensures c.clear.ensures c.walk_job-walked.ensures c.came_to.ensures)
