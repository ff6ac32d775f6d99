use mathlib.Core.Path.{◌≡◌, refl}
use borrow.Author.Rules.{rules}
use Rattle.std.specs.Prelude.{Err}
use Rattle.resolve.proofs.RunMeaning.{run_left_lem, ran_behind}
use Rattle.resolve.proofs.run.run_texts.Goals as goal

pub returns-in_err-both : goal.returns-in_err-both
returns-in_err-both c =
    let a = c.args in
    let e : c.from_residual.result ≡ Err c.in_err-both.field-0.0 = search rules in
    rw e (run_left_lem a.program.now a.job.now a.work.now a.answer.now c.read.ensures c.in_err-both.was (refl, refl, refl))

pub returns : goal.returns
returns c =
    let a = c.args in
    let s = c.read.new.self in
    run_left_lem a.program.now a.job.now a.work.now a.answer.now c.read.ensures c.in_ok-both.was
    (ran_behind a.answer.now s.marks s.nums s.ends s.heads s.jmarks s.jnums s.symbols c.in_ok-both.both c.link_program.ensures c.clear.ensures c.run_inputs.ensures)
