-- The text is printed from what `run` answered and left.
use Rattle.pages.proofs.Shown.{taken_text, why_text}
use Rattle.pages.proofs.Taken.{taken_of}
use Rattle.print.specs.Twins.RanText.{ran_text}
use Rattle.pages.specs.Written.{ran, ran_bytes, written_run}
use Rattle.pages.proofs.output.run_texts.Goals as goal

pub returns-clause-whole : goal.returns-clause-whole
unfolding ran ran_bytes
returns-clause-whole g c =
    let a = c.args in
    let w = c.run-answer.ensures.0 in
    (w.0, taken_text (λ cells answer. ran_text a.program.now a.job.now cells answer) w.0 w.2 c.write_run-written.ensures.whole)

pub returns-clause-why : goal.returns-clause-why
unfolding ran_bytes
returns-clause-why g c =
    let a = c.args in
    let w = c.run-answer.ensures.0 in
    why_text (λ cells answer. ran_text a.program.now a.job.now cells answer) w.0 w.2 c.write_run-written.ensures.why

pub returns-clause-taken : goal.returns-clause-taken
unfolding written_run
returns-clause-taken g c =
    let a = c.args in
    let w = c.run-answer.ensures.0 in
    taken_of (λ cells answer. ran_text a.program.now a.job.now cells answer) _ _ _ w.0 w.2 c.write_run-written.ensures.taken
