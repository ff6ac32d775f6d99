use mathlib.Core.Path.{◌∙◌, sym as inv}
use Rattle.resolve.proofs.ListDemand.{promised, short_left, list_said}
use Rattle.resolve.proofs.list.list.Goals as goal

pub returns-then-short_for_lines : goal.returns-then-short_for_lines
returns-then-short_for_lines c =
    let a = c.args in
    promised a.program.now a.job.now a.work.now a.answer.now (short_left a.program.now a.job.now a.work.now a.answer.now (inv c.short_for_lines.ensures ∙ c.if-short_for_lines.true))

pub returns : goal.returns
returns c =
    let a = c.args in
    promised a.program.now a.job.now a.work.now a.answer.now
    (list_said a.program.now a.job.now a.work.now a.answer.now (inv c.short_for_lines.ensures ∙ c.if-short_for_lines.false) c.list_texts.ensures c.list_texts.auto.answer)
