use mathlib.Core.Bool.{false}
use Rattle.reading.specs.Twins.BothCells.{both_over}
use Rattle.resolve.proofs.ListMeaning.{list_left}
use Rattle.print.proofs.ListTurns.{said_read}
use Rattle.print.proofs.first.first_texts.Goals as goal

pub returns : goal.returns
returns c =
    let a = c.args in
    let e = c.read-both.ensures in (
      list_left a.program.now a.job.now a.work.now a.answer.now e c.list_read-said.ensures,
      said_read a.samples (both_over false a.program.now a.job.now a.work.now) e.0 e.5 e.6 e.7 c.job_terms-sizes.ensures c.print_said-bytes.ensures,
    )
