use mathlib.Core.Path.{ap, ◌∙◌, sym}
use Rattle.run_answers.specs.RunNumbers.{Answer}
use Rattle.print.specs.Twins.RanText.{ran_text}
use Rattle.bindings.proofs.ToldLaws.{run_told}
use Rattle.print.proofs.ListTurns.{same_text}
use Rattle.bindings.proofs.program_runs.raugvite_print_run.Goals as goal

pub returns : goal.returns
returns c =
    let a = c.args in
    let e = c.answer_from-a.ensures in
    let q = c.print_run.ensures in (
      same_text _ _ (ap (λ (x : Answer). ran_text a.program.now a.job.now a.cells.now x) e) q.0,
      λ h. ap (λ (x : Answer). ran_text a.program.now a.job.now a.cells.now x) (sym e) ∙ q.1 h.work h.answer h.long h.left (e ∙ run_told _ _ _ _ _ h),
    )
