use mathlib.Core.Path.{ap, ◌∙◌, sym}
use Rattle.answers.specs.ListNumbers.{Answer}
use Rattle.print.specs.Twins.ListedText.{sampled_listed}
use Rattle.bindings.proofs.ToldLaws.{list_told}
use Rattle.print.proofs.ListTurns.{same_text}
use Rattle.bindings.proofs.sampled.raugvite_print_sampled.Goals as goal

pub returns : goal.returns
returns c =
    let a = c.args in
    let e = c.answer_from-a.ensures in
    let q = c.print_sampled.ensures in (
      same_text _ _ (ap (λ (x : Answer). sampled_listed a.program.now a.job.now a.cells.now x) e) q.0,
      λ h. ap (λ (x : Answer). sampled_listed a.program.now a.job.now a.cells.now x) (sym e) ∙ q.1 h.work h.answer h.long h.left (e ∙ list_told _ _ _ _ _ h),
    )
