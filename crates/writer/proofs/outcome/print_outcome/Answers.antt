use mathlib.Core.Path.{ap, ◌∙◌}
use Prim.Native.Nat.{ℕ, ◌*◌}
use mathlib.Core.List.{List}
use lib.ListN.{take}
use Rattle.window.specs.Twins.Sink.{puts}
use Rattle.window.specs.Twins.TreeText.{symbol_text}
use Rattle.writer.specs.Twins.OutcomeText.{outcome_text}
use Rattle.window.proofs.SinkLaws.{printed}
use Rattle.writer.proofs.outcome.print_outcome.Goals as goal

pub returns : goal.returns
returns c =
    let a = c.args in
    let text = ap (λ (t : List ℕ). outcome_text (symbol_text a.program.now a.job.now t) a.answer.now a.outcome) (c.front-table.ensures ∙ ap (λ (n : ℕ). take (2 * n) a.symbols.now) c.from.ensures) in
    printed _ _ _ _ _ _ _ _ c.opened-start.ensures c.clear.ensures (c.put_outcome-p.ensures ∙ ap (puts _) text) c.written.ensures
