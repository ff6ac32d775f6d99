use Prim.Native.Nat.{ℕ}
use mathlib.Core.Path.{ap, ◌∙◌}
use mathlib.Core.List.{List}
use Rattle.window.specs.Twins.Sink.{puts}
use Rattle.window.specs.Twins.TreeText.{symbol_text}
use Rattle.writer.specs.Twins.LineText.{lines_text}
use Rattle.print.specs.Twins.ListingText.{listing_text}
use Rattle.window.proofs.SinkLaws.{behind, printed}
use Rattle.print.proofs.list.print_by_names.Goals as goal

pub returns : goal.returns
unfolding listing_text
returns c =
    let a = c.args in
    let text = ap (λ (v : List ℕ). lines_text (symbol_text a.program.now a.job.now a.names.now) v a.sizes.samples a.first.lines 0 a.answer.now) c.front-job_cells.ensures in
    printed _ _ _ _ _ _ _ _ c.opened.ensures c.clear.ensures (behind _ _ _ c.put_first-p.ensures (c.put_lines-q.ensures ∙ ap (puts _) text)) c.written.ensures
