use mathlib.Core.Path.{ap, ◌∙◌, sym as inv}
use Prim.Native.Nat.{ℕ, ◌+◌, ◌-◌, ◌<◌, min}
use mathlib.Core.List.{List, ◌++◌}
use native.Mathlib.Omega.{arith}
use lib.ListN.{length, drop, length-drop}
use Rattle.window.specs.Twins.Sink.{puts}
use Rattle.window.proofs.SinkLaws.{behind, onward, puts_none, puts_full}
use Rattle.window.specs.Twins.TreeText.{symbol_text}
use Rattle.writer.specs.Twins.LineText.{line_text, lines_text}
use Rattle.writer.specs.Twins.LineCells.{line_end}
use Rattle.writer.specs.Twins.SampleText.{sample_if}
use Rattle.writer.proofs.TextTurns.{lines_start, lines_out, lines_step, lines_end, drop_ahead}
use Rattle.writer.proofs.line.put_lines.Goals as goal

pub loop-i-init : goal.loop-i-init
loop-i-init c = ap (puts _) (lines_start _ _ _ _ _)

pub returns-then-answer-at : goal.returns-then-answer-at
returns-then-answer-at c =
    let s = c.args.answer.now in
    inv (c.loop-i.invariant ∙ ap (puts _) (lines_out _ _ _ _ c.loop-i.i _ (omega (arith, c.if-answer-at.true, length-drop c.loop-i.at s))) ∙ puts_none _)

pub returns-then-is_full : goal.returns-then-is_full
returns-then-is_full c =
    inv (c.loop-i.invariant ∙ puts_full _ _ _ (inv c.is_full.ensures ∙ c.if-is_full.true))

pub loop-i-preserved : goal.loop-i-preserved
loop-i-preserved c =
    let a = c.args in
    let h = c.loop-i-test.true in
    let name = symbol_text a.program.now a.job.now a.symbols.now in
    let s = a.answer.now in
    let stands : 0 < length (drop c.loop-i.at s) = omega (arith, c.if-answer-at.false, length-drop c.loop-i.at s) in
    let r = c.rest-line.ensures in
    let n = c.ahead-at.ensures ∙ ap (λ (k : ℕ). min (c.loop-i.at + k) (length s)) (c.line_end.ensures ∙ ap line_end r) in
    let next = ap (lines_text name a.io.now a.samples (a.lines - (c.loop-i.i + 1)) (c.loop-i.i + 1)) (drop_ahead s c.loop-i.at (line_end (drop c.loop-i.at s)) ∙ ap (λ (k : ℕ). drop k s) (inv n)) in
    let step = lines_step name a.io.now a.samples a.lines c.loop-i.i (drop c.loop-i.at s) h stands in
    let put = c.put_line-l.ensures ∙ ap (puts _) (ap (line_text name a.io.now (c.loop-i.i + 1)) r) in
    let sampled = c.put_sample_if-p.ensures ∙ ap (puts _) (ap (sample_if name a.samples) r) in
    let here = line_text name a.io.now (c.loop-i.i + 1) (drop c.loop-i.at s) ++ sample_if name a.samples (drop c.loop-i.at s) in
    onward _ _ _ _ _ (c.loop-i.invariant ∙ ap (puts _) (step ∙ ap (λ (t : List ℕ). here ++ t) next)) (behind _ _ _ put sampled)

pub returns : goal.returns
returns c =
    inv (c.loop-i.invariant ∙ ap (puts _) (lines_end _ _ _ _ c.loop-i.i _ c.loop-i-test.false) ∙ puts_none _)
