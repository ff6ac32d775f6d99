use Prim.Native.Nat.{ℕ, ◌+◌, ◌-◌, min}
use mathlib.Core.Path.{ap, ◌∙◌, sym as inv}
use native.Mathlib.Omega.{arith}
use lib.ListN.{length, drop}
use Rattle.writer.specs.Twins.LineCells.{line_end}
use Rattle.sampling.specs.Twins.Lines.{behind_lines}
use Rattle.sampling.proofs.LineTurns.{behind_start, behind_end_lem, behind_turn, behind_none}
use Rattle.sampling.proofs.line.line_place.Goals as goal

pub loop-init : goal.loop-init
loop-init c = behind_start c.args.before c.args.answer.now

pub returns-then-answer-at : goal.returns-then-answer-at
returns-then-answer-at c =
    behind_end_lem (c.args.before - c.loop.counter) c.args.answer.now c.loop.at c.if-answer-at.true ∙ inv c.loop.invariant

pub loop-preserved : goal.loop-preserved
loop-preserved c =
    let s = c.args.answer.now in
    let left = c.args.before - (c.loop.counter + 1) in
    let n = c.ahead-at.ensures ∙ ap (λ (k : ℕ). min (c.loop.at + k) (length s)) (c.line_end.ensures ∙ ap line_end c.rest.ensures) in
    c.loop.invariant ∙ behind_turn left (c.args.before - c.loop.counter) s c.loop.at (omega (arith, c.loop-test.true)) ∙ ap (λ (k : ℕ). behind_lines left (drop k s)) (inv n)

pub returns : goal.returns
returns c = behind_none (c.args.before - c.loop.counter) (drop c.loop.at c.args.answer.now) (omega (arith, c.loop-test.false)) ∙ inv c.loop.invariant
