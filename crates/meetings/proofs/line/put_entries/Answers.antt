use mathlib.Core.Path.{refl, ◌∙◌, sym as inv}
use Rattle.meetings.proofs.LineTurns.{entries_start, entries_end, entries_next}
use native.Mathlib.Omega.{arith}
use borrow.Author.Rules.{rules}
use Rattle.meetings.proofs.line.put_entries.Goals as goal

pub loop-i-init : goal.loop-i-init
loop-i-init c =
    let a = c.args in
    (refl, entries_start a.n a.heap.now a.frame.now a.top a.answer.now)

pub loop-i-preserved : goal.loop-i-preserved
loop-i-preserved c =
    let a = c.args in
    (search rules, c.loop-i.invariant.1 ∙ entries_next a.n a.heap.now a.frame.now c.loop-i.at c.loop-i.answer c.loop-i.i (omega arith) c.put_entry-at.result c.put_entry-at.new.answer c.put_entry-at.ensures)

pub returns : goal.returns
returns c =
    let a = c.args in
    entries_end a.n a.heap.now a.frame.now c.loop-i.at c.loop-i.answer c.loop-i.i c.loop-i-test.false ∙ inv c.loop-i.invariant.1
