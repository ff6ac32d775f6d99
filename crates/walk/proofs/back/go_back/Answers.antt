use mathlib.Core.Path.{ap, ◌∙◌}
use Rattle.positions.specs.declared.position.Position.{Position}
use Rattle.turns.specs.Twins.States.{state_at}
use Rattle.walk.proofs.BranchTurns.{branch_spends, branch_moves, back_ends, back_goes}
use Rattle.walk.proofs.back.go_back.Goals as goal

pub returns-then-d-eq0 : goal.returns-then-d-eq0
returns-then-d-eq0 c =
    let a = c.args in
    rw c.stopped.ensures (back_ends a.code.now a.b a.s a.heap.now a.frame.now a.q.now a.path.now a.saved.now c.backtrack-d.ensures c.if-d-eq0.true)

pub returns-then-is_spent : goal.returns-then-is_spent
returns-then-is_spent c =
    let a = c.args in
    back_goes a.code.now a.b a.s a.heap.now a.frame.now a.q.now a.path.now a.saved.now c.backtrack-d.ensures c.if-d-eq0.false c.bring_back-p.ensures c.ask-a.ensures (rw c.stopped-then-is_spent.ensures (branch_spends _ _ _ _ _ _ _ _ _ _ c.is_spent.ensures c.if-is_spent.true))

pub returns : goal.returns
returns c =
    let a = c.args in
    let at = c.state_at.ensures ∙ ap (λ (p : Position). state_at p a.s.found) c.at_depth.ensures in
    back_goes a.code.now a.b a.s a.heap.now a.frame.now a.q.now a.path.now a.saved.now c.backtrack-d.ensures c.if-d-eq0.false c.bring_back-p.ensures c.ask-a.ensures (branch_moves _ _ _ _ _ _ _ _ _ _ c.is_spent.ensures c.if-is_spent.false c.move_on-z.ensures at c.after_move.ensures)
