use Rattle.walk.proofs.BranchTurns.{choice_spends, choice_moves}
use Rattle.walk.proofs.make.make_choice.Goals as goal

pub returns-then-is_spent : goal.returns-then-is_spent
returns-then-is_spent c =
    let a = c.args in
    rw c.stopped.ensures (choice_spends a.code.now a.b a.s a.heap.now a.frame.now a.q.now a.path.now a.saved.now c.ask-a.ensures c.branches-w.ensures c.record_choice-at.ensures c.is_spent.ensures c.if-is_spent.true)

pub returns : goal.returns
returns c =
    let a = c.args in
    choice_moves a.code.now a.b a.s a.heap.now a.frame.now a.q.now a.path.now a.saved.now c.ask-a.ensures c.branches-w.ensures c.record_choice-at.ensures c.is_spent.ensures c.if-is_spent.false c.first_branch.ensures c.move_on-m.ensures c.state_at.ensures c.after_move.ensures
