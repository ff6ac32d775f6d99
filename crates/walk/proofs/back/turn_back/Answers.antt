use Rattle.std.proofs.lemmas.Result.{err_from_is_err_and}
use Rattle.walk.specs.Twins.Backing.{turned_back}
use Rattle.walk.proofs.back.turn_back.Goals as goal

pub shape_of-answer : goal.shape_of-answer
shape_of-answer c = c.answer-1.given

pub returns : goal.returns
unfolding turned_back
returns c = rw (← c.meet_leaf.ensures, c.in_ok-t.was, ← c.go_back.ensures)

pub shape_of-answer-in_err-t : goal.shape_of-answer-in_err-t
shape_of-answer-in_err-t c = c.answer-1.given

pub returns-in_err-t : goal.returns-in_err-t
unfolding turned_back
returns-in_err-t c =
    let p = err_from_is_err_and c.from_residual.result c.from_residual.ensures.1 in
    rw (← c.meet_leaf.ensures, c.in_err-t.was, p.1, p.2)
