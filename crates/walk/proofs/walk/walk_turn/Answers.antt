use Rattle.walk.specs.Twins.Walking.{walk_turn}
use Rattle.walk.proofs.walk.walk_turn.Goals as goal

pub returns-in-Call : goal.returns-in-Call
unfolding walk_turn
returns-in-Call c = rw (← c.have_room-p.ensures, ← c.state_at-s.ensures, ← c.in-Call.ensures, ← c.make_call.ensures)

pub returns-in-Choice : goal.returns-in-Choice
unfolding walk_turn
returns-in-Choice c = rw (← c.have_room-p.ensures, ← c.state_at-s.ensures, ← c.in-Choice.ensures, ← c.make_choice.ensures)

pub shape_of-answer : goal.shape_of-answer
shape_of-answer c = c.answer-1.given

pub returns-in-Leaf : goal.returns-in-Leaf
unfolding walk_turn
returns-in-Leaf c = rw (← c.have_room-p.ensures, ← c.state_at-s.ensures, ← c.in-Leaf.ensures, ← c.turn_back.ensures)
