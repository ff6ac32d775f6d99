-- Decisions of a walk by value: what each function of state.rt answers.
use Rattle.std.specs.Prelude.{false, Result, Ok, Err}
use Rattle.restrictions.specs.declared.failure.Failure.{Failure}
use Rattle.heap.specs.declared.configuration.Configuration.{Configuration}
use Rattle.lines.specs.declared.end.Unstored.{Unstored}
use Rattle.lines.specs.declared.end.Unstored.TheVariants.{Over as UnstoredOver, Full as UnstoredFull}
use Rattle.lines.specs.declared.line.Lines.{Lines}
use Rattle.positions.specs.Twins.Positions.{moved_from}
use Rattle.positions.specs.declared.position.Position.{Position}
use Rattle.turns.specs.Twins.Finding.{walked, counted, cut_off, with_lines}
use Rattle.turns.specs.declared.found.Found.{Found}
use Rattle.turns.specs.declared.found.Ending.TheVariants.{Over, Full}
use Rattle.turns.specs.declared.found.Walked.{Walked}
use Rattle.turns.specs.declared.state.State.{State}

-- a node that the walk goes on from, or what it comes to
abbrev pub Turn : Type 0
Turn = Result State Walked

abbrev pub state_at : Position → Found → State
state_at p f = record { at = p; found = f }

abbrev pub after_end : State → Result Lines Unstored → Turn
after_end s (Ok l) = Ok (state_at s.at (with_lines s.found l))
after_end s (Err UnstoredOver) = Err (walked Over s.found)
after_end s (Err UnstoredFull) = Err (walked Full s.found)

abbrev pub cut_at : State → State
cut_at s = state_at s.at (cut_off s.found)

abbrev pub after_move : State → Result Configuration Failure → Turn
after_move s (Ok c) = Ok (state_at (moved_from s.at c false) (counted s.found))
after_move s (Err e) = Err (walked Over (counted s.found))
