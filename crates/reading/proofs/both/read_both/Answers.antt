use mathlib.Core.Path.{sym, ◌∙◌}
use Rattle.std.proofs.lemmas.Result.{err_from_is_err_and}
use Rattle.reading.proofs.BothTurns.{both_roomy_lem, both_short, first_refused, first_accepted, second_refused, second_accepted}
use Rattle.reading.proofs.both.read_both.Goals as goal

pub returns-then-not-room_for_both : goal.returns-then-not-room_for_both
returns-then-not-room_for_both c = both_short _ _ _ _ _ _ _ _ _ _ _ c.room_for_both.ensures c.if-not-room_for_both.true

pub returns-in_err-first : goal.returns-in_err-first
returns-in_err-first c =
    let e = err_from_is_err_and c.from_residual.result c.from_residual.ensures.1 in
    both_roomy_lem _ _ _ _ _ _ _ _ _ _ _ c.room_for_both.ensures c.if-not-room_for_both.false
    (rw (e.1, e.2) (first_refused _ _ _ _ _ _ _ _ _ _ _ c.read_program.ensures (sym c.in_program.ensures ∙ c.in_err-first.was)))

pub returns-in_err-second : goal.returns-in_err-second
returns-in_err-second c =
    let e = err_from_is_err_and c.from_residual-in_err-second.result c.from_residual-in_err-second.ensures.1 in
    both_roomy_lem _ _ _ _ _ _ _ _ _ _ _ c.room_for_both.ensures c.if-not-room_for_both.false
    (rw (e.1, e.2) (first_accepted _ _ _ _ _ _ _ _ _ _ _ c.read_program.ensures (sym c.in_program.ensures ∙ c.in_ok-first.was)
    (second_refused _ _ _ _ _ _ _ _ _ _ _ _ _ c.read_job-read.ensures.0 (sym c.in_job.ensures ∙ c.in_err-second.was))))

pub returns : goal.returns
returns c =
    both_roomy_lem _ _ _ _ _ _ _ _ _ _ _ c.room_for_both.ensures c.if-not-room_for_both.false
    (first_accepted _ _ _ _ _ _ _ _ _ _ _ c.read_program.ensures (sym c.in_program.ensures ∙ c.in_ok-first.was)
    (second_accepted _ _ _ _ _ _ _ _ _ _ _ _ _ c.read_job-read.ensures.0 (sym c.in_job.ensures ∙ c.in_ok-second.was) c.place_job.ensures))
