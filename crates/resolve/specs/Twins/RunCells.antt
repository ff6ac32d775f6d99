-- Running two texts forwards in cells: what each function of run.rt answers and leaves.
use Rattle.std.specs.Prelude.{ℕ, ◌≡◌, true, List, Result, Ok, Err, replicate}
use Rattle.lent.specs.Storage.{zeros}
use Rattle.syntax.specs.declared.job_ends.JobEnds.{JobEnds}
use Rattle.syntax.specs.declared.numerals.Numerals.{Numerals}
use Rattle.linking.specs.Twins.Linking.{program_linked}
use Rattle.running.specs.Twins.Answers.{RanAnswer}
use Rattle.forward.specs.Twins.Running.{run_inputs}
use Rattle.resolve.specs.RunAnswer.{RunLeft}
use Rattle.reading.specs.Twins.BothCells.{BothAnswer, both_over}
use Rattle.reading.specs.declared.both.Both.{Both}
use Rattle.refusals.specs.declared.refusal.Refused.{Refused}
use Rattle.run_answers.specs.RunNumbers.{Answer}

abbrev pub RunOut : Answer → List ℕ → List ℕ → RunLeft → Type 0
RunOut r work d w = (r ≡ w.answer) × (work ≡ w.work) × (d ≡ w.cells)

abbrev pub ran_left : List ℕ → RanAnswer → RunLeft
ran_left work w = record { answer = Ok w.ran; work = work; cells = w.answer }

-- the run of accepted texts, whose parts stand in the storages, or a refusal
abbrev pub after_both : (ℕ → JobEnds → Numerals → RanAnswer) → List ℕ → List ℕ → Result Both Refused → RunLeft
after_both f work d (Ok b) = ran_left work (f b.count b.parts b.numerals)
after_both f work d (Err r) = record { answer = Err r; work = work; cells = d }

-- a program of c definitions, linked, and a job's inputs
abbrev pub ran_texts : List ℕ → List ℕ → List ℕ → List ℕ → List ℕ → List ℕ → List ℕ → ℕ → JobEnds → Numerals → RanAnswer
ran_texts marks nums ends heads jmarks jnums a c e k = run_inputs marks heads jmarks jnums e (program_linked marks nums ends heads c (replicate 24582 0)) k.steps a

abbrev pub run_behind : List ℕ → BothAnswer → RunLeft
run_behind d w =
    let j = w.job in
    after_both (ran_texts w.marks w.nums j.placed.ends j.placed.heads j.jmarks j.jnums (zeros d)) j.work d j.placed.texts

unfoldable pub run_texts : List ℕ → List ℕ → List ℕ → List ℕ → RunLeft
run_texts program job work d = run_behind d (both_over true program job work)
