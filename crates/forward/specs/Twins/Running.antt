-- A run, over cells of any content.
use Rattle.std.specs.Prelude.{ℕ, zero, suc, ◌+◌, ◌-◌, true, cond, List, eqb, replicate, Result, Ok, Err}
use Rattle.std.specs.declared.ops.ControlFlow.TheVariants.{Continue, Break}
use Rattle.syntax.specs.declared.job_ends.JobEnds.{JobEnds}
use Rattle.heap.specs.declared.configuration.Configuration.{Configuration}
use Rattle.initial.specs.Twins.Beginning.{BegunLeft, main_body, begun_at}
use Rattle.restrictions.specs.declared.failure.Failure.{Failure}
use Rattle.tracing.specs.declared.ask.Asked.TheVariants.{End}
use Rattle.forward.specs.Twins.Next.{ends_at, over_in}
use Rattle.forward.specs.Twins.Turning.{FinishLeft, finished, Turn, TurnLeft, turned}
use Rattle.running.specs.Twins.Answers.{RanAnswer, ran_answer, settled}
use Rattle.run_answers.specs.declared.run.Ran.TheVariants.{Over, NotWithin}

-- on from a turn
abbrev pub after_by : (Configuration → List ℕ → List ℕ → List ℕ → List ℕ → RanAnswer) → Turn → List ℕ → List ℕ → List ℕ → List ℕ → RanAnswer
after_by again (Continue c) h f q d = again c h f q d
after_by again (Break r) h f q d = ran_answer r d

abbrev pub after_turn : (Configuration → List ℕ → List ℕ → List ℕ → List ℕ → RanAnswer) → TurnLeft → RanAnswer
after_turn again w = after_by again w.turn w.heap w.frame w.q w.answer

-- `left` transitions more, behind k
unfoldable pub ran_from : List ℕ → ℕ → ℕ → Configuration → List ℕ → List ℕ → List ℕ → List ℕ → RanAnswer
ran_from code zero k c h f q d = ran_answer NotWithin d
ran_from code (suc left) k c h f q d = after_turn (ran_from code left (k + 1)) (turned code c (k + 1) h f q d)

abbrev pub finished_ran : FinishLeft → RanAnswer
finished_ran w = ran_answer w.ran w.answer

-- "21 .. at the start"; the call of main is the first step
unfoldable pub ran_on : List ℕ → Configuration → ℕ → List ℕ → List ℕ → List ℕ → List ℕ → RanAnswer
ran_on code c steps h f q d =
    cond (over_in c f) (ran_answer Over d)
    (cond (eqb steps 0) (ran_answer NotWithin d)
    (cond (ends_at code c.place) (finished_ran (finished code c End c.place 1 h f d)) (ran_from code (steps - 1) 1 c h f q d)))

abbrev pub run_begun : List ℕ → Result Configuration Failure → ℕ → List ℕ → List ℕ → List ℕ → List ℕ → RanAnswer
run_begun code (Ok c) steps h f q d = ran_on code c steps h f q d
run_begun code (Err e) steps h f q d = ran_answer Over d

abbrev pub run_from_begun : List ℕ → ℕ → List ℕ → BegunLeft → RanAnswer
run_from_begun code steps d w = settled (run_begun code w.answer steps w.heap w.frame w.q d)

-- a run on the job's inputs
unfoldable pub run_inputs : List ℕ → List ℕ → List ℕ → List ℕ → JobEnds → List ℕ → ℕ → List ℕ → RanAnswer
run_inputs marks heads jmarks jnums e code steps d =
    run_from_begun code steps d (begun_at (main_body marks heads) jmarks jnums e true (replicate 65535 0) (replicate 12360 0) (replicate 4096 0))
