-- The walk of a job: what each function of job.rt answers and leaves.
use Rattle.std.specs.Prelude.{ℕ, false, cond, List, eqb, replicate, Result, Ok, Err}
use Rattle.restrictions.specs.declared.failure.Failure.{Failure}
use Rattle.restrictions.specs.declared.failure.Failure.TheVariants.{Contradiction, Over as BegunOver}
use Rattle.syntax.specs.declared.job_ends.JobEnds.{JobEnds}
use Rattle.syntax.specs.declared.numerals.Numerals.{Numerals}
use Rattle.heap.specs.declared.configuration.Configuration.{Configuration}
use Rattle.values.specs.Twins.Sizes.{kept_nodes}
use Rattle.initial.specs.Twins.Beginning.{BegunLeft, begun_at}
use Rattle.saving.specs.Twins.Saving.{SaveLeft, saved_to}
use Rattle.saving.specs.declared.head.Node.{Node}
use Rattle.constants.specs.Twins.Laying.{constants_laid}
use Rattle.positions.specs.Twins.Used.{with_used}
use Rattle.positions.specs.declared.position.Bounds.{Bounds}
use Rattle.turns.specs.Twins.Choices.{is_over}
use Rattle.turns.specs.Twins.Finding.{walked, nothing_found, counted, cut_off}
use Rattle.turns.specs.Twins.States.{state_at}
use Rattle.walk.specs.Twins.Walking.{WalkedLeft, walked_on}
use Rattle.turns.specs.declared.found.Ending.TheVariants.{Done, Over, Spent}
use Rattle.turns.specs.declared.found.Walked.{Walked}

-- what a walk comes to, and the answer storage
pub record JobLeft : Type 0 where
  pub walked : Walked
  pub answer : List ℕ

abbrev pub job_left : Walked → List ℕ → JobLeft
job_left r a = record { walked = r; answer = a }

abbrev pub bounds_of : Numerals → ℕ → Bounds
bounds_of k base = record { steps = k.steps; walk = k.walk; table = k.table; base = base }

-- behind the first transition
abbrev pub first_node : Configuration → Node
first_node c = record { at = c; steps = 1; depth = 0 }

abbrev pub of_walk : WalkedLeft → JobLeft
of_walk w = job_left w.walked w.answer

abbrev pub walk_saved : List ℕ → Configuration → Numerals → List ℕ → List ℕ → List ℕ → List ℕ → SaveLeft → JobLeft
walk_saved code c k h f q a s =
    of_walk (walked_on code (bounds_of k s.top) (state_at (record { node = first_node c; top = s.top }) (counted nothing_found)) h f q (replicate 1000 0) s.saved a)

unfoldable pub walk_first : List ℕ → Configuration → Numerals → List ℕ → List ℕ → List ℕ → List ℕ → JobLeft
walk_first code c k h f q a = walk_saved code c k h f q a (saved_to f q (first_node c) 0 0 (replicate 16384 0))

unfoldable pub walk_begun : List ℕ → Configuration → Numerals → List ℕ → List ℕ → List ℕ → List ℕ → JobLeft
walk_begun code c k h f q a =
    cond (is_over (kept_nodes c.entries c.neqs f)) (job_left (walked Over nothing_found) a)
    (cond (eqb k.steps 0) (job_left (walked Done (cut_off nothing_found)) a) (cond (eqb k.walk 0) (job_left (walked Spent nothing_found) a) (walk_first code c k h f q a)))

abbrev pub on_begun : List ℕ → ℕ → Numerals → List ℕ → BegunLeft → Result Configuration Failure → JobLeft
on_begun code count k a w (Ok c) = let l = constants_laid count c.used code w.heap in walk_begun l.code (with_used c l.used) k l.heap w.frame w.q a
on_begun code count k a w (Err Contradiction) = job_left (walked Done nothing_found) a
on_begun code count k a w (Err BegunOver) = job_left (walked Over nothing_found) a

unfoldable pub walk_job : List ℕ → ℕ → ℕ → List ℕ → List ℕ → JobEnds → Numerals → List ℕ → JobLeft
walk_job code count body jmarks jnums parts k a =
    let w = begun_at body jmarks jnums parts false (replicate 65535 0) (replicate 12360 0) (replicate 4096 0) in on_begun code count k a w w.answer

-- where the constants stand: in the program as it was, unless the walk begins
abbrev pub code_begun : List ℕ → ℕ → BegunLeft → Result Configuration Failure → List ℕ
code_begun code count w (Ok c) = (constants_laid count c.used code w.heap).code
code_begun code count w (Err Contradiction) = code
code_begun code count w (Err BegunOver) = code

unfoldable pub code_laid : List ℕ → ℕ → ℕ → List ℕ → List ℕ → JobEnds → List ℕ
code_laid code count body jmarks jnums parts =
    let w = begun_at body jmarks jnums parts false (replicate 65535 0) (replicate 12360 0) (replicate 4096 0) in code_begun code count w w.answer

pub record JobLaid : Type 0 where
  pub left : JobLeft
  pub code : List ℕ

abbrev pub job_laid : JobLeft → List ℕ → JobLaid
job_laid w code = record { left = w; code = code }

abbrev pub walk_laid : List ℕ → ℕ → ℕ → List ℕ → List ℕ → JobEnds → Numerals → List ℕ → JobLaid
walk_laid code count body jmarks jnums parts k a = job_laid (walk_job code count body jmarks jnums parts k a) (code_laid code count body jmarks jnums parts)
