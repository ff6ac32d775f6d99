-- The two top definitions: what `list` and `run` answer, as functions of the bytes of the two texts.
use Rattle.std.specs.Prelude.{ℕ, List}
use Rattle.expressions.specs.Expression.{Value, atom}
use Rattle.expressions.specs.Substitution.{ground_all}
use Rattle.expressions.specs.Class.{IOClass}
use Rattle.language.specs.Bytes.{Refusal}
use Rattle.language.specs.Tokens.{Text}
use Rattle.language.specs.Source.{SProg, SJob, prog, class}
use Rattle.language.specs.JobCheck.{lister, runner}
use Rattle.language.specs.Reading.{Reading, accepted, rejected, reading}
use Rattle.semantics.specs.Walk.{Limits, Walked, resolve}
use Rattle.semantics.specs.Runner.{Ran, runner as run_forward}

abbrev pub limits : SJob → Limits
limits j = record { walk = j.walk.num; table = j.table.num }

-- what an accepted program and job come to
abbrev pub walked : SProg → SJob → Walked
walked s j = resolve (prog s) (class j) j.steps.num (limits j)

-- an accepted job of the runner has no variable in its inputs, so that any ground_exp substitution gives them
abbrev pub inputs : SJob → List Value
inputs j = ground_all (record { e = λ n. atom 0; a = λ n. 0 }) (class j).con.ins

abbrev pub ran : SProg → SJob → Ran
ran s j = run_forward (prog s) j.steps.num (inputs j)

-- an answer, or the refusal of a text
pub data Answer (A : Type 0) : Type 0 where
  answered : A → Answer A
  refused : Text → Refusal → Answer A

abbrev pub answer_of : {A : Type 0} → (SProg → SJob → A) → Reading → Answer A
answer_of f (accepted s j) = answered (f s j)
answer_of f (rejected t r) = refused t r

-- a listing with the job's class, whose variables it is printed by
pub record Listed : Type 0 where
  pub job : IOClass
  pub walked : Walked

unfoldable pub list : List ℕ → List ℕ → Answer Listed
unfolding reading resolve
list p j = answer_of (λ s t. record { job = class t; walked = walked s t }) (reading lister p j)

unfoldable pub run : List ℕ → List ℕ → Answer Ran
unfolding reading run_forward
run p j = answer_of ran (reading runner p j)
