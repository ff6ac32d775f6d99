-- Demand 2 for the value that stands in the answer storage.
use Rattle.std.specs.Prelude.{ℕ, ◌≡◌, List, Ok, Err}
use Rattle.expressions.specs.Expression.{Value}
use Rattle.language.specs.Program.{Prog}
use Rattle.semantics.specs.Embedding.{embed}
use Rattle.semantics.specs.Runner.{Ran, value}
use Rattle.semantics.specs.Answer as meaning
use Rattle.semantics.specs.Demand2.{NeverStuck, RunnerCorrect}
use Rattle.semantics.specs.Stops.{RunnerStops}
use Rattle.lines.specs.LineReading.{read_tree}
use Rattle.resolve.specs.RunAnswer.{answer_of}
use Rattle.run_answers.specs.RunNumbers.{Answer, length_of}

-- what a run came to: no refusal
abbrev pub Answered : Answer → Type 0
Answered (Ok r) = Unit {0}
Answered (Err r) = ⊥

-- The answer r and the value read back from the answer storage d are a run of which demand 2 holds: p the program, n the job's steps, is its inputs.
pub record StoredRun (p : Prog) (n : ℕ) (is : List Value) (r : Answer) (d : List ℕ) : Type 0 where
  pub ran : Ran
  pub answer : r ≡ answer_of (meaning.Answer.answered ran)
  pub stored : (m : ℕ) (v : Value) → ran ≡ value m v → (read_tree (length_of r) d).tree ≡ embed v
  -- "an accepted program never gets stuck"; no state binds a bound name (02, request 1)
  pub never_stuck : NeverStuck p is
  -- "the runner gives the value and step count of the published evaluation rules of TSG"
  pub correct : RunnerCorrect p n is ran
  -- "It stops only with 21 or "not within N""
  pub stops : RunnerStops p n is ran
