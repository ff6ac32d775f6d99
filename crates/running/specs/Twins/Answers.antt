-- What a run comes to: what each function of ran.rt answers and leaves.
use Rattle.std.specs.Prelude.{ℕ, List, Option, Some, None}
use Rattle.lent.specs.Storage.{zeros}
use Rattle.run_answers.specs.declared.run.Ran.{Ran}
use Rattle.run_answers.specs.declared.run.Ran.TheVariants.{Value, Over, NotWithin}

-- what a run comes to, and the answer storage
pub record RanAnswer : Type 0 where
  pub ran : Ran
  pub answer : List ℕ

abbrev pub ran_answer : Ran → List ℕ → RanAnswer
ran_answer r d = record { ran = r; answer = d }

abbrev pub ran_by : ℕ → Option ℕ → Ran
ran_by steps (Some n) = Value steps n
ran_by steps None = Over

-- "It stops only with 21 or `not within N`, and then its answer storage is zero"
abbrev pub settled_ran : Ran → List ℕ → RanAnswer
settled_ran (Value s n) d = ran_answer (Value s n) d
settled_ran Over d = ran_answer Over (zeros d)
settled_ran NotWithin d = ran_answer NotWithin d

abbrev pub settled : RanAnswer → RanAnswer
settled w = settled_ran w.ran w.answer
