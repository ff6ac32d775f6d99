-- The number and values of each case of what `run` answers (01, "From the input", "From the state").
use Rattle.std.specs.Prelude.{ℕ, ◌≤◌, cond, List, [], ◌∷◌, Ok, Err, Result, eqb, get_or}
use Rattle.refusals.specs.RefusalNumbers as refused
pub use Rattle.refusals.specs.AnswerNumbers.{letter_of, offset_of}
use Rattle.refusals.specs.AnswerNumbers.{unless_refused}
use Rattle.refusals.specs.declared.refusal.Refused.{Refused}
use Rattle.run_answers.specs.declared.run.Ran.{Ran}
use Rattle.run_answers.specs.declared.run.Ran.TheVariants.{Value, Over, NotWithin}

-- a run, or the refusal of a text or of storage that is too short
abbrev pub Answer : Type 0
Answer = Result Ran Refused

-- "From the input (number and byte offset, ..)": 1 to 12, and 13 (02, request 1); "20 lent storage shorter than its least length"; "It stops
-- only with 21 or "not within N"": a value and "not within N" have no number
abbrev pub number_of : Answer → ℕ
number_of (Ok (Value steps length)) = 0
number_of (Ok Over) = 21
number_of (Ok NotWithin) = 0
number_of (Err r) = refused.number_of r

-- "a run's steps are its transitions"; "After these two and after every refusal, 20 included, its value has length 0 and its step count is 0."
abbrev pub steps_of : Answer → ℕ
steps_of (Ok (Value steps length)) = steps
steps_of (Ok Over) = 0
steps_of (Ok NotWithin) = 0
steps_of (Err r) = 0

-- "The runner's value stands in its answer storage": its cells; else "its value has length 0"
abbrev pub length_of : Answer → ℕ
length_of (Ok (Value steps length)) = length
length_of (Ok Over) = 0
length_of (Ok NotWithin) = 0
length_of (Err r) = 0

-- what stands in `said` beside the number
abbrev pub said_of : Answer → List ℕ
said_of a = letter_of a ∷ offset_of a ∷ steps_of a ∷ length_of a ∷ []

-- the run of these values; a value has a cell at least
abbrev pub ran_from : ℕ → List ℕ → Ran
ran_from number said =
    cond (eqb number 21) Over
    (cond (eqb (get_or said 3 0) 0) NotWithin
    (Value (get_or said 2 0) (get_or said 3 0)))

-- the answer with this number and these values; 20 has none, and a value has a cell at least
abbrev pub answer_from : ℕ → List ℕ → Answer
answer_from number said = unless_refused number said (ran_from number said)

-- what `run` can answer: a value has a cell at least, and a text is refused with 1 to 13
abbrev pub Numbered : Answer → Type 0
Numbered (Ok (Value steps length)) = 1 ≤ length
Numbered (Ok Over) = Unit {0}
Numbered (Ok NotWithin) = Unit {0}
Numbered (Err r) = refused.Numbered r
