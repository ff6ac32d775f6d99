-- The letter, number and offset of a refusal (01, "From the input", "Printing, and cases").
use Rattle.std.specs.Prelude.{ℕ, ◌≤◌}
use Rattle.refusals.specs.declared.refusal.Refused.{Refused}
use Rattle.refusals.specs.declared.refusal.Refused.TheVariants.{Program, Job, Short}

-- "From the input (number and byte offset, ..)": 1 to 12, and 13 (02, request 1); "20 lent storage shorter than its least length"
abbrev pub number_of : Refused → ℕ
number_of (Program r) = r.number
number_of (Job r) = r.number
number_of Short = 20

-- "(p program, j job, number, offset); one that falls on neither text prints `-` for the letter": 112, 106, 45
abbrev pub letter_of : Refused → ℕ
letter_of (Program r) = 112
letter_of (Job r) = 106
letter_of Short = 45

-- "one that falls on neither text prints `-` for the letter and offset 0"
abbrev pub offset_of : Refused → ℕ
offset_of (Program r) = r.offset
offset_of (Job r) = r.offset
offset_of Short = 0

-- what a text can be refused with: 1 to 13
abbrev pub Numbered : Refused → Type 0
Numbered (Program r) = (1 ≤ r.number) × (r.number ≤ 13)
Numbered (Job r) = (1 ≤ r.number) × (r.number ≤ 13)
Numbered Short = Unit {0}
