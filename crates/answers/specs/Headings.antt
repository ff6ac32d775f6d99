-- What the text of a listing's answer begins with: its first line, or the refusal that is all of it.
use Rattle.std.specs.Prelude.{Ok, Err, Result}
use Rattle.refusals.specs.RefusalNumbers.{number_of, letter_of, offset_of}
use Rattle.refusals.specs.declared.refusal.Refused.{Refused}
use Rattle.answers.specs.ListNumbers.{Answer}
use Rattle.answers.specs.declared.list.Listed.{Listed}
use Rattle.answers.specs.declared.heading.RefusalLine.{RefusalLine}

abbrev pub Heading : Type 0
Heading = Result Listed RefusalLine

-- "Refusal: `refused p 3 17` (p program, j job, number, offset)"
abbrev pub refusal_as : Refused → RefusalLine
refusal_as r = record { letter = letter_of r; number = number_of r; offset = offset_of r }

abbrev pub heading_of : Answer → Heading
heading_of (Ok a) = Ok a
heading_of (Err r) = Err (refusal_as r)
