-- What a walk that isn't stopped ends as (01, "The walk and what stops it").
use Rattle.std.specs.Prelude.{Bool, cond}
use Rattle.answers.specs.declared.list.Word.{Word}
use Rattle.answers.specs.declared.list.Word.TheVariants.{Whole, Cut}

abbrev pub unstopped_as : Bool → Word
unstopped_as cut = cond cut Cut Whole
