-- What became of a run.
use Rattle.std.specs.Prelude.{Bool, true, false}
use Rattle.codes.specs.declared.outcome.Replaced.{Replaced}
use Rattle.codes.specs.declared.outcome.Replaced.TheVariants.{Closed, Open}

-- what is left of a run that has no x
abbrev pub unmoved : Bool → Replaced
unmoved true = Open
unmoved false = Closed
