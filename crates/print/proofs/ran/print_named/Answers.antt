use Rattle.print.specs.Twins.Names.{found_in, text_names}
use Rattle.print.specs.Twins.RanText.{named_text}
use mathlib.Core.Path.{ap, ◌∙◌}
use Rattle.print.proofs.ran.print_named.Goals as goal

pub returns : goal.returns
unfolding named_text text_names
returns c = let e = c.read-both.ensures in rw (← e.7, ← (c.found_in-found.ensures ∙ ap found_in e.0)) c.print_outcome.ensures
