-- The line of a run, from the two texts, the answer and the answer storage of `resolve::run`.
use Rattle.std.specs.Prelude.{ℕ, ◌*◌, true, Ok, Err, List, take, replicate}
use Rattle.listing.specs.Text.{print_refusal}
use Rattle.refusals.specs.RefusalNumbers.{number_of, letter_of, offset_of}
use Rattle.refusals.specs.declared.refusal.Refused.{Refused}
use Rattle.run_answers.specs.RunNumbers.{Answer}
use Rattle.run_answers.specs.declared.run.Ran.{Ran}
use Rattle.print.specs.Twins.Names.{text_names}
use Rattle.window.specs.Twins.TreeText.{symbol_text}
use Rattle.writer.specs.Twins.OutcomeText.{outcome_text}

unfoldable pub named_text : List ℕ → List ℕ → List ℕ → Ran → List ℕ
named_text program job cells ran =
    let w = text_names true program job (replicate 2048 0) in outcome_text (symbol_text program job (take (2 * w.found) w.symbols)) cells ran

abbrev pub refusal_text : Refused → List ℕ
refusal_text r = print_refusal (letter_of r) (number_of r) (offset_of r)

abbrev pub ran_text : List ℕ → List ℕ → List ℕ → Answer → List ℕ
ran_text program job cells (Ok ran) = named_text program job cells ran
ran_text program job cells (Err r) = refusal_text r
