-- The text of a run's outcome, its value in cells.
use Rattle.std.specs.Prelude.{ℕ, List, [], ◌∷◌, ◌++◌, take}
use Rattle.language.specs.Bytes.{txt}
use Rattle.listing.specs.Print.{digits}
use Rattle.run_answers.specs.declared.run.Ran.{Ran}
use Rattle.run_answers.specs.declared.run.Ran.TheVariants.{Value, Over, NotWithin}
use Rattle.window.specs.Twins.TreeText.{tree_text}

unfoldable pub value_text : (ℕ → List ℕ) → ℕ → List ℕ → List ℕ
value_text name steps cells = txt "value " ++ digits steps ++ (32 ∷ tree_text name cells) ++ (10 ∷ [])

abbrev pub outcome_text : (ℕ → List ℕ) → List ℕ → Ran → List ℕ
outcome_text name answer (Value steps length) = value_text name steps (take length answer)
outcome_text name answer Over = txt "stop21\n"
outcome_text name answer NotWithin = txt "notwithin\n"
