-- Where the answer's cells hold the value of a run, its text is what `print_ran` prints.
use Prim.Native.Nat.{ℕ}
use mathlib.Core.Path.{◌≡◌, refl, ap, ap₂, ◌∙◌}
use mathlib.Core.List.{List, [], ◌∷◌, ◌++◌}
use lib.ListN.{length, get_or}
use lib.Seq.{take-append_seam}
use Rattle.expressions.specs.Expression.{Value, atom, cons}
use Rattle.language.specs.Bytes.{txt}
use Rattle.language.specs.Words.{Word}
use Rattle.semantics.specs.Embedding.{embed}
use Rattle.semantics.specs.Runner.{Ran, value, ran_over, not_within}
use Rattle.listing.specs.Print.{digits, print, print_value}
use Rattle.listing.specs.Text.{print_ran}
use Rattle.sets.specs.Cells.{cells}
use Rattle.run_answers.specs.declared.run.Ran.{Ran as Outcome}
use Rattle.run_answers.specs.declared.run.Ran.TheVariants.{Value as ValueOf, Over, NotWithin}
use Rattle.window.specs.Twins.TreeText.{tree_text}
use Rattle.writer.specs.Twins.OutcomeText.{value_text, outcome_text}
use Rattle.print.proofs.TreeLaws.{tree_printed}

-- a value in cells: how many there are, and what a run's outcome is
abbrev pub value_cells : Value → List ℕ
value_cells v = cells (embed v)

abbrev pub outcome_of : Ran → Outcome
outcome_of (value s v) = ValueOf s (length (value_cells v))
outcome_of ran_over = Over
outcome_of not_within = NotWithin

abbrev pub answer_of : Ran → List ℕ
answer_of (value s v) = value_cells v
answer_of ran_over = []
answer_of not_within = []

pub print_embed : (ns : List Word) (v : Value) → print ns (embed v) ≡ print_value ns v
print_embed ns (atom z) = refl
print_embed ns (cons u v) = ap₂ (λ (a b : List ℕ). txt "(cons " ++ a ++ (32 ∷ b) ++ (41 ∷ [])) (print_embed ns u) (print_embed ns v)

module _ (ns : List Word) (name : ℕ → List ℕ) (named : (z : ℕ) → name z ≡ 39 ∷ get_or ns z []) where
  pub outcome_printed : (r : Ran) (rest : List ℕ) → outcome_text name (answer_of r ++ rest) (outcome_of r) ≡ print_ran ns r
  unfolding value_text
  outcome_printed (value s v) rest =
      ap (λ (t : List ℕ). txt "value " ++ digits s ++ (32 ∷ t) ++ (10 ∷ []))
      (ap (tree_text name) (take-append_seam (value_cells v) rest) ∙ tree_printed ns name named (embed v) ∙ print_embed ns v)
  outcome_printed ran_over rest = refl
  outcome_printed not_within rest = refl
