use native.Mathlib.Omega.{arith}
use mathlib.Core.Path.{ap, ◌∙◌, sym}
use borrow.Author.Tests.{leb-true}
use mathlib.Core.Bool.{cond}
use Rattle.language.specs.Bytes.{within}
use Rattle.language.specs.Words.{fits, long}
use Rattle.words.specs.Twins.Marks.{fit_number}
use Rattle.words.proofs.WordLaws.{number_short}
use Rattle.words.proofs.fit.number_fit.Goals as goal

pub returns-then-is_number : goal.returns-then-is_number
returns-then-is_number c =
    sym (ap fit_number (number_short c.args.word.now c.args.from (sym c.is_numeral.ensures ∙ c.if-not-is_numeral.false) (leb-true _ _ (rw c.saturating_sub.ensures at (sym c.is_number_length.ensures ∙ c.if-is_number_length.true))) (λ k. omega (arith, c.type_inv.word k)) ∙ ap (λ v. cond (within 1 999 v) fits long) (sym c.value.ensures) ∙ ap (λ t. cond t fits long) (sym c.is_number.ensures ∙ c.if-is_number.true)))
