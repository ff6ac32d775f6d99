use mathlib.Core.Path.{ap, sym, ◌∙◌}
use Rattle.language.specs.Words.{begins}
use Rattle.lexer.proofs.TableMeaning.{other_word}
use Rattle.lexer.proofs.table.stands_at.Goals as goal

pub returns-then-begins : goal.returns-then-begins
returns-then-begins c = rw (← c.word_at.ensures) c.same.ensures

pub returns-else-begins : goal.returns-else-begins
returns-else-begins c = c.if-begins.false ∙ sym (other_word c.args.text.now c.args.at c.args.word.now (ap (begins c.args.word.now) (sym c.part.ensures) ∙ sym c.begins.ensures ∙ c.if-begins.false))
