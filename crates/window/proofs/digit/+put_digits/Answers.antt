use mathlib.Core.Path.{ap, ◌∙◌, sym}
use Rattle.window.specs.Twins.Sink.{puts}
use Rattle.window.proofs.SinkLaws.{behind}
use Rattle.window.proofs.DigitLaws.{digits_one, digits_more}
use Rattle.window.proofs.digit.+put_digits.Goals as goal

pub returns-then-n-lt10 : goal.returns-then-n-lt10
returns-then-n-lt10 t c = c.put_byte.ensures ∙ ap (puts _) (sym (digits_one _ c.if-n-lt10.true))

pub returns : goal.returns
returns t c = behind _ _ _ c.put_digits-p.ensures c.put_byte-2.ensures ∙ ap (puts _) (sym (digits_more _ c.if-n-lt10.false))
