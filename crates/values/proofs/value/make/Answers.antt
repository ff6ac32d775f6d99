use native.Mathlib.Omega.{arith}
use Rattle.values.proofs.ValueLaws.{small_made}
use Rattle.values.proofs.value.make.Goals as goal

pub returns-then-saturating_sub-le2 : goal.returns-then-saturating_sub-le2
returns-then-saturating_sub-le2 c =
    let a = c.args in
    small_made a.code.now a.frame.now a.base a.used a.i a.past a.heap.now (omega (arith, c.saturating_sub.ensures, c.if-saturating_sub-le2.true)) c.push_tokens-w.result c.push_tokens-w.new.heap c.push_tokens-w.ensures c.made.result c.made.ensures
