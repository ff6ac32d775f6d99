use mathlib.Core.Path.{refl, ◌∙◌}
use native.Mathlib.Omega.{arith}
use Rattle.lexer.proofs.ChainLaws.{linked_start, linked_turn}
use Rattle.lexer.proofs.LexedLaws.{state, cut_end, cut_shut, turned, length_stored, length_entered}
use Rattle.lexer.proofs.lexer.cut_tokens.Goals as goal

pub loop-i-init : goal.loop-i-init
loop-i-init c =
    let a = c.args in
    let s = linked_start a.symbols.now a.names.now _ a.before c.link_all.ensures in
    (refl, omega arith, refl, refl, refl, refl, refl, s.0, omega arith, s.1)

pub token_from-t-requires : goal.token_from-t-requires
token_from-t-requires c = c.loop-i.invariant.7

pub returns-then-t : goal.returns-then-t
returns-then-t c =
    let a = c.args in
    let more = c.loop-i-test.true in
    let stored = c.store.ensures in
    let e = c.loop-i.invariant.0 ∙ cut_shut a.job a.first.now a.text.now (omega arith) (state c.loop-i.marks c.loop-i.nums c.loop-i.ats c.loop-i.symbols c.loop-i.names c.loop-i.found c.loop-i.known c.loop-i.i c.loop-i.from) c.token_from-t.result c.token_from-t.ensures c.if-t.true in
    rw e (refl, refl, stored.0, stored.1, stored.2, refl, refl)

pub loop-i-preserved : goal.loop-i-preserved
loop-i-preserved c =
    let a = c.args in
    let more = c.loop-i-test.true in
    let st = state c.loop-i.marks c.loop-i.nums c.loop-i.ats c.loop-i.symbols c.loop-i.names c.loop-i.found c.loop-i.known c.loop-i.i c.loop-i.from in
    let t = c.token_from-t.result in
    let stored = c.store.ensures in
    let symbols = c.enter_if.ensures in
    let names = c.enter_if-in-loop-i.ensures in
    let linked = linked_turn t.symbol t.name c.loop-i.symbols c.loop-i.names c.loop-i.chains _ _ _ _ c.loop-i.found c.loop-i.known _ _ t.hash c.shifted_by.result t.at c.loop-i.invariant.7 (omega (arith, c.loop-i.invariant.8)) c.loop-i.invariant.9
    symbols names c.link_if.ensures c.link_if-in-loop-i.ensures c.counted_if-found.ensures c.counted_if-known.ensures in (
      c.loop-i.invariant.0 ∙ turned a.job a.first.now a.text.now st t (omega arith) c.token_from-t.ensures c.if-t.false
          stored.0 stored.1 stored.2 c.shifted_by.ensures symbols names c.counted_if-found.ensures c.counted_if-known.ensures (omega arith),
      omega arith,
      length_stored c.loop-i.marks c.loop-i.i t.mark stored.0 ∙ c.loop-i.invariant.2,
      length_stored c.loop-i.nums c.loop-i.i t.num stored.1 ∙ c.loop-i.invariant.3,
      length_stored c.loop-i.ats c.loop-i.i t.at stored.2 ∙ c.loop-i.invariant.4,
      length_entered t.symbol c.loop-i.symbols c.loop-i.found t.hash c.shifted_by.result symbols ∙ c.loop-i.invariant.5,
      length_entered t.name c.loop-i.names c.loop-i.known t.hash t.at names ∙ c.loop-i.invariant.6,
      linked.0,
      omega (arith, linked.1, c.loop-i.invariant.8),
      linked.2,
    )

pub returns : goal.returns
returns c =
    let a = c.args in
    let e = c.loop-i.invariant.0 ∙ cut_end a.job a.first.now a.text.now (omega arith) (state c.loop-i.marks c.loop-i.nums c.loop-i.ats c.loop-i.symbols c.loop-i.names c.loop-i.found c.loop-i.known c.loop-i.i c.loop-i.from) in
    rw e (omega arith, refl, refl, refl, refl, refl, refl)
