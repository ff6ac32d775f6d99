use mathlib.Core.Path.{ap, ◌∙◌, sym as inv}
use native.Mathlib.Omega.{arith}
use Rattle.linking.specs.declared.code.Link.{Link}
use Rattle.constants.proofs.LayTurns.{named_here, named_later, named_none}
use Rattle.constants.proofs.lay.is_named.Goals as goal

pub returns-then-l-eq-NAME : goal.returns-then-l-eq-NAME
returns-then-l-eq-NAME c =
    let a = c.args in
    let e = ap (λ (k : Link). k.mark) c.link_at-l.ensures in
    inv (c.loop-j.invariant ∙ named_here a.code.now c.loop-j.j a.to (omega arith) (inv e ∙ c.if-l-eq-NAME.true))

pub loop-j-preserved : goal.loop-j-preserved
loop-j-preserved c =
    let a = c.args in
    let e = ap (λ (k : Link). k.mark) c.link_at-l.ensures in
    c.loop-j.invariant ∙ named_later a.code.now c.loop-j.j a.to (omega arith) (λ z. c.if-l-eq-NAME.false (e ∙ z))

pub returns : goal.returns
returns c =
    let a = c.args in
    inv (c.loop-j.invariant ∙ named_none a.code.now c.loop-j.j a.to (omega arith))
