use mathlib.Core.Path.{ap, ◌∙◌, sym as inv}
use native.Mathlib.Omega.{arith}
use Rattle.linking.specs.declared.code.Link.{Link}
use Rattle.constants.specs.Twins.Laying.{laid_one}
use Rattle.constants.proofs.ConstantLaws.{makes_room}
use Rattle.constants.proofs.lay.lay_one.Goals as goal

pub lay-end-requires : goal.lay-end-requires
lay-end-requires c =
    let a = c.args in
    let e = ap (λ (k : Link). k.past) c.link_at.ensures in
    omega (arith, e, makes_room a.code.now a.i a.s a.limit (omega arith) (inv c.is_constant.ensures ∙ c.if-is_constant.true))

pub returns-then-is_constant : goal.returns-then-is_constant
unfolding laid_one
returns-then-is_constant c = rw (← c.is_constant.ensures, c.if-is_constant.true, ← c.link_at.ensures, ← c.from-past.ensures, ← c.lay-end.ensures.1, ← c.lay-end.ensures.0, ← c.enter.ensures)

pub returns : goal.returns
unfolding laid_one
returns c = rw (← c.is_constant.ensures, c.if-is_constant.false, ← c.enter-2.ensures)
