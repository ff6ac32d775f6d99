use mathlib.Core.Path.{◌≡◌, ◌∙◌, sym}
use native.Mathlib.Omega.{arith}
use lib.ListN.{length, set}
use borrow.Author.Tests.{ne_eqb}
use Rattle.telling.proofs.NumberLaws.{padded_none, one_more, all_written}
use Rattle.telling.proofs.numbers.write_numbers.Goals as goal

pub loop-i-init : goal.loop-i-init
loop-i-init c = sym (padded_none c.args.numbers.now c.args.said.now)

pub loop-i-preserved : goal.loop-i-preserved
loop-i-preserved c =
    let a = c.args in
    let i = c.loop-i.i in
    (λ j. set (c.loop-i.invariant j) i (c.number_at.ensures j)) ∙ one_more a.numbers.now a.said.now i (omega arith)

pub returns : goal.returns
returns c =
    let a = c.args in
    let e : c.loop-i.i ≡ length a.said.now = omega arith in
    rw (ne_eqb _ _ c.if-number-eq-SHORT.false) (c.loop-i.invariant ∙ all_written a.numbers.now a.said.now c.loop-i.i e)
