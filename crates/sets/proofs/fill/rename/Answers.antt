use Prim.Native.Nat.{min}
use mathlib.Core.Path.{◌≡◌, sym}
use native.Mathlib.Omega.{arith}
use native.Mathlib.Numerals.{add-one}
use lib.ListN.{length, get_or, length-set}
use lib.Dec.{eqb}
use mathlib.Core.Bool.{cond}
use borrow.Author.Tests.{eq-eqb, ne_eqb}
use Rattle.sets.proofs.Turns.{renamed_none, renamed_at, renamed_next, renamed_min}
use borrow.Author.Rules.{rules}
use Rattle.sets.proofs.fill.rename.Goals as goal
use Rattle.sets.proofs.fill.rename.Goals.{then-code-x, else-code-x}

pub loop-i-init : goal.loop-i-init
loop-i-init c =
    let a = c.args in
    (search rules, search rules, search rules, sym (renamed_none a.x a.y a.s.now))

pub loop-i-preserved : goal.loop-i-preserved
loop-i-preserved c =
    let a = c.args in
    let i = c.loop-i.i in
    let s = a.s.now in
    let at : get_or c.loop-i.s i 0 ≡ get_or s i 0 = rw c.loop-i.invariant.3 (renamed_at a.x a.y i s) in
    let e : c.if-code-x.s ≡ cond (eqb (get_or s i 0) a.x) a.y (get_or s i 0) =
    elim c.if-code-x.branch [ then-code-x w ↦ rw (← at, eq-eqb _ _ w.if-code-x.true) w.s-is | else-code-x w ↦ rw (← at, ne_eqb _ _ w.if-code-x.false) w.s-is ] in (
      search rules,
      search rules,
      rw length-set c.loop-i.invariant.2,
      rw (e, c.loop-i.invariant.3, add-one i) (renamed_next a.x a.y i s (omega arith)),
    )

pub returns : goal.returns
returns c =
    let a = c.args in
    let e : c.loop-i.i ≡ min a.n (length a.s.now) = omega arith in
    rw (c.loop-i.invariant.3, e) (renamed_min a.x a.y a.n a.s.now)
