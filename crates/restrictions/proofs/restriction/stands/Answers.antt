use Prim.Native.Nat.{◌+◌, ◌-◌, ◌*◌}
use mathlib.Core.Path.{◌≡◌}
use native.Mathlib.Omega.{arith}
use lib.ListN.{get_or}
use Rattle.restrictions.proofs.RestrictionTurns.{either_written, either_turned, either_none, stands_turn, stands_end}
use borrow.Author.Rules.{rules}
use Rattle.restrictions.proofs.restriction.stands.Goals as goal
use Rattle.restrictions.proofs.restriction.stands.Goals.{else-a-x-via-then-a-x+else-b-y, else-a-x-via-else-a-x, else-a-y-via-then-a-y+else-b-x, else-a-y-via-else-a-y}

pub loop-i-init : goal.loop-i-init
loop-i-init c =
    let a = c.args in
    let e : a.n - 0 ≡ a.n = omega arith in
    (search rules, search rules, rw e)

pub returns-then-b-y : goal.returns-then-b-y
returns-then-b-y c =
    let a = c.args in
    rw (c.loop-i.invariant.2, stands_turn a.n a.x a.y a.q.now c.loop-i.i (omega arith), either_written a.x a.y _ _ c.if-a-x.true c.if-b-y.true)

pub returns-then-b-x : goal.returns-then-b-x
returns-then-b-x c =
    let a = c.args in
    rw (c.loop-i.invariant.2, stands_turn a.n a.x a.y a.q.now c.loop-i.i (omega arith), either_turned a.x a.y _ _ c.if-a-y.true c.if-b-x.true)

pub loop-i-preserved : goal.loop-i-preserved
loop-i-preserved c =
    let a = c.args in
    let first : get_or a.q.now (2 * c.loop-i.i) 0 ≡ a.x → get_or a.q.now (2 * c.loop-i.i + 1) 0 ≡ a.y → ⊥ = elim c.else-a-x.branch [ else-a-x-via-then-a-x+else-b-y w ↦ (λ e f. w.if-b-y.false f) | else-a-x-via-else-a-x w ↦ (λ e f. w.if-a-x.false e) ] in
    let second : get_or a.q.now (2 * c.loop-i.i) 0 ≡ a.y → get_or a.q.now (2 * c.loop-i.i + 1) 0 ≡ a.x → ⊥ = elim c.else-a-y.branch [ else-a-y-via-then-a-y+else-b-x w ↦ (λ e f. w.if-b-x.false f) | else-a-y-via-else-a-y w ↦ (λ e f. w.if-a-y.false e) ] in
    (omega arith, omega arith, rw (c.loop-i.invariant.2, stands_turn a.n a.x a.y a.q.now c.loop-i.i (omega arith), either_none a.x a.y _ _ first second))

pub returns : goal.returns
returns c =
    let a = c.args in
    rw (c.loop-i.invariant.2, stands_end a.n a.x a.y a.q.now c.loop-i.i (omega arith))
