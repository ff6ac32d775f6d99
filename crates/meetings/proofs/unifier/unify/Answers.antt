use Rattle.meetings.proofs.UnifierTurns.{many_none, many_on, many_end}
use Rattle.meetings.specs.Twins.Unifying.{unified}
use borrow.Author.Tests.{lt-ltb, le-ltb}
use Prim.Native.Nat.{◌-◌}
use mathlib.Core.Path.{◌≡◌, ◌∙◌, sym as inv}
use native.Mathlib.Omega.{arith}
use Rattle.meetings.proofs.unifier.unify.Goals as goal

pub returns-then-class_nodes-gt-NODES : goal.returns-then-class_nodes-gt-NODES
unfolding unified
returns-then-class_nodes-gt-NODES c = rw (← c.class_nodes.ensures, lt-ltb _ _ c.if-class_nodes-gt-NODES.true)

pub loop-init : goal.loop-init
loop-init c = let e : c.bindings_enough-end.result - 0 ≡ c.bindings_enough-end.result = omega arith in rw e

pub returns-in-Break : goal.returns-in-Break
unfolding unified
returns-in-Break c =
    let l = c.loop in
    let w = c.unify_turn.new in
    rw (← c.class_nodes.ensures, le-ltb _ _ c.if-class_nodes-gt-NODES.false, ← c.bindings_enough-end.ensures)
    (many_end l.c l.heap l.frame l.q c.bindings_enough-end.result l.counter w.heap w.frame w.q c.loop-test.true c.in-Break.m c.in-Break.ensures ∙ inv l.invariant)

pub loop-preserved : goal.loop-preserved
loop-preserved c =
    let l = c.loop in
    let w = c.unify_turn.new in
    l.invariant ∙ many_on l.c l.heap l.frame l.q c.bindings_enough-end.result l.counter w.heap w.frame w.q c.loop-test.true c.in-Continue.next c.in-Continue.ensures

pub returns : goal.returns
unfolding unified
returns c =
    let l = c.loop in
    rw (← c.class_nodes.ensures, le-ltb _ _ c.if-class_nodes-gt-NODES.false, ← c.bindings_enough-end.ensures)
    (many_none l.c l.heap l.frame l.q c.bindings_enough-end.result l.counter c.loop-test.false ∙ inv l.invariant)
