use Prim.Native.Nat.{ℕ, ◌+◌}
use mathlib.Core.Path.{◌≡◌, ap₂, ◌∙◌, sym as inv}
use native.Mathlib.Omega.{arith}
use Rattle.meetings.specs.Twins.Differing.{first_difference}
use Rattle.meetings.proofs.DifferenceTurns.{difference_next, difference_apart, difference_over}
use Rattle.meetings.proofs.difference.first_difference.Goals as goal

pub loop-n-init : goal.loop-n-init
loop-n-init c =
    let a = c.args in
    ap₂ (λ (p k : ℕ). first_difference p a.wto k a.uto a.heap.now) (omega arith) (omega arith)

pub returns-then-heap-wfrom : goal.returns-then-heap-wfrom
returns-then-heap-wfrom c =
    let a = c.args in
    difference_apart (a.wfrom + c.loop-n.n) a.wto (a.ufrom + c.loop-n.n) a.uto a.heap.now (omega arith) (omega arith) c.if-heap-wfrom.true ∙ inv c.loop-n.invariant

pub loop-n-preserved : goal.loop-n-preserved
loop-n-preserved c =
    let a = c.args in
    let n = c.loop-n.n in
    c.loop-n.invariant
    ∙ difference_next (a.wfrom + n) a.wto (a.ufrom + n) a.uto a.heap.now (omega arith) (omega arith) c.if-heap-wfrom.false
    ∙ ap₂ (λ (p k : ℕ). first_difference p a.wto k a.uto a.heap.now) (omega arith) (omega arith)

pub returns : goal.returns
returns c =
    let a = c.args in
    let n = c.loop-n.n in
    let e : c.min-most.result ≡ n = omega arith in
    rw e (difference_over (a.wfrom + n) a.wto (a.ufrom + n) a.uto a.heap.now (omega arith) ∙ inv c.loop-n.invariant)
