use Prim.Native.Nat.{◌+◌, ◌-◌, min}
use mathlib.Core.Path.{◌≡◌, ap, ap₂, ◌∙◌, sym as inv}
use native.Mathlib.Omega.{arith}
use lib.Seq.{sets}
use Rattle.std.specs.Prelude.{Some}
use Rattle.sets.specs.Twins.Fill.{fill_answer}
use Rattle.runs.specs.Twins.Runs.{run}
use Rattle.runs.proofs.RunLaws.{below_set, run_end, written_over, written_done, append_turn}
use Rattle.runs.proofs.run.append.Goals as goal

pub returns-then-used-gt-SIZE : goal.returns-then-used-gt-SIZE
returns-then-used-gt-SIZE c =
    let a = c.args in
    rw (written_over a.used (min a.to a.used - a.from) (run a.from (min a.to a.used) a.heap.now) a.heap.now (omega arith))

pub returns-then-used-size : goal.returns-then-used-size
returns-then-used-size c =
    let a = c.args in
    rw (written_over a.used (min a.to a.used - a.from) (run a.from (min a.to a.used) a.heap.now) a.heap.now (omega arith))

pub loop-i-preserved : goal.loop-i-preserved
loop-i-preserved c =
    let a = c.args in (
      omega arith,
      below_set (a.used + c.loop-i.i) _ c.loop-i.invariant.1 (omega arith),
      c.loop-i.invariant.2 ∙ append_turn c.loop-i.invariant.1 a.from (min a.to a.used) c.loop-i.i (omega arith) (omega arith),
    )

pub returns : goal.returns
returns c =
    let a = c.args in
    let e = min a.to a.used in
    let done : sets c.loop-i.heap (a.used + c.loop-i.i) (run (a.from + c.loop-i.i) e a.heap.now) ≡ c.loop-i.heap =
    rw (run_end (a.from + c.loop-i.i) e a.heap.now (omega arith)) in
    ap₂ fill_answer (ap Some (omega arith)) (inv (c.loop-i.invariant.2 ∙ done))
    ∙ inv (written_done a.used (e - a.from) (run a.from e a.heap.now) a.heap.now (omega arith))
