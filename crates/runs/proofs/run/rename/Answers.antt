use Prim.Native.Nat.{◌+◌}
use mathlib.Core.Path.{◌≡◌, ◌∙◌, sym as inv}
use mathlib.Core.List.{◌∷◌, []}
use native.Mathlib.Omega.{arith}
use lib.Seq.{sets}
use Rattle.sets.specs.Twins.Fill.{spread}
use Rattle.runs.specs.Twins.Runs.{run}
use Rattle.runs.proofs.RunLaws.{below_set, run_end, rename_turn}
use Rattle.runs.proofs.run.rename.Goals as goal

pub loop-i-preserved : goal.loop-i-preserved
loop-i-preserved c =
    let a = c.args in (
      omega arith,
      below_set (a.used + c.loop-i.i) _ c.loop-i.invariant.1 (omega arith),
      c.loop-i.invariant.2 ∙ rename_turn c.loop-i.invariant.1 a.x a.y a.from a.end c.loop-i.i c.renamed.result (omega arith) (omega arith) c.renamed.ensures,
    )

pub returns : goal.returns
returns c =
    let a = c.args in
    let done : sets c.loop-i.heap (a.used + c.loop-i.i) (spread a.x (a.y ∷ []) (run (a.from + c.loop-i.i) a.end a.heap.now)) ≡ c.loop-i.heap =
    rw (run_end (a.from + c.loop-i.i) a.end a.heap.now (omega arith)) in
    inv (c.loop-i.invariant.2 ∙ done)
