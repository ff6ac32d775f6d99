use Prim.Native.Nat.{◌-◌}
use mathlib.Core.Path.{sym as inv}
use native.Mathlib.Omega.{arith}
use Rattle.runs.proofs.RunLaws.{run_end, run_part}
use Rattle.runs.proofs.run.part.Goals as goal

pub returns-then-to-from : goal.returns-then-to-from
returns-then-to-from c = let a = c.args in inv (run_end a.from a.to a.heap.now (omega arith))

pub returns : goal.returns
returns c = let a = c.args in run_part (a.to - a.from) a.from a.heap.now (omega arith)
