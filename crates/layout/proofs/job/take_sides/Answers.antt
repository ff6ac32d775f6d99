use Prim.Native.Nat.{◌-◌, min}
use mathlib.Core.Path.{◌≡◌}
use native.Mathlib.Omega.{arith}
use Rattle.layout.specs.Twins.Laying.{sides_taken}
use Rattle.layout.proofs.job.take_sides.Goals as goal

pub returns-then-copy : goal.returns-then-copy
unfolding sides_taken
returns-then-copy c =
    let n : c.args.to - min c.args.from c.args.to ≡ c.saturating_sub-n.result = omega arith in
    rw (n, ← c.copy.ensures.0, c.if-copy.true, ← c.copy.ensures.1, ← c.simplify.ensures.0, ← c.simplify.ensures.1)

pub returns : goal.returns
unfolding sides_taken
returns c =
    let n : c.args.to - min c.args.from c.args.to ≡ c.saturating_sub-n.result = omega arith in
    rw (n, ← c.copy.ensures.0, c.if-copy.false, ← c.copy.ensures.1)
