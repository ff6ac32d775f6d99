use Prim.Native.Nat.{◌-◌}
use native.Mathlib.Omega.{arith}
use Rattle.checker.specs.Twins.StoredAt.{tag_at, num_at}
use Rattle.checker.proofs.CheckOpenings.{named_more, named_none}
use Rattle.checker.proofs.check_expressions.is_named.Goals as goal

pub returns-then-same_name : goal.returns-then-same_name
returns-then-same_name c =
    let a = c.args in
    rw (c.loop-k.invariant, named_more (tag_at a.ts.marks.now a.ts.n) (num_at a.ts.nums.now a.ts.n) a.cells.now c.loop-k.k (c.loop-k.k - 1) a.i (omega arith), ← c.index.ensures, ← c.same_name.ensures, c.if-same_name.true)

pub loop-k-preserved : goal.loop-k-preserved
loop-k-preserved c =
    let a = c.args in
    rw (c.loop-k.invariant, named_more (tag_at a.ts.marks.now a.ts.n) (num_at a.ts.nums.now a.ts.n) a.cells.now c.loop-k.k (c.loop-k.k - 1) a.i (omega arith), ← c.index.ensures, ← c.same_name.ensures, c.if-same_name.false)

pub returns : goal.returns
returns c =
    let a = c.args in
    rw (c.loop-k.invariant, named_none (tag_at a.ts.marks.now a.ts.n) (num_at a.ts.nums.now a.ts.n) a.cells.now c.loop-k.k a.i (omega arith))
