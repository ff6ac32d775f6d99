use Prim.Native.Nat.{ℕ, ◌+◌, ◌-◌}
use mathlib.Core.Path.{ap, ◌∙◌, sym as inv}
use mathlib.Core.List.{List}
use native.Mathlib.Omega.{arith}
use lib.Seq.{sets}
use Rattle.std.specs.Prelude.{Some}
use Rattle.sets.specs.Twins.Fill.{fill_answer, spread}
use Rattle.runs.specs.Twins.Runs.{run, count_in, spread_size}
use Rattle.runs.proofs.RunLaws.{filled_over, filled_done, size_ones, value_size, value_run, value_one, clipped}
use Rattle.runs.proofs.run.append_filled.Goals as goal

pub filled_size-all-requires : goal.filled_size-all-requires
filled_size-all-requires c = (omega arith, c.requires.2 ∙ ap (count_in c.args.x) (inv c.part.ensures))

pub returns-then-used-all : goal.returns-then-used-all
returns-then-used-all c =
    let a = c.args in
    rw (filled_over a.from a.end a.x a.vfrom a.vto a.used a.heap.now a.end c.min-vend.result (c.min-vend.result - c.min-start.result) c.filled_size-all.result (clipped a.end a.used c.requires.0) c.min-vend.ensures (value_size a.vfrom c.min-vend.result c.min-start.result c.min-start.ensures) (c.filled_size-all.ensures ∙ ap (spread_size a.x (c.min-vend.result - c.min-start.result)) c.part.ensures) (omega arith))

pub rename-requires : goal.rename-requires
rename-requires c =
    let a = c.args in
    let e = size_ones a.x (c.min-vend.result - c.min-start.result) a.from a.end a.heap.now c.if-size-eq1.true in
    (omega arith, omega (arith, e, c.filled_size-all.ensures ∙ ap (spread_size a.x (c.min-vend.result - c.min-start.result)) c.part.ensures))

pub returns-then-size-eq1 : goal.returns-then-size-eq1
returns-then-size-eq1 c =
    let a = c.args in
    let o = value_one a.vfrom c.min-vend.result c.min-start.result a.heap.now c.min-start.ensures c.if-size-eq1.true in
    ap (fill_answer (Some (a.used + c.filled_size-all.result))) (c.rename.ensures ∙ ap (λ (w : List ℕ). sets a.heap.now a.used (spread a.x w (run a.from a.end a.heap.now))) (inv o))
    ∙ inv (filled_done a.from a.end a.x a.vfrom a.vto a.used a.heap.now a.end c.min-vend.result (c.min-vend.result - c.min-start.result) c.filled_size-all.result (clipped a.end a.used c.requires.0) c.min-vend.ensures (value_size a.vfrom c.min-vend.result c.min-start.result c.min-start.ensures) (c.filled_size-all.ensures ∙ ap (spread_size a.x (c.min-vend.result - c.min-start.result)) c.part.ensures) (omega arith))

pub returns : goal.returns
returns c =
    let a = c.args in
    let o = value_run a.vfrom c.min-vend.result c.min-start.result a.heap.now c.min-start.ensures in
    ap (fill_answer (Some (a.used + c.filled_size-all.result))) (c.fill.ensures ∙ ap (λ (w : List ℕ). sets a.heap.now a.used (spread a.x w (run a.from a.end a.heap.now))) o)
    ∙ inv (filled_done a.from a.end a.x a.vfrom a.vto a.used a.heap.now a.end c.min-vend.result (c.min-vend.result - c.min-start.result) c.filled_size-all.result (clipped a.end a.used c.requires.0) c.min-vend.ensures (value_size a.vfrom c.min-vend.result c.min-start.result c.min-start.ensures) (c.filled_size-all.ensures ∙ ap (spread_size a.x (c.min-vend.result - c.min-start.result)) c.part.ensures) (omega arith))
