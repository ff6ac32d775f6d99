use Prim.Native.Nat.{ℕ, ◌+◌}
use mathlib.Core.Path.{◌≡◌, ap, ap₂, ◌∙◌, sym as inv}
use mathlib.Core.Bool.{Bool}
use native.Mathlib.Omega.{arith}
use lib.ListN.{get_or, drop}
use Rattle.runs.specs.Twins.Runs.{count_in, any_variable}
use Rattle.runs.proofs.RunLaws.{met_or, count_next, count_end, one_least, variable_next, variable_done}
use Rattle.runs.proofs.run.look_through.Goals as goal

pub loop-code-preserved : goal.loop-code-preserved
loop-code-preserved c =
    let s = c.args.cells.now in
    let i = c.loop-code.code-index in
    let e = c.one_if-n.ensures in (
      omega (arith, e, one_least (get_or s i 0) c.args.x),
      omega (arith, e, count_next c.args.x i s c.loop-code.n (omega arith)),
      c.loop-code.invariant.2 ∙ variable_next c.loop-code.v i s (omega arith)
          ∙ ap (λ (k : ℕ). met_or k (any_variable (drop (i + 1) s))) (inv c.met_variable-v.ensures),
    )

pub returns : goal.returns
returns c =
    let s = c.args.cells.now in
    let i = c.loop-code.code-index in
    let n : c.loop-code.n ≡ count_in c.args.x s = omega (arith, count_end c.args.x i s (omega arith)) in
    let v = c.loop-code.invariant.2 ∙ variable_done c.loop-code.v i s (omega arith) in
    ap₂ (λ (k : ℕ) (b : Bool). record { count = k; variables = b }) n (inv v)
