use lib.ListN.{set}
use Prim.Native.Nat.{◌+◌, ◌-◌, ◌/◌}
use mathlib.Core.Path.{◌≡◌, refl, ap, ◌∙◌, sym}
use native.Mathlib.Omega.{arith}
use lib.ListN.{length}
use Rattle.samples.specs.Twins.Naming.{marked_from}
use Rattle.samples.proofs.Turns.{marked_none, marked_more}
use borrow.Author.Rules.{rules}
use Rattle.samples.proofs.names.mark_taken.Goals as goal

pub loop-k-init : goal.loop-k-init
loop-k-init c =
    let a = c.args in
    let n = length a.symbols.now / 2 in
    let e : n ≡ n - 0 = omega arith in
    (refl, search rules, ap (λ m. marked_from a.program.now a.job.now a.symbols.now m 0 a.taken.now) e)

pub loop-k-preserved : goal.loop-k-preserved
loop-k-preserved c =
    let a = c.args in
    let n = length a.symbols.now / 2 in
    let e = c.put.ensures ∙ ap (λ x. set c.loop-k.taken x 1) c.symbol_number-n.ensures in (
      search rules,
      search rules,
      c.loop-k.invariant.2 ∙ marked_more a.program.now a.job.now a.symbols.now c.loop-k.k c.loop-k.taken (n - c.loop-k.k) (n - (c.loop-k.k + 1)) (omega arith) ∙ ap (marked_from a.program.now a.job.now a.symbols.now (n - (c.loop-k.k + 1)) (c.loop-k.k + 1)) (sym e),
    )

pub returns : goal.returns
returns c =
    let a = c.args in
    let n = length a.symbols.now / 2 in
    sym (c.loop-k.invariant.2 ∙ marked_none a.program.now a.job.now a.symbols.now c.loop-k.k c.loop-k.taken (n - c.loop-k.k) (omega arith))
