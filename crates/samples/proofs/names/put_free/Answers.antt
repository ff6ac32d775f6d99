use Prim.Native.Nat.{◌+◌, ◌-◌}
use mathlib.Core.Path.{refl, ap, ◌∙◌, sym}
use native.Mathlib.Omega.{arith}
use Rattle.samples.specs.Twins.Naming.{free_from}
use Rattle.samples.proofs.Turns.{free_none, free_one, free_other}
use borrow.Author.Rules.{rules}
use Rattle.samples.proofs.names.put_free.Goals as goal

pub loop-n-init : goal.loop-n-init
loop-n-init c = (search rules, search rules, search rules, refl)

pub loop-n-preserved : goal.loop-n-preserved
loop-n-preserved c =
    let a = c.args in (
      search rules,
      search rules,
      search rules,
      c.loop-n.invariant.3 ∙ free_one a.taken.now c.loop-n.n c.loop-n.at c.loop-n.table (5121 - c.loop-n.n) (5121 - (c.loop-n.n + 1)) (omega arith) c.if-taken-n-ne0.false ∙ ap (free_from a.taken.now (5121 - (c.loop-n.n + 1)) (c.loop-n.n + 1) (c.loop-n.at + 1)) (sym c.put.ensures),
    )

pub loop-n-preserved-then-taken-n-ne0 : goal.loop-n-preserved-then-taken-n-ne0
loop-n-preserved-then-taken-n-ne0 c =
    let a = c.args in
    (search rules, search rules, search rules, c.loop-n.invariant.3 ∙ free_other a.taken.now c.loop-n.n c.loop-n.at c.loop-n.table (5121 - c.loop-n.n) (5121 - (c.loop-n.n + 1)) (omega arith) c.if-taken-n-ne0.true)

pub returns : goal.returns
returns c =
    let a = c.args in
    sym (c.loop-n.invariant.3 ∙ free_none a.taken.now c.loop-n.n c.loop-n.at c.loop-n.table (5121 - c.loop-n.n) (omega arith))
