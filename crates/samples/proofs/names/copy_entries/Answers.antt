use lib.ListN.{set}
use Prim.Native.Nat.{◌+◌, ◌-◌}
use mathlib.Core.Path.{refl, ap, ◌∙◌, sym}
use native.Mathlib.Omega.{arith}
use Rattle.samples.specs.Twins.Naming.{copied_from}
use Rattle.samples.proofs.Turns.{copied_none, copied_more}
use borrow.Author.Rules.{rules}
use Rattle.samples.proofs.names.copy_entries.Goals as goal

pub loop-i-init : goal.loop-i-init
loop-i-init c = (search rules, refl)

pub loop-i-preserved : goal.loop-i-preserved
loop-i-preserved c =
    let a = c.args in
    (search rules, c.loop-i.invariant.1 ∙ copied_more a.symbols.now c.loop-i.i c.loop-i.table (2048 - c.loop-i.i) (2048 - (c.loop-i.i + 1)) (omega arith) ∙ ap (λ x. copied_from a.symbols.now (2048 - (c.loop-i.i + 1)) (c.loop-i.i + 1) (set c.loop-i.table c.loop-i.i x)) (search rules))

pub returns : goal.returns
returns c =
    let a = c.args in
    sym (c.loop-i.invariant.1 ∙ copied_none a.symbols.now c.loop-i.i c.loop-i.table (2048 - c.loop-i.i) (omega arith))
