use Prim.Native.Nat.{◌%◌}
use native.Mathlib.Omega.{arith}
use borrow.Author.Tests.{eq-eqb, ne_eqb}
use Rattle.window.proofs.SinkLaws.{behind}
use Rattle.window.specs.Twins.TreeText.{leaf_text}
use Rattle.window.proofs.leaf.put_leaf.Goals as goal

pub returns-in-1 : goal.returns-in-1
unfolding leaf_text
returns-in-1 c = rw (eq-eqb _ _ c.in-1.is) c.put_symbol.ensures

pub returns-in-2 : goal.returns-in-2
unfolding leaf_text
returns-in-2 c = rw (c.in-2.is) (behind _ _ _ c.put_text-e.ensures c.put_digits.ensures)

pub returns-in_default : goal.returns-in_default
unfolding leaf_text
returns-in_default c = rw (ne_eqb (c.args.code % 4) 1 (λ e. omega arith), ne_eqb (c.args.code % 4) 2 (λ e. omega arith)) (behind _ _ _ c.put_text-a.ensures c.put_digits-in_default.ensures)
