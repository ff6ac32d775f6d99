use mathlib.Core.Path.{◌∙◌, sym as inv}
use Rattle.heap.proofs.ContractLaws.{entry_closed, entry_leaf, entry_made}
use Rattle.heap.proofs.contract.contract_entry.Goals as goal

pub returns-then-known-eq1 : goal.returns-then-known-eq1
returns-then-known-eq1 c =
    let a = c.args in
    entry_closed a.i a.x a.vfrom a.vto a.used a.heap.now a.frame.now c.if-known-eq1.true

pub returns-then-saturating_sub-eq1 : goal.returns-then-saturating_sub-eq1
returns-then-saturating_sub-eq1 c =
    let a = c.args in
    entry_leaf a.i a.x a.vfrom a.vto a.used a.heap.now a.frame.now c.if-known-eq1.false c.from-from.result c.from-to.result c.from-from.ensures c.from-to.ensures
    (inv c.saturating_sub.ensures ∙ c.if-saturating_sub-eq1.true) c.cell-code.result c.cell-code.ensures c.contract_leaf.new.frame c.contract_leaf.ensures

pub returns : goal.returns
returns c =
    let a = c.args in
    entry_made a.i a.x a.vfrom a.vto a.used a.heap.now a.frame.now c.if-known-eq1.false c.from-from.result c.from-to.result c.from-from.ensures c.from-to.ensures
    (λ z. c.if-saturating_sub-eq1.false (c.saturating_sub.ensures ∙ z)) c.replace-w.result c.replace-w.new.heap c.replace-w.ensures c.saturating_sub-2.result c.saturating_sub-2.ensures c.entered.result c.entered.new.frame c.entered.ensures
