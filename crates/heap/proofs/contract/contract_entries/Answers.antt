use mathlib.Core.Path.{◌∙◌, sym as inv}
use native.Mathlib.Omega.{arith}
use Rattle.heap.proofs.ContractLaws.{entries_end, entries_on, entries_over}
use Rattle.heap.proofs.contract.contract_entries.Goals as goal

pub loop-i-preserved : goal.loop-i-preserved
loop-i-preserved c =
    let a = c.args in
    c.loop-i.invariant
    ∙ entries_on c.loop-i.i c.min-end.result a.x a.vfrom a.vto c.loop-i.now c.loop-i.heap c.loop-i.frame (omega arith)
    c.contract_entry.result c.contract_entry.new.heap c.contract_entry.new.frame c.contract_entry.ensures c.in_ok-now.was

pub returns-in_err-now : goal.returns-in_err-now
returns-in_err-now c =
    let a = c.args in
    rw c.from_residual.ensures (inv (c.loop-i.invariant
    ∙ entries_over c.loop-i.i c.min-end.result a.x a.vfrom a.vto c.loop-i.now c.loop-i.heap c.loop-i.frame (omega arith)
    c.contract_entry.result c.contract_entry.new.heap c.contract_entry.new.frame c.contract_entry.ensures c.in_err-now.was))

pub returns : goal.returns
returns c =
    let a = c.args in
    inv (c.loop-i.invariant ∙ entries_end c.loop-i.i c.min-end.result a.x a.vfrom a.vto c.loop-i.now c.loop-i.heap c.loop-i.frame (omega arith))
