use mathlib.Core.Path.{ap, ◌∙◌, sym}
use Prim.Native.Nat.{◌+◌}
use lib.ListN.{get_or}
use Rattle.lexer.proofs.ChainLaws.{passed_none, passed_less, passed_here, passed_on, passed_all}
use Rattle.lexer.proofs.table.find_linked.Goals as goal

pub loop-k-init : goal.loop-k-init
loop-k-init c =
    let a = c.args in
    let f = a.first.now in
    let g = a.second.now in
    let t = a.table.now in
    let w = a.word.now in
    passed_none f g t a.count a.hash w a.base a.chains.now c.requires c.cell-k.result (c.cell-k.ensures ∙ ap (λ b. get_or a.chains.now (a.base + b) 0) c.bucket.ensures)

pub loop-k-smaller-then-entry_is : goal.loop-k-smaller-then-entry_is
loop-k-smaller-then-entry_is c =
    let a = c.args in
    let f = a.first.now in
    let g = a.second.now in
    let t = a.table.now in
    let w = a.word.now in
    passed_less f g t a.count a.hash w a.base a.chains.now c.requires c.loop-k.found c.loop-k.k c.cell-next.result c.loop-k.invariant c.loop-k-test.true c.cell-next.ensures

pub loop-k-preserved-then-entry_is : goal.loop-k-preserved-then-entry_is
loop-k-preserved-then-entry_is c =
    let a = c.args in
    let f = a.first.now in
    let g = a.second.now in
    let t = a.table.now in
    let w = a.word.now in
    passed_here f g t a.count a.hash w a.base a.chains.now c.requires c.loop-k.found c.loop-k.k c.cell-next.result c.loop-k.invariant c.loop-k-test.true c.cell-next.ensures (sym c.entry_is.ensures ∙ c.if-entry_is.true)

pub loop-k-smaller : goal.loop-k-smaller
loop-k-smaller c =
    let a = c.args in
    let f = a.first.now in
    let g = a.second.now in
    let t = a.table.now in
    let w = a.word.now in
    passed_less f g t a.count a.hash w a.base a.chains.now c.requires c.loop-k.found c.loop-k.k c.cell-next.result c.loop-k.invariant c.loop-k-test.true c.cell-next.ensures

pub loop-k-preserved : goal.loop-k-preserved
loop-k-preserved c =
    let a = c.args in
    let f = a.first.now in
    let g = a.second.now in
    let t = a.table.now in
    let w = a.word.now in
    passed_on f g t a.count a.hash w a.base a.chains.now c.requires c.loop-k.found c.loop-k.k c.cell-next.result c.loop-k.invariant c.loop-k-test.true c.cell-next.ensures (sym c.entry_is.ensures ∙ c.if-entry_is.false)

pub returns : goal.returns
returns c =
    let a = c.args in
    let f = a.first.now in
    let g = a.second.now in
    let t = a.table.now in
    let w = a.word.now in
    passed_all f g t a.count a.hash w c.loop-k.found c.loop-k.k c.loop-k.invariant c.loop-k-test.false
