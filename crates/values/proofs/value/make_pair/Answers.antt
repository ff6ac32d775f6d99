use Rattle.values.proofs.ValueLaws.{pair_made_lem, pair_over}
use Rattle.values.proofs.value.make_pair.Goals as goal

pub returns-in_err-k : goal.returns-in_err-k
returns-in_err-k c =
    let a = c.args in
    rw c.from_residual.ensures (
    pair_over a.code.now a.frame.now a.base a.used a.i a.past c.head_end-j.result a.heap.now c.head_end-j.ensures.0 c.head_end-j.ensures.1 c.head_end-j.ensures.2 c.requires.0
    c.push_tokens.result c.push_tokens.new.heap c.push_tokens.ensures c.in_err-k.was
    )

pub returns : goal.returns
returns c =
    let a = c.args in
    pair_made_lem a.code.now a.frame.now a.base a.used a.i a.past c.head_end-j.result a.heap.now c.head_end-j.ensures.0 c.head_end-j.ensures.1 c.head_end-j.ensures.2 c.requires.0
    c.push_tokens.result c.push_tokens.new.heap c.push_tokens.ensures _ c.in_ok-k.was c.push_tokens-w.result c.push_tokens-w.new.heap c.push_tokens-w.ensures c.known_head.result c.known_head.ensures c.made.result c.made.ensures
