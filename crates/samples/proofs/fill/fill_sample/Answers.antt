use lib.ListN.{get_or}
use Rattle.sets.specs.Twins.Fill.{renamed}
use Prim.Native.Nat.{◌+◌, ◌-◌}
use mathlib.Core.Path.{◌≡◌, ap, ◌∙◌, sym}
use native.Mathlib.Omega.{arith}
use Rattle.samples.specs.Twins.Filling.{sampled_from}
use Rattle.samples.proofs.Turns.{sampled_none, sampled_variable, sampled_other}
use borrow.Author.Rules.{rules}
use Rattle.samples.proofs.fill.fill_sample.Goals as goal

pub loop-i-init : goal.loop-i-init
loop-i-init c =
    let n = c.min-end.result in
    let e : n ≡ n - 0 = omega arith in
    (c.min-end.ensures, search rules, search rules, ap (λ m. sampled_from n m 0 0 c.args.cells.now) e)

pub loop-i-preserved : goal.loop-i-preserved
loop-i-preserved c =
    let n = c.min-end.result in
    let t = sym c.is_variable.ensures ∙ c.if-not-is_variable.false in
    let e = c.rename.ensures ∙ ap (λ x. renamed n (get_or c.loop-i.cells c.loop-i.i 0) x c.loop-i.cells) c.new_code.ensures in (
      search rules,
      search rules,
      search rules,
      c.loop-i.invariant.3 ∙ sampled_variable n c.loop-i.i c.loop-i.k c.loop-i.cells (n - c.loop-i.i) (n - (c.loop-i.i + 1)) (omega arith) t ∙ ap (sampled_from n (n - (c.loop-i.i + 1)) (c.loop-i.i + 1) (c.loop-i.k + 1)) (sym e),
    )

pub loop-i-preserved-then-not-is_variable : goal.loop-i-preserved-then-not-is_variable
loop-i-preserved-then-not-is_variable c =
    let n = c.min-end.result in
    let t = sym c.is_variable.ensures ∙ c.if-not-is_variable.true in
    (search rules, search rules, search rules, c.loop-i.invariant.3 ∙ sampled_other n c.loop-i.i c.loop-i.k c.loop-i.cells (n - c.loop-i.i) (n - (c.loop-i.i + 1)) (omega arith) t)

pub returns : goal.returns
returns c =
    let n = c.min-end.result in
    let s = c.args.cells.now in
    let e : c.loop-i.cells ≡ sampled_from n n 0 0 s = sym (c.loop-i.invariant.3 ∙ sampled_none n c.loop-i.i c.loop-i.k c.loop-i.cells (n - c.loop-i.i) (omega arith)) in
    rw (← c.loop-i.invariant.0) e
