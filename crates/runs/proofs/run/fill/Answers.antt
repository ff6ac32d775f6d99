use mathlib.Core.Path.{ap, ◌∙◌, sym as inv}
use native.Mathlib.Omega.{arith}
use Rattle.runs.specs.Twins.Runs.{first_in}
use Rattle.runs.proofs.RunLaws.{filling_end, filling_turn, first_at, first_fits}
use Rattle.runs.proofs.run.fill.Goals as goal

pub overflow_add-i : goal.overflow_add-i
overflow_add-i c =
    let found = inv c.in-Some.is ∙ c.find.ensures ∙ ap (first_in c.args.x) c.part.ensures in
    omega (arith, (first_at c.loop-n.invariant c.in-Some.n found).most)

pub overflow_add-k : goal.overflow_add-k
overflow_add-k c =
    let found = inv c.in-Some.is ∙ c.find.ensures ∙ ap (first_in c.args.x) c.part.ensures in
    omega (arith, first_fits c.loop-n.invariant c.in-Some.n found)

pub overflow_add-k-in-Some : goal.overflow_add-k-in-Some
overflow_add-k-in-Some c =
    let found = inv c.in-Some.is ∙ c.find.ensures ∙ ap (first_in c.args.x) c.part.ensures in
    omega (arith, first_fits c.loop-n.invariant c.in-Some.n found)

pub overflow_add-i-in-Some : goal.overflow_add-i-in-Some
overflow_add-i-in-Some c =
    let found = inv c.in-Some.is ∙ c.find.ensures ∙ ap (first_in c.args.x) c.part.ensures in
    omega (arith, (first_at c.loop-n.invariant c.in-Some.n found).most)

pub overflow_add-i-in-Some-2 : goal.overflow_add-i-in-Some-2
overflow_add-i-in-Some-2 c =
    let found = inv c.in-Some.is ∙ c.find.ensures ∙ ap (first_in c.args.x) c.part.ensures in
    omega (arith, (first_at c.loop-n.invariant c.in-Some.n found).most)

pub loop-n-smaller : goal.loop-n-smaller
loop-n-smaller c =
    let found = inv c.in-Some.is ∙ c.find.ensures ∙ ap (first_in c.args.x) c.part.ensures in
    omega (arith, (first_at c.loop-n.invariant c.in-Some.n found).most)

pub loop-n-preserved : goal.loop-n-preserved
loop-n-preserved c =
    let found = inv c.in-Some.is ∙ c.find.ensures ∙ ap (first_in c.args.x) c.part.ensures in
    filling_turn c.loop-n.invariant c.in-Some.n found c.append.result c.append.new.heap c.append.ensures c.append-in-Some.result c.append-in-Some.new.heap c.append-in-Some.ensures

pub returns : goal.returns
returns c =
    let lacking = inv c.in_default.is ∙ c.find.ensures ∙ ap (first_in c.args.x) c.part.ensures in
    filling_end c.loop-n.invariant lacking c.append-2.result c.append-2.new.heap c.append-2.ensures
