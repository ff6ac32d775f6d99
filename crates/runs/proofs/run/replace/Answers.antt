use Prim.Native.Nat.{◌-◌}
use mathlib.Core.Path.{ap, ◌∙◌, sym as inv}
use native.Mathlib.Omega.{arith}
use lib.ListN.{length}
use Rattle.runs.specs.Twins.Runs.{seen_in}
use Rattle.runs.proofs.RunLaws.{length_cells_at, replaced_none, replaced_unmoved, replaced_moved}
use Rattle.runs.proofs.run.replace.Goals as goal

-- `replace` looks a run through, and fills it where x stands in it.
pub returns-then-used-gt-SIZE : goal.returns-then-used-gt-SIZE
returns-then-used-gt-SIZE c =
    let a = c.args in
    inv (replaced_none a.from a.to a.x a.vfrom a.vto a.used a.heap.now c.if-used-gt-SIZE.true)

pub look_through-s-requires : goal.look_through-s-requires
look_through-s-requires c =
    let a = c.args in
    omega (arith, ap length c.part.ensures, length_cells_at (c.min-end.result - a.from) a.from a.heap.now)

pub returns-then-n-eq0 : goal.returns-then-n-eq0
returns-then-n-eq0 c =
    let a = c.args in
    replaced_unmoved a.from a.to a.x a.vfrom a.vto a.used a.heap.now (omega arith) c.min-end.result c.min-end.ensures c.look_through-s.result (c.look_through-s.ensures ∙ ap (seen_in a.x) c.part.ensures) c.if-n-eq0.true c.without.result c.without.ensures

pub returns : goal.returns
returns c =
    let a = c.args in
    replaced_moved a.from a.to a.x a.vfrom a.vto a.used a.heap.now (omega arith) c.min-end.result c.min-end.ensures c.look_through-s.result (c.look_through-s.ensures ∙ ap (seen_in a.x) c.part.ensures) c.if-n-eq0.false c.append_filled.result c.append_filled.new.heap c.append_filled.ensures c.moved_by.result c.moved_by.ensures
