use Prim.Native.Nat.{ℕ, ◌+◌, ◌-◌}
use mathlib.Core.Path.{ap, ◌∙◌, sym as inv}
use mathlib.Core.List.{List, ◌∷◌}
use native.Mathlib.Omega.{arith}
use native.Mathlib.Numerals.{add-one}
use lib.ListN.{length, set}
use lib.Seq.{sets}
use Rattle.linking.specs.declared.code.Link.{Link}
use Rattle.constants.specs.Twins.Laying.{cells_of}
use Rattle.constants.proofs.LayTurns.{cells_here, cells_later, cells_none}
use Rattle.constants.proofs.lay.lay.Goals as goal
use Rattle.constants.proofs.lay.lay.Goals.{then-l-eq-CELL, else-l-eq-CELL}

pub loop-j-preserved : goal.loop-j-preserved
loop-j-preserved c =
    let a = c.args in
    let j = c.loop-j.j in
    let rest : List ℕ = cells_of a.code.now (a.to - (j + 1)) (j + 1) in
    let e = c.link_at-l.ensures in
    elim c.if-l-eq-CELL.branch [
      | then-l-eq-CELL w ↦
          let v = cells_here a.code.now j a.to (omega arith) (inv (ap (λ (k : Link). k.mark) e) ∙ w.if-l-eq-CELL.true) ∙ ap (λ (x : ℕ). x ∷ rest) (inv (ap (λ (k : Link). k.first) e)) in
          rw (w.n-is, w.heap-is) (
            omega arith,
            omega (arith, ap length v),
            c.loop-j.invariant.2 ∙ ap (sets c.loop-j.heap c.loop-j.n) v ∙ ap (λ (x : ℕ). sets (set c.loop-j.heap c.loop-j.n c.link_at-l.result.first) x rest) (inv (add-one c.loop-j.n)),
          )
      | else-l-eq-CELL w ↦
          let v = cells_later a.code.now j a.to (omega arith) (λ z. w.if-l-eq-CELL.false (ap (λ (k : Link). k.mark) e ∙ z)) in
          rw (w.n-is, w.heap-is) (omega arith, omega (arith, ap length v), c.loop-j.invariant.2 ∙ ap (sets c.loop-j.heap c.loop-j.n) v)
    ]

pub returns : goal.returns
returns c =
    let a = c.args in
    let w = cells_none a.code.now c.loop-j.j a.to (omega arith) in
    (omega (arith, ap length w, c.loop-j.invariant.1), inv (c.loop-j.invariant.2 ∙ ap (sets c.loop-j.heap c.loop-j.n) w))
