use mathlib.Core.Path.{◌≡◌, refl, ◌∙◌}
use native.Mathlib.Omega.{arith}
use lib.ListN.{length-set}
use Rattle.restrictions.proofs.RestrictionTurns.{simplify_turn, simplify_end}
use Rattle.restrictions.proofs.restriction.simplify.Goals as goal
use Rattle.restrictions.proofs.restriction.simplify.Goals.{in-Redundant, in-Kept}

pub returns-in-Contradiction : goal.returns-in-Contradiction
returns-in-Contradiction c =
    rw (c.loop-i.invariant.4, simplify_turn _ c.loop-i.i c.loop-i.kept c.loop-i.q c.loop-i-test.true, ← c.kind_of.ensures, c.in-Contradiction.is) (refl, refl)

pub loop-i-preserved : goal.loop-i-preserved
loop-i-preserved c =
    elim c.match-kind_of.branch [
      | in-Redundant w ↦ (
        omega arith,
        omega arith,
        omega arith,
        rw w.q-is c.loop-i.invariant.3,
        rw (w.q-is, w.kept-is, c.loop-i.invariant.4, simplify_turn _ c.loop-i.i c.loop-i.kept c.loop-i.q c.loop-i-test.true, ← c.kind_of.ensures, w.in-Redundant.is),
      )
      | in-Kept w ↦
          let e : c.match-kind_of.q ≡ _ = w.q-is ∙ w.put-in-Kept.ensures in (
            omega arith,
            omega arith,
            omega arith,
            rw (e, length-set, w.put.ensures, length-set) c.loop-i.invariant.3,
            rw (e, w.put.ensures, w.kept-is, c.loop-i.invariant.4, simplify_turn _ c.loop-i.i c.loop-i.kept c.loop-i.q c.loop-i-test.true, ← c.kind_of.ensures, w.in-Kept.is),
          )
    ]

pub returns : goal.returns
returns c =
    rw (c.loop-i.invariant.4, simplify_end _ c.loop-i.i c.loop-i.kept c.loop-i.q c.loop-i-test.false) (refl, refl)
