-- What no law of the sets decides, by computed examples: which of two equal forms is kept, which of two variables is bound, and how nodes count.
use Prim.Native.Nat.{ℕ}
use mathlib.Core.Path.{◌≡◌, refl}
use mathlib.Core.Bool.{Bool}
use mathlib.Core.List.{[], ◌∷◌}
use mathlib.Core.Option.{some}
use lib.Dec.{ltb}
use Rattle.expressions.specs.Expression.{AtomicExp, sym, avar, Exp, atm, evar, pair}
use Rattle.expressions.specs.Restriction.{NonEquality, simplify}
use Rattle.expressions.specs.Contraction.{CRPair, bind_e, bind_a}
use Rattle.expressions.specs.Intersection.{meeting, disagreement, common, too_large, unify, intersect, nodes_meeting}

abbrev neq : AtomicExp → AtomicExp → NonEquality
neq x y = record { left = x; right = y }

-- "Non-equalities of two different atoms are dropped, repeats (in either order of sides) after the first too"
simplified : simplify (neq (avar 1) (sym 0) ∷ neq (sym 0) (sym 1) ∷ neq (sym 0) (avar 1) ∷ neq (avar 1) (avar 2) ∷ neq (avar 1) (sym 0) ∷ []) ≡
    some (neq (avar 1) (sym 0) ∷ neq (avar 1) (avar 2) ∷ [])
simplified = refl

-- "w a `?e`, bind it to u", also where u is one; "w a `?a` and u atomic, bind w"
wanted_bound : (disagreement (evar 1) (evar 2) ≡ bind_e 1 (evar 2)) × (disagreement (atm (avar 1)) (atm (avar 2)) ≡ bind_a 1 (avar 2)) ×
    (disagreement (pair (evar 3) (atm (sym 0))) (pair (evar 3) (atm (avar 2))) ≡ bind_a 2 (sym 0))
unfolding disagreement
wanted_bound = (refl, refl, refl)

-- an input, the wanted output, an output, and "2 for each non-equality"
abbrev met : Exp → CRPair meeting
met w = record {
  con = record { io = record { ins = atm (avar 1) ∷ []; out = w }; output = pair (atm (avar 1)) (atm (sym 0)) };
  neqs = neq (avar 1) (sym 0) ∷ neq (avar 1) (sym 1) ∷ [];
}

counted : nodes_meeting (met (evar 2)) ≡ 9
counted = refl

-- the binding takes the nodes from 9 to 11: a limit of 11 lets it pass, one of 10 does not
abbrev limit : ℕ → CRPair meeting → Bool
limit n P = ltb n (nodes_meeting P)

limited : (intersect (limit 11) (met (evar 2)) ≡ common (record { con = record { ins = atm (avar 1) ∷ []; out = pair (atm (avar 1)) (atm (sym 0)) }; neqs = (met (evar 2)).neqs })) ×
    (intersect (limit 10) (met (evar 2)) ≡ too_large) × (intersect (limit 8) (met (evar 2)) ≡ too_large)
unfolding unify
limited = (refl, refl, refl)
