-- Restrictions over cells: what `add`, `simplify` and `bind` do.
use Rattle.std.specs.Prelude.{ℕ, zero, suc, ◌+◌, ◌*◌, ◌/◌, ◌%◌, min, Bool, true, false, cond, List, [], ◌∷◌, eqb, leb, length, get_or, set, Result, Ok, Err}
use Rattle.sets.specs.Twins.Copying.{stands_in}
use Rattle.sets.specs.Twins.Fill.{renamed}
use Rattle.restrictions.specs.declared.failure.Failure.{Failure}
use Rattle.restrictions.specs.declared.failure.Failure.TheVariants.{Contradiction, Over}
use Rattle.restrictions.specs.declared.restriction.Kind.{Kind}
use Rattle.restrictions.specs.declared.restriction.Kind.TheVariants.{Contradiction as Contradictory, Redundant, Kept as Keep}

-- an answer, and the restriction's storage
pub record RestrictAnswer : Type 0 where
  pub answer : Result ℕ Failure
  pub cells : List ℕ

abbrev pub restrict_answer : Result ℕ Failure → List ℕ → RestrictAnswer
restrict_answer a q = record { answer = a; cells = q }

-- the sides a b are x y, or y x
abbrev pub either_order : ℕ → ℕ → ℕ → ℕ → Bool
either_order x y a b = cond (eqb a x) (cond (eqb b y) true (cond (eqb a y) (eqb b x) false)) (cond (eqb a y) (eqb b x) false)

unfoldable pub stands_cells : ℕ → ℕ → ℕ → List ℕ → Bool
stands_cells zero x y q = false
stands_cells (suc n) x y [] = false
stands_cells (suc n) x y (a ∷ []) = false
stands_cells (suc n) x y (a ∷ (b ∷ q)) = cond (either_order x y a b) true (stands_cells n x y q)

abbrev pub kind_cells : ℕ → ℕ → ℕ → List ℕ → Kind
kind_cells n x y q =
    cond (eqb x y) Contradictory
    (cond (eqb (x % 4) 1) (cond (eqb (y % 4) 1) Redundant (cond (stands_cells n x y q) Redundant Keep)) (cond (stands_cells n x y q) Redundant Keep))

abbrev pub append_cells : ℕ → ℕ → ℕ → List ℕ → List ℕ
append_cells n x y q = set (set q (2 * n) x) (2 * n + 1) y

abbrev pub add_kind : ℕ → ℕ → ℕ → List ℕ → Kind → RestrictAnswer
add_kind n x y q Contradictory = restrict_answer (Err Contradiction) q
add_kind n x y q Redundant = restrict_answer (Ok n) q
add_kind n x y q Keep = cond (leb (length q / 2) n) (restrict_answer (Err Over) q) (restrict_answer (Ok (n + 1)) (append_cells n x y q))

abbrev pub add_cells : ℕ → ℕ → ℕ → List ℕ → RestrictAnswer
add_cells n x y q = add_kind n x y q (kind_cells n x y q)

-- `left` non-equalities from the i-th on are still to be judged, `kept` are kept at the front
abbrev pub simplify_kind : (ℕ → List ℕ → RestrictAnswer) → ℕ → ℕ → ℕ → List ℕ → Kind → RestrictAnswer
simplify_kind again kept x y q Contradictory = restrict_answer (Err Contradiction) q
simplify_kind again kept x y q Redundant = again kept q
simplify_kind again kept x y q Keep = again (kept + 1) (append_cells kept x y q)

unfoldable pub simplify_from : ℕ → ℕ → ℕ → List ℕ → RestrictAnswer
unfolding stands_cells
simplify_from zero i kept q = restrict_answer (Ok kept) q
simplify_from (suc left) i kept q =
    simplify_kind (simplify_from left (i + 1)) kept (get_or q (2 * i) 0) (get_or q (2 * i + 1) 0) q (kind_cells kept (get_or q (2 * i) 0) (get_or q (2 * i + 1) 0) q)

abbrev pub simplify_cells : ℕ → List ℕ → RestrictAnswer
simplify_cells n q = simplify_from (min n (length q / 2)) 0 0 q

-- where x does not stand they are as they were: simplified
abbrev pub bind_cells : ℕ → ℕ → ℕ → List ℕ → RestrictAnswer
bind_cells n x y q =
    let count = min n (length q / 2) in
    cond (stands_in q 0 (2 * count) x) (simplify_cells count (renamed (2 * count) x y q)) (restrict_answer (Ok count) q)
