-- Non-equalities, restrictions and their simplification (001, definitions 4, 5, 8, 9 and 14).
use Rattle.std.specs.Prelude.{ℕ, ◌*◌, ◌≡◌, Bool, true, false, cond, ◌&&◌, ◌||◌, List, [], ◌∷◌, ◌++◌, map, eqb, length}
use Rattle.std.proofs.Math.Option.{Option, none, some}
use Rattle.expressions.specs.Expression.{AtomicExp, sym, avar}
use Rattle.expressions.specs.Substitution.{GroundSubst, ground_atomic, Substitution, apply_atomic}

-- a non-equality, its sides in the order in which they were written
pub record NonEquality : Type 0 where
  pub left : AtomicExp
  pub right : AtomicExp

-- a restriction, oldest first
abbrev pub Restriction : Type 0
Restriction = List NonEquality

-- "It satisfies a non-equality if the two sides become different atoms."
abbrev pub Satisfies : GroundSubst → Restriction → Type 0
Satisfies θ [] = Unit {0}
Satisfies θ (q ∷ qs) = (ground_atomic θ q.left ≡ ground_atomic θ q.right → ⊥) × Satisfies θ qs

abbrev pub same_atomic : AtomicExp → AtomicExp → Bool
same_atomic (sym y) (sym z) = eqb y z
same_atomic (sym y) (avar n) = false
same_atomic (avar m) (sym z) = false
same_atomic (avar m) (avar n) = eqb m n

-- "repeats (in either order of sides)"
abbrev pub same_non_equality : NonEquality → NonEquality → Bool
same_non_equality p q =
    (same_atomic p.left q.left && same_atomic p.right q.right) || (same_atomic p.left q.right && same_atomic p.right q.left)

abbrev pub stands : NonEquality → Restriction → Bool
stands q [] = false
stands q (p ∷ ps) = same_non_equality p q || stands q ps

abbrev pub is_symbol : AtomicExp → Bool
is_symbol (sym z) = true
is_symbol (avar n) = false

-- what becomes of a non-equality behind those that are kept: "an item against itself is a contradiction", "Non-equalities
-- of two different atoms are dropped, repeats .. after the first too"
pub data Kind : Type 0 where
  contradiction redundant kept : Kind

abbrev pub kind : Restriction → NonEquality → Kind
kind done q = cond (same_atomic q.left q.right) contradiction (cond ((is_symbol q.left && is_symbol q.right) || stands q done) redundant kept)

abbrev pub keep_or_drop : (Restriction → Option Restriction) → Restriction → NonEquality → Kind → Option Restriction
keep_or_drop f done q contradiction = none
keep_or_drop f done q redundant = f done
keep_or_drop f done q kept = f (done ++ (q ∷ []))

-- `done` is what is kept so far, in order; `none` is the contradiction
abbrev pub simplify_after : Restriction → Restriction → Option Restriction
simplify_after done [] = some done
simplify_after done (q ∷ qs) = keep_or_drop (λ d. simplify_after d qs) done q (kind done q)

-- simplification (definition 8)
abbrev pub simplify : Restriction → Option Restriction
simplify qs = simplify_after [] qs

-- addition (definition 9)
abbrev pub add : Restriction → Restriction → Option Restriction
add qs rs = simplify (qs ++ rs)

-- substitution (definition 14)
abbrev pub apply_non_equality : Substitution → NonEquality → NonEquality
apply_non_equality s q = record { left = apply_atomic s q.left; right = apply_atomic s q.right }

abbrev pub subst_restriction : Substitution → Restriction → Option Restriction
subst_restriction s qs = simplify (map (apply_non_equality s) qs)

-- "plus 2 for each non-equality"
abbrev pub nodes_restriction : Restriction → ℕ
nodes_restriction qs = 2 * length qs
