-- Substitutions, ground_exp and not, and their composition (001, definitions 10 to 13 and 19).
use Rattle.std.specs.Prelude.{ℕ, cond, List, [], ◌∷◌, eqb}
use Rattle.expressions.specs.Expression.{Value, atom, cons, AtomicExp, sym, avar, Exp, atm, evar, pair}

-- A ground_exp substitution, which 01, "Sets, filling and splitting", calls a filling: a value for each `?e`, an atom for each `?a`, "the same wherever the
-- variable stands, from all atoms and not only those of the texts".
pub record GroundSubst : Type 0 where
  pub e : ℕ → Value
  pub a : ℕ → ℕ

abbrev pub ground_atomic : GroundSubst → AtomicExp → ℕ
ground_atomic θ (sym z) = z
ground_atomic θ (avar n) = θ.a n

abbrev pub ground_exp : GroundSubst → Exp → Value
ground_exp θ (atm x) = atom (ground_atomic θ x)
ground_exp θ (evar n) = θ.e n
ground_exp θ (pair c d) = cons (ground_exp θ c) (ground_exp θ d)

abbrev pub ground_all : GroundSubst → List Exp → List Value
ground_all θ [] = []
ground_all θ (c ∷ cs) = ground_exp θ c ∷ ground_all θ cs

-- A substitution: an expression for each `?e`, an atomic one for each `?a` (definition 10).
pub record Substitution : Type 0 where
  pub e : ℕ → Exp
  pub a : ℕ → AtomicExp

-- application (definition 11, figure 7)
abbrev pub apply_atomic : Substitution → AtomicExp → AtomicExp
apply_atomic s (sym z) = sym z
apply_atomic s (avar n) = s.a n

abbrev pub apply : Substitution → Exp → Exp
apply s (atm x) = atm (apply_atomic s x)
apply s (evar n) = s.e n
apply s (pair c d) = pair (apply s c) (apply s d)

abbrev pub apply_all : Substitution → List Exp → List Exp
apply_all s [] = []
apply_all s (c ∷ cs) = apply s c ∷ apply_all s cs

-- composition (definition 19): first s, then t
abbrev pub compose : Substitution → Substitution → Substitution
compose s t = record { e = λ n. apply t (s.e n); a = λ n. apply_atomic t (s.a n) }

abbrev pub compose_ground : Substitution → GroundSubst → GroundSubst
compose_ground s θ = record { e = λ n. ground_exp θ (s.e n); a = λ n. ground_atomic θ (s.a n) }

-- [], [Xe ↦ d] and [Xa ↦ x]
abbrev pub id_subst : Substitution
id_subst = record { e = evar; a = avar }

abbrev pub subst_e : ℕ → Exp → Substitution
subst_e n d = record { e = λ m. cond (eqb m n) d (evar m); a = avar }

abbrev pub subst_a : ℕ → AtomicExp → Substitution
subst_a n x = record { e = evar; a = λ m. cond (eqb m n) x (avar m) }
