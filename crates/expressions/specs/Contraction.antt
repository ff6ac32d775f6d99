-- Cr-pairs, their concretization, and contractions (001, definitions 6, 21, 24, 25 and 27).
use Rattle.std.specs.Prelude.{ℕ, ◌≡◌, cond, [], ◌∷◌}
use Rattle.std.proofs.Math.Option.{Option, none, some}
use Rattle.expressions.specs.Expression.{AtomicExp, sym, avar, Exp}
use Rattle.expressions.specs.Substitution.{GroundSubst, Substitution, id_subst, subst_e, subst_a}
use Rattle.expressions.specs.Restriction.{Restriction, Satisfies, same_atomic, subst_restriction, add}

-- A kind of c-construction (definition 3, extended in section 5): what a substitution makes of it, what a ground_exp one does.
pub record Construction : Type 1 where
  pub Con : Type 0
  pub Ground : Type 0
  pub apply : Substitution → Con → Con
  pub ground_exp : GroundSubst → Con → Ground

-- a cr-pair: a c-construction and a restriction (definition 6)
pub record CRPair (K : Construction) : Type 0 where
  pub con : K.Con
  pub neqs : Restriction

-- what a cr-pair represents (definition 21)
pub record InConcretization {K : Construction} (P : CRPair K) (g : K.Ground) : Type 0 where
  pub θ : GroundSubst
  pub sat : Satisfies θ P.neqs
  pub is : K.ground_exp θ P.con ≡ g

-- "Contractions are a substitution or a restriction, with the identity contraction and the contradiction as the two
-- special ones": here a substitution of one variable, a restriction by one non-equality.
pub data Contraction : Type 0 where
  identity contra : Contraction
  bind_e : ℕ → Exp → Contraction
  bind_a : ℕ → AtomicExp → Contraction
  non_equal : AtomicExp → AtomicExp → Contraction

abbrev pub subst_of : Contraction → Substitution
subst_of identity = id_subst
subst_of contra = id_subst
subst_of (bind_e n d) = subst_e n d
subst_of (bind_a n x) = subst_a n x
subst_of (non_equal x y) = id_subst

-- r/κ (definition 25); `none` is the contradiction. A `?e` stands in no non-equality.
abbrev pub contract_restriction : Contraction → Restriction → Option Restriction
contract_restriction identity qs = some qs
contract_restriction contra qs = none
contract_restriction (bind_e n d) qs = some qs
contract_restriction (bind_a n x) qs = subst_restriction (subst_a n x) qs
contract_restriction (non_equal x y) qs = add qs (record { left = x; right = y } ∷ [])

abbrev pub apply_pair : {K : Construction} → Substitution → CRPair K → Option Restriction → Option (CRPair K)
apply_pair s P none = none
apply_pair {K} s P (some qs) = some (record { con = K.apply s P.con; neqs = qs })

-- cr/κ (definition 25)
abbrev pub contract : {K : Construction} → Contraction → CRPair K → Option (CRPair K)
contract κ P = apply_pair (subst_of κ) P (contract_restriction κ P.neqs)

-- figure 10's mk_bind: "the true branch binds the left side to the right if left is a variable, else right to left"
abbrev pub mk_bind : AtomicExp → AtomicExp → Contraction
mk_bind (sym y) (sym z) = contra
mk_bind (sym y) (avar n) = bind_a n (sym y)
mk_bind (avar m) x = bind_a m x

-- what makes two atomic expressions equal
abbrev pub equality_contraction : AtomicExp → AtomicExp → Contraction
equality_contraction x y = cond (same_atomic x y) identity (mk_bind x y)
