-- The branches that `same_branches` says there are: those whose contraction does not contradict.
use Prim.Native.Nat.{ℕ}
use mathlib.Core.Path.{◌≡◌, refl, ap, ◌∙◌, sym as inv}
use mathlib.Core.Bool.{Bool, true, false, cond, ◌&&◌, ◌||◌, not}
use mathlib.Core.List.{List, [], ◌∷◌}
use mathlib.Core.Option.{Option, none, some, bind}
use Rattle.expressions.specs.Expression.{AtomicExp, sym, avar}
use Rattle.expressions.specs.Substitution.{Substitution, id_subst, subst_a}
use Rattle.expressions.specs.Restriction.{Restriction, same_atomic, is_symbol, stands, Kind, contradiction, redundant, kept, kind, keep_or_drop, simplify, add, subst_restriction}
use Rattle.expressions.specs.Contraction.{CRPair, identity, bind_a, non_equal, apply_pair, contract, mk_bind, equality_contraction}
use Rattle.expressions.specs.Split.{split_atomic}
use Rattle.expressions.proofs.Combination.{simplify_append}
use Rattle.language.specs.Program.{Param}
use Rattle.semantics.specs.Configuration.{state}
use Rattle.sets.specs.Cells.{atomic_code}
use Rattle.restrictions.proofs.RestrictionLaws.{kind_code, kind_cells_means}
use Rattle.heap.specs.declared.configuration.Configuration.{Configuration}
use Rattle.values.proofs.StateLaws.{is_none, HoldsPair}
use Rattle.atoms.specs.Twins.Choices.{branches_by, branches_of}
use Rattle.atoms.proofs.BindingLaws.{against, stands_swapped, binding_contradicts, binding_goes_on}

none_applied : (u : Substitution) (P : CRPair state) (o : Option Restriction) → is_none (apply_pair u P o) ≡ is_none o
none_applied u P none = refl
none_applied u P (some qs) = refl

module _ (P : CRPair state) (simple : simplify P.neqs ≡ some P.neqs) where
  -- a binding
  bound_is : (m : ℕ) (z : AtomicExp) → (branches_by (kind_code (cond (stands (against (avar m) z) P.neqs) redundant kept))).yes ≡ not (is_none (contract (bind_a m z) P))
  bound_is m z = pick (stands (against (avar m) z) P.neqs) refl
    where
      pick : (b : Bool) → stands (against (avar m) z) P.neqs ≡ b → (branches_by (kind_code (cond b redundant kept))).yes ≡ not (is_none (contract (bind_a m z) P))
      pick true e = ap not (inv (none_applied (subst_a m z) P (subst_restriction (subst_a m z) P.neqs) ∙ binding_contradicts m z P.neqs e))
      pick false e = ap not (inv (none_applied (subst_a m z) P (subst_restriction (subst_a m z) P.neqs) ∙ binding_goes_on m z P.neqs simple e))

  -- sides that are not the same
  unequal_is : (x y : AtomicExp) → (branches_by (kind_code (cond ((is_symbol x && is_symbol y) || stands (against x y) P.neqs) redundant kept))).yes ≡ not (is_none (contract (mk_bind x y) P))
  unequal_is (sym a) (sym b) = refl
  unequal_is (sym a) (avar m) = rw (stands_swapped (sym a) (avar m) P.neqs) (bound_is m (sym a))
  unequal_is (avar m) z = bound_is m z

  yes_is : (x y : AtomicExp) → (branches_by (kind_code (kind P.neqs (against x y)))).yes ≡ not (is_none (contract (equality_contraction x y) P))
  yes_is x y = pick (same_atomic x y)
    where
      pick : (t : Bool) → (branches_by (kind_code (cond t contradiction (cond ((is_symbol x && is_symbol y) || stands (against x y) P.neqs) redundant kept)))).yes ≡
          not (is_none (contract (cond t identity (mk_bind x y)) P))
      pick true = refl
      pick false = unequal_is x y

  no_is : (x y : AtomicExp) → (branches_by (kind_code (kind P.neqs (against x y)))).no ≡ not (is_none (contract (non_equal x y) P))
  unfolding bind
  no_is x y =
      let d = against x y in
      let added : add P.neqs (d ∷ []) ≡ keep_or_drop (λ e. some e) P.neqs d (kind P.neqs d) = simplify_append [] P.neqs (d ∷ []) ∙ rw simple in
      pick (kind P.neqs d) ∙ ap not (inv (none_applied id_subst P (add P.neqs (d ∷ [])) ∙ ap is_none added))
    where
      pick : (k : Kind) → (branches_by (kind_code k)).no ≡ not (is_none (keep_or_drop (λ e. some e) P.neqs (against x y) k))
      pick contradiction = refl
      pick redundant = refl
      pick kept = refl

-- THE LAW: "A branch that contradicts is no transition."
module _ {h f q : List ℕ} {c : Configuration} {names : List Param} {P : CRPair state} (holds : HoldsPair h f q c names P) (simple : simplify P.neqs ≡ some P.neqs) (x y : AtomicExp) where
  kind_is : branches_of c.neqs (atomic_code x) (atomic_code y) q ≡ branches_by (kind_code (kind P.neqs (against x y)))
  unfolding branches_of
  kind_is = rw holds.count (ap branches_by (kind_cells_means P.neqs (against x y) q holds.neqs))

  pub branches_mean : let b = branches_of c.neqs (atomic_code x) (atomic_code y) q in
      (b.yes ≡ not (is_none (contract (split_atomic x y).yes P))) × (b.no ≡ not (is_none (contract (split_atomic x y).no P)))
  branches_mean = rw kind_is (yes_is P simple x y, no_is P simple x y)
