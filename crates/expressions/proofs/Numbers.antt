-- A property of the number of each symbol and one of that of each variable: contracting, simplifying and intersecting keep both.
use Prim.Native.Nat.{ℕ, zero, suc}
use mathlib.Core.Bool.{Bool, true, false, cond}
use mathlib.Core.List.{List, [], ◌∷◌, ◌++◌, map}
use mathlib.Core.Option.{Option, none, some}
use lib.Dec.{eqb}
use Rattle.expressions.specs.Expression.{AtomicExp, sym, avar, Exp, atm, evar, pair}
use Rattle.expressions.specs.Substitution.{apply_atomic, apply, apply_all, subst_a}
use Rattle.expressions.specs.Restriction.{NonEquality, Restriction, same_atomic, Kind, contradiction, redundant, kept, kind, keep_or_drop, simplify_after, simplify, apply_non_equality}
use Rattle.expressions.specs.Contraction.{CRPair, Contraction, identity, contra, bind_e, bind_a, non_equal, subst_of, contract_restriction, apply_pair, contract, mk_bind, equality_contraction}
use Rattle.expressions.specs.Class.{IOClass}
use Rattle.expressions.specs.Intersection.{meeting, occurs, bind_unless_occurs, first, disagreement, Intersected, common, disjoint, too_large, NodeLimit, unless_over, after_binding, unify_step, unify, bindings_enough, intersect}
use Rattle.expressions.proofs.Predicates.{All, all_append, OfOption}

-- simplification keeps non-equalities or drops them
after_all : (Q : NonEquality → Type 0) (done qs : Restriction) → All Q done → All Q qs → OfOption (All Q) (simplify_after done qs)
after_all Q done [] h k = h
after_all Q done (q ∷ qs) h k = pick (kind done q) (λ d u. after_all Q d qs u k.1)
  where
    pick : (x : Kind) → ((d : Restriction) → All Q d → OfOption (All Q) (simplify_after d qs)) → OfOption (All Q) (keep_or_drop (λ d. simplify_after d qs) done q x)
    pick contradiction ih = tt
    pick redundant ih = ih done h
    pick kept ih = ih (done ++ (q ∷ [])) (all_append Q done (q ∷ []) h (k.0, tt))

pub simplify_all : (Q : NonEquality → Type 0) (qs : Restriction) → All Q qs → OfOption (All Q) (simplify qs)
simplify_all Q qs h = after_all Q [] qs tt h

-- S holds of the number of each symbol, N of that of each variable
module _ (S N : ℕ → Type 0) where
  abbrev pub AtomicNumbers : AtomicExp → Type 0
  AtomicNumbers (sym z) = S z
  AtomicNumbers (avar n) = N n

  abbrev pub ExpNumbers : Exp → Type 0
  ExpNumbers (atm x) = AtomicNumbers x
  ExpNumbers (evar n) = N n
  ExpNumbers (pair c d) = ExpNumbers c × ExpNumbers d

  abbrev pub NeqNumbers : NonEquality → Type 0
  NeqNumbers q = AtomicNumbers q.left × AtomicNumbers q.right

  abbrev pub ClassNumbers : IOClass → Type 0
  ClassNumbers P = All ExpNumbers P.con.ins × ExpNumbers P.con.out × All NeqNumbers P.neqs

  abbrev pub MeetingNumbers : CRPair meeting → Type 0
  MeetingNumbers P = All ExpNumbers P.con.io.ins × ExpNumbers P.con.io.out × ExpNumbers P.con.output × All NeqNumbers P.neqs

  -- of what a contraction puts in
  abbrev pub ContractionNumbers : Contraction → Type 0
  ContractionNumbers identity = Unit {0}
  ContractionNumbers contra = Unit {0}
  ContractionNumbers (bind_e n d) = ExpNumbers d
  ContractionNumbers (bind_a n x) = AtomicNumbers x
  ContractionNumbers (non_equal x y) = AtomicNumbers x × AtomicNumbers y

  pub atomic_contract : (κ : Contraction) → ContractionNumbers κ → (x : AtomicExp) → AtomicNumbers x → AtomicNumbers (apply_atomic (subst_of κ) x)
  atomic_contract κ b (sym z) h = h
  atomic_contract identity b (avar n) h = h
  atomic_contract contra b (avar n) h = h
  atomic_contract (bind_e m d) b (avar n) h = h
  atomic_contract (non_equal x y) b (avar n) h = h
  atomic_contract (bind_a m x) b (avar n) h = pick (eqb n m)
    where
      pick : (t : Bool) → AtomicNumbers (cond t x (avar n))
      pick true = b
      pick false = h

  pub exp_contract : (κ : Contraction) → ContractionNumbers κ → (c : Exp) → ExpNumbers c → ExpNumbers (apply (subst_of κ) c)
  exp_contract κ b (atm x) h = atomic_contract κ b x h
  exp_contract κ b (pair c d) h = (exp_contract κ b c h.0, exp_contract κ b d h.1)
  exp_contract identity b (evar n) h = h
  exp_contract contra b (evar n) h = h
  exp_contract (bind_a m x) b (evar n) h = h
  exp_contract (non_equal x y) b (evar n) h = h
  exp_contract (bind_e m d) b (evar n) h = pick (eqb n m)
    where
      pick : (t : Bool) → ExpNumbers (cond t d (evar n))
      pick true = b
      pick false = h

  pub exps_contract : (κ : Contraction) → ContractionNumbers κ → (cs : List Exp) → All ExpNumbers cs → All ExpNumbers (apply_all (subst_of κ) cs)
  exps_contract κ b [] h = tt
  exps_contract κ b (c ∷ cs) h = (exp_contract κ b c h.0, exps_contract κ b cs h.1)

  neqs_apply : (κ : Contraction) → ContractionNumbers κ → (qs : Restriction) → All NeqNumbers qs → All NeqNumbers (map (apply_non_equality (subst_of κ)) qs)
  neqs_apply κ b [] h = tt
  neqs_apply κ b (q ∷ qs) h = ((atomic_contract κ b q.left h.0.0, atomic_contract κ b q.right h.0.1), neqs_apply κ b qs h.1)

  pub neqs_contract : (κ : Contraction) → ContractionNumbers κ → (qs : Restriction) → All NeqNumbers qs → OfOption (All NeqNumbers) (contract_restriction κ qs)
  neqs_contract identity b qs h = h
  neqs_contract contra b qs h = tt
  neqs_contract (bind_e n d) b qs h = h
  neqs_contract (bind_a n x) b qs h = simplify_all NeqNumbers (map (apply_non_equality (subst_a n x)) qs) (neqs_apply (bind_a n x) b qs h)
  neqs_contract (non_equal x y) b qs h = simplify_all NeqNumbers (qs ++ (record { left = x; right = y } ∷ [])) (all_append NeqNumbers qs _ h (b, tt))

  pub equality_numbers : (x y : AtomicExp) → AtomicNumbers x → AtomicNumbers y → ContractionNumbers (equality_contraction x y)
  equality_numbers x y h k = pick (same_atomic x y)
    where
      mk : (x y : AtomicExp) → AtomicNumbers x → AtomicNumbers y → ContractionNumbers (mk_bind x y)
      mk (sym y) (sym z) h k = tt
      mk (sym y) (avar n) h k = h
      mk (avar m) y h k = k

      pick : (t : Bool) → ContractionNumbers (cond t identity (mk_bind x y))
      pick true = tt
      pick false = mk x y h k

  -- the bindings of an intersection put in parts of what is met
  first_numbers : (κ ι : Contraction) → ContractionNumbers κ → ContractionNumbers ι → ContractionNumbers (first κ ι)
  first_numbers identity ι h k = k
  first_numbers contra ι h k = tt
  first_numbers (bind_e n d) ι h k = h
  first_numbers (bind_a n x) ι h k = h
  first_numbers (non_equal x y) ι h k = h

  unless_numbers : (n : ℕ) (d : Exp) → ExpNumbers d → ContractionNumbers (bind_unless_occurs n d)
  unless_numbers n d h = pick (occurs n d)
    where
      pick : (t : Bool) → ContractionNumbers (cond t contra (bind_e n d))
      pick true = tt
      pick false = h

  pub disagreement_numbers : (c d : Exp) → ExpNumbers c → ExpNumbers d → ContractionNumbers (disagreement c d)
  unfolding disagreement
  disagreement_numbers (evar m) (evar n) h k = pick (eqb m n)
    where
      pick : (t : Bool) → ContractionNumbers (cond t identity (bind_e m (evar n)))
      pick true = tt
      pick false = k
  disagreement_numbers (evar m) (atm y) h k = k
  disagreement_numbers (evar m) (pair c d) h k = unless_numbers m (pair c d) k
  disagreement_numbers (atm x) (evar n) h k = h
  disagreement_numbers (atm x) (atm y) h k = equality_numbers x y h k
  disagreement_numbers (atm x) (pair c d) h k = tt
  disagreement_numbers (pair a b) (evar n) h k = unless_numbers n (pair a b) h
  disagreement_numbers (pair a b) (atm y) h k = tt
  disagreement_numbers (pair a b) (pair c d) h k = first_numbers (disagreement a c) (disagreement b d) (disagreement_numbers a c h.0 k.0) (disagreement_numbers b d h.1 k.1)

  pub meeting_contract : (κ : Contraction) → ContractionNumbers κ → (P : CRPair meeting) → MeetingNumbers P → OfOption MeetingNumbers (contract κ P)
  meeting_contract κ b P h = pick (contract_restriction κ P.neqs) (neqs_contract κ b P.neqs h.3)
    where
      pick : (o : Option Restriction) → OfOption (All NeqNumbers) o → OfOption MeetingNumbers (apply_pair (subst_of κ) P o)
      pick none k = tt
      pick (some qs) k = (exps_contract κ b P.con.io.ins h.0, exp_contract κ b P.con.io.out h.1, exp_contract κ b P.con.output h.2, k)

  abbrev pub IntersectedNumbers : Intersected → Type 0
  IntersectedNumbers (common Q) = ClassNumbers Q
  IntersectedNumbers disjoint = Unit {0}
  IntersectedNumbers too_large = Unit {0}

  module _ (over : NodeLimit) where
    unless_over_lem : (f : CRPair meeting → Intersected) (P : CRPair meeting) (t : Bool) → IntersectedNumbers (f P) → IntersectedNumbers (unless_over f P t)
    unless_over_lem f P true h = tt
    unless_over_lem f P false h = h

    after_binding_lem : (f : CRPair meeting → Intersected) → ((P : CRPair meeting) → MeetingNumbers P → IntersectedNumbers (f P)) → (o : Option (CRPair meeting)) →
        OfOption MeetingNumbers o → IntersectedNumbers (after_binding over f o)
    after_binding_lem f g none h = tt
    after_binding_lem f g (some P) h = unless_over_lem f P (over P) (g P h)

    step_numbers : (f : CRPair meeting → Intersected) → ((P : CRPair meeting) → MeetingNumbers P → IntersectedNumbers (f P)) → (P : CRPair meeting) → MeetingNumbers P →
        (κ : Contraction) → ContractionNumbers κ → IntersectedNumbers (unify_step over f P κ)
    step_numbers f g P h identity b = (h.0, h.1, h.3)
    step_numbers f g P h contra b = tt
    step_numbers f g P h (bind_e n d) b = after_binding_lem f g (contract (bind_e n d) P) (meeting_contract (bind_e n d) b P h)
    step_numbers f g P h (bind_a n x) b = after_binding_lem f g (contract (bind_a n x) P) (meeting_contract (bind_a n x) b P h)
    step_numbers f g P h (non_equal x y) b = tt

    unify_numbers : (n : ℕ) (P : CRPair meeting) → MeetingNumbers P → IntersectedNumbers (unify over n P)
    unfolding unify
    unify_numbers zero P h = tt
    unify_numbers (suc n) P h =
        let κ = disagreement P.con.io.out P.con.output in
        step_numbers (unify over n) (unify_numbers n) P h κ (disagreement_numbers P.con.io.out P.con.output h.1 h.2)

    pub intersect_numbers : (P : CRPair meeting) → MeetingNumbers P → IntersectedNumbers (intersect over P)
    intersect_numbers P h = unless_over_lem (unify over (bindings_enough P.con)) P (over P) (unify_numbers (bindings_enough P.con) P h)
