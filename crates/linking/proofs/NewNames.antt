-- No `cons?` of an accepted program binds a name that is in reach (02, request 1), by the names in reach in their order.
use Prim.Native.Nat.{ℕ}
use mathlib.Core.Path.{◌≡◌, refl, ap, ap₂, ◌∙◌}
use mathlib.Core.Bool.{Bool, true, false, ◌&&◌, ◌||◌, not}
use mathlib.Core.List.{List, [], ◌∷◌}
use lib.Dec.{eqb}
use borrow.Author.Tests.{not-true}
use Rattle.expressions.proofs.Tests.{and_both}
use Rattle.language.specs.Program.{eqa, consp, Term, call, conditional, result, Param, pe, pa, same_param, Prog}
use Rattle.language.specs.Scope.{Scope, is_in, scope_of, with_e, with_a, pair_scope, in_scope, atomic_in_scope}
use Rattle.language.specs.WellFormed.{has_param, distinct_params, well_formed_term, well_formed_defs, binds_new, binds_new_all, admitted}
use Rattle.language.proofs.Formed.{defs_formed, all_new}
use Rattle.language.proofs.Tests.{and_three, and_four}
use Rattle.linking.specs.Twins.Linked.{with_name}

-- each name that a term binds is none of those in reach there
abbrev pub BindsNew : List Param → Term → Type 0
BindsNew sc (result c) = Unit {0}
BindsNew sc (call f cs) = Unit {0}
BindsNew sc (conditional (eqa c d) s t) = BindsNew sc s × BindsNew sc t
BindsNew sc (conditional (consp c h t x) s u) =
    (has_param (pe h) sc ≡ false) × (has_param (pe t) (with_name (pe h) sc) ≡ false) × (has_param (pa x) sc ≡ false) ×
    BindsNew (with_name (pe t) (with_name (pe h) sc)) s × BindsNew (with_name (pa x) sc) u

-- the bodies of definitions, each with its parameters in reach
abbrev pub AllBindNew : Prog → Type 0
AllBindNew [] = Unit {0}
AllBindNew (d ∷ ds) = BindsNew d.params d.body × AllBindNew ds

-- the names of a scope
record Scoped (sc : List Param) (S : Scope) : Type 0 where
  e_names : (x : ℕ) → has_param (pe x) sc ≡ is_in x S.evars
  a_names : (x : ℕ) → has_param (pa x) sc ≡ is_in x S.avars

scoped_params : (xs : List Param) → Scoped xs (scope_of xs)
scoped_params [] = record { e_names = λ x. refl; a_names = λ x. refl }
scoped_params (pe y ∷ xs) = let s = scoped_params xs in record { e_names = λ x. ap (λ (b : Bool). eqb y x || b) (s.e_names x); a_names = s.a_names }
scoped_params (pa y ∷ xs) = let s = scoped_params xs in record { e_names = s.e_names; a_names = λ x. ap (λ (b : Bool). eqb y x || b) (s.a_names x) }

has_last : (z y : Param) (sc : List Param) → has_param z (with_name y sc) ≡ (same_param y z || has_param z sc)
has_last z y [] = refl
has_last z y (w ∷ sc) = ap (λ (b : Bool). same_param w z || b) (has_last z y sc) ∙ turn (same_param w z) (same_param y z) (has_param z sc)
  where
    turn : (a b c : Bool) → (a || (b || c)) ≡ (b || (a || c))
    turn true true c = refl
    turn true false c = refl
    turn false true c = refl
    turn false false c = refl

scoped_e : (y : ℕ) {sc : List Param} {S : Scope} → Scoped sc S → Scoped (with_name (pe y) sc) (with_e y S)
scoped_e y {sc} s = record { e_names = λ x. has_last (pe x) (pe y) sc ∙ ap (λ (b : Bool). eqb y x || b) (s.e_names x); a_names = λ x. has_last (pa x) (pe y) sc ∙ s.a_names x }

scoped_a : (y : ℕ) {sc : List Param} {S : Scope} → Scoped sc S → Scoped (with_name (pa y) sc) (with_a y S)
scoped_a y {sc} s = record { e_names = λ x. has_last (pe x) (pa y) sc ∙ s.e_names x; a_names = λ x. has_last (pa x) (pa y) sc ∙ ap (λ (b : Bool). eqb y x || b) (s.a_names x) }

module _ (p : Prog) where
  binds_new_lem : (sc : List Param) (S : Scope) (t : Term) → Scoped sc S → well_formed_term p S t ≡ true → binds_new S t ≡ true → BindsNew sc t
  binds_new_lem sc S (result c) s w n = tt
  binds_new_lem sc S (call f cs) s w n = tt
  binds_new_lem sc S (conditional (eqa c d) t u) s w n =
      let f = and_four (atomic_in_scope S c) (atomic_in_scope S d) (well_formed_term p S t) (well_formed_term p S u) w in
      let m = and_both (binds_new S t) (binds_new S u) n in
      (binds_new_lem sc S t s f.2 m.0, binds_new_lem sc S u s f.3 m.1)
  binds_new_lem sc S (conditional (consp c h k x) t u) s w n =
      let f = and_four (in_scope S c) (not (eqb h k)) (well_formed_term p (pair_scope h k S) t) (well_formed_term p (with_a x S) u) w in
      let m = and_three (not (is_in h S.evars) && not (is_in k S.evars) && not (is_in x S.avars)) (binds_new (pair_scope h k S) t) (binds_new (with_a x S) u) n in
      let o = and_three (not (is_in h S.evars)) (not (is_in k S.evars)) (not (is_in x S.avars)) m.0 in
      let second : has_param (pe k) (with_name (pe h) sc) ≡ false = has_last (pe k) (pe h) sc ∙ ap₂ ◌||◌ (not-true (eqb h k) f.1) (s.e_names k ∙ not-true (is_in k S.evars) o.1) in (
        s.e_names h ∙ not-true (is_in h S.evars) o.0,
        second,
        s.a_names x ∙ not-true (is_in x S.avars) o.2,
        binds_new_lem (with_name (pe k) (with_name (pe h) sc)) (pair_scope h k S) t (scoped_e k (scoped_e h s)) f.2 m.1,
        binds_new_lem (with_name (pa x) sc) (with_a x S) u (scoped_a x s) f.3 m.2,
      )

  all_bind_new : (ds : Prog) → well_formed_defs p ds ≡ true → binds_new_all ds ≡ true → AllBindNew ds
  all_bind_new [] w n = tt
  all_bind_new (d ∷ ds) w n =
      let f = and_three (distinct_params d.params) (well_formed_term p (scope_of d.params) d.body) (well_formed_defs p ds) w in
      let m = and_both (binds_new (scope_of d.params) d.body) (binds_new_all ds) n in
      (binds_new_lem d.params (scope_of d.params) d.body (scoped_params d.params) f.1 m.0, all_bind_new ds f.2 m.1)

-- THE LAW of new names: a well-formed program binds none that is in reach
pub program_binds_new : (p : Prog) → admitted p ≡ true → AllBindNew p
program_binds_new p formed = all_bind_new p p (defs_formed p formed) (all_new p formed)
