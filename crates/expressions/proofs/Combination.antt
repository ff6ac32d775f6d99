-- Combination of contractions (001, propositions 15 and 28), as equations of restrictions; a contradiction stays one.
use mathlib.Core.Path.{◌≡◌, refl, ap, ap₂, subst, ◌∙◌, sym as inv}
use mathlib.Core.Bool.{Bool, true, false, ◌&&◌, ◌||◌, or_comm, and_comm, or-true, false≢true}
use mathlib.Core.List.{[], ◌∷◌, ◌++◌, map, append-nil, append_assoc, map-append}
use mathlib.Core.Option.{Option, none, some, bind, none-ne-some, some-injective}
use mathlib.Core.Logic.{◌⊎◌, inl, inr}
use Prim.Native.Nat.{ℕ}
use Rattle.expressions.specs.Expression.{AtomicExp, sym, avar}
use Rattle.expressions.specs.Substitution.{Substitution, apply_atomic, compose, id_subst, subst_e, subst_a}
use Rattle.expressions.specs.Restriction.{NonEquality, Restriction, same_atomic, same_non_equality, stands, is_symbol, Kind, contradiction, redundant, kept, kind, keep_or_drop, simplify_after, simplify, add, apply_non_equality, subst_restriction}
use Rattle.expressions.specs.Contraction.{Contraction, identity, contra, bind_e, bind_a, non_equal, subst_of, contract_restriction}
use Rattle.expressions.proofs.Tests.{or_either, and_both, eqb_sym}
use Rattle.expressions.proofs.Filling.{apply_atomic_compose}
use Rattle.expressions.proofs.Simplification.{same_atomic_eq, same_atomic_same, Dropped, Says, says}

-- the other order of sides
abbrev turned : NonEquality → NonEquality
turned q = record { left = q.right; right = q.left }

same_atomic_turned : (x y : AtomicExp) → same_atomic x y ≡ same_atomic y x
same_atomic_turned (sym y) (sym z) = eqb_sym y z
same_atomic_turned (sym y) (avar n) = refl
same_atomic_turned (avar m) (sym z) = refl
same_atomic_turned (avar m) (avar n) = eqb_sym m n

-- the same non-equality is that one or that one turned
same_cases : (p q : NonEquality) → same_non_equality p q ≡ true → (q ≡ p) ⊎ (q ≡ turned p)
same_cases p q e = or_either _ _ e
    (λ t. let u = and_both _ _ t in inl (λ i. record { left = inv (same_atomic_eq p.left q.left u.0) i; right = inv (same_atomic_eq p.right q.right u.1) i }))
    (λ t. let u = and_both _ _ t in inr (λ i. record { left = inv (same_atomic_eq p.right q.left u.1) i; right = inv (same_atomic_eq p.left q.right u.0) i }))

same_self : (p : NonEquality) → same_non_equality p p ≡ true
same_self p = rw (same_atomic_same p.left, same_atomic_same p.right) refl

same_turned : (p q : NonEquality) → same_non_equality p (turned q) ≡ same_non_equality p q
same_turned p q = or_comm (same_atomic p.left q.right && same_atomic p.right q.left) (same_atomic p.left q.left && same_atomic p.right q.right)

stands_turned : (q : NonEquality) (ps : Restriction) → stands (turned q) ps ≡ stands q ps
stands_turned q [] = refl
stands_turned q (p ∷ ps) = ap₂ ◌||◌ (same_turned p q) (stands_turned q ps)

dropped_kind : (done : Restriction) (q : NonEquality) → Dropped done q → kind done q ≡ redundant
dropped_kind done q d = rw (d.0, d.1) refl

dropped_turned : (done : Restriction) (q : NonEquality) → Dropped done q → Dropped done (turned q)
dropped_turned done q d = (
  same_atomic_turned q.right q.left ∙ d.0,
  ap₂ ◌||◌ (and_comm (is_symbol q.right) (is_symbol q.left)) (stands_turned q done) ∙ d.1,
)

dropped_same : (done : Restriction) (p q : NonEquality) → same_non_equality p q ≡ true → Dropped done p → Dropped done q
dropped_same done p q e d = pick (same_cases p q e)
  where
    pick : (q ≡ p) ⊎ (q ≡ turned p) → Dropped done q
    pick (inl r) = subst (Dropped done) (inv r) d
    pick (inr r) = subst (Dropped done) (inv r) (dropped_turned done p d)

stands_append : (q : NonEquality) (ps rs : Restriction) → stands q ps ≡ true → stands q (ps ++ rs) ≡ true
stands_append q [] rs e = absurd (false≢true e)
stands_append q (p ∷ ps) rs e = or_either (same_non_equality p q) (stands q ps) e (λ t. ap (λ (b : Bool). b || stands q (ps ++ rs)) t)
    (λ t. ap (λ (b : Bool). same_non_equality p q || b) (stands_append q ps rs t) ∙ or-true (same_non_equality p q))

stands_last : (q : NonEquality) (ps : Restriction) → stands q (ps ++ (q ∷ [])) ≡ true
stands_last q [] = ap (λ (b : Bool). b || false) (same_self q)
stands_last q (p ∷ ps) = ap (λ (b : Bool). same_non_equality p q || b) (stands_last q ps) ∙ or-true (same_non_equality p q)

dropped_append : (done rs : Restriction) (q : NonEquality) → Dropped done q → Dropped (done ++ rs) q
dropped_append done rs q d = (
  d.0,
  or_either (is_symbol q.left && is_symbol q.right) (stands q done) d.1
      (λ t. ap (λ (b : Bool). b || stands q (done ++ rs)) t)
      (λ t. ap (λ (b : Bool). (is_symbol q.left && is_symbol q.right) || b) (stands_append q done rs t) ∙ or-true (is_symbol q.left && is_symbol q.right)),
)

dropped_last : (done : Restriction) (q : NonEquality) → same_atomic q.left q.right ≡ false → Dropped (done ++ (q ∷ [])) q
dropped_last done q e = (e, ap (λ (b : Bool). (is_symbol q.left && is_symbol q.right) || b) (stands_last q done) ∙ or-true (is_symbol q.left && is_symbol q.right))

-- What would be dropped behind `done` would be dropped behind all that is kept later ..
after_dropped : (done qs out : Restriction) (q : NonEquality) → simplify_after done qs ≡ some out → Dropped done q → Dropped out q
after_dropped done [] out q e d = subst (λ (o : Restriction). Dropped o q) (some-injective _ _ e) d
after_dropped done (p ∷ qs) out q e d = pick (kind done p) e (λ b f g. after_dropped b qs out q f g)
  where
    pick : (k : Kind) → keep_or_drop (λ b. simplify_after b qs) done p k ≡ some out →
        ((b : Restriction) → simplify_after b qs ≡ some out → Dropped b q → Dropped out q) → Dropped out q
    pick contradiction f ih = absurd (none-ne-some _ f)
    pick redundant f ih = ih done f d
    pick kept f ih = ih (done ++ (p ∷ [])) f (dropped_append done (p ∷ []) q d)

-- .. and so would be what stood among the simplified.
after_stood : (done qs out : Restriction) (q : NonEquality) → simplify_after done qs ≡ some out → stands q qs ≡ true → Dropped out q
after_stood done [] out q e s = absurd (false≢true s)
after_stood done (p ∷ qs) out q e s =
    pick (kind done p) (says done p) e (λ b f t. after_stood b qs out q f t)
  where
    pick : (k : Kind) → Says done p k → keep_or_drop (λ b. simplify_after b qs) done p k ≡ some out →
        ((b : Restriction) → simplify_after b qs ≡ some out → stands q qs ≡ true → Dropped out q) → Dropped out q
    pick contradiction w f ih = absurd (none-ne-some _ f)
    pick redundant w f ih = or_either (same_non_equality p q) (stands q qs) s (λ t. dropped_same out p q t (after_dropped done qs out p f w)) (ih done f)
    pick kept w f ih = or_either (same_non_equality p q) (stands q qs) s
        (λ t. dropped_same out p q t (after_dropped (done ++ (p ∷ [])) qs out p f (dropped_last done p w))) (ih (done ++ (p ∷ [])) f)

-- Substituting keeps all this.
abbrev under : Substitution → Restriction → Restriction
under t qs = map (apply_non_equality t) qs

same_under : (t : Substitution) (p q : NonEquality) → same_non_equality p q ≡ true → same_non_equality (apply_non_equality t p) (apply_non_equality t q) ≡ true
same_under t p q e = pick (same_cases p q e)
  where
    pick : (q ≡ p) ⊎ (q ≡ turned p) → same_non_equality (apply_non_equality t p) (apply_non_equality t q) ≡ true
    pick (inl r) = rw r (same_self (apply_non_equality t p))
    pick (inr r) = rw r (same_turned (apply_non_equality t p) (apply_non_equality t p) ∙ same_self (apply_non_equality t p))

stands_under : (t : Substitution) (q : NonEquality) (ps : Restriction) → stands q ps ≡ true → stands (apply_non_equality t q) (under t ps) ≡ true
stands_under t q [] e = absurd (false≢true e)
stands_under t q (p ∷ ps) e = or_either (same_non_equality p q) (stands q ps) e
    (λ s. ap (λ (b : Bool). b || stands (apply_non_equality t q) (under t ps)) (same_under t p q s))
    (λ s. ap (λ (b : Bool). same_non_equality (apply_non_equality t p) (apply_non_equality t q) || b) (stands_under t q ps s) ∙ or-true (same_non_equality (apply_non_equality t p) (apply_non_equality t q)))

symbol_under : (t : Substitution) (x : AtomicExp) → is_symbol x ≡ true → apply_atomic t x ≡ x
symbol_under t (sym z) e = refl
symbol_under t (avar n) e = absurd (false≢true e)

-- dropped behind d, it would be dropped behind d substituted and simplified
dropped_under : (t : Substitution) (d done out : Restriction) (q : NonEquality) → Dropped d q → simplify_after done (under t d) ≡ some out → Dropped out (apply_non_equality t q)
dropped_under t d done out q w e = or_either (is_symbol q.left && is_symbol q.right) (stands q d) w.1
    (λ s. let u = and_both _ _ s in
    subst (Dropped out) (λ i. record { left = inv (symbol_under t q.left u.0) i; right = inv (symbol_under t q.right u.1) i })
    (w.0, ap (λ (b : Bool). b || stands q out) s))
    (λ s. after_stood done (under t d) out (apply_non_equality t q) e (stands_under t q d s))

pub simplify_append : (done qs rs : Restriction) → simplify_after done (qs ++ rs) ≡ bind (simplify_after done qs) (λ o. simplify_after o rs)
unfolding bind
simplify_append done [] rs = refl
simplify_append done (q ∷ qs) rs = pick (kind done q) (λ d. simplify_append d qs rs)
  where
    pick : (k : Kind) → ((d : Restriction) → simplify_after d (qs ++ rs) ≡ bind (simplify_after d qs) (λ o. simplify_after o rs)) →
        keep_or_drop (λ d. simplify_after d (qs ++ rs)) done q k ≡ bind (keep_or_drop (λ d. simplify_after d qs) done q k) (λ o. simplify_after o rs)
    pick contradiction ih = refl
    pick redundant ih = ih done
    pick kept ih = ih (done ++ (q ∷ []))

-- what would be dropped may stand or not
insert_dropped : (t : Substitution) (done d rest : Restriction) (q : NonEquality) → Dropped d q →
    simplify_after done (under t d ++ (apply_non_equality t q ∷ rest)) ≡ simplify_after done (under t d ++ rest)
unfolding bind
insert_dropped t done d rest q w =
    simplify_append done (under t d) (apply_non_equality t q ∷ rest) ∙ pick (simplify_after done (under t d)) refl ∙ inv (simplify_append done (under t d) rest)
  where
    pick : (o : Option Restriction) → simplify_after done (under t d) ≡ o → bind o (λ b. simplify_after b (apply_non_equality t q ∷ rest)) ≡ bind o (λ b. simplify_after b rest)
    pick none e = refl
    pick (some b) e = ap (keep_or_drop (λ a. simplify_after a rest) b (apply_non_equality t q)) (dropped_kind b (apply_non_equality t q) (dropped_under t d done b q w e))

-- an item against itself stays one
contradicted : (t : Substitution) (done d rest : Restriction) (q : NonEquality) → q.left ≡ q.right → simplify_after done (under t d ++ (apply_non_equality t q ∷ rest)) ≡ none
unfolding bind
contradicted t done d rest q w = simplify_append done (under t d) (apply_non_equality t q ∷ rest) ∙ pick (simplify_after done (under t d))
  where
    pick : (o : Option Restriction) → bind o (λ b. simplify_after b (apply_non_equality t q ∷ rest)) ≡ none
    pick none = refl
    pick (some b) = rw (w, same_atomic_same (apply_atomic t q.right)) refl

-- An inner simplification is absorbed by an outer one, under any substitution.
absorb : (t : Substitution) (done zs d ys : Restriction) → bind (simplify_after d ys) (λ o. simplify_after done (under t o ++ zs)) ≡ simplify_after done (under t (d ++ ys) ++ zs)
unfolding bind
absorb t done zs d [] = ap (λ (o : Restriction). simplify_after done (under t o ++ zs)) (inv (append-nil d))
absorb t done zs d (q ∷ ys) = pick (kind d q) (says d q) (λ b. absorb t done zs b ys)
  where
    split : (rs : Restriction) → under t (d ++ rs) ++ zs ≡ under t d ++ (under t rs ++ zs)
    split rs = ap (λ (l : Restriction). l ++ zs) (map-append (apply_non_equality t) d rs) ∙ append_assoc (under t d) (under t rs) zs

    pick : (k : Kind) → Says d q k → ((b : Restriction) → bind (simplify_after b ys) (λ o. simplify_after done (under t o ++ zs)) ≡ simplify_after done (under t (b ++ ys) ++ zs)) →
        bind (keep_or_drop (λ b. simplify_after b ys) d q k) (λ o. simplify_after done (under t o ++ zs)) ≡ simplify_after done (under t (d ++ (q ∷ ys)) ++ zs)
    pick contradiction w ih = inv (ap (simplify_after done) (split (q ∷ ys)) ∙ contradicted t done d (under t ys ++ zs) q w)
    pick redundant w ih = ih d ∙ ap (simplify_after done) (split ys) ∙ inv (ap (simplify_after done) (split (q ∷ ys)) ∙ insert_dropped t done d (under t ys ++ zs) q w)
    pick kept w ih = ih (d ++ (q ∷ [])) ∙ ap (λ (l : Restriction). simplify_after done (under t l ++ zs)) (append_assoc d (q ∷ []) ys)

-- a `?e` stands in no non-equality
under_same : (t : Substitution) → ((n : ℕ) → t.a n ≡ avar n) → (qs : Restriction) → under t qs ≡ qs
under_same t p [] = refl
under_same t p (q ∷ qs) = λ i. record { left = at q.left i; right = at q.right i } ∷ under_same t p qs i
  where
    at : (x : AtomicExp) → apply_atomic t x ≡ x
    at (sym z) = refl
    at (avar n) = p n

under_id : (qs : Restriction) → under id_subst qs ≡ qs
under_id = under_same id_subst (λ n. refl)

under_compose : (s t : Substitution) (qs : Restriction) → under t (under s qs) ≡ under (compose s t) qs
under_compose s t [] = refl
under_compose s t (q ∷ qs) = λ i. record { left = apply_atomic_compose s t q.left i; right = apply_atomic_compose s t q.right i } ∷ under_compose s t qs i

absorb_left : (done ys zs : Restriction) → bind (simplify ys) (λ o. simplify_after done (o ++ zs)) ≡ simplify_after done (ys ++ zs)
absorb_left done ys zs =
    ap (bind (simplify ys)) (λ i o. simplify_after done (inv (under_id o) i ++ zs)) ∙ absorb id_subst done zs [] ys ∙ ap (λ (l : Restriction). simplify_after done (l ++ zs)) (under_id ys)

absorb_right : (done xs ys : Restriction) → bind (simplify ys) (λ o. simplify_after done (xs ++ o)) ≡ simplify_after done (xs ++ ys)
unfolding bind
absorb_right done xs ys = ap (bind (simplify ys)) (λ i o. simplify_append done xs o i) ∙ pick (simplify_after done xs) ∙ inv (simplify_append done xs ys)
  where
    nothing : (o : Option Restriction) → bind {B = Restriction} o (λ p. none) ≡ none
    nothing none = refl
    nothing (some p) = refl

    pick : (o : Option Restriction) → bind (simplify ys) (λ p. bind o (λ b. simplify_after b p)) ≡ bind o (λ b. simplify_after b ys)
    pick none = nothing (simplify ys)
    pick (some b) = ap (bind (simplify ys)) (λ i p. simplify_after b (inv (append-nil p) i)) ∙ absorb_left b ys [] ∙ ap (simplify_after b) (append-nil ys)

-- (SS → S) first s, then t, is their composition
pub subst_subst : (s t : Substitution) (qs : Restriction) → bind (subst_restriction s qs) (subst_restriction t) ≡ subst_restriction (compose s t) qs
subst_subst s t qs =
    ap (bind (subst_restriction s qs)) (λ i o. simplify (inv (append-nil (under t o)) i)) ∙ absorb t [] [] [] (under s qs)
    ∙ ap simplify (append-nil (under t (under s qs)) ∙ under_compose s t qs)

-- (RR → R) adding is associative
pub add_add : (qs rs us : Restriction) → bind (add qs rs) (λ o. add o us) ≡ bind (add rs us) (add qs)
add_add qs rs us = absorb_left [] (qs ++ rs) us ∙ ap simplify (append_assoc qs rs us) ∙ inv (absorb_right [] qs (rs ++ us))

-- (RS → SR), and proposition 15: substituting in a sum is adding what the substitution makes of both
pub add_subst : (t : Substitution) (qs rs : Restriction) → bind (add qs rs) (subst_restriction t) ≡ bind (subst_restriction t qs) (λ o. bind (subst_restriction t rs) (add o))
add_subst t qs rs =
    ap (bind (add qs rs)) (λ i o. simplify (inv (append-nil (under t o)) i)) ∙ absorb t [] [] [] (qs ++ rs)
    ∙ ap simplify (append-nil (under t (qs ++ rs)) ∙ map-append (apply_non_equality t) qs rs)
    ∙ inv (ap (bind (subst_restriction t qs)) (λ i o. absorb_right [] o (under t rs) i) ∙ absorb_left [] (under t qs) (under t rs))

pub simplify_idempotent : (qs out : Restriction) → simplify qs ≡ some out → simplify out ≡ some out
unfolding bind
simplify_idempotent qs out e = inv (ap (λ (o : Option Restriction). bind o simplify) e) ∙ absorb_right [] [] qs ∙ e

-- A contraction that is a substitution acts on a simplified restriction as that substitution does (definition 25).
abbrev pub Substitutes : Contraction → Type 0
Substitutes identity = Unit {0}
Substitutes contra = ⊥
Substitutes (bind_e n d) = Unit {0}
Substitutes (bind_a n x) = Unit {0}
Substitutes (non_equal x y) = ⊥

pub contract_substitutes : (κ : Contraction) → Substitutes κ → (qs : Restriction) → simplify qs ≡ some qs → contract_restriction κ qs ≡ subst_restriction (subst_of κ) qs
contract_substitutes identity s qs e = inv (ap simplify (under_id qs) ∙ e)
contract_substitutes contra s qs e = absurd s
contract_substitutes (bind_e n d) s qs e = inv (ap simplify (under_same (subst_e n d) (λ m. refl) qs) ∙ e)
contract_substitutes (bind_a n x) s qs e = refl
contract_substitutes (non_equal x y) s qs e = absurd s

pub contract_simplified : (κ : Contraction) (qs out : Restriction) → simplify qs ≡ some qs → contract_restriction κ qs ≡ some out → simplify out ≡ some out
contract_simplified identity qs out s e = subst (λ (o : Restriction). simplify o ≡ some o) (some-injective _ _ e) s
contract_simplified contra qs out s e = absurd (none-ne-some _ e)
contract_simplified (bind_e n d) qs out s e = subst (λ (o : Restriction). simplify o ≡ some o) (some-injective _ _ e) s
contract_simplified (bind_a n x) qs out s e = simplify_idempotent (under (subst_a n x) qs) out e
contract_simplified (non_equal x y) qs out s e = simplify_idempotent (qs ++ (record { left = x; right = y } ∷ [])) out e
