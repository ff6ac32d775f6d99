-- Simplification keeps the order, so that the non-equalities of a line are printed "oldest first" (01, "Printing").
use mathlib.Core.Path.{◌≡◌, subst, ◌∙◌, sym as inv}
use mathlib.Core.List.{[], ◌∷◌, ◌++◌, append-nil, append_assoc}
use mathlib.Core.Option.{some, none-ne-some, some-injective}
use Rattle.expressions.specs.Restriction.{NonEquality, Restriction, Kind, contradiction, redundant, kept, kind, keep_or_drop, simplify_after, simplify}

-- some of a restriction, in its order
pub data Subsequence : Restriction → Restriction → Type 0 where
  done : Subsequence [] []
  left : {q : NonEquality} {ps qs : Restriction} → Subsequence ps qs → Subsequence ps (q ∷ qs)
  taken : {q : NonEquality} {ps qs : Restriction} → Subsequence ps qs → Subsequence (q ∷ ps) (q ∷ qs)

abbrev After : Restriction → Restriction → Restriction → Type 0
After d qs out = (ps : Restriction) × (out ≡ d ++ ps) × Subsequence ps qs

after_order : (d qs out : Restriction) → simplify_after d qs ≡ some out → After d qs out
after_order d [] out e = ([], inv (some-injective _ _ e) ∙ inv (append-nil d), done)
after_order d (q ∷ qs) out e = pick (kind d q) e (λ d' f. after_order d' qs out f)
  where
    pick : (k : Kind) → keep_or_drop (λ d'. simplify_after d' qs) d q k ≡ some out → ((d' : Restriction) → simplify_after d' qs ≡ some out → After d' qs out) → After d (q ∷ qs) out
    pick contradiction f ih = absurd (none-ne-some _ f)
    pick redundant f ih = let r = ih d f in (r.0, r.1, left r.2)
    pick kept f ih = let r = ih (d ++ (q ∷ [])) f in (q ∷ r.0, r.1 ∙ append_assoc d (q ∷ []) r.0, taken r.2)

pub simplify_order : (qs out : Restriction) → simplify qs ≡ some out → Subsequence out qs
simplify_order qs out e = let r = after_order [] qs out e in subst (λ (l : Restriction). Subsequence l qs) (inv r.1) r.2
