-- What `fill_sample` leaves, cell by cell: of the variables in order of first standing each becomes the new atom of its place.
use Prim.Native.Nat.{ℕ, suc, ◌+◌, ◌%◌, ◌≤◌, min}
use mathlib.Core.Path.{◌≡◌, refl, ap, ap₂, ◌∙◌, sym as inv}
use mathlib.Core.Bool.{Bool, true, false, cond, ◌||◌, true≢false, false≢true}
use mathlib.Core.List.{List, [], ◌∷◌, ◌++◌, append_assoc, map, map-append}
use native.Mathlib.Omega.{arith}
use lib.Dec.{eqb}
use lib.ListN.{length, get_or, length-append, length-map}
use lib.Seq.{append_snoc, get_or_at}
use borrow.Author.Tests.{eqb-true, eqb-false, eq-eqb, ne_eqb}
use Rattle.expressions.proofs.Predicates.{All}
use Rattle.sets.specs.Twins.Fill.{renamed}
use Rattle.samples.specs.Twins.Filling.{is_variable, new_code, sampled_from, sampled_cells}
use Rattle.samples.proofs.Turns.{sampled_none, sampled_variable, sampled_other}

-- a code among the codes vs, and its place there
abbrev pub among : ℕ → List ℕ → Bool
among c [] = false
among c (v ∷ vs) = eqb v c || among c vs

abbrev pub place_among : ℕ → List ℕ → ℕ
place_among c [] = 0
place_among c (v ∷ vs) = cond (eqb v c) 0 (suc (place_among c vs))

-- a code where the variables vs are filled
abbrev pub filled : List ℕ → ℕ → ℕ
filled vs c = cond (is_variable c) (cond (among c vs) (new_code (place_among c vs)) c) c

-- the variables of a run of cells, behind those that stood before
abbrev pub seen : List ℕ → List ℕ → List ℕ
seen vs [] = vs
seen vs (c ∷ q) = seen (cond (is_variable c) (cond (among c vs) vs (vs ++ (c ∷ []))) vs) q

-- a new atom is no variable
new_leaf : (k : ℕ) → is_variable (new_code k) ≡ false
new_leaf k =
    ap (λ (b : Bool). cond b true (eqb (new_code k % 4) 3)) (ne_eqb (new_code k % 4) 2 (λ e. omega arith))
    ∙ ne_eqb (new_code k % 4) 3 (λ e. omega arith)

unlike : (c x : ℕ) → is_variable c ≡ false → is_variable x ≡ true → eqb c x ≡ false
unlike c x e f = ne_eqb c x (λ q. true≢false (inv f ∙ ap is_variable (inv q) ∙ e))

module _ (c : ℕ) where
  -- what is found in front stays where it is
  pub among_front : (vs ws : List ℕ) → among c vs ≡ true → (among c (vs ++ ws) ≡ true) × (place_among c (vs ++ ws) ≡ place_among c vs)
  among_front [] ws e = absurd (false≢true e)
  among_front (v ∷ vs) ws e = pick (eqb v c) e (among_front vs ws)
    where
      pick : (b : Bool) → (b || among c vs) ≡ true → (among c vs ≡ true → (among c (vs ++ ws) ≡ true) × (place_among c (vs ++ ws) ≡ place_among c vs)) →
          ((b || among c (vs ++ ws)) ≡ true) × (cond b 0 (suc (place_among c (vs ++ ws))) ≡ cond b 0 (suc (place_among c vs)))
      pick true e again = (refl, refl)
      pick false e again = ((again e).0, ap suc (again e).1)

  -- what is not found in front is found behind it, or not at all
  among_last : (vs : List ℕ) (x : ℕ) → among c vs ≡ false → (among c (vs ++ (x ∷ [])) ≡ eqb x c) × (eqb x c ≡ true → place_among c (vs ++ (x ∷ [])) ≡ length vs)
  among_last [] x e = (last (eqb x c), λ h. ap (λ (b : Bool). cond b 0 1) h)
    where
      last : (b : Bool) → (b || false) ≡ b
      last true = refl
      last false = refl
  among_last (v ∷ vs) x e = pick (eqb v c) e (among_last vs x)
    where
      pick : (b : Bool) → (b || among c vs) ≡ false →
          (among c vs ≡ false → (among c (vs ++ (x ∷ [])) ≡ eqb x c) × (eqb x c ≡ true → place_among c (vs ++ (x ∷ [])) ≡ length vs)) →
          ((b || among c (vs ++ (x ∷ []))) ≡ eqb x c) × (eqb x c ≡ true → cond b 0 (suc (place_among c (vs ++ (x ∷ [])))) ≡ suc (length vs))
      pick true e again = absurd (true≢false e)
      pick false e again = ((again e).0, λ h. ap suc ((again e).1 h))

-- one variable more: its code becomes the new atom, and no other code changes
module _ (vs : List ℕ) (x : ℕ) (var : is_variable x ≡ true) where
  filled_more : (c : ℕ) → cond (eqb (filled vs c) x) (new_code (length vs)) (filled vs c) ≡ filled (vs ++ (x ∷ [])) c
  filled_more c = pick (is_variable c) refl (among c vs) refl
    where
      last : (b : Bool) → eqb x c ≡ b → (b ≡ true → place_among c (vs ++ (x ∷ [])) ≡ length vs) →
          cond (eqb c x) (new_code (length vs)) c ≡ cond b (new_code (place_among c (vs ++ (x ∷ [])))) c
      last true e h = ap (λ (t : Bool). cond t (new_code (length vs)) c) (eq-eqb c x (inv (eqb-true x c e))) ∙ ap new_code (inv (h refl))
      last false e h = ap (λ (t : Bool). cond t (new_code (length vs)) c) (ne_eqb c x (λ q. eqb-false x c e (inv q)))

      pick : (b : Bool) → is_variable c ≡ b → (u : Bool) → among c vs ≡ u →
          (let d = cond b (cond u (new_code (place_among c vs)) c) c in cond (eqb d x) (new_code (length vs)) d)
          ≡ cond b (cond (among c (vs ++ (x ∷ []))) (new_code (place_among c (vs ++ (x ∷ [])))) c) c
      pick false e u f = ap (λ (t : Bool). cond t (new_code (length vs)) c) (unlike c x e var)
      pick true e true f =
          let a = among_front c vs (x ∷ []) f in
          ap (λ (t : Bool). cond t (new_code (length vs)) (new_code (place_among c vs))) (unlike (new_code (place_among c vs)) x (new_leaf (place_among c vs)) var)
          ∙ ap new_code (inv a.1) ∙ ap (λ (t : Bool). cond t (new_code (place_among c (vs ++ (x ∷ [])))) c) (inv a.0)
      pick true e false f =
          let a = among_last c vs x f in
          last (eqb x c) refl a.1 ∙ ap (λ (t : Bool). cond t (new_code (place_among c (vs ++ (x ∷ [])))) c) (inv a.0)

  renamed_filled : (s r : List ℕ) → renamed (length s) x (new_code (length vs)) (map (filled vs) s ++ r) ≡ map (filled (vs ++ (x ∷ []))) s ++ r
  unfolding renamed
  renamed_filled [] r = refl
  renamed_filled (c ∷ s) r = ap₂ ◌∷◌ (filled_more c) (renamed_filled s r)

-- The cells in front of q are looked at, and vs are the variables among them.
module _ (r : List ℕ) where
  abbrev state : List ℕ → List ℕ → List ℕ
  state vs s = map (filled vs) s ++ r

  state_at_lem : (vs p : List ℕ) (c : ℕ) (q : List ℕ) (i : ℕ) → length p ≡ i → get_or (state vs (p ++ (c ∷ q))) i 0 ≡ filled vs c
  state_at_lem vs p c q i e =
      ap (λ (l : List ℕ). get_or (l ++ r) i 0) (map-append (filled vs) p (c ∷ q))
      ∙ ap (λ (l : List ℕ). get_or l i 0) (append_assoc (map (filled vs) p) (filled vs c ∷ map (filled vs) q) r)
      ∙ get_or_at (map (filled vs) p) (filled vs c) (map (filled vs) q ++ r) 0 i (length-map p (filled vs) ∙ e)

  sampled_seen : (q p vs : List ℕ) (n i left k : ℕ) → length (p ++ q) ≡ n → length p ≡ i → length q ≡ left → length vs ≡ k →
      sampled_from n left i k (state vs (p ++ q)) ≡ state (seen vs q) (p ++ q)
  sampled_seen [] p vs n i left k a b d e = sampled_none n i k (state vs (p ++ [])) left (inv d)
  sampled_seen (c ∷ q) p vs n i left k a b d e =
      pick (is_variable c) refl (among c vs) refl (λ ws j h. next ws j h (sampled_seen q (p ++ (c ∷ [])) ws n (i + 1) (length q) j (ap length (append_snoc p c q) ∙ a) (length-append p (c ∷ []) ∙ ap (λ (m : ℕ). m + 1) b) refl h))
    where
      here : get_or (state vs (p ++ (c ∷ q))) i 0 ≡ filled vs c
      here = state_at_lem vs p c q i b

      next : (ws : List ℕ) (j : ℕ) → length ws ≡ j → sampled_from n (length q) (i + 1) j (state ws ((p ++ (c ∷ [])) ++ q)) ≡ state (seen ws q) ((p ++ (c ∷ [])) ++ q) →
          sampled_from n (length q) (i + 1) j (state ws (p ++ (c ∷ q))) ≡ state (seen ws q) (p ++ (c ∷ q))
      next ws j h z = rw (append_snoc p c q) at z

      pick : (t : Bool) → is_variable c ≡ t → (u : Bool) → among c vs ≡ u →
          ((ws : List ℕ) (j : ℕ) → length ws ≡ j → sampled_from n (length q) (i + 1) j (state ws (p ++ (c ∷ q))) ≡ state (seen ws q) (p ++ (c ∷ q))) →
          sampled_from n left i k (state vs (p ++ (c ∷ q))) ≡ state (seen (cond t (cond u vs (vs ++ (c ∷ []))) vs) q) (p ++ (c ∷ q))
      pick false x u y again =
          sampled_other n i k (state vs (p ++ (c ∷ q))) left (length q) (inv d) (ap is_variable (here ∙ kept) ∙ x) ∙ again vs k e
        where
          kept : filled vs c ≡ c
          kept = ap (λ (t : Bool). cond t (cond (among c vs) (new_code (place_among c vs)) c) c) x
      pick true x true y again =
          sampled_other n i k (state vs (p ++ (c ∷ q))) left (length q) (inv d) (ap is_variable (here ∙ new) ∙ new_leaf (place_among c vs)) ∙ again vs k e
        where
          new : filled vs c ≡ new_code (place_among c vs)
          new = ap₂ (λ (t u : Bool). cond t (cond u (new_code (place_among c vs)) c) c) x y
      pick true x false y again =
          sampled_variable n i k (state vs (p ++ (c ∷ q))) left (length q) (inv d) (ap is_variable at ∙ x)
          ∙ ap (sampled_from n (length q) (i + 1) (k + 1)) made
          ∙ again (vs ++ (c ∷ [])) (k + 1) (length-append vs (c ∷ []) ∙ ap (λ (m : ℕ). m + 1) e)
        where
          at : get_or (state vs (p ++ (c ∷ q))) i 0 ≡ c
          at = here ∙ ap₂ (λ (t u : Bool). cond t (cond u (new_code (place_among c vs)) c) c) x y

          made : renamed n (get_or (state vs (p ++ (c ∷ q))) i 0) (new_code k) (state vs (p ++ (c ∷ q))) ≡ state (vs ++ (c ∷ [])) (p ++ (c ∷ q))
          made = rw (at, ← a, ← e) (renamed_filled vs c x (p ++ (c ∷ q)) r)

  filled_none : (s : List ℕ) → map (filled []) s ≡ s
  filled_none [] = refl
  filled_none (c ∷ s) = ap₂ ◌∷◌ (none (is_variable c)) (filled_none s)
    where
      none : (b : Bool) → cond b c c ≡ c
      none true = refl
      none false = refl

  -- each variable of s has become the new atom of its place among the variables of s
  pub sampled_cells_lem : (s : List ℕ) → length s ≤ 4096 → sampled_cells (length s) (s ++ r) ≡ map (filled (seen [] s)) s ++ r
  sampled_cells_lem s h =
      let n : min (length s) 4096 ≡ length s = omega arith in
      rw n (ap (λ (l : List ℕ). sampled_from (length s) (length s) 0 0 (l ++ r)) (inv (filled_none s)) ∙ sampled_seen s [] [] (length s) 0 (length s) 0 refl refl refl refl)

-- each variable of q is found among those seen
abbrev pub Found : List ℕ → ℕ → Type 0
Found vs c = is_variable c ≡ true → among c vs ≡ true

seen_keeps : (c : ℕ) (q vs : List ℕ) → among c vs ≡ true → among c (seen vs q) ≡ true
seen_keeps c [] vs e = e
seen_keeps c (d ∷ q) vs e = seen_keeps c q _ (pick (is_variable d) (among d vs))
  where
    pick : (t u : Bool) → among c (cond t (cond u vs (vs ++ (d ∷ []))) vs) ≡ true
    pick false u = e
    pick true true = e
    pick true false = (among_front c vs (d ∷ []) e).0

pub seen_found : (q vs : List ℕ) → All (Found (seen vs q)) q
seen_found [] vs = tt
seen_found (c ∷ q) vs = (λ h. seen_keeps c q _ (pick (is_variable c) refl h (among c vs) refl), seen_found q _)
  where
    pick : (t : Bool) → is_variable c ≡ t → t ≡ true → (u : Bool) → among c vs ≡ u → among c (cond t (cond u vs (vs ++ (c ∷ []))) vs) ≡ true
    pick false x h u y = absurd (false≢true h)
    pick true x h true y = y
    pick true x h false y = (among_last c vs c y).0 ∙ eq-eqb c c refl

-- no more variables than cells
pub seen_few : (q vs : List ℕ) → length (seen vs q) ≤ length vs + length q
seen_few [] vs = omega arith
seen_few (c ∷ q) vs = let h = seen_few q (cond (is_variable c) (cond (among c vs) vs (vs ++ (c ∷ []))) vs) in let k = one (is_variable c) (among c vs) in omega arith
  where
    one : (t u : Bool) → length (cond t (cond u vs (vs ++ (c ∷ []))) vs) ≤ suc (length vs)
    one false u = omega arith
    one true true = omega arith
    one true false = omega (arith, length-append vs (c ∷ []))
