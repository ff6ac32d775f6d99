-- The first bytes of a word decide its kind, and the first the fixed words that it is compared with.
use Prim.Native.Nat.{ℕ, suc}
use mathlib.Core.Path.{◌≡◌, refl, ap, subst, ◌∙◌, sym}
use mathlib.Core.Bool.{Bool, true, false, cond, ◌&&◌}
use mathlib.Core.List.{[], ◌∷◌}
use native.Mathlib.Omega.{arith}
use lib.Dec.{eqb}
use lib.ListN.{length, get_or}
use borrow.Author.Tests.{ne_eqb}
use Rattle.language.specs.Bytes.{txt}
use Rattle.language.specs.Words.{Word, same}
use Rattle.language.specs.Tokens.{ename, aname, evariable, avariable, plain, tag, kind_of, key_of}

-- two bytes are enough for the kind
kind_two : (w : Word) → kind_of w ≡ kind_of (get_or w 0 0 ∷ get_or w 1 0 ∷ [])
kind_two [] = refl
kind_two (a ∷ []) = refl
kind_two (a ∷ b ∷ w) = refl

kind_first : (a : ℕ) (w : Word) → get_or w 0 0 ≡ a → tag (kind_of w) ≡ tag (kind_of (a ∷ get_or w 1 0 ∷ []))
kind_first a w e = ap tag (kind_two w) ∙ ap (λ x. tag (kind_of (x ∷ get_or w 1 0 ∷ []))) e

pub kind_symbol : (w : Word) → get_or w 0 0 ≡ 39 → tag (kind_of w) ≡ 0
kind_symbol w e = kind_first 39 w e

pub kind_ename : (w : Word) → get_or w 0 0 ≡ 101 → tag (kind_of w) ≡ cond (eqb 46 (get_or w 1 0)) 1 5
kind_ename w e = kind_first 101 w e ∙ go (eqb 46 (get_or w 1 0))
  where
    go : (t : Bool) → tag (cond (t && true) ename plain) ≡ cond t 1 5
    go true = refl
    go false = refl

pub kind_aname : (w : Word) → get_or w 0 0 ≡ 97 → tag (kind_of w) ≡ cond (eqb 46 (get_or w 1 0)) 2 5
kind_aname w e = kind_first 97 w e ∙ go (eqb 46 (get_or w 1 0))
  where
    go : (t : Bool) → tag (cond (t && true) aname plain) ≡ cond t 2 5
    go true = refl
    go false = refl

pub kind_variable : (w : Word) → get_or w 0 0 ≡ 63 → tag (kind_of w) ≡ cond (eqb 101 (get_or w 1 0)) 3 (cond (eqb 97 (get_or w 1 0)) 4 5)
kind_variable w e = kind_first 63 w e ∙ go (eqb 101 (get_or w 1 0)) (eqb 97 (get_or w 1 0))
  where
    go : (s t : Bool) → tag (cond (s && true) evariable (cond (t && true) avariable plain)) ≡ cond s 3 (cond t 4 5)
    go true t = refl
    go false true = refl
    go false false = refl

pub kind_plain : (w : Word) → (get_or w 0 0 ≡ 39 → ⊥) → (get_or w 0 0 ≡ 101 → ⊥) → (get_or w 0 0 ≡ 97 → ⊥) → (get_or w 0 0 ≡ 63 → ⊥) → tag (kind_of w) ≡ 5
kind_plain w p q r s = ap tag (kind_two w) ∙ go (get_or w 0 0) (get_or w 1 0) (other 39 p) (other 101 q) (other 97 r) (other 63 s)
  where
    other : (a : ℕ) → (get_or w 0 0 ≡ a → ⊥) → eqb a (get_or w 0 0) ≡ false
    other a h = ne_eqb a (get_or w 0 0) (λ z. h (sym z))

    go : (a b : ℕ) → eqb 39 a ≡ false → eqb 101 a ≡ false → eqb 97 a ≡ false → eqb 63 a ≡ false → tag (kind_of (a ∷ b ∷ [])) ≡ 5
    go a b e f g h = rw (e, f, g, h)

-- what holds of every word that begins with a byte
starts : (P : Word → Type 0) (b : ℕ) → ((v : Word) → P (suc b ∷ v)) → (w : Word) → get_or w 0 0 ≡ suc b → P w
starts P b h [] e = let z : ⊥ = omega arith in absurd z
starts P b h (a ∷ v) e = subst (λ x. P (x ∷ v)) (sym e) (h v)

-- the key of the one fixed word s that begins with a byte
pub key_one : (b k : ℕ) (s : Word) → ((v : Word) → same s (suc b ∷ v) ≡ true → key_of (suc b ∷ v) ≡ k) → ((v : Word) → same s (suc b ∷ v) ≡ false → key_of (suc b ∷ v) ≡ 18) →
    (w : Word) → get_or w 0 0 ≡ suc b → key_of w ≡ cond (same s w) k 18
key_one b k s g h w e = starts (λ x. key_of x ≡ cond (same s x) k 18) b (λ v. go v (same s (suc b ∷ v)) refl) w e
  where
    go : (v : Word) (t : Bool) → same s (suc b ∷ v) ≡ t → key_of (suc b ∷ v) ≡ cond (same s (suc b ∷ v)) k 18
    go v true e = g v e ∙ ap (λ t. cond t k 18) (sym e)
    go v false e = h v e ∙ ap (λ t. cond t k 18) (sym e)

pub key_c : (w : Word) → get_or w 0 0 ≡ 99 → key_of w ≡ cond (same (txt "call") w) 6 (cond (same (txt "cons") w) 8 (cond (same (txt "cons?") w) 10 18))
key_c w e = starts (λ x. key_of x ≡ cond (same (txt "call") x) 6 (cond (same (txt "cons") x) 8 (cond (same (txt "cons?") x) 10 18))) 98
    (λ v. go v (same (txt "all") v) refl (same (txt "ons") v) refl (same (txt "ons?") v) refl) w e
  where
    go : (v : Word) (r : Bool) → same (txt "all") v ≡ r → (s : Bool) → same (txt "ons") v ≡ s → (t : Bool) → same (txt "ons?") v ≡ t →
        key_of (99 ∷ v) ≡ cond (same (txt "call") (99 ∷ v)) 6 (cond (same (txt "cons") (99 ∷ v)) 8 (cond (same (txt "cons?") (99 ∷ v)) 10 18))
    go v true e s f t g = rw e
    go v false e true f t g = rw (e, f)
    go v false e false f true g = rw (e, f, g)
    go v false e false f false g = rw (e, f, g)

pub key_i : (w : Word) → get_or w 0 0 ≡ 105 → key_of w ≡ cond (same (txt "if") w) 7 (cond (same (txt "in") w) 12 18)
key_i w e = starts (λ x. key_of x ≡ cond (same (txt "if") x) 7 (cond (same (txt "in") x) 12 18)) 104 (λ v. go v (same (txt "f") v) refl (same (txt "n") v) refl) w e
  where
    go : (v : Word) (s : Bool) → same (txt "f") v ≡ s → (t : Bool) → same (txt "n") v ≡ t →
        key_of (105 ∷ v) ≡ cond (same (txt "if") (105 ∷ v)) 7 (cond (same (txt "in") (105 ∷ v)) 12 18)
    go v true e t f = rw e
    go v false e true f = rw (e, f)
    go v false e false f = rw (e, f)

-- the first bytes of the fixed words
pub record NoFixed (b : ℕ) : Type 0 where
  pub brackets : (b ≡ 40 → ⊥) × (b ≡ 41 → ⊥) × (b ≡ 91 → ⊥) × (b ≡ 93 → ⊥)
  pub of_program : (b ≡ 100 → ⊥) × (b ≡ 99 → ⊥) × (b ≡ 105 → ⊥) × (b ≡ 101 → ⊥)
  pub of_job : (b ≡ 106 → ⊥) × (b ≡ 111 → ⊥) × (b ≡ 110 → ⊥) × (b ≡ 115 → ⊥) × (b ≡ 119 → ⊥) × (b ≡ 116 → ⊥)

pub key_none : (w : Word) → (length w ≡ 0 → ⊥) → NoFixed (get_or w 0 0) → key_of w ≡ 18
key_none [] n h = absurd (n refl)
key_none (b ∷ v) n h =
    let p = h.brackets in
    let q = h.of_program in
    let r = h.of_job in
    rw (other 40 p.0, other 41 p.1, other 91 p.2, other 93 p.3, other 100 q.0, other 99 q.1, other 105 q.2, other 99 q.1, other 101 q.3, other 99 q.1, other 106 r.0, other 105 q.2, other 111 r.1, other 110 r.2, other 115 r.3, other 119 r.4, other 116 r.5)
  where
    other : (a : ℕ) → (b ≡ a → ⊥) → eqb a b ≡ false
    other a h = ne_eqb a b (λ z. h (sym z))

pub key_empty : (w : Word) → length w ≡ 0 → key_of w ≡ 0
key_empty [] h = refl
key_empty (b ∷ w) h = let z : ⊥ = omega arith in absurd z
