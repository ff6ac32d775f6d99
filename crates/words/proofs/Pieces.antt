-- Laws of the tokens: a piece's bytes stand in the text at its offset; a word's number is known when it is first met.
use Prim.Native.Nat.{ℕ, suc, ◌+◌, ◌≤◌, ◌<◌}
use mathlib.Core.Path.{◌≡◌, refl, ap, ap₂, subst, ◌∙◌, sym as inv}
use mathlib.Core.Bool.{Bool, true, false, cond, ◌&&◌, not, false≢true}
use mathlib.Core.List.{List, [], ◌∷◌, ◌++◌, append_assoc, append-nil}
use native.Mathlib.Omega.{arith}
use native.Mathlib.Nat.{not-suc-le-zero, le_of_suc-le-suc}
use lib.ListN.{length, take, drop}
use borrow.Author.Tests.{eq-eqb, ltb-true, ltb-false}
use Rattle.language.specs.Bytes.{Byte, blank, bracket, digit, letter, mark, outside, byte_kind, is_blank, in_word}
use Rattle.language.specs.Words.{Word, same}
use Rattle.language.specs.Tokens.{Piece, piece, goes_on, lengthen, cut, place, is_among, firsts}

abbrev All : (Piece → Type 0) → List Piece → Type 0
All Q [] = Unit {0}
All Q (p ∷ ps) = Q p × All Q ps

-- the piece's bytes stand in bs at its offset, which is counted from o
pub record Stands (o : ℕ) (bs : List ℕ) (p : Piece) : Type 0 where
  pub k : ℕ
  pub at : p.at ≡ o + k
  pub bytes : take (length p.word) (drop k bs) ≡ p.word

later : (o b : ℕ) (bs : List ℕ) (p : Piece) → Stands (suc o) bs p → Stands o (b ∷ bs) p
later o b bs p s = record { k = suc s.k; at = omega (arith, s.at); bytes = s.bytes }

all_later : (o b : ℕ) (bs : List ℕ) (ps : List Piece) → All (Stands (suc o) bs) ps → All (Stands o (b ∷ bs)) ps
all_later o b bs [] h = tt
all_later o b bs (p ∷ ps) h = (later o b bs p h.0, all_later o b bs ps h.1)

-- the first piece begins at o
abbrev FirstAt : ℕ → List Piece → Type 0
FirstAt o [] = ⊥
FirstAt o (p ∷ ps) = p.at ≡ o

word_blank : (k : Byte) → in_word k ≡ true → is_blank k ≡ false
word_blank blank e = absurd (false≢true e)
word_blank bracket e = refl
word_blank digit e = refl
word_blank letter e = refl
word_blank mark e = refl
word_blank outside e = refl

-- what `cut` puts in front, by its three tests
abbrev front : ℕ → ℕ → List Piece → Bool → Bool → List Piece
front o b ps blank' on = cond blank' ps (cond on (lengthen o b ps) (piece o (b ∷ []) ∷ ps))

front_first : (o b : ℕ) (ps : List Piece) (on : Bool) → (on ≡ true → FirstAt (suc o) ps) → FirstAt o (front o b ps false on)
front_first o b ps false h = refl
front_first o b [] true h = h refl
front_first o b (p ∷ ps) true h = refl

front_stands : (o b : ℕ) (bs : List ℕ) (ps : List Piece) → All (Stands (suc o) bs) ps → (a on : Bool) → (on ≡ true → FirstAt (suc o) ps) →
    All (Stands o (b ∷ bs)) (front o b ps a on)
front_stands o b bs ps h true on f = all_later o b bs ps h
front_stands o b bs ps h false false f = (record { k = 0; at = omega arith; bytes = refl }, all_later o b bs ps h)
front_stands o b bs [] h false true f = tt
front_stands o b bs (p ∷ ps) h false true f =
    let s = h.0 in
    let z : s.k ≡ 0 = omega (arith, s.at, f refl) in
    (record { k = 0; at = omega arith; bytes = ap (λ w. b ∷ w) (ap (λ n. take (length p.word) (drop n bs)) (inv z) ∙ s.bytes) }, all_later o b bs ps h.1)

and_right : (a b : Bool) → (a && b) ≡ true → b ≡ true
and_right true b e = e
and_right false b e = absurd (false≢true e)

cut_first : (o : ℕ) (bs : List ℕ) → goes_on bs ≡ true → FirstAt o (cut o bs)
unfolding cut
cut_first o [] g = absurd (false≢true g)
cut_first o (b ∷ bs) g = subst (λ (a : Bool). FirstAt o (front o b (cut (suc o) bs) a (in_word (byte_kind b) && goes_on bs))) (inv (word_blank (byte_kind b) g))
    (front_first o b (cut (suc o) bs) (in_word (byte_kind b) && goes_on bs) (λ e. cut_first (suc o) bs (and_right (in_word (byte_kind b)) (goes_on bs) e)))

pub cut_stands : (o : ℕ) (bs : List ℕ) → All (Stands o bs) (cut o bs)
unfolding cut
cut_stands o [] = (record { k = 0; at = omega arith; bytes = refl }, tt)
cut_stands o (b ∷ bs) = front_stands o b bs (cut (suc o) bs) (cut_stands (suc o) bs) (is_blank (byte_kind b)) (in_word (byte_kind b) && goes_on bs)
    (λ e. cut_first (suc o) bs (and_right (in_word (byte_kind b)) (goes_on bs) e))

-- numbers
same_self : (w : Word) → same w w ≡ true
same_self [] = refl
same_self (b ∷ w) = ap₂ ◌&&◌ (eq-eqb b b refl) (same_self w)

abbrev placed : Bool → ℕ → ℕ
placed t n = elim t [ true ↦ 0 | false ↦ suc n ]

place_in : (w : Word) (ws more : List Word) → place w ws < length ws → place w (ws ++ more) ≡ place w ws
place_in w [] more l = absurd (not-suc-le-zero l)
place_in w (v ∷ vs) more l = go (same v w) l (place_in w vs more)
  where
    go : (t : Bool) → placed t (place w vs) < suc (length vs) → (place w vs < length vs → place w (vs ++ more) ≡ place w vs) →
        placed t (place w (vs ++ more)) ≡ placed t (place w vs)
    go true l h = refl
    go false l h = ap suc (h (le_of_suc-le-suc l))

place_out : (w : Word) (ws more : List Word) → length ws ≤ place w ws → (place w (ws ++ (w ∷ more)) ≡ length ws) × (place w ws ≡ length ws)
place_out w [] more l = (ap (λ t. placed t (place w more)) (same_self w), refl)
place_out w (v ∷ vs) more l = go (same v w) l (place_out w vs more)
  where
    go : (t : Bool) → suc (length vs) ≤ placed t (place w vs) →
        (length vs ≤ place w vs → (place w (vs ++ (w ∷ more)) ≡ length vs) × (place w vs ≡ length vs)) →
        (placed t (place w (vs ++ (w ∷ more))) ≡ suc (length vs)) × (placed t (place w vs) ≡ suc (length vs))
    go true l h = absurd (not-suc-le-zero l)
    go false l h = let x = h (le_of_suc-le-suc l) in (ap suc x.0, ap suc x.1)

-- what comes later stands behind
firsts_grow : (f : Word → Bool) (ws : List Word) (ps : List Piece) → (more : List Word) × (firsts f ws ps ≡ ws ++ more)
firsts_grow f ws [] = ([], inv (append-nil ws))
firsts_grow f ws (p ∷ ps) = go (λ vs. firsts_grow f vs ps) (f p.word && not (is_among p.word ws))
  where
    go : ((vs : List Word) → (more : List Word) × (firsts f vs ps ≡ vs ++ more)) → (t : Bool) → (more : List Word) × (firsts f (cond t (ws ++ (p.word ∷ [])) ws) ps ≡ ws ++ more)
    go ih true = let x = ih (ws ++ (p.word ∷ [])) in (p.word ∷ x.0, x.1 ∙ append_assoc ws (p.word ∷ []) x.0)
    go ih false = ih ws

-- a word's number is its place among the words before it, and their number if it is new
pub number_known : (f : Word → Bool) (ws : List Word) (p : Piece) (ps : List Piece) → f p.word ≡ true → place p.word (firsts f ws (p ∷ ps)) ≡ place p.word ws
number_known f ws p ps e = go (is_among p.word ws) refl
  where
    w : Word
    w = p.word

    go : (t : Bool) → is_among w ws ≡ t → place w (firsts f (cond (f w && not (is_among w ws)) (ws ++ (w ∷ [])) ws) ps) ≡ place w ws
    go true z =
        let c : (f w && not (is_among w ws)) ≡ false = ap₂ (λ a b. a && not b) e z in
        let x = firsts_grow f ws ps in
        ap (λ t. place w (firsts f (cond t (ws ++ (w ∷ [])) ws) ps)) c ∙ ap (place w) x.1 ∙ place_in w ws x.0 (ltb-true (place w ws) (length ws) z)
    go false z =
        let c : (f w && not (is_among w ws)) ≡ true = ap₂ (λ a b. a && not b) e z in
        let x = firsts_grow f (ws ++ (w ∷ [])) ps in
        let y = place_out w ws x.0 (ltb-false (place w ws) (length ws) z) in
        ap (λ t. place w (firsts f (cond t (ws ++ (w ∷ [])) ws) ps)) c ∙ ap (place w) (x.1 ∙ append_assoc ws (w ∷ []) x.0) ∙ y.0 ∙ inv y.1
