-- The numbers that the symbols leave free: which they are, and that there are enough of them.
use Prim.Native.Nat.{ℕ, zero, suc, ◌+◌, ◌≤◌}
use mathlib.Core.Path.{◌≡◌, refl, ap, ap₂, ◌∙◌, sym as inv}
use mathlib.Core.Bool.{Bool, true, false, cond, ◌||◌}
use mathlib.Core.List.{List, [], ◌∷◌, ◌++◌}
use native.Mathlib.Omega.{arith}
use lib.Dec.{ltb}
use lib.ListN.{length}
use borrow.Author.Tests.{lt-ltb, le-ltb, ltb-true, ltb-false}
use Rattle.language.specs.Words.{Word, same}
use Rattle.language.specs.Tokens.{place, is_among}
use Rattle.lexer.proofs.TableMeaning.{same_word}
use Rattle.listing.specs.Sample.{name_q, free_numbers}
use Rattle.samples.proofs.NumberLaws.{name_q_apart}

pub among_more : (w v : Word) (vs : List Word) → is_among w (v ∷ vs) ≡ (same v w || is_among w vs)
among_more w v vs = pick (same v w)
  where
    shift : (a b : ℕ) → ltb (suc a) (suc b) ≡ ltb a b
    shift a b = go (ltb a b) refl
      where
        go : (t : Bool) → ltb a b ≡ t → ltb (suc a) (suc b) ≡ t
        go true e = lt-ltb (suc a) (suc b) (omega (arith, ltb-true a b e))
        go false e = le-ltb (suc a) (suc b) (omega (arith, ltb-false a b e))

    pick : (b : Bool) → ltb (elim b [ true ↦ 0 | false ↦ suc (place w vs) ]) (suc (length vs)) ≡ (b || is_among w vs)
    pick true = lt-ltb 0 (suc (length vs)) (omega arith)
    pick false = shift (place w vs) (length vs)

-- Of more numbers the first are the same.
pub free_more : (ns : List Word) (k d n : ℕ) → free_numbers ns (k + d) n ≡ free_numbers ns k n ++ free_numbers ns d (n + k)
free_more ns zero d n = let z : 0 + d ≡ d = omega arith in let y : n + 0 ≡ n = omega arith in rw (z, y)
free_more ns (suc k) d n =
    let z : suc k + d ≡ suc (k + d) = omega arith in
    let y : n + suc k ≡ suc n + k = omega arith in
    rw (z, y, free_more ns k d (suc n)) (pick (is_among (name_q n) ns))
  where
    pick : (b : Bool) → cond b (free_numbers ns k (suc n) ++ free_numbers ns d (suc n + k)) (n ∷ (free_numbers ns k (suc n) ++ free_numbers ns d (suc n + k)))
        ≡ cond b (free_numbers ns k (suc n)) (n ∷ free_numbers ns k (suc n)) ++ free_numbers ns d (suc n + k)
    pick true = refl
    pick false = refl

-- A symbol leaves out one number at most.
module _ (v : Word) (ns : List Word) where
  passed : (k n : ℕ) → ((m : ℕ) → n ≤ m → same v (name_q m) ≡ false) → free_numbers (v ∷ ns) k n ≡ free_numbers ns k n
  passed zero n h = refl
  passed (suc k) n h =
      ap₂ (λ (b : Bool) (later : List ℕ). cond b later (n ∷ later))
      (among_more (name_q n) v ns ∙ ap (λ (b : Bool). b || is_among (name_q n) ns) (h n (omega arith))) (passed k (suc n) (λ m l. h m (omega arith)))

  one_less : (k n : ℕ) → 1 ≤ n → length (free_numbers ns k n) ≤ suc (length (free_numbers (v ∷ ns) k n))
  one_less zero n l = omega arith
  one_less (suc k) n l = rw (among_more (name_q n) v ns) (go (same v (name_q n)) refl (is_among (name_q n) ns) (one_less k (suc n) (omega arith)))
    where
      others : same v (name_q n) ≡ true → (m : ℕ) → suc n ≤ m → same v (name_q m) ≡ false
      others e m h = pick (same v (name_q m)) refl
        where
          pick : (b : Bool) → same v (name_q m) ≡ b → b ≡ false
          pick true f = absurd (let z : n ≡ m = name_q_apart n m l (omega arith) (inv (same_word v (name_q n) e) ∙ same_word v (name_q m) f) in omega arith)
          pick false f = refl

      go : (s : Bool) → same v (name_q n) ≡ s → (t : Bool) → length (free_numbers ns k (suc n)) ≤ suc (length (free_numbers (v ∷ ns) k (suc n))) →
          length (cond t (free_numbers ns k (suc n)) (n ∷ free_numbers ns k (suc n))) ≤ suc (length (cond (s || t) (free_numbers (v ∷ ns) k (suc n)) (n ∷ free_numbers (v ∷ ns) k (suc n))))
      go true e true h = omega arith
      go true e false h = let q = ap length (passed k (suc n) (others e)) in omega arith
      go false e true h = omega arith
      go false e false h = omega arith

free_all : (k n : ℕ) → length (free_numbers [] k n) ≡ k
free_all zero n = refl
free_all (suc k) n = ap suc (free_all k (suc n))

-- "No more numbers are left out than there are symbols"
pub free_many : (ns : List Word) (k n : ℕ) → 1 ≤ n → k ≤ length (free_numbers ns k n) + length ns
free_many [] k n l = omega (arith, free_all k n)
free_many (v ∷ ns) k n l = omega (arith, free_many ns k n l, one_less v ns k n l)
