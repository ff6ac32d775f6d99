-- Laws of the readers over stored tokens: what the code's tests decide.
use Prim.Native.Nat.{ℕ, zero, suc, ◌<◌, ◌-◌, ◌/◌, ◌%◌}
use mathlib.Core.Path.{◌≡◌, refl, ap, ◌∙◌}
use mathlib.Core.Bool.{Bool, true, false, cond}
use mathlib.Core.List.{List}
use Rattle.std.specs.Prelude.{Result, Ok, Err}
use native.Mathlib.Omega.{arith}
use lib.Dec.{eqb, leb, ltb}
use borrow.Author.Tests.{ltb-true, eqb-false, leb-false, eq-eqb, ne_eqb}
use Rattle.language.specs.Words.{Fit, fits, broken, long, many}
use Rattle.language.specs.Tokens.{tag}
use Rattle.language.specs.Reader.{roomed}
use Rattle.refusals.specs.declared.refusal.Refusal.{Refusal}
use Rattle.grammar.specs.Twins.Positions.{on_past, seq_p, pick_p, tree_p}
use Rattle.words.specs.Twins.Marks.{kind_at, kind_tag, fit_at}
use Rattle.grammar.specs.Twins.Stored.{mark_at, wrong_at, the_in_at, leaf_at, tree_at}

pub roomed_more : {k : ℕ} → (k ≡ 0 → ⊥) → (f : Fit) → roomed k f ≡ f
roomed_more {k = zero} h f = absurd (h refl)
roomed_more {k = suc k} h f = refl

pub roomed_broken : (k : ℕ) → roomed k broken ≡ broken
roomed_broken zero = refl
roomed_broken (suc k) = refl

-- a word that does not fit does so with room and without
pub roomed_unfit : (k : ℕ) {n : ℕ} → (n ≡ 0 → ⊥) → roomed k (fit_at n) ≡ fit_at n
roomed_unfit (suc k) h = refl
roomed_unfit zero {n} h = go (eqb n 1) refl (eqb n 2) refl (leb 3 n) refl
  where
    go : (a : Bool) → eqb n 1 ≡ a → (b : Bool) → eqb n 2 ≡ b → (c : Bool) → leb 3 n ≡ c →
        roomed 0 (cond a broken (cond b long (cond c many fits))) ≡ cond a broken (cond b long (cond c many fits))
    go true x b y c z = refl
    go false x true y c z = refl
    go false x false y true z = refl
    go false x false y false z =
        let p = eqb-false n 1 x in
        let q = eqb-false n 2 y in
        let r = leb-false 3 n z in
        let e : ⊥ = omega arith in
        absurd e

tag_small : (n : ℕ) → n < 5 → tag (kind_at n) ≡ n
tag_small zero h = refl
tag_small (suc zero) h = refl
tag_small (suc (suc zero)) h = refl
tag_small (suc (suc (suc zero))) h = refl
tag_small (suc (suc (suc (suc zero)))) h = refl
tag_small (suc (suc (suc (suc (suc n))))) h = let z : ⊥ = omega arith in absurd z

pub tag_kind : (m : ℕ) → tag (kind_at (kind_tag m)) ≡ kind_tag m
tag_kind m = go (ltb (m / 32 % 8) 5) refl
  where
    go : (b : Bool) → ltb (m / 32 % 8) 5 ≡ b → tag (kind_at (cond b (m / 32 % 8) 5)) ≡ cond b (m / 32 % 8) 5
    go true e = tag_small (m / 32 % 8) (ltb-true (m / 32 % 8) 5 e)
    go false e = refl

-- one reader behind another
pub on_seq : (p q : ℕ → Result ℕ Refusal) (g : Result ℕ Refusal) → on_past (seq_p p q) g ≡ on_past q (on_past p g)
on_seq p q (Ok i) = refl
on_seq p q (Err r) = refl

module _ (marks ats : List ℕ) (e a : ℕ) where
  pub tree_leaf : (room i : ℕ) → (mark_at marks i % 32 ≡ 1 → ⊥) → tree_at marks ats e a room i ≡ leaf_at marks ats e a i
  unfolding tree_at tree_p
  tree_leaf zero i z = ap (λ b. pick_p b (λ k. on_past (wrong_at ats) (the_in_at marks ats 0 1 k)) (leaf_at marks ats e a) i) (ne_eqb _ _ z)
  tree_leaf (suc room) i z =
      let t = tree_at marks ats e a room in
      ap (λ b. pick_p b (seq_p (the_in_at marks ats 1 1) (seq_p (the_in_at marks ats 1 8) (seq_p t (seq_p t (the_in_at marks ats 1 2))))) (leaf_at marks ats e a) i) (ne_eqb _ _ z)

  pub tree_shut : {room : ℕ} → room ≡ 0 → (i : ℕ) → mark_at marks i % 32 ≡ 1 → tree_at marks ats e a room i ≡ on_past (wrong_at ats) (the_in_at marks ats 0 1 i)
  unfolding tree_at tree_p
  tree_shut h i z = rw h (ap (λ b. pick_p b (λ k. on_past (wrong_at ats) (the_in_at marks ats 0 1 k)) (leaf_at marks ats e a) i) (eq-eqb _ _ z))

  pub tree_more : {room : ℕ} → (room ≡ 0 → ⊥) → (i : ℕ) → mark_at marks i % 32 ≡ 1 → tree_at marks ats e a room i ≡
      on_past (the_in_at marks ats 1 2) (on_past (tree_at marks ats e a (room - 1)) (on_past (tree_at marks ats e a (room - 1)) (on_past (the_in_at marks ats 1 8) (the_in_at marks ats 1 1 i))))
  unfolding tree_at tree_p
  tree_more {room = zero} h i z = absurd (h refl)
  tree_more {room = suc room} h i z =
      let d : suc room - 1 ≡ room = omega arith in
      let t = tree_at marks ats e a room in
      let c = the_in_at marks ats 1 2 in
      let inside = on_past (the_in_at marks ats 1 8) (the_in_at marks ats 1 1 i) in
      rw d (ap (λ b. pick_p b (seq_p (the_in_at marks ats 1 1) (seq_p (the_in_at marks ats 1 8) (seq_p t (seq_p t c)))) (leaf_at marks ats e a) i) (eq-eqb _ _ z)
      ∙ on_seq (the_in_at marks ats 1 8) (seq_p t (seq_p t c)) (the_in_at marks ats 1 1 i)
      ∙ on_seq t (seq_p t c) inside ∙ on_seq t c (on_past t inside))
