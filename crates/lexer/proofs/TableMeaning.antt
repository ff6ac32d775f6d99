-- What a table of words means: a search finds a word's place among the words entered, and a word entered stands behind them.
use Prim.Native.Nat.{ℕ, zero, suc, ◌+◌, ◌-◌, ◌*◌, ◌≤◌, ◌<◌}
use mathlib.Core.Path.{◌≡◌, refl, ap, ap₂, ◌∙◌, sym}
use mathlib.Core.Bool.{Bool, true, false, cond, ◌&&◌, true≢false, false≢true}
use mathlib.Core.List.{List, [], ◌∷◌, ◌++◌}
use native.Mathlib.Omega.{arith}
use native.Mathlib.Numerals.{add-one}
use native.Mathlib.Decide.{ℕ_discrete}
use lib.Dec.{eqb}
use borrow.Author.Tests.{eq-eqb, eqb-true}
use lib.ListN.{length, take, drop, length-drop, get_or, set, length-set, length-append, drop_of_length-le, get_or-append}
use lib.Seq.{take_all, drop-cons, get_or-set_same, get_or-set_other, get_or_at}
use Rattle.language.specs.Words.{Word, same, begins}
use Rattle.language.specs.Tokens.{place}
use Rattle.words.specs.Twins.Cutting.{piece_end, part_of, word_at}
use Rattle.words.specs.Twins.Judged.{hash_of}
use Rattle.lexer.specs.Twins.Table.{word_in, entry_is, find_at, entered}

pub same_word : (v w : Word) → same v w ≡ true → v ≡ w
same_word [] [] e = refl
same_word [] (c ∷ w) e = absurd (false≢true e)
same_word (b ∷ v) [] e = absurd (false≢true e)
same_word (b ∷ v) (c ∷ w) e = go (eqb b c) refl e (λ z. same_word v w z)
  where
    go : (s : Bool) → eqb b c ≡ s → (s && same v w) ≡ true → (same v w ≡ true → v ≡ w) → (b ∷ v) ≡ (c ∷ w)
    go true x e again = ap₂ ◌∷◌ (eqb-true b c x) (again e)
    go false x e again = absurd (false≢true e)

-- a text begins with any beginning of it, so that what it does not begin with does not stand there
begins_take : (n : ℕ) (w : Word) → begins (take n w) w ≡ true
begins_take zero [] = refl
begins_take zero (b ∷ w) = refl
begins_take (suc n) [] = refl
begins_take (suc n) (b ∷ w) = ap₂ ◌&&◌ (eq-eqb b b refl) (begins_take n w)

part_begins : (text : List ℕ) (at e : ℕ) → begins (part_of text at e) (part_of text at (length text)) ≡ true
part_begins text at e =
    let whole : take (length text - at) (drop at text) ≡ drop at text = take_all (length text - at) (drop at text) (omega (arith, length-drop at text)) in
    rw whole (begins_take (e - at) (drop at text))

pub other_word : (text : List ℕ) (at : ℕ) (w : Word) → begins w (part_of text at (length text)) ≡ false → same (word_at text at) w ≡ false
unfolding word_at
other_word text at w e = go (same (part_of text at (piece_end text at)) w) refl
  where
    go : (b : Bool) → same (part_of text at (piece_end text at)) w ≡ b → b ≡ false
    go true z = absurd (true≢false (sym (part_begins text at (piece_end text at)) ∙ ap (λ v. begins v (part_of text at (length text))) (same_word (part_of text at (piece_end text at)) w z) ∙ e))
    go false z = refl

-- the entries are the words: of each its hash, and an offset where it stands
pub record Holds (first second table : List ℕ) (ws : List Word) : Type 0 where
  pub hash : (k : ℕ) → k < length ws → get_or table (2 * k) 0 ≡ hash_of (get_or ws k [])
  pub word : (k : ℕ) → k < length ws → word_in first second (get_or table (2 * k + 1) 0) ≡ get_or ws k []

module _ (first second table : List ℕ) where
  pub holds_none : Holds first second table []
  holds_none = record { hash = λ k h. let z : ⊥ = omega arith in absurd z; word = λ k h. let z : ⊥ = omega arith in absurd z }

  module _ (w : Word) (ws : List Word) (t : Holds first second table ws) where
    entry_word : (k : ℕ) → k < length ws → entry_is first second table (hash_of w) w k ≡ same (get_or ws k []) w
    entry_word k h = ap₂ (λ x v. eqb x (hash_of w) && same v w) (t.hash k h) (t.word k h) ∙ go (get_or ws k []) (same (get_or ws k []) w) refl
      where
        go : (v : Word) (b : Bool) → same v w ≡ b → (eqb (hash_of v) (hash_of w) && same v w) ≡ same v w
        go v true e = ap (λ x. x && same v w) (eq-eqb (hash_of v) (hash_of w) (ap hash_of (same_word v w e)))
        go v false e = ap (λ x. eqb (hash_of v) (hash_of w) && x) e ∙ none (eqb (hash_of v) (hash_of w)) ∙ sym e
          where
            none : (b : Bool) → (b && false) ≡ false
            none true = refl
            none false = refl

    find_from : (n k : ℕ) → n + k ≡ length ws → find_at first second table (hash_of w) w n k ≡ k + place w (drop k ws)
    unfolding find_at
    find_from zero k e = let h : length ws ≤ k = omega arith in rw (drop_of_length-le ws h) (omega arith)
    find_from (suc n) k e = let h : k < length ws = omega arith in rw (drop-cons ws k [] h) (go (same (get_or ws k []) w) (entry_word k (omega arith)) (find_from n (k + 1) (omega arith)))
      where
        go : (b : Bool) → entry_is first second table (hash_of w) w k ≡ b → find_at first second table (hash_of w) w n (k + 1) ≡ (k + 1) + place w (drop (k + 1) ws) →
            cond (entry_is first second table (hash_of w) w k) k (find_at first second table (hash_of w) w n (k + 1)) ≡ k + elim b [ true ↦ 0 | false ↦ suc (place w (drop (suc k) ws)) ]
        go true x again = ap (λ t. cond t k (find_at first second table (hash_of w) w n (k + 1))) x ∙ omega arith
        go false x again = ap (λ t. cond t k (find_at first second table (hash_of w) w n (k + 1))) x ∙ again ∙ rw (add-one k) (omega arith)

    -- the place among the words
    pub find_place : find_at first second table (hash_of w) w (length ws) 0 ≡ place w ws
    find_place = find_from (length ws) 0 (omega arith) ∙ omega arith

    -- one word more
    pub holds_entered : (o : ℕ) → 2 * length ws + 1 < length table → word_in first second o ≡ w → Holds first second (entered table (length ws) (hash_of w) o) (ws ++ (w ∷ []))
    holds_entered o l e = record { hash = λ k h. at_hash k h (ℕ_discrete k (length ws)); word = λ k h. at_word k h (ℕ_discrete k (length ws)) }
      where
        behind : (k : ℕ) → k < length (ws ++ (w ∷ [])) → (k ≡ length ws → ⊥) → k < length ws
        behind k h z = omega (arith, length-append ws (w ∷ []))

        last : (k : ℕ) → k ≡ length ws → get_or (ws ++ (w ∷ [])) k [] ≡ w
        last k z = get_or_at ws w [] [] k (sym z)

        kept : (k i : ℕ) → (i ≡ 2 * length ws → ⊥) → (i ≡ 2 * length ws + 1 → ⊥) → get_or (entered table (length ws) (hash_of w) o) i 0 ≡ get_or table i 0
        kept k i x y = get_or-set_other (set table (2 * length ws) (hash_of w)) (2 * length ws + 1) i o 0 y ∙ get_or-set_other table (2 * length ws) i (hash_of w) 0 x

        at_hash : (k : ℕ) → k < length (ws ++ (w ∷ [])) → Dec (k ≡ length ws) → get_or (entered table (length ws) (hash_of w) o) (2 * k) 0 ≡ hash_of (get_or (ws ++ (w ∷ [])) k [])
        at_hash k h (yes z) =
            let n : 2 * k ≡ 2 * length ws = ap (λ m. 2 * m) z in
            ap (λ m. get_or (entered table (length ws) (hash_of w) o) m 0) n
            ∙ get_or-set_other (set table (2 * length ws) (hash_of w)) (2 * length ws + 1) (2 * length ws) o 0 (λ x. omega arith)
            ∙ get_or-set_same table (2 * length ws) (hash_of w) 0 (omega arith)
            ∙ sym (ap hash_of (last k z))
        at_hash k h (no z) =
            let l = behind k h z in
            kept k (2 * k) (λ x. omega arith) (λ x. omega arith) ∙ t.hash k l ∙ ap hash_of (sym (get_or-append ws (w ∷ []) [] k l))

        at_word : (k : ℕ) → k < length (ws ++ (w ∷ [])) → Dec (k ≡ length ws) → word_in first second (get_or (entered table (length ws) (hash_of w) o) (2 * k + 1) 0) ≡ get_or (ws ++ (w ∷ [])) k []
        at_word k h (yes z) =
            let n : 2 * k + 1 ≡ 2 * length ws + 1 = ap (λ m. 2 * m + 1) z in
            ap (word_in first second) (ap (λ m. get_or (entered table (length ws) (hash_of w) o) m 0) n
            ∙ get_or-set_same (set table (2 * length ws) (hash_of w)) (2 * length ws + 1) o 0 (rw length-set l))
            ∙ e ∙ sym (last k z)
        at_word k h (no z) =
            let l = behind k h z in
            ap (word_in first second) (kept k (2 * k + 1) (λ x. omega arith) (λ x. omega arith)) ∙ t.word k l ∙ sym (get_or-append ws (w ∷ []) [] k l)
