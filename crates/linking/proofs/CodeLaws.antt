-- A token's cells set and read back, and a range of tokens.
use Prim.Native.Nat.{ℕ, zero, suc, ◌+◌, ◌*◌, ◌≤◌, ◌<◌}
use mathlib.Core.Path.{◌≡◌, refl, ap, ◌∙◌}
use mathlib.Core.Bool.{Bool, true, false, cond}
use mathlib.Core.List.{List}
use native.Mathlib.Omega.{arith}
use lib.Dec.{ltb}
use lib.ListN.{length, get_or, set, length-set}
use lib.Seq.{get_or-set_same, get_or-set_other}
use borrow.Author.Tests.{lt-ltb, ltb-true, ltb-false}
use Rattle.linking.specs.declared.code.Link.{Link}
use Rattle.linking.specs.Twins.Code.{link, link_at, with_link}
use Rattle.linking.specs.Twins.Linking.{token_link, range_linked}

-- code and g agree on the tokens from a up to b
pub record Agree (a b : ℕ) (code g : List ℕ) : Type 0 where
  pub same : (j : ℕ) → a ≤ j → j < b → link_at g j ≡ link_at code j

-- g is what writing tokens from a on made of code
pub record Wrote (a : ℕ) (code g : List ℕ) : Type 0 where
  pub long : length g ≡ length code
  pub before : (j : ℕ) → j < a → link_at g j ≡ link_at code j
  pub beyond : (j : ℕ) → 16388 ≤ j → get_or g j 0 ≡ get_or code j 0

abbrev one : List ℕ → ℕ → Link → List ℕ
one code i l = set code (4 * i) l.mark

abbrev two : List ℕ → ℕ → Link → List ℕ
two code i l = set (one code i l) (4 * i + 1) l.first

abbrev three : List ℕ → ℕ → Link → List ℕ
three code i l = set (two code i l) (4 * i + 2) l.second

abbrev four : List ℕ → ℕ → Link → List ℕ
four code i l = set (three code i l) (4 * i + 3) l.past

-- a cell of another token
apart : (code : List ℕ) (i : ℕ) (l : Link) (m : ℕ) → (m ≡ 4 * i → ⊥) → (m ≡ 4 * i + 1 → ⊥) → (m ≡ 4 * i + 2 → ⊥) → (m ≡ 4 * i + 3 → ⊥) → get_or (four code i l) m 0 ≡ get_or code m 0
apart code i l m a b c d =
    get_or-set_other (three code i l) (4 * i + 3) m l.past 0 d ∙ get_or-set_other (two code i l) (4 * i + 2) m l.second 0 c ∙
    get_or-set_other (one code i l) (4 * i + 1) m l.first 0 b ∙ get_or-set_other code (4 * i) m l.mark 0 a

long_one : (code : List ℕ) (i : ℕ) (l : Link) → length (one code i l) ≡ length code
long_one code i l = length-set code (4 * i) l.mark

long_two : (code : List ℕ) (i : ℕ) (l : Link) → length (two code i l) ≡ length code
long_two code i l = length-set (one code i l) (4 * i + 1) l.first ∙ long_one code i l

long_three : (code : List ℕ) (i : ℕ) (l : Link) → length (three code i l) ≡ length code
long_three code i l = length-set (two code i l) (4 * i + 2) l.second ∙ long_two code i l

long_four : (code : List ℕ) (i : ℕ) (l : Link) → length (four code i l) ≡ length code
long_four code i l = length-set (three code i l) (4 * i + 3) l.past ∙ long_three code i l

same_four : (m n o p q r s t : ℕ) → m ≡ q → n ≡ r → o ≡ s → p ≡ t → link m n o p ≡ link q r s t
same_four m n o p q r s t a b c d = rw (a, b, c, d)

with_beyond : (i : ℕ) (l : Link) (code : List ℕ) (j : ℕ) → 16388 ≤ j → get_or (with_link i l code) j 0 ≡ get_or code j 0
unfolding with_link
with_beyond i l code j m = go (ltb i 4097) refl
  where
    go : (b : Bool) → ltb i 4097 ≡ b → get_or (cond b (four code i l) code) j 0 ≡ get_or code j 0
    go true e = let n = ltb-true i 4097 e in apart code i l j (λ z. omega arith) (λ z. omega arith) (λ z. omega arith) (λ z. omega arith)
    go false e = refl

pub with_long : (i : ℕ) (l : Link) (code : List ℕ) → length (with_link i l code) ≡ length code
unfolding with_link
with_long i l code = go (ltb i 4097)
  where
    go : (b : Bool) → length (cond b (four code i l) code) ≡ length code
    go true = long_four code i l
    go false = refl

pub with_other : (i j : ℕ) (l : Link) (code : List ℕ) → (j ≡ i → ⊥) → link_at (with_link i l code) j ≡ link_at code j
unfolding with_link link_at
with_other i j l code f = go (ltb i 4097)
  where
    at : List ℕ → Link
    at c = cond (ltb j 4097) (link (get_or c (4 * j) 0) (get_or c (4 * j + 1) 0) (get_or c (4 * j + 2) 0) (get_or c (4 * j + 3) 0)) (link 0 0 0 0)

    go : (b : Bool) → at (cond b (four code i l) code) ≡ at code
    go false = refl
    go true = ap (λ (k : Link). cond (ltb j 4097) k (link 0 0 0 0)) (same_four _ _ _ _ _ _ _ _
        (apart code i l (4 * j) (λ e. f (omega arith)) (λ e. f (omega arith)) (λ e. f (omega arith)) (λ e. f (omega arith)))
        (apart code i l (4 * j + 1) (λ e. f (omega arith)) (λ e. f (omega arith)) (λ e. f (omega arith)) (λ e. f (omega arith)))
        (apart code i l (4 * j + 2) (λ e. f (omega arith)) (λ e. f (omega arith)) (λ e. f (omega arith)) (λ e. f (omega arith)))
        (apart code i l (4 * j + 3) (λ e. f (omega arith)) (λ e. f (omega arith)) (λ e. f (omega arith)) (λ e. f (omega arith))))

pub with_same : (i : ℕ) (l : Link) (code : List ℕ) → i < 4097 → length code ≡ 24582 → link_at (with_link i l code) i ≡ l
unfolding with_link link_at
with_same i l code m e =
    let e1 = long_one code i l in let e2 = long_two code i l in let e3 = long_three code i l in
    let a0 : 4 * i < length code = omega arith in
    let a1 : 4 * i + 1 < length (one code i l) = omega arith in
    let a2 : 4 * i + 2 < length (two code i l) = omega arith in
    let a3 : 4 * i + 3 < length (three code i l) = omega arith in
    rw (lt-ltb i 4097 m) (same_four _ _ _ _ l.mark l.first l.second l.past
    (get_or-set_other (three code i l) (4 * i + 3) (4 * i) l.past 0 (λ g. omega arith) ∙ get_or-set_other (two code i l) (4 * i + 2) (4 * i) l.second 0 (λ g. omega arith) ∙
    get_or-set_other (one code i l) (4 * i + 1) (4 * i) l.first 0 (λ g. omega arith) ∙ get_or-set_same code (4 * i) l.mark 0 a0)
    (get_or-set_other (three code i l) (4 * i + 3) (4 * i + 1) l.past 0 (λ g. omega arith) ∙ get_or-set_other (two code i l) (4 * i + 2) (4 * i + 1) l.second 0 (λ g. omega arith) ∙
    get_or-set_same (one code i l) (4 * i + 1) l.first 0 a1)
    (get_or-set_other (three code i l) (4 * i + 3) (4 * i + 2) l.past 0 (λ g. omega arith) ∙ get_or-set_same (two code i l) (4 * i + 2) l.second 0 a2)
    (get_or-set_same (three code i l) (4 * i + 3) l.past 0 a3))

pub with_wrote : (i : ℕ) (l : Link) (code : List ℕ) → Wrote i code (with_link i l code)
with_wrote i l code = record {
  long = with_long i l code;
  before = λ j m. with_other i j l code (λ e. omega arith);
  beyond = λ j m. with_beyond i l code j m;
}

wrote_none : (a : ℕ) (code : List ℕ) → Wrote a code code
wrote_none a code = record { long = refl; before = λ j m. refl; beyond = λ j m. refl }

pub wider : {a c : ℕ} {code g : List ℕ} → Wrote c code g → a ≤ c → Wrote a code g
wider w p = record { long = w.long; before = λ j m. w.before j (omega arith); beyond = w.beyond }

pub wrote_then : {a : ℕ} {code g h : List ℕ} → Wrote a code g → Wrote a g h → Wrote a code h
wrote_then v w = record { long = w.long ∙ v.long; before = λ j m. w.before j m ∙ v.before j m; beyond = λ j m. w.beyond j m ∙ v.beyond j m }

module _ (marks nums ends names : List ℕ) (used : ℕ) where
  abbrev ranged : ℕ → ℕ → List ℕ → List ℕ
  ranged left i code = range_linked marks nums ends names used left i code

  pub range_wrote : (left i : ℕ) (code : List ℕ) → Wrote i code (ranged left i code)
  unfolding range_linked
  range_wrote zero i code = wrote_none i code
  range_wrote (suc left) i code =
      wrote_then (with_wrote i (token_link marks nums ends names used i) code) (wider (range_wrote left (i + 1) (with_link i (token_link marks nums ends names used i) code)) (omega arith))

  pub range_at : (left i : ℕ) (code : List ℕ) → i + left ≤ 4097 → length code ≡ 24582 → (j : ℕ) → i ≤ j → j < i + left → link_at (ranged left i code) j ≡ token_link marks nums ends names used j
  unfolding range_linked
  range_at zero i code r e j a b = let z : ⊥ = omega arith in absurd z
  range_at (suc left) i code r e j a b =
      let l = token_link marks nums ends names used i in
      first_or_later i j left l code r e a b (λ m. range_at left (i + 1) (with_link i l code) (omega arith) (with_long i l code ∙ e) j (omega arith) (omega arith)) refl
    where
      first_or_later : (i j left : ℕ) (l : Link) (code : List ℕ) → i + suc left ≤ 4097 → length code ≡ 24582 → i ≤ j → j < i + suc left →
          (i < j → link_at (ranged left (i + 1) (with_link i l code)) j ≡ token_link marks nums ends names used j) → l ≡ token_link marks nums ends names used i →
          link_at (ranged left (i + 1) (with_link i l code)) j ≡ token_link marks nums ends names used j
      first_or_later i j left l code r e a b later is = go (ltb i j) refl
        where
          go : (t : Bool) → ltb i j ≡ t → link_at (ranged left (i + 1) (with_link i l code)) j ≡ token_link marks nums ends names used j
          go true h = later (ltb-true i j h)
          go false h =
              let m = ltb-false i j h in let s : j ≡ i = omega arith in
              (range_wrote left (i + 1) (with_link i l code)).before j (omega arith) ∙ rw s (with_same i l code (omega arith) e ∙ is)
