-- The names of new atoms: enough of them, none a symbol's, each another.
use Prim.Native.Nat.{ℕ, zero, suc, ◌+◌, ◌-◌, ◌≤◌, ◌<◌}
use mathlib.Core.Path.{◌≡◌, refl, ap, ap₂, ◌∙◌, sym as inv}
use mathlib.Core.Bool.{Bool, true, false, cond, false≢true, true≢false}
use mathlib.Core.List.{List, [], ◌∷◌, ◌++◌, map}
use native.Mathlib.Omega.{arith}
use lib.Dec.{eqb, ltb}
use lib.ListN.{length, get_or, drop, get_or-append}
use lib.Seq.{get_or-append-add}
use borrow.Author.Tests.{ltb-true, ltb-false, lt-ltb, le-ltb, eqb-true, eqb-false, ne_eqb}
use Rattle.expressions.proofs.Tests.{eqb_same}
use Rattle.language.specs.Words.{Word, same}
use Rattle.language.specs.Tokens.{place, is_among}
use Rattle.language.proofs.TokenNumbers.{placed}
use Rattle.language.proofs.SymbolWords.{same_word}
use Rattle.listing.specs.Sample.{name_q, free_numbers, free_names, padded, sample_names}
use Rattle.listing.proofs.Numerals.{digits_apart}

pub name_q_apart : (m n : ℕ) → name_q m ≡ name_q n → m ≡ n
name_q_apart m n e = digits_apart m n (ap (drop 1) e)

abbrev step : Bool → ℕ → List ℕ → List ℕ
step t n later = cond t later (n ∷ later)

-- the numbers are rising, from n on, and below n + k
pub free_least : (ns : List Word) (k n i : ℕ) → i < length (free_numbers ns k n) → (n ≤ get_or (free_numbers ns k n) i 0) × (get_or (free_numbers ns k n) i 0 < n + k)
free_least ns zero n i h = absurd (omega arith)
free_least ns (suc k) n i h = go (is_among (name_q n) ns) i h (free_least ns k (suc n))
  where
    later : List ℕ
    later = free_numbers ns k (suc n)

    go : (t : Bool) (i : ℕ) → i < length (step t n later) → ((i : ℕ) → i < length later → (suc n ≤ get_or later i 0) × (get_or later i 0 < suc n + k)) →
        (n ≤ get_or (step t n later) i 0) × (get_or (step t n later) i 0 < n + suc k)
    go true i h ih = let r = ih i h in (omega (arith, r.0), omega (arith, r.1))
    go false zero h ih = (omega arith, omega arith)
    go false (suc i) h ih = let r = ih i (omega arith) in (omega (arith, r.0), omega (arith, r.1))

-- one behind another is larger
pub free_rising : (ns : List Word) (k n h i : ℕ) → h < i → i < length (free_numbers ns k n) → get_or (free_numbers ns k n) h 0 < get_or (free_numbers ns k n) i 0
free_rising ns zero n h i l m = absurd (omega arith)
free_rising ns (suc k) n h i l m = go (is_among (name_q n) ns) h i l m (free_rising ns k (suc n)) (free_least ns k (suc n))
  where
    later : List ℕ
    later = free_numbers ns k (suc n)

    go : (t : Bool) (h i : ℕ) → h < i → i < length (step t n later) → ((h i : ℕ) → h < i → i < length later → get_or later h 0 < get_or later i 0) →
        ((i : ℕ) → i < length later → (suc n ≤ get_or later i 0) × (get_or later i 0 < suc n + k)) → get_or (step t n later) h 0 < get_or (step t n later) i 0
    go true h i l m ih b = ih h i l m
    go false h zero l m ih b = absurd (omega arith)
    go false zero (suc i) l m ih b = (b i (omega arith)).0
    go false (suc h) (suc i) l m ih b = ih h i (omega arith) (omega arith)

-- "leaving out symbols of program or job"
pub free_new : (ns : List Word) (k n i : ℕ) → i < length (free_numbers ns k n) → is_among (name_q (get_or (free_numbers ns k n) i 0)) ns ≡ false
free_new ns zero n i h = absurd (omega arith)
free_new ns (suc k) n i h = go (is_among (name_q n) ns) refl i h (free_new ns k (suc n))
  where
    later : List ℕ
    later = free_numbers ns k (suc n)

    go : (t : Bool) → is_among (name_q n) ns ≡ t → (i : ℕ) → i < length (step t n later) → ((i : ℕ) → i < length later → is_among (name_q (get_or later i 0)) ns ≡ false) →
        is_among (name_q (get_or (step t n later) i 0)) ns ≡ false
    go true e i h ih = ih i h
    go false e zero h ih = e
    go false e (suc i) h ih = ih i (omega arith)

-- "from 1 up": a number that is passed is a symbol's name, or stands before
pub free_passed : (ns : List Word) (k n h i : ℕ) → h < length (free_numbers ns k n) → n ≤ i → i < get_or (free_numbers ns k n) h 0 → is_among (name_q i) ns ≡ false →
    (g : ℕ) × (g < h) × (get_or (free_numbers ns k n) g 0 ≡ i)
free_passed ns zero n h i l a b q = absurd (omega arith)
free_passed ns (suc k) n h i l a b q = go (is_among (name_q n) ns) refl h l b (eqb n i) refl (free_passed ns k (suc n))
  where
    later : List ℕ
    later = free_numbers ns k (suc n)

    more : (n ≡ i → ⊥) → suc n ≤ i
    more o = omega (arith, o)

    go : (t : Bool) → is_among (name_q n) ns ≡ t → (h : ℕ) → h < length (step t n later) → i < get_or (step t n later) h 0 → (u : Bool) → eqb n i ≡ u →
        ((h i : ℕ) → h < length later → suc n ≤ i → i < get_or later h 0 → is_among (name_q i) ns ≡ false → (g : ℕ) × (g < h) × (get_or later g 0 ≡ i)) →
        (g : ℕ) × (g < h) × (get_or (step t n later) g 0 ≡ i)
    go true e h l b true f ih = absurd (true≢false (inv e ∙ ap (λ (j : ℕ). is_among (name_q j) ns) (eqb-true n i f) ∙ q))
    go true e h l b false f ih = let o = eqb-false n i f in ih h i l (more o) b q
    go false e zero l b u f ih = absurd (omega arith)
    go false e (suc h) l b true f ih = (0, omega arith, eqb-true n i f)
    go false e (suc h) l b false f ih = let r = ih h i (omega arith) (more (eqb-false n i f)) b q in (suc r.0, omega (arith, r.1), r.2)

-- each is another: its place tells it
abbrev pub index_of : ℕ → List ℕ → ℕ
index_of n [] = 0
index_of n (m ∷ ms) = cond (eqb m n) 0 (suc (index_of n ms))

pub free_index : (ns : List Word) (k n i : ℕ) → i < length (free_numbers ns k n) → index_of (get_or (free_numbers ns k n) i 0) (free_numbers ns k n) ≡ i
free_index ns zero n i h = absurd (omega arith)
free_index ns (suc k) n i h = go (is_among (name_q n) ns) i h (free_index ns k (suc n)) (free_least ns k (suc n))
  where
    later : List ℕ
    later = free_numbers ns k (suc n)

    go : (t : Bool) (i : ℕ) → i < length (step t n later) → ((i : ℕ) → i < length later → index_of (get_or later i 0) later ≡ i) →
        ((i : ℕ) → i < length later → (suc n ≤ get_or later i 0) × (get_or later i 0 < suc n + k)) → index_of (get_or (step t n later) i 0) (step t n later) ≡ i
    go true i h ih l = ih i h
    go false zero h ih l = rw (eqb_same n)
    go false (suc i) h ih l =
        let r = l i (omega arith) in
        rw (ne_eqb n (get_or later i 0) (λ e. omega (arith, r.0))) (ap suc (ih i (omega arith)))

-- No more numbers are left out than there are names: a name that is met is taken out of them.
abbrev without : Word → List Word → List Word
without w [] = []
without w (v ∷ vs) = cond (same v w) vs (v ∷ without w vs)

ltb_suc : (a b : ℕ) → ltb (suc a) (suc b) ≡ ltb a b
ltb_suc a b = go (ltb a b) refl
  where
    go : (t : Bool) → ltb a b ≡ t → ltb (suc a) (suc b) ≡ t
    go true e = lt-ltb (suc a) (suc b) (omega (arith, ltb-true a b e))
    go false e = le-ltb (suc a) (suc b) (omega (arith, ltb-false a b e))

abbrev among : Bool → ℕ → ℕ → Bool
among t i l = ltb (placed t i) (suc l)

among_suc : (t : Bool) (i l : ℕ) → among t i l ≡ cond t true (ltb i l)
among_suc true i l = lt-ltb 0 (suc l) (omega arith)
among_suc false i l = ltb_suc i l

without_length : (w : Word) (ws : List Word) → is_among w ws ≡ true → suc (length (without w ws)) ≡ length ws
without_length w [] e = absurd (false≢true e)
without_length w (v ∷ vs) e = go (same v w) (inv (among_suc (same v w) (place w vs) (length vs)) ∙ e) (without_length w vs)
  where
    go : (t : Bool) → cond t true (is_among w vs) ≡ true → (is_among w vs ≡ true → suc (length (without w vs)) ≡ length vs) → suc (length (cond t vs (v ∷ without w vs))) ≡ suc (length vs)
    go true e ih = refl
    go false e ih = ap suc (ih e)

without_other : (v w : Word) (ws : List Word) → (v ≡ w → ⊥) → is_among v (without w ws) ≡ is_among v ws
without_other v w [] n = refl
without_other v w (u ∷ us) n = go (same u w) refl (same u v) refl (without_other v w us n)
  where
    split : (l : List Word) → is_among v (u ∷ l) ≡ cond (same u v) true (is_among v l)
    split l = among_suc (same u v) (place v l) (length l)

    go : (t : Bool) → same u w ≡ t → (r : Bool) → same u v ≡ r → is_among v (without w us) ≡ is_among v us → is_among v (cond t us (u ∷ without w us)) ≡ is_among v (u ∷ us)
    go true e true f ih = absurd (n (inv (same_word u v f) ∙ same_word u w e))
    go true e false f ih = inv (split us ∙ ap (λ (b : Bool). cond b true (is_among v us)) f)
    go false e true f ih = split (without w us) ∙ ap (λ (b : Bool). cond b true (is_among v (without w us))) f ∙ inv (split us ∙ ap (λ (b : Bool). cond b true (is_among v us)) f)
    go false e false f ih = split (without w us) ∙ ap (cond (same u v) true) ih ∙ inv (split us)

free_agree : (ns ms : List Word) (k n : ℕ) → ((i : ℕ) → n ≤ i → is_among (name_q i) ns ≡ is_among (name_q i) ms) → free_numbers ns k n ≡ free_numbers ms k n
free_agree ns ms zero n h = refl
free_agree ns ms (suc k) n h = ap₂ (λ (t : Bool) (l : List ℕ). step t n l) (h n (omega arith)) (free_agree ns ms k (suc n) (λ i l. h i (omega arith)))

pub free_many : (k : ℕ) (ns : List Word) (n : ℕ) → k ≤ length (free_numbers ns k n) + length ns
free_many zero ns n = omega arith
free_many (suc k) ns n = go (is_among (name_q n) ns) refl (λ ms. free_many k ms (suc n))
  where
    later : List ℕ
    later = free_numbers ns k (suc n)

    rest : List Word
    rest = without (name_q n) ns

    go : (t : Bool) → is_among (name_q n) ns ≡ t → ((ms : List Word) → k ≤ length (free_numbers ms k (suc n)) + length ms) → suc k ≤ length (step t n later) + length ns
    go true e ih =
        let a : later ≡ free_numbers rest k (suc n) = free_agree ns rest k (suc n) (λ i l. inv (without_other (name_q i) (name_q n) ns (λ q. let z = name_q_apart i n q in omega arith))) in
        let b : length later ≡ length (free_numbers rest k (suc n)) = ap (λ (l : List ℕ). length l) a in
        omega (arith, ih rest, without_length (name_q n) ns e, b)
    go false e ih = omega (arith, ih ns)

-- the names by number: those of the symbols, then the new ones
padded_length : (n : ℕ) (ns : List Word) → length (padded n ns) ≡ n
padded_length zero ns = refl
padded_length (suc n) [] = ap suc (padded_length n [])
padded_length (suc n) (w ∷ ns) = ap suc (padded_length n ns)

padded_at : (n : ℕ) (ns : List Word) (z : ℕ) → z < n → get_or (padded n ns) z [] ≡ get_or ns z []
padded_at zero ns z h = absurd (omega arith)
padded_at (suc n) [] zero h = refl
padded_at (suc n) [] (suc z) h = padded_at n [] z (omega arith)
padded_at (suc n) (w ∷ ns) zero h = refl
padded_at (suc n) (w ∷ ns) (suc z) h = padded_at n ns z (omega arith)

append_low : (ws vs : List Word) (z : ℕ) → z < length ws → get_or (ws ++ vs) z [] ≡ get_or ws z []
append_low [] vs z h = absurd (omega arith)
append_low (w ∷ ws) vs zero h = refl
append_low (w ∷ ws) vs (suc z) h = append_low ws vs z (omega arith)

map_at : (ms : List ℕ) (k : ℕ) → k < length ms → get_or (map name_q ms) k [] ≡ name_q (get_or ms k 0)
map_at [] k h = absurd (omega arith)
map_at (m ∷ ms) zero h = refl
map_at (m ∷ ms) (suc k) h = map_at ms k (omega arith)

at_low : (n : ℕ) (ns vs : List Word) (z : ℕ) → z < n → get_or (padded n ns ++ vs) z [] ≡ get_or ns z []
at_low n ns vs z h = append_low (padded n ns) vs z (omega (arith, padded_length n ns)) ∙ padded_at n ns z h

at_high : (n : ℕ) (ns vs : List Word) (k : ℕ) → get_or (padded n ns ++ vs) (n + k) [] ≡ get_or vs k []
at_high n ns vs k = ap (λ (m : ℕ). get_or (padded n ns ++ vs) (m + k) []) (inv (padded_length n ns)) ∙ get_or-append-add (padded n ns) vs k []

pub name_low : (ns : List Word) (m z : ℕ) → z < 1024 → get_or (sample_names ns m) z [] ≡ get_or ns z []
name_low ns m z h = at_low 1024 ns (free_names ns (m + length ns) 1) z h

-- the number of the new atom k
abbrev pub free_number : List Word → ℕ → ℕ → ℕ
free_number ns m k = get_or (free_numbers ns (m + length ns) 1) k 0

pub name_high : (ns : List Word) (m k : ℕ) → k < m → get_or (sample_names ns m) (1024 + k) [] ≡ name_q (free_number ns m k)
name_high ns m k h = at_high 1024 ns (free_names ns (m + length ns) 1) k ∙ map_at (free_numbers ns (m + length ns) 1) k (enough ns m k h)
  where
    enough : (ns : List Word) (m k : ℕ) → k < m → k < length (free_numbers ns (m + length ns) 1)
    enough ns m k h = omega (arith, free_many (m + length ns) ns 1)

-- what holds of it: at most so large, no symbol's name, and its place tells it
pub record Free (ns : List Word) (m k : ℕ) : Type 0 where
  pub least : 1 ≤ free_number ns m k
  pub most : free_number ns m k < 1 + (m + length ns)
  pub new : is_among (name_q (free_number ns m k)) ns ≡ false
  pub index : index_of (free_number ns m k) (free_numbers ns (m + length ns) 1) ≡ k

pub new_name_lem : (ns : List Word) (m k : ℕ) → k < m → Free ns m k
new_name_lem ns m k h =
    let n = m + length ns in
    let l : k < length (free_numbers ns n 1) = omega (arith, free_many n ns 1) in
    let r = free_least ns n 1 k l in
    record { least = r.0; most = r.1; new = free_new ns n 1 k l; index = free_index ns n 1 k l }

pub numbers_rising : (ns : List Word) (m h i : ℕ) → h < i → i < m → free_number ns m h < free_number ns m i
numbers_rising ns m h i l k = free_rising ns (m + length ns) 1 h i l (omega (arith, free_many (m + length ns) ns 1))

pub number_passed : (ns : List Word) (m k i : ℕ) → k < m → 1 ≤ i → i < free_number ns m k → is_among (name_q i) ns ≡ false → (h : ℕ) × (h < k) × (free_number ns m h ≡ i)
number_passed ns m k i l a b q = free_passed ns (m + length ns) 1 k i (omega (arith, free_many (m + length ns) ns 1)) a b q

-- more tries come behind: so that one list of free numbers serves all lines
pub free_append : (ns : List Word) (k d n : ℕ) → free_numbers ns (k + d) n ≡ free_numbers ns k n ++ free_numbers ns d (n + k)
free_append ns zero d n =
    let a : zero + d ≡ d = omega arith in
    let b : n ≡ n + zero = omega arith in
    ap₂ (free_numbers ns) a b
free_append ns (suc k) d n =
    let a : suc k + d ≡ suc (k + d) = omega arith in
    let b : suc n + k ≡ n + suc k = omega arith in
    ap (λ (i : ℕ). free_numbers ns i n) a ∙ ap (step (is_among (name_q n) ns) n) (free_append ns k d (suc n))
    ∙ go (is_among (name_q n) ns) ∙ ap (λ (i : ℕ). step (is_among (name_q n) ns) n (free_numbers ns k (suc n)) ++ free_numbers ns d i) b
  where
    go : (t : Bool) → step t n (free_numbers ns k (suc n) ++ free_numbers ns d (suc n + k)) ≡ step t n (free_numbers ns k (suc n)) ++ free_numbers ns d (suc n + k)
    go true = refl
    go false = refl

pub free_longer : (ns : List Word) (m k l : ℕ) → k < m → m + length ns ≤ l → get_or (free_numbers ns l 1) k 0 ≡ free_number ns m k
free_longer ns m k l h g =
    let n = m + length ns in
    let d = l - n in
    let e : l ≡ n + d = omega arith in
    let b : k < length (free_numbers ns n 1) = omega (arith, free_many n ns 1) in
    ap (λ (i : ℕ). get_or (free_numbers ns i 1) k 0) e ∙ ap (λ (ms : List ℕ). get_or ms k 0) (free_append ns n d 1) ∙ get_or-append (free_numbers ns n 1) (free_numbers ns d (1 + n)) 0 k b
