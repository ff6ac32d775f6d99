-- Laws of the chains: a search along the word's chain is a search through the table, and an entry more keeps the chains.
use Prim.Native.Nat.{ℕ, zero, suc, ◌+◌, ◌-◌, ◌*◌, ◌%◌, ◌≤◌, ◌<◌}
use mathlib.Core.Path.{◌≡◌, refl, ap, subst, ◌∙◌, sym}
use mathlib.Core.Bool.{Bool, true, false, cond, ◌&&◌}
use mathlib.Core.List.{List}
use native.Mathlib.Omega.{arith}
use native.Mathlib.Nat.{mod-eq_of_lt}
use native.Mathlib.Decide.{ℕ_discrete}
use lib.Dec.{eqb, ltb}
use borrow.Author.Tests.{eq-eqb, ne_eqb, eqb-true, lt-ltb}
use lib.ListN.{length, get_or, set, length-set, replicate, length-replicate, get_or-replicate}
use lib.Seq.{get_or-set_same, get_or-set_other}
use Rattle.language.specs.Words.{Word, same}
use Rattle.lexer.specs.Twins.Table.{word_in, entry_is, find_at, entered}
use Rattle.lexer.specs.Twins.Lexed.{counted, entered_if}
use Rattle.lexer.specs.Twins.Chains.{bucket_of, newest_of, Chained, linked, linked_if, linked_all, Linked}
use Rattle.lexer.proofs.TableLaws.{find_none, find_here, find_on}

eqb_false : (a b : ℕ) → eqb a b ≡ false → a ≡ b → ⊥
eqb_false a b e z = let x : true ≡ false = sym (eq-eqb a b z) ∙ e in let y : ◌≡◌ {A = ℕ} 0 1 = cc in omega arith

module _ (table : List ℕ) (b : ℕ) where
  newest_here : (k : ℕ) → eqb (bucket_of table k) b ≡ true → newest_of table b (suc k) ≡ suc k
  unfolding newest_of
  newest_here k e = ap (λ t. cond t (suc k) (newest_of table b k)) e

  newest_on : (k : ℕ) → eqb (bucket_of table k) b ≡ false → newest_of table b (suc k) ≡ newest_of table b k
  unfolding newest_of
  newest_on k e = ap (λ t. cond t (suc k) (newest_of table b k)) e

  newest_none : newest_of table b 0 ≡ 0
  unfolding newest_of
  newest_none = refl

  newest_most : (k : ℕ) → newest_of table b k ≤ k
  newest_most zero = omega (arith, newest_none)
  newest_most (suc k) = go (eqb (bucket_of table k) b) refl (newest_most k)
    where
      go : (t : Bool) → eqb (bucket_of table k) b ≡ t → newest_of table b k ≤ k → newest_of table b (suc k) ≤ suc k
      go true e h = omega (arith, newest_here k e)
      go false e h = omega (arith, newest_on k e)

  -- it is of that bucket
  newest_bucket : (k : ℕ) → 0 < newest_of table b k → bucket_of table (newest_of table b k - 1) ≡ b
  newest_bucket zero h = let z : ⊥ = omega (arith, newest_none) in absurd z
  newest_bucket (suc k) h = go (eqb (bucket_of table k) b) refl (newest_bucket k)
    where
      go : (t : Bool) → eqb (bucket_of table k) b ≡ t → (0 < newest_of table b k → bucket_of table (newest_of table b k - 1) ≡ b) → bucket_of table (newest_of table b (suc k) - 1) ≡ b
      go true e again = let d : newest_of table b (suc k) - 1 ≡ k = omega (arith, newest_here k e) in ap (bucket_of table) d ∙ eqb-true (bucket_of table k) b e
      go false e again = let d = newest_on k e in ap (λ n. bucket_of table (n - 1)) d ∙ again (omega arith)

module _ (first second table : List ℕ) (count hash : ℕ) (w : Word) where
  abbrev from : ℕ → ℕ
  from k = find_at first second table hash w (count - k) k

  -- an entry of another bucket has another hash
  entry_other : (k : ℕ) → eqb (bucket_of table k) (hash % 256) ≡ false → entry_is first second table hash w k ≡ false
  entry_other k e = ap (λ t. t && same (word_in first second (get_or table (2 * k + 1) 0)) w) (ne_eqb (get_or table (2 * k) 0) hash (λ z. eqb_false (bucket_of table k) (hash % 256) e (ap (λ h. h % 256) z)))

  on : (k : ℕ) → k < count → entry_is first second table hash w k ≡ false → from k ≡ from (suc k)
  on k l e =
      let d : count - k - 1 ≡ count - suc k = omega arith in
      let s : k + 1 ≡ suc k = omega arith in
      find_on first second table hash w k (omega arith) e ∙ ap (λ n. find_at first second table hash w n (k + 1)) d ∙ ap (find_at first second table hash w (count - suc k)) s

  -- so the entries behind the newest of the bucket need no look
  skipped : (k : ℕ) → k ≤ count → from (newest_of table (hash % 256) k) ≡ from k
  skipped zero l = ap from (newest_none table (hash % 256))
  skipped (suc k) l = go (eqb (bucket_of table k) (hash % 256)) refl (skipped k (omega arith))
    where
      go : (t : Bool) → eqb (bucket_of table k) (hash % 256) ≡ t → from (newest_of table (hash % 256) k) ≡ from k → from (newest_of table (hash % 256) (suc k)) ≡ from (suc k)
      go true e again = ap from (newest_here table (hash % 256) k e)
      go false e again = ap from (newest_on table (hash % 256) k e) ∙ again ∙ on k (omega arith) (entry_other k e)

  -- the search has passed the entries from k on, and `found` is the first of them that is the word, or count
  pub record Passed (found k : ℕ) : Type 0 where
    pub here : from k ≡ found
    pub most : k ≤ count
    pub bucket : 0 < k → bucket_of table (k - 1) ≡ hash % 256

  passed_to : (k found : ℕ) → k ≤ count → from k ≡ found → Passed found (newest_of table (hash % 256) k)
  passed_to k found l e = record { here = skipped k l ∙ e; most = omega (arith, newest_most table (hash % 256) k); bucket = newest_bucket table (hash % 256) k }

  module _ (base : ℕ) (chains : List ℕ) (c : Chained base table count chains) where
    pub passed_none : (k : ℕ) → k ≡ get_or chains (base + hash % 256) 0 → Passed count k
    passed_none k e =
        let d : count - count ≡ 0 = omega arith in
        rw (e, c.heads (hash % 256) (omega arith)) (passed_to count count (omega arith) (find_none first second table hash w count (omega arith)))

    module _ (found k next : ℕ) (p : Passed found k) (l : 0 < k) (e : next ≡ get_or chains (base + 256 + (k - 1)) 0) where
      next_is : next ≡ newest_of table (hash % 256) (k - 1)
      next_is = e ∙ c.links (k - 1) (omega (arith, p.most)) ∙ ap (λ b. newest_of table b (k - 1)) (p.bucket l)

      pub passed_less : next < k
      passed_less = omega (arith, next_is, newest_most table (hash % 256) (k - 1))

      pub passed_here : entry_is first second table hash w (k - 1) ≡ true → Passed (k - 1) next
      passed_here t = rw next_is (passed_to (k - 1) (k - 1) (omega (arith, p.most)) (find_here first second table hash w (k - 1) (omega (arith, p.most)) t))

      pub passed_on : entry_is first second table hash w (k - 1) ≡ false → Passed found next
      passed_on t =
          let s : suc (k - 1) ≡ k = omega arith in
          rw next_is (passed_to (k - 1) found (omega (arith, p.most)) (on (k - 1) (omega (arith, p.most)) t ∙ ap from s ∙ p.here))

  pub passed_all : (found k : ℕ) → Passed found k → k ≤ 0 → found ≡ find_at first second table hash w count 0
  passed_all found k p l =
      let z : k ≡ 0 = omega arith in
      let d : count - 0 ≡ count = omega arith in
      sym p.here ∙ ap from z ∙ ap (λ n. find_at first second table hash w n 0) d

-- nothing is entered yet
chained_none : (base : ℕ) (table chains : List ℕ) → ((b : ℕ) → b < 256 → get_or chains (base + b) 0 ≡ 0) → Chained base table 0 chains
chained_none base table chains h = record { heads = λ b l. h b l ∙ sym (newest_none table b); links = λ k l. let z : ⊥ = omega arith in absurd z }

-- chains are kept where their cells are
chained_same : (base : ℕ) (table : List ℕ) (count : ℕ) (chains chains' : List ℕ) → ((i : ℕ) → base ≤ i → i < base + 256 + count → get_or chains' i 0 ≡ get_or chains i 0) →
    Chained base table count chains → Chained base table count chains'
chained_same base table count chains chains' h c = record {
  heads = λ b l. h (base + b) (omega arith) (omega arith) ∙ c.heads b l;
  links = λ k l. h (base + 256 + k) (omega arith) (omega arith) ∙ c.links k l;
}

-- a store at k leaves the buckets of those before it
module _ (table : List ℕ) (k hash o : ℕ) where
  bucket_kept : (j : ℕ) → j < k → bucket_of (entered table k hash o) j ≡ bucket_of table j
  bucket_kept j l = ap (λ n. n % 256) (get_or-set_other (set table (2 * k) hash) (2 * k + 1) (2 * j) o 0 (λ z. omega arith) ∙ get_or-set_other table (2 * k) (2 * j) hash 0 (λ z. omega arith))

  newest_kept : (b j : ℕ) → j ≤ k → newest_of (entered table k hash o) b j ≡ newest_of table b j
  newest_kept b zero l = newest_none (entered table k hash o) b ∙ sym (newest_none table b)
  newest_kept b (suc j) l = go (eqb (bucket_of table j) b) refl (newest_kept b j (omega arith))
    where
      go : (t : Bool) → eqb (bucket_of table j) b ≡ t → newest_of (entered table k hash o) b j ≡ newest_of table b j → newest_of (entered table k hash o) b (suc j) ≡ newest_of table b (suc j)
      go true e again = newest_here (entered table k hash o) b j (ap (λ n. eqb n b) (bucket_kept j (omega arith)) ∙ e) ∙ sym (newest_here table b j e)
      go false e again = newest_on (entered table k hash o) b j (ap (λ n. eqb n b) (bucket_kept j (omega arith)) ∙ e) ∙ again ∙ sym (newest_on table b j e)

  chained_kept : (base : ℕ) (chains : List ℕ) → Chained base table k chains → Chained base (entered table k hash o) k chains
  chained_kept base chains c = record {
    heads = λ b l. c.heads b l ∙ sym (newest_kept b k (omega arith));
    links = λ j l. c.links j l ∙ ap (λ b. newest_of table b j) (sym (bucket_kept j l)) ∙ sym (newest_kept (bucket_of (entered table k hash o) j) j (omega arith));
  }

pub length_linked : (base : ℕ) (table : List ℕ) (k : ℕ) (chains : List ℕ) → length (linked base table k chains) ≡ length chains
length_linked base table k chains = simp length-set

module _ (base : ℕ) (table : List ℕ) (k : ℕ) (chains : List ℕ) where
  abbrev own : ℕ
  own = bucket_of table k

  abbrev behind : List ℕ
  behind = set chains (base + 256 + k) (get_or chains (base + own) 0)

  own_small : own < 256
  own_small = omega arith

  -- cells in front of the chains and behind the entry are left
  linked_before : (i : ℕ) → i < base → get_or (linked base table k chains) i 0 ≡ get_or chains i 0
  linked_before i l =
      get_or-set_other behind (base + own) i ((k + 1) % 65536) 0 (λ z. omega arith) ∙ get_or-set_other chains (base + 256 + k) i (get_or chains (base + own) 0) 0 (λ z. omega arith)

  linked_behind : (i : ℕ) → base + 256 + k < i → get_or (linked base table k chains) i 0 ≡ get_or chains i 0
  linked_behind i l =
      get_or-set_other behind (base + own) i ((k + 1) % 65536) 0 (λ z. omega (arith, own_small)) ∙ get_or-set_other chains (base + 256 + k) i (get_or chains (base + own) 0) 0 (λ z. omega arith)

  module _ (few : k ≤ 4096) (long : base + 256 + k < length chains) (c : Chained base table k chains) where
    number_same : (k + 1) % 65536 ≡ suc k
    number_same = mod-eq_of_lt {n = k + 1} {m = 65536} (omega arith) ∙ omega arith

    head_linked : (b : ℕ) → b < 256 → (t : Bool) → eqb own b ≡ t → get_or (linked base table k chains) (base + b) 0 ≡ newest_of table b (suc k)
    head_linked b l true e =
        let z = eqb-true own b e in
        let n : base + own < length behind = omega (arith, own_small, length-set chains (base + 256 + k) (get_or chains (base + own) 0)) in
        ap (λ m. get_or (set behind (base + own) ((k + 1) % 65536)) (base + m) 0) (sym z) ∙ get_or-set_same behind (base + own) ((k + 1) % 65536) 0 n ∙ number_same ∙ sym (newest_here table b k e)
    head_linked b l false e =
        get_or-set_other behind (base + own) (base + b) ((k + 1) % 65536) 0 (λ z. eqb_false own b e (omega arith))
        ∙ get_or-set_other chains (base + 256 + k) (base + b) (get_or chains (base + own) 0) 0 (λ z. omega arith) ∙ c.heads b l ∙ sym (newest_on table b k e)

    link_linked : (j : ℕ) → j < suc k → Dec (j ≡ k) → get_or (linked base table k chains) (base + 256 + j) 0 ≡ newest_of table (bucket_of table j) j
    link_linked j l (yes z) =
        get_or-set_other behind (base + own) (base + 256 + j) ((k + 1) % 65536) 0 (λ x. omega (arith, own_small)) ∙ ap (λ m. get_or behind (base + 256 + m) 0) z ∙
        get_or-set_same chains (base + 256 + k) (get_or chains (base + own) 0) 0 long ∙ c.heads own own_small ∙ ap (λ m. newest_of table (bucket_of table m) m) (sym z)
    link_linked j l (no z) =
        get_or-set_other behind (base + own) (base + 256 + j) ((k + 1) % 65536) 0 (λ x. omega (arith, own_small))
        ∙ get_or-set_other chains (base + 256 + k) (base + 256 + j) (get_or chains (base + own) 0) 0 (λ x. z (omega arith)) ∙ c.links j (omega arith)

    chained_linked : Chained base table (suc k) (linked base table k chains)
    chained_linked = record { heads = λ b l. head_linked b l (eqb own b) refl; links = λ j l. link_linked j l (ℕ_discrete j k) }

-- a new word or none: its chains
chained_turn : (base : ℕ) (b : Bool) (table : List ℕ) (k hash o : ℕ) (chains table' chains' : List ℕ) (k' : ℕ) → Chained base table k chains → k ≤ 4096 → base + 256 + k < length chains →
    table' ≡ entered_if b table k hash o → chains' ≡ linked_if base b table' k chains → k' ≡ counted b k → Chained base table' k' chains'
chained_turn base true table k hash o chains table' chains' k' c l n e f g =
    let s : k' ≡ suc k = g ∙ ap (λ t. cond t (k + 1) k) (lt-ltb k 65535 (omega arith)) ∙ omega arith in
    rw (s, f, e) (chained_linked base (entered table k hash o) k chains l n (chained_kept table k hash o base chains c))
chained_turn base false table k hash o chains table' chains' k' c l n e f g = rw (g, f, e) c

linked_if_before : (base : ℕ) (b : Bool) (table : List ℕ) (k : ℕ) (chains chains' : List ℕ) → chains' ≡ linked_if base b table k chains → (i : ℕ) → i < base → get_or chains' i 0 ≡ get_or chains i 0
linked_if_before base true table k chains chains' e i l = ap (λ c. get_or c i 0) e ∙ linked_before base table k chains i l
linked_if_before base false table k chains chains' e i l = ap (λ c. get_or c i 0) e

linked_if_behind : (base : ℕ) (b : Bool) (table : List ℕ) (k : ℕ) (chains chains' : List ℕ) → chains' ≡ linked_if base b table k chains → (i : ℕ) → base + 256 + k < i → get_or chains' i 0 ≡ get_or chains i 0
linked_if_behind base true table k chains chains' e i l = ap (λ c. get_or c i 0) e ∙ linked_behind base table k chains i l
linked_if_behind base false table k chains chains' e i l = ap (λ c. get_or c i 0) e

length_linked_if : (base : ℕ) (b : Bool) (table : List ℕ) (k : ℕ) (chains chains' : List ℕ) → chains' ≡ linked_if base b table k chains → length chains' ≡ length chains
length_linked_if base true table k chains chains' e = ap length e ∙ length_linked base table k chains
length_linked_if base false table k chains chains' e = ap length e

counted_least : (b : Bool) (k : ℕ) → k ≤ counted b k
counted_least true k = go (ltb k 65535)
  where
    go : (t : Bool) → k ≤ cond t (k + 1) k
    go true = omega arith
    go false = omega arith
counted_least false k = omega arith

counted_most : (b : Bool) (k : ℕ) → counted b k ≤ k + 1
counted_most true k = go (ltb k 65535)
  where
    go : (t : Bool) → cond t (k + 1) k ≤ k + 1
    go true = omega arith
    go false = omega arith
counted_most false k = omega arith

-- one turn of the lexer keeps both
pub linked_turn : (s n : Bool) (symbols names chains symbols' names' chains₁ chains₂ : List ℕ) (found known found' known' hash o at : ℕ) → Linked symbols found names known chains → known ≤ 4096 →
    length chains ≡ 5634 → symbols' ≡ entered_if s symbols found hash o → names' ≡ entered_if n names known hash at → chains₁ ≡ linked_if 4353 s symbols' found chains →
    chains₂ ≡ linked_if 0 n names' known chains₁ → found' ≡ counted s found → known' ≡ counted n known → Linked symbols' found' names' known' chains₂ × (known' ≤ known + 1) × (length chains₂ ≡ 5634)
linked_turn s n symbols names chains symbols' names' chains₁ chains₂ found known found' known' hash o at c l long e f g h x y =
    let long₁ = length_linked_if 4353 s symbols' found chains chains₁ g in (
      record {
        of_names = chained_turn 0 n names known hash at chains₁ names' chains₂ known' (chained_same 0 names known chains chains₁ (λ i u v. linked_if_before 4353 s symbols' found chains chains₁ g i (omega arith)) c.of_names) l (omega arith) f h y;
        of_symbols = λ m.
            let few = counted_least s found in
            chained_same 4353 symbols' found' chains₁ chains₂ (λ i u v. linked_if_behind 0 n names' known chains₁ chains₂ h i (omega arith))
            (chained_turn 4353 s symbols found hash o chains symbols' chains₁ found' (c.of_symbols (omega arith)) (omega arith) (omega arith) e g x);
      },
      omega (arith, counted_most n known),
      length_linked_if 0 n names' known chains₁ chains₂ h ∙ long₁ ∙ long,
    )

-- the entries one after the other
module _ (base : ℕ) (table : List ℕ) where
  all_none : {n : ℕ} (k : ℕ) (chains : List ℕ) → n ≤ 0 → linked_all base table n k chains ≡ chains
  unfolding linked_all
  all_none {n = zero} k chains h = refl
  all_none {n = suc n} k chains h = let z : ⊥ = omega arith in absurd z

  all_more : {n : ℕ} (k : ℕ) (chains : List ℕ) → 0 < n → linked_all base table n k chains ≡ linked_all base table (n - 1) (k + 1) (linked base table k chains)
  unfolding linked_all
  all_more {n = zero} k chains h = let z : ⊥ = omega arith in absurd z
  all_more {n = suc n} k chains h = let d : suc n - 1 ≡ n = omega arith in rw d

  -- at the entry k of n
  pub all_past : (n k : ℕ) (chains : List ℕ) → n ≤ k → linked_all base table (n - k) k chains ≡ chains
  all_past n k chains h = all_none k chains (omega arith)

  pub all_next : (n k : ℕ) (chains : List ℕ) → k < n → linked_all base table (n - k) k chains ≡ linked_all base table (n - (k + 1)) (k + 1) (linked base table k chains)
  all_next n k chains h =
      let d : n - k - 1 ≡ n - (k + 1) = omega arith in
      rw (all_more {n = n - k} k chains (omega arith), d)

  all_length : (n k : ℕ) (chains : List ℕ) → length (linked_all base table n k chains) ≡ length chains
  unfolding linked_all
  all_length zero k chains = refl
  all_length (suc n) k chains = all_length n (k + 1) (linked base table k chains) ∙ length_linked base table k chains

  all_before : (n k : ℕ) (chains : List ℕ) (i : ℕ) → i < base → get_or (linked_all base table n k chains) i 0 ≡ get_or chains i 0
  unfolding linked_all
  all_before zero k chains i l = refl
  all_before (suc n) k chains i l = all_before n (k + 1) (linked base table k chains) i l ∙ linked_before base table k chains i l

  all_chained : (n k : ℕ) (chains : List ℕ) → n + k ≤ 4097 → base + 256 + (n + k) ≤ length chains → Chained base table k chains → Chained base table (n + k) (linked_all base table n k chains)
  unfolding linked_all
  all_chained zero k chains l h c = let z : 0 + k ≡ k = omega arith in rw z c
  all_chained (suc n) k chains l h c =
      let s : suc n + k ≡ n + (k + 1) = omega arith in
      let u : suc k ≡ k + 1 = omega arith in
      let x = length_linked base table k chains in
      let d : Chained base table (k + 1) (linked base table k chains) = subst (λ (m : ℕ). Chained base table m (linked base table k chains)) u (chained_linked base table k chains (omega arith) (omega arith) c) in
      subst (λ (m : ℕ). Chained base table m (linked_all base table n (k + 1) (linked base table k chains))) (sym s) (all_chained n (k + 1) (linked base table k chains) (omega arith) (omega arith) d)

-- what is known at the start of a text: the symbols that stood before it
pub linked_start : (symbols names chains : List ℕ) (before : ℕ) → chains ≡ linked_all 4353 symbols before 0 (replicate 5634 0) → Linked symbols before names 0 chains × (length chains ≡ 5634)
linked_start symbols names chains before e =
    let none : (i : ℕ) → i < 5634 → ◌≡◌ {A = ℕ} (get_or (replicate 5634 0) i 0) 0 = λ i l. get_or-replicate 5634 i 0 0 l in
    let long = length-replicate {A = ℕ} 5634 0 in
    let z : before + 0 ≡ before = omega arith in (
      record {
        of_names = chained_none 0 names chains (λ b l. ap (λ c. get_or c (0 + b) 0) e ∙ all_before 4353 symbols before 0 (replicate 5634 0) (0 + b) (omega arith) ∙ none (0 + b) (omega arith));
        of_symbols = λ m.
            rw e (subst (λ (n : ℕ). Chained 4353 symbols n (linked_all 4353 symbols before 0 (replicate 5634 0))) z
            (all_chained 4353 symbols before 0 (replicate 5634 0) (omega arith) (omega arith) (chained_none 4353 symbols (replicate 5634 0) (λ b l. none (4353 + b) (omega arith)))));
      },
      ap length e ∙ all_length 4353 symbols before 0 (replicate 5634 0) ∙ long,
    )
