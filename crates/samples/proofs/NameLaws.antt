-- The table that names are printed by has the names of `sample_names`.
use Prim.Native.Nat.{ℕ, zero, suc, ◌+◌, ◌-◌, ◌*◌, ◌/◌, ◌≤◌, ◌<◌}
use mathlib.Core.Path.{◌≡◌, refl, ap, ◌∙◌, sym as inv}
use mathlib.Core.Bool.{Bool, true, false, cond, ◌&&◌, ◌||◌, not}
use mathlib.Core.List.{List, [], ◌∷◌, ◌++◌, map}
use native.Mathlib.Omega.{arith}
use native.Mathlib.Numerals.{add-one}
use native.Mathlib.Decide.{ℕ_discrete}
use lib.Dec.{eqb}
use lib.ListN.{length, get_or, set, take, drop, replicate, length-set, length-append, length-map, length-replicate, get_or-replicate, drop_of_length-le, get_or-append, get_or-eq_default}
use lib.Seq.{drop-cons, get_or-set_same, get_or-set_other, get_or-append-add, get_or-take, length-take-le, take-nil}
use borrow.Author.Tests.{eqb-true, eqb-false, ne_eqb}
use Rattle.language.specs.Words.{Word}
use Rattle.language.specs.Tokens.{is_among}
use Rattle.lexer.specs.Twins.Table.{word_in}
use Rattle.words.specs.Twins.Cutting.{piece_end, word_at}
use Rattle.lexer.proofs.TableMeaning.{Holds}
use Rattle.listing.specs.Sample.{name_q, free_numbers, free_names, padded, sample_names}
use Rattle.samples.specs.Twins.Numbers.{number_of}
use Rattle.samples.specs.Twins.Naming.{copied_from, marked_from, free_from, name_table}
use Rattle.samples.proofs.Turns.{get_d_any}
use Rattle.samples.proofs.NumberLaws.{number_test}
use Rattle.samples.proofs.FreeLaws.{among_more, free_more, free_many}

-- marks by words
abbrev marked_words : List Word → List ℕ → List ℕ
marked_words [] t = t
marked_words (w ∷ ws) t = marked_words ws (set t (number_of w) 1)

-- the names of the symbols ws
abbrev pub unquoted : List Word → List Word
unquoted ws = map (λ w. drop 1 w) ws

marked_test : (ws : List Word) (t : List ℕ) (n : ℕ) → 1 ≤ n → n ≤ 5120 → n < length t →
    eqb (get_or (marked_words ws t) n 0) 0 ≡ (eqb (get_or t n 0) 0 && not (is_among (name_q n) (unquoted ws)))
marked_test [] t n l h k = last (eqb (get_or t n 0) 0)
  where
    last : (b : Bool) → b ≡ (b && true)
    last true = refl
    last false = refl
marked_test (w ∷ ws) t n l h k =
    marked_test ws (set t (number_of w) 1) n l h (omega (arith, length-set t (number_of w) 1))
    ∙ go (eqb (number_of w) n) refl ∙ ap (λ (b : Bool). eqb (get_or t n 0) 0 && not b) (inv (among_more (name_q n) (drop 1 w) (unquoted ws) ∙ ap (λ (b : Bool). b || is_among (name_q n) (unquoted ws)) (number_test w n l h)))
  where
    marked : number_of w ≡ n → get_or (set t (number_of w) 1) n 0 ≡ 1
    marked e = rw (e) (get_or-set_same t n 1 0 k)

    none : (b : Bool) → (b && false) ≡ false
    none true = refl
    none false = refl

    go : (s : Bool) → eqb (number_of w) n ≡ s →
        (eqb (get_or (set t (number_of w) 1) n 0) 0 && not (is_among (name_q n) (unquoted ws))) ≡ (eqb (get_or t n 0) 0 && not (s || is_among (name_q n) (unquoted ws)))
    go true e =
        ap (λ (b : Bool). b && not (is_among (name_q n) (unquoted ws))) (ne_eqb (get_or (set t (number_of w) 1) n 0) 0 (λ z. omega (arith, marked (eqb-true (number_of w) n e))))
        ∙ inv (none (eqb (get_or t n 0) 0))
    go false e =
        ap (λ (m : ℕ). eqb m 0 && not (is_among (name_q n) (unquoted ws))) (get_or-set_other t (number_of w) n 1 0 (λ z. eqb-false (number_of w) n e (inv z)))

-- what is copied and written keeps the table's length, and no cell before it changes
copied_length : (symbols : List ℕ) (left i : ℕ) (table : List ℕ) → length (copied_from symbols left i table) ≡ length table
unfolding copied_from
copied_length symbols zero i table = refl
copied_length symbols (suc left) i table = copied_length symbols left (i + 1) (set table i (get_or symbols i 65535)) ∙ length-set table i (get_or symbols i 65535)

copied_kept : (symbols : List ℕ) (left i j : ℕ) (table : List ℕ) → j < i → get_or (copied_from symbols left i table) j 0 ≡ get_or table j 0
unfolding copied_from
copied_kept symbols zero i j table h = refl
copied_kept symbols (suc left) i j table h =
    copied_kept symbols left (i + 1) j (set table i (get_or symbols i 65535)) (omega arith) ∙ get_or-set_other table i j (get_or symbols i 65535) 0 (λ e. omega arith)

copied_at : (symbols : List ℕ) (left i j : ℕ) (table : List ℕ) → i ≤ j → j < i + left → j < length table → get_or (copied_from symbols left i table) j 0 ≡ get_or symbols j 65535
unfolding copied_from
copied_at symbols zero i j table l h room = absurd (omega arith)
copied_at symbols (suc left) i j table l h room =
    go (ℕ_discrete j i) (λ k. copied_at symbols left (i + 1) j (set table i (get_or symbols i 65535)) k (omega arith) (omega (arith, length-set table i (get_or symbols i 65535))))
  where
    go : Dec (j ≡ i) → (i + 1 ≤ j → get_or (copied_from symbols left (i + 1) (set table i (get_or symbols i 65535))) j 0 ≡ get_or symbols j 65535) →
        get_or (copied_from symbols left (i + 1) (set table i (get_or symbols i 65535))) j 0 ≡ get_or symbols j 65535
    go (yes e) again =
        copied_kept symbols left (i + 1) j (set table i (get_or symbols i 65535)) (omega arith)
        ∙ rw e (get_or-set_same table i (get_or symbols i 65535) 0 (omega arith))
    go (no e) again = again (omega arith)

module _ (taken : List ℕ) where
  free_length : (left n at : ℕ) (table : List ℕ) → length (free_from taken left n at table) ≡ length table
  unfolding free_from
  free_length zero n at table = refl
  free_length (suc left) n at table =
      pick (eqb (get_or taken n 0) 0) (free_length left (n + 1) (at + 1) (set table at n) ∙ length-set table at n) (free_length left (n + 1) at table)
    where
      pick : (b : Bool) → length (free_from taken left (n + 1) (at + 1) (set table at n)) ≡ length table → length (free_from taken left (n + 1) at table) ≡ length table →
          length (cond b (free_from taken left (n + 1) (at + 1) (set table at n)) (free_from taken left (n + 1) at table)) ≡ length table
      pick true e f = e
      pick false e f = f

  free_kept : (left n at i : ℕ) (table : List ℕ) → i < at → get_or (free_from taken left n at table) i 0 ≡ get_or table i 0
  unfolding free_from
  free_kept zero n at i table h = refl
  free_kept (suc left) n at i table h =
      pick (eqb (get_or taken n 0) 0) (free_kept left (n + 1) (at + 1) i (set table at n) (omega arith) ∙ get_or-set_other table at i n 0 (λ e. omega arith)) (free_kept left (n + 1) at i table h)
    where
      pick : (b : Bool) → get_or (free_from taken left (n + 1) (at + 1) (set table at n)) i 0 ≡ get_or table i 0 → get_or (free_from taken left (n + 1) at table) i 0 ≡ get_or table i 0 →
          get_or (cond b (free_from taken left (n + 1) (at + 1) (set table at n)) (free_from taken left (n + 1) at table)) i 0 ≡ get_or table i 0
      pick true e f = e
      pick false e f = f

  -- the free numbers, from the cell `at` on
  module _ (ns : List Word) (told : (n : ℕ) → 1 ≤ n → n ≤ 5120 → eqb (get_or taken n 0) 0 ≡ not (is_among (name_q n) ns)) where
    free_at : (left n at k : ℕ) (table : List ℕ) → 1 ≤ n → n + left ≤ 5121 → k < length (free_numbers ns left n) → at + k < length table →
        get_or (free_from taken left n at table) (at + k) 0 ≡ get_or (free_numbers ns left n) k 0
    unfolding free_from
    free_at zero n at k table l h few room = absurd (omega arith)
    free_at (suc left) n at k table l h few room =
        rw (told n l (omega arith), add-one n) (go (is_among (name_q n) ns) k few room (λ b i u e f. free_at left (suc n) b i u (omega arith) (omega arith) e f))
      where
        go : (a : Bool) (k : ℕ) → k < length (cond a (free_numbers ns left (suc n)) (n ∷ free_numbers ns left (suc n))) → at + k < length table →
            ((b i : ℕ) (u : List ℕ) → i < length (free_numbers ns left (suc n)) → b + i < length u → get_or (free_from taken left (suc n) b u) (b + i) 0 ≡ get_or (free_numbers ns left (suc n)) i 0) →
            get_or (cond (not a) (free_from taken left (suc n) (at + 1) (set table at n)) (free_from taken left (suc n) at table)) (at + k) 0
            ≡ get_or (cond a (free_numbers ns left (suc n)) (n ∷ free_numbers ns left (suc n))) k 0
        go true k few room again = again at k table few room
        go false zero few room again =
            let z : at + 0 ≡ at = omega arith in
            rw z (free_kept left (suc n) (at + 1) at (set table at n) (omega arith) ∙ get_or-set_same table at n 0 (omega arith))
        go false (suc k) few room again =
            let z : at + suc k ≡ (at + 1) + k = omega arith in
            rw z (again (at + 1) k (set table at n) (omega arith) (omega (arith, length-set table at n)))

-- what is found in a list of words, whatever stands for a missing one
named_at : (l : List ℕ) (k : ℕ) → k < length l → get_or (map name_q l) k [] ≡ name_q (get_or l k 0)
named_at [] k h = absurd (omega arith)
named_at (n ∷ l) zero h = refl
named_at (n ∷ l) (suc k) h = named_at l k (omega arith)

padded_length : (n : ℕ) (ns : List Word) → length (padded n ns) ≡ n
padded_length zero ns = refl
padded_length (suc n) [] = ap suc (padded_length n [])
padded_length (suc n) (w ∷ ns) = ap suc (padded_length n ns)

padded_at : (n : ℕ) (ns fs : List Word) (z : ℕ) → z < n → get_or (padded n ns ++ fs) z [] ≡ get_or ns z []
padded_at zero ns fs z h = absurd (omega arith)
padded_at (suc n) [] fs zero h = refl
padded_at (suc n) [] fs (suc z) h = padded_at n [] fs z (omega arith)
padded_at (suc n) (w ∷ ns) fs zero h = refl
padded_at (suc n) (w ∷ ns) fs (suc z) h = padded_at n ns fs z (omega arith)

padded_behind : (n : ℕ) (ns fs : List Word) (k : ℕ) → get_or (padded n ns ++ fs) (n + k) [] ≡ get_or fs k []
padded_behind n ns fs k = ap (λ (i : ℕ). get_or (padded n ns ++ fs) (i + k) []) (inv (padded_length n ns)) ∙ get_or-append-add (padded n ns) fs k []

-- the symbols keep their names
pub name_old : (ns : List Word) (m z : ℕ) → z < 1024 → get_or (sample_names ns m) z [] ≡ get_or ns z []
name_old ns m z h = padded_at 1024 ns (free_names ns (m + length ns) 1) z h

-- The table of two texts whose symbols are ws, quote and all.
module _ (program job symbols : List ℕ) (ws : List Word) (size : length symbols ≡ 2 * length ws) (few : length ws ≤ 1024)
    (words : (k : ℕ) → k < length ws → word_in program job (get_or symbols (2 * k + 1) 0) ≡ get_or ws k []) where
  marked_words_lem : (left k : ℕ) (taken : List ℕ) → left + k ≡ length ws → marked_from program job symbols left k taken ≡ marked_words (drop k ws) taken
  unfolding marked_from
  marked_words_lem zero k taken e = let h : length ws ≤ k = omega arith in rw (drop_of_length-le ws h)
  marked_words_lem (suc left) k taken e =
      let h : k < length ws = omega arith in
      rw (drop-cons ws k [] h, words k h, add-one k) (marked_words_lem left (suc k) (set taken (number_of (get_or ws k [])) 1) (omega arith))

  marked_free : (count room n : ℕ) → count ≡ length ws → n < room → 1 ≤ n → n ≤ 5120 →
      eqb (get_or (marked_from program job symbols count 0 (replicate room 0)) n 0) 0 ≡ not (is_among (name_q n) (unquoted ws))
  marked_free count room n e h l k =
      ap (λ (t : List ℕ). eqb (get_or t n 0) 0) (marked_words_lem count 0 (replicate room 0) (omega arith))
      ∙ marked_test ws (replicate room 0) n l k (omega (arith, length-replicate {A = ℕ} room 0))
      ∙ ap (λ (m : ℕ). eqb m 0 && not (is_among (name_q n) (unquoted ws))) (get_or-replicate room n 0 0 h)

  module _ (table : List ℕ) (room : length table ≡ 6144) where
    pub name_table_length : length (name_table program job symbols table) ≡ 6144
    unfolding name_table
    name_table_length = free_length _ 5120 1 2048 (copied_from symbols 2048 0 table) ∙ copied_length symbols 2048 0 table ∙ room

    entry : (i : ℕ) → i < 2048 → get_or (name_table program job symbols table) i 0 ≡ get_or symbols i 65535
    unfolding name_table
    entry i h = free_kept _ 5120 1 2048 i (copied_from symbols 2048 0 table) h ∙ copied_at symbols 2048 0 i table (omega arith) (omega arith) (omega arith)

    -- a symbol's offset
    pub name_symbol : (z : ℕ) → z < length ws → get_or (name_table program job symbols table) (2 * z + 1) 0 ≡ get_or symbols (2 * z + 1) 0
    name_symbol z h = entry (2 * z + 1) (omega arith) ∙ get_d_any symbols (2 * z + 1) 65535 0 (omega arith)

    -- no text has a symbol of this number
    pub name_none : (z : ℕ) → length ws ≤ z → z < 1024 → get_or (name_table program job symbols table) (2 * z + 1) 0 ≡ 65535
    name_none z h k = entry (2 * z + 1) (omega arith) ∙ get_or-eq_default symbols 65535 (omega arith)

    -- (a number that is no numeral here: else the list is computed)
    free_cell : (most k : ℕ) → 5120 ≡ most → k < length (free_numbers (unquoted ws) most 1) → k < 4096 →
        get_or (name_table program job symbols table) (2048 + k) 0 ≡ get_or (free_numbers (unquoted ws) most 1) k 0
    unfolding name_table
    free_cell most k e h l =
        let taken = marked_from program job symbols (length symbols / 2) 0 (replicate 5121 0) in
        let copied = copied_from symbols 2048 0 table in
        ap (λ (i : ℕ). get_or (free_from taken i 1 2048 copied) (2048 + k) 0) e
        ∙ free_at taken (unquoted ws) (λ n a b. marked_free (length symbols / 2) 5121 n (omega arith) (omega arith) a b) most 1 2048 k copied
        (omega arith) (omega arith) h (omega (arith, copied_length symbols 2048 0 table))

    -- the name of the new atom number k, of m
    pub name_new : (m k : ℕ) → m ≤ 4096 → k < m → get_or (sample_names (unquoted ws) m) (1024 + k) [] ≡ name_q (get_or (name_table program job symbols table) (2048 + k) 0)
    name_new m k h l = named (m + length (unquoted ws)) (5120 - (m + length (unquoted ws))) (omega (arith, names)) (omega (arith, free_many (unquoted ws) (m + length (unquoted ws)) 1 (omega arith)))
      where
        names : length (unquoted ws) ≡ length ws
        names = length-map ws (λ (w : Word). drop 1 w)

        named : (tries rest : ℕ) → 5120 ≡ tries + rest → k < length (free_numbers (unquoted ws) tries 1) →
            get_or (padded 1024 (unquoted ws) ++ free_names (unquoted ws) tries 1) (1024 + k) [] ≡ name_q (get_or (name_table program job symbols table) (2048 + k) 0)
        named tries rest e in-few =
            let ns = unquoted ws in
            let more = free_more ns tries rest 1 in
            let in_all : k < length (free_numbers ns (tries + rest) 1) = omega (arith, ap length more, length-append (free_numbers ns tries 1) (free_numbers ns rest (1 + tries))) in
            padded_behind 1024 ns (free_names ns tries 1) k
            ∙ named_at (free_numbers ns tries 1) k in-few
            ∙ ap name_q (inv (free_cell (tries + rest) k e in_all (omega arith) ∙ ap (λ (l : List ℕ). get_or l k 0) more ∙ get_or-append (free_numbers ns tries 1) (free_numbers ns rest (1 + tries)) 0 k in-few))

-- of the table that the lexer left, cut to the words that it holds
module _ (program job table : List ℕ) (ws : List Word) (holds : Holds program job table ws) (room : 2 * length ws ≤ length table) where
  pub held_size : length (take (2 * length ws) table) ≡ 2 * length ws
  held_size = length-take-le (2 * length ws) table room

  pub held_words : (k : ℕ) → k < length ws → word_in program job (get_or (take (2 * length ws) table) (2 * k + 1) 0) ≡ get_or ws k []
  held_words k h = ap (word_in program job) (get_or-take (2 * length ws) table (2 * k + 1) 0 (omega arith)) ∙ holds.word k h

-- no word stands where no symbol's offset is: "A job has at most 8,192 bytes"
pub none_word : (program job : List ℕ) → length job ≤ 8192 → word_in program job 65535 ≡ []
unfolding word_at
none_word program job h =
    let l : length job ≤ 32766 = omega arith in
    ap (take (piece_end job 32766 - 32766)) (drop_of_length-le job l) ∙ take-nil (piece_end job 32766 - 32766)
