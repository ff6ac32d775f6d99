-- The lexer stores the tokens of the text, up to the first that no reader passes, and its table of symbols holds those of the text.
use Prim.Native.Nat.{ℕ, zero, suc, ◌+◌, ◌-◌, ◌*◌, ◌≤◌, ◌<◌}
use mathlib.Core.Path.{◌≡◌, refl, ap, ap₂, subst, ◌∙◌, sym}
use mathlib.Core.Bool.{Bool, true, false, cond, ◌&&◌, not}
use mathlib.Core.List.{List, [], ◌∷◌, ◌++◌}
use native.Mathlib.Omega.{arith}
use native.Mathlib.Numerals.{add-one}
use native.Mathlib.Decide.{ℕ_discrete}
use lib.Dec.{ltb}
use lib.ListN.{length, drop, get_or, set, length-set, length-append, length-drop}
use lib.Seq.{length-take-le, get_or-set_same, get_or-set_other}
use borrow.Author.Tests.{ltb-true, ltb-false}
use Rattle.language.specs.Words.{Word}
use Rattle.language.specs.Tokens.{Piece, key_of, firsts, is_symbol, is_among, Token, tokens_from}
use Rattle.grammar.specs.Twins.Positions.{nothing}
use Rattle.words.specs.Twins.Marks.{mark_of, cell_of}
use Rattle.words.specs.Twins.Cutting.{start_at, piece_end, word_at}
use Rattle.words.specs.Twins.Judged.{text_of}
use Rattle.lexer.specs.Twins.Table.{word_in, entered}
use Rattle.lexer.specs.Twins.Lexed.{shifted, entered_if, State, stored, passed, cut_from, shuts}
use Rattle.lexer.specs.declared.lexer.Token.{Token as Made}
use Rattle.words.proofs.CutByIndex.{start_most, end_most, end_ahead, cut_some}
use Rattle.lexer.proofs.LexedLaws.{next_in, cut_shut, cut_on}
use Rattle.lexer.proofs.TableMeaning.{Holds}
use Rattle.lexer.proofs.LexedStep.{is_other, First, first_piece, Follows, tok, makes, below, symbols_below, follows}

-- l is l₀ but for the cells from i on, which are those of the tokens ts up to the one at j
pub record Cells (l l₀ : List ℕ) (i : ℕ) (cell : Token → ℕ) (ts : List Token) (j : ℕ) : Type 0 where
  pub before : (k d : ℕ) → k < i → get_or l k d ≡ get_or l₀ k d
  pub made : (k d : ℕ) → k ≤ j → get_or l (i + k) d ≡ cell (get_or ts k nothing)

module _ (l₀ : List ℕ) (i : ℕ) (cell : Token → ℕ) (t : Token) (ts : List Token) (x : ℕ) (e : x ≡ cell t) (room : i < length l₀) where
  cells_last : Cells (set l₀ i x) l₀ i cell (t ∷ ts) 0
  cells_last = record { before = λ k d h. get_or-set_other l₀ i k x d (λ z. omega arith); made = last }
    where
      last : (k d : ℕ) → k ≤ 0 → get_or (set l₀ i x) (i + k) d ≡ cell (get_or (t ∷ ts) k nothing)
      last zero d h = let n : i + 0 ≡ i = omega arith in ap (λ n. get_or (set l₀ i x) n d) n ∙ get_or-set_same l₀ i x d room ∙ e
      last (suc k) d h = let z : ⊥ = omega arith in absurd z

  cells_more : (l : List ℕ) (j : ℕ) → Cells l (set l₀ i x) (i + 1) cell ts j → Cells l l₀ i cell (t ∷ ts) (suc j)
  cells_more l j c = record { before = λ k d h. c.before k d (omega arith) ∙ get_or-set_other l₀ i k x d (λ z. omega arith); made = on }
    where
      on : (k d : ℕ) → k ≤ suc j → get_or l (i + k) d ≡ cell (get_or (t ∷ ts) k nothing)
      on zero d h = let n : i + 0 ≡ i = omega arith in ap (λ n. get_or l n d) n ∙ c.before i d (omega arith) ∙ get_or-set_same l₀ i x d room ∙ e
      on (suc k) d h = let n : i + suc k ≡ (i + 1) + k = omega arith in ap (λ n. get_or l n d) n ∙ c.made k d (omega arith)

-- What is left in storage from the state s on: the tokens of ts up to the one at `last`, the first that no reader passes; and words in the table of
-- symbols, of which there is an offset with P for each. Where that token is the end it is the last, and the words are all that there are.
pub record Leaves (first text : List ℕ) (P : ℕ → Type 0) (f s : State) (ts : List Token) (all : List Word) : Type 0 where
  pub last : ℕ
  pub inside : last < length ts
  pub most : s.i + last ≤ 4096
  pub marks : Cells f.marks s.marks s.i mark_of ts last
  pub nums : Cells f.nums s.nums s.i (λ t. cell_of t.num) ts last
  pub ats : Cells f.ats s.ats s.i (λ t. t.at) ts last
  pub count : f.i ≡ s.i + suc last
  pub shut : shuts (get_or ts last nothing) ≡ true
  pub passes : (k : ℕ) → k < last → shuts (get_or ts k nothing) ≡ false
  pub words : List Word
  pub few : length words ≤ 1024
  pub symbols : Holds first text f.symbols words
  pub placed : (k : ℕ) → k < length words → P (get_or f.symbols (2 * k + 1) 0)
  pub found : f.found ≡ length words
  pub room : 2048 ≤ length f.symbols
  pub whole : (get_or ts last nothing).key ≡ 0 → (suc last ≡ length ts) × (words ≡ all)

-- the storages for tokens have room for all that are stored
pub record Rooms (s : State) : Type 0 where
  pub marks : 4097 ≤ length s.marks
  pub nums : 4097 ≤ length s.nums
  pub ats : 4097 ≤ length s.ats

pub key_none : (w : Word) → key_of w ≡ 0 → w ≡ []
key_none [] e = refl
key_none (b ∷ w) e = let z : ⊥ = omega arith in absurd z

-- offsets with P, and one more
module _ (P : ℕ → Type 0) (table : List ℕ) (zs : List Word) (w : Word) (k₀ hash o : ℕ) (counts : k₀ ≡ length zs) (here : P o) (there : (k : ℕ) → k < length zs → P (get_or table (2 * k + 1) 0)) where
  placed_grown : (b : Bool) → (b ≡ true → 2 * length zs + 1 < length table) → (k : ℕ) → k < length (cond b (zs ++ (w ∷ [])) zs) → P (get_or (entered_if b table k₀ hash o) (2 * k + 1) 0)
  placed_grown false r k h = there k h
  placed_grown true r k h = go (ℕ_discrete k k₀)
    where
      room : 2 * k₀ + 1 < length (set table (2 * k₀) hash)
      room = let l = r refl in rw length-set (omega arith)

      go : Dec (k ≡ k₀) → P (get_or (entered table k₀ hash o) (2 * k + 1) 0)
      go (yes e) = subst P (sym (ap (λ n. get_or (entered table k₀ hash o) (2 * n + 1) 0) e ∙ get_or-set_same (set table (2 * k₀) hash) (2 * k₀ + 1) o 0 room)) here
      go (no e) = subst P (sym (get_or-set_other (set table (2 * k₀) hash) (2 * k₀ + 1) (2 * k + 1) o 0 (λ z. e (omega arith)) ∙ get_or-set_other table (2 * k₀) (2 * k + 1) hash 0 (λ z. omega arith)))
          (there k (let l = length-append zs (w ∷ []) in let n : (k ≡ length zs) → ⊥ = λ z. e (z ∙ sym counts) in omega arith))

module _ (job : Bool) (first text : List ℕ) (short : length text ≤ 32768) (offsets : (o : ℕ) → o ≤ length text → word_in first text (shifted job o) ≡ word_at text o)
    (P : ℕ → Type 0) (stands : (o : ℕ) → o ≤ length text → P (shifted job o)) where
  abbrev Placed : State → List Word → Type 0
  Placed s zs = (k : ℕ) → k < length zs → P (get_or s.symbols (2 * k + 1) 0)

  module _ (s : State) (p : Piece) (qs : List Piece) (ws zs : List Word) (h : Follows job first text short offsets s (p ∷ qs) ws zs) (rooms : Rooms s) (low : Placed s zs) where
    abbrev all : List Word
    all = firsts is_symbol zs (p ∷ qs)

    abbrev others : List Word
    others = firsts is_other ws (p ∷ qs)

    abbrev t : Token
    t = tok job first text short offsets s p qs ws zs h

    abbrev u : Made
    u = next_in job first text s

    -- the tokens that come next
    abbrev later : List Token
    later = tokens_from all others (text_of job) (suc s.i) qs

    abbrev it : First text s.from h.from p qs h.pieces
    it = first_piece text s.from h.from p qs h.pieces

    abbrev begin : ℕ
    begin = start_at text s.from

    -- a piece of no bytes is the end
    end_alone : key_of p.word ≡ 0 → (p.word ≡ []) × (qs ≡ [])
    unfolding word_at
    end_alone e = go (ltb begin (length text)) refl
      where
        go : (b : Bool) → ltb begin (length text) ≡ b → (p.word ≡ []) × (qs ≡ [])
        go false z = it.end (ltb-false begin (length text) z)
        go true z =
            let l = ltb-true begin (length text) z in
            let a = end_ahead text begin l in
            let m = end_most text begin (omega arith) in
            let d = length-drop begin text in
            let n = length-take-le (piece_end text begin - begin) (drop begin text) (omega arith) in
            let w = ap length (sym it.word ∙ key_none p.word e) in
            let x : ⊥ = omega arith in absurd x

    whole_end : t.key ≡ 0 → (1 ≡ suc (length later)) × (zs ≡ all)
    whole_end e = let x = end_alone e in (
      ap (λ r. suc (length (tokens_from all others (text_of job) (suc s.i) r))) (sym x.1),
      ap₂ (λ w r. firsts is_symbol (cond (is_symbol w && not (is_among w zs)) (zs ++ (w ∷ [])) zs) r) (sym x.0) (sym x.1),
    )

    leaves_shut : shuts t ≡ true → Leaves first text P (stored u s) s (t ∷ later) all
    leaves_shut e =
        let m = makes job first text short offsets s p qs ws zs h in
        record {
          last = 0;
          inside = omega arith;
          most = omega (arith, h.most);
          marks = cells_last s.marks s.i mark_of t later u.mark m.mark (omega (arith, h.most, rooms.marks));
          nums = cells_last s.nums s.i (λ t. cell_of t.num) t later u.num m.num (omega (arith, h.most, rooms.nums));
          ats = cells_last s.ats s.i (λ t. t.at) t later u.at m.at (omega (arith, h.most, rooms.ats));
          count = refl;
          shut = e;
          passes = λ k l. let z : ⊥ = omega arith in absurd z;
          words = zs;
          few = h.some;
          symbols = h.symbols;
          placed = low;
          found = h.found;
          room = h.symbol_room;
          whole = whole_end;
        }

    module _ (passes : shuts t ≡ false) where
      abbrev next : State
      next = passed job u (stored u s)

      abbrev is_new : Bool
      is_new = is_symbol p.word && not (is_among p.word zs)

      next_rooms : Rooms next
      next_rooms = record { marks = rw length-set rooms.marks; nums = rw length-set rooms.nums; ats = rw length-set rooms.ats }

      next_low : Placed next (cond is_new (zs ++ (p.word ∷ [])) zs)
      next_low =
          let m = makes job first text short offsets s p qs ws zs h in
          let o : P (shifted job u.at) = subst (λ (n : ℕ). P (shifted job n)) (sym (m.at ∙ it.begins)) (stands begin (start_most text s.from h.from)) in
          rw m.symbol (placed_grown P s.symbols zs p.word s.found u.hash (shifted job u.at) h.found o low is_new
          (λ e. omega (arith, h.symbol_room, symbols_below job first text short offsets s p qs ws zs h passes e)))

      leaves_on : (f : State) → Leaves first text P f next (tokens_from all others (text_of job) (s.i + 1) qs) all → Leaves first text P f s (t ∷ later) all
      leaves_on f x = go later (ap (λ n. tokens_from all others (text_of job) n qs) (add-one s.i)) x
        where
          go : (us : List Token) → tokens_from all others (text_of job) (s.i + 1) qs ≡ us → Leaves first text P f next (tokens_from all others (text_of job) (s.i + 1) qs) all → Leaves first text P f s (t ∷ us) all
          go us z y =
              let w = subst (λ (us : List Token). Leaves first text P f next us all) z y in
              let m = makes job first text short offsets s p qs ws zs h in
              let b = below job first text short offsets s p qs ws zs h passes in
              let i0 = w.inside in let c0 = w.count in let m0 = w.most in
              record {
                last = suc w.last;
                inside = omega arith;
                most = omega arith;
                marks = cells_more s.marks s.i mark_of t us u.mark m.mark (omega (arith, rooms.marks)) f.marks w.last w.marks;
                nums = cells_more s.nums s.i (λ t. cell_of t.num) t us u.num m.num (omega (arith, rooms.nums)) f.nums w.last w.nums;
                ats = cells_more s.ats s.i (λ t. t.at) t us u.at m.at (omega (arith, rooms.ats)) f.ats w.last w.ats;
                count = omega arith;
                shut = w.shut;
                passes = pass w;
                words = w.words;
                few = w.few;
                symbols = w.symbols;
                placed = w.placed;
                found = w.found;
                room = w.room;
                whole = λ e. let v = w.whole e in (ap suc v.0, v.1);
              }
            where
              pass : (w : Leaves first text P f next us all) (k : ℕ) → k < suc w.last → shuts (get_or (t ∷ us) k nothing) ≡ false
              pass w zero l = passes
              pass w (suc k) l = w.passes k (omega arith)

  -- n more tokens may be stored
  pub leaves : (n : ℕ) (s : State) (ps : List Piece) (ws zs : List Word) → n + s.i ≡ 4097 → Follows job first text short offsets s ps ws zs → Rooms s → Placed s zs →
      Leaves first text P (cut_from job first text n s) s (tokens_from (firsts is_symbol zs ps) (firsts is_other ws ps) (text_of job) s.i ps) (firsts is_symbol zs ps)
  leaves zero s ps ws zs e h r l = let m = h.most in let z : ⊥ = omega arith in absurd z
  leaves (suc n) s [] ws zs e h r l = let c = cut_some s.from (drop s.from text) in let z = ap length h.pieces in let x : ⊥ = omega arith in absurd x
  leaves (suc n) s (p ∷ qs) ws zs e h r l = go (shuts (tok job first text short offsets s p qs ws zs h)) refl (leaves n)
    where
      go : (b : Bool) → shuts (tok job first text short offsets s p qs ws zs h) ≡ b →
          ((s : State) (ps : List Piece) (ws zs : List Word) → n + s.i ≡ 4097 → Follows job first text short offsets s ps ws zs → Rooms s → Placed s zs →
          Leaves first text P (cut_from job first text n s) s (tokens_from (firsts is_symbol zs ps) (firsts is_other ws ps) (text_of job) s.i ps) (firsts is_symbol zs ps)) →
          Leaves first text P (cut_from job first text (suc n) s) s (tokens_from (firsts is_symbol zs (p ∷ qs)) (firsts is_other ws (p ∷ qs)) (text_of job) s.i (p ∷ qs)) (firsts is_symbol zs (p ∷ qs))
      go true b again =
          rw (cut_shut job first text {n = suc n} (omega arith) s (next_in job first text s) refl ((makes job first text short offsets s p qs ws zs h).shut ∙ b))
          (leaves_shut s p qs ws zs h r l b)
      go false b again =
          let d : suc n - 1 ≡ n = omega arith in
          rw (cut_on job first text {n = suc n} (omega arith) s (next_in job first text s) refl ((makes job first text short offsets s p qs ws zs h).shut ∙ b), d)
          (leaves_on s p qs ws zs h r l b _ (again _ qs _ _ (omega arith) (follows job first text short offsets s p qs ws zs h b) (next_rooms s p qs ws zs h r l b) (next_low s p qs ws zs h r l b)))
