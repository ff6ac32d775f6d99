-- One turn of the lexer: the token it makes is the next one of the text, and its tables hold the words met so far.
use Prim.Native.Nat.{ℕ, ◌+◌, ◌-◌, ◌*◌, ◌≤◌, ◌<◌}
use mathlib.Core.Path.{◌≡◌, refl, ap, ap₂, ◌∙◌, sym}
use mathlib.Core.Bool.{Bool, true, false, cond, ◌&&◌, ◌||◌, not, true≢false, false≢true}
use mathlib.Core.List.{List, [], ◌∷◌, ◌++◌}
use native.Mathlib.Omega.{arith}
use native.Mathlib.Nat.{mod-eq_of_lt}
use lib.Dec.{eqb, leb, ltb}
use borrow.Author.Tests.{lt-ltb, ltb-true, ltb-false, leb-false, eqb-true}
use lib.ListN.{length, take, drop, length-append}
use Rattle.language.specs.Bytes.{txt}
use Rattle.language.specs.Words.{Word, begins, Fit, fits, broken, long, many}
use Rattle.language.specs.Tokens.{Piece, cut, Kind, symbol, ename, aname, evariable, avariable, plain, tag, same_kind, kind_of, key_of, fit_of, place, is_among, firsts, is_symbol, num_of, fitting, token, Token}
use Rattle.words.specs.Twins.Marks.{fit_number, mark_of, cell_of, kind_at}
use Rattle.words.specs.Twins.Cutting.{start_at, piece_end, part_of, word_at}
use Rattle.words.specs.Twins.Judged.{text_of, hash_of}
use Rattle.lexer.specs.Twins.Table.{word_on, word_in, find_at}
use Rattle.lexer.specs.declared.lexer.Token.{Token as Cells}
use Rattle.lexer.specs.Twins.Lexed.{mark_cell, number_at, over_at, shut_at, count_of, place_of, counted, shifted, entered_if, token_cells, State, stored, passed, shuts}
use Rattle.words.proofs.Pieces.{number_known}
use Rattle.words.proofs.Encoding.{kind_back}
use Rattle.words.proofs.CutByIndex.{pieces_start, pieces_end, pieces_on, start_most, start_stops, end_most, end_there}
use Rattle.lexer.proofs.LexedLaws.{next_in, token_made, length_entered}
use Rattle.lexer.proofs.TableMeaning.{Holds, find_place, holds_entered}
use Rattle.lexer.proofs.TokenMeaning.{place_most, new_place, key_most, Placed, number_cell_lem, over_same, mark_same}

abbrev pub is_other : Word → Bool
is_other w = not (is_symbol w)

-- a symbol is no fixed word
quote_key : (w : Word) → begins (txt "'") w ≡ true → key_of w ≡ 18
quote_key [] e = absurd (false≢true e)
quote_key (b ∷ v) e = go (eqb 39 b) refl e
  where
    go : (t : Bool) → eqb 39 b ≡ t → (t && true) ≡ true → key_of (b ∷ v) ≡ 18
    go true z x = ap (λ c. key_of (c ∷ v)) (sym (eqb-true 39 b z))
    go false z x = absurd (false≢true x)

symbol_quote : (w : Word) → is_symbol w ≡ true → begins (txt "'") w ≡ true
symbol_quote w e = go (begins (txt "'") w) refl (begins (txt "e.") w) (begins (txt "a.") w) (begins (txt "?e") w) (begins (txt "?a") w) e
  where
    go : (a : Bool) → begins (txt "'") w ≡ a → (b c d f : Bool) →
        same_kind (cond a symbol (cond b ename (cond c aname (cond d evariable (cond f avariable plain))))) symbol ≡ true → begins (txt "'") w ≡ true
    go true z b c d f e = z
    go false z true c d f e = absurd (false≢true e)
    go false z false true d f e = absurd (false≢true e)
    go false z false false true f e = absurd (false≢true e)
    go false z false false false true e = absurd (false≢true e)
    go false z false false false false e = absurd (false≢true e)

pub symbol_key : (w : Word) → is_symbol w ≡ true → key_of w ≡ 18
symbol_key w e = quote_key w (symbol_quote w e)

head_same : (p q : Piece) (ps qs : List Piece) → (p ∷ ps) ≡ (q ∷ qs) → (p ≡ q) × (ps ≡ qs)
head_same p q ps qs z = (cc, cc)

-- the first piece from i on
module _ (text : List ℕ) (i : ℕ) (h : i ≤ length text) (p : Piece) (qs : List Piece) (e : cut i (drop i text) ≡ p ∷ qs) where
  pub record First : Type 0 where
    pub begins : p.at ≡ start_at text i
    pub word : p.word ≡ word_at text (start_at text i)
    pub on : start_at text i < length text → cut (piece_end text (start_at text i)) (drop (piece_end text (start_at text i)) text) ≡ qs
    pub end : length text ≤ start_at text i → (p.word ≡ []) × (qs ≡ [])

  pub first_piece : First
  unfolding word_at
  first_piece = go (ltb (start_at text i) (length text)) refl
    where
      go : (t : Bool) → ltb (start_at text i) (length text) ≡ t → First
      go true z =
          let l = ltb-true (start_at text i) (length text) z in
          let x = head_same _ _ _ _ (sym e ∙ pieces_start text i ∙ pieces_on text (start_at text i) l (start_stops text i h l)) in
          record { begins = ap (λ p. p.at) x.0; word = ap (λ p. p.word) x.0; on = λ y. sym x.1; end = λ y. let n : ⊥ = omega arith in absurd n }
      go false z =
          let l = ltb-false (start_at text i) (length text) z in
          let x = head_same _ _ _ _ (sym e ∙ pieces_start text i ∙ pieces_end text (start_at text i) l) in
          let d : piece_end text (start_at text i) ≡ start_at text i = end_there text (start_at text i) l in
          let n : start_at text i - start_at text i ≡ 0 = omega arith in
          let w : part_of text (start_at text i) (piece_end text (start_at text i)) ≡ [] = ap (part_of text (start_at text i)) d ∙ ap (λ k. take k (drop (start_at text i) text)) n in
          record { begins = ap (λ p. p.at) x.0; word = ap (λ p. p.word) x.0 ∙ sym w; on = λ y. let n : ⊥ = omega arith in absurd n; end = λ y. (ap (λ p. p.word) x.0, x.1) }

-- a word entered in its table, if it is new
module _ (first second table : List ℕ) (ws : List Word) (w : Word) (k hash o : ℕ) (counts : k ≡ length ws) (few : length ws ≤ 4096) (hashes : hash ≡ hash_of w) (t : Holds first second table ws) where
  grown : (b : Bool) → (b ≡ true → word_in first second o ≡ w) → (b ≡ true → 2 * length ws + 1 < length table) → Holds first second (entered_if b table k hash o) (cond b (ws ++ (w ∷ [])) ws)
  grown true e r = rw (counts, hashes) (holds_entered first second table w ws t o (r refl) (e refl))
  grown false e r = t

  grown_count : (b : Bool) → counted b k ≡ length (cond b (ws ++ (w ∷ [])) ws)
  grown_count true = ap (λ t. cond t (k + 1) k) (lt-ltb k 65535 (omega arith)) ∙ ap (λ n. n + 1) counts ∙ sym (length-append ws (w ∷ []))
  grown_count false = counts

grown_most : (b : Bool) (ws : List Word) (w : Word) (n : ℕ) → (b ≡ true → length ws < n) → length ws ≤ n → length (cond b (ws ++ (w ∷ [])) ws) ≤ n
grown_most true ws w n h l = let k = h refl in omega (arith, length-append ws (w ∷ []))
grown_most false ws w n h l = l

empty_shuts : (o job : Bool) → shut_at o (fit_number (fit_of (text_of job) (kind_of []) [])) (key_of []) ≡ true
empty_shuts true job = refl
empty_shuts false true = refl
empty_shuts false false = refl

symbol_kind : (k : Kind) → same_kind k symbol ≡ true → k ≡ symbol
symbol_kind symbol e = refl
symbol_kind ename e = absurd (false≢true e)
symbol_kind aname e = absurd (false≢true e)
symbol_kind evariable e = absurd (false≢true e)
symbol_kind avariable e = absurd (false≢true e)
symbol_kind plain e = absurd (false≢true e)

-- what is no fixed word and is let pass fits
open_fits : (o : Bool) (f : Fit) → shut_at o (fit_number f) 18 ≡ false → (o ≡ false) × (f ≡ fits)
open_fits true f e = absurd (true≢false e)
open_fits false fits e = (refl, refl)
open_fits false broken e = absurd (true≢false e)
open_fits false long e = absurd (true≢false e)
open_fits false many e = absurd (true≢false e)

pub open_over : (o : Bool) (f k : ℕ) → shut_at o f k ≡ false → o ≡ false
open_over true f k e = absurd (true≢false e)
open_over false f k e = refl

pub or_none : (a b : Bool) → (a || b) ≡ false → (a ≡ false) × (b ≡ false)
or_none true b e = absurd (true≢false e)
or_none false b e = (refl, e)

and_left : (a b : Bool) → (a && b) ≡ true → a ≡ true
and_left true b e = refl
and_left false b e = absurd (false≢true e)

-- what the code makes of a word, as against the token t; the words met before are ws and zs
pub record Makes (u : Cells) (t : Token) (w : Word) (ws zs : List Word) (ending : ℕ) : Type 0 where
  pub mark : u.mark ≡ mark_of t
  pub num : u.num ≡ cell_of t.num
  pub at : u.at ≡ t.at
  pub hash : u.hash ≡ hash_of w
  pub next : u.next ≡ ending
  pub symbol : u.symbol ≡ (is_symbol w && not (is_among w zs))
  pub name : u.name ≡ (is_other w && not (is_among w ws))
  pub shut : u.shut ≡ shuts t

-- job says which text it is; the offsets in the table of symbols are those of words in the two texts
module _ (job : Bool) (first text : List ℕ) (short : length text ≤ 32768) (offsets : (o : ℕ) → o ≤ length text → word_in first text (shifted job o) ≡ word_at text o) where
  -- the tables hold the words met; ps are the pieces to come
  pub record Follows (s : State) (ps : List Piece) (ws zs : List Word) : Type 0 where
    pub pieces : cut s.from (drop s.from text) ≡ ps
    pub from : s.from ≤ length text
    pub known : s.known ≡ length ws
    pub names : Holds text text s.names ws
    pub found : s.found ≡ length zs
    pub symbols : Holds first text s.symbols zs
    pub few : length ws ≤ s.i
    pub some : length zs ≤ 1024
    pub most : s.i ≤ 4096
    pub name_room : 8194 ≤ length s.names
    pub symbol_room : 2048 ≤ length s.symbols

  module _ (s : State) (p : Piece) (qs : List Piece) (ws zs : List Word) (h : Follows s (p ∷ qs) ws zs) where
    abbrev it : First text s.from h.from p qs h.pieces
    it = first_piece text s.from h.from p qs h.pieces

    abbrev begin : ℕ
    begin = start_at text s.from

    abbrev ending : ℕ
    ending = piece_end text begin

    -- the token of the text
    abbrev pub tok : Token
    tok = token (firsts is_symbol zs (p ∷ qs)) (firsts is_other ws (p ∷ qs)) (text_of job) s.i p

    abbrev kind : Kind
    kind = kind_of p.word

    abbrev found_at : ℕ
    found_at = place_of first text s.symbols s.found s.names s.known (tag kind) (hash_of p.word) p.word

    place_symbol : is_symbol p.word ≡ true → found_at ≡ place p.word zs
    place_symbol e = ap (λ t. cond t (find_at first text s.symbols (hash_of p.word) p.word s.found 0) (find_at text text s.names (hash_of p.word) p.word s.known 0)) e
        ∙ ap (λ n. find_at first text s.symbols (hash_of p.word) p.word n 0) h.found ∙ find_place first text s.symbols p.word zs h.symbols

    place_other : is_symbol p.word ≡ false → found_at ≡ place p.word ws
    place_other e = ap (λ t. cond t (find_at first text s.symbols (hash_of p.word) p.word s.found 0) (find_at text text s.names (hash_of p.word) p.word s.known 0)) e
        ∙ ap (λ n. find_at text text s.names (hash_of p.word) p.word n 0) h.known ∙ find_place text text s.names p.word ws h.names

    found_small : found_at < 65536
    found_small = go (is_symbol p.word) refl
      where
        go : (b : Bool) → is_symbol p.word ≡ b → found_at < 65536
        go true e = omega (arith, place_symbol e, place_most p.word zs, h.some)
        go false e = omega (arith, place_other e, place_most p.word ws, h.few, h.most)

    as_symbol : is_symbol p.word ≡ true → found_at ≡ place p.word (firsts is_symbol zs (p ∷ qs))
    as_symbol e = place_symbol e ∙ sym (number_known is_symbol zs p qs e)

    as_other : is_symbol p.word ≡ false → found_at ≡ place p.word (firsts is_other ws (p ∷ qs))
    as_other e = place_other e ∙ sym (number_known is_other ws p qs (ap not e))

    placed : Placed (firsts is_symbol zs (p ∷ qs)) (firsts is_other ws (p ∷ qs)) job p.word found_at found_small kind
    placed = go kind refl
      where
        go : (k : Kind) → kind_of p.word ≡ k → Placed (firsts is_symbol zs (p ∷ qs)) (firsts is_other ws (p ∷ qs)) job p.word found_at found_small k
        go symbol e = as_symbol (ap (λ k. same_kind k symbol) e)
        go ename e = as_other (ap (λ k. same_kind k symbol) e)
        go aname e = as_other (ap (λ k. same_kind k symbol) e)
        go evariable e = as_other (ap (λ k. same_kind k symbol) e)
        go avariable e = as_other (ap (λ k. same_kind k symbol) e)
        go plain e = as_other (ap (λ k. same_kind k symbol) e)

    -- the fit, the number and whether it is over, as the code has them
    abbrev fit : Fit
    fit = fit_of (text_of job) kind p.word

    abbrev fit_made : ℕ
    fit_made = fit_number (fit_of (text_of job) (kind_at (tag kind)) p.word)

    abbrev num_made : ℕ
    num_made = number_at job (tag kind) fit_made found_at p.word

    abbrev over_made : Bool
    over_made = over_at s.i (tag kind) num_made

    abbrev new_made : Bool
    new_made = eqb found_at (count_of (tag kind) s.found s.known)

    made : token_cells job first text s.symbols s.found s.names s.known s.i begin ending (key_of p.word) (tag kind) fit_made (hash_of p.word) num_made over_made new_made (eqb (tag kind) 0) ≡ next_in job first text s
    unfolding word_at
    made = token_made job first text s.symbols s.found s.names s.known s.i s.from begin ending p.word (key_of p.word) (tag kind) fit_made (hash_of p.word) found_at num_made over_made new_made (eqb (tag kind) 0)
        refl refl it.word refl refl refl refl refl refl refl refl refl

    fit_same : fit_made ≡ fit_number fit
    fit_same = ap (λ k. fit_number (fit_of (text_of job) k p.word)) (kind_back kind)

    num_same : num_made ≡ cell_of tok.num
    num_same = ap (λ x. number_at job (tag kind) x found_at p.word) fit_same
        ∙ number_cell_lem (firsts is_symbol zs (p ∷ qs)) (firsts is_other ws (p ∷ qs)) job p.word found_at found_small kind fit placed

    over_made_lem : over_made ≡ tok.over
    over_made_lem = ap (over_at s.i (tag kind)) num_same
        ∙ over_same (firsts is_symbol zs (p ∷ qs)) (firsts is_other ws (p ∷ qs)) job p.word found_at found_small s.i kind fit placed

    new_symbol : (new_made && is_symbol p.word) ≡ (is_symbol p.word && not (is_among p.word zs))
    new_symbol = go (is_symbol p.word) refl
      where
        and_true : (a : Bool) → (a && true) ≡ a
        and_true true = refl
        and_true false = refl

        and_false : (a : Bool) → (a && false) ≡ false
        and_false true = refl
        and_false false = refl

        go : (b : Bool) → is_symbol p.word ≡ b → (new_made && b) ≡ (b && not (is_among p.word zs))
        go true e = and_true new_made ∙ ap₂ eqb (place_symbol e) (ap (λ t. cond t s.found s.known) e ∙ h.found) ∙ new_place p.word zs
        go false e = and_false new_made

    new_name_lem : (new_made && not (is_symbol p.word)) ≡ (is_other p.word && not (is_among p.word ws))
    new_name_lem = go (is_symbol p.word) refl
      where
        and_true : (a : Bool) → (a && true) ≡ a
        and_true true = refl
        and_true false = refl

        and_false : (a : Bool) → (a && false) ≡ false
        and_false true = refl
        and_false false = refl

        go : (b : Bool) → is_symbol p.word ≡ b → (new_made && not b) ≡ (not b && not (is_among p.word ws))
        go true e = and_false new_made
        go false e = and_true new_made ∙ ap₂ eqb (place_other e) (ap (λ t. cond t s.found s.known) e ∙ h.known) ∙ new_place p.word ws

    begin_most : begin ≤ length text
    begin_most = start_most text s.from h.from

    pub makes : Makes (next_in job first text s) tok p.word ws zs ending
    unfolding mark_of
    makes = record {
      mark = ap (λ u. u.mark) (sym made) ∙ ap₂ (mark_cell (key_of p.word) (tag kind)) fit_same over_made_lem ∙ mark_same (key_of p.word) kind fit tok.over (key_most p.word);
      num = ap (λ u. u.num) (sym made) ∙ num_same;
      at = ap (λ u. u.at) (sym made) ∙ mod-eq_of_lt {n = begin} {m = 65536} (omega (arith, begin_most)) ∙ sym it.begins;
      hash = ap (λ u. u.hash) (sym made);
      next = ap (λ u. u.next) (sym made);
      symbol = ap (λ u. u.symbol) (sym made) ∙ new_symbol;
      name = ap (λ u. u.name) (sym made) ∙ new_name_lem;
      shut = ap (λ u. u.shut) (sym made) ∙ ap₂ (λ o f. shut_at o f (key_of p.word)) over_made_lem fit_same;
    }

    -- a token that is let pass
    module _ (passes : shuts tok ≡ false) where
      over_false : tok.over ≡ false
      over_false = open_over tok.over (fit_number tok.fit) tok.key passes

      pub below : s.i < 4096
      below = leb-false 4096 s.i (or_none (leb 4096 s.i) _ over_false).0

      inside : begin < length text
      inside = go (ltb begin (length text)) refl
        where
          go : (b : Bool) → ltb begin (length text) ≡ b → begin < length text
          go true e = ltb-true begin (length text) e
          go false e =
              let w = (it.end (ltb-false begin (length text) e)).0 in
              let x : shuts tok ≡ true = ap (λ v. shut_at tok.over (fit_number (fit_of (text_of job) (kind_of v) v)) (key_of v)) w ∙ empty_shuts tok.over job in
              absurd (true≢false (sym x ∙ passes))

      symbol_few : is_symbol p.word ≡ true → place p.word zs < 1024
      symbol_few e =
          let f = (open_fits tok.over tok.fit (ap (shut_at tok.over (fit_number tok.fit)) (sym (symbol_key p.word e)) ∙ passes)).1 in
          let o : leb 1024 tok.num ≡ false = ap (λ t. t && leb 1024 tok.num) (sym e) ∙ (or_none (leb 4096 s.i) _ over_false).1 in
          let n : tok.num ≡ place p.word zs = ap₂ (λ f k. fitting f (num_of (firsts is_symbol zs (p ∷ qs)) (firsts is_other ws (p ∷ qs)) (text_of job) k p.word)) f (symbol_kind kind e) ∙ number_known is_symbol zs p qs e in
          omega (arith, leb-false 1024 tok.num o)

      abbrev is_new_symbol : Bool
      is_new_symbol = is_symbol p.word && not (is_among p.word zs)

      abbrev is_new_name : Bool
      is_new_name = is_other p.word && not (is_among p.word ws)

      new_behind : (vs : List Word) → not (is_among p.word vs) ≡ true → place p.word vs ≡ length vs
      new_behind vs e = eqb-true (place p.word vs) (length vs) (new_place p.word vs ∙ e)

      and_right : (a b : Bool) → (a && b) ≡ true → b ≡ true
      and_right true b e = e
      and_right false b e = absurd (false≢true e)

      pub symbols_below : is_new_symbol ≡ true → length zs < 1024
      symbols_below e = omega (arith, symbol_few (and_left (is_symbol p.word) _ e), new_behind zs (and_right (is_symbol p.word) _ e))

      abbrev u : Cells
      u = next_in job first text s

      stands_at : u.at ≡ begin
      stands_at = makes.at ∙ it.begins

      word_begin : word_at text begin ≡ p.word
      word_begin = sym it.word

      name_word : word_in text text u.at ≡ p.word
      name_word = ap (word_in text text) stands_at ∙ ap (λ t. word_on t text text begin) (lt-ltb begin 32769 (omega (arith, begin_most))) ∙ word_begin

      symbol_word : word_in first text (shifted job u.at) ≡ p.word
      symbol_word = ap (λ o. word_in first text (shifted job o)) stands_at ∙ offsets begin begin_most ∙ word_begin

      pub follows : Follows (passed job u (stored u s)) qs (cond is_new_name (ws ++ (p.word ∷ [])) ws) (cond is_new_symbol (zs ++ (p.word ∷ [])) zs)
      follows = record {
        pieces = ap (λ n. cut n (drop n text)) makes.next ∙ it.on inside;
        from = rw makes.next (end_most text begin begin_most);
        known = ap (λ b. counted b s.known) makes.name ∙ grown_count text text s.names ws p.word s.known (hash_of p.word) u.at h.known (omega (arith, h.few, h.most)) refl h.names is_new_name;
        names = rw makes.name (grown text text s.names ws p.word s.known u.hash u.at h.known (omega (arith, h.few, h.most)) makes.hash h.names is_new_name (λ e. name_word) (λ e. omega (arith, h.few, h.name_room, below)));
        found = ap (λ b. counted b s.found) makes.symbol ∙ grown_count first text s.symbols zs p.word s.found (hash_of p.word) u.at h.found (omega (arith, h.some)) refl h.symbols is_new_symbol;
        symbols = rw makes.symbol (grown first text s.symbols zs p.word s.found u.hash (shifted job u.at) h.found (omega (arith, h.some)) makes.hash h.symbols is_new_symbol (λ e. symbol_word) (λ e. omega (arith, h.symbol_room, symbols_below e)));
        few = grown_most is_new_name ws p.word (s.i + 1) (λ e. omega (arith, h.few)) (omega (arith, h.few));
        some = grown_most is_new_symbol zs p.word 1024 symbols_below h.some;
        most = omega (arith, below);
        name_room = rw (length_entered u.name s.names s.known u.hash u.at refl) h.name_room;
        symbol_room = rw (length_entered u.symbol s.symbols s.found u.hash (shifted job u.at) refl) h.symbol_room;
      }
