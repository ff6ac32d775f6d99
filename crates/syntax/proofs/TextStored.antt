-- What the cells hold of a text that was cut: the readers over the cells answer as the grammar does over the text's tokens, and where they
-- refuse nothing the cells are those of all the tokens.
use Prim.Native.Nat.{ℕ, suc, ◌+◌, ◌*◌, ◌/◌, ◌%◌, ◌≤◌, ◌<◌}
use mathlib.Core.Path.{◌≡◌, refl, ap, ◌∙◌, sym}
use mathlib.Core.Bool.{Bool, true, false, cond, true≢false}
use mathlib.Core.List.{List, []}
use mathlib.Core.Logic.{inl, inr}
use native.Mathlib.Omega.{arith}
use native.Mathlib.Decide.{ℕ_discrete}
use lib.Dec.{eqb, ltb}
use lib.ListN.{length, get_or, get_or-eq_default}
use borrow.Author.Tests.{eqb-true, ltb-true, ltb-false, lt-ltb, le-ltb}
use Rattle.language.specs.Words.{Word, Fit, fits, broken, long, many}
use Rattle.language.specs.Tokens.{cut, tag, Text, symbols_of, names_of, Token, tokens}
use Rattle.language.specs.Reader.{ok}
use Rattle.language.specs.Source.{SProg, SJob}
use Rattle.language.specs.Grammar.{program, job_text}
use Rattle.refusals.specs.declared.refusal.Refusal.{Refusal}
use Rattle.std.specs.Prelude.{Result, Ok}
use Rattle.grammar.specs.Twins.Positions.{nothing, program_p, job_p}
use Rattle.words.specs.Twins.Marks.{fit_number, cell_of, mark_of, decode}
use Rattle.grammar.specs.Twins.Stored.{seen, program_at, job_at}
use Rattle.grammar.specs.Twins.Stored as stored
use Rattle.words.specs.Twins.Cutting.{word_at}
use Rattle.words.specs.Twins.Judged.{text_of}
use Rattle.lexer.specs.Twins.Table.{word_in}
use Rattle.lexer.specs.Twins.Lexed.{shifted, shut_at, shuts, State, starting, cut_from}
use Rattle.words.proofs.Encoding.{decoded, marked}
use Rattle.lexer.proofs.TableMeaning.{Holds, holds_none}
use Rattle.syntax.proofs.Tracks.{got_of, token_at}
use Rattle.syntax.proofs.GrammarTracks.{program_tracks, job_tracks}
use Rattle.syntax.proofs.Shut.{Alike, Stops, stops_over, stops_unfit, Same, same_program, same_job}
use Rattle.syntax.proofs.ReadEnds.{Ends, ends_program, ends_job}
use Rattle.syntax.proofs.LexedMeaning.{Leaves, leaves}
use Rattle.syntax.proofs.TokenCells.{key_known, end_broken, end_shuts, InCell, passed_cell, end_cell}

-- a text cut from its beginning; zs are the symbols before it
module _ (job : Bool) (first text : List ℕ) (short : length text ≤ 32768) (offsets : (o : ℕ) → o ≤ length text → word_in first text (shifted job o) ≡ word_at text o)
    (P : ℕ → Type 0) (stands : (o : ℕ) → o ≤ length text → P (shifted job o)) (marks nums ats symbols names : List ℕ) (zs : List Word) (before : ℕ) where
  pub lexed : before ≡ length zs → length zs ≤ 1024 → Holds first text symbols zs → ((k : ℕ) → k < length zs → P (get_or symbols (2 * k + 1) 0)) →
      4097 ≤ length marks → 4097 ≤ length nums → 4097 ≤ length ats → 2048 ≤ length symbols → 8194 ≤ length names →
      Leaves first text P (cut_from job first text 4097 (starting marks nums ats symbols names before)) (starting marks nums ats symbols names before) (tokens (text_of job) zs text) (symbols_of zs text)
  unfolding tokens symbols_of names_of
  lexed counts few holds low m n a y z = leaves job first text short offsets P stands 4097 (starting marks nums ats symbols names before) (cut 0 text) [] zs refl
      (record {
        pieces = refl;
        from = omega arith;
        known = refl;
        names = holds_none text text names;
        found = counts;
        symbols = holds;
        few = omega arith;
        some = few;
        most = omega arith;
        name_room = z;
        symbol_room = y;
      })
      (record { marks = m; nums = n; ats = a })
      low

-- what a reader sees of a token in its cells
alike_cells : (t : Token) → t.key < 32 → Alike t (decode (mark_of t) 0 t.at)
alike_cells t h = let d = decoded t h in record {
  key = sym (ap (λ x. x.key) d);
  kind = sym (ap (λ x. x.kind) d);
  fit = sym (ap (λ x. x.fit) d);
  at = refl;
  over = sym (ap (λ x. x.over) d);
}

shut_stops : (t : Token) → shuts t ≡ true → Stops t
shut_stops t e = over t.over refl e
  where
    key : (f : Fit) → t.fit ≡ f → (f ≡ fits → ⊥) → (a : Bool) → eqb t.key 18 ≡ a → cond a true (eqb t.key 0) ≡ true → Stops t
    key f x u true y z = stops_unfit t (λ v. u (sym x ∙ v)) (inl (eqb-true t.key 18 y))
    key f x u false y z = stops_unfit t (λ v. u (sym x ∙ v)) (inr (eqb-true t.key 0 z))

    unfit : (f : Fit) → t.fit ≡ f → shut_at false (fit_number f) t.key ≡ true → Stops t
    unfit fits x z = absurd (true≢false (sym z))
    unfit broken x z = key broken x (λ v. let y : ◌≡◌ {A = ℕ} 0 1 = cc in omega arith) (eqb t.key 18) refl z
    unfit long x z = key long x (λ v. let y : ◌≡◌ {A = ℕ} 0 1 = cc in omega arith) (eqb t.key 18) refl z
    unfit many x z = key many x (λ v. let y : ◌≡◌ {A = ℕ} 0 1 = cc in omega arith) (eqb t.key 18) refl z

    over : (o : Bool) → t.over ≡ o → shut_at o (fit_number t.fit) t.key ≡ true → Stops t
    over true x z = stops_over t x
    over false x z = unfit t.fit refl z

-- f is what is left of a text whose tokens are ts
module _ (first text : List ℕ) (P : ℕ → Type 0) (t : Text) (zs : List Word) (f s : State) (start : s.i ≡ 0) (left : Leaves first text P f s (tokens t zs text) (symbols_of zs text)) where
  abbrev ts : List Token
  ts = tokens t zs text

  from_start : (k : ℕ) → s.i + k ≡ k
  from_start k = omega arith

  mark_at_lem : (i d : ℕ) → i ≤ left.last → get_or f.marks i d ≡ mark_of (token_at ts i)
  mark_at_lem i d l = ap (λ n. get_or f.marks n d) (sym (from_start i)) ∙ left.marks.made i d l

  num_at : (i d : ℕ) → i ≤ left.last → get_or f.nums i d ≡ cell_of (token_at ts i).num
  num_at i d l = ap (λ n. get_or f.nums n d) (sym (from_start i)) ∙ left.nums.made i d l

  offset_at : (i d : ℕ) → i ≤ left.last → get_or f.ats i d ≡ (token_at ts i).at
  offset_at i d l = ap (λ n. get_or f.ats n d) (sym (from_start i)) ∙ left.ats.made i d l

  key_small : (i : ℕ) → (token_at ts i).key < 32
  key_small i = omega (arith, key_known t zs text i)

  -- at most 4,097 marks are stored, each of which tells its token's key and kind
  pub token_most : f.i ≤ 4097
  token_most = let c = left.count in let m = left.most in omega arith

  pub mark_held : (i : ℕ) → i < f.i → (get_or f.marks i 0 % 32 ≡ (token_at ts i).key) × (get_or f.marks i 0 / 32 % 8 ≡ tag (token_at ts i).kind)
  mark_held i l = let c = left.count in rw (mark_at_lem i 0 (omega arith)) (marked (token_at ts i) (key_small i))

  alike : (i : ℕ) → i ≤ left.last → Alike (token_at ts i) (seen f.marks f.ats i)
  alike i l = rw (mark_at_lem i 1458 l, offset_at i 0 l) (alike_cells (token_at ts i) (key_small i))

  stops : Stops (token_at ts left.last)
  stops = shut_stops (token_at ts left.last) left.shut

  below : left.last < 4097
  below = omega (arith, left.most)

  abbrev Alikes : (ℕ → Result ℕ Refusal) → (ℕ → Result ℕ Refusal) → Type 0
  Alikes p q = Same (token_at ts) (seen f.marks f.ats) left.last alike stops p q

  programs : Alikes (program_p (token_at ts) (length ts)) (program_p (seen f.marks f.ats) 4097)
  programs = same_program (token_at ts) (seen f.marks f.ats) left.last alike stops (length ts) 4097 left.inside below

  jobs : Alikes (job_p (token_at ts) (length ts)) (job_p (seen f.marks f.ats) 4097)
  jobs = same_job (token_at ts) (seen f.marks f.ats) left.last alike stops (length ts) 4097 left.inside below

  -- the readers over the cells answer as the grammar does
  pub program_read : program_at f.marks f.ats 0 ≡ got_of ts (program ts)
  unfolding program_at
  program_read = sym (programs.same 0 (omega arith)) ∙ program_tracks ts 0 (omega arith)

  pub job_read : job_at f.marks f.ats 0 ≡ got_of ts (job_text ts)
  unfolding job_at
  job_read = sym (jobs.same 0 (omega arith)) ∙ job_tracks ts 0 (omega arith)

  -- a reader that comes to the end has come to the last token
  ended : (p q : ℕ → Result ℕ Refusal) → Alikes p q → Ends (token_at ts) (length ts) p → (k : ℕ) → p 0 ≡ Ok k → (token_at ts left.last).key ≡ 0
  ended p q a h k e = go (ℕ_discrete k left.last)
    where
      key : (token_at ts k).key ≡ 0
      key = eqb-true (token_at ts k).key 0 (h 0 k e)

      go : Dec (k ≡ left.last) → (token_at ts left.last).key ≡ 0
      go (yes z) = ap (λ i. (token_at ts i).key) (sym z) ∙ key
      go (no z) =
          let l = a.within 0 k (omega arith) e in
          absurd (true≢false (sym (end_shuts (token_at ts k) key (end_broken t zs text k key)) ∙ left.passes k (omega arith)))

  pub program_ends : (p : SProg) (rest : List Token) → program ts ≡ ok (p, rest) → (token_at ts left.last).key ≡ 0
  program_ends p rest e = ended _ _ programs (ends_program (token_at ts) (length ts)) _ (program_tracks ts 0 (omega arith) ∙ ap (got_of ts) e)

  pub job_ends_lem : (j : SJob) (rest : List Token) → job_text ts ≡ ok (j, rest) → (token_at ts left.last).key ≡ 0
  job_ends_lem j rest e = ended _ _ jobs (ends_job (token_at ts) (length ts)) _ (job_tracks ts 0 (omega arith) ∙ ap (got_of ts) e)

  -- where the last token stored is the end
  module _ (end : (token_at ts left.last).key ≡ 0) where
    pub size : f.i ≡ length ts
    size = left.count ∙ from_start (suc left.last) ∙ (left.whole end).0

    pub symbols_whole : left.words ≡ symbols_of zs text
    symbols_whole = (left.whole end).1

    number_same : (i : ℕ) → i ≤ left.last → InCell t (token_at ts i).kind → cell_of (token_at ts i).num ≡ (token_at ts i).num
    number_same i l c = go (ℕ_discrete i left.last)
      where
        go : Dec (i ≡ left.last) → cell_of (token_at ts i).num ≡ (token_at ts i).num
        go (yes z) = end_cell t zs text i (ap (λ i. (token_at ts i).key) z ∙ end)
        go (no z) = passed_cell t zs text i (omega (arith, left.inside)) (left.passes i (omega arith)) c

    abbrev held : ℕ → Token
    held i = stored.token_at f.marks f.nums f.ats f.i i

    abbrev renumbered : Token → Token
    renumbered t = decode (mark_of t) (cell_of t.num) t.at

    -- what the cells hold at i: the token, its number modulo 65,536
    pub held_cells : (i : ℕ) → (i < length ts → held i ≡ renumbered (token_at ts i)) × (length ts ≤ i → held i ≡ token_at ts i)
    held_cells i = (inner, outer)
      where
        inner : i < length ts → held i ≡ renumbered (token_at ts i)
        inner l =
            let b = (left.whole end).0 in
            let k : i ≤ left.last = omega arith in
            rw (size, lt-ltb i (length ts) l, mark_at_lem i 1458 k, num_at i 0 k, offset_at i 0 k)

        outer : length ts ≤ i → held i ≡ token_at ts i
        outer l = rw (size, le-ltb i (length ts) l) (sym (get_or-eq_default ts nothing l))

    pub held_same : (i : ℕ) → InCell t (token_at ts i).kind → held i ≡ token_at ts i
    held_same i c = go (ltb i (length ts)) refl
      where
        go : (b : Bool) → ltb i (length ts) ≡ b → held i ≡ token_at ts i
        go true e =
            let l = ltb-true i (length ts) e in
            let w = (left.whole end).0 in
            (held_cells i).0 l ∙ ap (λ n. decode (mark_of (token_at ts i)) n (token_at ts i).at) (number_same i (omega arith) c) ∙ decoded (token_at ts i) (key_small i)
        go false e = (held_cells i).1 (ltb-false i (length ts) e)

    -- all but the number
    pub held_alike : (i : ℕ) → Alike (held i) (token_at ts i)
    held_alike i = go (ltb i (length ts)) refl
      where
        go : (b : Bool) → ltb i (length ts) ≡ b → Alike (held i) (token_at ts i)
        go true e =
            let d = decoded (token_at ts i) (key_small i) in
            rw ((held_cells i).0 (ltb-true i (length ts) e)) (record { key = ap (λ x. x.key) d; kind = ap (λ x. x.kind) d; fit = ap (λ x. x.fit) d; at = refl; over = ap (λ x. x.over) d })
        go false e = rw ((held_cells i).1 (ltb-false i (length ts) e)) (record { key = refl; kind = refl; fit = refl; at = refl; over = refl })
