-- Laws of the tokens as the code makes them: one line of the making, one turn of the loop.
use Prim.Native.Nat.{ℕ, zero, suc, ◌+◌, ◌-◌, ◌≤◌, ◌<◌}
use mathlib.Core.Path.{◌≡◌, refl, ap, ◌∙◌, sym}
use mathlib.Core.Bool.{Bool, true, false}
use mathlib.Core.List.{List}
use native.Mathlib.Omega.{arith}
use lib.Dec.{eqb}
use lib.ListN.{length, set, length-set}
use Rattle.language.specs.Words.{Word}
use Rattle.language.specs.Tokens.{tag, kind_of, key_of, fit_of}
use Rattle.words.specs.Twins.Marks.{fit_number, kind_at}
use Rattle.words.specs.Twins.Cutting.{start_at, piece_end, part_of}
use Rattle.words.specs.Twins.Judged.{text_of, hash_of}
use Rattle.lexer.specs.declared.lexer.Token.{Token}
use Rattle.lexer.specs.declared.lexer.Cut.{Cut}
use Rattle.lexer.specs.Twins.Lexed.{shifted, entered_if, counted, number_at, over_at, count_of, place_of, token_cells, placed_token, fitted_token, word_token, piece_token, token_from, State, stored, passed, on_shut, step_from, cut_from, Out}

-- the token from what each call of the code answers
module _ (job : Bool) (first text symbols : List ℕ) (found : ℕ) (names : List ℕ) (known i : ℕ) where
  from_piece : (from at next : ℕ) → at ≡ start_at text from → next ≡ piece_end text at → piece_token job first text symbols found names known i at next ≡ token_from job first text symbols found names known i from
  unfolding token_from
  from_piece from at next p q = rw (q, p)

  from_word : (at next : ℕ) (w : Word) → w ≡ part_of text at next → word_token job first text symbols found names known i at next w ≡ piece_token job first text symbols found names known i at next
  unfolding piece_token
  from_word at next w e = ap (λ v. word_token job first text symbols found names known i at next v) e

  from_fitted : (at next : ℕ) (w : Word) (key kind fit hash : ℕ) → key ≡ key_of w → kind ≡ tag (kind_of w) → fit ≡ fit_number (fit_of (text_of job) (kind_at kind) w) → hash ≡ hash_of w →
      fitted_token job first text symbols found names known i at next key kind fit hash w ≡ word_token job first text symbols found names known i at next w
  unfolding word_token
  from_fitted at next w key kind fit hash k d f h = rw (k, f, h, d)

  from_placed : (at next : ℕ) (w : Word) (key kind fit hash place : ℕ) → place ≡ place_of first text symbols found names known kind hash w →
      placed_token job first text symbols found names known i at next key kind fit hash place w ≡ fitted_token job first text symbols found names known i at next key kind fit hash w
  unfolding fitted_token
  from_placed at next w key kind fit hash place e = ap (λ v. placed_token job first text symbols found names known i at next key kind fit hash v w) e

  from_cells : (at next : ℕ) (w : Word) (key kind fit hash place num : ℕ) (over new symbol : Bool) → num ≡ number_at job kind fit place w → over ≡ over_at i kind num → new ≡ eqb place (count_of kind found known) → symbol ≡ eqb kind 0 →
      token_cells job first text symbols found names known i at next key kind fit hash num over new symbol ≡ placed_token job first text symbols found names known i at next key kind fit hash place w
  unfolding placed_token
  from_cells at next w key kind fit hash place num over new symbol n o e s = rw (e, s, o, n)

  pub token_made : (from at next : ℕ) (w : Word) (key kind fit hash place num : ℕ) (over new symbol : Bool) →
      at ≡ start_at text from → next ≡ piece_end text at → w ≡ part_of text at next →
      key ≡ key_of w → kind ≡ tag (kind_of w) → fit ≡ fit_number (fit_of (text_of job) (kind_at kind) w) → hash ≡ hash_of w →
      place ≡ place_of first text symbols found names known kind hash w → num ≡ number_at job kind fit place w → over ≡ over_at i kind num →
      new ≡ eqb place (count_of kind found known) → symbol ≡ eqb kind 0 →
      token_cells job first text symbols found names known i at next key kind fit hash num over new symbol ≡ token_from job first text symbols found names known i from
  token_made from at next w key kind fit hash place num over new symbol a b c d e f g h j k l m =
      from_cells at next w key kind fit hash place num over new symbol j k l m
      ∙ from_placed at next w key kind fit hash place h
      ∙ from_fitted at next w key kind fit hash d e f g
      ∙ from_word at next w c
      ∙ from_piece from at next a b

abbrev pub state : List ℕ → List ℕ → List ℕ → List ℕ → List ℕ → ℕ → ℕ → ℕ → ℕ → State
state marks nums ats symbols names found known i from =
    record { marks = marks; nums = nums; ats = ats; symbols = symbols; names = names; found = found; known = known; i = i; from = from }

-- one turn
module _ (job : Bool) (first text : List ℕ) where
  -- the next token in a state
  abbrev pub next_in : State → Token
  next_in s = token_from job first text s.symbols s.found s.names s.known s.i s.from

  pub cut_end : {n : ℕ} → n ≤ 0 → (s : State) → cut_from job first text n s ≡ s
  unfolding cut_from
  cut_end {n = zero} h s = refl
  cut_end {n = suc n} h s = let z : ⊥ = omega arith in absurd z

  pub cut_shut : {n : ℕ} → 0 < n → (s : State) (t : Token) → t ≡ next_in s → t.shut ≡ true → cut_from job first text n s ≡ stored t s
  unfolding cut_from
  cut_shut {n = zero} h s t e z = let x : ⊥ = omega arith in absurd x
  cut_shut {n = suc n} h s t e z = ap (λ u. step_from job u s (λ v. cut_from job first text n v)) (sym e) ∙ ap (λ b. on_shut b (stored t s) (passed job t (stored t s)) (λ v. cut_from job first text n v)) z

  pub cut_on : {n : ℕ} → 0 < n → (s : State) (t : Token) → t ≡ next_in s → t.shut ≡ false → cut_from job first text n s ≡ cut_from job first text (n - 1) (passed job t (stored t s))
  unfolding cut_from
  cut_on {n = zero} h s t e z = let x : ⊥ = omega arith in absurd x
  cut_on {n = suc n} h s t e z =
      let d : suc n - 1 ≡ n = omega arith in
      rw d (ap (λ u. step_from job u s (λ v. cut_from job first text n v)) (sym e) ∙ ap (λ b. on_shut b (stored t s) (passed job t (stored t s)) (λ v. cut_from job first text n v)) z)

  -- a turn from what each call of the code leaves
  pub turned : (s : State) (t : Token) {n m offset found known : ℕ} {marks nums ats symbols names : List ℕ} → 0 < n → t ≡ next_in s → t.shut ≡ false →
      marks ≡ set s.marks s.i t.mark → nums ≡ set s.nums s.i t.num → ats ≡ set s.ats s.i t.at →
      offset ≡ shifted job t.at → symbols ≡ entered_if t.symbol s.symbols s.found t.hash offset → names ≡ entered_if t.name s.names s.known t.hash t.at →
      found ≡ counted t.symbol s.found → known ≡ counted t.name s.known → m ≡ n - 1 →
      cut_from job first text n s ≡ cut_from job first text m (state marks nums ats symbols names found known (s.i + 1) t.next)
  turned s t h e z a b c o d f g k w = rw (a, b, c, d, o, f, g, k, w) (cut_on h s t e z)

pub length_stored : {l : List ℕ} (k : List ℕ) (i x : ℕ) → l ≡ set k i x → length l ≡ length k
length_stored k i x e = ap length e ∙ simp length-set

pub length_entered : {l : List ℕ} (b : Bool) (k : List ℕ) (n h o : ℕ) → l ≡ entered_if b k n h o → length l ≡ length k
length_entered true k n h o e = ap length e ∙ simp length-set
length_entered false k n h o e = ap length e

-- what `cut_tokens` promises, by name
pub out_of : {r : Cut} {marks nums ats symbols names : List ℕ} {s : State} →
    (r.tokens ≡ s.i) × (r.symbols ≡ s.found) × (marks ≡ s.marks) × (nums ≡ s.nums) × (ats ≡ s.ats) × (symbols ≡ s.symbols) × (names ≡ s.names) → Out r marks nums ats symbols names s
out_of e = record { tokens = e.0; found = e.1; marks_out = e.2; nums_out = e.3; ats_out = e.4; symbols_out = e.5; names_out = e.6 }
