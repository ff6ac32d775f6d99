-- The words of symbols: each symbol of an accepted text is the place, by first standing, of a word `'Z` with a fitting Z.
use Prim.Native.Nat.{ℕ, suc, ◌+◌, ◌<◌, ◌≤◌}
use mathlib.Core.Path.{◌≡◌, refl, ap, ap₂, subst, ◌∙◌, sym as inv}
use mathlib.Core.Bool.{Bool, true, false, cond, ◌&&◌, ◌||◌, not, false≢true}
use mathlib.Core.List.{List, [], ◌∷◌, ◌++◌, map}
use mathlib.Core.Option.{none}
use native.Mathlib.Omega.{arith}
use lib.Dec.{eqb, leb}
use lib.ListN.{length, length-append, drop, get_or, get_or-append}
use borrow.Author.Tests.{eqb-true, leb-true, leb-false, ltb-true}
use Rattle.expressions.specs.Expression.{Exp, atm, evar, pair}
use Rattle.expressions.proofs.Predicates.{All}
use Rattle.expressions.proofs.Tests.{and_both, or_none}
use Rattle.expressions.proofs.Numbers.{AtomicNumbers, ExpNumbers, NeqNumbers, ClassNumbers}
use Rattle.language.specs.Program.{atom_of}
use Rattle.language.specs.Bytes.{txt, byte_kind, is_blank, in_word, Verdict, unless, outside_from, bytes_verdict}
use Rattle.language.specs.Words.{Word, same, begins, Fit, fits, name_fit}
use Rattle.language.specs.Tokens.{Piece, piece, goes_on, lengthen, cut, place, Kind, symbol, ename, aname, evariable, avariable, plain, tag, kind_of, same_kind, Text, of_program, of_job, fit_of, is_among, firsts, is_symbol, symbols_of, names_of, num_of, fitting, Token, tokens_from, tokens}
use Rattle.language.specs.Reader.{ok, unless_fault, Reader}
use Rattle.language.specs.Source.{SExp, SProg, SJob, params, exp, exps, prog, neq_of, class}
use Rattle.language.specs.Grammar.{program, job_text}
use Rattle.language.specs.ProgramCheck.{program_verdict}
use Rattle.language.specs.JobCheck.{Tool, inputs_verdict, side_fits, sides_verdict, bounds_verdict, job_verdict}
use Rattle.language.specs.Reading.{read_text, read_program, read_job, accepted, reading}
use Rattle.language.proofs.VerdictNumbers.{program_stated, job_stated}
use Rattle.language.proofs.Acceptance.{no_fault, passes, then_ok, let_pass, text_passed, both_read}
use Rattle.language.proofs.TokenNumbers.{NameNumber, VariableNumber, KindNumber, KindNumberOf, TokenNumber, TokenNumberOf, placed, place_in, place_here, firsts_grow, text_numbered}
use Rattle.language.proofs.Numbers.{ProgNumbers, SidesNumbers, JobNumbers, program_reads, job_reads, OfRes, text_reads}

-- z is the number of a symbol among the words ws
pub record SymbolOf (ws : List Word) (z : ℕ) : Type 0 where
  pub small : z < 1024
  pub below : z < length ws
  pub first : place (get_or ws z []) ws ≡ z
  pub quoted : get_or ws z [] ≡ 39 ∷ drop 1 (get_or ws z [])
  pub fit : name_fit (drop 1 (get_or ws z [])) ≡ fits

pub same_word : (v w : Word) → same v w ≡ true → v ≡ w
same_word [] [] e = refl
same_word [] (c ∷ w) e = absurd (false≢true e)
same_word (b ∷ v) [] e = absurd (false≢true e)
same_word (b ∷ v) (c ∷ w) e = let r = and_both (eqb b c) (same v w) e in ap₂ ◌∷◌ (eqb-true b c r.0) (same_word v w r.1)

-- the word at the place of a word is that word
pub place_at_lem : (w : Word) (ws : List Word) → place w ws < length ws → get_or ws (place w ws) [] ≡ w
place_at_lem w [] l = let z : ⊥ = omega arith in absurd z
place_at_lem w (v ∷ vs) l = go (same v w) refl l (place_at_lem w vs)
  where
    go : (t : Bool) → same v w ≡ t → placed t (place w vs) < suc (length vs) → (place w vs < length vs → get_or vs (place w vs) [] ≡ w) → get_or (v ∷ vs) (placed t (place w vs)) [] ≡ w
    go true e l h = same_word v w e
    go false e l h = h (omega arith)

-- more words behind do not move it
pub place_more : (w : Word) (ws more : List Word) → place w ws < length ws → place w (ws ++ more) ≡ place w ws
place_more w [] more l = let z : ⊥ = omega arith in absurd z
place_more w (v ∷ vs) more l = go (same v w) l (place_more w vs more)
  where
    go : (t : Bool) → placed t (place w vs) < suc (length vs) → (place w vs < length vs → place w (vs ++ more) ≡ place w vs) → placed t (place w (vs ++ more)) ≡ placed t (place w vs)
    go true l h = refl
    go false l h = ap suc (h (omega arith))

pub symbol_more : (ws more : List Word) (z : ℕ) → SymbolOf ws z → SymbolOf (ws ++ more) z
symbol_more ws more z h =
    let e : get_or (ws ++ more) z [] ≡ get_or ws z [] = get_or-append ws more [] z h.below in
    let l : place (get_or ws z []) ws < length ws = subst (λ (n : ℕ). n < length ws) (inv h.first) h.below in
    record {
      small = h.small;
      below = omega (arith, length-append ws more, h.below);
      first = ap (λ (w : Word). place w (ws ++ more)) e ∙ place_more (get_or ws z []) ws more l ∙ h.first;
      quoted = subst (λ (w : Word). w ≡ 39 ∷ drop 1 w) (inv e) h.quoted;
      fit = subst (λ (w : Word). name_fit (drop 1 w) ≡ fits) (inv e) h.fit;
    }

-- every word of the pieces that passes the test is among its firsts
abbrev pub Found : (Word → Bool) → List Word → Piece → Type 0
Found f ws p = f p.word ≡ true → place p.word ws < length ws

grown : (w : Word) (ws more : List Word) → place w ws < length ws → place w (ws ++ more) < length (ws ++ more)
grown w ws more l = omega (arith, place_in w ws more l, length-append ws more)

found_here : (f : Word → Bool) (ws : List Word) (p : Piece) (ps : List Piece) → Found f (firsts f ws (p ∷ ps)) p
found_here f ws p ps e = rw e (go (is_among w ws) refl)
  where
    w : Word
    w = p.word

    go : (t : Bool) → is_among w ws ≡ t → place w (firsts f (cond (not t) (ws ++ (w ∷ [])) ws) ps) < length (firsts f (cond (not t) (ws ++ (w ∷ [])) ws) ps)
    go true a = let x = firsts_grow f ws ps in subst (λ (l : List Word). place w l < length l) (inv x.1) (grown w ws x.0 (ltb-true _ _ a))
    go false a =
        let x = firsts_grow f (ws ++ (w ∷ [])) ps in
        let l : place w (ws ++ (w ∷ [])) < length (ws ++ (w ∷ [])) = omega (arith, place_here w ws [], length-append ws (w ∷ [])) in
        subst (λ (l : List Word). place w l < length l) (inv x.1) (grown w (ws ++ (w ∷ [])) x.0 l)

pub firsts_found : (f : Word → Bool) (ws : List Word) (ps : List Piece) → All (Found f (firsts f ws ps)) ps
firsts_found f ws [] = tt
firsts_found f ws (p ∷ ps) = (found_here f ws p ps, firsts_found f (cond (f p.word && not (is_among p.word ws)) (ws ++ (p.word ∷ [])) ws) ps)

-- a word of the kind of symbols begins with its quote
others_not : (a b c d : Bool) → cond a ename (cond b aname (cond c evariable (cond d avariable plain))) ≡ symbol → ⊥
others_not true b c d e = let z : ◌≡◌ {A = ℕ} 1 0 = ap tag e in omega arith
others_not false true c d e = let z : ◌≡◌ {A = ℕ} 2 0 = ap tag e in omega arith
others_not false false true d e = let z : ◌≡◌ {A = ℕ} 3 0 = ap tag e in omega arith
others_not false false false true e = let z : ◌≡◌ {A = ℕ} 4 0 = ap tag e in omega arith
others_not false false false false e = let z : ◌≡◌ {A = ℕ} 5 0 = ap tag e in omega arith

pub symbol_quoted : (w : Word) → kind_of w ≡ symbol → w ≡ 39 ∷ drop 1 w
symbol_quoted w e = begun w (go (begins (txt "'") w) e)
  where
    go : (t : Bool) → cond t symbol (cond (begins (txt "e.") w) ename (cond (begins (txt "a.") w) aname (cond (begins (txt "?e") w) evariable (cond (begins (txt "?a") w) avariable plain)))) ≡ symbol → t ≡ true
    go true e = refl
    go false e = absurd (others_not (begins (txt "e.") w) (begins (txt "a.") w) (begins (txt "?e") w) (begins (txt "?a") w) e)

    begun : (w : Word) → begins (txt "'") w ≡ true → w ≡ 39 ∷ drop 1 w
    begun [] e = absurd (false≢true e)
    begun (c ∷ v) e = ap (λ (b : ℕ). b ∷ v) (inv (eqb-true 39 c (and_both (eqb 39 c) true e).0))

-- so the number of each token of a symbol
module _ (symbols names : List Word) (t : Text) (i : ℕ) (w : Word) where
  abbrev num : Kind → ℕ
  num k = fitting (fit_of t k w) (num_of symbols names t k w)

  symbol_number : (k : Kind) → kind_of w ≡ k → k ≡ symbol → (place w symbols < length symbols) → fit_of t k w ≡ fits → (leb 4096 i || (same_kind k symbol && leb 1024 (num k))) ≡ false → SymbolOf symbols (num k)
  symbol_number ename e q l f o = let z : ◌≡◌ {A = ℕ} 1 0 = ap tag q in absurd (omega arith)
  symbol_number aname e q l f o = let z : ◌≡◌ {A = ℕ} 2 0 = ap tag q in absurd (omega arith)
  symbol_number evariable e q l f o = let z : ◌≡◌ {A = ℕ} 3 0 = ap tag q in absurd (omega arith)
  symbol_number avariable e q l f o = let z : ◌≡◌ {A = ℕ} 4 0 = ap tag q in absurd (omega arith)
  symbol_number plain e q l f o = let z : ◌≡◌ {A = ℕ} 5 0 = ap tag q in absurd (omega arith)
  symbol_number symbol e q l f o =
      let n : num symbol ≡ place w symbols = ap (λ (x : Fit). fitting x (place w symbols)) f in
      let g : get_or symbols (place w symbols) [] ≡ w = place_at_lem w symbols l in
      subst (SymbolOf symbols) (inv n) (record {
        small = subst (λ (m : ℕ). m < 1024) n (leb-false 1024 (num symbol) (or_none (leb 4096 i) (leb 1024 (num symbol)) o).1);
        below = l;
        first = ap (λ (v : Word). place v symbols) g;
        quoted = subst (λ (v : Word). v ≡ 39 ∷ drop 1 v) (inv g) (symbol_quoted w e);
        fit = subst (λ (v : Word). name_fit (drop 1 v) ≡ fits) (inv g) f;
      })

-- a symbol's token that fits and is not one too many
abbrev SymbolToken : List Word → Token → Type 0
SymbolToken ws x = x.kind ≡ symbol → x.fit ≡ fits → x.over ≡ false → SymbolOf ws x.num

tokens_symbols : (symbols names : List Word) (t : Text) (i : ℕ) (ps : List Piece) → All (Found is_symbol symbols) ps → All (SymbolToken symbols) (tokens_from symbols names t i ps)
tokens_symbols symbols names t i [] h = tt
tokens_symbols symbols names t i (p ∷ ps) h = (
  λ k f o. symbol_number symbols names t i p.word (kind_of p.word) refl k (h.0 (ap (λ (x : Kind). same_kind x symbol) k)) f o,
  tokens_symbols symbols names t (suc i) ps h.1,
)

text_symbols : (t : Text) (before : List Word) (bs : List ℕ) → All (SymbolToken (symbols_of before bs)) (tokens t before bs)
unfolding tokens symbols_of
text_symbols t before bs = tokens_symbols (symbols_of before bs) (names_of bs) t 0 (cut 0 bs) (firsts_found is_symbol before (cut 0 bs))

-- both together
kind_both : (S : ℕ → Type 0) (t : Text) (k : Kind) (n : ℕ) → KindNumber t k n → (k ≡ symbol → S n) → KindNumberOf S t k n
kind_both S t symbol n h f = f refl
kind_both S t ename n h f = h
kind_both S t aname n h f = h
kind_both S t evariable n h f = h
kind_both S t avariable n h f = h
kind_both S of_program plain n h f = h
kind_both S of_job plain n h f = h

tokens_both : (ws : List Word) (t : Text) (xs : List Token) → All (TokenNumber t) xs → All (SymbolToken ws) xs → All (TokenNumberOf (SymbolOf ws) t) xs
tokens_both ws t [] h k = tt
tokens_both ws t (x ∷ xs) h k = ((λ f o. kind_both (SymbolOf ws) t x.kind x.num (h.0 f o) (λ q. k.0 q f o)), tokens_both ws t xs h.1 k.1)

text_words : (t : Text) (before : List Word) (bs : List ℕ) → All (TokenNumberOf (SymbolOf (symbols_of before bs)) t) (tokens t before bs)
text_words t before bs = tokens_both (symbols_of before bs) t (tokens t before bs) (text_numbered t before bs) (text_symbols t before bs)

-- the sides of an accepted job's non-equalities are atomic
side_numbers : (S N : ℕ → Type 0) (cs : List Exp) (c : Exp) → side_fits cs c ≡ true → ExpNumbers S N c → AtomicNumbers S N (atom_of c)
side_numbers S N cs (atm x) e h = h
side_numbers S N cs (evar n) e h = absurd (false≢true e)
side_numbers S N cs (pair c d) e h = absurd (false≢true e)

sides_numbers : (S : ℕ → Type 0) (cs : List Exp) (qs : List (SExp × SExp)) → sides_verdict cs qs ≡ none → All (SidesNumbers S) qs → All (NeqNumbers S VariableNumber) (map neq_of qs)
sides_numbers S cs [] e h = tt
sides_numbers S cs (q ∷ qs) e h =
    let v = no_fault (unless (side_fits cs (exp q.0)) 11 _) _ e in
    let w = no_fault (unless (side_fits cs (exp q.1)) 11 _) (sides_verdict cs qs) v.1 in (
      (side_numbers S VariableNumber cs (exp q.0) (passes _ 11 _ v.0) h.0.0, side_numbers S VariableNumber cs (exp q.1) (passes _ 11 _ w.0) h.0.1),
      sides_numbers S cs qs w.1 h.1,
    )

module _ (tool : Tool) (p j : List ℕ) (s : SProg) (t : SJob) (e : reading tool p j ≡ accepted s t) where
  abbrev before : List Word
  before = symbols_of [] p

  pub accepted_program : read_program p ≡ ok s
  unfolding reading
  accepted_program = (both_read (λ s. read_job tool s before j) (read_program p) s t e).0

  accepted_job : read_job tool s before j ≡ ok t
  unfolding reading
  accepted_job = (both_read (λ s. read_job tool s before j) (read_program p) s t e).1

  pub accepted_program_words : ProgNumbers (SymbolOf before) NameNumber (prog s)
  unfolding read_program
  accepted_program_words = subst (OfRes (λ s. ProgNumbers (SymbolOf before) NameNumber (prog s))) accepted_program
      (text_reads of_program 32768 program program_verdict [] p (SymbolOf before) (text_words of_program [] p) (program_reads (SymbolOf before)) program_stated)

  job_words_lem : JobNumbers (SymbolOf (symbols_of before j)) t
  unfolding read_job
  job_words_lem = let xs = params s.main.params in subst (OfRes (JobNumbers (SymbolOf (symbols_of before j)))) accepted_job
      (text_reads of_job 8192 job_text (job_verdict tool xs) before j (SymbolOf (symbols_of before j)) (text_words of_job before j) (job_reads (SymbolOf (symbols_of before j))) (job_stated tool xs))

  job_sides : sides_verdict (exp t.out ∷ exps t.ins) t.neqs ≡ none
  unfolding read_job job_verdict
  job_sides =
      let xs = params s.main.params in
      let w = no_fault (inputs_verdict tool xs t) _ (text_passed of_job 8192 job_text (job_verdict tool xs) before j t accepted_job) in
      (no_fault (sides_verdict (exp t.out ∷ exps t.ins) t.neqs) (bounds_verdict t) w.1).0

  pub accepted_job_words : ClassNumbers (SymbolOf (symbols_of before j)) VariableNumber (class t)
  accepted_job_words = let h = job_words_lem in (h.0, h.1, sides_numbers (SymbolOf (symbols_of before j)) (exp t.out ∷ exps t.ins) t.neqs job_sides h.2)

-- the symbols of a text stand behind those before it
pub symbols_more : (before : List Word) (bs : List ℕ) → (more : List Word) × (symbols_of before bs ≡ before ++ more)
unfolding symbols_of
symbols_more before bs = firsts_grow is_symbol before (cut 0 bs)

-- there are no more symbols than bytes, but for the end of each text
cut_few : (at : ℕ) (bs : List ℕ) → length (cut at bs) ≤ suc (length bs)
unfolding cut
cut_few at [] = omega arith
cut_few at (b ∷ bs) = go (is_blank (byte_kind b)) (in_word (byte_kind b) && goes_on bs) (cut (suc at) bs) (cut_few (suc at) bs)
  where
    longer : (ps : List Piece) → length (lengthen at b ps) ≤ length ps
    longer [] = omega arith
    longer (p ∷ ps) = omega arith

    go : (u v : Bool) (ps : List Piece) → length ps ≤ suc (length bs) → length (cond u ps (cond v (lengthen at b ps) (piece at (b ∷ []) ∷ ps))) ≤ suc (suc (length bs))
    go true v ps l = omega arith
    go false true ps l = omega (arith, longer ps)
    go false false ps l = omega arith

firsts_few : (f : Word → Bool) (ws : List Word) (ps : List Piece) → length (firsts f ws ps) ≤ length ws + length ps
firsts_few f ws [] = omega arith
firsts_few f ws (p ∷ ps) = go (f p.word && not (is_among p.word ws)) (λ vs. firsts_few f vs ps)
  where
    go : (t : Bool) → ((vs : List Word) → length (firsts f vs ps) ≤ length vs + length ps) → length (firsts f (cond t (ws ++ (p.word ∷ [])) ws) ps) ≤ length ws + suc (length ps)
    go true ih = omega (arith, ih (ws ++ (p.word ∷ [])), length-append ws (p.word ∷ []))
    go false ih = omega (arith, ih ws)

pub symbols_few : (before : List Word) (bs : List ℕ) → length (symbols_of before bs) ≤ length before + suc (length bs)
unfolding symbols_of
symbols_few before bs = omega (arith, firsts_few is_symbol before (cut 0 bs), cut_few 0 bs)

text_short : {A : Type 0} (text : Text) (limit : ℕ) (m : Reader A) (check : A → Verdict) (before : List Word) (bs : List ℕ) (a : A) → read_text text limit m check before bs ≡ ok a → length bs ≤ limit
text_short text limit m check before bs a e =
    let x = then_ok (unless_fault (bytes_verdict limit bs) bs) _ a e in
    let y = let_pass (bytes_verdict limit bs) bs x.0 x.1 in
    leb-true (length bs) limit (passes (leb (length bs) limit) 1 limit (no_fault (unless (leb (length bs) limit) 1 limit) (outside_from 0 bs) y.0).0)

-- the symbols of two accepted texts, fewer than there are bytes
pub accepted_few : (tool : Tool) (p j : List ℕ) (s : SProg) (t : SJob) → reading tool p j ≡ accepted s t → length (symbols_of (symbols_of [] p) j) ≤ 40962
unfolding read_program read_job
accepted_few tool p j s t e =
    let a = text_short of_program 32768 program program_verdict [] p s (accepted_program tool p j s t e) in
    let b = text_short of_job 8192 job_text (job_verdict tool (params s.main.params)) (symbols_of [] p) j t (accepted_job tool p j s t e) in
    omega (arith, symbols_few [] p, symbols_few (symbols_of [] p) j)
