-- The numbers of tokens that fit and are not one too many: those of symbols, names and variables are bounded.
use Prim.Native.Nat.{ℕ, zero, suc, ◌<◌, ◌≤◌}
use mathlib.Core.Path.{◌≡◌, refl, ap, ap₂, subst, ◌∙◌, sym as inv}
use mathlib.Core.Bool.{Bool, true, false, cond, ◌&&◌, ◌||◌, not}
use mathlib.Core.List.{List, [], ◌∷◌, ◌++◌, append_assoc, append-nil}
use native.Mathlib.Omega.{arith}
use lib.Dec.{leb}
use lib.ListN.{length, length-append, drop}
use borrow.Author.Tests.{eqb-true, leb-true, leb-false, ltb-true}
use Rattle.expressions.proofs.Predicates.{All}
use Rattle.expressions.proofs.Tests.{and_both, or_none, eqb_same}
use Rattle.language.specs.Words.{Word, same, Fit, fits, broken, long, many, is_numeral, value, number_fit}
use Rattle.language.specs.Bytes.{within}
use Rattle.language.specs.Tokens.{Piece, cut, place, Kind, symbol, ename, aname, evariable, avariable, plain, tag, kind_of, same_kind, Text, of_program, of_job, fit_of, is_among, firsts, is_symbol, symbols_of, names_of, num_of, fitting, Token, tokens_from, tokens}
use Rattle.language.specs.Reader.{is_a, roomed, one_fit, one_of}
use Rattle.language.proofs.ReaderLaws.{Reads, take_reads, map_reads}

-- "both texts together 1,024 different symbols"
abbrev pub SymbolNumber : ℕ → Type 0
SymbolNumber n = n < 1024

-- the place of a name among those of a text of at most 4,096 tokens
abbrev pub NameNumber : ℕ → Type 0
NameNumber n = n < 4096

-- "K is 1 to 999"
abbrev pub VariableNumber : ℕ → Type 0
VariableNumber n = (1 ≤ n) × (n ≤ 999)

-- by kind, S of a symbol; a plain word of a job is a numeral
abbrev pub KindNumberOf : (ℕ → Type 0) → Text → Kind → ℕ → Type 0
KindNumberOf S t symbol n = S n
KindNumberOf S t ename n = NameNumber n
KindNumberOf S t aname n = NameNumber n
KindNumberOf S t evariable n = VariableNumber n
KindNumberOf S t avariable n = VariableNumber n
KindNumberOf S of_program plain n = NameNumber n
KindNumberOf S of_job plain n = Unit {0}

abbrev pub KindNumber : Text → Kind → ℕ → Type 0
KindNumber t k n = KindNumberOf SymbolNumber t k n

abbrev pub TokenNumberOf : (ℕ → Type 0) → Text → Token → Type 0
TokenNumberOf S t x = x.fit ≡ fits → x.over ≡ false → KindNumberOf S t x.kind x.num

abbrev pub TokenNumber : Text → Token → Type 0
TokenNumber t x = TokenNumberOf SymbolNumber t x

-- the place of a word among the words before it, and behind them
abbrev pub placed : Bool → ℕ → ℕ
placed t n = elim t [ true ↦ 0 | false ↦ suc n ]

pub same_self : (w : Word) → same w w ≡ true
same_self [] = refl
same_self (b ∷ w) = ap₂ ◌&&◌ (eqb_same b) (same_self w)

pub place_in : (w : Word) (ws more : List Word) → place w ws < length ws → place w (ws ++ more) < length ws
place_in w [] more l = let z : ⊥ = omega arith in absurd z
place_in w (v ∷ vs) more l = go (same v w) l (place_in w vs more)
  where
    go : (t : Bool) → placed t (place w vs) < suc (length vs) → (place w vs < length vs → place w (vs ++ more) < length vs) → placed t (place w (vs ++ more)) < suc (length vs)
    go true l h = omega arith
    go false l h = let k = h (omega arith) in omega arith

pub place_here : (w : Word) (ws more : List Word) → place w (ws ++ (w ∷ more)) ≤ length ws
place_here w [] more = rw (same_self w, place) (omega arith)
place_here w (v ∷ vs) more = go (same v w) (place_here w vs more)
  where
    go : (t : Bool) → place w (vs ++ (w ∷ more)) ≤ length vs → placed t (place w (vs ++ (w ∷ more))) ≤ suc (length vs)
    go true h = omega arith
    go false h = omega arith

pub firsts_grow : (f : Word → Bool) (ws : List Word) (ps : List Piece) → (more : List Word) × (firsts f ws ps ≡ ws ++ more)
firsts_grow f ws [] = ([], inv (append-nil ws))
firsts_grow f ws (p ∷ ps) = go (λ vs. firsts_grow f vs ps) (f p.word && not (is_among p.word ws))
  where
    go : ((vs : List Word) → (more : List Word) × (firsts f vs ps ≡ vs ++ more)) → (t : Bool) → (more : List Word) × (firsts f (cond t (ws ++ (p.word ∷ [])) ws) ps ≡ ws ++ more)
    go ih true = let x = ih (ws ++ (p.word ∷ [])) in (p.word ∷ x.0, x.1 ∙ append_assoc ws (p.word ∷ []) x.0)
    go ih false = ih ws

-- a word stands no later than behind all the words before it
place_bound : (f : Word → Bool) (ws : List Word) (p : Piece) (ps : List Piece) → f p.word ≡ true → place p.word (firsts f ws (p ∷ ps)) ≤ length ws
place_bound f ws p ps e = rw e (go (is_among w ws) refl)
  where
    w : Word
    w = p.word

    go : (t : Bool) → is_among w ws ≡ t → place w (firsts f (cond (not t) (ws ++ (w ∷ [])) ws) ps) ≤ length ws
    go true a = let x = firsts_grow f ws ps in let h = place_in w ws x.0 (ltb-true _ _ a) in rw x.1 (omega arith)
    go false a = let x = firsts_grow f (ws ++ (w ∷ [])) ps in rw (x.1, append_assoc) (place_here w ws x.0)

fitting_le : (f : Fit) (n : ℕ) → fitting f n ≤ n
fitting_le fits n = omega arith
fitting_le broken n = omega arith
fitting_le long n = omega arith
fitting_le many n = omega arith

number_fits : (w : Word) → number_fit w ≡ fits → VariableNumber (fitting (number_fit w) (value w))
number_fits w e =
    let a = and_both (leb (length w) 3) (within 1 999 (value w)) (passed (is_numeral w) _ e) in
    let b = and_both (leb 1 (value w)) (leb (value w) 999) a.1 in
    subst (λ (f : Fit). VariableNumber (fitting f (value w))) (inv e) (leb-true _ _ b.0, leb-true _ _ b.1)
  where
    passed : (a b : Bool) → cond a (cond b fits long) broken ≡ fits → b ≡ true
    passed true true e = refl
    passed true false e = let z : ◌≡◌ {A = ℕ} 0 1 = cc in let n : ⊥ = omega arith in absurd n
    passed false b e = let z : ◌≡◌ {A = ℕ} 0 1 = cc in let n : ⊥ = omega arith in absurd n

module _ (symbols names : List Word) (i : ℕ) (w : Word) (h : is_symbol w ≡ false → place w names ≤ i) where
  abbrev num : Text → Kind → ℕ
  num t k = fitting (fit_of t k w) (num_of symbols names t k w)

  name_number : (f : Fit) (b : Bool) → is_symbol w ≡ false → (leb 4096 i || b) ≡ false → NameNumber (fitting f (place w names))
  name_number f b e o = omega (arith, fitting_le f (place w names), h e, leb-false 4096 i (or_none (leb 4096 i) b o).0)

  kind_number : (t : Text) (k : Kind) → kind_of w ≡ k → fit_of t k w ≡ fits → (leb 4096 i || (same_kind k symbol && leb 1024 (num t k))) ≡ false → KindNumber t k (num t k)
  kind_number t symbol e f o = leb-false 1024 _ (or_none (leb 4096 i) _ o).1
  kind_number t ename e f o = name_number (fit_of t ename w) _ (ap (λ k. same_kind k symbol) e) o
  kind_number t aname e f o = name_number (fit_of t aname w) _ (ap (λ k. same_kind k symbol) e) o
  kind_number t evariable e f o = number_fits (drop 2 w) f
  kind_number t avariable e f o = number_fits (drop 2 w) f
  kind_number of_program plain e f o = name_number (fit_of of_program plain w) _ (ap (λ k. same_kind k symbol) e) o
  kind_number of_job plain e f o = tt

abbrev is_other : Word → Bool
is_other w = not (is_symbol w)

tokens_numbered : (t : Text) (symbols ws : List Word) (i : ℕ) (ps : List Piece) → length ws ≤ i → All (TokenNumber t) (tokens_from symbols (firsts is_other ws ps) t i ps)
tokens_numbered t symbols ws i [] l = tt
tokens_numbered t symbols ws i (p ∷ ps) l = (
  kind_number symbols (firsts is_other ws (p ∷ ps)) i p.word (λ e. omega (arith, place_bound is_other ws p ps (ap not e))) t (kind_of p.word) refl,
  tokens_numbered t symbols (cond (is_other p.word && not (is_among p.word ws)) (ws ++ (p.word ∷ [])) ws) (suc i) ps (longer (is_other p.word && not (is_among p.word ws))),
)
  where
    longer : (b : Bool) → length (cond b (ws ++ (p.word ∷ [])) ws) ≤ suc i
    longer true = rw (length-append ws (p.word ∷ [])) (omega arith)
    longer false = omega arith

pub text_numbered : (t : Text) (before : List Word) (bs : List ℕ) → All (TokenNumber t) (tokens t before bs)
unfolding tokens names_of
text_numbered t before bs = tokens_numbered t (symbols_of before bs) [] 0 (cut 0 bs) (omega arith)

-- a token that was taken as one of kind k
untag : ℕ → Kind
untag zero = symbol
untag (suc zero) = ename
untag (suc (suc zero)) = aname
untag (suc (suc (suc zero))) = evariable
untag (suc (suc (suc (suc zero)))) = avariable
untag (suc (suc (suc (suc (suc n))))) = plain

untag_tag : (k : Kind) → untag (tag k) ≡ k
unfolding untag
untag_tag symbol = refl
untag_tag ename = refl
untag_tag aname = refl
untag_tag evariable = refl
untag_tag avariable = refl
untag_tag plain = refl

one_fits : (room : ℕ) (k : Kind) (t : Token) → one_fit room k t ≡ fits → (t.kind ≡ k) × (t.fit ≡ fits)
one_fits room k t e = let r = of_kind (is_a k t) t.fit (with_room room _ e) in (inv (untag_tag t.kind) ∙ ap untag (eqb-true _ _ r.0) ∙ untag_tag k, r.1)
  where
    with_room : (room : ℕ) (f : Fit) → roomed room f ≡ fits → f ≡ fits
    with_room (suc n) f e = e
    with_room zero fits e = refl
    with_room zero broken e = e
    with_room zero long e = e
    with_room zero many e = e

    of_kind : (b : Bool) (f : Fit) → cond b f broken ≡ fits → (b ≡ true) × (f ≡ fits)
    of_kind true f e = (refl, e)
    of_kind false f e = let z : ◌≡◌ {A = ℕ} 0 1 = cc in let n : ⊥ = omega arith in absurd n

pub one_reads : (S : ℕ → Type 0) (t : Text) (room : ℕ) (k : Kind) → Reads (TokenNumberOf S t) (λ x. KindNumberOf S t k x.num) (one_of room k)
one_reads S t room k = map_reads (λ x h. let r = one_fits room k x h.fit in subst (λ (k : Kind). KindNumberOf S t k x.num) r.0 (h.good r.1 h.over)) (take_reads (one_fit room k))
