-- The cells that the code makes of a word are those of its token.
use Prim.Native.Nat.{ℕ, suc, ◌+◌, ◌*◌, ◌≤◌, ◌<◌}
use Prim.Native.String.{String}
use mathlib.Core.Path.{◌≡◌, refl, ap, ◌∙◌, sym}
use mathlib.Core.Bool.{Bool, true, false, cond, ◌&&◌, ◌||◌, not}
use mathlib.Core.List.{List, [], ◌∷◌}
use native.Mathlib.Omega.{arith}
use native.Mathlib.Nat.{mod-eq_of_lt}
use lib.Dec.{eqb, leb, ltb}
use borrow.Author.Tests.{eq-eqb, ne_eqb, ltb-true, ltb-false}
use lib.ListN.{length}
use Rattle.language.specs.Bytes.{txt}
use Rattle.language.specs.Words.{Word, same, Fit, fits, broken, long, many}
use Rattle.language.specs.Tokens.{Kind, symbol, ename, aname, evariable, avariable, plain, tag, same_kind, key_in, key_of, fixed_words, place, is_among, num_of, fitting}
use Rattle.words.specs.Twins.Marks.{fit_number, over_number, cell_of}
use Rattle.words.specs.Twins.Judged.{text_of}
use Rattle.lexer.specs.Twins.Lexed.{mark_cell, plain_number, number_at, over_at}
use Rattle.words.proofs.Encoding.{tag_most, fit_most}

-- a place is at most the number of words
pub place_most : (w : Word) (ws : List Word) → place w ws ≤ length ws
place_most w [] = omega arith
place_most w (v ∷ vs) = go (same v w) (place_most w vs)
  where
    go : (t : Bool) → place w vs ≤ length vs → elim t [ true ↦ 0 | false ↦ suc (place w vs) ] ≤ suc (length vs)
    go true h = omega arith
    go false h = omega arith

-- a word is new where its place is behind the others
pub new_place : (w : Word) (ws : List Word) → eqb (place w ws) (length ws) ≡ not (is_among w ws)
new_place w ws = go (ltb (place w ws) (length ws)) refl
  where
    go : (t : Bool) → ltb (place w ws) (length ws) ≡ t → eqb (place w ws) (length ws) ≡ not t
    go true e = let h = ltb-true (place w ws) (length ws) e in ne_eqb (place w ws) (length ws) (λ z. omega arith)
    go false e = let h = ltb-false (place w ws) (length ws) e in let k = place_most w ws in eq-eqb (place w ws) (length ws) (omega arith)

key_in_most : (vs : List String) (w : Word) → key_in vs w ≤ length vs
key_in_most [] w = omega arith
key_in_most (v ∷ vs) w = go (same (txt v) w) (key_in_most vs w)
  where
    go : (t : Bool) → key_in vs w ≤ length vs → elim t [ true ↦ 0 | false ↦ suc (key_in vs w) ] ≤ suc (length vs)
    go true h = omega arith
    go false h = omega arith

pub key_most : (w : Word) → key_of w ≤ 18
key_most w = key_in_most fixed_words w

-- p is the place that the code finds
module _ (symbols names : List Word) (job : Bool) (w : Word) (p : ℕ) (small : p < 65536) where
  -- among the symbols or among the other words
  abbrev pub Placed : Kind → Type 0
  Placed symbol = p ≡ place w symbols
  Placed ename = p ≡ place w names
  Placed aname = p ≡ place w names
  Placed evariable = p ≡ place w names
  Placed avariable = p ≡ place w names
  Placed plain = p ≡ place w names

  cell : (n : ℕ) → p ≡ n → p ≡ cell_of n
  cell n e = sym (mod-eq_of_lt {n = p} {m = 65536} small) ∙ ap cell_of e

  number_fits : (k : Kind) → Placed k → number_at job (tag k) 0 p w ≡ cell_of (num_of symbols names (text_of job) k w)
  number_fits symbol e = cell (place w symbols) e
  number_fits ename e = cell (place w names) e
  number_fits aname e = cell (place w names) e
  number_fits evariable e = refl
  number_fits avariable e = refl
  number_fits plain e = go job
    where
      go : (b : Bool) → plain_number b p w ≡ cell_of (num_of symbols names (text_of b) plain w)
      go true = refl
      go false = cell (place w names) e

  pub number_cell_lem : (k : Kind) (f : Fit) → Placed k → number_at job (tag k) (fit_number f) p w ≡ cell_of (fitting f (num_of symbols names (text_of job) k w))
  number_cell_lem k fits e = number_fits k e
  number_cell_lem k broken e = refl
  number_cell_lem k long e = refl
  number_cell_lem k many e = refl

  pub number_same : (f : Fit) → Placed symbol → cell_of (fitting f (num_of symbols names (text_of job) symbol w)) ≡ fitting f (num_of symbols names (text_of job) symbol w)
  number_same fits e = sym (cell (place w symbols) e) ∙ e
  number_same broken e = refl
  number_same long e = refl
  number_same many e = refl

  pub over_same : (i : ℕ) (k : Kind) (f : Fit) → Placed k →
      over_at i (tag k) (cell_of (fitting f (num_of symbols names (text_of job) k w))) ≡ (leb 4096 i || (same_kind k symbol && leb 1024 (fitting f (num_of symbols names (text_of job) k w))))
  over_same i k f e = go (leb 4096 i) k e
    where
      go : (b : Bool) (k : Kind) → Placed k → cond b true (cond (eqb (tag k) 0) (leb 1024 (cell_of (fitting f (num_of symbols names (text_of job) k w)))) false) ≡ (b || (same_kind k symbol && leb 1024 (fitting f (num_of symbols names (text_of job) k w))))
      go true k e = refl
      go false symbol e = ap (leb 1024) (number_same f e)
      go false ename e = refl
      go false aname e = refl
      go false evariable e = refl
      go false avariable e = refl
      go false plain e = refl

-- the mark is below 65,536
pub mark_same : (key : ℕ) (k : Kind) (f : Fit) (b : Bool) → key ≤ 18 → mark_cell key (tag k) (fit_number f) b ≡ key + 32 * tag k + 256 * fit_number f + 1024 * over_number b
mark_same key k f true h = let x = tag_most k in let y = fit_most f in mod-eq_of_lt {m = 65536} (omega arith)
mark_same key k f false h = let x = tag_most k in let y = fit_most f in mod-eq_of_lt {m = 65536} (omega arith) ∙ omega arith
