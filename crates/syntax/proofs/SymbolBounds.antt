-- A symbol's number is at most the number of symbols, whatever the token.
use Prim.Native.Nat.{ℕ, zero, suc, ◌≤◌}
use mathlib.Core.Path.{◌≡◌}
use mathlib.Core.List.{List, [], ◌∷◌}
use native.Mathlib.Omega.{arith}
use lib.ListN.{length, get_or}
use Rattle.language.specs.Words.{Word, Fit, fits, broken, long, many}
use Rattle.language.specs.Tokens.{Piece, cut, Kind, symbol, ename, aname, evariable, avariable, plain, tag, kind_of, Text, fit_of, num_of, fitting, symbols_of, names_of, tokens_from, tokens}
use Rattle.grammar.specs.Twins.Positions.{nothing}
use Rattle.syntax.proofs.Tracks.{token_at}
use Rattle.lexer.proofs.TokenMeaning.{place_most}

symbols_few : (symbols names : List Word) (t : Text) (n i : ℕ) (ps : List Piece) → tag (get_or (tokens_from symbols names t n ps) i nothing).kind ≡ 0 → (get_or (tokens_from symbols names t n ps) i nothing).num ≤ length symbols
symbols_few symbols names t n i [] e = omega arith
symbols_few symbols names t n zero (p ∷ ps) e = go (kind_of p.word) (fit_of t (kind_of p.word) p.word) e
  where
    go : (k : Kind) (f : Fit) → tag k ≡ 0 → fitting f (num_of symbols names t k p.word) ≤ length symbols
    go symbol fits e = place_most p.word symbols
    go symbol broken e = omega arith
    go symbol long e = omega arith
    go symbol many e = omega arith
    go ename f e = let z : ⊥ = omega arith in absurd z
    go aname f e = let z : ⊥ = omega arith in absurd z
    go evariable f e = let z : ⊥ = omega arith in absurd z
    go avariable f e = let z : ⊥ = omega arith in absurd z
    go plain f e = let z : ⊥ = omega arith in absurd z
symbols_few symbols names t n (suc i) (p ∷ ps) e = symbols_few symbols names t (suc n) i ps e

pub symbol_few : (t : Text) (before : List Word) (bs : List ℕ) (i : ℕ) → tag (token_at (tokens t before bs) i).kind ≡ 0 → (token_at (tokens t before bs) i).num ≤ length (symbols_of before bs)
unfolding tokens
symbol_few t before bs i = symbols_few (symbols_of before bs) (names_of bs) t 0 i (cut 0 bs)
