-- The cases of a symbol's name.
use Prim.Native.Nat.{ℕ, ◌+◌, ◌*◌, ◌≤◌, ◌<◌}
use mathlib.Core.Path.{◌≡◌, refl}
use mathlib.Core.List.{List, [], ◌∷◌}
use native.Mathlib.Omega.{arith}
use lib.ListN.{length, get_or, drop}
use borrow.Author.Tests.{lt-ltb, le-ltb}
use Rattle.listing.specs.Sample.{name_q}
use Rattle.lexer.specs.Twins.Table.{word_in}
use Rattle.window.specs.Twins.TreeText.{symbol_name}

-- nothing stands behind the quote of an empty word
pub empty_behind : (w : List ℕ) → length w < 1 → w ≡ drop 1 w
empty_behind [] h = refl
empty_behind (b ∷ w) h = absurd (omega arith)

module _ (program job symbols : List ℕ) (n : ℕ) where
  pub text_name : n < 1024 → 2 * n + 1 < length symbols → drop 1 (word_in program job (get_or symbols (2 * n + 1) 0)) ≡ symbol_name program job symbols n
  unfolding symbol_name
  text_name h k = rw (lt-ltb n 1024 h, lt-ltb (2 * n + 1) (length symbols) k)

  pub no_name : n < 1024 → length symbols ≤ 2 * n + 1 → [] ≡ symbol_name program job symbols n
  unfolding symbol_name
  no_name h k = rw (lt-ltb n 1024 h, le-ltb (2 * n + 1) (length symbols) k)

  pub new_name_lem : 1024 ≤ n → 1024 + n < length symbols → name_q (get_or symbols (1024 + n) 0) ≡ symbol_name program job symbols n
  unfolding symbol_name
  new_name_lem h k = rw (le-ltb n 1024 h, lt-ltb (1024 + n) (length symbols) k)

  pub no_new_name : 1024 ≤ n → length symbols ≤ 1024 + n → [] ≡ symbol_name program job symbols n
  unfolding symbol_name
  no_new_name h k = rw (le-ltb n 1024 h, le-ltb (1024 + n) (length symbols) k)
