-- One level of the ends and of the heads opened, by the tests of the code.
use Prim.Native.Nat.{ℕ, ◌+◌, ◌-◌, ◌≤◌, ◌<◌, max}
use mathlib.Core.Path.{◌≡◌}
use mathlib.Core.Bool.{true, false}
use mathlib.Core.List.{List}
use native.Mathlib.Omega.{arith}
use lib.ListN.{get_or, set}
use borrow.Author.Tests.{le-leb, lt-leb}
use Rattle.words.specs.Twins.Marks.{cell_of}
use Rattle.syntax.specs.Twins.Heads.{heads_from}
use Rattle.syntax.specs.Twins.Ends.{opens, closes, close_from, past_at, ends_from}
use Rattle.checker.proofs.CheckOpenings.{counted_out, counted_on}

-- one token on in the search for a closing bracket
module _ (key : ℕ → ℕ) (n d i : ℕ) where
  pub close_end : {from : ℕ} → n ≤ i → from ≤ i → i ≤ max from n → close_from key (n - i) d i ≡ max from n
  unfolding close_from
  close_end {from} l f h = let e : i ≡ max from n = omega arith in rw (counted_out n i l, e)

  module _ (l : i < n) where
    pub close_deeper : opens key i ≡ true → close_from key (n - i) d i ≡ close_from key (n - (i + 1)) (d + 1) (i + 1)
    unfolding close_from
    close_deeper e = rw (counted_on n i l, e)

    module _ (e : opens key i ≡ false) where
      pub close_word : closes key i ≡ false → close_from key (n - i) d i ≡ close_from key (n - (i + 1)) d (i + 1)
      unfolding close_from
      close_word f = rw (counted_on n i l, e, f)

      module _ (f : closes key i ≡ true) where
        pub close_last : d ≤ 1 → close_from key (n - i) d i ≡ i + 1
        unfolding close_from
        close_last h = rw (counted_on n i l, e, f, le-leb d 1 h)

        pub close_higher : 1 < d → close_from key (n - i) d i ≡ close_from key (n - (i + 1)) (d - 1) (i + 1)
        unfolding close_from
        close_higher h = rw (counted_on n i l, e, f, lt-leb d 1 h)

pub ends_none : {c j : ℕ} → c ≤ j → (key : ℕ → ℕ) (n : ℕ) (cells : List ℕ) → ends_from key n (c - j) j cells ≡ cells
unfolding ends_from
ends_none {c} {j} l key n cells = rw (counted_out c j l)

pub ends_more : {c j : ℕ} → j < c → (key : ℕ → ℕ) (n : ℕ) (cells : List ℕ) → ends_from key n (c - j) j cells ≡ ends_from key n (c - (j + 1)) (j + 1) (set cells j (cell_of (past_at key n j)))
unfolding ends_from
ends_more {c} {j} l key n cells = rw (counted_on c j l)

pub heads_none : {c j : ℕ} → c ≤ j → (from cells : List ℕ) → heads_from from (c - j) j cells ≡ cells
unfolding heads_from
heads_none {c} {j} l from cells = rw (counted_out c j l)

pub heads_more : {c j : ℕ} → j < c → (from cells : List ℕ) → heads_from from (c - j) j cells ≡ heads_from from (c - (j + 1)) (j + 1) (set cells j (cell_of (get_or from j 0)))
unfolding heads_from
heads_more {c} {j} l from cells = rw (counted_on c j l)
