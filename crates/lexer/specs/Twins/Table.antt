-- A table of words in cells: of each entry the hash and the offset of its first standing.
use Rattle.std.specs.Prelude.{ℕ, zero, suc, ◌+◌, ◌-◌, ◌*◌, Bool, true, false, cond, ◌&&◌, List, eqb, ltb, get_or, set}
use Rattle.language.specs.Words.{Word, same}
use Rattle.words.specs.Twins.Cutting.{word_at}

-- the word at an offset: of the first text, or from 32,769 on of the second
abbrev pub word_on : Bool → List ℕ → List ℕ → ℕ → Word
word_on true first second o = word_at first o
word_on false first second o = word_at second (o - 32769)

abbrev pub word_in : List ℕ → List ℕ → ℕ → Word
word_in first second o = word_on (ltb o 32769) first second o

module _ (first second table : List ℕ) (hash : ℕ) (w : Word) where
  abbrev pub entry_is : ℕ → Bool
  entry_is k = eqb (get_or table (2 * k) 0) hash && same (word_in first second (get_or table (2 * k + 1) 0)) w

  -- the place of the word among n entries from k on, or behind them
  unfoldable pub find_at : ℕ → ℕ → ℕ
  find_at zero k = k
  find_at (suc n) k = cond (entry_is k) k (find_at n (k + 1))

abbrev pub entered : List ℕ → ℕ → ℕ → ℕ → List ℕ
entered table k hash offset = set (set table (2 * k) hash) (2 * k + 1) offset
