-- A table's words by their hash, so that a search passes the entries of one bucket alone. From `base` on stand 256 cells, those of the buckets, each
-- with the newest entry of its own; behind them each entry's cell has the one before it in its bucket. An entry stands there as its number and one, 0
-- for none.
use Rattle.std.specs.Prelude.{ℕ, zero, suc, ◌+◌, ◌*◌, ◌%◌, ◌<◌, ◌≤◌, Bool, cond, ◌≡◌, List, eqb, get_or, set}

abbrev pub bucket_of : List ℕ → ℕ → ℕ
bucket_of table k = get_or table (2 * k) 0 % 256

-- the newest entry of the bucket b before the entry k, and one
unfoldable pub newest_of : List ℕ → ℕ → ℕ → ℕ
newest_of table b zero = 0
newest_of table b (suc k) = cond (eqb (bucket_of table k) b) (suc k) (newest_of table b k)

-- the chains of the first `count` entries
pub record Chained (base : ℕ) (table : List ℕ) (count : ℕ) (chains : List ℕ) : Type 0 where
  pub heads : (b : ℕ) → b < 256 → get_or chains (base + b) 0 ≡ newest_of table b count
  pub links : (k : ℕ) → k < count → get_or chains (base + 256 + k) 0 ≡ newest_of table (bucket_of table k) k

-- the entry k in front of its chain
abbrev pub linked : ℕ → List ℕ → ℕ → List ℕ → List ℕ
linked base table k chains = set (set chains (base + 256 + k) (get_or chains (base + bucket_of table k) 0)) (base + bucket_of table k) ((k + 1) % 65536)

abbrev pub linked_if : ℕ → Bool → List ℕ → ℕ → List ℕ → List ℕ
linked_if base more table k chains = cond more (linked base table k chains) chains

-- `left` entries from k on, one after the other
unfoldable pub linked_all : ℕ → List ℕ → ℕ → ℕ → List ℕ → List ℕ
linked_all base table zero k chains = chains
linked_all base table (suc left) k chains = linked_all base table left (k + 1) (linked base table k chains)

-- the chains of both tables: of the other words in front, of at most 1,024 symbols behind them
pub record Linked (symbols : List ℕ) (found : ℕ) (names : List ℕ) (known : ℕ) (chains : List ℕ) : Type 0 where
  pub of_names : Chained 0 names known chains
  pub of_symbols : found ≤ 1024 → Chained 4353 symbols found chains
