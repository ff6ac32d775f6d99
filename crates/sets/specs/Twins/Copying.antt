-- What the operations on runs of cells do, for cells of any content.
use Rattle.std.specs.Prelude.{ℕ, zero, suc, ◌+◌, ◌-◌, ◌*◌, Bool, true, false, cond, ◌&&◌, List, [], ◌∷◌, eqb, leb, ltb, length, take, drop, get_or}
use Rattle.std.proofs.Math.Seq.{paste}

-- the cells from one place up to another, as far as there are any
abbrev pub part : ℕ → ℕ → List ℕ → List ℕ
part from to s = take (to - from) (drop from s)

-- an answer beside what it leaves in a storage
pub record CopyAnswer : Type 0 where
  pub done : Bool
  pub cells : List ℕ

abbrev pub not_copied : List ℕ → CopyAnswer
not_copied d = record { done = false; cells = d }

abbrev pub copied : List ℕ → ℕ → ℕ → List ℕ → ℕ → CopyAnswer
copied src from n dst at =
    cond (leb (from + n) (length src) && leb (at + n) (length dst))
    (record { done = true; cells = paste dst at (drop from src) n })
    (not_copied dst)

-- the cells that `need` trees take at the front of a list
unfoldable pub walk_trees : List ℕ → ℕ → ℕ
walk_trees [] need = 0
walk_trees (c ∷ l) zero = 0
walk_trees (c ∷ l) (suc k) = 1 + walk_trees l (cond (eqb c 4) (suc (suc k)) k)

unfoldable pub tree_end : List ℕ → ℕ → ℕ
unfolding walk_trees
tree_end s at = at + walk_trees (drop at s) 1

-- what is needed behind four cells, where they are there and the needed trees do not end in them; else 0
abbrev pub one_pair : ℕ → ℕ
one_pair c = cond (eqb c 4) 1 0

abbrev pub four_pairs : List ℕ → ℕ → ℕ
four_pairs s i = one_pair (get_or s i 0) + one_pair (get_or s (i + 1) 0) + one_pair (get_or s (i + 2) 0) + one_pair (get_or s (i + 3) 0)

abbrev pub behind_four : List ℕ → ℕ → ℕ → ℕ
behind_four s i need = cond (ltb (length s) 4) 0 (cond (ltb (length s - 4) i) 0 (cond (leb (need + four_pairs s i) 4) 0 (need + 2 * four_pairs s i - 4)))

unfoldable pub any_cell : ℕ → List ℕ → Bool
any_cell x [] = false
any_cell x (c ∷ l) = cond (eqb c x) true (any_cell x l)

abbrev pub stands_in : List ℕ → ℕ → ℕ → ℕ → Bool
stands_in s from to x = any_cell x (part from to s)
