-- The text of a tree in cells, for cells of any content. `name` gives a symbol's word, quote and all.
use Rattle.std.specs.Prelude.{ℕ, zero, suc, ◌+◌, ◌-◌, ◌*◌, ◌/◌, ◌%◌, cond, List, [], ◌∷◌, ◌++◌, eqb, ltb, length, get_or, drop, replicate}
use Rattle.language.specs.Bytes.{txt}
use Rattle.listing.specs.Print.{digits}
use Rattle.listing.specs.Sample.{name_q}
use Rattle.lexer.specs.Twins.Table.{word_in}

-- The name of the symbol n: in the program or the job, and from 1,024 on a new atom's, by its number. A table has two cells for each symbol of
-- the texts; one for samples has 2,048 of them, then the numbers of the new atoms.
unfoldable pub symbol_name : List ℕ → List ℕ → List ℕ → ℕ → List ℕ
symbol_name program job symbols n =
    cond (ltb n 1024)
    (cond (ltb (2 * n + 1) (length symbols)) (drop 1 (word_in program job (get_or symbols (2 * n + 1) 0))) [])
    (cond (ltb (1024 + n) (length symbols)) (name_q (get_or symbols (1024 + n) 0)) [])

-- a quote before it; a symbol that the table has not has no name
abbrev pub symbol_text : List ℕ → List ℕ → List ℕ → ℕ → List ℕ
symbol_text program job symbols n = 39 ∷ symbol_name program job symbols n

unfoldable pub leaf_text : (ℕ → List ℕ) → ℕ → List ℕ
leaf_text name c =
    cond (eqb (c % 4) 1) (name (c / 4))
    (cond (eqb (c % 4) 2) (txt "?e" ++ digits (c / 4)) (txt "?a" ++ digits (c / 4)))

-- How many pairs of the first i cells end where these do, t trees being whole from there on: a pair joins two trees into one, and ends
-- there if they were all; a pair that has fewer waits for its tail.
unfoldable pub closings : List ℕ → ℕ → ℕ → ℕ
closings s zero t = 0
closings s (suc i) t =
    cond (eqb (get_or s i 0) 4)
    (cond (ltb t 2) 0 (cond (eqb (t - 1) 1) (1 + closings s i (t - 1)) (closings s i (t - 1))))
    (closings s i (t + 1))

-- behind a leaf, before the cell i
unfoldable pub behind_leaf : List ℕ → ℕ → List ℕ
behind_leaf s i = replicate (closings s i 0) 41 ++ cond (ltb i (length s)) (32 ∷ []) []

unfoldable pub node_text : (ℕ → List ℕ) → List ℕ → ℕ → List ℕ
node_text name s i = cond (eqb (get_or s i 0) 4) (txt "(cons ") (leaf_text name (get_or s i 0) ++ behind_leaf s (i + 1))

-- n cells from i on
unfoldable pub tree_from : (ℕ → List ℕ) → List ℕ → ℕ → ℕ → List ℕ
tree_from name s zero i = []
tree_from name s (suc n) i = node_text name s i ++ tree_from name s n (i + 1)

unfoldable pub tree_text : (ℕ → List ℕ) → List ℕ → List ℕ
tree_text name s = tree_from name s (length s) 0
