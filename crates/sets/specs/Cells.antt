-- Expressions in cells.
use Rattle.std.specs.Prelude.{ℕ, ◌+◌, ◌*◌, List, [], ◌∷◌, ◌++◌}
use Rattle.expressions.specs.Expression.{AtomicExp, sym, avar, Exp, atm, evar, pair}
use Rattle.expressions.specs.Restriction.{Restriction}

-- A node is 4 n + tag: tag 0 a pair (4), 1 the symbol n, 2 the variable `?e` n, 3 the variable `?a` n. 0 is no node.
abbrev pub pair_code : ℕ
pair_code = 4

abbrev pub evar_code : ℕ → ℕ
evar_code n = 4 * n + 2

abbrev pub avar_code : ℕ → ℕ
avar_code n = 4 * n + 3

abbrev pub symbol_code : ℕ → ℕ
symbol_code z = 4 * z + 1

abbrev pub atomic_code : AtomicExp → ℕ
atomic_code (sym z) = symbol_code z
atomic_code (avar n) = avar_code n

-- a tree in preorder
abbrev pub cells : Exp → List ℕ
cells (atm x) = atomic_code x ∷ []
cells (evar n) = evar_code n ∷ []
cells (pair c d) = pair_code ∷ (cells c ++ cells d)

abbrev pub cells_all : List Exp → List ℕ
cells_all [] = []
cells_all (c ∷ cs) = cells c ++ cells_all cs

-- a restriction: two cells a non-equality
abbrev pub restriction_cells : Restriction → List ℕ
restriction_cells [] = []
restriction_cells (q ∷ qs) = atomic_code q.left ∷ atomic_code q.right ∷ restriction_cells qs
