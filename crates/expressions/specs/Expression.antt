-- Values, and expressions with variables (001, figures 3 and 5).
use Rattle.std.specs.Prelude.{ℕ, suc, ◌+◌, List, [], ◌∷◌}

-- "A value is an atom or a pair of two values." "In definitions a symbol is a whole number, so atoms never run out."
pub data Value : Type 0 where
  atom : ℕ → Value
  cons : Value → Value → Value

-- One type of expression serves programs (figure 3) and sets (figure 5): a variable `e.NAME` or `?eK` stands for any
-- value, a variable `a.NAME` or `?aK` for an atom. Atomic are a symbol and a variable that stands for an atom.
pub data AtomicExp : Type 0 where
  sym : ℕ → AtomicExp
  avar : ℕ → AtomicExp

pub data Exp : Type 0 where
  atm : AtomicExp → Exp
  evar : ℕ → Exp
  pair : Exp → Exp → Exp

-- "Nodes ..: every atom, variable and pair .., written as trees"
abbrev pub nodes : Exp → ℕ
nodes (atm x) = 1
nodes (evar n) = 1
nodes (pair c d) = suc (nodes c + nodes d)

abbrev pub nodes_all : List Exp → ℕ
nodes_all [] = 0
nodes_all (c ∷ cs) = nodes c + nodes_all cs
