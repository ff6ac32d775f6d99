-- Fresh numbers, and splits (001, definitions 29 and 30, theorem 31).
use Rattle.std.specs.Prelude.{ℕ, suc, ◌+◌, max, List, [], ◌∷◌, ◌⊎◌, ◌↔◌}
use Rattle.std.proofs.Math.Option.{Option, none, some}
use Rattle.expressions.specs.Expression.{AtomicExp, sym, avar, Exp, atm, evar, pair}
use Rattle.expressions.specs.Restriction.{Restriction}
use Rattle.expressions.specs.Contraction.{Construction, CRPair, InConcretization, Contraction, bind_e, non_equal, equality_contraction, contract}
use Rattle.expressions.specs.Class.{IOClass}

-- "each split of a `?e` takes three numbers from the path's counter, on both branches: head, tail, atom"
pub record Numbers : Type 0 where
  pub head : ℕ
  pub tail : ℕ
  pub atom : ℕ
  pub next : ℕ

-- a counter is the first number that it has not handed out
abbrev pub take_numbers : ℕ → Numbers
take_numbers k = record { head = k; tail = k + 1; atom = k + 2; next = k + 3 }

-- the largest number of a variable, of either kind; 0 where there is none
abbrev pub largest_atomic : AtomicExp → ℕ
largest_atomic (sym z) = 0
largest_atomic (avar n) = n

abbrev pub largest : Exp → ℕ
largest (atm x) = largest_atomic x
largest (evar n) = n
largest (pair c d) = max (largest c) (largest d)

abbrev pub largest_all : List Exp → ℕ
largest_all [] = 0
largest_all (c ∷ cs) = max (largest c) (largest_all cs)

abbrev pub largest_restriction : Restriction → ℕ
largest_restriction [] = 0
largest_restriction (q ∷ qs) = max (max (largest_atomic q.left) (largest_atomic q.right)) (largest_restriction qs)

-- "Fresh numbers start one above the largest K of either kind in the job"
abbrev pub first_fresh : IOClass → ℕ
first_fresh P = suc (max (max (largest_all P.con.ins) (largest P.con.out)) (largest_restriction P.neqs))

-- a split: the contraction of the true branch, and of the false one
pub record Split : Type 0 where
  pub yes : Contraction
  pub no : Contraction

-- "An `eqa?` of different sides, at least one a variable: the true branch binds .., the false branch adds the non-equality
-- as written." Of equal sides the false one contradicts, of two different symbols the true one.
abbrev pub split_atomic : AtomicExp → AtomicExp → Split
split_atomic x y = record { yes = equality_contraction x y; no = non_equal x y }

-- "A `cons?` on `?eK`: true gives a pair of two fresh `?e`, false a fresh `?a`."
abbrev pub split_exp : ℕ → Numbers → Split
split_exp n f = record { yes = bind_e n (pair (evar f.head) (evar f.tail)); no = bind_e n (atm (avar f.atom)) }

-- what a contracted cr-pair represents; a contradiction represents nothing
abbrev pub InContracted : {K : Construction} → Option (CRPair K) → K.Ground → Type 0
InContracted none g = ⊥
InContracted (some P) g = InConcretization P g

-- a split that loses nothing and gives nothing to both sides (definition 30)
pub record Perfect {K : Construction} (P : CRPair K) (s : Split) : Type 0 where
  pub whole : (g : K.Ground) → InConcretization P g ↔ (InContracted (contract s.yes P) g ⊎ InContracted (contract s.no P) g)
  pub apart : (g : K.Ground) → InContracted (contract s.yes P) g → InContracted (contract s.no P) g → ⊥
