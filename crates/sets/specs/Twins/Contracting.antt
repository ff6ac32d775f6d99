-- Contractions over codes, and what they mean.
use Rattle.std.specs.Prelude.{ℕ, ◌+◌, ◌*◌, ◌/◌, ◌%◌, Bool, true, false, cond, eqb}
use Rattle.expressions.specs.Expression.{AtomicExp, sym, avar, Exp, atm, evar, pair}
use Rattle.expressions.specs.Contraction.{Contraction, identity, contra, bind_e, bind_a, non_equal}
use Rattle.sets.specs.declared.contraction.Contraction.{Contraction as Coded}
use Rattle.sets.specs.declared.contraction.Contraction.TheVariants.{Identity, Contradiction, Bind, BindPair, NonEqual}

-- the atomic expression of a code, and the leaf; of no such code a symbol
abbrev pub atomic_of : ℕ → AtomicExp
atomic_of c = cond (eqb (c % 4) 3) (avar (c / 4)) (sym (c / 4))

abbrev pub leaf_of : ℕ → Exp
leaf_of c = cond (eqb (c % 4) 2) (evar (c / 4)) (atm (atomic_of c))

abbrev binding_of : Bool → ℕ → ℕ → Contraction
binding_of true var to = bind_e (var / 4) (leaf_of to)
binding_of false var to = bind_a (var / 4) (atomic_of to)

-- what each contraction means
abbrev pub contraction_of : Coded → Contraction
contraction_of Identity = identity
contraction_of Contradiction = contra
contraction_of (Bind var to) = binding_of (eqb (var % 4) 2) var to
contraction_of (BindPair var head tail) = bind_e (var / 4) (pair (leaf_of head) (leaf_of tail))
contraction_of (NonEqual left right) = non_equal (atomic_of left) (atomic_of right)

abbrev pub equality : ℕ → ℕ → Coded
equality x y = cond (eqb x y) Identity (cond (eqb (x % 4) 3) (Bind x y) (cond (eqb (y % 4) 3) (Bind y x) Contradiction))

-- the code of a number and a tag
abbrev pub code_of : ℕ → ℕ → ℕ
code_of n tag = 4 * (n % 16384) + tag
