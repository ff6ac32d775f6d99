-- What the codes of expressions, and contractions mean.
use Prim.Native.Nat.{ℕ, ◌+◌, ◌*◌, ◌/◌, ◌%◌, ◌<◌}
use mathlib.Core.Path.{◌≡◌, refl}
use mathlib.Core.Bool.{Bool, true, false, cond}
use native.Mathlib.Omega.{arith}
use lib.Dec.{eqb}
use borrow.Author.Tests.{ne_eqb}
use Rattle.expressions.specs.Expression.{AtomicExp, sym, avar, atm, evar}
use Rattle.expressions.specs.Restriction.{same_atomic}
use Rattle.expressions.specs.Contraction.{identity, bind_e, bind_a, mk_bind, equality_contraction}
use Rattle.sets.specs.Cells.{evar_code, avar_code, symbol_code, atomic_code}
use Rattle.sets.specs.Twins.Contracting.{atomic_of, leaf_of, contraction_of, equality}
use Rattle.sets.specs.declared.contraction.Contraction.TheVariants.{Identity, Contradiction, Bind}
use Rattle.sets.proofs.CellLaws.{code_test}

-- a code is taken apart again
module _ (n tag : ℕ) (small : tag < 4) where
  pub code_tag : (4 * n + tag) % 4 ≡ tag
  code_tag = omega arith

  pub code_number : (4 * n + tag) / 4 ≡ n
  code_number = omega arith

pub atomic_code_same : (x y : AtomicExp) → eqb (atomic_code x) (atomic_code y) ≡ same_atomic x y
atomic_code_same (sym y) (sym z) = code_test 1 y z
atomic_code_same (sym y) (avar n) = ne_eqb (symbol_code y) (avar_code n) (λ h. omega arith)
atomic_code_same (avar m) (sym z) = ne_eqb (avar_code m) (symbol_code z) (λ h. omega arith)
atomic_code_same (avar m) (avar n) = code_test 3 m n

pub atomic_of_code : (x : AtomicExp) → atomic_of (atomic_code x) ≡ x
atomic_of_code (sym z) = rw (code_tag z 1 (omega arith), code_number z 1 (omega arith))
atomic_of_code (avar n) = rw (code_tag n 3 (omega arith), code_number n 3 (omega arith))

pub leaf_of_atomic : (x : AtomicExp) → leaf_of (atomic_code x) ≡ atm x
leaf_of_atomic (sym z) = rw (code_tag z 1 (omega arith), code_number z 1 (omega arith))
leaf_of_atomic (avar n) = rw (code_tag n 3 (omega arith), code_number n 3 (omega arith))

pub leaf_of_evar : (n : ℕ) → leaf_of (evar_code n) ≡ evar n
leaf_of_evar n = rw (code_tag n 2 (omega arith), code_number n 2 (omega arith))

-- a binding is of the variable's kind
pub bind_a_means : (n : ℕ) (x : AtomicExp) → contraction_of (Bind (avar_code n) (atomic_code x)) ≡ bind_a n x
bind_a_means n x = rw (code_tag n 3 (omega arith), code_number n 3 (omega arith), atomic_of_code x)

pub bind_e_means : (n to : ℕ) → contraction_of (Bind (evar_code n) to) ≡ bind_e n (leaf_of to)
bind_e_means n to = rw (code_tag n 2 (omega arith), code_number n 2 (omega arith))

pub equality_means : (x y : AtomicExp) → contraction_of (equality (atomic_code x) (atomic_code y)) ≡ equality_contraction x y
equality_means x y = rw (atomic_code_same x y) (pick (same_atomic x y))
  where
    unequal : (u v : AtomicExp) → contraction_of (cond (eqb (atomic_code u % 4) 3) (Bind (atomic_code u) (atomic_code v))
        (cond (eqb (atomic_code v % 4) 3) (Bind (atomic_code v) (atomic_code u)) Contradiction)) ≡ mk_bind u v
    unequal (sym y) (sym z) = rw (code_tag y 1 (omega arith), code_tag z 1 (omega arith))
    unequal (sym y) (avar n) = rw (code_tag y 1 (omega arith), code_tag n 3 (omega arith)) (bind_a_means n (sym y))
    unequal (avar m) v = rw (code_tag m 3 (omega arith)) (bind_a_means m v)

    pick : (t : Bool) → contraction_of (cond t Identity (cond (eqb (atomic_code x % 4) 3) (Bind (atomic_code x) (atomic_code y))
        (cond (eqb (atomic_code y % 4) 3) (Bind (atomic_code y) (atomic_code x)) Contradiction))) ≡ cond t identity (mk_bind x y)
    pick true = refl
    pick false = unequal x y
