-- The counter at the start is that of the definition.
use Prim.Native.Nat.{ℕ, ◌/◌, ◌%◌, ◌≤◌, ◌<◌, min, max}
use mathlib.Core.Path.{◌≡◌, refl}
use mathlib.Core.List.{List, [], ◌∷◌, ◌++◌}
use native.Mathlib.Omega.{arith}
use borrow.Author.Tests.{lt-ltb, le-ltb}
use Rattle.expressions.specs.Expression.{AtomicExp, sym, avar, Exp, atm, evar, pair}
use Rattle.expressions.specs.Restriction.{Restriction}
use Rattle.expressions.specs.Class.{IOClass}
use Rattle.expressions.specs.Split.{largest_atomic, largest, largest_all, largest_restriction, first_fresh}
use Rattle.sets.specs.Cells.{evar_code, avar_code, symbol_code, atomic_code, cells, cells_all, restriction_cells}
use Rattle.runs.specs.Twins.Runs.{run}
use Rattle.layout.specs.Twins.Fresh.{number_cell, largest_run, first_fresh_cells}

number_low : (x : ℕ) → x % 4 < 2 → number_cell x ≡ 0
number_low x h = rw (lt-ltb (x % 4) 2 h)

number_high : (x n : ℕ) → 2 ≤ x % 4 → x / 4 ≡ n → number_cell x ≡ n
number_high x n h e = rw (le-ltb (x % 4) 2 h) e

atomic_number : (x : AtomicExp) → number_cell (atomic_code x) ≡ largest_atomic x
atomic_number (sym z) = number_low (symbol_code z) (omega arith)
atomic_number (avar n) = number_high (avar_code n) n (omega arith) (omega arith)

largest_append : (l m : List ℕ) → largest_run (l ++ m) ≡ max (largest_run l) (largest_run m)
unfolding largest_run
largest_append [] m = omega arith
largest_append (x ∷ l) m = let h = largest_append l m in omega arith

cells_largest : (c : Exp) → largest_run (cells c) ≡ largest c
unfolding largest_run
cells_largest (atm x) = omega (arith, atomic_number x)
cells_largest (evar n) = omega (arith, number_high (evar_code n) n (omega arith) (omega arith))
cells_largest (pair c d) = omega (arith, number_low 4 (omega arith), largest_append (cells c) (cells d), cells_largest c, cells_largest d)

all_largest : (cs : List Exp) → largest_run (cells_all cs) ≡ largest_all cs
unfolding largest_run
all_largest [] = refl
all_largest (c ∷ cs) = omega (arith, largest_append (cells c) (cells_all cs), cells_largest c, all_largest cs)

restriction_largest : (qs : Restriction) → largest_run (restriction_cells qs) ≡ largest_restriction qs
unfolding largest_run
restriction_largest [] = refl
restriction_largest (q ∷ qs) = omega (arith, atomic_number q.left, atomic_number q.right, restriction_largest qs)

pub fresh_means : (P : IOClass) (n : ℕ) (h : List ℕ) → n ≤ 65535 → run 0 n h ≡ cells_all P.con.ins ++ (cells P.con.out ++ restriction_cells P.neqs) → first_fresh_cells n h ≡ first_fresh P
unfolding first_fresh_cells
fresh_means P n h l e =
    let a = all_largest P.con.ins in
    let b = cells_largest P.con.out in
    let c = restriction_largest P.neqs in
    let s = largest_append (cells_all P.con.ins) (cells P.con.out ++ restriction_cells P.neqs) in
    let t = largest_append (cells P.con.out) (restriction_cells P.neqs) in
    let m : min n 65535 ≡ n = omega arith in
    rw (m, e) (omega arith)
