-- Where the body of a definition stands in a linked program.
use Prim.Native.Nat.{ℕ, zero, suc, ◌+◌, ◌<◌}
use mathlib.Core.Path.{◌≡◌}
use mathlib.Core.List.{List, [], ◌∷◌}
use native.Mathlib.Omega.{arith}
use lib.ListN.{length, get_or}
use Rattle.expressions.specs.Expression.{sym, atm}
use Rattle.language.specs.Program.{result, Def, Prog, find}
use Rattle.linking.specs.Twins.Linked.{TermLinked, BodiesLinked, more_bodies, ProgramLinked}

pub body_linked : {p : Prog} {bodies : ℕ → ℕ} {code : List ℕ} (k : ℕ) (qs : Prog) (f : ℕ) (d : Def) → BodiesLinked p bodies code k qs → f < length qs →
    (past : ℕ) × TermLinked p bodies code (get_or qs f d).params (bodies (k + f)) (get_or qs f d).body past
body_linked k [] f d x l = absurd (omega arith)
body_linked k (q ∷ qs) zero d (more_bodies {k = m} x r) l = let z : k + 0 ≡ k = omega arith in (m, rw z x)
body_linked k (q ∷ qs) (suc f) d (more_bodies x r) l = let z : k + suc f ≡ k + 1 + f = omega arith in rw z (body_linked (k + 1) qs f d r (omega arith))

-- the body of a definition with its parameters in reach
pub found_linked : {p : Prog} {bodies : ℕ → ℕ} {code : List ℕ} (f : ℕ) → ProgramLinked p bodies code → f < length p → (past : ℕ) × TermLinked p bodies code (find p f).params (bodies f) (find p f).body past
found_linked {p} f x l =
    let y = body_linked 0 p f (record { params = []; body = result (atm (sym 0)) }) x l in
    let z : 0 + f ≡ f = omega arith in
    (y.0, rw z at y.1)
