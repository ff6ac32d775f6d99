-- The entries of two lists of trees, one behind the other.
use Prim.Native.Nat.{ℕ, suc, ◌+◌}
use mathlib.Core.Path.{◌≡◌}
use mathlib.Core.List.{List, [], ◌∷◌, ◌++◌}
use native.Mathlib.Omega.{arith}
use lib.ListN.{length}
use Rattle.expressions.specs.Expression.{Exp, nodes_all}
use Rattle.heap.proofs.FrameLaws.{Held}
use Rattle.heap.proofs.FrameLaws as frame

pub held_first : {h f : List ℕ} {used : ℕ} (cs bs : List Exp) {i : ℕ} → Held h used f i (cs ++ bs) → Held h used f i cs
held_first [] bs x = frame.Held.none
held_first (a ∷ cs) bs (frame.Held.more x k r) = frame.Held.more x k (held_first cs bs r)

pub held_second : {h f : List ℕ} {used : ℕ} (cs bs : List Exp) {i : ℕ} → Held h used f i (cs ++ bs) → Held h used f (i + length cs) bs
held_second [] bs {i = i} x = let z : i + 0 ≡ i = omega arith in rw z x
held_second (a ∷ cs) bs {i = i} (frame.Held.more x k r) = let z : i + suc (length cs) ≡ i + 1 + length cs = omega arith in rw z (held_second cs bs r)

pub held_joined : {h f : List ℕ} {used i : ℕ} {cs bs : List Exp} → Held h used f i cs → Held h used f (i + length cs) bs → Held h used f i (cs ++ bs)
held_joined {i = i} frame.Held.none y = let z : i + 0 ≡ i = omega arith in rw z at y
held_joined {i = i} (frame.Held.more {ts = ts} x k r) y = let z : i + suc (length ts) ≡ i + 1 + length ts = omega arith in frame.Held.more x k (held_joined r (rw z at y))

pub nodes_joined : (cs bs : List Exp) → nodes_all (cs ++ bs) ≡ nodes_all cs + nodes_all bs
nodes_joined [] bs = omega arith
nodes_joined (a ∷ cs) bs = let z = nodes_joined cs bs in omega arith
