-- The nodes of entries: the loop that counts them, and what they are where the entries hold trees.
use Prim.Native.Nat.{ℕ, suc, ◌+◌, ◌-◌, ◌*◌, ◌≤◌, ◌<◌}
use mathlib.Core.Path.{◌≡◌, refl, ap, ap₂, ◌∙◌, sym as inv}
use mathlib.Core.List.{List, ◌∷◌}
use native.Mathlib.Omega.{arith}
use native.Mathlib.Decide.{dec_le}
use lib.ListN.{length, get_or-eq_default}
use Rattle.expressions.specs.Expression.{Exp, nodes, nodes_all}
use Rattle.sets.proofs.CellLaws.{cells_nodes}
use Rattle.heap.specs.Twins.Entries.{entry_from, entry_to, nodes_from}
use Rattle.runs.proofs.RunLaws.{length_cells_at}
use Rattle.heap.proofs.HeapLaws.{Holds, nodes_positive}
use Rattle.heap.proofs.FrameLaws.{Held}
use Rattle.heap.proofs.FrameLaws as frame

-- THE INVARIANT of `nodes`
pub record Counting (f : List ℕ) (end sum i : ℕ) : Type 0 where
  pub is : sum + nodes_from (end - i) i f ≡ nodes_from end 0 f
  pub most : sum ≤ 65535 * i
  pub upto : i ≤ end

pub counting_start : (f : List ℕ) (end : ℕ) → Counting f end 0 0
counting_start f end = let z : end - 0 ≡ end = omega arith in record { is = rw z (omega arith); most = omega arith; upto = omega arith }

pub counting_next : {f : List ℕ} {end sum i : ℕ} → Counting f end sum i → i < end → (n : ℕ) → n ≡ entry_to f i - entry_from f i → n ≤ 65535 → Counting f end (sum + n) (i + 1)
unfolding nodes_from
counting_next {f} {end} {sum} {i} c l n e m =
    let a : end - i ≡ suc (end - (i + 1)) = omega arith in
    let b : nodes_from (end - i) i f ≡ (entry_to f i - entry_from f i) + nodes_from (end - (i + 1)) (i + 1) f = rw a in
    let x = c.is in
    let y = c.most in
    record { is = omega arith; most = omega arith; upto = omega arith }

pub counting_end : {f : List ℕ} {end sum i : ℕ} → Counting f end sum i → end ≤ i → sum ≡ nodes_from end 0 f
unfolding nodes_from
counting_end {f} {end} {sum} {i} c l =
    let a : end - i ≡ 0 = omega arith in
    let b : nodes_from (end - i) i f ≡ 0 = rw a in
    let x = c.is in
    omega arith

pub holds_nodes : {h : List ℕ} {used from to : ℕ} {t : Exp} → Holds h used from to t → to - from ≡ nodes t
holds_nodes {h} {used} {from} {to} {t} x = inv (length_cells_at (to - from) from h) ∙ ap length x.is ∙ cells_nodes t

pub held_nodes : {h : List ℕ} {used : ℕ} {f : List ℕ} {i : ℕ} {ts : List Exp} → Held h used f i ts → nodes_from (length ts) i f ≡ nodes_all ts
unfolding nodes_from
held_nodes frame.Held.none = refl
held_nodes (frame.Held.more x k r) = ap₂ ◌+◌ (holds_nodes x) (held_nodes r)

-- entries that are held stand in the frame
pub held_few : {h : List ℕ} {used : ℕ} {f : List ℕ} {i : ℕ} {ts : List Exp} → Held h used f i ts → length f ≡ 12360 → i ≤ 4120 → i + length ts ≤ 4120
held_few frame.Held.none l m = omega arith
held_few {f = f} {i = i} (frame.Held.more {t = t} {ts = ts} x k r) l m = past (dec_le 4120 i) (λ n. held_few r l n)
  where
    past : Dec (4120 ≤ i) → (i + 1 ≤ 4120 → i + 1 + length ts ≤ 4120) → i + length (t ∷ ts) ≤ 4120
    past (yes n) again = let z : entry_to f i ≡ 0 = get_or-eq_default f 0 {n = 3 * i + 2} (omega arith) in absurd (omega (arith, z, holds_nodes x, nodes_positive t))
    past (no n) again = omega (arith, again (omega arith))
