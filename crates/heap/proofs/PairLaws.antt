-- The parts of a pair that a range holds are ranges.
use Prim.Native.Nat.{ℕ, suc, ◌+◌, ◌-◌, ◌≤◌}
use mathlib.Core.Path.{◌≡◌, ap, ◌∙◌, sym as inv}
use mathlib.Core.List.{List, ◌∷◌, ◌++◌, append_assoc}
use native.Mathlib.Omega.{arith}
use lib.ListN.{length, take, drop}
use lib.Seq.{take_at, drop_at}
use Rattle.expressions.specs.Expression.{Exp, pair, nodes}
use Rattle.sets.specs.Twins.Copying.{tree_end}
use Rattle.sets.specs.Cells.{cells}
use Rattle.sets.proofs.CellLaws.{stands_end, cells_nodes}
use Rattle.runs.specs.Twins.Runs.{cells_at, run}
use Rattle.runs.proofs.RunLaws.{run_cons, length_cells_at, run_drop, cells_split}
use Rattle.heap.proofs.HeapLaws.{Holds}

tails : {a b : ℕ} {r s : List ℕ} → a ∷ r ≡ b ∷ s → r ≡ s
tails e = cc

module _ {h : List ℕ} {used from to : ℕ} {c d : Exp} (held : Holds h used from to (pair c d)) where
  size_of : to - from ≡ suc (nodes c + nodes d)
  size_of = inv (length_cells_at (to - from) from h) ∙ ap length held.is ∙ cells_nodes (pair c d)

  both : run (from + 1) to h ≡ cells c ++ cells d
  both = tails (inv (run_cons from to h (omega (arith, size_of))) ∙ held.is)

  split : cells_at (nodes c) (from + 1) h ++ cells_at (nodes d) (from + 1 + nodes c) h ≡ cells c ++ cells d
  split =
      let n : to - (from + 1) ≡ nodes c + nodes d = omega (arith, size_of) in
      inv (cells_split (nodes c) (nodes d) (from + 1) h) ∙ ap (λ (k : ℕ). cells_at k (from + 1) h) (inv n) ∙ both

  pub head_holds : Holds h used (from + 1) (from + 1 + nodes c) c
  head_holds =
      let n : from + 1 + nodes c - (from + 1) ≡ nodes c = omega arith in
      let l = length_cells_at (nodes c) (from + 1) h in
      record {
        below = omega (arith, size_of, held.below);
        is =
            ap (λ (k : ℕ). cells_at k (from + 1) h) n ∙ inv (take_at (cells_at (nodes c) (from + 1) h) (cells_at (nodes d) (from + 1 + nodes c) h) (nodes c) l)
            ∙ ap (take (nodes c)) split ∙ take_at (cells c) (cells d) (nodes c) (cells_nodes c);
      }

  pub tail_holds : Holds h used (from + 1 + nodes c) to d
  tail_holds =
      let n : to - (from + 1 + nodes c) ≡ nodes d = omega (arith, size_of) in
      let l = length_cells_at (nodes c) (from + 1) h in
      record {
        below = held.below;
        is =
            ap (λ (k : ℕ). cells_at k (from + 1 + nodes c) h) n ∙ inv (drop_at (cells_at (nodes c) (from + 1) h) (cells_at (nodes d) (from + 1 + nodes c) h) (nodes c) l)
            ∙ ap (drop (nodes c)) split ∙ drop_at (cells c) (cells d) (nodes c) (cells_nodes c);
      }

  pub head_end : used ≤ length h → tree_end h (from + 1) ≡ from + 1 + nodes c
  head_end l =
      let e : from + 1 + (to - (from + 1)) ≡ to = omega (arith, size_of) in
      let w : drop (from + 1) h ≡ run (from + 1) to h ++ drop to h =
      run_drop (to - (from + 1)) (from + 1) h (omega (arith, held.below, e)) ∙ ap (λ (k : ℕ). run (from + 1) to h ++ drop k h) e in
      stands_end {c = c} {rest = cells d ++ drop to h} (record { here = w ∙ ap (λ (k : List ℕ). k ++ drop to h) both ∙ append_assoc (cells c) (cells d) (drop to h) })
