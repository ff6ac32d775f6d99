-- One turn of the search for the first difference.
use Prim.Native.Nat.{ℕ, suc, ◌+◌, ◌-◌, ◌≤◌, ◌<◌, min}
use mathlib.Core.Path.{◌≡◌, refl, ap₂}
use mathlib.Core.Bool.{Bool, true, false}
use mathlib.Core.List.{List, [], ◌∷◌}
use lib.Dec.{leb}
use native.Mathlib.Omega.{arith}
use lib.ListN.{get_or}
use borrow.Author.Tests.{eq-eqb, ne_eqb, leb-true, leb-false}
use Rattle.runs.specs.Twins.Runs.{run}
use Rattle.runs.proofs.RunLaws.{run_cons, run_end}
use Rattle.meetings.specs.Twins.Differing.{common_front, first_difference}
use Rattle.meetings.specs.declared.difference.Difference.{Difference}

common_none : (a : List ℕ) → common_front a [] ≡ 0
unfolding common_front
common_none [] = refl
common_none (x ∷ a) = refl

abbrev difference : ℕ → ℕ → Difference
difference p k = record { wanted = p; output = k }

module _ (p wto k uto : ℕ) (h : List ℕ) where
  -- no cell in common
  here : common_front (run p wto h) (run k uto h) ≡ 0 → difference p k ≡ first_difference p wto k uto h
  unfolding first_difference
  here e = ap₂ difference (omega arith) (omega arith)

  common_next : p < wto → k < uto → get_or h p 0 ≡ get_or h k 0 → common_front (run p wto h) (run k uto h) ≡ suc (common_front (run (p + 1) wto h) (run (k + 1) uto h))
  unfolding common_front
  common_next l m e = rw (run_cons p wto h l, run_cons k uto h m, eq-eqb (get_or h p 0) (get_or h k 0) e)

  common_apart : p < wto → k < uto → (get_or h p 0 ≡ get_or h k 0 → ⊥) → common_front (run p wto h) (run k uto h) ≡ 0
  unfolding common_front
  common_apart l m e = rw (run_cons p wto h l, run_cons k uto h m, ne_eqb (get_or h p 0) (get_or h k 0) e)

  common_end : wto ≤ p → common_front (run p wto h) (run k uto h) ≡ 0
  unfolding common_front
  common_end l = rw (run_end p wto h l)

  common_short : uto ≤ k → common_front (run p wto h) (run k uto h) ≡ 0
  common_short l = rw (run_end k uto h l) (common_none (run p wto h))

  common_over : min (wto - p) (uto - k) ≤ 0 → common_front (run p wto h) (run k uto h) ≡ 0
  common_over l = pick (leb wto p) refl
    where
      pick : (b : Bool) → leb wto p ≡ b → common_front (run p wto h) (run k uto h) ≡ 0
      pick true e = common_end (leb-true wto p e)
      pick false e = let m = leb-false wto p e in common_short (omega arith)

  pub difference_next : p < wto → k < uto → get_or h p 0 ≡ get_or h k 0 → first_difference p wto k uto h ≡ first_difference (p + 1) wto (k + 1) uto h
  unfolding first_difference
  difference_next l m e = let c = common_next l m e in ap₂ difference (omega arith) (omega arith)

  pub difference_apart : p < wto → k < uto → (get_or h p 0 ≡ get_or h k 0 → ⊥) → difference p k ≡ first_difference p wto k uto h
  difference_apart l m e = here (common_apart l m e)

  -- where one of them ends
  pub difference_over : min (wto - p) (uto - k) ≤ 0 → difference p k ≡ first_difference p wto k uto h
  difference_over l = here (common_over l)
