-- The leftmost disagreement of two runs of a heap, for cells of any content.
use Rattle.std.specs.Prelude.{ℕ, suc, ◌+◌, ◌%◌, min, cond, List, [], ◌∷◌, eqb, leb, get_or}
use Rattle.sets.specs.Twins.Copying.{tree_end, stands_in}
use Rattle.runs.specs.Twins.Runs.{run}
use Rattle.meetings.specs.declared.difference.Disagreement.{Disagreement}
use Rattle.meetings.specs.declared.difference.Disagreement.TheVariants.{Same, Apart, Bind}
use Rattle.meetings.specs.declared.difference.Difference.{Difference}

-- how many cells two lists have in common at the front
unfoldable pub common_front : List ℕ → List ℕ → ℕ
common_front [] b = 0
common_front (x ∷ a) [] = 0
common_front (x ∷ a) (y ∷ b) = cond (eqb x y) (suc (common_front a b)) 0

unfoldable pub first_difference : ℕ → ℕ → ℕ → ℕ → List ℕ → Difference
first_difference wfrom wto ufrom uto h =
    let n = common_front (run wfrom wto h) (run ufrom uto h) in record { wanted = wfrom + n; output = ufrom + n }

-- the end of the tree that begins at a place, before `to`
abbrev pub tree_to : ℕ → ℕ → List ℕ → ℕ
tree_to from to h = min (tree_end h from) to

unfoldable pub unless_standing : ℕ → ℕ → ℕ → List ℕ → Disagreement
unless_standing var from to h = cond (stands_in h from (tree_to from to h) var) Apart (Bind var from (tree_to from to h))

-- w and u are the cells at p and at k; "else .. else"
abbrev pub atomic_by : ℕ → ℕ → ℕ → ℕ → ℕ → ℕ → List ℕ → Disagreement
atomic_by w u p wto k uto h =
    cond (eqb (w % 4) 3) (cond (eqb (u % 2) 1) (unless_standing w k uto h) Apart)
    (cond (eqb (u % 4) 3) (cond (eqb (w % 4) 1) (unless_standing u p wto h) Apart) Apart)

abbrev pub atomic_judged : ℕ → ℕ → ℕ → ℕ → List ℕ → Disagreement
atomic_judged p wto k uto h = atomic_by (get_or h p 0) (get_or h k 0) p wto k uto h

abbrev pub judged_by : ℕ → ℕ → ℕ → ℕ → ℕ → ℕ → List ℕ → Disagreement
judged_by w u p wto k uto h = cond (eqb (w % 4) 2) (unless_standing w k uto h) (cond (eqb (u % 4) 2) (unless_standing u p wto h) (atomic_by w u p wto k uto h))

abbrev pub judged : ℕ → ℕ → ℕ → ℕ → List ℕ → Disagreement
judged p wto k uto h = judged_by (get_or h p 0) (get_or h k 0) p wto k uto h

-- nothing where one of them ends
abbrev pub differing_at : ℕ → ℕ → Difference → List ℕ → Disagreement
differing_at wto uto d h = cond (leb wto d.wanted) Same (cond (leb uto d.output) Same (judged d.wanted wto d.output uto h))

unfoldable pub leftmost_in : ℕ → ℕ → ℕ → ℕ → List ℕ → Disagreement
leftmost_in wfrom wto ufrom uto h =
    differing_at (min wto 65535) (min uto 65535) (first_difference wfrom (min wto 65535) ufrom (min uto 65535) h) h
