-- The text of a line in cells: its steps, how many cells its inputs and its output have, how many non-equalities there are, then the
-- cells of these.
use Rattle.std.specs.Prelude.{ℕ, zero, suc, ◌+◌, ◌%◌, min, Bool, cond, List, [], ◌∷◌, ◌++◌, eqb, ltb, length, get_or, drop}
use Rattle.language.specs.Bytes.{txt}
use Rattle.listing.specs.Print.{digits}
use Rattle.sets.specs.Twins.Copying.{part, tree_end, stands_in}
use Rattle.window.specs.Twins.TreeText.{leaf_text, tree_text}
use Rattle.writer.specs.Twins.LineCells.{class_end, line_end}
use Rattle.writer.specs.Twins.SampleText.{sample_if}

-- where the line goes on behind what stands at k beside the job's cell c
unfoldable pub past_at : ℕ → List ℕ → ℕ → ℕ
past_at c l k = cond (eqb c 4) (min (k + 1) (length l)) (tree_end l k)

module _ (name : ℕ → List ℕ) where
  -- ` VAR=EXPR`
  unfoldable pub binding_text : ℕ → List ℕ → ℕ → ℕ → List ℕ
  binding_text c l k end = 32 ∷ leaf_text name c ++ (61 ∷ tree_text name (part k end l))

  -- at the job's cell i: a variable, for the first time, and bound
  unfoldable pub binding_at : List ℕ → ℕ → List ℕ → ℕ → ℕ → List ℕ
  binding_at vars i l k end =
      let c = get_or vars i 0 in
      cond (ltb (c % 4) 2) [] (cond (stands_in vars 0 i c) [] (cond (eqb (get_or l k 0) c) [] (binding_text c l k end)))

  -- n cells of the job from i on, the line's from k on
  unfoldable pub bindings_from : List ℕ → List ℕ → ℕ → ℕ → ℕ → List ℕ
  bindings_from vars l zero i k = []
  bindings_from vars l (suc n) i k = let e = past_at (get_or vars i 0) l k in binding_at vars i l k e ++ bindings_from vars l n (i + 1) e

  unfoldable pub bindings_text : List ℕ → List ℕ → List ℕ
  bindings_text vars l = bindings_from vars l (length vars) 0 0

  -- ` # L R`
  unfoldable pub non_equality_text : ℕ → ℕ → List ℕ
  non_equality_text x y = txt " # " ++ leaf_text name x ++ (32 ∷ leaf_text name y)

  unfoldable pub restriction_text : List ℕ → List ℕ
  restriction_text [] = []
  restriction_text (x ∷ []) = []
  restriction_text (x ∷ y ∷ q) = non_equality_text x y ++ restriction_text q

module _ (name : ℕ → List ℕ) (vars : List ℕ) where
  -- the line number i, at the front of l
  unfoldable pub line_text : ℕ → List ℕ → List ℕ
  line_text i l =
      (digits i ++ (32 ∷ digits (get_or l 0 0))) ++ bindings_text name vars (part 4 (class_end l) l) ++ restriction_text name (part (class_end l) (line_end l) l) ++ (10 ∷ [])

  -- n lines behind the line number i, but no more than stand in l; where samples are called for, each with its own under it
  unfoldable pub lines_text : Bool → ℕ → ℕ → List ℕ → List ℕ
  lines_text samples zero i l = []
  lines_text samples (suc n) i [] = []
  lines_text samples (suc n) i (x ∷ l) = (line_text (i + 1) (x ∷ l) ++ sample_if name samples (x ∷ l)) ++ lines_text samples n (i + 1) (drop (line_end (x ∷ l)) (x ∷ l))
