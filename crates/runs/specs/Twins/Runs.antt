-- Runs of a heap, and what is written behind them, for cells of any content. Nothing here asks for a length.
use Rattle.std.specs.Prelude.{ℕ, zero, suc, ◌+◌, ◌-◌, ◌%◌, min, Bool, true, false, cond, not, List, [], ◌∷◌, eqb, ltb, leb, get_or, length, take, drop, Option, Some, None}
use Rattle.std.proofs.lemmas.List.Edits.{sets}
use Rattle.codes.specs.Twins.Outcomes.{unmoved}
use Rattle.codes.specs.declared.outcome.Replaced.{Replaced}
use Rattle.codes.specs.declared.outcome.Replaced.TheVariants.{Done as ReplacedDone, Over as ReplacedOver}
use Rattle.sets.specs.Twins.Copying.{any_cell}
use Rattle.sets.specs.Cells.{pair_code}
use Rattle.sets.specs.Twins.Fill.{FillAnswer, fill_answer, spread}
use Rattle.runs.specs.declared.run.Seen.{Seen}

-- n cells from a place on
unfoldable pub cells_at : ℕ → ℕ → List ℕ → List ℕ
cells_at zero i h = []
cells_at (suc n) i h = get_or h i 0 ∷ cells_at n (i + 1) h

-- the cells from one place up to another
abbrev pub run : ℕ → ℕ → List ℕ → List ℕ
run from to h = cells_at (to - from) from h

-- how often x stands in cells
unfoldable pub count_in : ℕ → List ℕ → ℕ
count_in x [] = 0
count_in x (c ∷ s) = cond (eqb c x) 1 0 + count_in x s

unfoldable pub any_variable : List ℕ → Bool
any_variable [] = false
any_variable (c ∷ s) = cond (ltb (c % 4) 2) (any_variable s) true

-- how often x stands in cells, and whether any variable does
abbrev pub seen_in : ℕ → List ℕ → Seen
seen_in x s = record { count = count_in x s; variables = any_variable s }

-- one place further
abbrev pub further : Option ℕ → Option ℕ
further (Some n) = Some (suc n)
further None = None

-- the first place of x in cells
unfoldable pub first_in : ℕ → List ℕ → Option ℕ
first_in x [] = None
first_in x (c ∷ s) = cond (eqb c x) (Some 0) (further (first_in x s))

-- whether the n cells from a place on are there and x stands in none
abbrev pub lacks_next : ℕ → ℕ → ℕ → List ℕ → Bool
lacks_next n i x s = cond (ltb (length s - i) n) false (not (any_cell x (take n (drop i s))))

-- as many cells as there are when each x becomes `size` cells
unfoldable pub spread_size : ℕ → ℕ → List ℕ → ℕ
spread_size x size [] = 0
spread_size x size (c ∷ s) = cond (eqb c x) size 1 + spread_size x size s

-- cells written at `used`, if they fit
unfoldable pub written : ℕ → ℕ → List ℕ → List ℕ → FillAnswer
written used n w h = cond (leb (used + n) 65535) (fill_answer (Some (used + n)) (sets h used w)) (fill_answer None h)

-- a run, as far as it lies below `used`
abbrev pub appended : ℕ → ℕ → ℕ → List ℕ → FillAnswer
appended from to used h = written used (min to used - from) (run from (min to used) h) h

-- each x of a run the cells of another
abbrev pub appended_filled : ℕ → ℕ → ℕ → ℕ → ℕ → ℕ → List ℕ → FillAnswer
appended_filled from to x vfrom vto used h =
    written used (spread_size x (min vto used - vfrom) (run from (min to used) h))
    (spread x (run vfrom (min vto used) h) (run from (min to used) h)) h

abbrev pub moved_by : Option ℕ → Replaced
moved_by (Some k) = ReplacedDone k
moved_by None = ReplacedOver

pub record ReplaceAnswer : Type 0 where
  pub answer : Replaced
  pub cells : List ℕ

abbrev pub replace_answer : Replaced → List ℕ → ReplaceAnswer
replace_answer r h = record { answer = r; cells = h }

abbrev pub moved_answer : FillAnswer → ReplaceAnswer
moved_answer w = replace_answer (moved_by w.answer) w.cells

-- a run in which x stands is filled; of another it is told whether a variable stands in it
unfoldable pub replaced : ℕ → ℕ → ℕ → ℕ → ℕ → ℕ → List ℕ → ReplaceAnswer
replaced from to x vfrom vto used h =
    let s = run from (min to used) h in
    cond (ltb 65535 used) (replace_answer ReplacedOver h)
    (cond (eqb (count_in x s) 0) (replace_answer (unmoved (any_variable s)) h) (moved_answer (appended_filled from to x vfrom vto used h)))

abbrev pub appended_pair : ℕ → ℕ → ℕ → List ℕ → FillAnswer
appended_pair head tail used h = written used 3 (pair_code ∷ (head ∷ (tail ∷ []))) h
