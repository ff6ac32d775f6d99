-- A job's cells in the heap, and its non-equalities: what each function of job.rt answers and leaves.
use Rattle.std.specs.Prelude.{ℕ, ◌-◌, ◌/◌, min, Bool, true, false, cond, List, [], ◌∷◌, Option, Some, None, Err}
use Rattle.restrictions.specs.declared.failure.Failure.TheVariants.{Over}
use Rattle.sets.specs.Twins.Copying.{CopyAnswer, copied}
use Rattle.sets.specs.Twins.Fill.{FillAnswer, fill_answer}
use Rattle.restrictions.specs.Twins.Restricting.{RestrictAnswer, restrict_answer, simplify_cells}
use Rattle.syntax.specs.declared.job_ends.JobEnds.{JobEnds}
use Rattle.runs.specs.Twins.Runs.{written}
use Rattle.layout.specs.Twins.Data.{data_written}
use Rattle.layout.specs.declared.job.Parts.{Parts}

abbrev pub parts_of : ℕ → ℕ → ℕ → Parts
parts_of ins io all = record { ins = ins; io = io; all = all }

pub record LaidLeft : Type 0 where
  pub answer : Option Parts
  pub heap : List ℕ

abbrev pub laid_left : Option Parts → List ℕ → LaidLeft
laid_left a h = record { answer = a; heap = h }

abbrev pub laid_as : ℕ → ℕ → Option ℕ → Option Parts
laid_as ins io (Some k) = Some (parts_of ins io k)
laid_as ins io None = None

-- on from an answer
abbrev pub onward_laid : (ℕ → List ℕ → LaidLeft) → Option ℕ → List ℕ → LaidLeft
onward_laid again (Some k) h = again k h
onward_laid again None h = laid_left None h

module _ (marks nums : List ℕ) (e : JobEnds) where
  -- in a run the symbol 0
  unfoldable pub output_laid : ℕ → Bool → List ℕ → FillAnswer
  output_laid at run h = cond run (written at 1 (1 ∷ []) h) (data_written marks nums (e.out - e.from) e.from at h)

  -- in a run none
  unfoldable pub sides_laid : ℕ → Bool → List ℕ → FillAnswer
  sides_laid at run h = cond run (fill_answer (Some at) h) (data_written marks nums (e.neqs - e.sides) e.sides at h)

  abbrev pub after_output : ℕ → Bool → ℕ → List ℕ → LaidLeft
  after_output ins run io h = let w = sides_laid io run h in laid_left (laid_as ins io w.answer) w.cells

  unfoldable pub ends_laid : ℕ → Bool → List ℕ → LaidLeft
  ends_laid ins run h = let w = output_laid ins run h in onward_laid (λ io g. after_output ins run io g) w.answer w.cells

  unfoldable pub job_laid : Bool → List ℕ → LaidLeft
  job_laid run h = let w = data_written marks nums (e.ins - 4) 4 0 h in onward_laid (λ ins g. ends_laid ins run g) w.answer w.cells

abbrev pub simplified_sides : ℕ → Bool → List ℕ → RestrictAnswer
simplified_sides n true q = simplify_cells (n / 2) q
simplified_sides n false q = restrict_answer (Err Over) q

abbrev pub copied_sides : ℕ → CopyAnswer → RestrictAnswer
copied_sides n w = simplified_sides n w.done w.cells

-- the sides of the heap from one place up to another, simplified
unfoldable pub sides_taken : ℕ → ℕ → List ℕ → List ℕ → RestrictAnswer
sides_taken from to h q = copied_sides (to - min from to) (copied h from (to - min from to) q 0)
