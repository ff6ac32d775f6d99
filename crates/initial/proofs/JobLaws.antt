-- A job whose parts stand in its tokens, laid out in the heap: its inputs, the wanted output and the sides of its non-equalities, one behind the
-- other. A run has the inputs alone.
use Prim.Native.Nat.{ℕ, ◌+◌, ◌-◌, ◌*◌, ◌/◌, ◌≤◌, min}
use mathlib.Core.Path.{◌≡◌, refl, ap, ◌∙◌, sym as inv}
use mathlib.Core.Bool.{Bool, true, false}
use mathlib.Core.List.{List, [], ◌∷◌, ◌++◌, append_assoc}
use native.Mathlib.Omega.{arith}
use lib.ListN.{length, take, drop, length-append, length-drop}
use lib.Seq.{sets, length-sets, take_at}
use borrow.Author.Tests.{le-leb}
use Rattle.std.specs.Prelude.{Some}
use Rattle.expressions.specs.Expression.{sym, Exp, atm}
use Rattle.expressions.specs.Restriction.{simplify}
use Rattle.expressions.specs.Class.{IOClass}
use Rattle.expressions.specs.Split.{first_fresh}
use Rattle.sets.specs.Twins.Copying.{copied}
use Rattle.sets.specs.Cells.{cells, cells_all, restriction_cells}
use Rattle.sets.specs.Twins.Fill.{fill_answer}
use Rattle.sets.proofs.CellLaws.{restriction_cells_nodes}
use Rattle.restrictions.proofs.RestrictionLaws.{Answers, simplify_cells_means}
use Rattle.syntax.specs.declared.job_ends.JobEnds.{JobEnds}
use Rattle.runs.specs.Twins.Runs.{cells_at, run}
use Rattle.runs.proofs.RunLaws.{written_done, sets_append, run_drop}
use Rattle.heap.proofs.HeapLaws.{Holds, sets_cells}
use Rattle.layout.specs.Twins.Fresh.{first_fresh_cells}
use Rattle.layout.specs.Twins.Laying.{parts_of, LaidLeft, laid_left, output_laid, sides_laid, ends_laid, job_laid, sides_taken}
use Rattle.initial.proofs.DataLaws.{datum_cells, Run, run_laid}
use Rattle.initial.proofs.FreshLaws.{fresh_means}
use Rattle.initial.proofs.TreeLaws.{run_parts}

-- The parts of a job in its tokens: what they give are the cells of the class P.
pub record JobHere (jmarks jnums : List ℕ) (e : JobEnds) (P : IOClass) : Type 0 where
  pub inputs : Run (datum_cells jmarks jnums) 4 e.ins (cells_all P.con.ins)
  pub output : Run (datum_cells jmarks jnums) e.from e.out (cells P.con.out)
  pub sides : Run (datum_cells jmarks jnums) e.sides e.neqs (restriction_cells P.neqs)

-- a run has no wanted output, for which the symbol 0 stands, and no non-equalities
abbrev pub run_class : List Exp → IOClass
run_class ds = record { con = record { ins = ds; out = atm (sym 0) }; neqs = [] }

abbrev pub input_cells : IOClass → List ℕ
input_cells P = cells_all P.con.ins

abbrev pub output_cells : IOClass → List ℕ
output_cells P = cells P.con.out

abbrev pub side_cells : IOClass → List ℕ
side_cells P = restriction_cells P.neqs

abbrev pub io_size : IOClass → ℕ
io_size P = length (input_cells P) + length (output_cells P)

abbrev pub job_heap : IOClass → List ℕ → List ℕ
job_heap P h = sets h 0 (input_cells P ++ (output_cells P ++ side_cells P))

-- the class P in the heap
abbrev pub laid_of : IOClass → List ℕ → LaidLeft
laid_of P h = laid_left (Some (parts_of (length (input_cells P)) (io_size P) (io_size P + length (side_cells P)))) (job_heap P h)

module _ (jmarks jnums : List ℕ) (e : JobEnds) where
  -- the inputs, then what stands behind them
  ends_laid_lem : (r : Bool) (P : IOClass) (h : List ℕ) → Run (datum_cells jmarks jnums) 4 e.ins (input_cells P) → io_size P + length (side_cells P) ≤ 65535 →
      (output_laid jmarks jnums e (length (input_cells P)) r (sets h 0 (input_cells P)) ≡ fill_answer (Some (io_size P)) (sets (sets h 0 (input_cells P)) (length (input_cells P)) (output_cells P))) →
      ((g : List ℕ) → sides_laid jmarks jnums e (io_size P) r g ≡ fill_answer (Some (io_size P + length (side_cells P))) (sets g (io_size P) (side_cells P))) →
      job_laid jmarks jnums e r h ≡ laid_of P h
  unfolding job_laid ends_laid
  ends_laid_lem r P h inputs room output sides =
      let A = input_cells P in
      let B = output_cells P in
      let C = side_cells P in
      let z : 0 + length A ≡ length A = omega arith in
      let y : 0 + length (A ++ B) ≡ io_size P = omega (arith, length-append A B) in
      let one : sets (sets h 0 A) (length A) B ≡ sets h 0 (A ++ B) = ap (λ (k : ℕ). sets (sets h 0 A) k B) (inv z) ∙ sets_append h 0 A B in
      let two : sets (sets h 0 (A ++ B)) (io_size P) C ≡ sets h 0 (A ++ (B ++ C)) = ap (λ (k : ℕ). sets (sets h 0 (A ++ B)) k C) (inv y) ∙ sets_append h 0 (A ++ B) C ∙ ap (sets h 0) (append_assoc A B C) in
      rw (run_laid jmarks jnums inputs 0 h (omega arith), z, output, sides (sets (sets h 0 A) (length A) B), one, two)

  module _ {P : IOClass} (job : JobHere jmarks jnums e P) (at : ℕ) (g : List ℕ) where
    output_laid_lem : at + length (output_cells P) ≤ 65535 → output_laid jmarks jnums e at false g ≡ fill_answer (Some (at + length (output_cells P))) (sets g at (output_cells P))
    unfolding output_laid
    output_laid_lem l = run_laid jmarks jnums job.output at g l

    sides_laid_lem : at + length (side_cells P) ≤ 65535 → sides_laid jmarks jnums e at false g ≡ fill_answer (Some (at + length (side_cells P))) (sets g at (side_cells P))
    unfolding sides_laid
    sides_laid_lem l = run_laid jmarks jnums job.sides at g l

  module _ (at : ℕ) (g : List ℕ) where
    zero_laid : at + 1 ≤ 65535 → output_laid jmarks jnums e at true g ≡ fill_answer (Some (at + 1)) (sets g at (1 ∷ []))
    unfolding output_laid
    zero_laid l = written_done at 1 (1 ∷ []) g l

    none_laid : sides_laid jmarks jnums e at true g ≡ fill_answer (Some (at + 0)) g
    unfolding sides_laid
    none_laid = let z : at + 0 ≡ at = omega arith in rw z

  module _ (P : IOClass) (h : List ℕ) where
    -- THE LAW of `lay_job`
    pub job_laid_lem : JobHere jmarks jnums e P → io_size P + length (side_cells P) ≤ 65535 → job_laid jmarks jnums e false h ≡ laid_of P h
    job_laid_lem job room =
        ends_laid_lem false P h job.inputs room (output_laid_lem job (length (input_cells P)) (sets h 0 (input_cells P)) (omega arith)) (λ g. sides_laid_lem job (io_size P) g room)

  pub run_job_laid : (ds : List Exp) (h : List ℕ) → Run (datum_cells jmarks jnums) 4 e.ins (cells_all ds) → length (cells_all ds) + 1 ≤ 65535 → job_laid jmarks jnums e true h ≡ laid_of (run_class ds) h
  run_job_laid ds h inputs room =
      ends_laid_lem true (run_class ds) h inputs (omega arith) (zero_laid (length (cells_all ds)) (sets h 0 (cells_all ds)) room) (λ g. none_laid (io_size (run_class ds)) g)

-- What stands in the heap then.
module _ (P : IOClass) (h : List ℕ) (whole : length h ≡ 65535) (room : io_size P + length (side_cells P) ≤ 65535) where
  abbrev A : List ℕ
  A = input_cells P

  abbrev B : List ℕ
  B = output_cells P

  abbrev C : List ℕ
  C = side_cells P

  abbrev g : List ℕ
  g = job_heap P h

  pub laid_whole : length g ≡ 65535
  laid_whole = length-sets h 0 (A ++ (B ++ C)) ∙ whole

  sizes : length (A ++ (B ++ C)) ≡ length A + (length B + length C)
  sizes = omega (arith, length-append A (B ++ C), length-append B C)

  all_cells : cells_at (length A + (length B + length C)) 0 g ≡ A ++ (B ++ C)
  all_cells = ap (λ (k : ℕ). cells_at k 0 g) (inv sizes) ∙ sets_cells (A ++ (B ++ C)) h 0 (omega (arith, sizes))

  parts : (cells_at (length A) 0 g ≡ A) × (cells_at (length B + length C) (0 + length A) g ≡ B ++ C)
  parts = run_parts (length A) (length B + length C) 0 g A (B ++ C) all_cells refl

  ends : (cells_at (length B) (0 + length A) g ≡ B) × (cells_at (length C) (0 + length A + length B) g ≡ C)
  ends = run_parts (length B) (length C) (0 + length A) g B C parts.1 refl

  pub laid_inputs : run 0 (length A) g ≡ cells_all P.con.ins
  laid_inputs = let z : length A - 0 ≡ length A = omega arith in rw z parts.0

  pub laid_output : Holds g (io_size P) (length A) (io_size P) P.con.out
  laid_output =
      let z : io_size P - length A ≡ length B = omega arith in
      let y : 0 + length A ≡ length A = omega arith in
      record { below = omega arith; is = ap (λ (k : ℕ). cells_at k (length A) g) z ∙ (rw y at ends.0) }

  pub laid_fresh : first_fresh_cells (io_size P + length C) g ≡ first_fresh P
  laid_fresh =
      let z : io_size P + length C - 0 ≡ length A + (length B + length C) = omega arith in
      fresh_means P (io_size P + length C) g room (ap (λ (k : ℕ). cells_at k 0 g) z ∙ all_cells)

  -- the sides in q
  module _ (q : List ℕ) (q_size : length q ≡ 4096) (few : length C ≤ 4096) where
    abbrev q1 : List ℕ
    q1 = C ++ drop (length C) q

    sides_there : drop (io_size P) g ≡ C ++ drop (io_size P + length C) g
    sides_there =
        let y : 0 + length A + length B ≡ io_size P = omega arith in
        run_drop (length C) (io_size P) g (omega (arith, laid_whole)) ∙ ap (λ (l : List ℕ). l ++ drop (io_size P + length C) g) (rw y at ends.1)

    sides_copied : copied g (io_size P) (length C) q 0 ≡ record { done = true; cells = q1 }
    sides_copied =
        let z : 0 + length C ≡ length C = omega arith in
        let t : take (length C) (drop (io_size P) g) ≡ C = ap (take (length C)) sides_there ∙ take_at C (drop (io_size P + length C) g) (length C) refl in
        rw (le-leb (io_size P + length C) (length g) (omega (arith, laid_whole)), z, le-leb (length C) (length q) (omega arith), t)

    lc : length C ≡ 2 * length P.neqs
    lc = restriction_cells_nodes P.neqs

    pub sides_mean : Answers (length P.neqs) q1 (simplify P.neqs) (sides_taken (io_size P) (io_size P + length C) g q)
    unfolding sides_taken
    sides_mean =
        let m : io_size P + length C - min (io_size P) (io_size P + length C) ≡ length C = omega arith in
        let half : length C / 2 ≡ length P.neqs = omega (arith, lc) in
        rw (m, sides_copied, half) (simplify_cells_means P.neqs q1 (take_at C (drop (length C) q) (2 * length P.neqs) lc))

    pub sides_size : length q1 ≡ 4096
    sides_size = omega (arith, length-append C (drop (length C) q), length-drop (length C) q)
