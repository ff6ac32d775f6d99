-- The sample that `sample_line` leaves is that of the line with its number, in the listing of the two texts.
use Prim.Native.Nat.{ℕ, zero, suc, ◌-◌, ◌≤◌, ◌<◌}
use mathlib.Core.Path.{◌≡◌, refl, ap, subst, ◌∙◌, sym as inv}
use mathlib.Core.Bool.{true, false}
use mathlib.Core.List.{List, [], ◌∷◌, ◌++◌, append_assoc}
use native.Mathlib.Omega.{arith}
use lib.ListN.{length, drop, get_or, replicate, length-replicate}
use lib.Seq.{drop_at}
use borrow.Author.Tests.{le-ltb, ne_eqb, le-leb}
use Rattle.expressions.specs.Expression.{nodes, nodes_all}
use Rattle.expressions.specs.Class.{IOPair, nodes_io}
use Rattle.language.specs.Source.{SProg, SJob, prog, class}
use Rattle.language.specs.JobCheck.{lister}
use Rattle.language.specs.Reading.{accepted, reading, symbol_names}
use Rattle.semantics.specs.Lists.{All}
use Rattle.semantics.specs.Tree.{Line}
use Rattle.semantics.specs.Walk.{lines_of}
use Rattle.semantics.specs.Answer.{Answer, Listed, walked, limits}
use Rattle.semantics.proofs.AcceptedTexts.{list_answer}
use Rattle.listing.specs.SampleDemand.{SampleCorrect, SampleTextRuns}
use Rattle.listing.proofs.Samples.{sampled_correct}
use Rattle.listing.proofs.SampleTexts.{sample_text_runs}
use Rattle.listing.proofs.SampleNames.{sampled_named}
use Rattle.listing.proofs.LineSizes.{Small, lines_small}
use Rattle.sets.specs.Cells.{cells, cells_all, restriction_cells}
use Rattle.sets.specs.Twins.Copying.{copied}
use Rattle.lent.specs.Storage.{zeros}
use Rattle.reading.proofs.BothRead.{drop_zeros}
use Rattle.heap.proofs.HeapLaws.{nodes_positive}
use Rattle.meetings.proofs.LineLaws.{class_length}
use Rattle.lines.specs.LineCells.{line_cells, lines_cells}
use Rattle.resolve.specs.ListAnswer.{too_short, cells_after, lines_then, list_left}
use Rattle.writer.specs.Twins.LineCells.{line_end}
use Rattle.writer.specs.Twins.SampleText.{filled_line}
use Rattle.writer.proofs.FilledLaws.{copied_front, sample_of as sampleCellsOf, sample_length, filled_means}
use Rattle.std.specs.Prelude.{Result, Err}
use Rattle.sampling.specs.declared.line.Sampled.{Sampled}
use Rattle.sampling.specs.declared.line.Unsampled.{Unsampled}
use Rattle.sampling.specs.declared.line.Unsampled.TheVariants.{Absent}
use Rattle.sampling.specs.SampleDemand.{StoredSample, OfEachLine}
use Rattle.sampling.specs.Twins.Lines.{behind_lines, is_line, done, sample_cells, SampleLeft, sample_of, sample_left}

-- the line with so many before it
behind_stored : (before : List Line) (L : Line) (behind : List Line) (z : List ℕ) → behind_lines (length before) (lines_cells (before ++ (L ∷ behind)) ++ z) ≡ line_cells L ++ (lines_cells behind ++ z)
unfolding behind_lines
behind_stored [] L behind z = append_assoc (line_cells L) (lines_cells behind) z
behind_stored (l ∷ before) L behind z =
    let R = lines_cells (before ++ (L ∷ behind)) ++ z in
    let a : (line_cells l ++ lines_cells (before ++ (L ∷ behind))) ++ z ≡ line_cells l ++ R = append_assoc (line_cells l) (lines_cells (before ++ (L ∷ behind))) z in
    let d : drop (line_end (line_cells l ++ R)) (line_cells l ++ R) ≡ R = drop_at (line_cells l) R (line_end (line_cells l ++ R)) (omega (arith, class_length l.class)) in
    ap (λ (x : List ℕ). behind_lines (length before) (drop (line_end x) x)) a ∙ ap (behind_lines (length before)) d ∙ behind_stored before L behind z

-- behind the last line there are zeros
zero_at : (n i : ℕ) → ◌≡◌ {A = ℕ} (get_or (replicate n 0) i 0) 0
zero_at zero i = refl
zero_at (suc n) zero = refl
zero_at (suc n) (suc i) = zero_at n i

behind_zeros : (k n : ℕ) → (m : ℕ) × (behind_lines k (replicate n 0) ≡ replicate m 0)
unfolding behind_lines
behind_zeros zero n = (n, refl)
behind_zeros (suc k) n =
    let e = drop_zeros (line_end (replicate n 0)) n in
    let w = behind_zeros k (n - line_end (replicate n 0)) in
    (w.0, ap (behind_lines k) e ∙ w.1)

behind_all : (ls : List Line) (k n : ℕ) → length ls ≤ k → (m : ℕ) × (behind_lines k (lines_cells ls ++ replicate n 0) ≡ replicate m 0)
unfolding behind_lines
behind_all [] k n h = behind_zeros k n
behind_all (l ∷ ls) zero n h = absurd (omega arith)
behind_all (l ∷ ls) (suc k) n h =
    let R = lines_cells ls ++ replicate n 0 in
    let a : (line_cells l ++ lines_cells ls) ++ replicate n 0 ≡ line_cells l ++ R = append_assoc (line_cells l) (lines_cells ls) (replicate n 0) in
    let d : drop (line_end (line_cells l ++ R)) (line_cells l ++ R) ≡ R = drop_at (line_cells l) R (line_end (line_cells l ++ R)) (omega (arith, class_length l.class)) in
    let w = behind_all ls k n (omega arith) in
    (w.0, ap (λ (x : List ℕ). behind_lines k (drop (line_end x) x)) a ∙ ap (behind_lines k) d ∙ w.1)

all_mid : (Q : Line → Type 0) (before : List Line) (L : Line) (behind : List Line) → All Q (before ++ (L ∷ behind)) → Q L
all_mid Q [] L behind a = a.0
all_mid Q (l ∷ before) L behind a = all_mid Q before L behind a.1

-- of the cells of a line
module _ (L : Line) (R d : List ℕ) (small : Small L) (room : 4096 ≤ length d) where
  abbrev c : IOPair
  c = L.class.con

  few : nodes_io c ≤ 4096
  few = omega arith

  line_is : is_line (nodes_all c.ins) (nodes c.out) ≡ true
  line_is =
      rw (ne_eqb (nodes c.out) 0 (λ e. omega (arith, nodes_positive c.out)), le-ltb 4096 (nodes_all c.ins) (omega (arith, few)))
      (le-leb (nodes c.out) (4096 - nodes_all c.ins) (omega (arith, few)))

  abbrev Rest : List ℕ
  Rest = restriction_cells L.class.neqs ++ R

  front : line_cells L ++ R ≡ L.steps ∷ (nodes_all c.ins ∷ (nodes c.out ∷ (length L.class.neqs ∷ (cells_all c.ins ++ (cells c.out ++ Rest)))))
  front =
      ap (λ (x : List ℕ). L.steps ∷ (nodes_all c.ins ∷ (nodes c.out ∷ (length L.class.neqs ∷ x))))
      (append_assoc (cells_all c.ins) (cells c.out ++ restriction_cells L.class.neqs) R ∙ ap (λ (x : List ℕ). cells_all c.ins ++ x) (append_assoc (cells c.out) (restriction_cells L.class.neqs) R))

  stored_cells : sample_cells (line_cells L ++ R) d ≡ sampleCellsOf c ++ replicate (length d - nodes_io c) 0
  unfolding sample_cells
  stored_cells =
      let n = nodes_io c in
      let Z : List ℕ = drop n (replicate 4096 0) in
      let w = filled_means L.steps (length L.class.neqs) c Rest few in
      let l = L.steps ∷ (nodes_all c.ins ∷ (nodes c.out ∷ (length L.class.neqs ∷ (cells_all c.ins ++ (cells c.out ++ Rest))))) in
      ap (λ (x : List ℕ). (copied (filled_line x (replicate 4096 0)).cells 0 (filled_line x (replicate 4096 0)).size (zeros d) 0).cells) front
      ∙ ap (λ (x : List ℕ). (copied x 0 (filled_line l (replicate 4096 0)).size (zeros d) 0).cells) w.1
      ∙ ap (λ (m : ℕ). (copied (sampleCellsOf c ++ Z) 0 m (zeros d) 0).cells) w.0
      ∙ copied_front (sampleCellsOf c) Z (zeros d) n (sample_length c) (omega (arith, few, length-replicate {A = ℕ} (length d) 0))
      ∙ ap (λ (x : List ℕ). sampleCellsOf c ++ x) (drop_zeros n (length d))

  of_line : ((sample_of (line_cells L ++ R) d).answer ≡ done (nodes_all c.ins) (nodes c.out)) × ((sample_of (line_cells L ++ R) d).cells ≡ sampleCellsOf c ++ replicate (length d - nodes_io c) 0)
  of_line = rw line_is (refl, stored_cells)

-- behind the last line there is none
of_zeros : (m : ℕ) (d : List ℕ) → ((sample_of (replicate m 0) d).answer ≡ Err Absent) × ((sample_of (replicate m 0) d).cells ≡ d)
of_zeros m d = rw (zero_at m 2) (refl, refl)

module _ (answer : List ℕ) (number : ℕ) (d : List ℕ) (room : 4096 ≤ length d) where
  numbered : (k : ℕ) → number ≡ suc k → sample_left number answer d ≡ sample_of (behind_lines k answer) d
  unfolding sample_left
  numbered k e =
      let m : number - 1 ≡ k = omega arith in
      rw (le-ltb (length d) 4096 room, ne_eqb number 0 (λ z. omega (arith, e, z)), m)

module _ (program job work a : List ℕ) (s : SProg) (t : SJob) (e : reading lister program job ≡ accepted s t) (long : too_short work a ≡ false) where
  left_cells : (list_left program job work a).cells ≡ lines_then (lines_of (walked s t)) a
  unfolding list_left
  left_cells = rw long (ap (λ (x : Answer Listed). cells_after x a) (list_answer program job s t e))

  module _ (number : ℕ) (d : List ℕ) (room : 4096 ≤ length d) where
    abbrev found : List Line
    found = lines_of (walked s t)

    abbrev spare : List ℕ
    spare = replicate (length a - length (lines_cells found)) 0

    abbrev w : SampleLeft
    w = sample_left number (list_left program job work a).cells d

    here : (before behind : List Line) (L : Line) → found ≡ before ++ (L ∷ behind) → number ≡ suc (length before) → StoredSample program job s t L w.answer d w.cells
    here before behind L f n =
        let place : behind_lines (length before) (lines_then found a) ≡ line_cells L ++ (lines_cells behind ++ spare) =
        ap (λ (ls : List Line). behind_lines (length before) (lines_cells ls ++ spare)) f ∙ behind_stored before L behind spare in
        let is : w ≡ sample_of (line_cells L ++ (lines_cells behind ++ spare)) d =
        numbered (list_left program job work a).cells number d room (length before) n ∙ ap (λ (x : List ℕ). sample_of (behind_lines (length before) x) d) left_cells ∙ ap (λ (x : List ℕ). sample_of x d) place in
        let of : (Q : Line → Type 0) → All Q found → Q L = λ Q h. all_mid Q before L behind (subst (All Q) f h) in
        let small = of Small (lines_small (prog s) (class t) t.steps.num (limits t)) in
        let o = of_line L (lines_cells behind ++ spare) d small room in
        record {
          answer = ap (λ (x : SampleLeft). x.answer) is ∙ o.0;
          stored = ap (λ (x : SampleLeft). x.cells) is ∙ o.1;
          correct = of (SampleCorrect (prog s) (class t) t.steps.num) (sampled_correct program job s t e);
          runs = of (SampleTextRuns program job t.steps.num) (sample_text_runs program job s t e);
          named = sampled_named (symbol_names program job) L.class.con;
        }

    none : length found < number → (w.answer ≡ Err Absent) × (w.cells ≡ d)
    none h =
        let z = behind_all found (number - 1) (length a - length (lines_cells found)) (omega arith) in
        let is : w ≡ sample_of (replicate z.0 0) d =
        numbered (list_left program job work a).cells number d room (number - 1) (omega arith) ∙ ap (λ (x : List ℕ). sample_of (behind_lines (number - 1) x) d) left_cells ∙ ap (λ (x : List ℕ). sample_of x d) z.1 in
        let o = of_zeros z.0 d in
        (ap (λ (x : SampleLeft). x.answer) is ∙ o.0, ap (λ (x : SampleLeft). x.cells) is ∙ o.1)

-- what stands in the contract
pub each_line : (answer : List ℕ) (number : ℕ) (d : List ℕ) {r : Result Sampled Unsampled} {x : List ℕ} → r ≡ (sample_left number answer d).answer → x ≡ (sample_left number answer d).cells → OfEachLine answer number r d x
each_line answer number d {r} {x} i k program job work a s t e long is room =
    let w = sample_left number (list_left program job work a).cells d in
    let ri : r ≡ w.answer = i ∙ ap (λ (y : List ℕ). (sample_left number y d).answer) is in
    let xi : x ≡ w.cells = k ∙ ap (λ (y : List ℕ). (sample_left number y d).cells) is in (
      λ before behind L f n. subst (λ (y : Result Sampled Unsampled). StoredSample program job s t L y d x) (inv ri)
          (subst (StoredSample program job s t L w.answer d) (inv xi) (here program job work a s t e long number d room before behind L f n)),
      λ h. let o = none program job work a s t e long number d room h in (ri ∙ o.0, xi ∙ o.1),
    )
