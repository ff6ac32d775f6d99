-- The entries of a job whose trees stand in the heap: the inputs, the wanted output, the inputs once more; or there are too many.
use Prim.Native.Nat.{ℕ, ◌+◌, ◌≤◌, ◌<◌}
use mathlib.Core.Path.{◌≡◌, refl, ap, ◌∙◌}
use mathlib.Core.List.{List, ◌∷◌, ◌++◌}
use mathlib.Core.Logic.{◌⊎◌, inl, inr}
use native.Mathlib.Omega.{arith}
use native.Mathlib.Decide.{dec_le}
use lib.ListN.{length}
use Rattle.std.specs.Prelude.{Some, None}
use Rattle.expressions.specs.Expression.{Exp}
use Rattle.sets.specs.Cells.{cells_all}
use Rattle.runs.specs.Twins.Runs.{run}
use Rattle.heap.specs.Twins.Entries.{PushAnswer, entry, pushed}
use Rattle.runs.proofs.RunLaws.{below_self}
use Rattle.heap.proofs.HeapLaws.{Holds}
use Rattle.heap.proofs.FrameLaws.{Held, held_front, entry_length}
use Rattle.heap.proofs.FrameLaws as frame
use Rattle.heap.proofs.PartLaws.{held_joined}
use Rattle.initial.specs.Twins.Trees.{trees_entered}
use Rattle.initial.specs.Twins.Beginning.{counted, EnterLeft, entered_left, behind_output, behind_inputs, job_entered}
use Rattle.initial.proofs.InitialTurns.{pushed_full, pushed_on}
use Rattle.initial.proofs.TreeLaws.{Outcome, trees_mean, entry_holds, entry_knows, entry_below}

pub record EntersJob (h : List ℕ) (used : ℕ) (ins : List Exp) (out : Exp) (w : EnterLeft) : Type 0 where
  pub done : w.answer ≡ Some (counted (length ins) (length ins + 1 + length ins))
  pub holds : Held h used w.frame 0 (ins ++ (out ∷ ins))
  pub size : length w.frame ≡ 12360

abbrev pub JobOutcome : List ℕ → ℕ → List Exp → Exp → EnterLeft → Type 0
JobOutcome h used ins out w = ((w.answer ≡ None) × (4120 < length ins + 1 + length ins)) ⊎ EntersJob h used ins out w

module _ (h : List ℕ) (used : ℕ) (whole : length h ≡ 65535) (in_heap_lem : used ≤ 65535) (ins : List Exp) (out : Exp) (a b : ℕ) (low : a ≤ used)
    (inputs : run 0 a h ≡ cells_all ins) (output : Holds h used a b out) where
  abbrev n : ℕ
  n = length ins

  -- the values behind the output, its entry behind the inputs of g
  module _ (g : List ℕ) (long : length g ≡ 12360) (held : Held h used g 0 ins) (room : n < 4120) where
    abbrev g2 : List ℕ
    g2 = entry n 0 a b g

    values : (w : PushAnswer) → Outcome h used g2 (n + 1) ins w → JobOutcome h used ins out (entered_left n w)
    values w (inl o) = rw o.0 (inl (refl, o.1))
    values w (inr e) =
        let below = entry_below h used g n a b out in_heap_lem long room low output w.frame e.before in
        let z : 0 + n ≡ n = omega arith in
        let front : Held h used w.frame 0 ins = held_front held below_self (omega arith) (rw z below) in
        let back : Held h used w.frame n (out ∷ ins) = frame.Held.more (entry_holds h used g n a b out in_heap_lem long room low output w.frame e.before) (entry_knows h used g n a b out in_heap_lem long room low output w.frame e.before) e.holds in
        rw e.done (inr (record {
          done = refl;
          holds = held_joined front (rw z back);
          size = e.size ∙ entry_length n 0 a b g ∙ long;
        }))

  -- the output behind the inputs
  outputs : (g : List ℕ) → length g ≡ 12360 → Held h used g 0 ins → Dec (4120 ≤ n) → JobOutcome h used ins out (behind_output n a h (pushed n 0 a b g))
  outputs g long held (yes k) = rw (pushed_full n a g k b) (inl (refl, omega arith))
  outputs g long held (no k) =
      let room : n < 4120 = omega arith in
      let e : length (entry n 0 a b g) ≡ 12360 = entry_length n 0 a b g ∙ long in
      let r = trees_mean h used whole in_heap_lem ins (n + 1) 0 a (entry n 0 a b g) e (omega arith) (omega arith) low inputs in
      rw (pushed_on n a g room b) (values g long held room (trees_entered (n + 1) 0 a h (entry n 0 a b g)) r)

  all : (f : List ℕ) (w : PushAnswer) → length f ≡ 12360 → Outcome h used f 0 ins w → JobOutcome h used ins out (behind_inputs a b h w)
  all f w long (inl o) = rw o.0 (inl (refl, omega (arith, o.1)))
  all f w long (inr e) =
      let z : 0 + n ≡ n = omega arith in
      let d : w.answer ≡ Some n = e.done ∙ ap Some z in
      rw d (outputs w.frame (e.size ∙ long) e.holds (dec_le 4120 n))

  pub job_enters : (f : List ℕ) → length f ≡ 12360 → JobOutcome h used ins out (job_entered a b h f)
  unfolding job_entered
  job_enters f long = all f (trees_entered 0 0 a h f) long (trees_mean h used whole in_heap_lem ins 0 0 a f long (omega arith) (omega arith) low inputs)
