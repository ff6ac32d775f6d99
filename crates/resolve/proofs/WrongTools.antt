-- Tools that the contracts of `list` and `run` shut out, whatever else they leave (01, "From the state": "so the tool that refuses all jobs falls"): what each says contradicts the
-- clause of its entry.
use Prim.Native.Nat.{ℕ, ◌≤◌}
use mathlib.Core.Path.{◌≡◌, refl, ap, sym as inv}
use mathlib.Core.List.{List, ◌∷◌}
use native.Mathlib.Omega.{arith}
use lib.ListN.{length}
use Rattle.std.specs.Prelude.{Ok, Err}
use Rattle.expressions.specs.Expression.{Value}
use Rattle.expressions.specs.Class.{IOClass}
use Rattle.language.specs.Program.{Prog}
use Rattle.semantics.specs.Tree.{Line, listing}
use Rattle.semantics.specs.Walk.{Limits, stop21, stop22, stop23, Word, whole, cut, stop, word_of, lines_of, count_of}
use Rattle.semantics.specs.Runner.{Ran, value, ran_over, not_within}
use Rattle.semantics.specs.Answer.{answered}
use Rattle.semantics.specs.Stops.{RunsOver}
use Rattle.semantics.proofs.WrongTools.{no_early_over, no_empty_whole, no_early_23}
use Rattle.resolve.specs.ListAnswer.{first_word, worded}
use Rattle.resolve.specs.RunAnswer.{answer_of}
use Rattle.resolve.specs.ListDemand.{StoredListing}
use Rattle.resolve.specs.RunDemand.{StoredRun}
use Rattle.answers.specs.ListNumbers.{Answer}
use Rattle.answers.specs.declared.list.Word.{Word as FirstWord}
use Rattle.answers.specs.declared.list.Word.TheVariants.{Whole, Stop23}
use Rattle.run_answers.specs.declared.run.Ran.TheVariants.{Over}

-- what a lister says
abbrev said : FirstWord → ℕ → ℕ → Answer
said word lines count = Ok (record { word = word; lines = lines; count = count })

is_over_lem : (r : Ran) → Ok Over ≡ answer_of (answered r) → r ≡ ran_over
is_over_lem (value s v) e = let k : ◌≡◌ {A = ℕ} 0 1 = cc in absurd (omega arith)
is_over_lem ran_over e = refl
is_over_lem not_within e = let k : ◌≡◌ {A = ℕ} 0 1 = cc in absurd (omega arith)

-- a runner that always says 21
pub no_constant_21 : (p : Prog) (n : ℕ) (is : List Value) (d : List ℕ) → StoredRun p n is (Ok Over) d → (RunsOver p n is → ⊥) → ⊥
no_constant_21 p n is d h f = no_early_over p n is h.ran h.stops f (is_over_lem h.ran h.answer)

-- the word of what is said
abbrev word_in : Answer → FirstWord
word_in (Ok a) = a.word
word_in (Err r) = Whole

first_whole : (w : Word) → Whole ≡ first_word w → w ≡ whole
first_whole whole e = refl
first_whole cut e = let z : ◌≡◌ {A = ℕ} 0 1 = cc in absurd (omega arith)
first_whole (stop stop21) e = let z : ◌≡◌ {A = ℕ} 0 1 = cc in absurd (omega arith)
first_whole (stop stop22) e = let z : ◌≡◌ {A = ℕ} 0 1 = cc in absurd (omega arith)
first_whole (stop stop23) e = let z : ◌≡◌ {A = ℕ} 0 1 = cc in absurd (omega arith)

first_spent : (w : Word) → Stop23 ≡ first_word w → w ≡ stop stop23
first_spent whole e = let z : ◌≡◌ {A = ℕ} 0 1 = cc in absurd (omega arith)
first_spent cut e = let z : ◌≡◌ {A = ℕ} 0 1 = cc in absurd (omega arith)
first_spent (stop stop21) e = let z : ◌≡◌ {A = ℕ} 0 1 = cc in absurd (omega arith)
first_spent (stop stop22) e = let z : ◌≡◌ {A = ℕ} 0 1 = cc in absurd (omega arith)
first_spent (stop stop23) e = refl

is_whole : (w : Word) (l c k : ℕ) → said Whole 0 k ≡ worded w l c → w ≡ whole
is_whole w l c k e = first_whole w (ap word_in e)

is_spent_lem : (w : Word) (l c i k : ℕ) → said Stop23 i k ≡ worded w l c → w ≡ stop stop23
is_spent_lem w l c i k e = first_spent w (ap word_in e)

module _ (p : Prog) (j : IOClass) (n : ℕ) (lim : Limits) (d : List ℕ) where
  -- a lister that always says whole, no lines: for a job that has a line
  pub no_constant_whole : (k : ℕ) → StoredListing p j n lim (said Whole 0 k) d → (l : Line) (rest : List Line) → (listing p n j).lines ≡ l ∷ rest → ⊥
  no_constant_whole k h l rest e =
      let w = h.listing in no_empty_whole p n j lim w h.stops l rest e (is_whole (word_of w) (length (lines_of w)) (count_of w) k h.answer) (inv h.lines)

  -- a lister that always says stop23: for a job whose tree has at most W transitions
  pub no_constant_23 : (i k : ℕ) → StoredListing p j n lim (said Stop23 i k) d → (listing p n j).count ≤ lim.walk → ⊥
  no_constant_23 i k h l = let w = h.listing in no_early_23 p n j lim w h.stops l (is_spent_lem (word_of w) (length (lines_of w)) (count_of w) i k h.answer)
