-- Demands 2 and 3 from the bytes of the texts on: acceptance is their only condition.
use Prim.Native.Nat.{ℕ, ◌≤◌}
use mathlib.Core.Path.{◌≡◌, ap, subst}
use mathlib.Core.List.{List, [], ◌∷◌, ◌++◌}
use mathlib.Core.Option.{some}
use Rattle.expressions.specs.Expression.{Value}
use Rattle.expressions.specs.Class.{InClass}
use Rattle.expressions.proofs.Numbers.{ClassNumbers}
use Rattle.expressions.proofs.Simplification.{Consistent}
use Rattle.language.specs.Program.{find}
use Rattle.language.specs.Source.{SProg, SJob, prog, class}
use Rattle.language.specs.JobCheck.{Tool, lister, runner}
use Rattle.language.specs.Reading.{accepted, reading}
use Rattle.language.proofs.Acceptance.{accepted_passed}
use Rattle.language.proofs.Numbers.{ProgNumbers}
use Rattle.semantics.specs.Lists.{All}
use Rattle.semantics.specs.Figure4.{Outputs}
use Rattle.semantics.specs.Evaluate.{evaluate}
use Rattle.semantics.specs.Tree.{Line, listing}
use Rattle.semantics.specs.Walk.{word_of, lines_of}
use Rattle.semantics.specs.Answer.{inputs, limits, walked, ran, answered, answer_of, list, run}
use Rattle.semantics.specs.Demand2.{NeverStuck, NeverRebinds, RunnerCorrect, TraceNeverStuck, TracedLines, InstanceOf}
use Rattle.semantics.specs.Demand3.{Unstopped, ListingCorrect}
use Rattle.semantics.proofs.Lists.{all_map}
use Rattle.semantics.proofs.Environments.{FitsInputs, ground_fits, class_fits}
use Rattle.semantics.proofs.Evaluation.{evaluate_rules}
use Rattle.semantics.proofs.StartCorrectness.{table_correct}
use Rattle.semantics.proofs.SymbolNumbers.{AnyNumber}
use Rattle.semantics.proofs.LineSymbols.{traced_symbols}
use Rattle.semantics.proofs.Instances.{lines_instances}
use Rattle.semantics.proofs.Machine.{resolve_beginning}
use Rattle.semantics.proofs.Trails.{traced_lines}
use Rattle.semantics.proofs.TraceProgress.{trace_never_stuck}
use Rattle.semantics.proofs.Demand3.{listing_correct}
use Rattle.semantics.proofs.Progress.{never_stuck}
use Rattle.semantics.proofs.RunnerCorrectness.{runner_correct}

all_beginning : {A : Type 0} (Q : A → Type 0) (xs ys : List A) → All Q (xs ++ ys) → All Q xs
all_beginning Q [] ys h = tt
all_beginning Q (x ∷ xs) ys h = (h.0, all_beginning Q xs ys h.1)

all_both : {A : Type 0} (P Q : A → Type 0) (xs : List A) → All P xs → All Q xs → All (λ x. P x × Q x) xs
all_both P Q [] h k = tt
all_both P Q (x ∷ xs) h k = ((h.0, k.0), all_both P Q xs h.1 k.1)

module _ (p j : List ℕ) (s : SProg) (t : SJob) where
  -- "an accepted program never gets stuck"
  pub accepted_never_stuck : (tool : Tool) → reading tool p j ≡ accepted s t → (is : List Value) (o : Value) → InClass (class t) is o → NeverStuck (prog s) is
  accepted_never_stuck tool e is o m = let a = accepted_passed tool p j s t e in
      never_stuck (prog s) is a.admitted (class_fits (find (prog s) 0).params (class t) is o a.fits m)

  module _ (e : reading runner p j ≡ accepted s t) where
    inputs_fit_lem : FitsInputs (find (prog s) 0).params (inputs t)
    inputs_fit_lem = ground_fits _ (find (prog s) 0).params (class t).con.ins (accepted_passed runner p j s t e).fits

    pub ran_never_stuck : NeverStuck (prog s) (inputs t)
    ran_never_stuck = never_stuck (prog s) (inputs t) (accepted_passed runner p j s t e).admitted inputs_fit_lem

    -- "01's rule that a later binding replaces the earlier one goes" (02, request 1)
    pub ran_never_rebinds : NeverRebinds (prog s) (inputs t)
    ran_never_rebinds a b σ τ i r = (ran_never_stuck.progress a b σ τ i r).binds_once

    -- "the runner gives the value and step count of the published evaluation rules"
    pub ran_correct : RunnerCorrect (prog s) t.steps.num (inputs t) (ran s t)
    ran_correct = runner_correct (prog s) t.steps.num (inputs t) (accepted_passed runner p j s t e).admitted inputs_fit_lem

    pub run_answer : run p j ≡ answered (ran s t)
    unfolding run
    run_answer = ap (answer_of ran) e

  module _ (e : reading lister p j ≡ accepted s t) where
    pub list_answer : list p j ≡ answered (record { job = class t; walked = walked s t })
    unfolding list
    list_answer = ap (answer_of (λ s t. record { job = class t; walked = walked s t })) e

    -- demand 3
    pub listed_correct : Unstopped (word_of (walked s t)) → ListingCorrect (prog s) (class t) t.steps.num (walked s t)
    listed_correct h = let a = accepted_passed lister p j s t e in listing_correct (prog s) (class t) t.steps.num a.admitted a.fits (limits t) h

    -- "the listing has exactly the lines of the published tracing rules .., in true-branch-first order; a stopped listing is a beginning of that one"
    pub listed_traced : TracedLines (prog s) t.steps.num (class t) (walked s t)
    listed_traced = let a = accepted_passed lister p j s t e in traced_lines (prog s) (class t) t.steps.num (limits t) a.admitted a.fits

    pub listed_never_stuck : TraceNeverStuck (prog s) (class t)
    listed_never_stuck = let a = accepted_passed lister p j s t e in trace_never_stuck (prog s) (class t) a.admitted a.fits

    -- what lies in a line is of the job's class and evaluates to its output in the line's steps
    abbrev pub LineSound : Line → Type 0
    LineSound L = (is : List Value) (o : Value) → InClass L.class is o → InClass (class t) is o × (L.steps ≤ t.steps.num) × Outputs (prog s) is L.steps o

    abbrev Satisfiable : Line → Type 0
    Satisfiable L = Consistent L.class.neqs

    -- every line, stopped or not, can be satisfied and is sound (02, request 2)
    pub listed_sound : All (λ L. Consistent L.class.neqs × LineSound L) (lines_of (walked s t))
    unfolding listing
    listed_sound =
        let a = accepted_passed lister p j s t e in
        let ls = (listing (prog s) t.steps.num (class t)).lines in
        let T = table_correct (prog s) t.steps.num (class t) a.fits in
        let b = resolve_beginning (prog s) (class t) t.steps.num (limits t) in
        let sound : (L : Line) → ((is : List Value) (o : Value) → InClass L.class is o → InClass (class t) is o × (evaluate (prog s) t.steps.num is ≡ some (L.steps, o))) → LineSound L =
        λ L f is o m. let r = f is o m in let w = (evaluate_rules (prog s) is a.admitted (class_fits (find (prog s) 0).params (class t) is o a.fits r.0) t.steps.num L.steps o).0 r.1 in (r.0, w.0, w.1) in
        all_beginning (λ (L : Line). Satisfiable L × LineSound L) (lines_of (walked s t)) b.0
        (subst (All (λ (L : Line). Satisfiable L × LineSound L)) b.1 (all_both Satisfiable LineSound ls T.consistent (all_map _ LineSound sound ls T.sound)))

    -- a property of the symbols of the texts holds of those of each line, stopped or not; N and M are of names and of the job's variables
    pub listed_symbols : (S N M : ℕ → Type 0) → ProgNumbers S N (prog s) → ClassNumbers S M (class t) → All (λ L. ClassNumbers S AnyNumber L.class) (lines_of (walked s t))
    listed_symbols S N M g h =
        let a = accepted_passed lister p j s t e in
        let Q : Line → Type 0 = λ L. ClassNumbers S AnyNumber L.class in
        let b = listed_traced.beginning in
        all_beginning Q (lines_of (walked s t)) b.0 (subst (All Q) b.1 (traced_symbols S N M (prog s) t.steps.num (class t) (walked s t) g h a.fits listed_traced))

  -- "the line's inputs and output, which are the job's under the line's bindings", stopped or not
  pub listed_instances : All (λ L. InstanceOf (class t) L.class) (lines_of (walked s t))
  unfolding listing
  listed_instances =
      let b = resolve_beginning (prog s) (class t) t.steps.num (limits t) in
      all_beginning (λ (L : Line). InstanceOf (class t) L.class) (lines_of (walked s t)) b.0
      (subst (All (λ (L : Line). InstanceOf (class t) L.class)) b.1 (lines_instances (prog s) t.steps.num (class t)))
