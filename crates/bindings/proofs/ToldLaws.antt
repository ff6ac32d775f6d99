-- What was told gives the answer back: a text that is refused has one of the numbers of 01, "From the input", and a value has a node. And what is demanded of an answer.
use Prim.Native.Nat.{ℕ}
use mathlib.Core.Path.{◌≡◌, ap, subst, ◌∙◌}
use mathlib.Core.List.{List, ◌++◌}
use Rattle.language.specs.Source.{SProg, SJob, prog, class}
use Rattle.semantics.specs.Answer.{limits, inputs}
use Rattle.telling.specs.Numbers.{said_after}
use Rattle.answers.specs.ListNumbers as lists
use Rattle.run_answers.specs.RunNumbers as runs
use Rattle.answers.specs.ListNumbers.{Answer as ListAnswer}
use Rattle.run_answers.specs.RunNumbers.{Answer as RunAnswer}
use Rattle.telling.proofs.ListBack.{list_back}
use Rattle.telling.proofs.RunBack.{run_back}
use Rattle.resolve.specs.ListAnswer.{list_left}
use Rattle.resolve.specs.RunAnswer.{run_left}
use Rattle.resolve.specs.ListDemand.{Answered, StoredListing}
use Rattle.resolve.specs.RunDemand.{Answered as Ran, StoredRun}
use Rattle.resolve.proofs.AnswerNumbers.{list_numbered, run_numbered}
use Rattle.bindings.specs.Told.{ListTold, RunTold}

module _ (program job : List ℕ) (number : ℕ) (said cells : List ℕ) where
  pub list_told : (h : ListTold program job number said cells) → lists.answer_from number said ≡ (list_left program job h.work h.answer).answer
  list_told h =
      let a : ListAnswer = (list_left program job h.work h.answer).answer in
      ap (lists.answer_from number) h.told ∙ ap (λ (n : ℕ). lists.answer_from n (said_after n (lists.said_of a ++ h.more) h.before)) h.numbered
      ∙ list_back a h.more h.before (list_numbered program job h.work h.answer) h.room

  pub run_told : (h : RunTold program job number said cells) → runs.answer_from number said ≡ (run_left program job h.work h.answer).answer
  run_told h =
      let a : RunAnswer = (run_left program job h.work h.answer).answer in
      ap (runs.answer_from number) h.told ∙ ap (λ (n : ℕ). runs.answer_from n (said_after n (runs.said_of a) h.before)) h.numbered
      ∙ run_back a h.before (run_numbered program job h.work h.answer) h.room

-- the demands, of the answer that a definition gives
module _ (p : SProg) (j : SJob) where
  pub listing_of_lem : {a b : ListAnswer} {d : List ℕ} → a ≡ b → (Answered a → StoredListing (prog p) (class j) j.steps.num (limits j) a d) → Answered b → StoredListing (prog p) (class j) j.steps.num (limits j) b d
  listing_of_lem {d} e h = subst (λ (x : ListAnswer). Answered x → StoredListing (prog p) (class j) j.steps.num (limits j) x d) e h

  pub run_of : {a b : RunAnswer} {d : List ℕ} → a ≡ b → (Ran a → StoredRun (prog p) j.steps.num (inputs j) a d) → Ran b → StoredRun (prog p) j.steps.num (inputs j) b d
  run_of {d} e h = subst (λ (x : RunAnswer). Ran x → StoredRun (prog p) j.steps.num (inputs j) x d) e h
