-- What the entries answer has one of the numbers of 01, "From the input" and "From the state": a text that is refused, 1 to 13.
use Prim.Native.Nat.{ℕ, ◌≤◌}
use mathlib.Core.Path.{◌≡◌, refl}
use mathlib.Core.Bool.{Bool, true, false}
use mathlib.Core.List.{List}
use native.Mathlib.Omega.{arith}
use Rattle.expressions.specs.Expression.{Value, atom, cons}
use Rattle.language.specs.Tokens.{of_program, of_job}
use Rattle.language.specs.Source.{SProg, SJob, class}
use Rattle.language.specs.JobCheck.{lister, runner}
use Rattle.language.specs.Reading.{Reading, accepted, rejected, reading}
use Rattle.language.proofs.Numbers.{rejected_number}
use Rattle.semantics.specs.Runner.{Ran, value, ran_over, not_within, nodes_value}
use Rattle.semantics.specs.Answer as meaning
use Rattle.lent.specs.Storage.{zeros}
use Rattle.answers.specs.ListNumbers as lists
use Rattle.run_answers.specs.RunNumbers as runs
use Rattle.resolve.specs.ListAnswer as listed
use Rattle.resolve.specs.RunAnswer as ran

module _ (p j work d : List ℕ) where
  pub list_numbered : lists.Numbered (listed.list_left p j work d).answer
  unfolding listed.list_left meaning.list
  list_numbered =
      pick (listed.too_short work d) (record { answer = listed.answer_of (meaning.list p j); work = zeros work; cells = listed.cells_after (meaning.list p j) d })
      (by (λ s t. record { job = class t; walked = meaning.walked s t }) (reading lister p j) refl)
    where
      by : (f : SProg → SJob → meaning.Listed) (x : Reading) → reading lister p j ≡ x → lists.Numbered (listed.answer_of (meaning.answer_of f x))
      by f (accepted s t) e = tt
      by f (rejected of_program r) e = rejected_number lister p j of_program r e
      by f (rejected of_job r) e = rejected_number lister p j of_job r e

      pick : (b : Bool) (w : listed.ListLeft) → lists.Numbered w.answer → lists.Numbered (listed.unless_short b w work d).answer
      pick true w h = tt
      pick false w h = h

  some_node : (v : Value) → 1 ≤ nodes_value v
  some_node (atom z) = omega arith
  some_node (cons u v) = omega arith

  pub run_numbered : runs.Numbered (ran.run_left p j work d).answer
  unfolding ran.run_left meaning.run
  run_numbered =
      pick (ran.too_short work d) (record { answer = ran.answer_of (meaning.run p j); work = zeros work; cells = ran.cells_after (meaning.run p j) d })
      (by meaning.ran (reading runner p j) refl)
    where
      come : (r : Ran) → runs.Numbered (ran.answer_of (meaning.Answer.answered r))
      come (value s v) = some_node v
      come ran_over = tt
      come not_within = tt

      by : (f : SProg → SJob → Ran) (x : Reading) → reading runner p j ≡ x → runs.Numbered (ran.answer_of (meaning.answer_of f x))
      by f (accepted s t) e = come (f s t)
      by f (rejected of_program r) e = rejected_number runner p j of_program r e
      by f (rejected of_job r) e = rejected_number runner p j of_job r e

      pick : (b : Bool) (w : ran.RunLeft) → runs.Numbered w.answer → runs.Numbered (ran.unless_short b w work d).answer
      pick true w h = tt
      pick false w h = h
