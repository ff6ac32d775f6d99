-- One turn of each loop.
use Prim.Native.Nat.{ℕ, suc, ◌+◌, ◌-◌, ◌≤◌, ◌<◌}
use mathlib.Core.Path.{◌≡◌}
use mathlib.Core.List.{List}
use native.Mathlib.Omega.{arith}
use Rattle.std.specs.Prelude.{Some}
use Rattle.heap.specs.declared.configuration.Configuration.{Configuration}
use Rattle.linking.specs.Twins.Code.{link_at}
use Rattle.tracing.specs.declared.ask.Asked.{Asked}
use Rattle.forward.specs.Twins.Naming.{argument_from}
use Rattle.forward.specs.Twins.Output.{out_left, onward_from, token_put, tokens_put}
use Rattle.forward.specs.Twins.Turning.{turned}
use Rattle.running.specs.Twins.Answers.{ran_answer}
use Rattle.forward.specs.Twins.Running.{after_turn, ran_from}
use Rattle.run_answers.specs.declared.run.Ran.TheVariants.{NotWithin}

none_left : (c j : ℕ) → c ≤ j → c - j ≡ 0
none_left c j l = omega arith

some_left : (c j : ℕ) → j < c → c - j ≡ suc (c - (j + 1))
some_left c j l = omega arith

-- the arguments
module _ {q k : ℕ} where
  pub argument_turn : k < q → (code : List ℕ) (j : ℕ) → argument_from code (q - k) j ≡ argument_from code (q - (k + 1)) (link_at code j).past
  unfolding argument_from
  argument_turn l code j = rw (some_left q k l)

  pub argument_end : q ≤ k → (code : List ℕ) (j : ℕ) → argument_from code (q - k) j ≡ j
  unfolding argument_from
  argument_end l code j = rw (none_left q k l)

-- the tokens of an output
module _ {to j : ℕ} where
  pub tokens_turn : j < to → (code : List ℕ) (c : Configuration) (a : Asked) (limit : ℕ) (f : List ℕ) (at : ℕ) (h d : List ℕ) →
      tokens_put code c a limit f (to - j) j at h d ≡ onward_from (tokens_put code c a limit f (to - (j + 1)) (j + 1)) (token_put code c a limit f j at h d)
  unfolding tokens_put
  tokens_turn l code c a limit f at h d = rw (some_left to j l)

  pub tokens_end : to ≤ j → (code : List ℕ) (c : Configuration) (a : Asked) (limit : ℕ) (f : List ℕ) (at : ℕ) (h d : List ℕ) → tokens_put code c a limit f (to - j) j at h d ≡ out_left (Some at) h d
  unfolding tokens_put
  tokens_end l code c a limit f at h d = rw (none_left to j l)

-- the transitions of a run
module _ {steps k : ℕ} where
  pub run_turn : k < steps → (code : List ℕ) (c : Configuration) (h f q d : List ℕ) → ran_from code (steps - k) k c h f q d ≡ after_turn (ran_from code (steps - (k + 1)) (k + 1)) (turned code c (k + 1) h f q d)
  unfolding ran_from
  run_turn l code c h f q d = rw (some_left steps k l)

  pub run_end : steps ≤ k → (code : List ℕ) (c : Configuration) (h f q d : List ℕ) → ran_from code (steps - k) k c h f q d ≡ ran_answer NotWithin d
  unfolding ran_from
  run_end l code c h f q d = rw (none_left steps k l)
