-- One turn of the unifier's loop.
use Prim.Native.Nat.{ℕ, suc, ◌+◌, ◌-◌, ◌≤◌, ◌<◌}
use mathlib.Core.Path.{◌≡◌}
use mathlib.Core.List.{List}
use native.Mathlib.Omega.{arith}
use Rattle.std.specs.declared.ops.ControlFlow.TheVariants.{Continue, Break}
use Rattle.std.specs.Prelude.{Err}
use Rattle.meetings.specs.Twins.Classes.{Met}
use Rattle.restrictions.specs.declared.failure.Failure.TheVariants.{Contradiction}
use Rattle.meetings.specs.Twins.Binding.{step_left}
use Rattle.meetings.specs.Twins.Unifying.{met_left, unify_turned, unified_many}
use Rattle.meetings.specs.declared.class.Class.{Class}

module _ (c : Class) (h f q : List ℕ) (n i : ℕ) where
  pub many_none : n ≤ i → met_left (Err Contradiction) h f q ≡ unified_many (n - i) c h f q
  unfolding unified_many
  many_none l = let m : n - i ≡ 0 = omega arith in rw m

  module _ (h2 f2 q2 : List ℕ) where
    pub many_on : i < n → (next : Class) → step_left (Continue next) h2 f2 q2 ≡ unify_turned c h f q → unified_many (n - i) c h f q ≡ unified_many (n - (i + 1)) next h2 f2 q2
    unfolding unified_many
    many_on l next is = let m : n - i ≡ suc (n - (i + 1)) = omega arith in rw (m, ← is)

    pub many_end : i < n → (m : Met) → step_left (Break m) h2 f2 q2 ≡ unify_turned c h f q → met_left m h2 f2 q2 ≡ unified_many (n - i) c h f q
    unfolding unified_many
    many_end l m is = let k : n - i ≡ suc (n - (i + 1)) = omega arith in rw (k, ← is)
