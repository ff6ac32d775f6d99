-- One turn of the loop over arguments.
use Prim.Native.Nat.{ℕ, suc, ◌+◌, ◌-◌, ◌≤◌, ◌<◌}
use mathlib.Core.Path.{◌≡◌}
use mathlib.Core.List.{List}
use native.Mathlib.Omega.{arith}
use Rattle.linking.specs.Twins.Code.{link_at}
use Rattle.std.specs.Prelude.{Some}
use Rattle.calls.specs.Twins.Arguments.{tally, argue_left, onward_argue, argument_at, arguments_at}

none_left : (n k : ℕ) → n ≤ k → n - k ≡ 0
none_left n k l = omega arith

some_left : (n k : ℕ) → k < n → n - k ≡ suc (n - (k + 1))
some_left n k l = omega arith

pub arguments_end : {n t : ℕ} → n ≤ t → (code : List ℕ) (base e k m i : ℕ) (h f : List ℕ) → arguments_at code base (n - t) e k m i h f ≡ argue_left (Some (tally e k m)) h f
unfolding arguments_at
arguments_end {n} {t} l code base e k m i h f = rw (none_left n t l)

-- with the answer of the one argument
pub arguments_turn : {n t : ℕ} → t < n → (code : List ℕ) (base e k m i : ℕ) (h f : List ℕ) → let a = argument_at code base e k m i h f in
    arguments_at code base (n - t) e k m i h f ≡ onward_argue (λ x y z g u. arguments_at code base (n - (t + 1)) x y z (link_at code i).past g u) a.answer a.heap a.frame
unfolding arguments_at
arguments_turn {n} {t} l code base e k m i h f = rw (some_left n t l)
