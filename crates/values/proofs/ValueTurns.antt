-- One turn of the loop over tokens.
use Prim.Native.Nat.{ℕ, suc, ◌+◌, ◌-◌, ◌≤◌, ◌<◌}
use mathlib.Core.Path.{◌≡◌}
use mathlib.Core.List.{List, [], ◌∷◌}
use lib.ListN.{set}
use native.Mathlib.Omega.{arith}
use Rattle.std.specs.Prelude.{Some, None}
use Rattle.sets.specs.Twins.Fill.{fill_answer}
use Rattle.runs.specs.Twins.Runs.{written}
use Rattle.runs.proofs.RunLaws.{written_over, written_done}
use Rattle.values.specs.Twins.Values.{onward_fill, token_written, tokens_written}

none_left : (c j : ℕ) → c ≤ j → c - j ≡ 0
none_left c j l = omega arith

some_left : (c j : ℕ) → j < c → c - j ≡ suc (c - (j + 1))
some_left c j l = omega arith

pub tokens_end : {to j : ℕ} → to ≤ j → (code frame : List ℕ) (base k : ℕ) (h : List ℕ) → tokens_written code frame base (to - j) j k h ≡ fill_answer (Some k) h
unfolding tokens_written
tokens_end {to} {j} l code frame base k h = rw (none_left to j l)

pub tokens_turn : {to j : ℕ} → j < to → (code frame : List ℕ) (base k : ℕ) (h : List ℕ) → let w = token_written code frame base j k h in
    tokens_written code frame base (to - j) j k h ≡ onward_fill (λ m g. tokens_written code frame base (to - (j + 1)) (j + 1) m g) w.answer w.cells
unfolding tokens_written
tokens_turn {to} {j} l code frame base k h = rw (some_left to j l)

pub cell_over : {k : ℕ} → 65534 < k → (c : ℕ) (h : List ℕ) → written k 1 (c ∷ []) h ≡ fill_answer None h
cell_over {k} l c h = written_over k 1 (c ∷ []) h (omega arith)

pub cell_done : {k : ℕ} → k ≤ 65534 → (c : ℕ) (h : List ℕ) → written k 1 (c ∷ []) h ≡ fill_answer (Some (k + 1)) (set h k c)
cell_done {k} l c h = written_done k 1 (c ∷ []) h (omega arith)
