-- The answer that refuses.
use Rattle.std.specs.Prelude.{ℕ, Result, Err}
use Rattle.refusals.specs.declared.refusal.Refusal.{Refusal}

-- refusal n at offset o
abbrev pub fault : {A : Type 0} → ℕ → ℕ → Result A Refusal
fault n o = Err (record { number = n; offset = o })
