-- The symbols of two texts, read again: how many there are, and their table.
use Rattle.std.specs.Prelude.{ℕ, Bool, Result, Ok, Err, List, replicate}
use Rattle.reading.specs.Twins.BothCells.{both_read}
use Rattle.reading.specs.declared.both.Both.{Both}
use Rattle.refusals.specs.declared.refusal.Refused.{Refused}

pub record Names : Type 0 where
  pub found : ℕ
  pub symbols : List ℕ

abbrev pub found_in : Result Both Refused → ℕ
found_in (Ok both) = both.symbols
found_in (Err r) = 0

unfoldable pub text_names : Bool → List ℕ → List ℕ → List ℕ → Names
text_names runs program job symbols =
    let w = both_read runs program job (replicate 4097 0) (replicate 4097 0) (replicate 4097 0) (replicate 64 0) (replicate 4097 0) (replicate 4097 0) symbols (replicate 8194 0) in
    record { found = found_in w.job.placed.texts; symbols = w.job.symbols }
