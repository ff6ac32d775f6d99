-- The number and values of what `sample_line` answers (02, request 2; 01, "From the state").
use Rattle.std.specs.Prelude.{ℕ, List, [], ◌∷◌, Result, Ok, Err}
use Rattle.sampling.specs.declared.line.Sampled.{Sampled}
use Rattle.sampling.specs.declared.line.Unsampled.{Unsampled}
use Rattle.sampling.specs.declared.line.Unsampled.TheVariants.{Absent, Short}

-- "20 lent storage shorter than its least length"; nothing else has a number
abbrev pub sampled_number : Result Sampled Unsampled → ℕ
sampled_number (Ok sample) = 0
sampled_number (Err Absent) = 0
sampled_number (Err Short) = 20

-- "one known input, with its output": how many cells the inputs have and how many the output. No output has none, so that nought is no line
abbrev pub sampled_said : Result Sampled Unsampled → List ℕ
sampled_said (Ok sample) = sample.ins ∷ sample.out ∷ []
sampled_said (Err why) = 0 ∷ 0 ∷ []
