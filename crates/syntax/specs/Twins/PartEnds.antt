-- Where the parts of a job stand, by its brackets, and its numerals: for who walks an accepted job.
-- proofs/PartLaws.antt: so they are.
use Rattle.std.specs.Prelude.{ℕ, ◌-◌, List}
use Rattle.checker.specs.Twins.CheckAt.{ahead}
use Rattle.syntax.specs.Twins.Ends.{past_at}
use Rattle.job_checker.specs.Twins.JobStored.{val_at}
use Rattle.syntax.specs.declared.job_ends.JobEnds.{JobEnds}
use Rattle.syntax.specs.declared.numerals.Numerals.{Numerals}

-- the parts `(in ..)`, `(out d)` and `(neq ..)` end before i, o and q
abbrev pub parts_to : ℕ → ℕ → ℕ → ℕ → JobEnds
parts_to n i o q = record { ins = i - 1; from = ahead n 2 i; out = o - 1; sides = ahead n 2 o; neqs = q - 1 }

abbrev pub part_ends : (ℕ → ℕ) → ℕ → JobEnds
part_ends key n =
    let i = past_at key n 2 in
    let o = past_at key n i in
    parts_to n i o (past_at key n o)

abbrev pub job_numerals : List ℕ → List ℕ → ℕ → ℕ → Numerals
job_numerals text ats n c = record { steps = val_at text ats n (ahead n 3 c); walk = val_at text ats n (ahead n 7 c); table = val_at text ats n (ahead n 11 c) }
