-- What a check finds and how that joins: what each function of found.rt comes to.
use Rattle.std.specs.Prelude.{ℕ, Bool, true, false, Result, Ok}
use Rattle.std.specs.Result.{result_and}
use Rattle.refusals.specs.declared.refusal.Refusal.{Refusal}
use Rattle.refusals.specs.Faults.{fault}
use Rattle.verdicts.specs.declared.found.Walked.{Walked}
use Rattle.verdicts.specs.declared.found.Args.{Args}

-- what a check finds: nothing, or the first fault
abbrev pub Verdict : Type 0
Verdict = Result (Unit {0}) Refusal

abbrev pub fine : Verdict
fine = Ok tt

-- of two faults the first
abbrev pub first : Verdict → Verdict → Verdict
first a b = result_and a b

-- fault n at offset o unless the test passes
abbrev pub judge : Bool → ℕ → ℕ → Verdict
judge true n o = fine
judge false n o = fault n o

abbrev pub walked : ℕ → Verdict → Verdict → Verdict → Walked
walked k v b w = record { past = k; names = v; rebound = b; uses = w }

-- 7 at the name of a call, then what its arguments have
abbrev pub called : ℕ → Verdict → Verdict → Walked
called k v w = walked k fine fine (first v w)

-- of each group what the condition has, then what the true branch has, then what the false one has
unfoldable pub branched : ℕ → Walked → Walked → Walked → Walked
branched k c s u =
    walked k (first c.names (first s.names u.names)) (first c.rebound (first s.rebound u.rebound)) (first c.uses (first s.uses u.uses))

abbrev pub arguments : ℕ → Bool → Verdict → Args
arguments k b v = record { past = k; fits = b; uses = v }
