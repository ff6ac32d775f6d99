-- What reading a text comes to over its cells: "Each: 1; 2; then 3, 4, 5 at the earliest token", then the check.
use Rattle.std.specs.Prelude.{ℕ, Bool, List, Result, Ok, Err}
use Rattle.std.proofs.Math.Option.{none, some}
use Rattle.language.specs.Bytes as bytes
use Rattle.language.specs.Reader.{Res, ok, refused}
use Rattle.refusals.specs.declared.refusal.Refusal.{Refusal}
use Rattle.refusals.specs.Faults.{fault}
use Rattle.verdicts.specs.Twins.Found.{Verdict}
use Rattle.grammar.specs.Twins.Positions.{on_past}
use Rattle.words.specs.Twins.Cutting.{bytes_at}
use Rattle.grammar.specs.Twins.Stored as stored
use Rattle.checker.specs.Twins.CheckStored as check
use Rattle.job_checker.specs.Twins.JobStored as jobCheck

-- the index behind what was read, or what the check finds
abbrev pub verdict_got : Verdict → ℕ → Result ℕ Refusal
verdict_got (Ok u) k = Ok k
verdict_got (Err r) k = Err r

-- the n tokens of an accepted text or a refusal, from what the bytes, the reader and the check come to
abbrev pub answer : ℕ → Result ℕ Refusal → Result ℕ Refusal → Verdict → Result ℕ Refusal
answer n found read checked = on_past (λ i. on_past (λ k. verdict_got checked n) read) found

-- a program of n tokens
unfoldable pub program_answer : List ℕ → List ℕ → List ℕ → List ℕ → ℕ → Result ℕ Refusal
unfolding stored.program_at
program_answer text marks nums ats n = answer n (bytes_at 32768 text) (stored.program_at marks ats 0) (check.program_at marks nums ats n)

-- a job of n tokens, for a program of m tokens with the marks `main`; `runs` is whether the tool is the runner
unfoldable pub job_answer : List ℕ → List ℕ → List ℕ → List ℕ → ℕ → Bool → List ℕ → ℕ → Result ℕ Refusal
unfolding stored.job_at
job_answer text marks nums ats n runs main m = answer n (bytes_at 8192 text) (stored.job_at marks ats 0) (jobCheck.job_at marks nums ats n runs text main m)

-- the same of what the text is read as
abbrev pub res_got : {A : Type 0} → Res A → ℕ → Result ℕ Refusal
res_got (ok a) n = Ok n
res_got (refused r) n = fault r.number r.at

abbrev pub bytes_got : bytes.Verdict → ℕ → Result ℕ Refusal
bytes_got none n = Ok n
bytes_got (some r) n = fault r.number r.at

abbrev pub program_judged : List ℕ → List ℕ → List ℕ → ℕ → Result ℕ Refusal
program_judged marks nums ats n = on_past (verdict_got (check.program_at marks nums ats n)) (stored.program_at marks ats 0)

-- `runs`: for the runner; main and m are the marks of the program's tokens and their number
abbrev pub job_judged : Bool → List ℕ → ℕ → List ℕ → List ℕ → List ℕ → List ℕ → ℕ → Result ℕ Refusal
job_judged runs main m text marks nums ats n = on_past (verdict_got (jobCheck.job_at marks nums ats n runs text main m)) (stored.job_at marks ats 0)
