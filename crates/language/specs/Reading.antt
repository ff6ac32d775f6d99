-- Reading and checking the two texts, from their bytes (01, "From the input").
use Rattle.std.specs.Prelude.{ℕ, List, [], map, drop}
use Rattle.language.specs.Bytes.{Refusal, Verdict, bytes_verdict}
use Rattle.language.specs.Words.{Word}
use Rattle.language.specs.Tokens.{Text, of_program, of_job, tokens, symbols_of}
use Rattle.language.specs.Reader.{Res, ok, refused, and_then, unless_fault, Reader}
use Rattle.language.specs.Source.{SProg, SJob, params}
use Rattle.language.specs.Grammar.{program, job_text}
use Rattle.language.specs.ProgramCheck.{program_verdict}
use Rattle.language.specs.JobCheck.{Tool, job_verdict}

-- "Each: 1; 2; then 3, 4, 5 at the earliest token", then the check
abbrev pub read_text : {A : Type 0} → Text → ℕ → Reader A → (A → Verdict) → List Word → List ℕ → Res A
read_text text limit reader check before bs =
    and_then (unless_fault (bytes_verdict limit bs) bs) (λ bs.
    and_then (reader (tokens text before bs)) (λ r.
    unless_fault (check r.0) r.0))

unfoldable pub read_program : List ℕ → Res SProg
unfolding tokens program program_verdict
read_program bs = read_text of_program 32768 program program_verdict [] bs

-- "both texts together 1,024 different symbols": those of the program stand before
unfoldable pub read_job : Tool → SProg → List Word → List ℕ → Res SJob
unfolding tokens job_text job_verdict
read_job tool s before bs = read_text of_job 8192 job_text (job_verdict tool (params s.main.params)) before bs

pub data Reading : Type 0 where
  accepted : SProg → SJob → Reading
  rejected : Text → Refusal → Reading

abbrev pub with_job : SProg → Res SJob → Reading
with_job s (ok j) = accepted s j
with_job s (refused r) = rejected of_job r

abbrev pub with_program : (SProg → Res SJob) → Res SProg → Reading
with_program f (ok s) = with_job s (f s)
with_program f (refused r) = rejected of_program r

-- "Order: the program first, then the job."
unfoldable pub reading : Tool → List ℕ → List ℕ → Reading
unfolding read_program read_job symbols_of
reading tool p j = with_program (λ s. read_job tool s (symbols_of [] p) j) (read_program p)

-- the names of the symbols of both texts, by number: "symbols by first standing in program then job"
abbrev pub symbol_names : List ℕ → List ℕ → List Word
symbol_names p j = map (λ w. drop 1 w) (symbols_of (symbols_of [] p) j)
