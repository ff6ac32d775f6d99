-- What is written of two texts: the answer of an entry to storage that is nought, and how many bytes its text has (01, "Printing, and cases"). They stay shut, so
-- that a program that only writes does not open them.
use Rattle.std.specs.Prelude.{ℕ, Bool, List, length, replicate}
use Rattle.answers.specs.ListNumbers.{Answer as Listed}
use Rattle.run_answers.specs.RunNumbers.{Answer as Ran}
use Rattle.resolve.specs.ListAnswer.{list_left}
use Rattle.resolve.specs.RunAnswer.{run_left}
use Rattle.print.specs.Twins.ListedText.{listed_with}
use Rattle.print.specs.Twins.RanText.{ran_text}

unfoldable pub listed : List ℕ → List ℕ → Listed
listed program job = (list_left program job (replicate 8194 0) (replicate 17408 0)).answer

-- "Where called for, each prints under its line" (02, request 2): with samples, or without
unfoldable pub listed_bytes : Bool → List ℕ → List ℕ → ℕ
listed_bytes samples program job = let w = list_left program job (replicate 8194 0) (replicate 17408 0) in length (listed_with samples program job w.cells w.answer)

-- the text itself
unfoldable pub written_listing : Bool → List ℕ → List ℕ → List ℕ
written_listing samples program job = let w = list_left program job (replicate 8194 0) (replicate 17408 0) in listed_with samples program job w.cells w.answer

unfoldable pub ran : List ℕ → List ℕ → Ran
ran program job = (run_left program job (replicate 8194 0) (replicate 4096 0)).answer

unfoldable pub ran_bytes : List ℕ → List ℕ → ℕ
ran_bytes program job = let w = run_left program job (replicate 8194 0) (replicate 4096 0) in length (ran_text program job w.cells w.answer)

unfoldable pub written_run : List ℕ → List ℕ → List ℕ
written_run program job = let w = run_left program job (replicate 8194 0) (replicate 4096 0) in ran_text program job w.cells w.answer
