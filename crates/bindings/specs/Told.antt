-- What an entry told a caller in C or Rust: its number, what it left in `said`, and the cells in the answer storage. Of these the prints promise the text.
use Rattle.std.specs.Prelude.{ℕ, ◌≤◌, ◌≡◌, false, List, ◌++◌, length}
use Rattle.telling.specs.Numbers.{said_after}
use Rattle.answers.specs.ListNumbers as lists
use Rattle.run_answers.specs.RunNumbers as runs
use Rattle.resolve.specs.ListAnswer as listed
use Rattle.resolve.specs.RunAnswer as ran

-- a listing of the two texts, by `raugvite_list` or `raugvite_list_print`, which were lent these storages; `more` are the numbers that stand in `said`
-- behind the answer's own
pub record ListTold (program job : List ℕ) (number : ℕ) (said cells : List ℕ) : Type 0 where
  pub work : List ℕ
  pub answer : List ℕ
  pub before : List ℕ
  pub more : List ℕ
  pub long : listed.too_short work answer ≡ false
  pub room : 5 ≤ length before
  pub numbered : number ≡ lists.number_of (listed.list_left program job work answer).answer
  pub told : said ≡ said_after number (lists.said_of (listed.list_left program job work answer).answer ++ more) before
  pub left : cells ≡ (listed.list_left program job work answer).cells

-- a run of the two texts, by `raugvite_run`
pub record RunTold (program job : List ℕ) (number : ℕ) (said cells : List ℕ) : Type 0 where
  pub work : List ℕ
  pub answer : List ℕ
  pub before : List ℕ
  pub long : ran.too_short work answer ≡ false
  pub room : 4 ≤ length before
  pub numbered : number ≡ runs.number_of (ran.run_left program job work answer).answer
  pub told : said ≡ said_after number (runs.said_of (ran.run_left program job work answer).answer) before
  pub left : cells ≡ (ran.run_left program job work answer).cells
