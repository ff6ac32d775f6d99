-- What reading and checking a text comes to in storage: the answer, and what each storage holds afterwards.
use Rattle.std.specs.Prelude.{ℕ, ◌≡◌, Bool, true, false, List, [], Result, Ok, Err}
use Rattle.language.specs.Reader.{Res, ok, refused}
use Rattle.language.specs.Source.{SProg}
use Rattle.language.specs.Tokens.{symbols_of}
use Rattle.language.specs.JobCheck.{Tool, lister, runner}
use Rattle.language.specs.Reading.{read_program, read_job}
use Rattle.syntax.specs.Twins.ReadAnswer.{program_judged, job_judged}
use Rattle.grammar.specs.Twins.Stored as stored
use Rattle.job_checker.specs.Twins.JobStored as job
use Rattle.words.specs.Twins.Cutting.{bytes_at}
use Rattle.lexer.specs.Twins.Lexed.{State, Out, cut_from, starting}
use Rattle.lexer.specs.declared.lexer.Cut.{Cut}
use Rattle.refusals.specs.declared.refusal.Refusal.{Refusal}
use Rattle.lent.specs.Storage.{zeros, roomy}
use Rattle.lent.specs.declared.read.Read.{Read}
use Rattle.lent.specs.declared.read.Unread.{Unread}
use Rattle.lent.specs.declared.read.Unread.TheVariants.{Refused, Short}

-- an answer, and what is left in the five storages
pub record ReadAnswer : Type 0 where
  pub answer : Result Read Unread
  pub marks : List ℕ
  pub nums : List ℕ
  pub ats : List ℕ
  pub symbols : List ℕ
  pub names : List ℕ

pub record ReadOut (r : Result Read Unread) (marks nums ats symbols names : List ℕ) (w : ReadAnswer) : Type 0 where
  pub answer : r ≡ w.answer
  pub marks_out : marks ≡ w.marks
  pub nums_out : nums ≡ w.nums
  pub ats_out : ats ≡ w.ats
  pub symbols_out : symbols ≡ w.symbols
  pub names_out : names ≡ w.names

-- "20 ... nothing touched"
abbrev pub untouched : List ℕ → List ℕ → List ℕ → List ℕ → List ℕ → ReadAnswer
untouched marks nums ats symbols names = record { answer = Err Short; marks = marks; nums = nums; ats = ats; symbols = symbols; names = names }

-- a refusal leaves nothing behind
abbrev pub cleared : Refusal → List ℕ → List ℕ → List ℕ → List ℕ → List ℕ → ReadAnswer
cleared r marks nums ats symbols names = record {
  answer = Err (Refused r);
  marks = zeros marks;
  nums = zeros nums;
  ats = zeros ats;
  symbols = zeros symbols;
  names = zeros names;
}

-- the tokens of an accepted text, and its symbols
abbrev pub kept : State → ReadAnswer
kept s = record { answer = Ok (record { tokens = s.i; symbols = s.found }); marks = s.marks; nums = s.nums; ats = s.ats; symbols = s.symbols; names = zeros s.names }

-- the tokens of a text, of which the cutting leaves s, or why it is refused: g is what the bytes, the grammar and the check find
pub record FoundOut (r : Result Cut Refusal) (marks nums ats symbols names : List ℕ) (g : Result ℕ Refusal) (s : State) : Type 0 where
  pub kept : (cut : Cut) → r ≡ Ok cut → ((k : ℕ) × (g ≡ Ok k)) × Out cut marks nums ats symbols names s
  pub refused : (f : Refusal) → r ≡ Err f → g ≡ Err f

-- what is answered and left behind them
abbrev pub settled : Result Cut Refusal → List ℕ → List ℕ → List ℕ → List ℕ → List ℕ → ReadAnswer
settled (Ok cut) marks nums ats symbols names = record { answer = Ok (record { tokens = cut.tokens; symbols = cut.symbols }); marks = marks; nums = nums; ats = ats; symbols = symbols; names = zeros names }
settled (Err r) marks nums ats symbols names = cleared r marks nums ats symbols names

abbrev pub after_cut : State → Result ℕ Refusal → ReadAnswer
after_cut s (Err r) = cleared r s.marks s.nums s.ats s.symbols s.names
after_cut s (Ok k) = kept s

abbrev pub after_bytes : Result ℕ Refusal → List ℕ → List ℕ → List ℕ → List ℕ → List ℕ → ReadAnswer → ReadAnswer
after_bytes (Err r) marks nums ats symbols names w = cleared r marks nums ats symbols names
after_bytes (Ok k) marks nums ats symbols names w = w

abbrev pub if_roomy : Bool → List ℕ → List ℕ → List ℕ → List ℕ → List ℕ → ReadAnswer → ReadAnswer
if_roomy true marks nums ats symbols names w = w
if_roomy false marks nums ats symbols names w = untouched marks nums ats symbols names

abbrev pub program_cut : List ℕ → List ℕ → List ℕ → List ℕ → List ℕ → List ℕ → State
program_cut text marks nums ats symbols names = cut_from false text text 4097 (starting marks nums ats symbols names 0)

-- "Each: 1; 2; then 3, 4, 5 at the earliest token. Program: 6; then 7, 8, 9 at the earliest token"; 13 "after 6 and before 7, 8 and 9" (02, request 1)
unfoldable pub program_cells : List ℕ → List ℕ → List ℕ → List ℕ → List ℕ → List ℕ → ReadAnswer
unfolding cut_from stored.program_at
program_cells text marks nums ats symbols names =
    if_roomy (roomy marks nums ats symbols names) marks nums ats symbols names
    (after_bytes (bytes_at 32768 text) marks nums ats symbols names
    (let s = program_cut text marks nums ats symbols names in after_cut s (program_judged s.marks s.nums s.ats s.i)))

-- the symbols that stood before are `before` entries of the table
abbrev pub job_cut : List ℕ → List ℕ → List ℕ → List ℕ → List ℕ → List ℕ → ℕ → List ℕ → State
job_cut program text marks nums ats symbols before names = cut_from true program text 4097 (starting marks nums ats symbols names before)

-- "Job: 10, 11, 12"
unfoldable pub job_cells : Bool → List ℕ → List ℕ → ℕ → List ℕ → List ℕ → List ℕ → List ℕ → List ℕ → ℕ → List ℕ → ReadAnswer
unfolding cut_from stored.job_at job.numeral_from
job_cells runs program main m text marks nums ats symbols before names =
    if_roomy (roomy marks nums ats symbols names) marks nums ats symbols names
    (after_bytes (bytes_at 8192 text) marks nums ats symbols names
    (let s = job_cut program text marks nums ats symbols before names in after_cut s (job_judged runs main m text s.marks s.nums s.ats s.i)))

-- The same by what the text is read as (crate language): kept where it is accepted, cleared where it is refused.
abbrev pub read_as : {A : Type 0} → Res A → List ℕ → List ℕ → List ℕ → List ℕ → List ℕ → State → ReadAnswer
read_as (ok a) marks nums ats symbols names s = kept s
read_as (refused r) marks nums ats symbols names s = cleared (record { number = r.number; offset = r.at }) marks nums ats symbols names

unfoldable pub program_reading : List ℕ → List ℕ → List ℕ → List ℕ → List ℕ → List ℕ → ReadAnswer
unfolding read_program cut_from
program_reading text marks nums ats symbols names =
    if_roomy (roomy marks nums ats symbols names) marks nums ats symbols names
    (read_as (read_program text) marks nums ats symbols names (program_cut text marks nums ats symbols names))

abbrev pub tool_of : Bool → Tool
tool_of true = runner
tool_of false = lister

-- p is what the program's text was read as
unfoldable pub job_reading : Bool → List ℕ → SProg → List ℕ → List ℕ → List ℕ → List ℕ → List ℕ → ℕ → List ℕ → ReadAnswer
unfolding read_job symbols_of cut_from
job_reading runs program p text marks nums ats symbols before names =
    if_roomy (roomy marks nums ats symbols names) marks nums ats symbols names
    (read_as (read_job (tool_of runs) p (symbols_of [] program) text) marks nums ats symbols names (job_cut program text marks nums ats symbols before names))

-- what `read_program` left in its storages for the program p
pub record ProgramLeft (program main : List ℕ) (m : ℕ) (symbols : List ℕ) (before : ℕ) (p : SProg) : Type 0 where
  pub marks : List ℕ
  pub nums : List ℕ
  pub ats : List ℕ
  pub table : List ℕ
  pub names : List ℕ
  pub long : roomy marks nums ats table names ≡ true
  pub read : read_program program ≡ ok p
  pub main_left : main ≡ (program_cut program marks nums ats table names).marks
  pub count_left : m ≡ (program_cut program marks nums ats table names).i
  pub symbols_left : symbols ≡ (program_cut program marks nums ats table names).symbols
  pub before_left : before ≡ (program_cut program marks nums ats table names).found
