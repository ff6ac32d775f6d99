-- What the readers answer and leave is what the texts are read as: `program_reads`, `job_reads`.
use Prim.Native.Nat.{ℕ, ◌≤◌}
use mathlib.Core.Path.{◌≡◌, refl, ap, ◌∙◌, sym, subst}
use mathlib.Core.Bool.{Bool, true, false, cond, false≢true}
use mathlib.Core.List.{List, []}
use lib.Dec.{leb, ltb}
use lib.ListN.{length}
use borrow.Author.Tests.{leb-true, ltb-false}
use Rattle.language.specs.Reader.{Res, ok, refused}
use Rattle.language.specs.Source.{SProg, SJob}
use Rattle.language.specs.Tokens.{symbols_of}
use Rattle.language.specs.Words.{Word}
use Rattle.language.specs.Reading.{read_program, read_job}
use Rattle.words.specs.Twins.Cutting.{bytes_at}
use Rattle.lexer.specs.Twins.Lexed.{State, starting}
use Rattle.syntax.specs.Twins.ReadAnswer.{res_got, job_judged}
use Rattle.lent.specs.Storage.{roomy}
use Rattle.texts.specs.Twins.ReadCells.{ReadAnswer, ReadOut, after_cut, if_roomy, program_cut, program_cells, job_cut, job_cells, read_as, program_reading, tool_of, job_reading, ProgramLeft}
use Rattle.std.specs.Prelude.{Result, Ok, Err}
use Rattle.refusals.specs.declared.refusal.Refusal.{Refusal}
use Rattle.lent.specs.declared.read.Read.{Read}
use Rattle.lent.specs.declared.read.Unread.{Unread}
use Rattle.lexer.proofs.CutLengths.{SameLengths, cut_lengths}
use Rattle.syntax.proofs.JobLaws.{is_runner}
use Rattle.texts.proofs.ReadLaws.{cleared_lengths, program_short, program_bytes_lem, job_short, job_bytes_lem}
use Rattle.syntax.proofs.ProgramRead as program
use Rattle.syntax.proofs.JobRead as job
use Rattle.syntax.proofs.StoredCheck as storedCheck
use Rattle.lexer.proofs.TableMeaning as table

-- storages that are long enough
pub record Rooms (marks nums ats symbols names : List ℕ) : Type 0 where
  pub marks_room : 4097 ≤ length marks
  pub nums_room : 4097 ≤ length nums
  pub ats_room : 4097 ≤ length ats
  pub symbols_room : 2048 ≤ length symbols
  pub names_room : 8194 ≤ length names

pub rooms : (marks nums ats symbols names : List ℕ) → roomy marks nums ats symbols names ≡ true → Rooms marks nums ats symbols names
rooms marks nums ats symbols names =
    go (ltb (length marks) 4097) refl (ltb (length nums) 4097) refl (ltb (length ats) 4097) refl (ltb (length symbols) 2048) refl
  where
    go : (a : Bool) → ltb (length marks) 4097 ≡ a → (b : Bool) → ltb (length nums) 4097 ≡ b → (c : Bool) → ltb (length ats) 4097 ≡ c → (d : Bool) → ltb (length symbols) 2048 ≡ d →
        cond a false (cond b false (cond c false (cond d false (leb 8194 (length names))))) ≡ true → Rooms marks nums ats symbols names
    go true x b y c z d w e = absurd (false≢true e)
    go false x true y c z d w e = absurd (false≢true e)
    go false x false y true z d w e = absurd (false≢true e)
    go false x false y false z true w e = absurd (false≢true e)
    go false x false y false z false w e = record {
      marks_room = ltb-false (length marks) 4097 x;
      nums_room = ltb-false (length nums) 4097 y;
      ats_room = ltb-false (length ats) 4097 z;
      symbols_room = ltb-false (length symbols) 2048 w;
      names_room = leb-true 8194 (length names) e;
    }

-- from what the grammar and the check find: `s` before the text was cut, `u` behind
judged_as : {A : Type 0} (x : Res A) (k : ℕ) (s u : State) → SameLengths s u →
    after_cut u (res_got x k) ≡ read_as x s.marks s.nums s.ats s.symbols s.names u
judged_as (ok a) k s u l = refl
judged_as (refused r) k s u l = cleared_lengths (record { number = r.number; offset = r.at }) s u l

module _ (text marks nums ats symbols names : List ℕ) where
  abbrev lent : State
  lent = starting marks nums ats symbols names 0

  abbrev cut : State
  cut = program_cut text marks nums ats symbols names

  abbrev as_read : ReadAnswer
  as_read = read_as (read_program text) marks nums ats symbols names cut

  module _ (long : roomy marks nums ats symbols names ≡ true) where
    abbrev room : Rooms marks nums ats symbols names
    room = rooms marks nums ats symbols names long

    by_bytes : (g : Result ℕ Refusal) → bytes_at 32768 text ≡ g → program_cells text marks nums ats symbols names ≡ as_read
    by_bytes (Err r) e =
        program_bytes_lem marks nums ats symbols names text long (Err r) e
        ∙ sym (ap (λ x. read_as x marks nums ats symbols names cut) (program.program_bytes_lem text marks nums ats symbols names room.marks_room room.nums_room room.ats_room room.symbols_room room.names_room r e))
    by_bytes (Ok i) e =
        let j = program.program_judged_lem text marks nums ats symbols names room.marks_room room.nums_room room.ats_room room.symbols_room room.names_room i e in
        program_bytes_lem marks nums ats symbols names text long (Ok i) e ∙ ap (after_cut cut) j.1
        ∙ judged_as (read_program text) j.0 lent cut (cut_lengths false text text 4097 lent)

    pub program_held : (p : SProg) → read_program text ≡ ok p → program.ProgramStored text cut p
    program_held = program.program_accepted text marks nums ats symbols names room.marks_room room.nums_room room.ats_room room.symbols_room room.names_room

  pub program_reads : program_cells text marks nums ats symbols names ≡ program_reading text marks nums ats symbols names
  unfolding program_reading
  program_reads = go (roomy marks nums ats symbols names) refl
    where
      go : (b : Bool) → roomy marks nums ats symbols names ≡ b → program_cells text marks nums ats symbols names ≡ if_roomy (roomy marks nums ats symbols names) marks nums ats symbols names as_read
      go true e = by_bytes e (bytes_at 32768 text) refl ∙ sym (ap (λ b. if_roomy b marks nums ats symbols names as_read) e)
      go false e = program_short marks nums ats symbols names text e ∙ sym (ap (λ b. if_roomy b marks nums ats symbols names as_read) e)

is_runner_tool : (b : Bool) → is_runner (tool_of b) ≡ b
is_runner_tool true = refl
is_runner_tool false = refl

-- a job against the program that was left in storage
module _ (runs : Bool) (first main : List ℕ) (m : ℕ) (p : SProg) (text marks nums ats symbols : List ℕ) (before : ℕ) (names : List ℕ) (left : ProgramLeft first main m symbols before p) where
  abbrev zs : List Word
  zs = symbols_of [] first

  abbrev u : State
  u = program_cut first left.marks left.nums left.ats left.table left.names

  abbrev held : program.ProgramStored first u p
  held = program_held first left.marks left.nums left.ats left.table left.names left.long p left.read

  main_held : storedCheck.Holds main u.nums u.ats m p
  main_held = subst (λ (n : ℕ). storedCheck.Holds main u.nums u.ats n p) (sym left.count_left)
      (subst (λ (l : List ℕ). storedCheck.Holds l u.nums u.ats u.i p) (sym left.main_left) held.holds)

  table_held : table.Holds first text symbols zs
  table_held = subst (λ (l : List ℕ). table.Holds first text l zs) (sym left.symbols_left) (held.symbols text)

  counts : before ≡ length zs
  counts = left.before_left ∙ held.found

  abbrev cut_job : State
  cut_job = job_cut first text marks nums ats symbols before names

  abbrev job_as : ReadAnswer
  job_as = read_as (read_job (tool_of runs) p zs text) marks nums ats symbols names cut_job

  module _ (long : roomy marks nums ats symbols names ≡ true) where
    abbrev job_room : Rooms marks nums ats symbols names
    job_room = rooms marks nums ats symbols names long

    job_by_bytes : (g : Result ℕ Refusal) → bytes_at 8192 text ≡ g → job_cells runs first main m text marks nums ats symbols before names ≡ job_as
    job_by_bytes (Err r) e =
        job_bytes_lem marks nums ats symbols names runs first main m text before long (Err r) e
        ∙ sym (ap (λ x. read_as x marks nums ats symbols names cut_job)
        (job.job_bytes_lem first text marks nums ats symbols names zs before counts held.few table_held job_room.marks_room job_room.nums_room job_room.ats_room job_room.symbols_room job_room.names_room (tool_of runs) p r e))
    job_by_bytes (Ok i) e =
        let j = job.job_judged_lem first text marks nums ats symbols names zs before counts held.few table_held job_room.marks_room job_room.nums_room job_room.ats_room job_room.symbols_room job_room.names_room
        main u.nums u.ats m p main_held (tool_of runs) i e in
        job_bytes_lem marks nums ats symbols names runs first main m text before long (Ok i) e
        ∙ ap (λ b. after_cut cut_job (job_judged b main m text cut_job.marks cut_job.nums cut_job.ats cut_job.i)) (sym (is_runner_tool runs))
        ∙ ap (after_cut cut_job) j.1
        ∙ judged_as (read_job (tool_of runs) p zs text) j.0 (starting marks nums ats symbols names before) cut_job (cut_lengths true first text 4097 (starting marks nums ats symbols names before))

    pub job_held : (j : SJob) → read_job (tool_of runs) p zs text ≡ ok j → job.JobStored first text zs cut_job j
    job_held j e = job.job_accepted first text marks nums ats symbols names zs before counts held.few table_held job_room.marks_room job_room.nums_room job_room.ats_room job_room.symbols_room job_room.names_room (tool_of runs) p j e

  pub job_reads : job_cells runs first main m text marks nums ats symbols before names ≡ job_reading runs first p text marks nums ats symbols before names
  unfolding job_reading
  job_reads = go (roomy marks nums ats symbols names) refl
    where
      go : (b : Bool) → roomy marks nums ats symbols names ≡ b → job_cells runs first main m text marks nums ats symbols before names ≡ if_roomy (roomy marks nums ats symbols names) marks nums ats symbols names job_as
      go true e = job_by_bytes e (bytes_at 8192 text) refl ∙ sym (ap (λ b. if_roomy b marks nums ats symbols names job_as) e)
      go false e = job_short marks nums ats symbols names runs first main m text before e ∙ sym (ap (λ b. if_roomy b marks nums ats symbols names job_as) e)

-- an answer and what is left, equation by equation
abbrev Equations : Result Read Unread → List ℕ → List ℕ → List ℕ → List ℕ → List ℕ → ReadAnswer → Type 0
Equations r m n a y x w = (r ≡ w.answer) × (m ≡ w.marks) × (n ≡ w.nums) × (a ≡ w.ats) × (y ≡ w.symbols) × (x ≡ w.names)

equations : {r : Result Read Unread} {m n a y x : List ℕ} {w : ReadAnswer} → ReadOut r m n a y x w → Equations r m n a y x w
equations o = (o.answer, o.marks_out, o.nums_out, o.ats_out, o.symbols_out, o.names_out)

pub program_out : (text marks nums ats symbols names : List ℕ) {r : Result Read Unread} {m n a y x : List ℕ} →
    ReadOut r m n a y x (program_cells text marks nums ats symbols names) → Equations r m n a y x (program_reading text marks nums ats symbols names)
program_out text marks nums ats symbols names {r} {m} {n} {a} {y} {x} o =
    equations (subst (ReadOut r m n a y x) (program_reads text marks nums ats symbols names) o)

pub job_out : (runs : Bool) (first main : List ℕ) (count : ℕ) (text marks nums ats symbols : List ℕ) (before : ℕ) (names : List ℕ) {r : Result Read Unread} {m n a y x : List ℕ} →
    ReadOut r m n a y x (job_cells runs first main count text marks nums ats symbols before names) →
    Equations r m n a y x (job_cells runs first main count text marks nums ats symbols before names) ×
    ((p : SProg) → ProgramLeft first main count symbols before p → ReadOut r m n a y x (job_reading runs first p text marks nums ats symbols before names))
job_out runs first main count text marks nums ats symbols before names {r} {m} {n} {a} {y} {x} o = (
  equations o,
  λ p l. subst (ReadOut r m n a y x) (job_reads runs first main count p text marks nums ats symbols before names l) o,
)
