-- Both texts read into cells: what each function of both.rt answers and leaves.
use Rattle.std.specs.Prelude.{ℕ, ◌≡◌, Bool, false, cond, List, ltb, length, replicate, Result, Ok, Err}
use Rattle.checker.specs.Twins.StoredAt.{key_at}
use Rattle.checker.specs.Twins.CheckAt.{no_defs}
use Rattle.checker.specs.Twins.CheckStored.{defs_at}
use Rattle.syntax.specs.Twins.Heads.{heads_from}
use Rattle.syntax.specs.Twins.Ends.{ends_from}
use Rattle.syntax.specs.Twins.PartEnds.{part_ends, job_numerals}
use Rattle.lent.specs.Storage.{roomy}
use Rattle.texts.specs.Twins.ReadCells.{program_reading, job_cells}
use Rattle.lent.specs.declared.read.Read.{Read}
use Rattle.lent.specs.declared.read.Unread.{Unread}
use Rattle.lent.specs.declared.read.Unread.TheVariants.{Refused as Rejected, Short as Shorter}
use Rattle.refusals.specs.declared.refusal.Refused.{Refused}
use Rattle.refusals.specs.declared.refusal.Refused.TheVariants.{Program, Job, Short}
use Rattle.reading.specs.declared.both.Both.{Both}

-- a refusal falls on the program's text, or on the job's
abbrev pub in_program : Result Read Unread → Result Read Refused
in_program (Ok r) = Ok r
in_program (Err (Rejected r)) = Err (Program r)
in_program (Err Shorter) = Err Short

abbrev pub in_job : Result Read Unread → Result Read Refused
in_job (Ok r) = Ok r
in_job (Err (Rejected r)) = Err (Job r)
in_job (Err Shorter) = Err Short

-- where the parts of an accepted program and job stand
pub record PlacedAnswer : Type 0 where
  pub texts : Result Both Refused
  pub ends : List ℕ
  pub heads : List ℕ

pub record PlacedOut (r : Result Both Refused) (ends heads : List ℕ) (w : PlacedAnswer) : Type 0 where
  pub answer : r ≡ w.texts
  pub ends_out : ends ≡ w.ends
  pub heads_out : heads ≡ w.heads

unfoldable pub placed_job : List ℕ → List ℕ → List ℕ → ℕ → List ℕ → List ℕ → List ℕ → List ℕ → ℕ → ℕ → PlacedAnswer
placed_job marks nums ats n heads job jmarks jats m k =
    let ds = defs_at marks nums ats n 64 no_defs in
    let e = part_ends (key_at jmarks m) m in
    record { texts = Ok (record { count = ds.count; symbols = k; parts = e; numerals = job_numerals job jats m e.neqs }); ends = ends_from (key_at marks n) n n 0 ats; heads = heads_from ds.heads ds.count 0 heads }

-- the job, behind an accepted program
pub record JobAnswer : Type 0 where
  pub placed : PlacedAnswer
  pub jmarks : List ℕ
  pub jnums : List ℕ
  pub symbols : List ℕ
  pub work : List ℕ

pub record JobOut (r : Result Both Refused) (ends heads jmarks jnums symbols work : List ℕ) (w : JobAnswer) : Type 0 where
  pub placed : PlacedOut r ends heads w.placed
  pub marks_out : jmarks ≡ w.jmarks
  pub nums_out : jnums ≡ w.jnums
  pub symbols_out : symbols ≡ w.symbols
  pub work_out : work ≡ w.work

abbrev pub after_job : (ℕ → ℕ → PlacedAnswer) → List ℕ → List ℕ → Result Read Refused → PlacedAnswer
after_job f ats heads (Ok r) = f r.tokens r.symbols
after_job f ats heads (Err e) = record { texts = Err e; ends = ats; heads = heads }

unfoldable pub job_behind : Bool → List ℕ → List ℕ → List ℕ → List ℕ → ℕ → List ℕ → ℕ → List ℕ → List ℕ → List ℕ → List ℕ → List ℕ → JobAnswer
job_behind runs program marks nums ats n symbols k heads job jmarks jnums work =
    let w = job_cells runs program marks n job jmarks jnums (replicate 4097 0) symbols k work in
    record { placed = after_job (placed_job marks nums ats n heads job w.marks w.ats) ats heads (in_job w.answer); jmarks = w.marks; jnums = w.nums; symbols = w.symbols; work = w.names }

-- both texts
pub record BothAnswer : Type 0 where
  pub marks : List ℕ
  pub nums : List ℕ
  pub job : JobAnswer

-- the storages as they are where no job is read
abbrev pub without : Result Both Refused → List ℕ → List ℕ → List ℕ → List ℕ → List ℕ → List ℕ → JobAnswer
without r ats heads jmarks jnums symbols work = record { placed = record { texts = r; ends = ats; heads = heads }; jmarks = jmarks; jnums = jnums; symbols = symbols; work = work }

abbrev pub after_program : (ℕ → ℕ → JobAnswer) → (Result Both Refused → JobAnswer) → Result Read Refused → JobAnswer
after_program f g (Ok r) = f r.tokens r.symbols
after_program f g (Err e) = g (Err e)

unfoldable pub program_first : Bool → List ℕ → List ℕ → List ℕ → List ℕ → List ℕ → List ℕ → List ℕ → List ℕ → List ℕ → List ℕ → BothAnswer
program_first runs program job marks nums ends heads jmarks jnums symbols work =
    let w = program_reading program marks nums ends symbols work in
    record {
      marks = w.marks;
      nums = w.nums;
      job = after_program (λ n k. job_behind runs program w.marks w.nums w.ats n w.symbols k heads job jmarks jnums w.names) (λ r. without r w.ats heads jmarks jnums w.symbols w.names) (in_program w.answer);
    }

pub record BothOut (r : Result Both Refused) (marks nums ends heads jmarks jnums symbols work : List ℕ) (w : BothAnswer) : Type 0 where
  pub marks_out : marks ≡ w.marks
  pub nums_out : nums ≡ w.nums
  pub job : JobOut r ends heads jmarks jnums symbols work w.job

abbrev pub both_roomy : List ℕ → List ℕ → List ℕ → List ℕ → List ℕ → List ℕ → List ℕ → List ℕ → Bool
both_roomy marks nums ends heads jmarks jnums symbols work =
    cond (ltb (length heads) 64) false (cond (roomy marks nums ends symbols work) (roomy jmarks jnums ends symbols work) false)

-- "20 .. before all else, .. nothing touched"
unfoldable pub both_read : Bool → List ℕ → List ℕ → List ℕ → List ℕ → List ℕ → List ℕ → List ℕ → List ℕ → List ℕ → List ℕ → BothAnswer
both_read runs program job marks nums ends heads jmarks jnums symbols work =
    cond (both_roomy marks nums ends heads jmarks jnums symbols work) (program_first runs program job marks nums ends heads jmarks jnums symbols work)
    (record { marks = marks; nums = nums; job = without (Err Short) ends heads jmarks jnums symbols work })

-- over storages of nought, but for `work`
abbrev pub both_over : Bool → List ℕ → List ℕ → List ℕ → BothAnswer
both_over runs program job work =
    both_read runs program job (replicate 4097 0) (replicate 4097 0) (replicate 4097 0) (replicate 64 0) (replicate 4097 0) (replicate 4097 0) (replicate 2048 0) work
