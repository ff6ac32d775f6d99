-- What reading both texts into storages of nought comes to, for either tool.
use Prim.Native.Nat.{ℕ, zero, suc, ◌-◌, ◌≤◌}
use mathlib.Core.Path.{◌≡◌, refl, ap, ◌∙◌, sym as inv}
use mathlib.Core.Bool.{Bool, true, false, cond}
use mathlib.Core.List.{List, []}
use native.Mathlib.Omega.{arith}
use lib.ListN.{length, drop, replicate, length-replicate}
use borrow.Author.Tests.{le-ltb, le-leb}
use Rattle.language.specs.Bytes.{Refusal}
use Rattle.language.specs.Tokens.{Text, of_program, of_job, symbols_of}
use Rattle.language.specs.Source.{SProg, SJob}
use Rattle.language.specs.Reader.{Res, ok, refused}
use Rattle.language.specs.Reading.{read_program, read_job, Reading, accepted, rejected, with_job, with_program, reading}
use Rattle.lexer.specs.Twins.Lexed.{State, starting}
use Rattle.lexer.proofs.CutLengths.{SameLengths, cut_lengths}
use Rattle.checker.specs.Twins.StoredAt.{key_at}
use Rattle.syntax.specs.Twins.PartEnds.{part_ends, job_numerals}
use Rattle.checker.specs.Twins.CheckAt.{no_defs}
use Rattle.checker.specs.Twins.CheckStored.{defs_at}
use Rattle.syntax.specs.Twins.Heads.{heads_from}
use Rattle.syntax.specs.Twins.Ends.{ends_from}
use Rattle.checker.specs.declared.check.Defs.{Defs}
use Rattle.syntax.specs.declared.job_ends.JobEnds.{JobEnds}
use Rattle.syntax.proofs.ProgramRead.{ProgramStored}
use Rattle.syntax.proofs.JobRead.{JobStored}
use Rattle.syntax.proofs.JobParts.{job_parts, job_ends_lem, job_numerals_lem}
use Rattle.lent.specs.Storage.{zeros, roomy}
use Rattle.texts.specs.Twins.ReadCells.{tool_of, ReadAnswer, if_roomy, read_as, program_cut, job_cut, program_reading, job_cells, job_reading, ProgramLeft}
use Rattle.reading.specs.Twins.BothCells.{in_program, in_job, placed_job, after_job, job_behind, BothAnswer, without, after_program, program_first, both_roomy, both_read, both_over}
use Rattle.reading.specs.declared.both.Both.{Both}
use Rattle.refusals.specs.declared.refusal.Refused.{Refused}
use Rattle.refusals.specs.declared.refusal.Refused.TheVariants.{Program, Job, Short}
use Rattle.std.specs.Prelude.{Result, Ok, Err}
use Rattle.reading.proofs.BothTurns.{LeftBy}
use Rattle.texts.proofs.Reading.{program_held, job_held, job_reads}

pub zeros_length : (n : ℕ) → length (replicate {A = ℕ} n 0) ≡ n
zeros_length n = length-replicate {A = ℕ} n 0

pub drop_zeros : (k n : ℕ) → drop {A = ℕ} k (replicate n 0) ≡ replicate (n - k) 0
drop_zeros zero n = let z : n - 0 ≡ n = omega arith in rw z refl
drop_zeros (suc k) zero = let z : 0 - suc k ≡ 0 = omega arith in rw z refl
drop_zeros (suc k) (suc n) = let z : suc n - suc k ≡ n - k = omega arith in rw z (drop_zeros k n)

pub zeros_alike : (a b : List ℕ) → length a ≡ length b → zeros a ≡ zeros b
zeros_alike a b e = ap (λ (n : ℕ). replicate n 0) e

pub zeros_twice : (d : List ℕ) → zeros (zeros d) ≡ zeros d
zeros_twice d = zeros_alike (zeros d) d (zeros_length (length d))

-- Where the parts of a program in storage are found.
abbrev pub ends_of : State → List ℕ
ends_of s = ends_from (key_at s.marks s.i) s.i s.i 0 s.ats

abbrev pub table_of : State → Defs
table_of s = defs_at s.marks s.nums s.ats s.i 64 no_defs

abbrev pub heads_of : State → List ℕ
heads_of s = heads_from (table_of s).heads (table_of s).count 0 (replicate 64 0)

abbrev pub parts_of : State → JobEnds
parts_of u = part_ends (key_at u.marks u.i) u.i

-- An accepted job in storage: its numerals are N, W and T.
pub numerals_are : (program job : List ℕ) (u : State) (j : SJob) → JobStored program job (symbols_of [] program) u j →
    job_numerals job u.ats u.i (parts_of u).neqs ≡ record { steps = j.steps.num; walk = j.walk.num; table = j.table.num }
numerals_are program job u j g =
    let q : (parts_of u).neqs ≡ (job_parts program job (symbols_of [] program) u j g).c = ap (λ (k : JobEnds). k.neqs) (job_ends_lem program job (symbols_of [] program) u j g) in
    rw q (job_numerals_lem program job (symbols_of [] program) u j g)

-- what both texts leave
abbrev pub leaving : Result Both Refused → List ℕ → List ℕ → List ℕ → List ℕ → List ℕ → List ℕ → List ℕ → List ℕ → BothAnswer
leaving r marks nums ends heads jmarks jnums symbols work = record { marks = marks; nums = nums; job = without r ends heads jmarks jnums symbols work }

abbrev pub refused_texts : Text → Refusal → Result Both Refused
refused_texts of_program r = Err (Program (record { number = r.number; offset = r.at }))
refused_texts of_job r = Err (Job (record { number = r.number; offset = r.at }))

-- accepted texts, whose tokens stand in s and u
abbrev pub taken : State → State → SJob → List ℕ → BothAnswer
taken s u j work =
    leaving (Ok (record { count = (table_of s).count; symbols = u.found; parts = parts_of u; numerals = record { steps = j.steps.num; walk = j.walk.num; table = j.table.num } })) s.marks s.nums (ends_of s) (heads_of s) u.marks u.nums u.symbols work

pub both_are : {t u : Result Both Refused} {marks nums ends heads jmarks jnums symbols work : List ℕ} {w : BothAnswer} → LeftBy t marks nums ends heads jmarks jnums symbols work w → t ≡ u →
    leaving u marks nums ends heads jmarks jnums symbols work ≡ w
both_are is f = rw (← f, is.0, is.1, is.2, is.3, is.4, is.5, is.6, is.7, is.8) refl

-- Any two texts, read into zeroed storages; `work` is lent for the names.
module _ (runs : Bool) (program job work : List ℕ) (wide : 8194 ≤ length work) where
  abbrev pub zt : List ℕ
  zt = replicate 4097 0

  abbrev pub program_state : State
  program_state = program_cut program zt zt zt (replicate 2048 0) work

  long_enough_lem : (y x : List ℕ) → 2048 ≤ length y → 8194 ≤ length x → roomy zt zt zt y x ≡ true
  long_enough_lem y x a b = rw (le-ltb (length zt) 4097 (omega (arith, zeros_length 4097)), le-ltb (length y) 2048 a, le-leb 8194 (length x) b)

  program_room : roomy zt zt zt (replicate 2048 0) work ≡ true
  program_room = long_enough_lem (replicate 2048 0) work (omega (arith, zeros_length 2048)) wide

  abbrev program_lengths : SameLengths (starting zt zt zt (replicate 2048 0) work 0) program_state
  program_lengths = cut_lengths false program program 4097 (starting zt zt zt (replicate 2048 0) work 0)

  abbrev pub program_as : Res SProg → ReadAnswer
  program_as x = read_as x zt zt zt (replicate 2048 0) work program_state

  pub program_is : (x : Res SProg) → read_program program ≡ x → program_reading program zt zt zt (replicate 2048 0) work ≡ program_as x
  unfolding program_reading
  program_is x e = ap (λ (b : Bool). if_roomy b zt zt zt (replicate 2048 0) work (program_as (read_program program))) program_room ∙ ap program_as e

  pub names_length : length (zeros program_state.names) ≡ length work
  names_length = zeros_length (length program_state.names) ∙ program_lengths.names

  abbrev heads₀ : List ℕ
  heads₀ = replicate 64 0

  abbrev took_program : ReadAnswer → BothAnswer
  took_program w = record {
    marks = w.marks;
    nums = w.nums;
    job = after_program (λ n k. job_behind runs program w.marks w.nums w.ats n w.symbols k heads₀ job zt zt w.names) (λ r. without r w.ats heads₀ zt zt w.symbols w.names) (in_program w.answer);
  }

  enough : both_roomy zt zt zt heads₀ zt zt (replicate 2048 0) work ≡ true
  enough = rw (le-ltb (length heads₀) 64 (omega (arith, zeros_length 64)), program_room) refl

  over_program : (x : Res SProg) → read_program program ≡ x → both_over runs program job work ≡ took_program (program_as x)
  unfolding both_read program_first
  over_program x e =
      ap (λ (b : Bool). cond b (took_program (program_reading program zt zt zt (replicate 2048 0) work)) (leaving (Err Short) zt zt zt heads₀ zt zt (replicate 2048 0) work)) enough ∙ ap took_program (program_is x e)

  -- with a program that is accepted
  module _ (p : SProg) (read : read_program program ≡ ok p) where
    pub program_stored : ProgramStored program program_state p
    program_stored = program_held program zt zt zt (replicate 2048 0) work program_room p read

    pub program_fits : program_state.i ≤ length program_state.ats
    program_fits = omega (arith, program_stored.most, program_lengths.ats, zeros_length 4097)

    left : ProgramLeft program program_state.marks program_state.i program_state.symbols program_state.found p
    left = record { marks = zt; nums = zt; ats = zt; table = replicate 2048 0; names = work; long = program_room; read = read; main_left = refl; count_left = refl; symbols_left = refl; before_left = refl }

    job_room_lem : roomy zt zt zt program_state.symbols (zeros program_state.names) ≡ true
    job_room_lem = long_enough_lem program_state.symbols (zeros program_state.names) program_stored.room (omega (arith, names_length))

    abbrev pub job_state : State
    job_state = job_cut program job zt zt zt program_state.symbols program_state.found (zeros program_state.names)

    abbrev pub job_as : Res SJob → ReadAnswer
    job_as x = read_as x zt zt zt program_state.symbols (zeros program_state.names) job_state

    pub job_is : (x : Res SJob) → read_job (tool_of runs) p (symbols_of [] program) job ≡ x →
        job_cells runs program program_state.marks program_state.i job zt zt zt program_state.symbols program_state.found (zeros program_state.names) ≡ job_as x
    unfolding job_reading
    job_is x e =
        job_reads runs program program_state.marks program_state.i p job zt zt zt program_state.symbols program_state.found (zeros program_state.names) left
        ∙ ap (λ (b : Bool). if_roomy b zt zt zt program_state.symbols (zeros program_state.names) (job_as (read_job (tool_of runs) p (symbols_of [] program) job))) job_room_lem ∙ ap job_as e

    pub job_stored : (j : SJob) → read_job (tool_of runs) p (symbols_of [] program) job ≡ ok j → JobStored program job (symbols_of [] program) job_state j
    job_stored j e = job_held runs program program_state.marks program_state.i p job zt zt zt program_state.symbols program_state.found (zeros program_state.names) left job_room_lem j e

    pub symbols_fit : 2048 ≤ length job_state.symbols
    symbols_fit = omega (arith, program_stored.room, (cut_lengths true program job 4097 (starting zt zt zt program_state.symbols (zeros program_state.names) program_state.found)).symbols)

    -- the working storage is zero again
    pub names_left_lem : zeros (zeros program_state.names) ≡ zeros work
    names_left_lem = zeros_alike (zeros program_state.names) work names_length

    pub job_names_left : zeros job_state.names ≡ zeros work
    job_names_left =
        zeros_alike job_state.names work ((cut_lengths true program job 4097 (starting zt zt zt program_state.symbols (zeros program_state.names) program_state.found)).names ∙ names_length)

    pub reading_is : (x : Res SJob) → read_job (tool_of runs) p (symbols_of [] program) job ≡ x → reading (tool_of runs) program job ≡ with_job p x
    unfolding reading
    reading_is x e = ap (with_program (λ q. read_job (tool_of runs) q (symbols_of [] program) job)) read ∙ ap (with_job p) e

    -- the job behind the program
    abbrev took_job : ReadAnswer → BothAnswer
    took_job w = record {
      marks = program_state.marks;
      nums = program_state.nums;
      job = record {
        placed = after_job (placed_job program_state.marks program_state.nums program_state.ats program_state.i heads₀ job w.marks w.ats) program_state.ats heads₀ (in_job w.answer);
        jmarks = w.marks;
        jnums = w.nums;
        symbols = w.symbols;
        work = w.names;
      };
    }

    over_job : (x : Res SJob) → read_job (tool_of runs) p (symbols_of [] program) job ≡ x → both_over runs program job work ≡ took_job (job_as x)
    unfolding job_behind
    over_job x e = over_program (ok p) read ∙ ap took_job (job_is x e)

    both : (j : SJob) → JobStored program job (symbols_of [] program) job_state j → took_job (job_as (ok j)) ≡ taken program_state job_state j (zeros job_state.names)
    unfolding placed_job
    both j k = rw (numerals_are program job job_state j k)

  -- What follows from both texts is decided by how they are read.
  module _ {L : Type 0} (f : BothAnswer → L) (g : Reading → L)
      (on-refused : (t : Text) (r : Refusal) → reading (tool_of runs) program job ≡ rejected t r → (marks nums ends heads jmarks jnums symbols : List ℕ) → f (leaving (refused_texts t r) marks nums ends heads jmarks jnums symbols (zeros work)) ≡ g (rejected t r))
      (on-accepted : (p : SProg) (j : SJob) → reading (tool_of runs) program job ≡ accepted p j → (s : State) → ProgramStored program s p → (u : State) → JobStored program job (symbols_of [] program) u j →
      s.i ≤ length s.ats → 2048 ≤ length u.symbols → f (taken s u j (zeros work)) ≡ g (accepted p j)) where
    by_job : (p : SProg) (read : read_program program ≡ ok p) (x : Res SJob) → read_job (tool_of runs) p (symbols_of [] program) job ≡ x → f (both_over runs program job work) ≡ g (reading (tool_of runs) program job)
    by_job p read (refused r) e =
        let s = program_state in
        ap f (over_job p read (refused r) e) ∙ ap (λ (z : List ℕ). f (leaving (refused_texts of_job r) s.marks s.nums s.ats heads₀ (zeros zt) (zeros zt) (zeros s.symbols) z)) (names_left_lem p read)
        ∙ on-refused of_job r (reading_is p read (refused r) e) s.marks s.nums s.ats heads₀ (zeros zt) (zeros zt) (zeros s.symbols) ∙ inv (ap g (reading_is p read (refused r) e))
    by_job p read (ok j) e =
        let h = program_stored p read in
        let u = job_state p read in
        let k = job_stored p read j e in
        let r = reading_is p read (ok j) e in
        ap f (over_job p read (ok j) e ∙ both p read j k) ∙ ap (λ (z : List ℕ). f (taken program_state u j z)) (job_names_left p read)
        ∙ on-accepted p j r program_state h u k (program_fits p read) (symbols_fit p read) ∙ inv (ap g r)

    by_program : (x : Res SProg) → read_program program ≡ x → f (both_over runs program job work) ≡ g (reading (tool_of runs) program job)
    unfolding reading
    by_program (ok p) e = by_job p e (read_job (tool_of runs) p (symbols_of [] program) job) refl
    by_program (refused r) e =
        ap f (over_program (refused r) e) ∙ on-refused of_program r (ap (with_program (λ q. read_job (tool_of runs) q (symbols_of [] program) job)) e) (zeros zt) (zeros zt) (zeros zt) heads₀ zt zt (zeros (replicate 2048 0))
        ∙ inv (ap (λ (x : Res SProg). g (with_program (λ q. read_job (tool_of runs) q (symbols_of [] program) job) x)) e)

    pub texts_by_reading : f (both_over runs program job work) ≡ g (reading (tool_of runs) program job)
    texts_by_reading = by_program (read_program program) refl
