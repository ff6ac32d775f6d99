-- The functions of both.rt by their branches.
use Prim.Native.Nat.{ℕ}
use mathlib.Core.Path.{◌≡◌, refl}
use mathlib.Core.Bool.{Bool, true, false}
use mathlib.Core.List.{List}
use lib.ListN.{replicate}
use Rattle.texts.specs.Twins.ReadCells.{ReadAnswer, program_reading, job_cells}
use Rattle.reading.specs.Twins.BothCells.{in_program, in_job, PlacedOut, placed_job, JobOut, job_behind, BothAnswer, BothOut, program_first, both_roomy, both_read}
use Rattle.lent.specs.declared.read.Read.{Read}
use Rattle.lent.specs.declared.read.Unread.{Unread}
use Rattle.refusals.specs.declared.refusal.Refused.{Refused}
use Rattle.refusals.specs.declared.refusal.Refused.TheVariants.{Short}
use Rattle.std.specs.Prelude.{Result, Ok, Err}
use Rattle.reading.specs.declared.both.Both.{Both}

-- what a reader of one text answers and leaves
abbrev ReadBy : Result Read Unread → List ℕ → List ℕ → List ℕ → List ℕ → List ℕ → ReadAnswer → Type 0
ReadBy r marks nums ats symbols names w = (r ≡ w.answer) × (marks ≡ w.marks) × (nums ≡ w.nums) × (ats ≡ w.ats) × (symbols ≡ w.symbols) × (names ≡ w.names)

module _ (runs : Bool) (program marks nums ats : List ℕ) (n : ℕ) (symbols : List ℕ) (before : ℕ) (heads job jmarks jnums work : List ℕ) {r : Result Read Unread} {m2 n2 a2 s2 w2 : List ℕ}
    (is : ReadBy r m2 n2 a2 s2 w2 (job_cells runs program marks n job jmarks jnums (replicate 4097 0) symbols before work)) where
  pub second_refused : {f : Refused} → in_job r ≡ Err f → JobOut (Err f) ats heads m2 n2 s2 w2 (job_behind runs program marks nums ats n symbols before heads job jmarks jnums work)
  unfolding job_behind
  second_refused f = record { placed = rw (← is.0, f) (record { answer = refl; ends_out = refl; heads_out = refl }); marks_out = is.1; nums_out = is.2; symbols_out = is.4; work_out = is.5 }

  pub second_accepted : {m : Read} → in_job r ≡ Ok m → {t : Result Both Refused} {e h : List ℕ} → PlacedOut t e h (placed_job marks nums ats n heads job m2 a2 m.tokens m.symbols) →
      JobOut t e h m2 n2 s2 w2 (job_behind runs program marks nums ats n symbols before heads job jmarks jnums work)
  unfolding job_behind
  second_accepted f p = record { placed = rw (← is.0, f, ← is.1, ← is.3) p; marks_out = is.1; nums_out = is.2; symbols_out = is.4; work_out = is.5 }

module _ (runs : Bool) (program job marks nums ends heads jmarks jnums symbols work : List ℕ) {r : Result Read Unread} {m2 n2 a2 s2 w2 : List ℕ}
    (is : ReadBy r m2 n2 a2 s2 w2 (program_reading program marks nums ends symbols work)) where
  pub first_refused : {u : Refused} → in_program r ≡ Err u → BothOut (Err u) m2 n2 a2 heads jmarks jnums s2 w2 (program_first runs program job marks nums ends heads jmarks jnums symbols work)
  unfolding program_first
  first_refused f = record {
    marks_out = is.1;
    nums_out = is.2;
    job = rw (← is.0, f) (record { placed = record { answer = refl; ends_out = is.3; heads_out = refl }; marks_out = refl; nums_out = refl; symbols_out = is.4; work_out = is.5 });
  }

  pub first_accepted : {n : Read} → in_program r ≡ Ok n → {t : Result Both Refused} {e h jm jn s w : List ℕ} → JobOut t e h jm jn s w (job_behind runs program m2 n2 a2 n.tokens s2 n.symbols heads job jmarks jnums w2) →
      BothOut t m2 n2 e h jm jn s w (program_first runs program job marks nums ends heads jmarks jnums symbols work)
  unfolding program_first
  first_accepted f o = record { marks_out = is.1; nums_out = is.2; job = rw (← is.0, f, ← is.1, ← is.2, ← is.3, ← is.4, ← is.5) o }

-- what `read_both` answers and leaves
abbrev pub LeftBy : Result Both Refused → List ℕ → List ℕ → List ℕ → List ℕ → List ℕ → List ℕ → List ℕ → List ℕ → BothAnswer → Type 0
LeftBy t marks nums ends heads jmarks jnums symbols work w =
    (t ≡ w.job.placed.texts) × (marks ≡ w.marks) × (nums ≡ w.nums) × (ends ≡ w.job.placed.ends) × (heads ≡ w.job.placed.heads) × (jmarks ≡ w.job.jmarks) × (jnums ≡ w.job.jnums)
    × (symbols ≡ w.job.symbols) × (work ≡ w.job.work)

module _ (runs : Bool) (program job marks nums ends heads jmarks jnums symbols work : List ℕ) {b : Bool} (room : b ≡ both_roomy marks nums ends heads jmarks jnums symbols work) where
  pub both_roomy_lem : b ≡ true → {t : Result Both Refused} {m n e h jm jn s w : List ℕ} → BothOut t m n e h jm jn s w (program_first runs program job marks nums ends heads jmarks jnums symbols work) →
      LeftBy t m n e h jm jn s w (both_read runs program job marks nums ends heads jmarks jnums symbols work)
  unfolding both_read
  both_roomy_lem f o =
      rw (← room, f) (o.job.placed.answer, o.marks_out, o.nums_out, o.job.placed.ends_out, o.job.placed.heads_out, o.job.marks_out, o.job.nums_out, o.job.symbols_out, o.job.work_out)

  pub both_short : b ≡ false → LeftBy (Err Short) marks nums ends heads jmarks jnums symbols work (both_read runs program job marks nums ends heads jmarks jnums symbols work)
  unfolding both_read
  both_short f = rw (← room, f) (refl, refl, refl, refl, refl, refl, refl, refl, refl)
