-- The letter and offset of an answer, which is refused or not (01, "Printing, and cases"), and the refusal that a number and these say.
use Rattle.std.specs.Prelude.{ℕ, cond, List, Ok, Err, Result, eqb, get_or}
use Rattle.refusals.specs.RefusalNumbers as refused
use Rattle.refusals.specs.declared.refusal.Refused.{Refused}
use Rattle.refusals.specs.declared.refusal.Refused.TheVariants.{Program, Job, Short}

-- where nothing is refused 0
abbrev pub letter_of : {A : Type 0} → Result A Refused → ℕ
letter_of (Ok a) = 0
letter_of (Err r) = refused.letter_of r

abbrev pub offset_of : {A : Type 0} → Result A Refused → ℕ
offset_of (Ok a) = 0
offset_of (Err r) = refused.offset_of r

-- the refusal with this number and these values, letter and offset first; 20 has none. Where they are those of no refusal, a
abbrev pub unless_refused : {A : Type 0} → ℕ → List ℕ → A → Result A Refused
unless_refused number said a =
    cond (eqb number 20) (Err Short)
    (cond (eqb (get_or said 0 0) 112) (Err (Program (record { number = number; offset = get_or said 1 0 })))
    (cond (eqb (get_or said 0 0) 106) (Err (Job (record { number = number; offset = get_or said 1 0 })))
    (Ok a)))
