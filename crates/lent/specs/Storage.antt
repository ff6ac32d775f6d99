-- Lent storage: what each function of clear.rt, read.rt and room.rt answers and leaves.
use Rattle.std.specs.Prelude.{ℕ, Bool, true, false, cond, List, leb, ltb, length, replicate}

abbrev pub zeros : List ℕ → List ℕ
zeros s = replicate (length s) 0

abbrev pub roomy : List ℕ → List ℕ → List ℕ → List ℕ → List ℕ → Bool
roomy marks nums ats symbols names =
    cond (ltb (length marks) 4097) false
    (cond (ltb (length nums) 4097) false
    (cond (ltb (length ats) 4097) false
    (cond (ltb (length symbols) 2048) false
    (leb 8194 (length names)))))

abbrev short_of : ℕ → List ℕ → List ℕ → Bool
short_of least work answer = cond (ltb (length work) 8194) true (ltb (length answer) least)

abbrev pub short_for_lines : List ℕ → List ℕ → Bool
short_for_lines = short_of 17408

abbrev pub short_for_value : List ℕ → List ℕ → Bool
short_for_value = short_of 4096
