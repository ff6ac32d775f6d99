-- The check of a job by position (specs/Twins/JobCheckAt.antt) of stored tokens, n of the job and m of the program before it: what the functions
-- of the code come to. A numeral may be larger than a cell, so its value is read again from the text.
use Rattle.std.specs.Prelude.{ℕ, zero, suc, ◌+◌, ◌*◌, ◌-◌, Bool, cond, List, leb, ltb, length, get_or}
use Rattle.checker.specs.Twins.StoredAt.{key_at, tag_at, num_at, at_at}
use Rattle.checker.specs.Twins.CheckAt.{ahead}
use Rattle.job_checker.specs.Twins.JobCheckAt as at
use Rattle.verdicts.specs.declared.found.Walked.{Walked}
use Rattle.verdicts.specs.declared.found.Args.{Args}
use Rattle.verdicts.specs.Twins.Found.{Verdict}

-- "Numerals are base ten ... at most 7 digits": v is what the digits before come to, `left` how many more may stand
unfoldable pub numeral_from : List ℕ → ℕ → ℕ → ℕ → ℕ
numeral_from text zero i v = v
numeral_from text (suc left) i v =
    cond (ltb (get_or text i 0) 48) v
    (cond (ltb 57 (get_or text i 0)) v
    (cond (leb 1000000 v) v
    (numeral_from text left (ahead (length text) 1 i) (10 * v + (get_or text i 0 - 48)))))

-- the value of the numeral whose token is the one at i
abbrev pub val_at : List ℕ → List ℕ → ℕ → ℕ → ℕ
val_at text ats n i = numeral_from text 7 (at_at ats n i) 0

module _ (marks : List ℕ) (n : ℕ) where
  abbrev pub atomic_at : ℕ → Bool
  atomic_at i = at.atomic_at (key_at marks n) (tag_at marks n) i

module _ (marks nums : List ℕ) (n : ℕ) where
  abbrev pub marked_from : ℕ → ℕ → List ℕ → List ℕ
  marked_from left j cells = at.marked_from (tag_at marks n) (num_at nums n) left j cells

  abbrev pub side_at : List ℕ → ℕ → Bool
  side_at marked i = at.side_at (key_at marks n) (tag_at marks n) (num_at nums n) marked i

module _ (ats : List ℕ) (n : ℕ) where
  abbrev pub bounds_at : List ℕ → ℕ → Verdict
  bounds_at text c = at.bounds_at (at_at ats n) (val_at text ats n) n c

module _ (marks ats : List ℕ) (n : ℕ) (runs : Bool) where
  abbrev pub datum_leaf : ℕ → Walked
  datum_leaf i = at.datum_leaf (tag_at marks n) (at_at ats n) n runs i

  abbrev pub datum_at : ℕ → ℕ → Walked
  datum_at room i = at.datum_at (key_at marks n) (tag_at marks n) (at_at ats n) n runs room i

  abbrev pub input_at : List ℕ → ℕ → ℕ → ℕ → Walked
  input_at main m p i = at.input_at (key_at marks n) (tag_at marks n) (at_at ats n) n runs (key_at main m) (tag_at main m) m p i

  abbrev pub inputs_at : List ℕ → ℕ → ℕ → ℕ → Bool → Verdict → ℕ → Args
  inputs_at main m f p b v i = at.inputs_at (key_at marks n) (tag_at marks n) (at_at ats n) n runs (key_at main m) (tag_at main m) m f p b v i

  abbrev pub tens_at : List ℕ → ℕ → ℕ → Walked
  tens_at main m p = at.tens_at (key_at marks n) (tag_at marks n) (at_at ats n) n runs (key_at main m) (tag_at main m) m p

module _ (marks nums ats : List ℕ) (n : ℕ) (runs : Bool) where
  abbrev pub two_sides : List ℕ → ℕ → Walked
  two_sides marked i = at.two_sides (key_at marks n) (tag_at marks n) (num_at nums n) (at_at ats n) n runs marked i

  abbrev pub sides_at : ℕ → List ℕ → Verdict → ℕ → Walked
  sides_at f marked v i = at.sides_at (key_at marks n) (tag_at marks n) (num_at nums n) (at_at ats n) n runs f marked v i

  abbrev pub elevens_at : ℕ → Walked
  elevens_at a = at.elevens_at (key_at marks n) (tag_at marks n) (num_at nums n) (at_at ats n) n runs a

  -- main's parameters start at the program's fifth token
  abbrev pub job_at : List ℕ → List ℕ → ℕ → Verdict
  job_at text main m = at.job_at (key_at marks n) (tag_at marks n) (num_at nums n) (at_at ats n) (val_at text ats n) n (key_at main m) (tag_at main m) m runs 4
