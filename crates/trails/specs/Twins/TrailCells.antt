-- The path in cells: what each function of trail.rt answers and leaves.
use Rattle.std.specs.Prelude.{ℕ, zero, suc, ◌+◌, ◌-◌, ◌%◌, min, Bool, true, false, cond, List, eqb, leb, get_or, set}

abbrev pub choice_cell : Bool → Bool → ℕ
choice_cell true true = 3
choice_cell true false = 1
choice_cell false true = 2
choice_cell false false = 0

abbrev pub taken_at : List ℕ → ℕ → Bool
taken_at path i = eqb (get_or path i 0 % 2) 1

abbrev pub pending_at : List ℕ → ℕ → Bool
pending_at path i = leb 2 (get_or path i 0)

unfoldable pub latest_pending : List ℕ → ℕ → ℕ
latest_pending path zero = 0
latest_pending path (suc d) = cond (pending_at path d) (suc d) (latest_pending path d)

pub record PathLeft : Type 0 where
  pub depth : ℕ
  pub path : List ℕ

abbrev pub path_left : ℕ → List ℕ → PathLeft
path_left d p = record { depth = d; path = p }

abbrev pub pushed : ℕ → Bool → Bool → List ℕ → PathLeft
pushed depth taken pending path = path_left (min depth 65535 + 1) (set path depth (choice_cell taken pending))

unfoldable pub backtracked : List ℕ → ℕ → PathLeft
backtracked path depth = let d = latest_pending path depth in cond (eqb d 0) (path_left 0 path) (path_left d (set path (d - 1) 0))
