-- Entries of a frame, three cells each, for cells of any content.
use Rattle.std.specs.Prelude.{ℕ, zero, suc, ◌+◌, ◌-◌, ◌*◌, min, cond, List, leb, ltb, get_or, set, Option, Some, None}
use Rattle.std.proofs.lemmas.List.Edits.{sets}
use Rattle.runs.specs.Twins.Runs.{cells_at}

-- what is known of the value: 2 n + c, where n is how many cells the head of a pair has, c is 1 where no variable stands in it; 0 where it isn't known
abbrev pub entry_known : List ℕ → ℕ → ℕ
entry_known f i = get_or f (3 * i) 0

abbrev pub entry_from : List ℕ → ℕ → ℕ
entry_from f i = get_or f (3 * i + 1) 0

abbrev pub entry_to : List ℕ → ℕ → ℕ
entry_to f i = get_or f (3 * i + 2) 0

unfoldable pub entry : ℕ → ℕ → ℕ → ℕ → List ℕ → List ℕ
entry i known from to f = set (set (set f (3 * i) known) (3 * i + 1) (min from 65535)) (3 * i + 2) (min to 65535)

pub record PushAnswer : Type 0 where
  pub answer : Option ℕ
  pub frame : List ℕ

abbrev pub push_answer : Option ℕ → List ℕ → PushAnswer
push_answer a f = record { answer = a; frame = f }

unfoldable pub pushed : ℕ → ℕ → ℕ → ℕ → List ℕ → PushAnswer
pushed n known from to f = cond (leb 4120 n) (push_answer None f) (push_answer (Some (n + 1)) (entry n known from to f))

-- the cells of n entries, written at another entry's place
abbrev pub moved_down : ℕ → ℕ → ℕ → List ℕ → List ℕ
moved_down from n to f = sets f (3 * to) (cells_at (3 * n) (3 * from) f)

-- nothing where they are not all there
unfoldable pub moved_entries : ℕ → ℕ → ℕ → List ℕ → List ℕ
moved_entries from n to f = cond (ltb from to) f (cond (ltb 4120 from) f (cond (ltb (4120 - from) n) f (moved_down from n to f)))

-- the nodes of n entries from i on
unfoldable pub nodes_from : ℕ → ℕ → List ℕ → ℕ
nodes_from zero i f = 0
nodes_from (suc n) i f = (entry_to f i - entry_from f i) + nodes_from n (i + 1) f
