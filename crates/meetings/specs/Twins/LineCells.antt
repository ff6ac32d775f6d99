-- A line in the answer storage, for cells of any content.
use Rattle.std.specs.Prelude.{ℕ, zero, suc, ◌+◌, ◌*◌, min, List, set}
use Rattle.sets.specs.Twins.Copying.{copied}
use Rattle.heap.specs.Twins.Entries.{nodes_from}
use Rattle.meetings.specs.Twins.Classes.{place_in, size_in, output_entry, wanted_entry}
use Rattle.meetings.specs.declared.class.Class.{Class}
use Rattle.meetings.specs.declared.line.Header.{Header}

-- a place, and what is left in the answer storage
pub record LineAnswer : Type 0 where
  pub top : ℕ
  pub answer : List ℕ

abbrev pub line_answer : ℕ → List ℕ → LineAnswer
line_answer k a = record { top = k; answer = a }

abbrev pub last_place : ℕ
last_place = 16777216

abbrev pub header_cells : Header → ℕ → List ℕ → List ℕ
header_cells h at a =
    set (set (set (set a at (min h.steps 65535)) (at + 1) (min h.ins 65535)) (at + 2) (min h.out 65535)) (at + 3) (min h.neqs 65535)

unfoldable pub header_put : Header → ℕ → List ℕ → LineAnswer
header_put h top a = line_answer (min top last_place + 4) (header_cells h (min top last_place) a)

unfoldable pub entry_put : ℕ → List ℕ → List ℕ → ℕ → List ℕ → LineAnswer
entry_put i h f top a = line_answer (min top last_place + size_in i f) (copied h (place_in i f).from (size_in i f) a (min top last_place)).cells

abbrev pub on_from : (ℕ → List ℕ → LineAnswer) → LineAnswer → LineAnswer
on_from again w = again w.top w.answer

-- n entries from i on
unfoldable pub entries_put : ℕ → ℕ → List ℕ → List ℕ → ℕ → List ℕ → LineAnswer
entries_put zero i h f top a = line_answer top a
entries_put (suc n) i h f top a = on_from (entries_put n (i + 1) h f) (entry_put i h f top a)

abbrev pub sides_put : ℕ → List ℕ → ℕ → List ℕ → LineAnswer
sides_put neqs q top a = line_answer (min top last_place + 2 * min neqs 2048) (copied q 0 (2 * min neqs 2048) a (min top last_place)).cells

abbrev pub header_of : Class → ℕ → List ℕ → Header
header_of c steps f = record { steps = steps; ins = nodes_from (min (wanted_entry c) 4120) 0 f; out = size_in (wanted_entry c) f; neqs = c.neqs }

unfoldable pub line_put : Class → ℕ → List ℕ → List ℕ → List ℕ → ℕ → List ℕ → LineAnswer
line_put c steps h f q top a = on_from (sides_put c.neqs q) (on_from (entries_put (output_entry c) 0 h f) (header_put (header_of c steps f) top a))
