-- Compaction, for cells of any content.
use Rattle.std.specs.Prelude.{ℕ, zero, suc, ◌+◌, ◌-◌, ◌*◌, min, cond, List, leb, ltb, get_or, Option, Some, None}
use Rattle.std.proofs.lemmas.List.Edits.{sets}
use Rattle.sets.specs.Twins.Fill.{FillAnswer, fill_answer}
use Rattle.runs.specs.Twins.Runs.{run, appended}
use Rattle.heap.specs.Twins.Entries.{entry, entry_from, entry_to}
use Rattle.heap.specs.Twins.Contracted.{Stores, stores, beside, onward_from}

-- the entry with the range of what was appended at `used`, as many cells lower as all is moved down at the end
abbrev pub relocated_frame : ℕ → ℕ → ℕ → Option ℕ → List ℕ → FillAnswer
relocated_frame i down used (Some k) f = fill_answer (Some k) (entry i (get_or f (3 * i) 0) (used - down) (k - down) f)
relocated_frame i down used None f = fill_answer None f

abbrev pub relocated_by : ℕ → ℕ → ℕ → List ℕ → FillAnswer → Stores
relocated_by i down used f w = beside w.cells (relocated_frame i down used w.answer f)

-- what lies below `floor` stays
unfoldable pub relocated_entry : ℕ → ℕ → ℕ → ℕ → List ℕ → List ℕ → Stores
relocated_entry i floor down used h f =
    cond (leb (entry_to f i) floor) (stores (Some used) h f) (relocated_by i down used f (appended (entry_from f i) (entry_to f i) used h))

-- `left` entries from i on
unfoldable pub relocated_from : ℕ → ℕ → ℕ → ℕ → ℕ → List ℕ → List ℕ → Stores
relocated_from zero i floor down used h f = stores (Some used) h f
relocated_from (suc left) i floor down used h f = onward_from (relocated_from left (i + 1) floor down) (relocated_entry i floor down used h f)

abbrev pub relocated_entries : ℕ → ℕ → ℕ → ℕ → List ℕ → List ℕ → Stores
relocated_entries n floor down used h f = relocated_from (min n 4120) 0 floor down used h f

-- a run written at a place before it
abbrev pub cells_moved : ℕ → ℕ → ℕ → List ℕ → List ℕ
cells_moved from to at h = sets h at (run from (min to 65535) h)

-- what is used, and what is left in the two storages
pub record Compaction : Type 0 where
  pub answer : ℕ
  pub heap : List ℕ
  pub frame : List ℕ

abbrev pub compaction : ℕ → List ℕ → List ℕ → Compaction
compaction a h f = record { answer = a; heap = h; frame = f }

abbrev pub moved_to : ℕ → ℕ → Option ℕ → List ℕ → List ℕ → Compaction
moved_to floor used (Some k) h f = compaction (k - (used - floor)) (cells_moved used k floor h) f
moved_to floor used None h f = compaction used h f

abbrev pub moved_stores : ℕ → ℕ → Stores → Compaction
moved_stores floor used w = moved_to floor used w.answer w.heap w.frame

unfoldable pub compacted : ℕ → ℕ → ℕ → List ℕ → List ℕ → Compaction
compacted n floor used h f = cond (ltb used floor) (compaction used h f) (moved_stores floor used (relocated_entries n floor (used - floor) used h f))
