-- A contraction of entries, for cells of any content.
use Rattle.std.specs.Prelude.{ℕ, zero, suc, ◌+◌, ◌-◌, ◌*◌, ◌%◌, min, cond, List, eqb, get_or, set, Option, Some, None}
use Rattle.sets.specs.Twins.Fill.{FillAnswer, fill_answer}
use Rattle.codes.specs.Twins.Knowing.{known_after, closed_as}
use Rattle.runs.specs.Twins.Runs.{ReplaceAnswer, replaced}
use Rattle.codes.specs.declared.outcome.Replaced.{Replaced}
use Rattle.codes.specs.declared.outcome.Replaced.TheVariants.{Closed, Open, Done as ReplacedDone, Over as ReplacedOver}
use Rattle.heap.specs.Twins.Entries.{entry, entry_known, entry_from, entry_to}

-- an answer, and what is left in the two storages
pub record Stores : Type 0 where
  pub answer : Option ℕ
  pub heap : List ℕ
  pub frame : List ℕ

abbrev pub stores : Option ℕ → List ℕ → List ℕ → Stores
stores a h f = record { answer = a; heap = h; frame = f }

-- the entry by what became of its range
abbrev pub entered_frame : ℕ → ℕ → ℕ → ℕ → Replaced → List ℕ → FillAnswer
entered_frame i known size used Closed f = fill_answer (Some used) (set f (3 * i) (closed_as known))
entered_frame i known size used Open f = fill_answer (Some used) f
entered_frame i known size used (ReplacedDone k) f = fill_answer (Some k) (entry i (known_after known size) used k f)
entered_frame i known size used ReplacedOver f = fill_answer None f

-- the entry of a leaf
abbrev pub leaf_entered : ℕ → ℕ → ℕ → ℕ → ℕ → List ℕ → List ℕ
leaf_entered i c x vfrom vto f = cond (eqb c x) (entry i 0 vfrom vto f) f

abbrev pub beside : List ℕ → FillAnswer → Stores
beside h w = stores w.answer h w.cells

abbrev pub entered_replaced : ℕ → ℕ → ℕ → List ℕ → ReplaceAnswer → Stores
entered_replaced i size used f w = beside w.cells (entered_frame i (entry_known f i) size used w.answer f)

unfoldable pub contracted_entry : ℕ → ℕ → ℕ → ℕ → ℕ → List ℕ → List ℕ → Stores
contracted_entry i x vfrom vto used h f =
    cond (eqb (entry_known f i % 2) 1) (stores (Some used) h f)
    (cond (eqb (entry_to f i - entry_from f i) 1) (stores (Some used) h (leaf_entered i (get_or h (entry_from f i) 0) x vfrom vto f))
    (entered_replaced i (vto - vfrom) used f (replaced (entry_from f i) (entry_to f i) x vfrom vto used h)))

-- on from an answer
abbrev pub onward : (ℕ → List ℕ → List ℕ → Stores) → Option ℕ → List ℕ → List ℕ → Stores
onward again (Some k) h f = again k h f
onward again None h f = stores None h f

abbrev pub onward_from : (ℕ → List ℕ → List ℕ → Stores) → Stores → Stores
onward_from again w = onward again w.answer w.heap w.frame

-- `left` entries from i on
unfoldable pub contracted_from : ℕ → ℕ → ℕ → ℕ → ℕ → ℕ → List ℕ → List ℕ → Stores
contracted_from zero i x vfrom vto used h f = stores (Some used) h f
contracted_from (suc left) i x vfrom vto used h f = onward_from (contracted_from left (i + 1) x vfrom vto) (contracted_entry i x vfrom vto used h f)

abbrev pub contracted_entries : ℕ → ℕ → ℕ → ℕ → ℕ → ℕ → List ℕ → List ℕ → Stores
contracted_entries first last x vfrom vto used h f = contracted_from (min last 4120 - first) first x vfrom vto used h f
