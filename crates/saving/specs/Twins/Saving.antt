-- Saving and going back, for cells of any content.
use Rattle.std.specs.Prelude.{ℕ, zero, suc, ◌+◌, ◌-◌, ◌/◌, min, Bool, cond, ◌&&◌, List, leb, ltb}
use Rattle.sets.specs.Twins.Copying.{copied}
use Rattle.saving.specs.Twins.Heads.{entry_cells, side_cells, head_stored, head_start, node_at, used_at, depth_at, begins_at}
use Rattle.saving.specs.declared.head.Node.{Node}
use Rattle.saving.specs.declared.saved.Back.{Back}

abbrev pub size_of : Node → ℕ
size_of n = entry_cells n.at.entries + side_cells n.at.neqs + 9

-- entries, non-equalities, numbers
unfoldable pub stored : List ℕ → List ℕ → Node → ℕ → List ℕ → List ℕ
stored f q n at s =
    head_stored n (min at 16384 + entry_cells n.at.entries + side_cells n.at.neqs)
    (copied q 0 (side_cells n.at.neqs) (copied f 0 (entry_cells n.at.entries) s (min at 16384)).cells (min at 16384 + entry_cells n.at.entries)).cells

-- half as much again where many choices lie between a record and the one before it
unfoldable pub allowed_at : List ℕ → ℕ → ℕ → ℕ
allowed_at s used t = cond (ltb (min (depth_at s (begins_at s t)) 65535 + 8) (depth_at s t)) (min used 65535 + min used 65535 / 2) (min used 65535)

abbrev pub is_low : List ℕ → ℕ → ℕ → ℕ → Bool
is_low s size used t = leb t size && leb (used_at s t) (allowed_at s used t)

-- the top without newer records; fuel for as many of them as can be
unfoldable pub older_from : List ℕ → ℕ → ℕ → ℕ → ℕ → ℕ → ℕ
older_from s base size used zero t = base
older_from s base size used (suc fuel) t = cond (ltb base t) (cond (is_low s size used t) t (older_from s base size used fuel (begins_at s t))) base

abbrev pub older_top : List ℕ → ℕ → ℕ → ℕ → ℕ → ℕ
older_top s base size used t = older_from s base size used t t

abbrev pub older_used : List ℕ → ℕ → ℕ → ℕ
older_used s top base = older_top s base 16384 16384 top

abbrev pub place_for : List ℕ → ℕ → ℕ → ℕ → ℕ
place_for s size top base = cond (leb size (16384 - min top 16384)) (min top 16384) (older_top s base 8192 65535 (min top 16384))

-- a top, and what is left in the storage
pub record SaveLeft : Type 0 where
  pub top : ℕ
  pub saved : List ℕ

abbrev pub save_left : ℕ → List ℕ → SaveLeft
save_left t s = record { top = t; saved = s }

abbrev pub saved_at : List ℕ → List ℕ → Node → ℕ → List ℕ → SaveLeft
saved_at f q n t s = cond (leb (size_of n) (16384 - t)) (save_left (t + size_of n) (stored f q n t s)) (save_left t s)

unfoldable pub saved_to : List ℕ → List ℕ → Node → ℕ → ℕ → List ℕ → SaveLeft
saved_to f q n top base s = saved_at f q n (min (place_for s (size_of n) top base) 16384) s

-- a node, and what is left in the two storages
pub record LoadLeft : Type 0 where
  pub back : Back
  pub frame : List ℕ
  pub q : List ℕ

abbrev pub load_left : Back → List ℕ → List ℕ → LoadLeft
load_left b f q = record { back = b; frame = f; q = q }

abbrev pub loaded_by : List ℕ → ℕ → Node → ℕ → List ℕ → List ℕ → LoadLeft
loaded_by s h n from f q =
    load_left (record { node = n; top = from }) (copied s from (entry_cells n.at.entries) f 0).cells (copied s (h - side_cells n.at.neqs) (side_cells n.at.neqs) q 0).cells

unfoldable pub loaded : List ℕ → ℕ → List ℕ → List ℕ → LoadLeft
loaded s top f q = loaded_by s (head_start top) (node_at s (head_start top)) (begins_at s top) f q
