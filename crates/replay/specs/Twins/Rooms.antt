-- Room for a transition: what each function of room.rt answers and leaves.
use Rattle.std.specs.Prelude.{ℕ, cond, List}
use Rattle.compaction.specs.Twins.Compacting.{compacted}
use Rattle.saving.specs.Twins.Heads.{used_at}
use Rattle.saving.specs.Twins.Saving.{older_used}
use Rattle.positions.specs.Twins.Positions.{positioned}
use Rattle.positions.specs.Twins.Used.{is_full, is_tight, with_used}
use Rattle.positions.specs.declared.position.Position.{Position}

unfoldable pub floor_top : ℕ → ℕ → ℕ → List ℕ → ℕ
floor_top used top base saved = cond (is_full used) (older_used saved top base) top

pub record RoomLeft : Type 0 where
  pub position : Position
  pub heap : List ℕ
  pub frame : List ℕ

abbrev pub room_left : Position → List ℕ → List ℕ → RoomLeft
room_left p h f = record { position = p; heap = h; frame = f }

-- behind the configuration that ends at t
abbrev pub together_behind : ℕ → Position → List ℕ → List ℕ → List ℕ → RoomLeft
together_behind t p saved h f =
    let c = p.node.at in
    let w = compacted c.entries (used_at saved t) c.used h f in
    room_left (positioned p.node (with_used c w.answer) t) w.heap w.frame

unfoldable pub made_room : ℕ → Position → List ℕ → List ℕ → List ℕ → RoomLeft
made_room base p saved h f =
    cond (is_tight p.node.at.used (used_at saved p.top)) (together_behind (floor_top p.node.at.used p.top base saved) p saved h f) (room_left p h f)
