-- The arguments of a call over cells of any content.
use Rattle.std.specs.Prelude.{ℕ, zero, suc, ◌+◌, ◌-◌, min, cond, List, ltb, Option, Some, None}
use Rattle.heap.specs.Twins.Entries.{pushed}
use Rattle.linking.specs.Twins.Code.{link_at}
use Rattle.values.specs.Twins.Values.{value_at}
use Rattle.values.specs.declared.value.Valued.{Valued}
use Rattle.calls.specs.declared.arguments.Argued.{Argued}

-- nodes with those of a range; more than 4,097 of either are all alike
abbrev pub counted : ℕ → ℕ → ℕ → ℕ
counted nodes from to = min nodes 4098 + min (to - from) 4098

-- entries, what is used of the heap, and nodes
abbrev pub tally : ℕ → ℕ → ℕ → Argued
tally entries used nodes = record { entries = entries; used = used; nodes = nodes }

abbrev pub taken_as : Option ℕ → ℕ → ℕ → Option Argued
taken_as (Some n) used nodes = cond (ltb 4097 nodes) None (Some (tally n used nodes))
taken_as None used nodes = None

pub record ArgueLeft : Type 0 where
  pub answer : Option Argued
  pub heap : List ℕ
  pub frame : List ℕ

abbrev pub argue_left : Option Argued → List ℕ → List ℕ → ArgueLeft
argue_left a h f = record { answer = a; heap = h; frame = f }

-- an entry for a value
abbrev pub entered : ℕ → ℕ → Option Valued → List ℕ → List ℕ → ArgueLeft
entered entries nodes (Some v) h f = let p = pushed entries v.known v.from v.to f in argue_left (taken_as p.answer v.used (counted nodes v.from v.to)) h p.frame
entered entries nodes None h f = argue_left None h f

-- on from an answer
abbrev pub onward_argue : (ℕ → ℕ → ℕ → List ℕ → List ℕ → ArgueLeft) → Option Argued → List ℕ → List ℕ → ArgueLeft
onward_argue again (Some a) h f = again a.entries a.used a.nodes h f
onward_argue again None h f = argue_left None h f

module _ (code : List ℕ) (base : ℕ) where
  unfoldable pub argument_at : ℕ → ℕ → ℕ → ℕ → List ℕ → List ℕ → ArgueLeft
  argument_at entries used nodes i h f = let v = value_at code f base used i h in entered entries nodes v.answer v.heap f

  -- `left` arguments from i on
  unfoldable pub arguments_at : ℕ → ℕ → ℕ → ℕ → ℕ → List ℕ → List ℕ → ArgueLeft
  arguments_at zero entries used nodes i h f = argue_left (Some (tally entries used nodes)) h f
  arguments_at (suc left) entries used nodes i h f = let a = argument_at entries used nodes i h f in onward_argue (λ e k m g u. arguments_at left e k m (link_at code i).past g u) a.answer a.heap a.frame
