-- What meets, for cells of any content.
use Rattle.std.specs.Prelude.{ℕ, ◌+◌, ◌-◌, ◌*◌, min, cond, List, ltb, Option, Some, None, Result, Err}
use Rattle.std.specs.declared.ops.ControlFlow.{ControlFlow}
use Rattle.std.specs.declared.ops.ControlFlow.TheVariants.{Continue, Break}
use Rattle.restrictions.specs.declared.failure.Failure.{Failure}
use Rattle.restrictions.specs.declared.failure.Failure.TheVariants.{Over}
use Rattle.heap.specs.Twins.Entries.{entry_from, entry_to, nodes_from}
use Rattle.meetings.specs.declared.class.Class.{Class}
use Rattle.meetings.specs.declared.class.Place.{Place}

-- what is left; a contradiction is none, over is 21
abbrev pub Met : Type 0
Met = Result Class Failure

-- one binding on: the class now, or the end
abbrev pub Step : Type 0
Step = ControlFlow Met Class

unfoldable pub place_in : ℕ → List ℕ → Place
place_in i f = record { from = entry_from f (min i 4119); to = entry_to f (min i 4119) }

abbrev pub size_in : ℕ → List ℕ → ℕ
size_in i f = entry_to f (min i 4119) - entry_from f (min i 4119)

abbrev pub output_entry : Class → ℕ
output_entry c = min c.entries 4119

abbrev pub wanted_entry : Class → ℕ
wanted_entry c = min c.entries 4119 - 1

abbrev pub class_nodes : Class → List ℕ → ℕ
class_nodes c f = min (nodes_from (min (output_entry c + 1) 4120) 0 f) 4097 + 2 * min c.neqs 4097

abbrev pub sized_by : Class → List ℕ → Step
sized_by c f = cond (ltb 4096 (class_nodes c f)) (Break (Err Over)) (Continue c)

abbrev pub with_used : Class → ℕ → Class
with_used c k = record { entries = c.entries; used = k; neqs = c.neqs; floor = c.floor }

abbrev pub with_neqs : Class → ℕ → Class
with_neqs c n = record { entries = c.entries; used = c.used; neqs = n; floor = c.floor }

abbrev pub grown_by : Class → Option ℕ → List ℕ → Step
grown_by c (Some k) f = sized_by (with_used c k) f
grown_by c None f = Break (Err Over)

abbrev pub bindings_in : Class → List ℕ → ℕ
bindings_in c f = size_in (wanted_entry c) f + size_in (output_entry c) f + 1
