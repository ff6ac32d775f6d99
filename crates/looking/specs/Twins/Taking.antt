-- The branches of a `cons?` on a pair and on an atom, over cells of any content.
use Rattle.std.specs.Prelude.{ℕ, List, Option, Result, Some, None, Ok, Err}
use Rattle.restrictions.specs.declared.failure.Failure.{Failure}
use Rattle.restrictions.specs.declared.failure.Failure.TheVariants.{Over}
use Rattle.heap.specs.Twins.Entries.{PushAnswer, push_answer, pushed}
use Rattle.heap.specs.declared.configuration.Configuration.{Configuration}
use Rattle.linking.specs.Twins.Code.{link_at}

unfoldable pub placed_as : Configuration → ℕ → ℕ → ℕ → ℕ → Configuration
placed_as c entries used place counter = record { inputs = c.inputs; outputs = c.outputs; entries = entries; used = used; neqs = c.neqs; place = place; counter = counter }

-- the two `e.` names, each with an entry behind those there are
abbrev pub bound_next : ℕ → ℕ → Option ℕ → List ℕ → PushAnswer
bound_next from to (Some n) f = pushed n 0 from to f
bound_next from to None f = push_answer None f

unfoldable pub parts_bound : ℕ → ℕ → ℕ → ℕ → List ℕ → PushAnswer
parts_bound entries from mid to f = let w = pushed entries 0 from mid f in bound_next mid to w.answer w.frame

unfoldable pub placed_with : Configuration → ℕ → ℕ → Option ℕ → Result Configuration Failure
placed_with c used place (Some n) = Ok (placed_as c n used place c.counter)
placed_with c used place None = Err Over

pub record Taken : Type 0 where
  pub answer : Result Configuration Failure
  pub frame : List ℕ

abbrev pub taken : Result Configuration Failure → List ℕ → Taken
taken a f = record { answer = a; frame = f }

unfoldable pub pair_taken : List ℕ → Configuration → ℕ → ℕ → ℕ → ℕ → List ℕ → Taken
pair_taken code c from mid to used f =
    let w = parts_bound c.entries from mid to f in taken (placed_with c used (link_at code c.place).first w.answer) w.frame

unfoldable pub atom_taken : List ℕ → Configuration → ℕ → ℕ → ℕ → List ℕ → Taken
atom_taken code c from to used f =
    let w = pushed c.entries 0 from to f in taken (placed_with c used (link_at code c.place).second w.answer) w.frame
