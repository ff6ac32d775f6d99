-- A call over cells of any content.
use Rattle.std.specs.Prelude.{ℕ, ◌+◌, min, List, Option, Some, None, Ok, Err}
use Rattle.restrictions.specs.declared.failure.Failure.TheVariants.{Over}
use Rattle.heap.specs.Twins.Entries.{moved_entries}
use Rattle.heap.specs.Twins.Moving.{Move, moved}
use Rattle.heap.specs.declared.configuration.Configuration.{Configuration}
use Rattle.linking.specs.Twins.Code.{link_at}
use Rattle.values.specs.Twins.Sizes.{kept_nodes}
use Rattle.calls.specs.Twins.Arguments.{arguments_at}
use Rattle.calls.specs.declared.arguments.Argued.{Argued}

unfoldable pub in_body : Configuration → ℕ → ℕ → ℕ → ℕ → Configuration
in_body c base n used body = record { inputs = c.inputs; outputs = c.outputs; entries = min base 4120 + min n 4120; used = used; neqs = c.neqs; place = body; counter = c.counter }

abbrev pub argued : Configuration → ℕ → ℕ → ℕ → Option Argued → List ℕ → List ℕ → Move
argued c base n body (Some a) h f = moved (Ok (in_body c base n a.used body)) h (moved_entries c.entries n base f)
argued c base n body None h f = moved (Err Over) h f

unfoldable pub called_to : List ℕ → ℕ → Configuration → List ℕ → List ℕ → Move
called_to code base c h f =
    let l = link_at code c.place in
    let a = arguments_at code base l.first c.entries c.used (kept_nodes base c.neqs f) (min c.place 4097 + 4) h f in
    argued c base l.first l.second a.answer a.heap a.frame
