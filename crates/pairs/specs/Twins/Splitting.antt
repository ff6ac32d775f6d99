-- The branches of a `cons?` on a `?e`, over cells of any content.
use Rattle.std.specs.Prelude.{ℕ, ◌+◌, ◌*◌, ◌%◌, cond, List, ltb, set, Option, Result, Some, None, Ok, Err}
use Rattle.restrictions.specs.declared.failure.Failure.{Failure}
use Rattle.restrictions.specs.declared.failure.Failure.TheVariants.{Over}
use Rattle.sets.specs.declared.counter.Fresh.{Fresh}
use Rattle.sets.specs.Twins.Counting.{handed}
use Rattle.runs.specs.Twins.Runs.{appended_pair}
use Rattle.heap.specs.Twins.Contracted.{contracted_entries}
use Rattle.heap.specs.Twins.Moving.{Move, moved}
use Rattle.heap.specs.Twins.Entries.{pushed}
use Rattle.heap.specs.declared.configuration.Configuration.{Configuration}
use Rattle.linking.specs.Twins.Code.{link_at}
use Rattle.looking.specs.Twins.Taking.{placed_as, parts_bound}

unfoldable pub filled_on : Configuration → Option ℕ → Result Configuration Failure
filled_on c (Some k) = Ok (placed_as c c.entries k c.place c.counter)
filled_on c None = Err Over

-- the run from a place up to what is used, for each x
unfoldable pub contracted_all : Configuration → ℕ → ℕ → List ℕ → List ℕ → Move
contracted_all c x from h f = let w = contracted_entries 0 c.entries x from c.used c.used h f in moved (filled_on c w.answer) w.heap w.frame

unfoldable pub bound_contracted : Configuration → ℕ → ℕ → ℕ → ℕ → Option ℕ → List ℕ → List ℕ → Move
bound_contracted c x used place next (Some n) h f = contracted_all (placed_as c n used place next) x c.used h f
bound_contracted c x used place next None h f = moved (Err Over) h f

unfoldable pub pair_made : List ℕ → Configuration → ℕ → ℕ → ℕ → ℕ → List ℕ → List ℕ → Move
pair_made code c x head tail next h f =
    let w = parts_bound c.entries (c.used + 1) (c.used + 2) (c.used + 3) f in
    cond (ltb 65532 c.used) (moved (Err Over) h f)
    (bound_contracted c x (c.used + 3) (link_at code c.place).first next w.answer (appended_pair head tail c.used h).cells w.frame)

unfoldable pub atom_made : List ℕ → Configuration → ℕ → ℕ → ℕ → List ℕ → List ℕ → Move
atom_made code c x atom next h f =
    let w = pushed c.entries 0 c.used (c.used + 1) f in
    cond (ltb 65534 c.used) (moved (Err Over) h f) (bound_contracted c x (c.used + 1) (link_at code c.place).second next w.answer (set h c.used atom) w.frame)

-- the code of a variable
abbrev pub code_of : ℕ → ℕ → ℕ
code_of n tag = 4 * (n % 16384) + tag

abbrev pub pair_split_by : List ℕ → Configuration → ℕ → Option Fresh → List ℕ → List ℕ → Move
pair_split_by code c x (Some v) h f = pair_made code c x (code_of v.head 2) (code_of v.tail 2) v.next.next h f
pair_split_by code c x None h f = moved (Err Over) h f

abbrev pub atom_split_by : List ℕ → Configuration → ℕ → Option Fresh → List ℕ → List ℕ → Move
atom_split_by code c x (Some v) h f = atom_made code c x (code_of v.atom 3) v.next.next h f
atom_split_by code c x None h f = moved (Err Over) h f

unfoldable pub pair_split : List ℕ → Configuration → ℕ → List ℕ → List ℕ → Move
pair_split code c x h f = pair_split_by code c x (handed c.counter) h f

unfoldable pub atom_split : List ℕ → Configuration → ℕ → List ℕ → List ℕ → Move
atom_split code c x h f = atom_split_by code c x (handed c.counter) h f
