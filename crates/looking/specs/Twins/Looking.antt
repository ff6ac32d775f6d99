-- What a `cons?` tests, over cells of any content.
use Rattle.std.specs.Prelude.{ℕ, ◌+◌, ◌/◌, ◌%◌, min, cond, List, eqb, ltb, get_or, Option, Some, None}
use Rattle.sets.specs.Twins.Copying.{tree_end}
use Rattle.heap.specs.declared.configuration.Configuration.{Configuration}
use Rattle.values.specs.Twins.Names.{names_from}
use Rattle.values.specs.Twins.Values.{value_at}
use Rattle.values.specs.declared.value.Valued.{Valued}
use Rattle.looking.specs.declared.look.Tested.{Tested}
use Rattle.looking.specs.declared.look.Tested.TheVariants.{Atom, Pair, Variable, Large}

-- the token where what is tested begins
abbrev pub test_at : Configuration → ℕ
test_at c = min c.place 4097 + 4

-- where the head ends that begins at a place and has n cells, where that is known
abbrev pub head_end_in : ℕ → ℕ → List ℕ → ℕ
head_end_in at n h = cond (eqb n 0) (tree_end h at) (min at 65535 + n)

-- a range by its first cell
abbrev pub tested_by : ℕ → ℕ → ℕ → ℕ → ℕ → List ℕ → Tested
tested_by x from to used known h = cond (eqb x 4) (Pair (from + 1) (min (head_end_in (from + 1) (known / 2) h) to) to used) (cond (eqb (x % 4) 2) (Variable x) (Atom from to used))

unfoldable pub tested_at : ℕ → ℕ → ℕ → ℕ → List ℕ → Tested
tested_at from to used known h = cond (ltb 65534 from) Large (tested_by (get_or h from 0) from to used known h)

pub record LookLeft : Type 0 where
  pub answer : Tested
  pub heap : List ℕ

abbrev pub look_left : Tested → List ℕ → LookLeft
look_left t h = record { answer = t; heap = h }

abbrev pub tested_value : Option Valued → List ℕ → Tested
tested_value (Some v) h = tested_at v.from v.to v.used v.known h
tested_value None h = Large

unfoldable pub look_at : List ℕ → Configuration → List ℕ → List ℕ → LookLeft
look_at code c h f = let v = value_at code f (names_from c) c.used (test_at c) h in look_left (tested_value v.answer v.heap) v.heap
