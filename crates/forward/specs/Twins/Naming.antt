-- The value of a name at an end, worked out in the environment before it, over cells of any content.
use Rattle.std.specs.Prelude.{ℕ, zero, suc, ◌+◌, cond, List, eqb, ltb, Some, None}
use Rattle.heap.specs.declared.configuration.Configuration.{Configuration}
use Rattle.linking.specs.Twins.Code.{link_at}
use Rattle.values.specs.Twins.Names.{names_from, names_in}
use Rattle.values.specs.Twins.Values.{ValueLeft, valued, value_left, value_at}
use Rattle.looking.specs.Twins.Looking.{test_at}
use Rattle.looking.specs.declared.look.Tested.{Tested}
use Rattle.looking.specs.declared.look.Tested.TheVariants.{Atom, Pair, Variable, Large}
use Rattle.tracing.specs.declared.ask.Asked.{Asked}
use Rattle.tracing.specs.declared.ask.Asked.TheVariants.{End, Call, Same, Test}

-- the index of an argument, so many behind the one at i
unfoldable pub argument_from : List ℕ → ℕ → ℕ → ℕ
argument_from code zero i = i
argument_from code (suc q) i = argument_from code q (link_at code i).past

-- the value of the expression at i
abbrev pub own_at : List ℕ → Configuration → ℕ → List ℕ → List ℕ → ValueLeft
own_at code c i h f = value_at code f (names_from c) c.used i h

-- of a parameter: that of the argument with its place
abbrev pub argument_named : List ℕ → Configuration → ℕ → List ℕ → List ℕ → ValueLeft
argument_named code c q h f = own_at code c (argument_from code q (test_at c)) h f

-- of a part of the `cons` that is tested
abbrev pub part_index : List ℕ → Configuration → ℕ → ℕ → ℕ
part_index code c q j = cond (ltb q (names_in c)) j (cond (eqb q (names_in c)) (test_at c + 2) (link_at code (test_at c + 2)).past)

-- by what a `cons?` tests
unfoldable pub tested_named : List ℕ → Configuration → Tested → ℕ → ℕ → List ℕ → List ℕ → ValueLeft
tested_named code c (Atom from to used) q j h f = cond (ltb q (names_in c)) (own_at code c j h f) (value_left (Some (valued from to used 0)) h)
tested_named code c (Pair from mid to used) q j h f =
    cond (ltb q (names_in c)) (own_at code c j h f) (cond (eqb q (names_in c)) (value_left (Some (valued from mid used 0)) h) (value_left (Some (valued mid to used 0)) h))
tested_named code c (Variable x) q j h f = value_left None h
tested_named code c Large q j h f = own_at code c (part_index code c q j) h f

-- by what the term before the end asks; the name's token stands at j
abbrev pub named_by : List ℕ → Configuration → Asked → ℕ → ℕ → List ℕ → List ℕ → ValueLeft
named_by code c End q j h f = own_at code c j h f
named_by code c Call q j h f = argument_named code c q h f
named_by code c (Same x y) q j h f = own_at code c j h f
named_by code c (Test t) q j h f = tested_named code c t q j h f

unfoldable pub named_at : List ℕ → Configuration → Asked → ℕ → List ℕ → List ℕ → ValueLeft
named_at code c a j h f = named_by code c a (link_at code j).first j h f
