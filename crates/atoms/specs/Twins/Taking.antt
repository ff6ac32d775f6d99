-- The transitions behind an `eqa?` over cells of any content.
use Rattle.std.specs.Prelude.{ℕ, List}
use Rattle.sets.specs.Twins.Contracting.{equality}
use Rattle.sets.specs.declared.contraction.Contraction.{Contraction as Coded}
use Rattle.sets.specs.declared.contraction.Contraction.TheVariants.{NonEqual}
use Rattle.heap.specs.Twins.Moving.{Left, contracted}
use Rattle.heap.specs.declared.configuration.Configuration.{Configuration}
use Rattle.linking.specs.Twins.Code.{link_at}

abbrev pub placed_at : ℕ → Configuration → Configuration
placed_at i c = record { inputs = c.inputs; outputs = c.outputs; entries = c.entries; used = c.used; neqs = c.neqs; place = i; counter = c.counter }

-- a contraction at a branch's place
unfoldable pub taken_by : Coded → ℕ → Configuration → List ℕ → List ℕ → List ℕ → Left
taken_by k i c h f q = contracted k (placed_at i c) h f q

-- at the link's true branch what makes the sides equal, at its false one their non-equality
unfoldable pub equal_taken : List ℕ → Configuration → ℕ → ℕ → List ℕ → List ℕ → List ℕ → Left
equal_taken code c x y h f q = taken_by (equality x y) (link_at code c.place).first c h f q

unfoldable pub unequal_taken : List ℕ → Configuration → ℕ → ℕ → List ℕ → List ℕ → List ℕ → Left
unequal_taken code c x y h f q = taken_by (NonEqual x y) (link_at code c.place).second c h f q
