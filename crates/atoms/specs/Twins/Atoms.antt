-- The sides of an `eqa?` over cells of any content.
use Rattle.std.specs.Prelude.{ℕ, ◌+◌, min, cond, List, eqb, leb, get_or}
use Rattle.heap.specs.Twins.Entries.{entry_from}
use Rattle.heap.specs.declared.configuration.Configuration.{Configuration}
use Rattle.linking.specs.Twins.Code.{link_at}
use Rattle.values.specs.Twins.Names.{names_from}
use Rattle.atoms.specs.declared.atom.Sides.{Sides}

-- the first cell of an entry's value; 0 past the last entry and past the heap
unfoldable pub first_cell : List ℕ → List ℕ → ℕ → ℕ
first_cell h f i = cond (leb 4120 i) 0 (cond (leb 65535 (entry_from f i)) 0 (get_or h (entry_from f i) 0))

-- a symbol's own cell, a name's value; 0 for any other token
unfoldable pub atom_at : List ℕ → List ℕ → List ℕ → ℕ → ℕ → ℕ
atom_at code h f base i =
    let l = link_at code i in
    cond (eqb l.mark 1) l.first (cond (eqb l.mark 2) (first_cell h f (min base 4120 + l.first)) 0)

unfoldable pub sides_at : List ℕ → List ℕ → List ℕ → Configuration → Sides
sides_at code h f c =
    let i = min c.place 4097 + 4 in
    record { left = atom_at code h f (names_from c) i; right = atom_at code h f (names_from c) (link_at code i).past }
