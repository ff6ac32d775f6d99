-- What the cells of saved configurations hold: records, the oldest first.
use Rattle.std.specs.Prelude.{ℕ, ◌*◌, ◌≤◌, ◌<◌, ◌≡◌, List, [], ◌∷◌, ◌++◌, length, take}
use Rattle.heap.specs.declared.configuration.Configuration.{Configuration}
use Rattle.saving.specs.declared.head.Node.{Node}

-- a configuration with the steps and the choices that lead to it, the cells of its entries and those of its non-equalities
pub record Record : Type 0 where
  pub at : Configuration
  pub steps : ℕ
  pub depth : ℕ
  pub entries : List ℕ
  pub sides : List ℕ

abbrev pub node_of : Record → Node
node_of r = record { at = r.at; steps = r.steps; depth = r.depth }

-- a node with the cells that it has at the fronts of frame and q
abbrev pub record_of : List ℕ → List ℕ → Node → Record
record_of f q n = record { at = n.at; steps = n.steps; depth = n.depth; entries = take (3 * n.at.entries) f; sides = take (2 * n.at.neqs) q }

abbrev pub numbers_of : Record → List ℕ
numbers_of r =
    r.steps ∷ r.depth ∷ r.at.inputs ∷ r.at.outputs ∷ r.at.entries ∷ r.at.used ∷ r.at.neqs ∷ r.at.place ∷ r.at.counter ∷ []

unfoldable pub record_cells : Record → List ℕ
record_cells r = r.entries ++ (r.sides ++ numbers_of r)

unfoldable pub records_cells : List Record → List ℕ
records_cells [] = []
records_cells (r ∷ rs) = record_cells r ++ records_cells rs

-- its cells are those of as many entries and non-equalities as it has, and a cell has room for each of its numbers
pub record Fits (r : Record) : Type 0 where
  pub entries : length r.entries ≡ 3 * r.at.entries
  pub sides : length r.sides ≡ 2 * r.at.neqs
  pub in_frame : r.at.entries ≤ 4120
  pub in_q : r.at.neqs ≤ 2048
  pub steps : r.steps < 65536
  pub depth : r.depth < 65536
  pub inputs : r.at.inputs < 65536
  pub outputs : r.at.outputs < 65536
  pub used : r.at.used < 65536
  pub place : r.at.place < 65536

pub data AllFit : List Record → Type 0 where
  fit_none : AllFit []
  fit_more : {r : Record} {rs : List Record} → Fits r → AllFit rs → AllFit (r ∷ rs)

-- the storage holds these records up to `top`
pub record Holding (saved : List ℕ) (top : ℕ) (rs : List Record) : Type 0 where
  pub rest : List ℕ
  pub is : saved ≡ records_cells rs ++ rest
  pub size : top ≡ length (records_cells rs)
  pub whole : length saved ≡ 16384
  pub fits : AllFit rs
