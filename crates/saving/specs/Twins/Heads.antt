-- The numbers of a saved configuration, for cells of any content.
use Rattle.std.specs.Prelude.{ℕ, ◌+◌, ◌-◌, ◌*◌, min, List, [], ◌∷◌, get_or}
use Rattle.sets.specs.Twins.Copying.{copied}
use Rattle.saving.specs.declared.head.Node.{Node}

abbrev pub entry_cells : ℕ → ℕ
entry_cells n = 3 * min n 4120

abbrev pub side_cells : ℕ → ℕ
side_cells n = 2 * min n 2048

-- steps, depth and the configuration's struct
abbrev pub head_cells : Node → List ℕ
head_cells n =
    min n.steps 65535 ∷ min n.depth 65535 ∷ min n.at.inputs 65535 ∷ min n.at.outputs 65535 ∷ min n.at.entries 65535 ∷ min n.at.used 65535
    ∷ min n.at.neqs 65535 ∷ min n.at.place 65535 ∷ n.at.counter ∷ []

abbrev pub head_stored : Node → ℕ → List ℕ → List ℕ
head_stored n h s = (copied (head_cells n) 0 9 s h).cells

abbrev pub head_start : ℕ → ℕ
head_start top = min top 16384 - 9

abbrev pub number_at : List ℕ → ℕ → ℕ → ℕ
number_at s h k = get_or s (min h 16384 + k) 0

unfoldable pub node_at : List ℕ → ℕ → Node
node_at s h = record {
  at = record {
    inputs = number_at s h 2;
    outputs = number_at s h 3;
    entries = number_at s h 4;
    used = number_at s h 5;
    neqs = number_at s h 6;
    place = number_at s h 7;
    counter = number_at s h 8;
  };
  steps = number_at s h 0;
  depth = number_at s h 1;
}

abbrev pub depth_at : List ℕ → ℕ → ℕ
depth_at s top = number_at s (head_start top) 1

abbrev pub used_at : List ℕ → ℕ → ℕ
used_at s top = number_at s (head_start top) 5

-- where the record begins that ends at `top`
unfoldable pub begins_at : List ℕ → ℕ → ℕ
begins_at s top = head_start top - side_cells (number_at s (head_start top) 6) - entry_cells (number_at s (head_start top) 4)
