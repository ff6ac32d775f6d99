-- What comes next in a run, over cells of any content.
use Rattle.std.specs.Prelude.{ℕ, min, Bool, cond, List, ltb}
use Rattle.heap.specs.Twins.Entries.{nodes_from}
use Rattle.heap.specs.declared.configuration.Configuration.{Configuration}
use Rattle.linking.specs.Twins.Code.{link_at}

-- the branch of a condition that is taken; the body of a call stands where a false branch does
abbrev pub next_place : List ℕ → ℕ → Bool → ℕ
next_place code i b = cond b (link_at code i).first (link_at code i).second

-- "A state whose term is an e is an end"
abbrev pub ends_at : List ℕ → ℕ → Bool
ends_at code i = ltb (link_at code i).mark 3

-- "21 over 4,096 nodes"; one node more is the symbol in the place of a wanted output
abbrev pub over_in : Configuration → List ℕ → Bool
over_in c f = ltb 4097 (nodes_from (min c.entries 4120) 0 f)
