-- The perfect process tree (001, section 6.1) to a depth, and the listing that is read off it (section 6.3).
use Rattle.std.specs.Prelude.{ℕ, zero, suc, ◌+◌, Bool, true, false, List, [], ◌∷◌, ◌++◌}
use Rattle.std.proofs.Math.Option.{Option, none, some}
use Rattle.expressions.specs.Expression.{Exp}
use Rattle.expressions.specs.Contraction.{CRPair}
use Rattle.expressions.specs.Class.{IOClass}
use Rattle.expressions.specs.Intersection.{meeting, Intersected, common, disjoint, too_large, unify, intersect, no_limit}
use Rattle.language.specs.Program.{Prog}
use Rattle.semantics.specs.Configuration.{Configuration, start}
use Rattle.semantics.specs.Trace.{Successors, terminal, called, branches, successors}

-- A node of the tree: a configuration, the transitions from the start to it, and the decisions among these, first one first.
pub record Node : Type 0 where
  pub conf : Configuration
  pub steps : ℕ
  pub trail : List Bool

abbrev pub root : Configuration → Node
root c = record { conf = c; steps = 0; trail = [] }

abbrev pub after_call : Node → Configuration → Node
after_call x c = record { conf = c; steps = suc x.steps; trail = x.trail }

abbrev pub after_decision : Node → Bool → Configuration → Node
after_decision x b c = record { conf = c; steps = suc x.steps; trail = x.trail ++ (b ∷ []) }

pub data Tree : Type 0 where
  -- "A branch that contradicts is no transition."
  absent : Tree
  -- an end, with its output
  end : Node → Exp → Tree
  -- a node so deep that no further transition is made, and no end
  unfinished : Node → Tree
  call : Tree → Tree
  decision : Tree → Tree → Tree

abbrev pub branch : (Node → Tree) → Node → Bool → Option Configuration → Tree
branch f x b none = absent
branch f x b (some c) = f (after_decision x b c)

-- "goes N transitions deep": n are left
unfoldable pub tree_from : Prog → ℕ → Node → Successors → Tree
tree_from p zero x (terminal u) = end x u
tree_from p zero x (called c) = unfinished x
tree_from p zero x (branches a b) = unfinished x
tree_from p (suc n) x (terminal u) = end x u
tree_from p (suc n) x (called c) = call (tree_from p n (after_call x c) (successors p c))
tree_from p (suc n) x (branches a b) =
    decision (branch (λ y. tree_from p n y (successors p y.conf)) x true a) (branch (λ y. tree_from p n y (successors p y.conf)) x false b)

abbrev pub tree : Prog → ℕ → Node → Tree
tree p n x = tree_from p n x (successors p x.conf)

-- "It counts each transition of the tree once": the tree's edges, with the one that leads to it
abbrev pub edge_to : Tree → ℕ
edge_to absent = 0
edge_to (end x u) = 1
edge_to (unfinished x) = 1
edge_to (call t) = 1
edge_to (decision s t) = 1

abbrev pub edges : Tree → ℕ
edges absent = 0
edges (end x u) = 0
edges (unfinished x) = 0
edges (call t) = edge_to t + edges t
edges (decision s t) = (edge_to s + edges s) + (edge_to t + edges t)

pub record Leaf : Type 0 where
  pub node : Node
  pub output : Exp

-- "depth first, true branch first"
abbrev pub leaves : Tree → List Leaf
leaves absent = []
leaves (end x u) = record { node = x; output = u } ∷ []
leaves (unfinished x) = []
leaves (call t) = leaves t
leaves (decision s t) = leaves s ++ leaves t

abbrev pub unfinished_nodes : Tree → List Node
unfinished_nodes absent = []
unfinished_nodes (end x u) = []
unfinished_nodes (unfinished x) = x ∷ []
unfinished_nodes (call t) = unfinished_nodes t
unfinished_nodes (decision s t) = unfinished_nodes s ++ unfinished_nodes t

-- A line: "A line's steps are those from the start to its end", and the class that the intersection left.
pub record Line : Type 0 where
  pub steps : ℕ
  pub class : IOClass

-- "At an end, the output u meets the wanted w, itself under the path's substitution."
abbrev pub meeting_at : Node → Exp → CRPair meeting
meeting_at x u = record { con = record { io = x.conf.cr.con.io; output = u }; neqs = x.conf.cr.neqs }

abbrev pub line_of : ℕ → Intersected → List Line
line_of s (common P) = record { steps = s; class = P } ∷ []
line_of s disjoint = []
line_of s too_large = []

abbrev pub leaf_lines : Leaf → List Line
leaf_lines l = line_of l.node.steps (intersect no_limit (meeting_at l.node l.output))

abbrev pub leaves_lines : List Leaf → List Line
leaves_lines [] = []
leaves_lines (l ∷ ls) = leaf_lines l ++ leaves_lines ls

abbrev pub any_of : {A : Type 0} → List A → Bool
any_of [] = false
any_of (x ∷ xs) = true

-- what is read off a tree: "cut if a configuration N deep is no end, else .. whole"
pub record Listing : Type 0 where
  pub lines : List Line
  pub cut : Bool
  pub count : ℕ

abbrev pub listing_of : Tree → Listing
listing_of t = record { lines = leaves_lines (leaves t); cut = any_of (unfinished_nodes t); count = edges t }

-- "A contradictory job has no start: whole, no lines, 0 transitions."
abbrev pub tree_of : Prog → ℕ → Option Configuration → Tree
tree_of p n none = absent
tree_of p n (some c) = tree p n (root c)

unfoldable pub listing : Prog → ℕ → IOClass → Listing
unfolding tree_from unify
listing p n j = listing_of (tree_of p n (start p j))
