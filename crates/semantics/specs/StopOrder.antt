-- Which stop comes, and what is found before it: the first in the order of the walk (01, "The walk": "depth first, true branch first"; "after 21 to
-- 23 the lines found before"). specs/Stops.antt says when a stop may come at all; here a walk's word, lines and count are determined.
use Rattle.std.specs.Prelude.{ℕ, zero, suc, ◌+◌, ◌≤◌, ◌<◌, ◌≡◌, Bool, true, false, ◌||◌, List, [], ◌∷◌, ◌++◌, ◌⊎◌, ◌↔◌, length}
use Rattle.std.proofs.Math.Option.{Option, none, some}
use Rattle.expressions.specs.Expression.{Exp}
use Rattle.expressions.specs.Class.{IOClass, nodes_class}
use Rattle.expressions.specs.Intersection.{Intersected, common, disjoint, too_large, intersect}
use Rattle.language.specs.Program.{Prog}
use Rattle.semantics.specs.Lists.{All, Any, AllPairs}
use Rattle.semantics.specs.Configuration.{Configuration, start}
use Rattle.semantics.specs.Figure10.{Derivation, Terminal}
use Rattle.semantics.specs.Trace.{Successors, terminal, called, branches, successors}
use Rattle.semantics.specs.Tree.{Node, root, after_call, after_decision, Line, meeting_at, leaf_lines}
use Rattle.semantics.specs.Walk.{state_over, meeting_over, Limits, Stop, stop21, stop22, stop23, Walked, cut, stop, word_of, lines_of, count_of}
use Rattle.semantics.specs.Demand2.{Before}
use Rattle.semantics.specs.Demand3.{Unstopped}
use Rattle.semantics.specs.Stops.{lines_nodes}

-- a configuration of the tree as the walk comes to it; an end with its output
pub record Visit : Type 0 where
  pub node : Node
  pub output : Option Exp

abbrev pub output_of : Successors → Option Exp
output_of (terminal u) = some u
output_of (called c) = none
output_of (branches a b) = none

abbrev pub visit_of : Node → Successors → Visit
visit_of x S = record { node = x; output = output_of S }

abbrev pub visits_branch : (Node → List Visit) → Node → Bool → Option Configuration → List Visit
visits_branch f x b none = []
visits_branch f x b (some c) = f (after_decision x b c)

-- all of them, "depth first, true branch first", n transitions deep
unfoldable pub visits_from : Prog → ℕ → Node → Successors → List Visit
visits_from p zero x S = visit_of x S ∷ []
visits_from p (suc n) x (terminal u) = visit_of x (terminal u) ∷ []
visits_from p (suc n) x (called c) = visit_of x (called c) ∷ visits_from p n (after_call x c) (successors p c)
visits_from p (suc n) x (branches a b) =
    visit_of x (branches a b) ∷ (visits_branch (λ y. visits_from p n y (successors p y.conf)) x true a ++ visits_branch (λ y. visits_from p n y (successors p y.conf)) x false b)

abbrev pub visits_of : Prog → ℕ → Option Configuration → List Visit
visits_of p n none = []
visits_of p n (some c) = visits_from p n (root c) (successors p c)

abbrev pub visits : Prog → ℕ → IOClass → List Visit
visits p n j = visits_of p n (start p j)

-- every one but the start is come to by a transition
abbrev pub transitions : List Visit → ℕ
transitions [] = 0
transitions (v ∷ vs) = length vs

abbrev pub is_too_large : Intersected → Bool
is_too_large (common P) = false
is_too_large disjoint = false
is_too_large too_large = true

abbrev pub meeting_is_over : Node → Option Exp → Bool
meeting_is_over x none = false
meeting_is_over x (some u) = is_too_large (intersect meeting_over (meeting_at x u))

-- "21 over 4,096 nodes: at the start, after a transition, at the start of an intersection or after a binding"
abbrev pub over_at : Visit → Bool
over_at v = state_over v.node.conf.cr || meeting_is_over v.node v.output

-- the line of an end, if it has one
abbrev pub output_lines : Node → Option Exp → List Line
output_lines x none = []
output_lines x (some u) = leaf_lines (record { node = x; output = u })

abbrev pub lines_at : Visit → List Line
lines_at v = output_lines v.node v.output

abbrev pub visits_lines : List Visit → List Line
visits_lines [] = []
visits_lines (v ∷ vs) = lines_at v ++ visits_lines vs

-- where a walk halts: it has passed some configurations, none of them over the limit, and found their lines
pub record Halt (vs : List Visit) (lines : List Line) : Type 0 where
  pub passed : List Visit
  pub at : Visit
  pub behind : List Visit
  pub visits_are : vs ≡ passed ++ (at ∷ behind)
  pub under : All (λ v. over_at v ≡ false) passed
  pub lines_are : lines ≡ visits_lines passed

-- 21 at a configuration over the limit; 22 at an end whose line does not fit; 23 before a transition that would be number W+1
abbrev pub HaltsBy : Stop → Limits → List Visit → List Line → ℕ → Type 0
HaltsBy stop21 lim vs lines count = (h : Halt vs lines) × (over_at h.at ≡ true) × (count ≡ length h.passed)
HaltsBy stop22 lim vs lines count = (h : Halt vs lines) × (over_at h.at ≡ false) × (count ≡ length h.passed) ×
    ((l : Line) × (lines_at h.at ≡ l ∷ []) × ((length lines ≡ lim.table) ⊎ (16384 < lines_nodes lines + nodes_class l.class)))
HaltsBy stop23 lim vs lines count = (h : Halt vs lines) × (length h.passed ≡ suc lim.walk) × (count ≡ lim.walk)

-- "a configuration N deep is no end"
abbrev pub Unfinished : ℕ → Visit → Type 0
Unfinished n v = (v.node.steps ≡ n) × (v.output ≡ none)

-- the word, the lines and the count of the walk, with nothing left open (proofs/StopUniqueness.antt, `in-order-unique`)
pub record InOrder (p : Prog) (n : ℕ) (j : IOClass) (lim : Limits) (w : Walked) : Type 0 where
  pub halts : (z : Stop) → word_of w ≡ stop z → HaltsBy z lim (visits p n j) (lines_of w) (count_of w)
  pub ends : Unstopped (word_of w) →
      All (λ v. over_at v ≡ false) (visits p n j) × (lines_of w ≡ visits_lines (visits p n j)) × (count_of w ≡ transitions (visits p n j)) × ((word_of w ≡ cut) ↔ Any (Unfinished n) (visits p n j))
  pub within : (count_of w ≤ lim.walk) × (length (lines_of w) ≤ lim.table) × (lines_nodes (lines_of w) ≤ 16384)

-- by the rules of figure 10: a derivation of at most n transitions, and whether it comes to an end
abbrev pub EndsWith : Configuration → Option Exp → Type 0
EndsWith d none = (u : Exp) → Terminal d u → ⊥
EndsWith d (some u) = Terminal d u

pub record Derived (p : Prog) (n : ℕ) (c : Configuration) (v : Visit) : Type 0 where
  pub derivation : Derivation p v.node.conf c v.node.steps v.node.trail
  pub within : v.node.steps ≤ n
  pub output : EndsWith v.node.conf v.output

-- "depth first, true branch first": at the first different decision true before false, and along one path the shorter first
pub data Sooner (x y : Node) : Type 0 where
  apart : Before x.trail y.trail → Sooner x y
  along : (bs : List Bool) → y.trail ≡ x.trail ++ bs → x.steps < y.steps → Sooner x y

-- the configurations are exactly those of the rules, each once, in that order
pub record VisitsByTheRules (p : Prog) (n : ℕ) (c : Configuration) (vs : List Visit) : Type 0 where
  pub sound : All (Derived p n c) vs
  pub complete : (v : Visit) → Derived p n c v → Any (λ y. y ≡ v) vs
  pub sorted : AllPairs (λ x y. Sooner x.node y.node) vs
