-- The walk with its stops (01, "The walk and what stops it"): a machine over the list of untaken transitions.
use Rattle.std.specs.Prelude.{ℕ, zero, suc, ◌+◌, Bool, true, false, cond, ◌||◌, List, [], ◌∷◌, ◌++◌, leb, ltb, length}
use Rattle.std.proofs.Math.Option.{Option, none, some}
use Rattle.expressions.specs.Contraction.{CRPair}
use Rattle.expressions.specs.Class.{IOClass, nodes_class}
use Rattle.expressions.specs.Intersection.{meeting, Intersected, common, disjoint, too_large, unify, intersect, nodes_meeting}
use Rattle.language.specs.Program.{Prog}
use Rattle.semantics.specs.Configuration.{state, Configuration, start, nodes_state}
use Rattle.semantics.specs.Trace.{Successors, terminal, called, branches, successors_of, successors}
use Rattle.semantics.specs.Tree.{Node, root, after_call, after_decision, Line, meeting_at}

-- "21 over 4,096 nodes"
abbrev pub node_limit : ℕ
node_limit = 4096

abbrev pub state_over : CRPair state → Bool
state_over P = ltb node_limit (nodes_state P)

abbrev pub meeting_over : CRPair meeting → Bool
meeting_over P = ltb node_limit (nodes_meeting P)

-- "22 .. over 16,384 nodes"
abbrev pub line_limit : ℕ
line_limit = 16384

-- W and T
pub record Limits : Type 0 where
  pub walk : ℕ
  pub table : ℕ

pub data Stop : Type 0 where
  stop21 stop22 stop23 : Stop

-- an untaken transition: the node that it leads to, and how much deeper the walk may go from there
pub record Untaken : Type 0 where
  pub left : ℕ
  pub node : Node

-- the untaken transitions, next one first; the lines so far and their nodes; whether a path was cut; the transitions made
pub record WalkState : Type 0 where
  pub todo : List Untaken
  pub lines : List Line
  pub nodes : ℕ
  pub cut : Bool
  pub count : ℕ

pub data Walked : Type 0 where
  going : WalkState → Walked
  stopped : Stop → WalkState → Walked

abbrev pub at_start : WalkState
at_start = record { todo = []; lines = []; nodes = 0; cut = false; count = 0 }

-- "22 a line would be number T+1, or take the lines .. over 16,384 nodes"
abbrev pub table_full : Limits → IOClass → WalkState → Bool
table_full lim P r = leb lim.table (length r.lines) || ltb line_limit (r.nodes + nodes_class P)

abbrev pub with_line : ℕ → IOClass → WalkState → Bool → Walked
with_line s P r true = stopped stop22 r
with_line s P r false = going (record { todo = r.todo; lines = r.lines ++ (record { steps = s; class = P } ∷ []); nodes = r.nodes + nodes_class P; cut = r.cut; count = r.count })

-- an end: a line, or "Failure or contradiction gives no line", or 21
abbrev pub at_end : Limits → ℕ → WalkState → Intersected → Walked
at_end lim s r (common P) = with_line s P r (table_full lim P r)
at_end lim s r disjoint = going r
at_end lim s r too_large = stopped stop21 r

abbrev pub push : ℕ → Node → WalkState → WalkState
push n x r = record { todo = record { left = n; node = x } ∷ r.todo; lines = r.lines; nodes = r.nodes; cut = r.cut; count = r.count }

abbrev pub push_branch : ℕ → Node → Bool → Option Configuration → WalkState → WalkState
push_branch n x b none r = r
push_branch n x b (some c) r = push n (after_decision x b c) r

abbrev pub mark_cut : WalkState → WalkState
mark_cut r = record { todo = r.todo; lines = r.lines; nodes = r.nodes; cut = true; count = r.count }

-- a node: its end is met, or its transitions become untaken ones, true branch first; none are made N deep
abbrev pub expand : Limits → ℕ → Node → Successors → WalkState → Walked
expand lim n x (terminal u) r = at_end lim x.steps r (intersect meeting_over (meeting_at x u))
expand lim zero x (called c) r = going (mark_cut r)
expand lim zero x (branches a b) r = going (mark_cut r)
expand lim (suc n) x (called c) r = going (push n (after_call x c) r)
expand lim (suc n) x (branches a b) r = going (push_branch n x true a (push_branch n x false b r))

-- "21 .. at the start, after a transition"
abbrev pub expand_unless : Prog → Limits → Untaken → WalkState → Bool → Walked
expand_unless p lim i r true = stopped stop21 r
expand_unless p lim i r false = expand lim i.left i.node (successors p i.node.conf) r

abbrev pub visit : Prog → Limits → Untaken → WalkState → Walked
visit p lim i r = expand_unless p lim i r (state_over i.node.conf.cr)

abbrev pub and_then : (WalkState → Walked) → Walked → Walked
and_then f (going r) = f r
and_then f (stopped z r) = stopped z r

-- the next untaken transition is made, and counts
abbrev pub taken : List Untaken → WalkState → WalkState
taken is r = record { todo = is; lines = r.lines; nodes = r.nodes; cut = r.cut; count = suc r.count }

abbrev pub take_next : Prog → Limits → (WalkState → Walked) → List Untaken → WalkState → Walked
take_next p lim f [] r = going r
take_next p lim f (i ∷ is) r = and_then f (visit p lim i (taken is r))

-- "23 a transition would be number W+1"
abbrev pub spent : List Untaken → WalkState → Walked
spent [] r = going r
spent (i ∷ is) r = stopped stop23 r

-- w transitions may still be made
unfoldable pub walk : Prog → Limits → ℕ → WalkState → Walked
unfolding successors_of unify
walk p lim zero r = spent r.todo r
walk p lim (suc w) r = take_next p lim (walk p lim w) r.todo r

-- from any configuration, or from none
abbrev pub walk_from : Prog → Limits → ℕ → Option Configuration → Walked
walk_from p lim n none = going at_start
walk_from p lim n (some c) = and_then (walk p lim lim.walk) (visit p lim (record { left = n; node = root c }) at_start)

unfoldable pub resolve : Prog → IOClass → ℕ → Limits → Walked
unfolding walk
resolve p j n lim = walk_from p lim n (start p j)

-- the ending word
pub data Word : Type 0 where
  whole cut : Word
  stop : Stop → Word

abbrev pub state_of : Walked → WalkState
state_of (going r) = r
state_of (stopped z r) = r

abbrev pub word_of : Walked → Word
word_of (going r) = cond r.cut cut whole
word_of (stopped z r) = stop z

abbrev pub lines_of : Walked → List Line
lines_of w = (state_of w).lines

abbrev pub count_of : Walked → ℕ
count_of w = (state_of w).count
