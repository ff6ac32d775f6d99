-- The walk with one configuration at a time (01, "The walk and what stops it"): the path's choices say what is untaken.
use Prim.Native.Nat.{ℕ, zero, suc}
use mathlib.Core.Path.{◌≡◌}
use mathlib.Core.Bool.{Bool, true, false}
use mathlib.Core.List.{List, [], ◌∷◌, ◌++◌}
use mathlib.Core.Option.{Option, none, some}
use Rattle.expressions.specs.Class.{IOClass}
use Rattle.expressions.specs.Intersection.{unify, intersect}
use Rattle.language.specs.Program.{Prog}
use Rattle.semantics.specs.Configuration.{Configuration, start}
use Rattle.semantics.specs.Trace.{Successors, terminal, called, branches, successors_of, successors}
use Rattle.semantics.specs.Tree.{Node, root, after_call, after_decision, Line, meeting_at}
use Rattle.semantics.specs.Walk.{state_over, meeting_over, Limits, Stop, stop21, stop23, Untaken, WalkState, Walked, going, stopped, at_start, at_end, mark_cut, taken, state_of, word_of, lines_of, count_of}

-- a decision, and whether the false branch beside it is untaken
pub record Choice : Type 0 where
  pub taken : Bool
  pub pending : Bool

-- a path has its latest choice first, its trail its first decision
abbrev pub trail_of : List Choice → List Bool
trail_of [] = []
trail_of (c ∷ cs) = trail_of cs ++ (c.taken ∷ [])

abbrev pub replay_branch : (Node → Option Untaken) → Node → Bool → Option Configuration → Option Untaken
replay_branch f x b none = none
replay_branch f x b (some c) = f (after_decision x b c)

abbrev pub replay_next : (Node → Option Untaken) → (Node → Option Untaken) → Node → Bool → Successors → Option Untaken
replay_next f g x b (terminal u) = none
replay_next f g x b (called c) = f (after_call x c)
replay_next f g x true (branches s t) = replay_branch g x true s
replay_next f g x false (branches s t) = replay_branch g x false t

-- "however often a path is worked out again": where decisions lead from a node with n transitions left, calls before the last
-- of them followed
unfoldable pub replay : Prog → ℕ → Node → List Bool → Option Untaken
unfolding successors_of
replay p n x [] = some (record { left = n; node = x })
replay p zero x (b ∷ bs) = none
replay p (suc n) x (b ∷ bs) = replay_next (λ y. replay p n y (b ∷ bs)) (λ y. replay p n y bs) x b (successors p x.conf)

-- the machine's state with a path in place of its list of untaken transitions
pub record PathState : Type 0 where
  pub path : List Choice
  pub lines : List Line
  pub nodes : ℕ
  pub cut : Bool
  pub count : ℕ

abbrev pub on_path : List Choice → WalkState → PathState
on_path cs r = record { path = cs; lines = r.lines; nodes = r.nodes; cut = r.cut; count = r.count }

abbrev pub with_todo : List Untaken → PathState → WalkState
with_todo is s = record { todo = is; lines = s.lines; nodes = s.nodes; cut = s.cut; count = s.count }

abbrev pub with_path : List Choice → PathState → PathState
with_path cs s = on_path cs (with_todo [] s)

-- the next transition, still to be made; or none, on this path and, once the walk has gone back, at all; or a stop
pub data Turn : Type 0 where
  ahead : Untaken → PathState → Turn
  exhausted : PathState → Turn
  halted : Stop → PathState → Turn

abbrev pub after_end : List Choice → Walked → Turn
after_end cs (going r) = exhausted (on_path cs r)
after_end cs (stopped z r) = halted z (on_path cs r)

abbrev pub decide : ℕ → Node → Bool → Configuration → Bool → PathState → Turn
decide n x b c other s = ahead (record { left = n; node = after_decision x b c }) (with_path (record { taken = b; pending = other } ∷ s.path) s)

-- "true branch first"
abbrev pub choose : ℕ → Node → Option Configuration → Option Configuration → PathState → Turn
choose n x none none s = exhausted s
choose n x none (some d) s = decide n x false d false s
choose n x (some c) none s = decide n x true c false s
choose n x (some c) (some d) s = decide n x true c true s

-- a node, as the machine has it: its end is met, or a transition from it is ahead; none is made N deep
abbrev pub extend : Limits → ℕ → Node → Successors → PathState → Turn
extend lim n x (terminal u) s = after_end s.path (at_end lim x.steps (with_todo [] s) (intersect meeting_over (meeting_at x u)))
extend lim zero x (called c) s = exhausted (on_path s.path (mark_cut (with_todo [] s)))
extend lim zero x (branches a b) s = exhausted (on_path s.path (mark_cut (with_todo [] s)))
extend lim (suc n) x (called c) s = ahead (record { left = n; node = after_call x c }) s
extend lim (suc n) x (branches a b) s = choose n x a b s

abbrev pub extend_unless : Prog → Limits → Untaken → PathState → Bool → Turn
extend_unless p lim i s true = halted stop21 s
extend_unless p lim i s false = extend lim i.left i.node (successors p i.node.conf) s

-- "21 .. at the start, after a transition"
abbrev pub enter : Prog → Limits → Untaken → PathState → Turn
enter p lim i s = extend_unless p lim i s (state_over i.node.conf.cr)

abbrev pub backtrack_to : List Choice → List Choice → Bool → List Choice
backtrack_to ds cs true = record { taken = false; pending = false } ∷ cs
backtrack_to ds cs false = ds

-- the latest choice whose false branch is untaken now takes it, and those after it are gone; no choice is left if there is none
abbrev pub backtrack : List Choice → List Choice
backtrack [] = []
backtrack (c ∷ cs) = backtrack_to (backtrack cs) cs c.pending

-- a false branch that is said to be untaken is there (proofs/Paths.antt), so that `none` never comes
abbrev pub ahead_if : PathState → Option Untaken → Turn
ahead_if s none = exhausted s
ahead_if s (some i) = ahead i s

abbrev pub replay_path : Prog → ℕ → Node → PathState → List Choice → Turn
replay_path p n x s [] = exhausted (with_path [] s)
replay_path p n x s (c ∷ cs) = ahead_if (with_path (c ∷ cs) s) (replay p n x (trail_of (c ∷ cs)))

-- where a path is exhausted the walk goes back; x is the node that it began at, with n transitions left
abbrev pub or_back : Prog → ℕ → Node → Turn → Turn
or_back p n x (ahead i s) = ahead i s
or_back p n x (exhausted s) = replay_path p n x s (backtrack s.path)
or_back p n x (halted z s) = halted z s

-- one turn of the loop: the transition ahead is made, and counts
unfoldable pub turn : Prog → Limits → ℕ → Node → Untaken → PathState → Turn
unfolding replay unify
turn p lim n x i s = or_back p n x (enter p lim i (on_path s.path (taken [] (with_todo [] s))))

-- the loop: w transitions may still be made
unfoldable pub walk_back : Prog → Limits → ℕ → Node → ℕ → Turn → Turn
unfolding turn
walk_back p lim n x zero t = t
walk_back p lim n x (suc w) (ahead i s) = walk_back p lim n x w (turn p lim n x i s)
walk_back p lim n x (suc w) (exhausted s) = exhausted s
walk_back p lim n x (suc w) (halted z s) = halted z s

abbrev pub walk_back_from : Prog → Limits → ℕ → Option Configuration → Turn
walk_back_from p lim n none = exhausted (on_path [] at_start)
walk_back_from p lim n (some c) = walk_back p lim n (root c) lim.walk (or_back p n (root c) (enter p lim (record { left = n; node = root c }) (on_path [] at_start)))

unfoldable pub resolve_back : Prog → IOClass → ℕ → Limits → Turn
unfolding walk_back
resolve_back p j n lim = walk_back_from p lim n (start p j)

-- what a walk that came to a turn has found; "23 a transition would be number W+1" where one is still ahead
abbrev pub walked_of : Turn → Walked
walked_of (ahead i s) = stopped stop23 (with_todo [] s)
walked_of (exhausted s) = going (with_todo [] s)
walked_of (halted z s) = stopped z (with_todo [] s)

-- what a walk has found, whatever is untaken
abbrev pub without_todo : Walked → Walked
without_todo (going r) = going (with_todo [] (on_path [] r))
without_todo (stopped z r) = stopped z (with_todo [] (on_path [] r))

-- what is said of two walks' listings is the same
pub record SameFindings (v w : Walked) : Type 0 where
  pub word : word_of v ≡ word_of w
  pub lines : lines_of v ≡ lines_of w
  pub nodes : (state_of v).nodes ≡ (state_of w).nodes
  pub cut : (state_of v).cut ≡ (state_of w).cut
  pub count : count_of v ≡ count_of w
