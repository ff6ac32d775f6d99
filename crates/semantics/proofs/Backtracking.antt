-- The walk with one configuration at a time finds what the machine finds.
use Prim.Native.Nat.{ℕ, zero, suc, ◌≤◌}
use mathlib.Core.Path.{◌≡◌, refl, ap, subst, ◌∙◌, sym as inv}
use mathlib.Core.Bool.{Bool, true, false}
use mathlib.Core.List.{List, [], ◌∷◌, ◌++◌}
use mathlib.Core.Option.{Option, none, some}
use native.Mathlib.Omega.{arith}
use lib.ListN.{length}
use Rattle.expressions.specs.Class.{IOClass}
use Rattle.language.specs.Program.{Prog}
use Rattle.semantics.specs.Lists.{All}
use Rattle.semantics.specs.Configuration.{Configuration, start}
use Rattle.semantics.specs.Tree.{Node, root}
use Rattle.semantics.specs.Walk.{Limits, Untaken, Walked, going, stopped, at_start, visit, and_then, taken, take_next, spent, walk, walk_from, resolve, state_of, word_of, lines_of, count_of}
use Rattle.semantics.proofs.Backtrack.{Choice, trail_of, replay, on_path, with_todo, Turn, ahead, exhausted, halted, enter, or_back, turn, walk_back, walk_back_from, resolve_back, walked_of, without_todo, SameFindings}
use Rattle.semantics.proofs.Replay.{replay_from, replay_leads}
use Rattle.semantics.proofs.Paths.{path_of, untaken_if, false_branch, untaken, Replays, machine_at, AtTurn, Turned, first_placed, turn_length, enter_turned, turn_keeps}

module _ (p : Prog) (n : ℕ) (x : Node) (lim : Limits) where
  pub walk_back_keeps : (w : ℕ) (t : Turn) → AtTurn p n x t → AtTurn p n x (walk_back p lim n x w t)
  unfolding walk_back
  walk_back_keeps zero t h = h
  walk_back_keeps (suc w) (ahead i s) h = walk_back_keeps w (turn p lim n x i s) (turn_keeps p n x lim i s h)
  walk_back_keeps (suc w) (exhausted s) h = h
  walk_back_keeps (suc w) (halted z s) h = h

  -- the machine comes to where w turns of the loop come
  pub walk_back_machine : (w : ℕ) (t : Turn) → AtTurn p n x t → and_then (walk p lim zero) (machine_at p n x (walk_back p lim n x w t)) ≡ and_then (walk p lim w) (machine_at p n x t)
  unfolding walk_back walk
  walk_back_machine zero t h = refl
  walk_back_machine (suc w) (ahead i s) h =
      let r = on_path s.path (taken [] (with_todo [] s)) in
      walk_back_machine w (turn p lim n x i s) (turn_keeps p n x lim i s h) ∙ ap (and_then (walk p lim w)) (enter_turned p n x lim i r h).0
  walk_back_machine (suc w) (exhausted s) h =
      let e : untaken p n x s.path ≡ [] = ap (untaken p n x) h in
      ap (λ (is : List Untaken). spent is (with_todo is s)) e ∙ inv (ap (λ (is : List Untaken). take_next p lim (walk p lim w) is (with_todo is s)) e)
  walk_back_machine (suc w) (halted z s) h = refl

  findings : (t : Turn) → AtTurn p n x t → walked_of t ≡ without_todo (and_then (walk p lim zero) (machine_at p n x t))
  unfolding walk
  findings (ahead i s) h = refl
  findings (exhausted s) h = inv (ap (λ (is : List Untaken). without_todo (spent is (with_todo is s))) (ap (untaken p n x) h))
  findings (halted z s) h = refl

  -- the first node is visited, and no transition leads to it
  first_turned : Turned p n x (visit p lim (record { left = n; node = x }) at_start) (or_back p n x (enter p lim (record { left = n; node = x }) (on_path [] at_start)))
  first_turned = enter_turned p n x lim (record { left = n; node = x }) (on_path [] at_start) (first_placed p n x)

-- the loop keeps its path
pub from_keeps : (p : Prog) (lim : Limits) (n : ℕ) (c : Configuration) → AtTurn p n (root c) (walk_back_from p lim n (some c))
from_keeps p lim n c = walk_back_keeps p n (root c) lim lim.walk _ (first_turned p n (root c) lim).1

pub from_machine : (p : Prog) (lim : Limits) (n : ℕ) (c : Configuration) → and_then (walk p lim zero) (machine_at p n (root c) (walk_back_from p lim n (some c))) ≡ walk_from p lim n (some c)
from_machine p lim n c =
    let h = first_turned p n (root c) lim in
    walk_back_machine p n (root c) lim lim.walk _ h.1 ∙ ap (and_then (walk p lim lim.walk)) h.0

from_findings : (p : Prog) (lim : Limits) (n : ℕ) (o : Option Configuration) → walked_of (walk_back_from p lim n o) ≡ without_todo (walk_from p lim n o)
from_findings p lim n none = refl
from_findings p lim n (some c) = findings p n (root c) lim (walk_back_from p lim n (some c)) (from_keeps p lim n c) ∙ ap without_todo (from_machine p lim n c)

-- the two walks have the same findings: as one equation, and each by its name
pub back_is_walk : (p : Prog) (j : IOClass) (n : ℕ) (lim : Limits) → walked_of (resolve_back p j n lim) ≡ without_todo (resolve p j n lim)
unfolding resolve_back resolve
back_is_walk p j n lim = from_findings p lim n (start p j)

same_findings : (v w : Walked) → v ≡ without_todo w → SameFindings v w
same_findings v (going r) e = record { word = ap word_of e; lines = ap lines_of e; nodes = ap (λ (u : Walked). (state_of u).nodes) e; cut = ap (λ (u : Walked). (state_of u).cut) e; count = ap count_of e }
same_findings v (stopped z r) e = record { word = ap word_of e; lines = ap lines_of e; nodes = ap (λ (u : Walked). (state_of u).nodes) e; cut = ap (λ (u : Walked). (state_of u).cut) e; count = ap count_of e }

pub back_findings : (p : Prog) (j : IOClass) (n : ℕ) (lim : Limits) → SameFindings (walked_of (resolve_back p j n lim)) (resolve p j n lim)
back_findings p j n lim = same_findings (walked_of (resolve_back p j n lim)) (resolve p j n lim) (back_is_walk p j n lim)

-- W is any number, so this is of each path that the loop comes to
pub path_length : (p : Prog) (j : IOClass) (n : ℕ) (lim : Limits) → length (path_of (resolve_back p j n lim)) ≤ n
unfolding resolve_back
path_length p j n lim = pick (start p j)
  where
    pick : (o : Option Configuration) → length (path_of (walk_back_from p lim n o)) ≤ n
    pick none = omega arith
    pick (some c) = turn_length p n (root c) (walk_back_from p lim n (some c)) (from_keeps p lim n c)

-- The machine's untaken transitions: each but the first is a false branch, and its trail leads to it from the start. The first
-- may be a call, which no decision stands for: from behind it decisions lead where they lead from the start along its trail.
module _ (p : Prog) (n : ℕ) (c : Configuration) where
  abbrev pub AtTrail : Untaken → Type 0
  AtTrail i = replay p n (root c) i.node.trail ≡ some i

  abbrev pub FromTrails : List Untaken → Type 0
  FromTrails [] = Unit {0}
  FromTrails (i ∷ is) = ((b : Bool) (bs : List Bool) → replay p n (root c) (i.node.trail ++ (b ∷ bs)) ≡ replay p i.left i.node (b ∷ bs)) × All AtTrail is

  all_trails : (is : List Untaken) → All AtTrail is → FromTrails is
  all_trails [] h = tt
  all_trails (i ∷ is) h = ((λ b bs. replay_from p n (root c) i.node.trail (b ∷ bs) h.0), h.1)

  untaken_trails : (cs : List Choice) → Replays p n (root c) cs → All AtTrail (untaken p n (root c) cs)
  untaken_trails [] h = tt
  untaken_trails (d ∷ cs) h = pick d.pending (false_branch p n (root c) cs) refl (untaken_trails cs h.1)
    where
      pick : (q : Bool) (o : Option Untaken) → false_branch p n (root c) cs ≡ o → All AtTrail (untaken p n (root c) cs) → All AtTrail (untaken_if (untaken p n (root c) cs) o q)
      pick false o e k = k
      pick true none e k = k
      pick true (some i) e k = (ap (replay p n (root c)) (replay_leads p n (root c) (trail_of cs ++ (false ∷ [])) e).trail ∙ e, k)

  turn_trails : (lim : Limits) (t : Turn) → AtTurn p n (root c) t → FromTrails (state_of (and_then (walk p lim zero) (machine_at p n (root c) t))).todo
  unfolding walk
  turn_trails lim (ahead i s) h = ((λ b bs. ap (λ (l : List Bool). replay p n (root c) (l ++ (b ∷ bs))) h.along.trail ∙ h.leads b bs), untaken_trails s.path h.replays)
  turn_trails lim (exhausted s) h = subst (λ (is : List Untaken). FromTrails (state_of (spent is (with_todo is s))).todo) (inv (ap (untaken p n (root c)) h)) tt
  turn_trails lim (halted z s) h = all_trails (untaken p n (root c) s.path) (untaken_trails s.path h.0)

  pub replay_trail : (lim : Limits) → FromTrails (state_of (walk_from p lim n (some c))).todo
  replay_trail lim = subst (λ (w : Walked). FromTrails (state_of w).todo) (from_machine p lim n c) (turn_trails lim (walk_back_from p lim n (some c)) (from_keeps p lim n c))
