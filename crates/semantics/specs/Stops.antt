-- When a stop comes (01, "The walk and what stops it": "Each number comes under its condition and otherwise never"), said of the
-- tree, its configurations and its lines; proofs/Stops.antt proves it of the walk, proofs/RunnerStops.antt of the runner.
use Rattle.std.specs.Prelude.{ℕ, zero, suc, ◌+◌, ◌≤◌, ◌<◌, ◌≡◌, Bool, true, List, [], ◌∷◌, ◌++◌, ◌⊎◌, ◌↔◌, length}
use Rattle.std.proofs.Math.Option.{some}
use Rattle.expressions.specs.Expression.{Value, Exp}
use Rattle.expressions.specs.Class.{IOClass, nodes_class}
use Rattle.expressions.specs.Intersection.{too_large, intersect}
use Rattle.language.specs.Program.{Condition, Term, call, conditional, result, Prog}
use Rattle.semantics.specs.Figure4.{ValueEnv, ValueOf, Step, Initial}
use Rattle.semantics.specs.Evaluate.{end, go}
use Rattle.semantics.specs.Configuration.{Configuration, start, nodes_state}
use Rattle.semantics.specs.Figure10.{Derivation, Terminal}
use Rattle.semantics.specs.Tree.{Line, meeting_at, listing}
use Rattle.semantics.specs.Walk.{meeting_over, Limits, stop21, stop22, stop23, Walked, cut, stop, word_of, lines_of, count_of}
use Rattle.semantics.specs.Runner.{Ran, value, ran_over, not_within, nodes_next}
use Rattle.semantics.specs.Demand3.{Unstopped}

-- "21 over 4,096 nodes: at the start, after a transition": a configuration at most n transitions from c, c itself after none
pub record OverConfiguration (p : Prog) (n : ℕ) (c : Configuration) : Type 0 where
  pub d : Configuration
  pub m : ℕ
  pub trail : List Bool
  pub derivation : Derivation p d c m trail
  pub within : m ≤ n
  pub over : 4096 < nodes_state d.cr

-- "at the start of an intersection or after a binding": an end, and its output meets the wanted one
pub record OverMeeting (p : Prog) (n : ℕ) (c : Configuration) : Type 0 where
  pub d : Configuration
  pub m : ℕ
  pub trail : List Bool
  pub u : Exp
  pub derivation : Derivation p d c m trail
  pub within : m ≤ n
  pub terminal : Terminal d u
  pub over : intersect meeting_over (meeting_at (record { conf = d; steps = m; trail = trail }) u) ≡ too_large

-- the condition of 21, somewhere in the tree of a job
pub record OverIn (p : Prog) (n : ℕ) (j : IOClass) : Type 0 where
  pub c : Configuration
  pub starts : start p j ≡ some c
  pub over : OverConfiguration p n c ⊎ OverMeeting p n c

-- "the lines (inputs, output, 2 for each non-equality)"
abbrev pub lines_nodes : List Line → ℕ
lines_nodes [] = 0
lines_nodes (l ∷ ls) = nodes_class l.class + lines_nodes ls

-- the condition of 22: the listing has one line more than were found, and it does not fit
pub record NoRoom (lim : Limits) (found all : List Line) : Type 0 where
  pub line : Line
  pub rest : List Line
  pub lines_are : all ≡ found ++ (line ∷ rest)
  pub no_room : (length found ≡ lim.table) ⊎ (16384 < lines_nodes found + nodes_class line.class)

-- the three conditions, and that nothing else ends a walk early
pub record Stops (p : Prog) (n : ℕ) (j : IOClass) (lim : Limits) (w : Walked) : Type 0 where
  -- "23 a transition would be number W+1": W are made, and the tree has more
  pub spent : word_of w ≡ stop stop23 → (count_of w ≡ lim.walk) × (lim.walk < (listing p n j).count)
  -- "22 a line would be number T+1, or take the lines .. over 16,384 nodes"
  pub full : word_of w ≡ stop stop22 → NoRoom lim (lines_of w) (listing p n j).lines
  -- "21 over 4,096 nodes"
  pub over : word_of w ≡ stop stop21 → OverIn p n j
  -- so a job whose tree keeps every limit is walked to its end: "the tool that refuses all jobs falls"
  pub unstopped : (listing p n j).count ≤ lim.walk → length (listing p n j).lines ≤ lim.table → lines_nodes (listing p n j).lines ≤ 16384 →
      (OverIn p n j → ⊥) → Unstopped (word_of w)
  -- and a walk to the end has all lines and transitions, "cut if a configuration N deep is no end", and passed no configuration over the limit
  pub ended : Unstopped (word_of w) → (lines_of w ≡ (listing p n j).lines) × (count_of w ≡ (listing p n j).count) × ((word_of w ≡ cut) ↔ ((listing p n j).cut ≡ true)) × (OverIn p n j → ⊥)
  -- stopped or not, no limit is passed
  pub within : (count_of w ≤ lim.walk) × (length (lines_of w) ≤ lim.table) × (lines_nodes (lines_of w) ≤ 16384)

-- (t, σ) reaches (t', σ') in m transitions of figure 4
pub data ReachesIn (p : Prog) (t' : Term) (σ' : ValueEnv) : ℕ → Term → ValueEnv → Type 0 where
  here : ReachesIn p t' σ' zero t' σ'
  there : (m : ℕ) (t u : Term) (σ τ : ValueEnv) → Step p σ t u τ → ReachesIn p t' σ' m u τ → ReachesIn p t' σ' (suc m) t σ

-- the runner's nodes of a state: "those of the inputs and the environment values, at an end of the inputs and the output"
pub data NodesAt (is : List Value) (σ : ValueEnv) : Term → ℕ → Type 0 where
  at_call : (f : ℕ) (cs : List Exp) → NodesAt is σ (call f cs) (nodes_next is (go (call f cs) σ))
  at_condition : (k : Condition) (s t : Term) → NodesAt is σ (conditional k s t) (nodes_next is (go (conditional k s t) σ))
  at_end : (c : Exp) (v : Value) → ValueOf σ c v → NodesAt is σ (result c) (nodes_next is (end v))

-- a state of the run, at most n steps from its start, with over 4,096 nodes
pub record RunsOver (p : Prog) (n : ℕ) (is : List Value) : Type 0 where
  pub t₀ : Term
  pub σ₀ : ValueEnv
  pub initial : Initial p is t₀ σ₀
  pub t : Term
  pub σ : ValueEnv
  pub m : ℕ
  pub reaches : ReachesIn p t σ m t₀ σ₀
  pub within : m ≤ n
  pub nodes : ℕ
  pub counted : NodesAt is σ t nodes
  pub over : 4096 < nodes

-- "It stops only with 21 or `not within N`": with 21 exactly where its run has such a state, and else with a value or "not within N"
pub record RunnerStops (p : Prog) (n : ℕ) (is : List Value) (r : Ran) : Type 0 where
  pub over : (r ≡ ran_over) ↔ RunsOver p n is
  pub unstopped : (RunsOver p n is → ⊥) → ((m : ℕ) × (v : Value) × (r ≡ value m v)) ⊎ (r ≡ not_within)
