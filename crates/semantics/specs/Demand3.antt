-- Demand 3, as one statement with the evaluation rules of figure 4.
use Rattle.std.specs.Prelude.{ℕ, ◌≤◌, ◌<◌, ◌≡◌, true, List, ◌↔◌, length, get_or}
use Rattle.expressions.specs.Expression.{Value}
use Rattle.expressions.specs.Class.{IOClass, InClass}
use Rattle.language.specs.Program.{Prog}
use Rattle.semantics.specs.Lists.{All, Any}
use Rattle.semantics.specs.Figure4.{Outputs, RunsLonger}
use Rattle.semantics.specs.Configuration.{start}
use Rattle.semantics.specs.Tree.{Line, tree_of, leaves, leaves_lines, unfinished_nodes, any_of, edges}
use Rattle.semantics.specs.Walk.{Walked, Word, whole, cut, stop, word_of, lines_of, count_of}

-- demand 3: "01's walk ends as whole or cut"
abbrev pub Unstopped : Word → Type 0
Unstopped whole = Unit {0}
Unstopped cut = Unit {0}
Unstopped (stop z) = ⊥

abbrev pub InLine : List Value → Value → Line → Type 0
InLine is o L = InClass L.class is o

-- "if it is in the job's class and those evaluation rules give that output on that input in at most the job's steps"
pub record Answered (p : Prog) (j : IOClass) (n : ℕ) (is : List Value) (o : Value) : Type 0 where
  pub in_class : InClass j is o
  pub steps : ℕ
  pub within : steps ≤ n
  pub outputs : Outputs p is steps o

-- the one line that a pair lies in, by its number, counted from 0
pub record OneLine (lines : List Line) (is : List Value) (o : Value) (d : Line) : Type 0 where
  pub number : ℕ
  pub below : number < length lines
  pub lies : InLine is o (get_or lines number d)
  pub only : (k : ℕ) → k < length lines → InLine is o (get_or lines k d) → k ≡ number

-- the clauses of demand 3 for a listing's lines, and its word and count
pub record ListingCorrect (p : Prog) (j : IOClass) (n : ℕ) (w : Walked) : Type 0 where
  -- "a ground_exp pair of input and output lies in some line exactly when .."
  pub coverage : (is : List Value) (o : Value) → Any (InLine is o) (lines_of w) ↔ Answered p j n is o
  -- "It then lies in exactly one line"
  pub exactly_one : (is : List Value) (o : Value) → Any (InLine is o) (lines_of w) → (d : Line) → OneLine (lines_of w) is o d
  -- "and that line shows the number of steps of that run"
  pub step_count : All (λ L. (is : List Value) (o : Value) → InLine is o L → (L.steps ≤ n) × Outputs p is L.steps o) (lines_of w)
  -- "No line is empty"
  pub nonempty : All (λ L. (is : List Value) × (o : Value) × InLine is o L) (lines_of w)
  -- "and the word is cut exactly when some input of the class runs longer"
  pub cut_iff : (word_of w ≡ cut) ↔ ((is : List Value) × (o : Value) × InClass j is o × RunsLonger p n is)
  -- "then lines, word and count are that walk's": they are the process tree's
  pub tree_lines : lines_of w ≡ leaves_lines (leaves (tree_of p n (start p j)))
  pub tree_cut : (word_of w ≡ cut) ↔ (any_of (unfinished_nodes (tree_of p n (start p j))) ≡ true)
  pub tree_count : count_of w ≡ edges (tree_of p n (start p j))
