-- Tools that the statements of specs/Stops.antt shut out, whatever else they answer (01, "From the state": "the tool that refuses all jobs falls, as does
-- one that cries 22, 23 or cut before its first transition").
use Prim.Native.Nat.{ℕ, ◌+◌, ◌≤◌, ◌<◌}
use mathlib.Core.Path.{◌≡◌, ap, subst, ◌∙◌, sym as inv}
use mathlib.Core.Bool.{false, false≢true}
use mathlib.Core.List.{List, [], ◌∷◌}
use mathlib.Core.Logic.{◌⊎◌, inl, inr}
use native.Mathlib.Omega.{arith}
use lib.ListN.{length}
use Rattle.expressions.specs.Expression.{Value}
use Rattle.expressions.specs.Class.{IOClass, nodes_class}
use Rattle.language.specs.Program.{Prog}
use Rattle.semantics.specs.Figure4.{Outputs}
use Rattle.semantics.specs.Tree.{Line, listing}
use Rattle.semantics.specs.Walk.{line_limit, Limits, stop21, stop22, stop23, Walked, Word, whole, cut, stop, word_of, lines_of, count_of}
use Rattle.semantics.specs.Runner.{Ran, value, ran_over}
use Rattle.semantics.specs.Demand2.{RunnerCorrect}
use Rattle.semantics.specs.Demand3.{Unstopped}
use Rattle.semantics.specs.Stops.{OverIn, lines_nodes, NoRoom, Stops, RunsOver, RunnerStops}

-- a runner that stops with 21 where there is a value within N and no state is over 4,096 nodes
pub no_early_over : (p : Prog) (n : ℕ) (is : List Value) (r : Ran) → RunnerStops p n is r → (RunsOver p n is → ⊥) → r ≡ ran_over → ⊥
no_early_over p n is r S h e = h (S.over.0 e)

-- so it gives the value
pub value_due : (p : Prog) (n : ℕ) (is : List Value) (r : Ran) → RunnerStops p n is r → RunnerCorrect p n is r → (m : ℕ) (v : Value) → m ≤ n → Outputs p is m v →
    (RunsOver p n is → ⊥) → r ≡ value m v
value_due p n is r S C m v l o h = pick (C.complete m v l o)
  where
    pick : (r ≡ value m v) ⊎ (r ≡ ran_over) → r ≡ value m v
    pick (inl e) = e
    pick (inr e) = absurd (no_early_over p n is r S h e)

-- a runner that gives the value though a state before it is over 4,096 nodes
pub no_late_value : (p : Prog) (n : ℕ) (is : List Value) (r : Ran) → RunnerStops p n is r → RunsOver p n is → (m : ℕ) (v : Value) → r ≡ value m v → ⊥
no_late_value p n is r S x m v e = let q = inv e ∙ S.over.1 x in let k : ◌≡◌ {A = ℕ} 0 1 = cc in omega arith

unstopped_whole : (v : Word) → v ≡ whole → Unstopped v
unstopped_whole v e = subst Unstopped (inv e) tt

unstopped_cut : (v : Word) → v ≡ cut → Unstopped v
unstopped_cut v e = subst Unstopped (inv e) tt

module _ (p : Prog) (n : ℕ) (j : IOClass) (lim : Limits) (w : Walked) (S : Stops p n j lim w) where
  -- whole and no lines, for a job that has lines
  pub no_empty_whole : (l : Line) (rest : List Line) → (listing p n j).lines ≡ l ∷ rest → word_of w ≡ whole → lines_of w ≡ [] → ⊥
  no_empty_whole l rest e h k = let q = ap length (inv k ∙ (S.ended (unstopped_whole (word_of w) h)).0 ∙ e) in omega (arith, q)

  -- cut, for a job whose tree is finished N deep
  pub no_early_cut : (listing p n j).cut ≡ false → word_of w ≡ cut → ⊥
  no_early_cut e h = false≢true (inv e ∙ (S.ended (unstopped_cut (word_of w) h)).2.0 h)

  -- 23, for a job whose tree has at most W transitions
  pub no_early_23 : (listing p n j).count ≤ lim.walk → word_of w ≡ stop stop23 → ⊥
  no_early_23 l h = omega (arith, l, (S.spent h).1)

  -- 23 before the first transition, for a job that may make one
  pub no_instant_23 : 0 < lim.walk → word_of w ≡ stop stop23 → count_of w ≡ 0 → ⊥
  no_instant_23 l h e = omega (arith, l, e, (S.spent h).0)

  -- 22 with no line, for a job that may have one, whose lines all fit
  pub no_instant_22 : 0 < lim.table → lines_nodes (listing p n j).lines ≤ line_limit → word_of w ≡ stop stop22 → lines_of w ≡ [] → ⊥
  no_instant_22 l s h e = pick N.no_room
    where
      N : NoRoom lim [] (listing p n j).lines
      N = subst (λ (ls : List Line). NoRoom lim ls (listing p n j).lines) e (S.full h)

      pick : (length {A = Line} [] ≡ lim.table) ⊎ (line_limit < lines_nodes [] + nodes_class N.line.class) → ⊥
      pick (inl q) = omega (arith, l, q)
      pick (inr q) = omega (arith, s, q, ap lines_nodes N.lines_are)

  -- 21, for a job whose tree has no configuration over 4,096 nodes and no meeting
  pub no_early_21 : (OverIn p n j → ⊥) → word_of w ≡ stop stop21 → ⊥
  no_early_21 f h = f (S.over h)

  -- whole or cut, for a job whose tree passes a limit
  pub no_late_end : OverIn p n j ⊎ ((lim.walk < (listing p n j).count) ⊎ ((lim.table < length (listing p n j).lines) ⊎ (line_limit < lines_nodes (listing p n j).lines))) → Unstopped (word_of w) → ⊥
  no_late_end (inl x) u = (S.ended u).3 x
  no_late_end (inr (inl x)) u = omega (arith, x, (S.ended u).1, S.within.0)
  no_late_end (inr (inr (inl x))) u = omega (arith, x, ap length (S.ended u).0, S.within.1)
  no_late_end (inr (inr (inr x))) u = omega (arith, x, ap lines_nodes (S.ended u).0, S.within.2)
