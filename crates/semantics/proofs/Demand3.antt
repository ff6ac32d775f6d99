-- Demand 3, for a well-formed program and inputs that fit its main.
use Prim.Native.Nat.{ℕ, ◌≤◌, ◌<◌}
use mathlib.Core.Path.{◌≡◌, refl, subst, ◌∙◌, sym as inv}
use mathlib.Core.Bool.{Bool, true, false}
use mathlib.Core.List.{List, [], ◌∷◌}
use mathlib.Core.Option.{some}
use mathlib.Core.Logic.{inl, inr, ◌↔◌}
use native.Mathlib.Omega.{arith}
use lib.Dec.{ltb}
use lib.ListN.{length, get_or}
use borrow.Author.Tests.{ltb-true, ltb-false}
use Rattle.expressions.specs.Expression.{Value}
use Rattle.expressions.specs.Class.{IOClass, InClass}
use Rattle.language.specs.Program.{Prog, find}
use Rattle.language.specs.WellFormed.{fits, admitted}
use Rattle.semantics.specs.Lists.{All, Any, AllPairs}
use Rattle.semantics.specs.Figure4.{Outputs, RunsLonger}
use Rattle.semantics.specs.Evaluate.{evaluate}
use Rattle.semantics.specs.Configuration.{start}
use Rattle.semantics.specs.Tree.{Line, tree_of, leaves, leaves_lines, unfinished_nodes, any_of, edges, listing}
use Rattle.semantics.specs.Walk.{Limits, Walked, cut, word_of, lines_of, count_of, resolve}
use Rattle.semantics.specs.Demand3.{Unstopped, InLine, Answered, OneLine, ListingCorrect}
use Rattle.semantics.proofs.Lists.{all_map, any_at, pairs_at_lem}
use Rattle.semantics.proofs.Environments.{FitsInputs, class_fits}
use Rattle.semantics.proofs.Evaluation.{evaluate_rules, evaluate_longer}
use Rattle.semantics.proofs.StartCorrectness.{TableCorrect, table_correct}
use Rattle.semantics.proofs.Machine.{resolve_unstopped}

any_all : {A : Type 0} {R : Type 0} (P Q : A → Type 0) (xs : List A) → All P xs → Any Q xs → ((x : A) → P x → Q x → R) → R
any_all P Q [] h a f = absurd a
any_all P Q (x ∷ xs) h (inl a) f = f x h.0 a
any_all P Q (x ∷ xs) h (inr a) f = any_all P Q xs h.1 a f

-- no pair lies in two lines: so it lies in one, by its number
one_line : (lines : List Line) → AllPairs (λ L M. (is : List Value) (o : Value) → InClass L.class is o → InClass M.class is o → ⊥) lines →
    (is : List Value) (o : Value) → Any (InLine is o) lines → (d : Line) → OneLine lines is o d
one_line lines apart is o a d =
    let w = any_at (InLine is o) d lines a in
    record { number = w.0; below = w.1; lies = w.2; only = λ k l h. pick w.0 w.1 w.2 k l h (ltb k w.0) refl (ltb w.0 k) refl }
  where
    pick : (i : ℕ) → i < length lines → InLine is o (get_or lines i d) → (k : ℕ) → k < length lines → InLine is o (get_or lines k d) →
        (a : Bool) → ltb k i ≡ a → (b : Bool) → ltb i k ≡ b → k ≡ i
    pick i l h k l' h' true e b f = absurd (pairs_at_lem _ d lines apart k i (ltb-true k i e) l is o h' h)
    pick i l h k l' h' false e true f = absurd (pairs_at_lem _ d lines apart i k (ltb-true i k f) l' is o h h')
    pick i l h k l' h' false e false f = omega (arith, ltb-false k i e, ltb-false i k f)

module _ (p : Prog) (j : IOClass) (n : ℕ) (a : admitted p ≡ true) (fit : fits (find p 0).params j.con.ins ≡ true) where
  in_class_fits : (is : List Value) (o : Value) → InClass j is o → FitsInputs (find p 0).params is
  in_class_fits is o M = class_fits (find p 0).params j is o fit M

  -- what a table says of evaluation, in terms of the rules
  module _ (w : Walked) (lines : List Line) (c : Bool) (T : TableCorrect p n j lines c) (ls : lines_of w ≡ lines) where
    sound : (L : Line) (is : List Value) (o : Value) → InClass j is o × (evaluate p n is ≡ some (L.steps, o)) → (L.steps ≤ n) × Outputs p is L.steps o
    sound L is o e = (evaluate_rules p is a (in_class_fits is o e.0) n L.steps o).0 e.1

    answered : (is : List Value) (o : Value) → Any (InLine is o) lines → Answered p j n is o
    answered is o h = any_all _ (InLine is o) lines T.sound h (λ L f M.
        let e = f is o M in
        let r = sound L is o e in
        record { in_class = e.0; steps = L.steps; within = r.0; outputs = r.1 })

    found : (is : List Value) (o : Value) → Answered p j n is o → Any (InLine is o) lines
    found is o A = T.complete is o A.steps A.in_class ((evaluate_rules p is a (in_class_fits is o A.in_class) n A.steps o).1 (A.within, A.outputs))

    longer : (c ≡ true) ↔ ((is : List Value) × (o : Value) × InClass j is o × RunsLonger p n is)
    longer = (
      (λ e. let x = T.cut_iff.0 e in (x.0, x.1, x.2, (evaluate_longer p x.0 a (in_class_fits x.0 x.1 x.2) n).0 x.3)),
      (λ x. T.cut_iff.1 (x.0, x.1, x.2, (evaluate_longer p x.0 a (in_class_fits x.0 x.1 x.2) n).1 x.3)),
    )

    correct : (word_of w ≡ cut) ↔ (c ≡ true) → count_of w ≡ edges (tree_of p n (start p j)) → lines ≡ leaves_lines (leaves (tree_of p n (start p j))) →
        c ≡ any_of (unfinished_nodes (tree_of p n (start p j))) → ListingCorrect p j n w
    correct k count lines-is cut_is = record {
      coverage = λ is o. ((λ h. answered is o (subst (Any (InLine is o)) ls h)), (λ A. subst (Any (InLine is o)) (inv ls) (found is o A)));
      exactly_one = λ is o h d. subst (λ (l : List Line). OneLine l is o d) (inv ls) (one_line lines T.disjoint is o (subst (Any (InLine is o)) ls h) d);
      step_count = subst (All (λ L. (is : List Value) (o : Value) → InLine is o L → (L.steps ≤ n) × Outputs p is L.steps o)) (inv ls)
          (all_map _ _ (λ L f is o M. sound L is o (f is o M)) lines T.sound);
      nonempty = subst (All (λ L. (is : List Value) × (o : Value) × InLine is o L)) (inv ls) T.nonempty;
      cut_iff = ((λ e. longer.0 (k.0 e)), (λ x. k.1 (longer.1 x)));
      tree_lines = ls ∙ lines-is;
      tree_cut = ((λ e. inv cut_is ∙ k.0 e), (λ e. k.1 (cut_is ∙ e)));
      tree_count = count;
    }

  pub listing_correct : (lim : Limits) → Unstopped (word_of (resolve p j n lim)) → ListingCorrect p j n (resolve p j n lim)
  unfolding listing
  listing_correct lim h =
      let U = resolve_unstopped p j n lim h in
      correct (resolve p j n lim) (leaves_lines (leaves (tree_of p n (start p j)))) (any_of (unfinished_nodes (tree_of p n (start p j)))) (table_correct p n j fit) U.0 U.2 U.1 refl refl
