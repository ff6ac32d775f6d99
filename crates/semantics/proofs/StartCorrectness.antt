-- Correctness of the start (001, theorem 43), and so of the whole tree, in terms of evaluation as a function.
use Prim.Native.Nat.{ℕ}
use mathlib.Core.Path.{◌≡◌, refl, ap, ◌∙◌, sym as inv}
use mathlib.Core.Bool.{Bool, true, false, false≢true}
use mathlib.Core.List.{List, [], ◌∷◌}
use mathlib.Core.Option.{Option, none, some, none-ne-some}
use mathlib.Core.Logic.{◌↔◌}
use native.Mathlib.Omega.{arith}
use Rattle.expressions.specs.Expression.{Value, Exp, atm, evar, pair}
use Rattle.expressions.specs.Substitution.{GroundSubst, ground_exp, ground_atomic, ground_all}
use Rattle.expressions.specs.Restriction.{Restriction, Satisfies, simplify}
use Rattle.expressions.specs.Contraction.{CRPair}
use Rattle.expressions.specs.Class.{GroundPair, ground_io, IOClass, InClass}
use Rattle.expressions.specs.Split.{first_fresh}
use Rattle.expressions.proofs.Simplification.{Consistent, simplify_sound, simplify_complete, simplify_back, simplify_consistent, consistent_satisfiable}
use Rattle.expressions.proofs.Numbering.{class_fresh}
use Rattle.language.specs.Program.{Param, pe, pa, Prog, find}
use Rattle.language.specs.WellFormed.{fits}
use Rattle.semantics.specs.Lists.{All, Any, AllPairs}
use Rattle.semantics.specs.Environment.{bind_params, add_e, add_a}
use Rattle.semantics.specs.Figure4.{ValueEnv}
use Rattle.semantics.specs.Evaluate.{step, eval_from, bind_inputs, start_term, start_env, evaluate}
use Rattle.semantics.specs.Configuration.{ground_env, state, start_with, start}
use Rattle.semantics.specs.Trace.{successors_of}
use Rattle.semantics.specs.Tree.{root, tree_of, leaves, leaves_lines, unfinished_nodes, any_of, Line}
use Rattle.semantics.proofs.Lists.{all_map, any_map}
use Rattle.semantics.proofs.Grounding.{bind_params_ground}
use Rattle.semantics.proofs.TransitionCorrectness.{Invariant, transition_correct}
use Rattle.semantics.proofs.Coverage.{Disjoint, InputDetermines, evaluates, Origin, Exact, tree_exact}

-- the start's environment is made of the inputs
start_env_lem : (θ : GroundSubst) (ps : List Param) (cs : List Exp) → fits ps cs ≡ true → bind_params (ground_exp θ) (ground_atomic θ) ps cs ≡ bind_inputs ps (ground_all θ cs)
start_env_lem θ [] [] f = refl
start_env_lem θ [] (c ∷ cs) f = absurd (false≢true f)
start_env_lem θ (pe x ∷ ps) [] f = absurd (false≢true f)
start_env_lem θ (pa x ∷ ps) [] f = absurd (false≢true f)
start_env_lem θ (pe x ∷ ps) (c ∷ cs) f = ap (add_e x (ground_exp θ c)) (start_env_lem θ ps cs f)
start_env_lem θ (pa x ∷ ps) (atm y ∷ cs) f = ap (add_a x (ground_atomic θ y)) (start_env_lem θ ps cs f)
start_env_lem θ (pa x ∷ ps) (evar n ∷ cs) f = absurd (false≢true f)
start_env_lem θ (pa x ∷ ps) (pair c d ∷ cs) f = absurd (false≢true f)

-- the clauses of demand 3, for lines and a cut, with evaluation as a function
pub record TableCorrect (p : Prog) (n : ℕ) (j : IOClass) (lines : List Line) (cut : Bool) : Type 0 where
  pub sound : All (λ L. (is : List Value) (o : Value) → InClass L.class is o → InClass j is o × (evaluate p n is ≡ some (L.steps, o))) lines
  pub complete : (is : List Value) (o : Value) (m : ℕ) → InClass j is o → evaluate p n is ≡ some (m, o) → Any (λ L. InClass L.class is o) lines
  pub disjoint : AllPairs (λ L M. (is : List Value) (o : Value) → InClass L.class is o → InClass M.class is o → ⊥) lines
  pub nonempty : All (λ L. (is : List Value) × (o : Value) × InClass L.class is o) lines
  pub consistent : All (λ L. Consistent L.class.neqs) lines
  pub cut_iff : (cut ≡ true) ↔ ((is : List Value) × (o : Value) × InClass j is o × (evaluate p n is ≡ none))

abbrev ins_of : GroundPair → List Value
ins_of g = g.ins

module _ (p : Prog) (n : ℕ) (j : IOClass) (fit : fits (find p 0).params j.con.ins ≡ true) where
  module _ (qs : Restriction) (simplified : simplify j.neqs ≡ some qs) where
    abbrev P : CRPair state
    P = record { con = record { io = j.con; env = bind_params (λ c. c) (λ x. x) (find p 0).params j.con.ins }; neqs = qs }

    of_job_lem : (θ : GroundSubst) → Satisfies θ j.neqs → Satisfies θ qs
    of_job_lem θ h = simplify_back θ j.neqs qs simplified h

    to_job : (θ : GroundSubst) → Satisfies θ qs → Satisfies θ j.neqs
    to_job θ h = simplify_sound θ j.neqs qs simplified h

    env_is : (θ : GroundSubst) → ground_env θ P.con.env ≡ start_env p (ground_all θ j.con.ins)
    env_is θ = bind_params_ground θ (λ c. c) (λ x. x) (find p 0).params j.con.ins ∙ start_env_lem θ (find p 0).params j.con.ins fit

    pub start_invariant : Invariant (first_fresh j) P
    start_invariant = record {
      fresh = λ θ φ a.
          let r = class_fresh j (first_fresh j) (omega arith) θ φ a in
          let v = env_is θ ∙ ap (λ (g : GroundPair). start_env p g.ins) r.0 ∙ inv (env_is φ) in
          ((λ i. record { io = r.0 i; env = v i }), λ h. of_job_lem φ (r.1 (to_job θ h)));
      consistent = simplify_consistent j.neqs qs simplified;
    }

    determined : InputDetermines P
    determined θ φ h k e = env_is θ ∙ ap (start_env p) e ∙ inv (env_is φ)

    evaluate_is : (θ : GroundSubst) → evaluates p n (start_term p) θ P ≡ evaluate p n (ground_all θ j.con.ins)
    unfolding evaluate
    evaluate_is θ = ap (λ (σ : ValueEnv). eval_from p n (step p (start_term p) σ)) (env_is θ)

    table_from : (lines : List Line) (cut : Bool) → Exact p n 0 P (start_term p) lines cut → TableCorrect p n j lines cut
    table_from lines cut x = record {
      sound = all_map _ _ (λ L f is o M. let O = f.1 M.θ M.sat in (
        record { θ = O.θ; sat = to_job O.θ O.sat; is = O.io ∙ M.is },
        ap (evaluate p n) (inv (ap ins_of (O.io ∙ M.is))) ∙ inv (evaluate_is O.θ) ∙ O.gives ∙ (λ i. some (zero_is L M.θ O i, (M.is i).out)),
      )) lines x.sound;
      complete = λ is o m M e. any_map _ _ (λ L I. record { θ = I.φ; sat = I.sat; is = I.io ∙ M.is }) lines
          (x.complete M.θ (of_job_lem M.θ M.sat) m
          (evaluate_is M.θ ∙ ap (λ (g : GroundPair). evaluate p n g.ins) M.is ∙ e ∙ ap (λ (v : Value). some (m, v)) (inv (ap (λ (g : GroundPair). g.out) M.is))));
      disjoint = apart lines (x.apart determined);
      nonempty = all_map _ _ (λ L f. let w = consistent_satisfiable L.class.neqs f.0 in
          ((ground_io w.0 L.class.con).ins, (ground_io w.0 L.class.con).out, record { θ = w.0; sat = w.1; is = refl })) lines x.sound;
      consistent = all_map _ _ (λ L f. f.0) lines x.sound;
      cut_iff = (
        (λ e. let w = x.cut_sound e in
            (ground_all w.0 j.con.ins, ground_exp w.0 j.con.out, record { θ = w.0; sat = to_job w.0 w.1; is = refl }, inv (evaluate_is w.0) ∙ w.2)),
        λ w. let M = w.2 in x.cut_complete M.θ (of_job_lem M.θ M.sat) (evaluate_is M.θ ∙ ap (λ (g : GroundPair). evaluate p n g.ins) M.is ∙ w.3),
      );
    }
      where
        zero_is : (L : Line) (φ : GroundSubst) (O : Origin p n 0 P (start_term p) L φ) → O.m ≡ L.steps
        zero_is L φ O = omega (arith, O.steps)

        apart_one : (L : Line) (ls : List Line) → All (Disjoint L) ls → All (λ M. (is : List Value) (o : Value) → InClass L.class is o → InClass M.class is o → ⊥) ls
        apart_one L ls h = all_map _ _ (λ M d is o a b. d a.θ b.θ a.sat b.sat (ap ins_of (a.is ∙ inv b.is))) ls h

        apart : (ls : List Line) → AllPairs Disjoint ls → AllPairs (λ L M. (is : List Value) (o : Value) → InClass L.class is o → InClass M.class is o → ⊥) ls
        apart [] h = tt
        apart (L ∷ ls) h = (apart_one L ls h.0, apart ls h.1)

  -- a contradictory job has an empty class
  table_none : simplify j.neqs ≡ none → TableCorrect p n j [] false
  table_none e = record {
    sound = tt;
    complete = λ is o m M. absurd (no_class is o M);
    disjoint = tt;
    nonempty = tt;
    consistent = tt;
    cut_iff = ((λ c. absurd (false≢true c)), (λ w. absurd (no_class w.0 w.1 w.2)));
  }
    where
      no_class : (is : List Value) (o : Value) → InClass j is o → ⊥
      no_class is o M = none-ne-some _ (inv e ∙ (simplify_complete M.θ j.neqs M.sat).1)

  pub table_correct : TableCorrect p n j (leaves_lines (leaves (tree_of p n (start p j)))) (any_of (unfinished_nodes (tree_of p n (start p j))))
  table_correct = pick (simplify j.neqs) refl
    where
      pick : (o : Option Restriction) → simplify j.neqs ≡ o →
          TableCorrect p n j (leaves_lines (leaves (tree_of p n (start_with p j o)))) (any_of (unfinished_nodes (tree_of p n (start_with p j o))))
      pick none e = table_none e
      pick (some qs) e = table_from qs e _ _
          (tree_exact p n (root (record { cr = P qs e; term = start_term p; fresh = first_fresh j })) (start_term p) (start_invariant qs e).consistent
          (successors_of p (P qs e) (start_term p) (first_fresh j)) (transition_correct p (P qs e) (first_fresh j) (start_invariant qs e) (start_term p)))
