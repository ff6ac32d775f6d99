-- The lines of a tree hold exactly what evaluates to the wanted output, each in one line; an unfinished node is an input that runs longer.
use Prim.Native.Nat.{ℕ, zero, suc, ◌+◌}
use mathlib.Core.Path.{◌≡◌, refl, ap, subst, subst₂, ◌∙◌, sym as inv}
use mathlib.Core.Bool.{Bool, true, false, ◌||◌, true≢false, false≢true}
use mathlib.Core.List.{List, [], ◌∷◌, ◌++◌, append_assoc}
use mathlib.Core.Option.{Option, none, some, none-ne-some, some-ne-none, some-injective}
use mathlib.Core.Logic.{◌⊎◌, inl, inr}
use native.Mathlib.Omega.{arith}
use Rattle.expressions.specs.Expression.{Value, Exp}
use Rattle.expressions.specs.Substitution.{GroundSubst, ground_exp}
use Rattle.expressions.specs.Restriction.{Satisfies}
use Rattle.expressions.specs.Contraction.{CRPair}
use Rattle.expressions.specs.Class.{GroundPair, ground_io, IOClass}
use Rattle.expressions.specs.Intersection.{Intersected, common, disjoint, too_large, intersect, no_limit}
use Rattle.expressions.proofs.Tests.{or_either}
use Rattle.expressions.proofs.Simplification.{Consistent, consistent_satisfiable}
use Rattle.expressions.proofs.Unification.{intersect_unified, intersect_sound, intersect_complete}
use Rattle.language.specs.Program.{Term, Prog}
use Rattle.semantics.specs.Lists.{All, Any, AllPairs}
use Rattle.semantics.specs.Figure4.{ValueEnv}
use Rattle.semantics.specs.Evaluate.{Next, end, go, step, add_step, eval_from}
use Rattle.semantics.specs.Configuration.{ground_env, state, Configuration}
use Rattle.semantics.specs.Trace.{Successors, terminal, called, branches, successors}
use Rattle.semantics.specs.Tree.{Node, after_call, after_decision, Tree, branch, tree_from, Leaf, leaves, unfinished_nodes, Line, meeting_at, line_of, leaf_lines, leaves_lines, any_of}
use Rattle.semantics.proofs.Lists.{all_append, all_map, any_left, any_right, any_map, pairs_append}
use Rattle.semantics.proofs.Evaluation.{add_step_some}
use Rattle.semantics.proofs.TransitionCorrectness.{side, Invariant, TransitionSound, TransitionComplete, BranchSound, HasSuccessor, TransitionCorrect, transition_correct}

-- the inputs of two lines have nothing in common (001, theorem 48)
abbrev pub Disjoint : Line → Line → Type 0
Disjoint L M = (θ φ : GroundSubst) → Satisfies θ L.class.neqs → Satisfies φ M.class.neqs →
    (ground_io θ L.class.con).ins ≡ (ground_io φ M.class.con).ins → ⊥

-- the state is a function of the input
abbrev pub InputDetermines : CRPair state → Type 0
InputDetermines P = (θ φ : GroundSubst) → Satisfies θ P.neqs → Satisfies φ P.neqs → (ground_io θ P.con.io).ins ≡ (ground_io φ P.con.io).ins →
    ground_env θ P.con.env ≡ ground_env φ P.con.env

-- evaluation from a state of a configuration
abbrev pub evaluates : Prog → ℕ → Term → GroundSubst → CRPair state → Option (ℕ × Value)
evaluates p n t θ P = eval_from p n (step p t (ground_env θ P.con.env))

-- where a filling of a line comes from
pub record Origin (p : Prog) (n s : ℕ) (P : CRPair state) (t : Term) (L : Line) (φ : GroundSubst) : Type 0 where
  pub θ : GroundSubst
  pub sat : Satisfies θ P.neqs
  pub io : ground_io θ P.con.io ≡ ground_io φ L.class.con
  pub m : ℕ
  pub steps : L.steps ≡ s + m
  pub gives : evaluates p n t θ P ≡ some (m, ground_exp φ L.class.con.out)

abbrev pub From : Prog → ℕ → ℕ → CRPair state → Term → Line → Type 0
From p n s P t L = Consistent L.class.neqs × ((φ : GroundSubst) → Satisfies φ L.class.neqs → Origin p n s P t L φ)

-- where a filling of a configuration goes
pub record Into (s m : ℕ) (P : CRPair state) (θ : GroundSubst) (L : Line) : Type 0 where
  pub φ : GroundSubst
  pub sat : Satisfies φ L.class.neqs
  pub io : ground_io φ L.class.con ≡ ground_io θ P.con.io
  pub steps : L.steps ≡ s + m

-- what the lines of the tree at a configuration say of it, and whether the tree is cut
pub record Exact (p : Prog) (n s : ℕ) (P : CRPair state) (t : Term) (lines : List Line) (cut : Bool) : Type 0 where
  pub sound : All (From p n s P t) lines
  pub complete : (θ : GroundSubst) → Satisfies θ P.neqs → (m : ℕ) → evaluates p n t θ P ≡ some (m, ground_exp θ P.con.io.out) → Any (Into s m P θ) lines
  pub cut_sound : cut ≡ true → (θ : GroundSubst) × Satisfies θ P.neqs × (evaluates p n t θ P ≡ none)
  pub cut_complete : (θ : GroundSubst) → Satisfies θ P.neqs → evaluates p n t θ P ≡ none → cut ≡ true
  pub apart : InputDetermines P → AllPairs Disjoint lines

-- an end
eval_end : (p : Prog) (n : ℕ) (v : Value) → eval_from p n (end v) ≡ some (0, v)
unfolding eval_from
eval_end p zero v = refl
eval_end p (suc n) v = refl

module _ (p : Prog) (n : ℕ) (x : Node) (t : Term) (u : Exp) (e : (θ : GroundSubst) → step p t (ground_env θ x.conf.cr.con.env) ≡ end (ground_exp θ u)) where
  abbrev P : CRPair state
  P = x.conf.cr

  ends : (θ : GroundSubst) → evaluates p n t θ P ≡ some (0, ground_exp θ u)
  ends θ = ap (eval_from p n) (e θ) ∙ eval_end p n (ground_exp θ u)

  -- the output of a run that ends here is the one reached
  reached : (θ : GroundSubst) (m : ℕ) → evaluates p n t θ P ≡ some (m, ground_exp θ P.con.io.out) → (0 ≡ m) × (ground_exp θ P.con.io.out ≡ ground_exp θ u)
  reached θ m q = let z = some-injective _ _ (inv (ends θ) ∙ q) in (ap (λ (r : ℕ × Value). r.0) z, inv (ap (λ (r : ℕ × Value). r.1) z))

  no_line : ((Q : IOClass) → intersect no_limit (meeting_at x u) ≡ common Q → ⊥) → Exact p n x.steps P t [] false
  no_line never = record {
    sound = tt;
    complete = λ θ h m q. let c = intersect_complete (meeting_at x u) θ h (reached θ m q).1 in never c.0 c.1;
    cut_sound = λ c. absurd (false≢true c);
    cut_complete = λ θ h q. absurd (none-ne-some _ (inv q ∙ ends θ));
    apart = λ d. tt;
  }

  one_line : Consistent P.neqs → (Q : IOClass) → intersect no_limit (meeting_at x u) ≡ common Q → Exact p n x.steps P t (record { steps = x.steps; class = Q } ∷ []) false
  one_line cs Q is = record {
    sound = (((intersect_unified no_limit (meeting_at x u) Q is).consistent cs, from), tt);
    complete = λ θ h m q.
        let r = reached θ m q in
        let c = intersect_complete (meeting_at x u) θ h r.1 in
        let w : common c.0 ≡ common Q = inv c.1 ∙ is in
        let v : c.0 ≡ Q = cc in
        inl (record {
          φ = θ;
          sat = subst (λ (R : IOClass). Satisfies θ R.neqs) v c.2;
          io = ap (λ (R : IOClass). ground_io θ R.con) (inv v) ∙ c.3;
          steps = omega (arith, r.0);
        });
    cut_sound = λ c. absurd (false≢true c);
    cut_complete = λ θ h q. absurd (none-ne-some _ (inv q ∙ ends θ));
    apart = λ d. (tt, tt);
  }
    where
      from : (φ : GroundSubst) → Satisfies φ Q.neqs → Origin p n x.steps P t (record { steps = x.steps; class = Q }) φ
      from φ h = let U = intersect_sound no_limit (meeting_at x u) Q is φ h in record {
        θ = U.0;
        sat = U.1;
        io = U.2;
        m = 0;
        steps = omega arith;
        gives = ends U.0 ∙ ap (λ (v : Value). some (0, v)) (inv U.3 ∙ ap (λ (g : GroundPair). g.out) U.2);
      }

  end_exact : Consistent P.neqs → (o : Intersected) → intersect no_limit (meeting_at x u) ≡ o → Exact p n x.steps P t (line_of x.steps o) false
  end_exact cs (common Q) is = one_line cs Q is
  end_exact cs disjoint is = no_line (λ Q e. let w : disjoint ≡ common Q = inv is ∙ e in let z : ◌≡◌ {A = ℕ} 0 1 = cc in omega arith)
  end_exact cs too_large is = no_line (λ Q e. let w : too_large ≡ common Q = inv is ∙ e in let z : ◌≡◌ {A = ℕ} 0 1 = cc in omega arith)

-- one step more
add_step_none : (o : Option (ℕ × Value)) → add_step o ≡ none → o ≡ none
add_step_none none e = refl
add_step_none (some r) e = absurd (some-ne-none _ e)

-- a branch, as seen from its configuration
record BranchCorrect (p : Prog) (n s : ℕ) (P : CRPair state) (t : Term) (b : Bool) (a : Option Configuration) (lines : List Line) (cut : Bool) : Type 0 where
  sound : All (λ L. Consistent L.class.neqs × ((φ : GroundSubst) → Satisfies φ L.class.neqs → (o : Origin p (suc n) s P t L φ) × (side t (ground_env o.θ P.con.env) ≡ b))) lines
  complete : (θ : GroundSubst) → HasSuccessor p P t θ a → (m : ℕ) → evaluates p (suc n) t θ P ≡ some (m, ground_exp θ P.con.io.out) → Any (Into s m P θ) lines
  cut_sound : cut ≡ true → (θ : GroundSubst) × Satisfies θ P.neqs × (evaluates p (suc n) t θ P ≡ none)
  cut_complete : (θ : GroundSubst) → HasSuccessor p P t θ a → evaluates p (suc n) t θ P ≡ none → cut ≡ true
  apart : InputDetermines P → AllPairs Disjoint lines

abbrev env_of : Next → ValueEnv
env_of (end v) = record { evars = []; avars = [] }
env_of (go t σ) = σ

module _ (p : Prog) (n s : ℕ) (P : CRPair state) (t : Term) (b : Bool) where
  -- a step of the state is a step of the evaluation
  onwards : (θ φ : GroundSubst) (c : Configuration) → step p t (ground_env θ P.con.env) ≡ go c.term (ground_env φ c.cr.con.env) →
      evaluates p (suc n) t θ P ≡ add_step (evaluates p n c.term φ c.cr)
  unfolding eval_from
  onwards θ φ c e = ap (eval_from p (suc n)) e

  absent_correct : BranchCorrect p n s P t b none [] false
  absent_correct = record { sound = tt; complete = λ θ g. absurd g; cut_sound = λ e. absurd (false≢true e); cut_complete = λ θ g. absurd g; apart = λ d. tt }

  module _ (c : Configuration) (back : (φ : GroundSubst) → Satisfies φ c.cr.neqs → TransitionSound p P t b c φ) (lines : List Line) (cut : Bool)
      (x : Exact p n (suc s) c.cr c.term lines cut) where
    determines : InputDetermines P → InputDetermines c.cr
    determines d θ φ h k e =
        let B = back θ h in
        let C = back φ k in
        ap env_of (inv B.moves ∙ ap (step p t) (d B.θ C.θ B.sat C.sat
        (ap (λ (g : GroundPair). g.ins) B.io ∙ e ∙ inv (ap (λ (g : GroundPair). g.ins) C.io))) ∙ C.moves)

    from : (L : Line) → From p n (suc s) c.cr c.term L →
        Consistent L.class.neqs × ((φ : GroundSubst) → Satisfies φ L.class.neqs → (o : Origin p (suc n) s P t L φ) × (side t (ground_env o.θ P.con.env) ≡ b))
    from L f = (
      f.0,
      λ φ h.
          let O = f.1 φ h in
          let B = back O.θ O.sat in (
            record {
              θ = B.θ;
              sat = B.sat;
              io = B.io ∙ O.io;
              m = suc O.m;
              steps = omega (arith, O.steps);
              gives = onwards B.θ O.θ c B.moves ∙ ap add_step O.gives;
            },
            B.takes,
          ),
    )

    branch_correct : BranchCorrect p n s P t b (some c) lines cut
    branch_correct = record {
      sound = all_map _ _ from lines x.sound;
      complete = λ θ g m q.
          let F : TransitionComplete p P t θ c = g in
          let w = add_step_some (evaluates p n c.term F.φ c.cr) m (ground_exp θ P.con.io.out) (inv (onwards θ F.φ c F.moves) ∙ q) in
          any_map _ _ (λ L I. record { φ = I.φ; sat = I.sat; io = I.io ∙ F.io; steps = omega (arith, I.steps, w.1) }) lines
          (x.complete F.φ F.sat w.0 (w.2 ∙ ap (λ (v : Value). some (w.0, v)) (inv (ap (λ (g : GroundPair). g.out) F.io))));
      cut_sound = λ e.
          let w = x.cut_sound e in
          let B = back w.0 w.1 in
          (B.θ, B.sat, onwards B.θ w.0 c B.moves ∙ ap add_step w.2);
      cut_complete = λ θ g q.
          let F : TransitionComplete p P t θ c = g in
          x.cut_complete F.φ F.sat (add_step_none _ (inv (onwards θ F.φ c F.moves) ∙ q));
      apart = λ d. x.apart (determines d);
    }

-- what has a successor is no end
goes : (p : Prog) (P : CRPair state) (t : Term) (θ : GroundSubst) (a b : Option Configuration) → HasSuccessor p P t θ a ⊎ HasSuccessor p P t θ b → evaluates p zero t θ P ≡ none
unfolding eval_from
goes p P t θ none b (inl g) = absurd g
goes p P t θ (some c) b (inl g) = ap (eval_from p zero) g.moves
goes p P t θ a none (inr g) = absurd g
goes p P t θ a (some c) (inr g) = ap (eval_from p zero) g.moves

or_right : (a b : Bool) → b ≡ true → (a || b) ≡ true
or_right true b e = refl
or_right false b e = e

or_left : (a b : Bool) → a ≡ true → (a || b) ≡ true
or_left true b e = refl
or_left false b e = absurd (false≢true e)

module _ (p : Prog) (n s : ℕ) (P : CRPair state) (t : Term) (a b : Option Configuration)
    (has : (θ : GroundSubst) → Satisfies θ P.neqs → HasSuccessor p P t θ a ⊎ HasSuccessor p P t θ b) where
  unfinished_exact : Consistent P.neqs → Exact p zero s P t [] true
  unfinished_exact cs = record {
    sound = tt;
    complete = λ θ h m q. none-ne-some _ (inv (goes p P t θ a b (has θ h)) ∙ q);
    cut_sound = λ e. let w = consistent_satisfiable P.neqs cs in (w.0, w.1, goes p P t w.0 a b (has w.0 w.1));
    cut_complete = λ θ h q. refl;
    apart = λ d. tt;
  }

  decision_exact : (ls ms : List Line) (c d : Bool) → BranchCorrect p n s P t true a ls c → BranchCorrect p n s P t false b ms d → Exact p (suc n) s P t (ls ++ ms) (c || d)
  decision_exact ls ms c d A B = record {
    sound = all_append (From p (suc n) s P t) ls ms
        (all_map _ _ (λ L f. (f.0, λ φ h. (f.1 φ h).0)) ls A.sound) (all_map _ _ (λ L f. (f.0, λ φ h. (f.1 φ h).0)) ms B.sound);
    complete = λ θ h m e. into θ m e (has θ h);
    cut_sound = λ e. or_either c d e A.cut_sound B.cut_sound;
    cut_complete = λ θ h e. cutc θ e (has θ h);
    apart = λ w. pairs_append Disjoint ls ms (A.apart w) (B.apart w)
        (all_map _ _ (λ L f. all_map _ _ (λ M g θ φ h k e.
        let O = f.1 θ h in
        let U = g.1 φ k in
        true≢false (inv O.1 ∙ ap (side t) (w O.0.θ U.0.θ O.0.sat U.0.sat
        (ap (λ (g : GroundPair). g.ins) O.0.io ∙ e ∙ inv (ap (λ (g : GroundPair). g.ins) U.0.io))) ∙ U.1))
        ms B.sound) ls A.sound);
  }
    where
      into : (θ : GroundSubst) (m : ℕ) → evaluates p (suc n) t θ P ≡ some (m, ground_exp θ P.con.io.out) → HasSuccessor p P t θ a ⊎ HasSuccessor p P t θ b → Any (Into s m P θ) (ls ++ ms)
      into θ m e (inl g) = any_left (Into s m P θ) ls ms (A.complete θ g m e)
      into θ m e (inr g) = any_right (Into s m P θ) ls ms (B.complete θ g m e)

      cutc : (θ : GroundSubst) → evaluates p (suc n) t θ P ≡ none → HasSuccessor p P t θ a ⊎ HasSuccessor p P t θ b → (c || d) ≡ true
      cutc θ e (inl g) = or_left c d (A.cut_complete θ g e)
      cutc θ e (inr g) = or_right c d (B.cut_complete θ g e)

-- a call: one branch
call_exact : (p : Prog) (n s : ℕ) (P : CRPair state) (t : Term) (c : Configuration) → ((θ : GroundSubst) → Satisfies θ P.neqs → HasSuccessor p P t θ (some c)) →
    (ls : List Line) (k : Bool) → BranchCorrect p n s P t true (some c) ls k → Exact p (suc n) s P t ls k
call_exact p n s P t c has ls k A = record {
  sound = all_map _ _ (λ L f. (f.0, λ φ h. (f.1 φ h).0)) ls A.sound;
  complete = λ θ h m e. A.complete θ (has θ h) m e;
  cut_sound = A.cut_sound;
  cut_complete = λ θ h e. A.cut_complete θ (has θ h) e;
  apart = A.apart;
}

-- what is read off two trees is read off both
pub leaves_lines_append : (ls ms : List Leaf) → leaves_lines (ls ++ ms) ≡ leaves_lines ls ++ leaves_lines ms
leaves_lines_append [] ms = refl
leaves_lines_append (l ∷ ls) ms = ap (λ (r : List Line). leaf_lines l ++ r) (leaves_lines_append ls ms) ∙ inv (append_assoc (leaf_lines l) (leaves_lines ls) (leaves_lines ms))

pub any_of_append : {A : Type 0} (xs ys : List A) → any_of (xs ++ ys) ≡ (any_of xs || any_of ys)
any_of_append [] ys = refl
any_of_append (x ∷ xs) ys = refl

abbrev TreeExact : Prog → ℕ → ℕ → CRPair state → Term → Tree → Type 0
TreeExact p n s P t T = Exact p n s P t (leaves_lines (leaves T)) (any_of (unfinished_nodes T))

append_nil : (ls : List Line) → ls ++ [] ≡ ls
append_nil [] = refl
append_nil (l ∷ ls) = ap (λ (r : List Line). l ∷ r) (append_nil ls)

branch_exact : (p : Prog) (n : ℕ) (x : Node) (t : Term) (b : Bool) (a : Option Configuration) (f : Node → Tree) →
    ((y : Node) → Invariant y.conf.fresh y.conf.cr → TreeExact p n y.steps y.conf.cr y.conf.term (f y)) → BranchSound p x.conf.cr t b a →
    BranchCorrect p n x.steps x.conf.cr t b a (leaves_lines (leaves (branch f x b a))) (any_of (unfinished_nodes (branch f x b a)))
branch_exact p n x t b none f ih k = absent_correct p n x.steps x.conf.cr t b
branch_exact p n x t b (some c) f ih k = branch_correct p n x.steps x.conf.cr t b c k.1 _ _ (ih (after_decision x b c) k.0)

pub tree_exact : (p : Prog) (n : ℕ) (x : Node) (t : Term) → Consistent x.conf.cr.neqs → (D : Successors) → TransitionCorrect p x.conf.cr t D →
    TreeExact p n x.steps x.conf.cr t (tree_from p n x D)
unfolding tree_from
tree_exact p zero x t cs (terminal u) R =
    subst (λ (ls : List Line). Exact p zero x.steps x.conf.cr t ls false) (inv (append_nil _)) (end_exact p zero x t u R cs (intersect no_limit (meeting_at x u)) refl)
tree_exact p (suc n) x t cs (terminal u) R =
    subst (λ (ls : List Line). Exact p (suc n) x.steps x.conf.cr t ls false) (inv (append_nil _)) (end_exact p (suc n) x t u R cs (intersect no_limit (meeting_at x u)) refl)
tree_exact p zero x t cs (called c) R = unfinished_exact p zero x.steps x.conf.cr t (some c) none (λ θ h. inl (R.1 θ h)) cs
tree_exact p zero x t cs (branches a b) R = unfinished_exact p zero x.steps x.conf.cr t a b R.2 cs
tree_exact p (suc n) x t cs (called c) R =
    call_exact p n x.steps x.conf.cr t c R.1 _ _
    (branch_correct p n x.steps x.conf.cr t true c R.0.1 _ _
    (tree_exact p n (after_call x c) c.term R.0.0.consistent (successors p c) (transition_correct p c.cr c.fresh R.0.0 c.term)))
tree_exact p (suc n) x t cs (branches a b) R =
    let f : Node → Tree = λ y. tree_from p n y (successors p y.conf) in
    let ih : (y : Node) → Invariant y.conf.fresh y.conf.cr → TreeExact p n y.steps y.conf.cr y.conf.term (f y) =
    λ y i. tree_exact p n y y.conf.term i.consistent (successors p y.conf) (transition_correct p y.conf.cr y.conf.fresh i y.conf.term) in
    subst₂ (Exact p (suc n) x.steps x.conf.cr t)
    (inv (leaves_lines_append (leaves (branch f x true a)) (leaves (branch f x false b))))
    (inv (any_of_append (unfinished_nodes (branch f x true a)) (unfinished_nodes (branch f x false b))))
    (decision_exact p n x.steps x.conf.cr t a b R.2 _ _ _ _ (branch_exact p n x t true a f ih R.0) (branch_exact p n x t false b f ih R.1))
