-- Tracing never gets stuck: each configuration that is derived from the start is terminal with an output, or has a transition.
use Prim.Native.Nat.{ℕ, zero}
use mathlib.Core.Path.{◌≡◌, refl, ap, subst}
use mathlib.Core.Bool.{Bool, true, false}
use mathlib.Core.List.{List}
use mathlib.Core.Option.{Option, none, some, none-ne-some, some-injective}
use mathlib.Core.Logic.{◌⊎◌, inl, inr}
use Rattle.expressions.specs.Expression.{Exp}
use Rattle.expressions.specs.Substitution.{GroundSubst}
use Rattle.expressions.specs.Restriction.{Restriction, Satisfies, simplify}
use Rattle.expressions.specs.Class.{IOClass}
use Rattle.expressions.proofs.Simplification.{consistent_satisfiable}
use Rattle.language.specs.Program.{Prog, find}
use Rattle.language.specs.WellFormed.{fits, admitted}
use Rattle.semantics.specs.Configuration.{Configuration, start_with, start}
use Rattle.semantics.specs.Figure10.{Transition, Derivation, here, there, Terminal}
use Rattle.semantics.specs.Trace.{Successors, terminal, called, branches, successors}
use Rattle.semantics.specs.Demand2.{TraceNeverStuck}
use Rattle.semantics.proofs.Scopes.{scoped_once}
use Rattle.semantics.proofs.TransitionCorrectness.{Invariant, BranchSound, HasSuccessor, TransitionCorrect, transition_correct}
use Rattle.semantics.proofs.StartCorrectness.{start_invariant}
use Rattle.semantics.proofs.Tracing.{child, transition_child, Scoped, child_transition, successors_terminal, child_scoped, start_scoped}

module _ (p : Prog) where
  abbrev Held : Configuration → Type 0
  Held c = Invariant c.fresh c.cr

  -- a successor keeps the invariant
  child_held : (c d : Configuration) (o : Option Bool) (D : Successors) → TransitionCorrect p c.cr c.term D → child o D ≡ some d → Held d
  child_held c d o D R e = pick o D R e
    where
      of : (b : Bool) (a : Option Configuration) → BranchSound p c.cr c.term b a → a ≡ some d → Held d
      of b none S e = absurd (none-ne-some _ e)
      of b (some x) S e = subst Held (some-injective _ _ e) S.0

      pick : (o : Option Bool) (D : Successors) → TransitionCorrect p c.cr c.term D → child o D ≡ some d → Held d
      pick none (terminal u) R e = absurd (none-ne-some _ e)
      pick (some true) (terminal u) R e = absurd (none-ne-some _ e)
      pick (some false) (terminal u) R e = absurd (none-ne-some _ e)
      pick none (called x) R e = of true (some x) R.0 e
      pick (some true) (called x) R e = absurd (none-ne-some _ e)
      pick (some false) (called x) R e = absurd (none-ne-some _ e)
      pick none (branches a b) R e = absurd (none-ne-some _ e)
      pick (some true) (branches a b) R e = of true a R.0 e
      pick (some false) (branches a b) R e = of false b R.1 e

  correct : (c : Configuration) → Held c → TransitionCorrect p c.cr c.term (successors p c)
  correct c h = transition_correct p c.cr c.fresh h c.term

  derived : (admitted p ≡ true) → (d c : Configuration) (m : ℕ) (bs : List Bool) → Derivation p d c m bs → Held c → Scoped p c → Held d × Scoped p d
  derived a d c m bs here h s = (h, s)
  derived a d c m bs (there c' e o n cs t r) h s =
      let k = transition_child t in derived a d e n cs r (child_held c e o (successors p c) (correct c h) k) (child_scoped p c e o a s k)

  -- one of the successors is there for some filling, and so is a transition
  proceeds : (c : Configuration) → Held c → Scoped p c → ((u : Exp) × Terminal c u) ⊎ ((o : Option Bool) × (d : Configuration) × Transition p c o d)
  proceeds c h s = let f = consistent_satisfiable c.cr.neqs h.consistent in pick (successors p c) refl (correct c h) f.0 f.1
    where
      of : (o : Option Bool) (a : Option Configuration) (θ : GroundSubst) → HasSuccessor p c.cr c.term θ a → child o (successors p c) ≡ a →
          (o : Option Bool) × (d : Configuration) × Transition p c o d
      of o none θ g e = absurd g
      of o (some d) θ g e = (o, d, child_transition p c d o s e)

      pick : (D : Successors) → successors p c ≡ D → TransitionCorrect p c.cr c.term D → (θ : GroundSubst) → Satisfies θ c.cr.neqs →
          ((u : Exp) × Terminal c u) ⊎ ((o : Option Bool) × (d : Configuration) × Transition p c o d)
      pick (terminal u) e R θ g = inl (u, successors_terminal p c u s e)
      pick (called d) e R θ g = inr (of none (some d) θ (R.1 θ g) (ap (child none) e))
      pick (branches x y) e R θ g = inr (either (R.2 θ g))
        where
          either : HasSuccessor p c.cr c.term θ x ⊎ HasSuccessor p c.cr c.term θ y → (o : Option Bool) × (d : Configuration) × Transition p c o d
          either (inl k) = of (some true) x θ k (ap (child (some true)) e)
          either (inr k) = of (some false) y θ k (ap (child (some false)) e)

start_held : (p : Prog) (j : IOClass) (c : Configuration) → fits (find p 0).params j.con.ins ≡ true → start p j ≡ some c → Invariant c.fresh c.cr
start_held p j c fit e = pick (simplify j.neqs) refl e
  where
    pick : (o : Option Restriction) → simplify j.neqs ≡ o → start_with p j o ≡ some c → Invariant c.fresh c.cr
    pick none q e = absurd (none-ne-some _ e)
    pick (some qs) q e = subst (λ (d : Configuration). Invariant d.fresh d.cr) (some-injective _ _ e) (start_invariant p zero j fit qs q)

pub trace_never_stuck : (p : Prog) (j : IOClass) → admitted p ≡ true → fits (find p 0).params j.con.ins ≡ true → TraceNeverStuck p j
trace_never_stuck p j a fit c d m bs e D =
    let r = derived p a d c m bs D (start_held p j c fit e) (start_scoped p j c a fit e) in
    record { distinct_e = r.1.distinct_e; distinct_a = r.1.distinct_a; binds_once = scoped_once d.term r.1; proceeds = proceeds p d r.0 r.1 }
