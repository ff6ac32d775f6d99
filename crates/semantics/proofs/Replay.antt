-- Laws of replay: what a transition does to it, by parts, and how deep it leads.
use Prim.Native.Nat.{ℕ, zero, suc, ◌+◌, ◌≤◌}
use mathlib.Core.Path.{◌≡◌, refl, ap, subst, ◌∙◌, sym as inv}
use mathlib.Core.Bool.{Bool, true, false}
use mathlib.Core.List.{List, [], ◌∷◌, ◌++◌, append_assoc, append-nil}
use mathlib.Core.Option.{Option, none, some, bind}
use native.Mathlib.Omega.{arith}
use lib.ListN.{length}
use Rattle.expressions.proofs.Predicates.{OfOption}
use Rattle.language.specs.Program.{Prog}
use Rattle.semantics.specs.Configuration.{Configuration}
use Rattle.semantics.specs.Trace.{Successors, terminal, called, branches, successors}
use Rattle.semantics.specs.Tree.{Node, after_call, after_decision}
use Rattle.semantics.specs.Walk.{Untaken}
use Rattle.semantics.proofs.Backtrack.{replay_next, replay}

-- what the decisions bs lead to from x, with n transitions left there
pub record Along (n : ℕ) (x : Node) (bs : List Bool) (i : Untaken) : Type 0 where
  pub depth : i.left + i.node.steps ≡ n + x.steps
  pub decisions : length bs + x.steps ≤ i.node.steps
  pub trail : i.node.trail ≡ x.trail ++ bs

module _ (p : Prog) where
  pub replay_none : (n : ℕ) (x : Node) → replay p n x [] ≡ some (record { left = n; node = x })
  unfolding replay
  replay_none zero x = refl
  replay_none (suc n) x = refl

  -- a call makes no difference to the decisions behind it
  pub replay_call : (n : ℕ) (x : Node) (c : Configuration) (b : Bool) (bs : List Bool) → successors p x.conf ≡ called c →
      replay p (suc n) x (b ∷ bs) ≡ replay p n (after_call x c) (b ∷ bs)
  unfolding replay
  replay_call n x c b bs e = ap (replay_next (λ y. replay p n y (b ∷ bs)) (λ y. replay p n y bs) x b) e

  pub replay_decision : (n : ℕ) (x : Node) (s t : Option Configuration) (b : Bool) (bs : List Bool) → successors p x.conf ≡ branches s t →
      replay p (suc n) x (b ∷ bs) ≡ replay_next (λ y. replay p n y (b ∷ bs)) (λ y. replay p n y bs) x b (branches s t)
  unfolding replay
  replay_decision n x s t b bs e = ap (replay_next (λ y. replay p n y (b ∷ bs)) (λ y. replay p n y bs) x b) e

  next_bind : (f f' g g' : Node → Option Untaken) (k : Untaken → Option Untaken) → ((y : Node) → f y ≡ bind (f' y) k) → ((y : Node) → g y ≡ bind (g' y) k) →
      (x : Node) (b : Bool) (S : Successors) → replay_next f g x b S ≡ bind (replay_next f' g' x b S) k
  unfolding bind
  next_bind f f' g g' k h l x b (terminal u) = refl
  next_bind f f' g g' k h l x b (called c) = h (after_call x c)
  next_bind f f' g g' k h l x true (branches none t) = refl
  next_bind f f' g g' k h l x true (branches (some c) t) = l (after_decision x true c)
  next_bind f f' g g' k h l x false (branches s none) = refl
  next_bind f f' g g' k h l x false (branches s (some c)) = l (after_decision x false c)

  -- the decisions may be followed in two parts, the second from a configuration that was kept
  pub replay_append : (n : ℕ) (x : Node) (bs cs : List Bool) → replay p n x (bs ++ cs) ≡ bind (replay p n x bs) (λ i. replay p i.left i.node cs)
  unfolding replay bind
  replay_append n x [] cs = refl
  replay_append zero x (b ∷ bs) cs = refl
  replay_append (suc n) x (b ∷ bs) cs = next_bind (λ y. replay p n y (b ∷ (bs ++ cs))) (λ y. replay p n y (b ∷ bs)) (λ y. replay p n y (bs ++ cs)) (λ y. replay p n y bs)
      (λ i. replay p i.left i.node cs) (λ y. replay_append n y (b ∷ bs) cs) (λ y. replay_append n y bs cs) x b (successors p x.conf)

  pub replay_from : {i : Untaken} (n : ℕ) (x : Node) (bs cs : List Bool) → replay p n x bs ≡ some i → replay p n x (bs ++ cs) ≡ replay p i.left i.node cs
  unfolding bind
  replay_from n x bs cs e = replay_append n x bs cs ∙ ap (λ (o : Option Untaken). bind o (λ i. replay p i.left i.node cs)) e

  call_along : (n : ℕ) (x : Node) (c : Configuration) (bs : List Bool) (o : Option Untaken) → OfOption (Along n (after_call x c) bs) o → OfOption (Along (suc n) x bs) o
  call_along n x c bs none h = tt
  call_along n x c bs (some i) h = record { depth = omega (arith, h.depth); decisions = omega (arith, h.decisions); trail = h.trail }

  decision_along : (n : ℕ) (x : Node) (c : Configuration) (b : Bool) (bs : List Bool) (o : Option Untaken) → OfOption (Along n (after_decision x b c) bs) o → OfOption (Along (suc n) x (b ∷ bs)) o
  decision_along n x c b bs none h = tt
  decision_along n x c b bs (some i) h = record { depth = omega (arith, h.depth); decisions = omega (arith, h.decisions); trail = h.trail ∙ append_assoc x.trail (b ∷ []) bs }

  next_along : (n : ℕ) (f g : Node → Option Untaken) (b : Bool) (bs : List Bool) → ((y : Node) → OfOption (Along n y (b ∷ bs)) (f y)) → ((y : Node) → OfOption (Along n y bs) (g y)) →
      (x : Node) (S : Successors) → OfOption (Along (suc n) x (b ∷ bs)) (replay_next f g x b S)
  next_along n f g b bs h l x (terminal u) = tt
  next_along n f g b bs h l x (called c) = call_along n x c (b ∷ bs) (f (after_call x c)) (h (after_call x c))
  next_along n f g true bs h l x (branches none t) = tt
  next_along n f g true bs h l x (branches (some c) t) = decision_along n x c true bs (g (after_decision x true c)) (l (after_decision x true c))
  next_along n f g false bs h l x (branches s none) = tt
  next_along n f g false bs h l x (branches s (some c)) = decision_along n x c false bs (g (after_decision x false c)) (l (after_decision x false c))

  replay_along : (n : ℕ) (x : Node) (bs : List Bool) → OfOption (Along n x bs) (replay p n x bs)
  unfolding replay
  replay_along n x [] = record { depth = refl; decisions = omega arith; trail = inv (append-nil x.trail) }
  replay_along zero x (b ∷ bs) = tt
  replay_along (suc n) x (b ∷ bs) =
      next_along n (λ y. replay p n y (b ∷ bs)) (λ y. replay p n y bs) b bs (λ y. replay_along n y (b ∷ bs)) (λ y. replay_along n y bs) x (successors p x.conf)

  pub replay_leads : {i : Untaken} (n : ℕ) (x : Node) (bs : List Bool) → replay p n x bs ≡ some i → Along n x bs i
  replay_leads n x bs e = subst (OfOption (Along n x bs)) e (replay_along n x bs)
