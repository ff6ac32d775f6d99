-- The way to a node of the tree is one: what is left of it behind a node on it, and the node of a decision.
use Prim.Native.Nat.{ℕ, suc}
use mathlib.Core.Path.{◌≡◌, refl, ap, subst, ◌∙◌, sym as inv}
use mathlib.Core.Bool.{Bool, true, false}
use mathlib.Core.List.{List, [], ◌∷◌, ◌++◌}
use mathlib.Core.Option.{Option, some}
use native.Mathlib.Omega.{arith}
use Rattle.language.specs.Program.{Prog}
use Rattle.semantics.specs.Configuration.{Configuration}
use Rattle.semantics.specs.Trace.{Successors, called, branches, successors}
use Rattle.semantics.specs.Tree.{Node, after_call, after_decision}
use Rattle.semantics.proofs.Backtrack.{Choice, trail_of}
use Rattle.semantics.proofs.Reaching.{branch_of, Reaches, here, by_call, by_decision}

-- a decision is made at the node
pub record Decides (p : Prog) (y : Node) : Type 0 where
  pub yes_to : Option Configuration
  pub no_to : Option Configuration
  pub branching : successors p y.conf ≡ branches yes_to no_to

same_call : {S : Successors} {c d : Configuration} → S ≡ called c → S ≡ called d → c ≡ d
same_call e f = cc

no_call : {S : Successors} {c : Configuration} {a b : Option Configuration} → S ≡ called c → S ≡ branches a b → ⊥
no_call e f = let z : ◌≡◌ {A = ℕ} 0 1 = cc in omega arith

same_branch : {S : Successors} (q : Bool) {a b a' b' : Option Configuration} {c d : Configuration} → S ≡ branches a b → S ≡ branches a' b' → branch_of q a b ≡ some c → branch_of q a' b' ≡ some d → c ≡ d
same_branch true e f g h = cc
same_branch false e f g h = cc

module _ (p : Prog) (G : Configuration → Type 0) where
  past_call : {n k : ℕ} {r y : Node} {ds : List Bool} {c : Configuration} → successors p r.conf ≡ called c → Decides p y → Reaches p G (suc n) r ds k y → Reaches p G n (after_call r c) ds k y
  past_call e d here = absurd (no_call e d.branching)
  past_call {n} {k} {r} {y} {ds} {c} e d (by_call f g t) = subst (λ (l : Configuration). Reaches p G n (after_call r l) ds k y) (same_call f e) t
  past_call e d (by_decision f h g t) = absurd (no_call e f)

  past_decision : {n k : ℕ} {r y : Node} {q : Bool} {ds : List Bool} {a b : Option Configuration} {c : Configuration} → successors p r.conf ≡ branches a b → branch_of q a b ≡ some c →
      Reaches p G (suc n) r (q ∷ ds) k y → Reaches p G n (after_decision r q c) ds k y
  past_decision e d (by_call f g t) = absurd (no_call f e)
  past_decision {n} {k} {r} {y} {q} {ds} {c = c} e d (by_decision f h g t) = subst (λ (l : Configuration). Reaches p G n (after_decision r q l) ds k y) (same_branch q f e h d) t

  -- THE LAW of a path: behind each node on it is what is left of it
  pub reaches_rest : {n k m : ℕ} {r x y : Node} {bs : List Bool} → Decides p y → Reaches p G n r bs m x → (cs : List Bool) → Reaches p G n r (bs ++ cs) k y → Reaches p G m x cs k y
  reaches_rest d here cs t = t
  reaches_rest d (by_call e g s) cs t = reaches_rest d s cs (past_call e d t)
  reaches_rest d (by_decision e h g s) cs t = reaches_rest d s cs (past_decision e h t)

-- without decisions from a decision, nowhere
stays : (p : Prog) (G : Configuration → Type 0) {n k : ℕ} {x y : Node} → Decides p x → Reaches p G n x [] k y → x ≡ y
stays p G d here = refl
stays p G d (by_call e g t) = absurd (no_call e d.branching)

-- the node of a decision is one
pub reaches_same : (p : Prog) (G : Configuration → Type 0) {n k m : ℕ} {r x y : Node} (bs : List Bool) → Decides p x → Decides p y → Reaches p G n r bs m x → Reaches p G n r bs k y → x ≡ y
reaches_same p G {n = n} {k = k} {r = r} {y = y} bs d e s t = stays p G d (reaches_rest p G e s [] (subst (λ (l : List Bool). Reaches p G n r l k y) (inv (nil bs)) t))
  where
    nil : (l : List Bool) → l ++ [] ≡ l
    nil [] = refl
    nil (b ∷ l) = ap {B = List Bool} (λ (m : List Bool). b ∷ m) (nil l)

-- the first of the choices of a path that begins so
pub record FirstOf (xs : List Choice) (q : Bool) (bs : List Bool) : Type 0 where
  pub rest : List Choice
  pub choice : Choice
  pub is : xs ≡ rest ++ (choice ∷ [])
  pub taken : choice.taken ≡ q
  pub trail : trail_of rest ≡ bs

no_snoc : (t : List Bool) (b : Bool) → t ++ (b ∷ []) ≡ [] → ⊥
no_snoc [] b g = let z : ◌≡◌ {A = ℕ} 0 1 = cc in omega arith
no_snoc (a ∷ t) b g = let z : ◌≡◌ {A = ℕ} 0 1 = cc in omega arith

pub none_left : (ks : List Choice) → trail_of ks ≡ [] → ks ≡ []
none_left [] f = refl
none_left (k ∷ ks) f = absurd (no_snoc (trail_of ks) k.taken f)

pub first_of : (xs : List Choice) (q : Bool) (bs : List Bool) → trail_of xs ≡ q ∷ bs → FirstOf xs q bs
first_of [] q bs e = let z : ◌≡◌ {A = ℕ} 0 1 = cc in absurd (omega arith)
first_of (c ∷ cs) q bs e = go (trail_of cs) refl e (λ b t f. first_of cs b t f)
  where
    go : (t : List Bool) → trail_of cs ≡ t → t ++ (c.taken ∷ []) ≡ q ∷ bs → ((b : Bool) (t : List Bool) → trail_of cs ≡ b ∷ t → FirstOf cs b t) → FirstOf (c ∷ cs) q bs
    go [] f g again =
        let z : cs ≡ [] = none_left cs f in
        let u : c.taken ≡ q = cc in
        let v : [] ≡ bs = cc in
        record { rest = []; choice = c; is = ap {B = List Choice} (λ (l : List Choice). c ∷ l) z; taken = u; trail = v }
    go (b ∷ t) f g again =
        let u : b ≡ q = cc in
        let v : t ++ (c.taken ∷ []) ≡ bs = cc in
        let h = again b t f in
        record { rest = c ∷ h.rest; choice = h.choice; is = ap {B = List Choice} (λ (l : List Choice). c ∷ l) h.is; taken = h.taken ∙ u; trail = ap (λ (l : List Bool). l ++ (c.taken ∷ [])) h.trail ∙ v }

pub trail_joined : (xs es : List Choice) → trail_of (xs ++ es) ≡ trail_of es ++ trail_of xs
trail_joined [] es = inv (nil (trail_of es))
  where
    nil : (l : List Bool) → l ++ [] ≡ l
    nil [] = refl
    nil (b ∷ l) = ap {B = List Bool} (λ (m : List Bool). b ∷ m) (nil l)
trail_joined (x ∷ xs) es = ap (λ (l : List Bool). l ++ (x.taken ∷ [])) (trail_joined xs es) ∙ assoc (trail_of es) (trail_of xs) (x.taken ∷ [])
  where
    assoc : (a b c : List Bool) → (a ++ b) ++ c ≡ a ++ (b ++ c)
    assoc [] b c = refl
    assoc (x ∷ a) b c = ap {B = List Bool} (λ (m : List Bool). x ∷ m) (assoc a b c)
