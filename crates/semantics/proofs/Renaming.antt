-- Evaluation does not depend on the numbers of atoms: a renaming that keeps atoms apart and the program's symbols as they are takes a run
-- to a run of the same steps (02, request 2: a sample read again has its symbols in another order).
use Prim.Native.Nat.{ℕ}
use mathlib.Core.Path.{◌≡◌, ap, subst, ◌∙◌, sym as inv}
use mathlib.Core.List.{List, [], ◌∷◌, map}
use Rattle.expressions.specs.Expression.{Value, atom, cons, sym, Exp, atm}
use Rattle.expressions.proofs.Predicates.{All}
use Rattle.expressions.proofs.Numbers.{ExpNumbers}
use Rattle.language.specs.Program.{consp, Term, conditional, Param, pe, pa, Def, Prog}
use Rattle.language.proofs.Numbers.{TermNumbers, ParamNumbers, DefNumbers, ProgNumbers}
use Rattle.semantics.specs.Environment.{Binds, here, there, map_values, update_e, update_a, names}
use Rattle.semantics.specs.Figure4.{ValueEnv, AtomOf, ValueOf, atomic, pairs, ArgumentsOf, Defines, first, later, Step, equal, unequal, is_pair, is_atom, calls, Evaluates, terminal, transition, InitialEnv, Outputs}
use Rattle.semantics.proofs.Grounding.{update_map}

-- N holds of the numbers of names
module _ (ρ : ℕ → ℕ) (apart : (a b : ℕ) → ρ a ≡ ρ b → a ≡ b) (N : ℕ → Type 0) where
  abbrev pub rename : Value → Value
  rename (atom z) = atom (ρ z)
  rename (cons u v) = cons (rename u) (rename v)

  abbrev pub rename_env : ValueEnv → ValueEnv
  rename_env σ = record { evars = map_values rename σ.evars; avars = map_values ρ σ.avars }

  -- a symbol that keeps its number
  abbrev pub Kept : ℕ → Type 0
  Kept z = ρ z ≡ z

  binds_renamed : {A : Type 0} {x : ℕ} {v : A} {bs : List (ℕ × A)} (f : A → A) → Binds x v bs → Binds x (f v) (map_values f bs)
  binds_renamed f (here bs) = here (map_values f bs)
  binds_renamed f (there y w bs n b) = there y (f w) (map_values f bs) n (binds_renamed f b)

  atom_renamed : {σ : ValueEnv} {c : Exp} {z : ℕ} → ExpNumbers Kept N c → AtomOf σ c z → AtomOf (rename_env σ) c (ρ z)
  atom_renamed {σ} h (AtomOf.symbol z) = subst (AtomOf (rename_env σ) (atm (sym z))) (inv h) (AtomOf.symbol z)
  atom_renamed h (AtomOf.variable x z b) = AtomOf.variable x (ρ z) (binds_renamed ρ b)

  value_renamed : {σ : ValueEnv} {c : Exp} {v : Value} → ExpNumbers Kept N c → ValueOf σ c v → ValueOf (rename_env σ) c (rename v)
  value_renamed h (atomic c z a) = atomic c (ρ z) (atom_renamed h a)
  value_renamed h (ValueOf.variable x v b) = ValueOf.variable x (rename v) (binds_renamed rename b)
  value_renamed h (pairs c d u v a b) = pairs c d (rename u) (rename v) (value_renamed h.0 a) (value_renamed h.1 b)

  args_renamed : {σ τ : ValueEnv} {ps : List Param} {ds : List Exp} → All (ExpNumbers Kept N) ds → ArgumentsOf σ ps ds τ → ArgumentsOf (rename_env σ) ps ds (rename_env τ)
  args_renamed h ArgumentsOf.done = ArgumentsOf.done
  args_renamed h (ArgumentsOf.any x ps d ds v τ a b) = ArgumentsOf.any x ps d ds (rename v) (rename_env τ) (value_renamed h.0 a) (args_renamed h.1 b)
  args_renamed h (ArgumentsOf.one x ps d ds z τ a b) = ArgumentsOf.one x ps d ds (ρ z) (rename_env τ) (atom_renamed h.0 a) (args_renamed h.1 b)

  defined_kept : {d : Def} {p : Prog} {f : ℕ} → ProgNumbers Kept N p → Defines d p f → DefNumbers Kept N d
  defined_kept h (first p) = h.0
  defined_kept h (later q p f b) = defined_kept h.1 b

  update_e_renamed : (x : ℕ) (v : Value) (σ : ValueEnv) → rename_env (update_e x v σ) ≡ update_e x (rename v) (rename_env σ)
  update_e_renamed x v σ = λ i. record { evars = update_map rename x v σ.evars i; avars = map_values ρ σ.avars }

  update_a_renamed : (x z : ℕ) (σ : ValueEnv) → rename_env (update_a x z σ) ≡ update_a x (ρ z) (rename_env σ)
  update_a_renamed x z σ = λ i. record { evars = map_values rename σ.evars; avars = update_map ρ x z σ.avars i }

  module _ (p : Prog) (kept : ProgNumbers Kept N p) where
    step_kept : {σ σ' : ValueEnv} {t t' : Term} → TermNumbers Kept N t → Step p σ t t' σ' → TermNumbers Kept N t'
    step_kept h (equal x y s t z a b) = h.1
    step_kept h (unequal x y s t z w a b n) = h.2
    step_kept h (is_pair c hd tl x s r u v a) = h.1
    step_kept h (is_atom c hd tl x s r z a) = h.2
    step_kept h (calls f ds d τ b a) = (defined_kept kept b).1

    step_renamed : {σ σ' : ValueEnv} {t t' : Term} → TermNumbers Kept N t → Step p σ t t' σ' → Step p (rename_env σ) t t' (rename_env σ')
    step_renamed h (equal x y s t z a b) = equal x y s t (ρ z) (atom_renamed h.0.0 a) (atom_renamed h.0.1 b)
    step_renamed h (unequal x y s t z w a b n) = unequal x y s t (ρ z) (ρ w) (atom_renamed h.0.0 a) (atom_renamed h.0.1 b) (λ e. n (apart z w e))
    step_renamed {σ} h (is_pair c hd tl x s r u v a) =
        subst (Step p (rename_env σ) (conditional (consp c hd tl x) s r) s) (inv (update_e_renamed tl v (update_e hd u σ) ∙ ap (update_e tl (rename v)) (update_e_renamed hd u σ)))
        (is_pair c hd tl x s r (rename u) (rename v) (value_renamed h.0.0 a))
    step_renamed {σ} h (is_atom c hd tl x s r z a) =
        subst (Step p (rename_env σ) (conditional (consp c hd tl x) s r) r) (inv (update_a_renamed x z σ)) (is_atom c hd tl x s r (ρ z) (value_renamed h.0.0 a))
    step_renamed h (calls f ds d τ b a) = calls f ds d (rename_env τ) b (args_renamed h a)

    pub evaluates_renamed : {v : Value} {m : ℕ} {t : Term} {σ : ValueEnv} → TermNumbers Kept N t → Evaluates p v m t σ → Evaluates p (rename v) m t (rename_env σ)
    evaluates_renamed h (terminal c σ a) = terminal c (rename_env σ) (value_renamed h a)
    evaluates_renamed h (transition m t t' σ σ' s e) = transition m t t' (rename_env σ) (rename_env σ') (step_renamed h s) (evaluates_renamed (step_kept h s) e)

    initial_renamed : {ps : List Param} {vs : List Value} {τ : ValueEnv} → InitialEnv ps vs τ → InitialEnv ps (map rename vs) (rename_env τ)
    initial_renamed InitialEnv.done = InitialEnv.done
    initial_renamed (InitialEnv.any x ps v vs τ b) = InitialEnv.any x ps (rename v) (map rename vs) (rename_env τ) (initial_renamed b)
    initial_renamed (InitialEnv.one x ps z vs τ b) = InitialEnv.one x ps (ρ z) (map rename vs) (rename_env τ) (initial_renamed b)

    names_kept : (ps : List Param) → All (ParamNumbers Kept N) ps → All (ExpNumbers Kept N) (names ps)
    names_kept [] h = tt
    names_kept (pe x ∷ ps) h = (h.0, names_kept ps h.1)
    names_kept (pa x ∷ ps) h = (h.0, names_kept ps h.1)

    -- the same run with other atoms
    pub outputs_renamed : (is : List Value) (m : ℕ) (o : Value) → Outputs p is m o → Outputs p (map rename is) m (rename o)
    outputs_renamed is m o r = record {
      t = r.t;
      σ = rename_env r.σ;
      initial = record { main = r.initial.main; defines = r.initial.defines; term = r.initial.term; env = initial_renamed r.initial.env };
      evaluates = evaluates_renamed (subst (TermNumbers Kept N) (inv r.initial.term) (names_kept r.initial.main.params (defined_kept kept r.initial.defines).0)) r.evaluates;
    }
