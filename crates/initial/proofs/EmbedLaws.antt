-- A run has values only, and a value is an expression without variables: what the inputs, the environment and the nodes of a run are as those of a
-- configuration.
use Prim.Native.Nat.{ℕ, suc}
use mathlib.Core.Path.{◌≡◌, refl, ap, ap₂, ◌∙◌, sym as inv}
use mathlib.Core.Bool.{true}
use mathlib.Core.List.{List, [], ◌∷◌, map}
use native.Mathlib.Omega.{arith}
use lib.ListN.{length}
use Rattle.expressions.specs.Expression.{Value, atom, cons, sym, avar, Exp, atm, evar, pair, nodes, nodes_all}
use Rattle.expressions.specs.Substitution.{GroundSubst, ground_exp, ground_atomic, ground_all}
use Rattle.expressions.specs.Class.{IOPair}
use Rattle.expressions.specs.Split.{largest, largest_all}
use Rattle.language.specs.Program.{Param, pe, pa, Prog, find, atom_of, Term}
use Rattle.language.specs.WellFormed.{fits, admitted}
use Rattle.semantics.specs.Embedding.{embed}
use Rattle.semantics.proofs.EmbeddedStates.{embed_env, at_state, OneSuccessor}
use Rattle.semantics.proofs.EmbeddedStates as embedding
use Rattle.semantics.specs.Environment.{map_values, add_e, add_a}
use Rattle.semantics.specs.Figure4.{ValueEnv}
use Rattle.semantics.specs.Evaluate.{Next, go, atom_in, bind_inputs, step, start_term, start_env}
use Rattle.semantics.specs.Runner.{nodes_value, nodes_inputs, nodes_bound, nodes_next}
use Rattle.semantics.specs.Configuration.{ground_env, nodes_values, nodes_state, Configuration}
use Rattle.semantics.specs.Trace.{Successors, called}
use Rattle.semantics.proofs.Forward.{forward}
use Rattle.semantics.proofs.MainCall.{start_successor, main_distinct}
use Rattle.linking.specs.Twins.Places.{env_of}

-- inputs that no substitution changes are values
abbrev pub noughts : GroundSubst
noughts = record { e = λ n. atom 0; a = λ n. 0 }

abbrev pub ones : GroundSubst
ones = record { e = λ n. atom 1; a = λ n. 1 }

ground_embed : (d : Exp) → ground_exp noughts d ≡ ground_exp ones d → embed (ground_exp noughts d) ≡ d
ground_embed (atm (sym z)) e = refl
ground_embed (atm (avar n)) e = let z : ◌≡◌ {A = ℕ} 0 1 = cc in absurd (omega arith)
ground_embed (evar n) e = let z : ◌≡◌ {A = ℕ} 0 1 = cc in absurd (omega arith)
ground_embed (pair c d) e =
    let x : ground_exp noughts c ≡ ground_exp ones c = cc in
    let y : ground_exp noughts d ≡ ground_exp ones d = cc in
    let u = ground_embed c x in
    let v = ground_embed d y in
    cc

pub all_embed : (ds : List Exp) → ground_all noughts ds ≡ ground_all ones ds → map embed (ground_all noughts ds) ≡ ds
all_embed [] e = refl
all_embed (d ∷ ds) e =
    let x : ground_exp noughts d ≡ ground_exp ones d = cc in
    let y : ground_all noughts ds ≡ ground_all ones ds = cc in
    let u = ground_embed d x in
    let v = all_embed ds y in
    cc

atom_embed : (v : Value) → atom_of (embed v) ≡ sym (atom_in v)
atom_embed (atom z) = refl
atom_embed (cons u v) = refl

pub bound_embed : (xs : List Param) (vs : List Value) → env_of xs (map embed vs) ≡ embed_env (bind_inputs xs vs)
bound_embed [] vs = refl
bound_embed (x ∷ xs) [] = refl
bound_embed (pe x ∷ xs) (v ∷ vs) = ap (add_e x (embed v)) (bound_embed xs vs)
bound_embed (pa x ∷ xs) (v ∷ vs) = rw (atom_embed v) (ap (add_a x (sym (atom_in v))) (bound_embed xs vs))

-- and their variables are none
embed_largest : (v : Value) → largest (embed v) ≡ 0
embed_largest (atom z) = refl
embed_largest (cons u v) = omega (arith, embed_largest u, embed_largest v)

pub all_largest : (vs : List Value) → largest_all (map embed vs) ≡ 0
all_largest [] = refl
all_largest (v ∷ vs) = omega (arith, embed_largest v, all_largest vs)

-- "Its nodes are those of the inputs and the environment values": the symbol 0 in the place of the wanted output is one more
pub embed_nodes : (v : Value) → nodes (embed v) ≡ nodes_value v
embed_nodes (atom z) = refl
embed_nodes (cons u v) = omega (arith, embed_nodes u, embed_nodes v)

pub inputs_nodes : (vs : List Value) → nodes_all (map embed vs) ≡ nodes_inputs vs
inputs_nodes [] = refl
inputs_nodes (v ∷ vs) = omega (arith, embed_nodes v, inputs_nodes vs)

values_nodes : (bs : List (ℕ × Value)) → nodes_values (map_values embed bs) ≡ nodes_bound bs
values_nodes [] = refl
values_nodes (b ∷ bs) = omega (arith, embed_nodes b.1, values_nodes bs)

atoms_nodes : (bs : List (ℕ × ℕ)) → length (map_values sym bs) ≡ length bs
atoms_nodes [] = refl
atoms_nodes (b ∷ bs) = ap suc (atoms_nodes bs)

-- the inputs of a run, and the symbol 0
abbrev pub run_pair : List Value → IOPair
run_pair vs = record { ins = map embed vs; out = atm (sym 0) }

pub run_nodes : (vs : List Value) (k : ℕ) (t : Term) (σ : ValueEnv) → nodes_state (at_state (run_pair vs) k t σ).cr ≡ suc (nodes_next vs (go t σ))
run_nodes vs k t σ = omega (arith, inputs_nodes vs, values_nodes σ.evars, atoms_nodes σ.avars)

-- an environment of values, and back: there is nothing to fill
module _ (θ : GroundSubst) where
  back : (v : Value) → ground_exp θ (embed v) ≡ v
  back (atom z) = refl
  back (cons u v) = ap₂ cons (back u) (back v)

  values_back : (bs : List (ℕ × Value)) → map_values (ground_exp θ) (map_values embed bs) ≡ bs
  values_back [] = refl
  values_back (b ∷ bs) = ap₂ {C = List (ℕ × Value)} (λ (v : Value) (l : List (ℕ × Value)). (b.0, v) ∷ l) (back b.1) (values_back bs)

  atoms_back : (bs : List (ℕ × ℕ)) → map_values (ground_atomic θ) (map_values sym bs) ≡ bs
  atoms_back [] = refl
  atoms_back (b ∷ bs) = ap {B = List (ℕ × ℕ)} (λ (l : List (ℕ × ℕ)). b ∷ l) (atoms_back bs)

  env_back : (σ : ValueEnv) → ground_env θ (embed_env σ) ≡ σ
  env_back σ = λ i. record { evars = values_back σ.evars i; avars = atoms_back σ.avars i }

-- "The start state is the call of main on the inputs": its successor is main's body with the environment that it has
module _ (io : IOPair) (k : ℕ) where
  one_called : {s : Successors} {x : Next} (K : Configuration) → OneSuccessor io k s x → s ≡ called K → (t : Term) × (σ : ValueEnv) × (x ≡ go t σ) × (at_state io k t σ ≡ K)
  one_called K (embedding.OneSuccessor.ends v) e = let z : ◌≡◌ {A = ℕ} 0 1 = cc in absurd (omega arith)
  one_called K (embedding.OneSuccessor.calls t σ) e = (t, σ, refl, cc)
  one_called K (embedding.OneSuccessor.holds t σ) e = let z : ◌≡◌ {A = ℕ} 0 1 = cc in absurd (omega arith)
  one_called K (embedding.OneSuccessor.fails t σ) e = let z : ◌≡◌ {A = ℕ} 0 1 = cc in absurd (omega arith)

pub start_step : (p : Prog) (vs : List Value) → admitted p ≡ true → fits (find p 0).params (map embed vs) ≡ true → step p (start_term p) (start_env p vs) ≡ go (find p 0).body (start_env p vs)
start_step p vs formed fit =
    let σ = start_env p vs in
    let K = at_state (run_pair vs) 1 (find p 0).body σ in
    let s = start_successor p K.cr (map embed vs) 1 (main_distinct p formed) fit (inv (bound_embed (find p 0).params vs)) in
    let o = one_called (run_pair vs) 1 K (forward (run_pair vs) 1 p (start_term p) σ) s in
    let t : o.0 ≡ (find p 0).body = ap (λ (L : Configuration). L.term) o.3 in
    let e : embed_env o.1 ≡ embed_env σ = ap (λ (L : Configuration). L.cr.con.env) o.3 in
    let u : o.1 ≡ σ = inv (env_back noughts o.1) ∙ ap (ground_env noughts) e ∙ env_back noughts σ in
    o.2 ∙ ap₂ go t u
