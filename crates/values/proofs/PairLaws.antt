-- The entries of a cr-pair: those of inputs and wanted output, then those of the names.
use Prim.Native.Nat.{ℕ, suc, ◌+◌, ◌≤◌}
use mathlib.Core.Path.{◌≡◌, refl, ap, subst, ◌∙◌, sym as inv}
use mathlib.Core.Bool.{true, false}
use mathlib.Core.List.{List, [], ◌∷◌, ◌++◌, append_assoc}
use native.Mathlib.Omega.{arith}
use lib.ListN.{length, length-append}
use Rattle.expressions.specs.Expression.{Exp, atm, evar, pair, nodes_all}
use Rattle.expressions.specs.Substitution.{Substitution, apply_all}
use Rattle.expressions.specs.Contraction.{CRPair}
use Rattle.expressions.specs.Restriction.{nodes_restriction}
use Rattle.expressions.proofs.Tests.{and_both}
use Rattle.language.specs.Program.{Param, pe, pa}
use Rattle.language.specs.WellFormed.{fits}
use Rattle.language.specs.Scope.{is_atomic}
use Rattle.semantics.specs.Configuration.{state, nodes_state}
use Rattle.heap.specs.declared.configuration.Configuration.{Configuration as InCells}
use Rattle.heap.proofs.FrameLaws.{Held}
use Rattle.heap.proofs.PartLaws.{held_first, held_second, held_joined, nodes_joined}
use Rattle.values.proofs.ValueLaws.{Typed, none_typed, e_typed, a_typed}
use Rattle.values.proofs.StateLaws.{trees, HoldsPair, pair_nodes, nodes_length}

-- inputs and wanted output
abbrev pub ends : CRPair state → List Exp
ends P = P.con.io.ins ++ (P.con.io.out ∷ [])

pub ends_length : (P : CRPair state) → length (ends P) ≡ length P.con.io.ins + 1
ends_length P = length-append P.con.io.ins (P.con.io.out ∷ [])

pub trees_are : (P : CRPair state) (vs : List Exp) → ends P ++ vs ≡ trees P vs
trees_are P vs = append_assoc P.con.io.ins (P.con.io.out ∷ []) vs

pub held_trees : {h f : List ℕ} {used : ℕ} (P : CRPair state) {vs : List Exp} → Held h used f 0 (ends P) → Held h used f (length (ends P)) vs → Held h used f 0 (trees P vs)
held_trees {h} {f} {used} P {vs} a b =
    let z : 0 + length (ends P) ≡ length (ends P) = omega arith in
    subst (λ (ts : List Exp). Held h used f 0 ts) (trees_are P vs) (held_joined a (rw z b))

module _ {h f q : List ℕ} {c : InCells} {names : List Param} {P : CRPair state} (x : HoldsPair h f q c names P) where
  joined : Held h c.used f 0 (ends P ++ x.values)
  joined = subst (λ (ts : List Exp). Held h c.used f 0 ts) (inv (trees_are P x.values)) x.held

  pub ends_held : Held h c.used f 0 (ends P)
  ends_held = held_first (ends P) x.values joined

  pub values_held : Held h c.used f (length (ends P)) x.values
  values_held = let z : 0 + length (ends P) ≡ length (ends P) = omega arith in rw z at (held_second (ends P) x.values joined)

  -- where the names begin
  pub base_is : c.inputs + c.outputs ≡ length (ends P)
  base_is = omega (arith, x.inputs, x.outputs, ends_length P)

  pub entries_are : c.entries ≡ length (ends P) + length x.values
  entries_are = x.entries ∙ ap length (inv (trees_are P x.values)) ∙ length-append (ends P) x.values

  pub state_nodes : nodes_state P ≡ nodes_all (trees P x.values) + nodes_restriction P.neqs
  state_nodes = pair_nodes P x.typed x.env

  pub ends_nodes : nodes_all (trees P x.values) ≡ nodes_all (ends P) + nodes_all x.values
  ends_nodes = ap nodes_all (inv (trees_are P x.values)) ∙ nodes_joined (ends P) x.values

  -- each entry has a node
  pub entries_few : nodes_state P ≤ 4097 → c.entries ≤ 4097
  entries_few l = omega (arith, x.entries, state_nodes, nodes_length (trees P x.values))

-- arguments that fit have the types of the parameters
pub fits_typed : (s : Substitution) (ps : List Param) (ds : List Exp) → fits ps ds ≡ true → Typed ps (apply_all s ds)
fits_typed s [] [] e = none_typed
fits_typed s [] (d ∷ ds) e = let z : ◌≡◌ {A = ℕ} 0 1 = cc in absurd (omega arith)
fits_typed s (p ∷ ps) [] e = let z : ◌≡◌ {A = ℕ} 0 1 = cc in absurd (omega arith)
fits_typed s (pe x ∷ ps) (d ∷ ds) e = e_typed (fits_typed s ps ds e)
fits_typed s (pa x ∷ ps) (atm y ∷ ds) e = a_typed (fits_typed s ps ds (and_both true (fits ps ds) e).1)
fits_typed s (pa x ∷ ps) (evar n ∷ ds) e = let a = and_both false (fits ps ds) e in let z : ◌≡◌ {A = ℕ} 0 1 = cc in absurd (omega arith)
fits_typed s (pa x ∷ ps) (pair c d ∷ ds) e = let a = and_both false (fits ps ds) e in let z : ◌≡◌ {A = ℕ} 0 1 = cc in absurd (omega arith)

pub fits_length : (ps : List Param) (ds : List Exp) → fits ps ds ≡ true → length ds ≡ length ps
fits_length [] [] e = refl
fits_length [] (d ∷ ds) e = let z : ◌≡◌ {A = ℕ} 0 1 = cc in absurd (omega arith)
fits_length (p ∷ ps) [] e = let z : ◌≡◌ {A = ℕ} 0 1 = cc in absurd (omega arith)
fits_length (pe x ∷ ps) (d ∷ ds) e = ap suc (fits_length ps ds e)
fits_length (pa x ∷ ps) (d ∷ ds) e = ap suc (fits_length ps ds (and_both (is_atomic d) (fits ps ds) e).1)
