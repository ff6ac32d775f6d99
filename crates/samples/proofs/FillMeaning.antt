-- What `fill_sample` leaves of the cells of a line's inputs and output: the cells of its sample.
use Prim.Native.Nat.{ℕ, suc, ◌+◌, ◌%◌, ◌≤◌, ◌<◌}
use mathlib.Core.Path.{◌≡◌, refl, ap, ap₂, ◌∙◌, sym as inv}
use mathlib.Core.Bool.{Bool, true, false, cond, ◌||◌, false≢true}
use mathlib.Core.List.{List, [], ◌∷◌, ◌++◌, append_assoc, append-nil, map, map-append}
use native.Mathlib.Omega.{arith}
use lib.Dec.{eqb}
use lib.ListN.{length, length-append, length-map}
use borrow.Author.Tests.{eq-eqb, ne_eqb}
use Rattle.expressions.specs.Expression.{sym, avar, Exp, atm, evar, pair, nodes, nodes_all}
use Rattle.expressions.specs.Substitution.{ground_exp, ground_all}
use Rattle.expressions.specs.Class.{IOPair, nodes_io}
use Rattle.expressions.proofs.Predicates.{All}
use Rattle.expressions.proofs.Numbers.{ExpNumbers}
use Rattle.semantics.specs.Embedding.{embed}
use Rattle.listing.specs.Bindings.{same, has_variable, add_variable, variables_of, variables_of_all, variables}
use Rattle.listing.specs.Sample.{place_of, new_atom, sampling, sample}
use Rattle.sets.specs.Cells.{pair_code, evar_code, avar_code, symbol_code, atomic_code, cells, cells_all}
use Rattle.sets.proofs.CellLaws.{atomic_not_evar, code_test, cells_nodes, cells_all_nodes}
use Rattle.samples.specs.Twins.Filling.{is_variable, new_code, sampled_cells}
use Rattle.samples.proofs.FillTurns.{among, place_among, filled, seen, Found, seen_found, seen_few, sampled_cells_lem}

-- the code of a node
abbrev code : Exp → ℕ
code (atm x) = atomic_code x
code (evar n) = evar_code n
code (pair c d) = pair_code

-- which codes are those of variables
symbol_leaf_lem : (z : ℕ) → is_variable (symbol_code z) ≡ false
symbol_leaf_lem z =
    ap (λ (b : Bool). cond b true (eqb (symbol_code z % 4) 3)) (ne_eqb (symbol_code z % 4) 2 (λ e. omega arith))
    ∙ ne_eqb (symbol_code z % 4) 3 (λ e. omega arith)

evar_leaf : (n : ℕ) → is_variable (evar_code n) ≡ true
evar_leaf n = ap (λ (b : Bool). cond b true (eqb (evar_code n % 4) 3)) (eq-eqb (evar_code n % 4) 2 (omega arith))

avar_leaf : (n : ℕ) → is_variable (avar_code n) ≡ true
avar_leaf n =
    ap (λ (b : Bool). cond b true (eqb (avar_code n % 4) 3)) (ne_eqb (avar_code n % 4) 2 (λ e. omega arith))
    ∙ eq-eqb (avar_code n % 4) 3 (omega arith)

-- a variable is told from every node by its code
abbrev Told : Exp → Type 0
Told v = (w : Exp) → same w v ≡ eqb (code w) (code v)

evar_told : (n : ℕ) → Told (evar n)
evar_told n (atm x) = inv (ne_eqb (atomic_code x) (evar_code n) (atomic_not_evar x n))
evar_told n (evar m) = inv (code_test 2 m n)
evar_told n (pair c d) = inv (ne_eqb pair_code (evar_code n) (λ e. omega arith))

avar_told : (n : ℕ) → Told (atm (avar n))
avar_told n (atm (sym z)) = inv (ne_eqb (symbol_code z) (avar_code n) (λ e. omega arith))
avar_told n (atm (avar m)) = inv (code_test 3 m n)
avar_told n (evar m) = inv (ne_eqb (evar_code m) (avar_code n) (λ e. omega arith))
avar_told n (pair c d) = inv (ne_eqb pair_code (avar_code n) (λ e. omega arith))

module _ (v : Exp) (told : Told v) where
  has_code : (ws : List Exp) → has_variable v ws ≡ among (code v) (map code ws)
  has_code [] = refl
  has_code (w ∷ ws) = ap₂ (λ (s t : Bool). s || t) (told w) (has_code ws)

  place_code : (ws : List Exp) → among (code v) (map code ws) ≡ true → place_of v ws ≡ place_among (code v) (map code ws)
  place_code [] e = absurd (false≢true e)
  place_code (w ∷ ws) e = ap (λ (b : Bool). cond b 0 (suc (place_of v ws))) (told w) ∙ pick (eqb (code w) (code v)) e (place_code ws)
    where
      pick : (b : Bool) → (b || among (code v) (map code ws)) ≡ true → (among (code v) (map code ws) ≡ true → place_of v ws ≡ place_among (code v) (map code ws)) →
          cond b 0 (suc (place_of v ws)) ≡ cond b 0 (suc (place_among (code v) (map code ws)))
      pick true e again = refl
      pick false e again = ap suc (again e)

  place_few : (ws : List Exp) → among (code v) (map code ws) ≡ true → place_of v ws < length ws
  place_few [] e = absurd (false≢true e)
  place_few (w ∷ ws) e = rw (told w) (pick (eqb (code w) (code v)) e (place_few ws))
    where
      pick : (b : Bool) → (b || among (code v) (map code ws)) ≡ true → (among (code v) (map code ws) ≡ true → place_of v ws < length ws) → cond b 0 (suc (place_of v ws)) < suc (length ws)
      pick true e again = omega arith
      pick false e again = let h = again e in omega arith

  -- one cell of a variable
  seen_variable : is_variable (code v) ≡ true → (ws : List Exp) (q : List ℕ) → seen (map code ws) (code v ∷ q) ≡ seen (map code (add_variable v ws)) q
  seen_variable leaf ws q =
      ap (λ (b : Bool). seen (cond b (cond (among (code v) (map code ws)) (map code ws) (map code ws ++ (code v ∷ []))) (map code ws)) q) leaf
      ∙ ap (λ (l : List ℕ). seen l q) (pick (among (code v) (map code ws)) ∙ ap (λ (b : Bool). map code (cond b ws (ws ++ (v ∷ [])))) (inv (has_code ws)))
    where
      pick : (b : Bool) → cond b (map code ws) (map code ws ++ (code v ∷ [])) ≡ map code (cond b ws (ws ++ (v ∷ [])))
      pick true = refl
      pick false = inv (map-append code ws (v ∷ []))

-- the variables of a tree's cells are the variables of the tree
seen_exp : (c : Exp) (ws : List Exp) (q : List ℕ) → seen (map code ws) (cells c ++ q) ≡ seen (map code (variables_of c ws)) q
seen_exp (atm (sym z)) ws q =
    ap (λ (b : Bool). seen (cond b (cond (among (symbol_code z) (map code ws)) (map code ws) (map code ws ++ (symbol_code z ∷ []))) (map code ws)) q) (symbol_leaf_lem z)
seen_exp (atm (avar n)) ws q = seen_variable (atm (avar n)) (avar_told n) (avar_leaf n) ws q
seen_exp (evar n) ws q = seen_variable (evar n) (evar_told n) (evar_leaf n) ws q
seen_exp (pair c d) ws q =
    ap (seen (map code ws)) (append_assoc (cells c) (cells d) q) ∙ seen_exp c ws (cells d ++ q) ∙ seen_exp d (variables_of c ws) q

seen_all : (cs : List Exp) (ws : List Exp) (q : List ℕ) → seen (map code ws) (cells_all cs ++ q) ≡ seen (map code (variables_of_all cs ws)) q
seen_all [] ws q = refl
seen_all (c ∷ cs) ws q =
    ap (seen (map code ws)) (append_assoc (cells c) (cells_all cs) q) ∙ seen_exp c ws (cells_all cs ++ q) ∙ seen_all cs (variables_of c ws) q

-- what is found of two runs is found of each
found_split : (vs s t : List ℕ) → All (Found vs) (s ++ t) → All (Found vs) s × All (Found vs) t
found_split vs [] t h = (tt, h)
found_split vs (c ∷ s) t h = let k = found_split vs s t h.1 in ((h.0, k.0), k.1)

-- The variables filled are the tree under the sample's filling.
module _ (vs : List Exp) where
  filled_variable : (v : Exp) → Told v → is_variable (code v) ≡ true → Found (map code vs) (code v) → filled (map code vs) (code v) ≡ new_code (place_of v vs)
  filled_variable v told leaf found =
      ap₂ (λ (s t : Bool). cond s (cond t (new_code (place_among (code v) (map code vs))) (code v)) (code v)) leaf (found leaf)
      ∙ ap new_code (inv (place_code v told vs (found leaf)))

  filled_exp : (c : Exp) → All (Found (map code vs)) (cells c) → map (filled (map code vs)) (cells c) ≡ cells (embed (ground_exp (sampling vs) c))
  filled_exp (atm (sym z)) h =
      ap (λ (b : Bool). cond b (cond (among (symbol_code z) (map code vs)) (new_code (place_among (symbol_code z) (map code vs))) (symbol_code z)) (symbol_code z) ∷ []) (symbol_leaf_lem z)
  filled_exp (atm (avar n)) h = ap (λ (k : ℕ). k ∷ []) (filled_variable (atm (avar n)) (avar_told n) (avar_leaf n) h.0)
  filled_exp (evar n) h = ap (λ (k : ℕ). k ∷ []) (filled_variable (evar n) (evar_told n) (evar_leaf n) h.0)
  filled_exp (pair c d) h =
      let k = found_split (map code vs) (cells c) (cells d) h.1 in
      ap (λ (l : List ℕ). pair_code ∷ l) (map-append (filled (map code vs)) (cells c) (cells d) ∙ ap₂ ◌++◌ (filled_exp c k.0) (filled_exp d k.1))

  filled_all : (cs : List Exp) → All (Found (map code vs)) (cells_all cs) → map (filled (map code vs)) (cells_all cs) ≡ cells_all (map embed (ground_all (sampling vs) cs))
  filled_all [] h = refl
  filled_all (c ∷ cs) h =
      let k = found_split (map code vs) (cells c) (cells_all cs) h in
      map-append (filled (map code vs)) (cells c) (cells_all cs) ∙ ap₂ ◌++◌ (filled_exp c k.0) (filled_all cs k.1)

-- a cell for each of its nodes
sampled_nodes : (vs : List Exp) (c : Exp) → nodes (embed (ground_exp (sampling vs) c)) ≡ nodes c
sampled_nodes vs (atm x) = refl
sampled_nodes vs (evar n) = refl
sampled_nodes vs (pair c d) = ap₂ (λ (m n : ℕ). suc (m + n)) (sampled_nodes vs c) (sampled_nodes vs d)

sampled_nodes_all : (vs cs : List Exp) → nodes_all (map embed (ground_all (sampling vs) cs)) ≡ nodes_all cs
sampled_nodes_all vs [] = refl
sampled_nodes_all vs (c ∷ cs) = ap₂ ◌+◌ (sampled_nodes vs c) (sampled_nodes_all vs cs)

-- Its atoms are symbols of the line, and the new ones: one for each variable.
module _ (S N M : ℕ → Type 0) (vs : List Exp) (new : (k : ℕ) → k < length vs → S (new_atom k)) where
  atoms_exp : (c : Exp) → ExpNumbers S N c → All (Found (map code vs)) (cells c) → ExpNumbers S M (embed (ground_exp (sampling vs) c))
  atoms_exp (atm (sym z)) h f = h
  atoms_exp (atm (avar n)) h f = new (place_of (atm (avar n)) vs) (place_few (atm (avar n)) (avar_told n) vs (f.0 (avar_leaf n)))
  atoms_exp (evar n) h f = new (place_of (evar n) vs) (place_few (evar n) (evar_told n) vs (f.0 (evar_leaf n)))
  atoms_exp (pair c d) h f = let k = found_split (map code vs) (cells c) (cells d) f.1 in (atoms_exp c h.0 k.0, atoms_exp d h.1 k.1)

  atoms_all : (cs : List Exp) → All (ExpNumbers S N) cs → All (Found (map code vs)) (cells_all cs) → All (ExpNumbers S M) (map embed (ground_all (sampling vs) cs))
  atoms_all [] h f = tt
  atoms_all (c ∷ cs) h f = let k = found_split (map code vs) (cells c) (cells_all cs) f in (atoms_exp c h.0 k.0, atoms_all cs h.1 k.1)

-- what is left in the cells of inputs and output, one tree behind the other
module _ (c : IOPair) where
  abbrev line : List ℕ
  line = cells_all c.ins ++ cells c.out

  line_nodes_lem : length line ≡ nodes_io c
  line_nodes_lem = omega (arith, length-append (cells_all c.ins) (cells c.out), cells_all_nodes c.ins, cells_nodes c.out)

  line_variables : seen [] line ≡ map code (variables c)
  line_variables =
      seen_all c.ins [] (cells c.out) ∙ ap (seen (map code (variables_of_all c.ins []))) (inv (append-nil (cells c.out)))
      ∙ seen_exp c.out (variables_of_all c.ins []) []

  line_found : All (Found (map code (variables c))) (cells_all c.ins) × All (Found (map code (variables c))) (cells c.out)
  line_found = found_split (map code (variables c)) (cells_all c.ins) (cells c.out) (rw (← line_variables) (seen_found line []))

  line_filled : map (filled (map code (variables c))) line ≡ cells_all (map embed (sample c).ins) ++ cells (embed (sample c).out)
  line_filled =
      map-append (filled (map code (variables c))) (cells_all c.ins) (cells c.out)
      ∙ ap₂ ◌++◌ (filled_all (variables c) c.ins line_found.0) (filled_exp (variables c) c.out line_found.1)

  pub fill_means : (r : List ℕ) → nodes_io c ≤ 4096 →
      sampled_cells (nodes_io c) (cells_all c.ins ++ (cells c.out ++ r)) ≡ cells_all (map embed (sample c).ins) ++ (cells (embed (sample c).out) ++ r)
  fill_means r few =
      ap₂ sampled_cells (inv line_nodes_lem) (inv (append_assoc (cells_all c.ins) (cells c.out) r))
      ∙ sampled_cells_lem r line (omega (arith, line_nodes_lem))
      ∙ ap (λ (vs : List ℕ). map (filled vs) line ++ r) line_variables
      ∙ ap (λ (l : List ℕ). l ++ r) line_filled
      ∙ append_assoc (cells_all (map embed (sample c).ins)) (cells (embed (sample c).out)) r

  -- how many cells the sample's inputs take, and its output
  pub sample_ins_nodes : length (cells_all (map embed (sample c).ins)) ≡ nodes_all c.ins
  sample_ins_nodes = cells_all_nodes (map embed (sample c).ins) ∙ sampled_nodes_all (variables c) c.ins

  pub sample_out_nodes : length (cells (embed (sample c).out)) ≡ nodes c.out
  sample_out_nodes = cells_nodes (embed (sample c).out) ∙ sampled_nodes (variables c) c.out

  -- no more variables than nodes
  pub variables_few : length (variables c) ≤ nodes_io c
  variables_few = omega (arith, length-map (variables c) code, ap length line_variables, seen_few line [], line_nodes_lem)

  -- what holds of the symbols of the line and of the new atoms holds of all atoms of the sample
  pub sample_atoms : (S N M : ℕ → Type 0) → ((k : ℕ) → k < length (variables c) → S (new_atom k)) → All (ExpNumbers S N) c.ins → ExpNumbers S N c.out →
      All (ExpNumbers S M) (map embed (sample c).ins) × ExpNumbers S M (embed (sample c).out)
  sample_atoms S N M new h k = (atoms_all S N M (variables c) new c.ins h line_found.0, atoms_exp S N M (variables c) new c.out k line_found.1)
