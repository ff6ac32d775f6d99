-- Where the cells hold the job's inputs and output and an instance of them, the text of the bindings is what `print_bindings` prints.
use Prim.Native.Nat.{ℕ, suc, ◌+◌, ◌-◌, ◌*◌, ◌%◌, ◌≤◌, ◌<◌, min}
use mathlib.Core.Path.{◌≡◌, refl, ap, ap₂, subst, ◌∙◌, sym as inv}
use mathlib.Core.Bool.{Bool, true, false, cond}
use mathlib.Core.List.{List, [], ◌∷◌, ◌++◌, append_assoc, append-nil}
use native.Mathlib.Omega.{arith}
use native.Mathlib.Numerals.{add-one}
use lib.Dec.{eqb, ltb}
use borrow.Author.Tests.{lt-ltb, le-ltb, eq-eqb, ne_eqb}
use lib.ListN.{length, get_or, take, drop, length-append}
use lib.Seq.{take-suc, drop_at}
use Rattle.expressions.specs.Expression.{sym, avar, Exp, atm, evar, pair, nodes, nodes_all}
use Rattle.expressions.specs.Substitution.{Substitution, apply, apply_all}
use Rattle.expressions.specs.Class.{IOPair, IOClass}
use Rattle.language.specs.Words.{Word}
use Rattle.semantics.specs.Demand2.{InstanceOf}
use Rattle.listing.specs.Bindings.{same, Binding, is_bound, add_binding, bindings_of, bindings_of_all, bindings}
use Rattle.listing.specs.Print.{print, print_bindings}
use Rattle.sets.specs.Twins.Copying.{part, tree_end, any_cell, stands_in}
use Rattle.sets.specs.Cells.{cells, cells_all}
use Rattle.sets.proofs.CellLaws.{cells_nodes, cells_all_nodes, Stands, stands_end, stands_behind, stands_part, head_stands}
use Rattle.window.specs.Twins.TreeText.{leaf_text, tree_text}
use Rattle.writer.specs.Twins.LineText.{past_at, binding_text, binding_at, bindings_from, bindings_text}
use Rattle.print.proofs.SeenLaws.{IsVariable, same_first, variable_tag, bound, Seen, seen_other, seen_added}
use Rattle.print.proofs.TreeLaws.{first_cell, stands_first, stands_below, tail_behind, leaf_atomic, leaf_evar, tree_printed}

-- inputs, then the output
abbrev pub pair_cells : IOPair → List ℕ
pair_cells p = cells_all p.ins ++ cells p.out

-- an expression beside another that is the same but for what stands in the place of variables
abbrev pub Fits : Exp → Exp → Type 0
Fits (atm x) e = Unit {0}
Fits (evar n) e = Unit {0}
Fits (pair c d) (pair e f) = Fits c e × Fits d f
Fits (pair c d) (atm x) = ⊥
Fits (pair c d) (evar n) = ⊥

abbrev pub FitsAll : List Exp → List Exp → Type 0
FitsAll [] [] = Unit {0}
FitsAll [] (e ∷ es) = ⊥
FitsAll (c ∷ cs) [] = ⊥
FitsAll (c ∷ cs) (e ∷ es) = Fits c e × FitsAll cs es

module _ (s : Substitution) where
  applied_fits : (c : Exp) → Fits c (apply s c)
  applied_fits (atm x) = tt
  applied_fits (evar n) = tt
  applied_fits (pair c d) = (applied_fits c, applied_fits d)

  applied_fits_all : (cs : List Exp) → FitsAll cs (apply_all s cs)
  applied_fits_all [] = tt
  applied_fits_all (c ∷ cs) = (applied_fits c, applied_fits_all cs)

-- an instance fits
pub instance_fits : (j l : IOClass) → InstanceOf j l → FitsAll j.con.ins l.con.ins × Fits j.con.out l.con.out
instance_fits j l i =
    subst (λ (p : IOPair). FitsAll j.con.ins p.ins × Fits j.con.out p.out) (inv i.is) (applied_fits_all i.s j.con.ins, applied_fits i.s j.con.out)

behind_at : {s : List ℕ} {at : ℕ} {c : Exp} {rest : List ℕ} → Stands s at c rest → drop (at + nodes c) s ≡ rest
behind_at {s} {at} {c} {rest} t = subst (λ (k : ℕ). drop k s ≡ rest) (stands_end t) (stands_behind t)

take_next : (l : List ℕ) (i x : ℕ) → i < length l → get_or l i 0 ≡ x → take (i + 1) l ≡ take i l ++ (x ∷ [])
take_next l i x h e = ap (λ (k : ℕ). take k l) (add-one i) ∙ take-suc l i 0 h ∙ ap (λ (y : ℕ). take i l ++ (y ∷ [])) e

module _ (ns : List Word) (name : ℕ → List ℕ) (named : (z : ℕ) → name z ≡ 39 ∷ get_or ns z []) where
  abbrev shown : Exp → Exp → List ℕ
  shown v e = cond (same v e) [] (32 ∷ print ns v ++ (61 ∷ print ns e))

  print_last : (bs : List Binding) (v e : Exp) → print_bindings ns (bs ++ (bound v e ∷ [])) ≡ print_bindings ns bs ++ shown v e
  print_last [] v e = append-nil (shown v e)
  print_last (b ∷ bs) v e =
      ap (λ (l : List ℕ). shown b.var b.exp ++ l) (print_last bs v e) ∙ inv (append_assoc (shown b.var b.exp) (print_bindings ns bs) (shown v e))

  variable_text : (v : Exp) → IsVariable v → leaf_text name (first_cell v) ≡ print ns v
  variable_text (evar n) h = leaf_evar ns name named n
  variable_text (atm (avar n)) h = leaf_atomic ns name named (avar n)
  variable_text (atm (sym z)) h = absurd h
  variable_text (pair c d) h = absurd h

  module _ (vars l : List ℕ) where
    -- where the line goes on
    past_leaf : (i k : ℕ) (x : ℕ) (e : Exp) (lr : List ℕ) → get_or vars i 0 ≡ x → (x ≡ 4 → ⊥) → Stands l k e lr → past_at (get_or vars i 0) l k ≡ k + nodes e
    unfolding past_at
    past_leaf i k x e lr q h w = ap (λ (y : ℕ). cond (eqb y 4) (min (k + 1) (length l)) (tree_end l k)) q ∙ ap (λ (t : Bool). cond t (min (k + 1) (length l)) (tree_end l k)) (ne_eqb x 4 h) ∙ stands_end w

    past_pair : (i k : ℕ) → get_or vars i 0 ≡ 4 → k < length l → past_at (get_or vars i 0) l k ≡ k + 1
    unfolding past_at
    past_pair i k q h =
        let m : min (k + 1) (length l) ≡ k + 1 = omega arith in
        ap (λ (t : Bool). cond t (min (k + 1) (length l)) (tree_end l k)) (eq-eqb (get_or vars i 0) 4 q) ∙ m

    at_other : (i k e : ℕ) → get_or vars i 0 % 4 < 2 → binding_at name vars i l k e ≡ []
    unfolding binding_at
    at_other i k e h = rw (lt-ltb (get_or vars i 0 % 4) 2 h)

    module _ (i k : ℕ) (v e : Exp) (vr lr : List ℕ) (h : IsVariable v) (sv : Stands vars i v vr) (se : Stands l k e lr) where
      bound_text : binding_text name (get_or vars i 0) l k (k + nodes e) ≡ (32 ∷ print ns v) ++ (61 ∷ print ns e)
      unfolding binding_text
      bound_text =
          ap₂ (λ (a b : List ℕ). (32 ∷ a) ++ (61 ∷ b)) (ap (leaf_text name) (stands_first sv) ∙ variable_text v h)
          (ap (tree_text name) (ap (λ (m : ℕ). part k m l) (inv (stands_end se)) ∙ stands_part se) ∙ tree_printed ns name named e)

      at_variable : (bs : List Binding) → Seen (take i vars) bs → binding_at name vars i l k (k + nodes e) ≡ cond (is_bound v bs) [] (shown v e)
      unfolding binding_at
      at_variable bs s =
          let c : get_or vars i 0 ≡ first_cell v = stands_first sv in
          let n : i - 0 ≡ i = omega arith in
          let a : ltb (get_or vars i 0 % 4) 2 ≡ false = le-ltb _ 2 (subst (λ (x : ℕ). 2 ≤ x % 4) (inv c) (variable_tag v h)) in
          let b : stands_in vars 0 i (get_or vars i 0) ≡ is_bound v bs = ap₂ (λ (m x : ℕ). any_cell x (take m vars)) n c ∙ inv (s v h) in
          let d : eqb (get_or l k 0) (get_or vars i 0) ≡ same v e = ap₂ eqb (stands_first se) c ∙ inv (same_first v e h) in
          ap (λ (t : Bool). cond t [] (cond (stands_in vars 0 i (get_or vars i 0)) [] (cond (eqb (get_or l k 0) (get_or vars i 0)) [] (binding_text name (get_or vars i 0) l k (k + nodes e))))) a
          ∙ ap₂ (λ (t u : Bool). cond t [] (cond u [] (binding_text name (get_or vars i 0) l k (k + nodes e)))) b d
          ∙ ap (λ (x : List ℕ). cond (is_bound v bs) [] (cond (same v e) [] x)) bound_text

      added_text : (bs : List Binding) → print_bindings ns (add_binding v e bs) ≡ print_bindings ns bs ++ cond (is_bound v bs) [] (shown v e)
      added_text bs = go (is_bound v bs)
        where
          go : (t : Bool) → print_bindings ns (cond t bs (bs ++ (bound v e ∷ []))) ≡ print_bindings ns bs ++ cond t [] (shown v e)
          go true = inv (append-nil (print_bindings ns bs))
          go false = print_last bs v e

    -- what is printed of the cells passed and of those to come stays the same
    abbrev On : ℕ → ℕ → ℕ → List Binding → ℕ → ℕ → ℕ → List Binding → Type 0
    On m i k bs n i' k' bs' =
        (print_bindings ns bs ++ bindings_from name vars l m i k ≡ print_bindings ns bs' ++ bindings_from name vars l n i' k') × Seen (take i' vars) bs'

    -- one cell of the job
    from_step : (m n i k e : ℕ) → m ≡ suc n → past_at (get_or vars i 0) l k ≡ e → bindings_from name vars l m i k ≡ binding_at name vars i l k e ++ bindings_from name vars l n (i + 1) e
    unfolding bindings_from
    from_step m n i k e q p = rw (q, p)

    other_on : (m n i k e x : ℕ) (bs : List Binding) → m ≡ suc n → i < length vars → get_or vars i 0 ≡ x → x % 4 < 2 → past_at (get_or vars i 0) l k ≡ e →
        Seen (take i vars) bs → On m i k bs n (i + 1) e bs
    other_on m n i k e x bs q h c t p s = (
      ap (λ (y : List ℕ). print_bindings ns bs ++ y) (from_step m n i k e q p ∙ ap (λ (y : List ℕ). y ++ bindings_from name vars l n (i + 1) e) (at_other i k e (subst (λ (y : ℕ). y % 4 < 2) (inv c) t))),
      subst (λ (y : List ℕ). Seen y bs) (inv (take_next vars i x h c)) (seen_other (take i vars) bs x t s),
    )

    variable_on : (m n i k : ℕ) (v e : Exp) (vr lr : List ℕ) (bs : List Binding) → m ≡ suc n → IsVariable v → Stands vars i v vr → Stands l k e lr →
        Seen (take i vars) bs → On m i k bs n (i + 1) (k + nodes e) (add_binding v e bs)
    variable_on m n i k v e vr lr bs q h sv se s =
        let nonpair : first_cell v ≡ 4 → ⊥ = λ z. let t = variable_tag v h in let y : first_cell v % 4 ≡ 0 = ap (λ (a : ℕ). a % 4) z in omega arith in
        let p = past_leaf i k (first_cell v) e lr (stands_first sv) nonpair se in (
          ap (λ (y : List ℕ). print_bindings ns bs ++ y) (from_step m n i k (k + nodes e) q p ∙ ap (λ (y : List ℕ). y ++ bindings_from name vars l n (i + 1) (k + nodes e)) (at_variable i k v e vr lr h sv se bs s))
              ∙ inv (append_assoc (print_bindings ns bs) (cond (is_bound v bs) [] (shown v e)) (bindings_from name vars l n (i + 1) (k + nodes e)))
              ∙ ap (λ (y : List ℕ). y ++ bindings_from name vars l n (i + 1) (k + nodes e)) (inv (added_text i k v e vr lr h sv se bs)),
          subst (λ (y : List ℕ). Seen y (add_binding v e bs)) (inv (take_next vars i (first_cell v) (stands_below sv) (stands_first sv))) (seen_added (take i vars) bs v e h s),
        )

    module _ (c d e g : Exp) (m n i k : ℕ) (vr lr : List ℕ) (bs : List Binding) (q : m ≡ nodes (pair c d) + n)
        (sv : Stands vars i (pair c d) vr) (se : Stands l k (pair e g) lr) (s : Seen (take i vars) bs) where
      pair_on : (Seen (take (i + 1) vars) bs → On (nodes c + (nodes d + n)) (i + 1) (k + 1) bs (nodes d + n) (i + 1 + nodes c) (k + 1 + nodes e) (bindings_of c e bs)) →
          (Seen (take (i + 1 + nodes c) vars) (bindings_of c e bs) →
          On (nodes d + n) (i + 1 + nodes c) (k + 1 + nodes e) (bindings_of c e bs) n (i + 1 + nodes c + nodes d) (k + 1 + nodes e + nodes g) (bindings_of d g (bindings_of c e bs))) →
          On m i k bs n (i + nodes (pair c d)) (k + nodes (pair e g)) (bindings_of d g (bindings_of c e bs))
      pair_on head tail =
          let a = other_on m (nodes c + (nodes d + n)) i k (k + 1) 4 bs (omega arith) (stands_below sv) (stands_first sv) (omega arith) (past_pair i k (stands_first sv) (stands_below se)) s in
          let b = head a.1 in
          let t = tail b.1 in
          let x : i + 1 + nodes c + nodes d ≡ i + nodes (pair c d) = omega arith in
          let y : k + 1 + nodes e + nodes g ≡ k + nodes (pair e g) = omega arith in
          subst (λ (j : ℕ). On m i k bs n j (k + nodes (pair e g)) (bindings_of d g (bindings_of c e bs))) x
          (subst (λ (j : ℕ). On m i k bs n (i + 1 + nodes c + nodes d) j (bindings_of d g (bindings_of c e bs))) y (a.0 ∙ b.0 ∙ t.0, t.1))

    exp_on : (c e : Exp) → Fits c e → (m n i k : ℕ) (vr lr : List ℕ) (bs : List Binding) → m ≡ nodes c + n → Stands vars i c vr → Stands l k e lr →
        Seen (take i vars) bs → On m i k bs n (i + nodes c) (k + nodes e) (bindings_of c e bs)
    exp_on (atm (sym z)) e f m n i k vr lr bs q sv se s =
        other_on m n i k (k + nodes e) (4 * z + 1) bs (omega arith) (stands_below sv) (stands_first sv) (omega arith) (past_leaf i k (4 * z + 1) e lr (stands_first sv) (λ y. omega arith) se) s
    exp_on (atm (avar x)) e f m n i k vr lr bs q sv se s = variable_on m n i k (atm (avar x)) e vr lr bs (omega arith) tt sv se s
    exp_on (evar x) e f m n i k vr lr bs q sv se s = variable_on m n i k (evar x) e vr lr bs (omega arith) tt sv se s
    exp_on (pair c d) (atm x) f m n i k vr lr bs q sv se s = absurd f
    exp_on (pair c d) (evar x) f m n i k vr lr bs q sv se s = absurd f
    exp_on (pair c d) (pair e g) f m n i k vr lr bs q sv se s =
        pair_on c d e g m n i k vr lr bs q sv se s
        (λ h. exp_on c e f.0 (nodes c + (nodes d + n)) (nodes d + n) (i + 1) (k + 1) (cells d ++ vr) (cells g ++ lr) bs refl (head_stands sv) (head_stands se) h)
        (λ h. exp_on d g f.1 (nodes d + n) n (i + 1 + nodes c) (k + 1 + nodes e) vr lr (bindings_of c e bs) refl (tail_behind sv) (tail_behind se) h)

    -- a list of them: the first, and those behind it
    module _ (c e : Exp) (cs es : List Exp) (m n i k : ℕ) (vr lr : List ℕ) (bs : List Binding) where
      more_on : On m i k bs (nodes_all cs + n) (i + nodes c) (k + nodes e) (bindings_of c e bs) →
          (Seen (take (i + nodes c) vars) (bindings_of c e bs) →
          On (nodes_all cs + n) (i + nodes c) (k + nodes e) (bindings_of c e bs) n (i + nodes c + nodes_all cs) (k + nodes e + nodes_all es) (bindings_of_all cs es (bindings_of c e bs))) →
          On m i k bs n (i + nodes_all (c ∷ cs)) (k + nodes_all (e ∷ es)) (bindings_of_all cs es (bindings_of c e bs))
      more_on a more =
          let t = more a.1 in
          let x : i + nodes c + nodes_all cs ≡ i + nodes_all (c ∷ cs) = omega arith in
          let y : k + nodes e + nodes_all es ≡ k + nodes_all (e ∷ es) = omega arith in
          subst (λ (j : ℕ). On m i k bs n j (k + nodes_all (e ∷ es)) (bindings_of_all cs es (bindings_of c e bs))) x
          (subst (λ (j : ℕ). On m i k bs n (i + nodes c + nodes_all cs) j (bindings_of_all cs es (bindings_of c e bs))) y (a.0 ∙ t.0, t.1))

    none_on : (m n i k : ℕ) (bs : List Binding) → m ≡ nodes_all [] + n → Seen (take i vars) bs → On m i k bs n (i + nodes_all []) (k + nodes_all []) bs
    none_on m n i k bs q s =
        let z : m ≡ n = omega arith in
        let x : i ≡ i + 0 = omega arith in
        let y : k ≡ k + 0 = omega arith in (
          ap (λ (o : ℕ). print_bindings ns bs ++ bindings_from name vars l o i k) z ∙ ap₂ (λ (a b : ℕ). print_bindings ns bs ++ bindings_from name vars l n a b) x y,
          subst (λ (j : ℕ). Seen (take j vars) bs) x s,
        )

    all_on : (cs es : List Exp) → FitsAll cs es → (m n i k : ℕ) (vr lr : List ℕ) (bs : List Binding) → m ≡ nodes_all cs + n → drop i vars ≡ cells_all cs ++ vr → drop k l ≡ cells_all es ++ lr →
        Seen (take i vars) bs → On m i k bs n (i + nodes_all cs) (k + nodes_all es) (bindings_of_all cs es bs)
    all_on [] [] f m n i k vr lr bs q sv se s = none_on m n i k bs q s
    all_on [] (e ∷ es) f m n i k vr lr bs q sv se s = absurd f
    all_on (c ∷ cs) [] f m n i k vr lr bs q sv se s = absurd f
    all_on (c ∷ cs) (e ∷ es) f m n i k vr lr bs q sv se s =
        let v : Stands vars i c (cells_all cs ++ vr) = record { here = sv ∙ append_assoc (cells c) (cells_all cs) vr } in
        let w : Stands l k e (cells_all es ++ lr) = record { here = se ∙ append_assoc (cells e) (cells_all es) lr } in
        more_on c e cs es m n i k vr lr bs
        (exp_on c e f.0 m (nodes_all cs + n) i k (cells_all cs ++ vr) (cells_all es ++ lr) bs (omega arith) v w s)
        (λ h. all_on cs es f.1 (nodes_all cs + n) n (i + nodes c) (k + nodes e) vr lr (bindings_of c e bs) refl (behind_at v) (behind_at w) h)

  -- the job's inputs and output beside a line's
  pub bindings_printed : (j p : IOPair) → FitsAll j.ins p.ins → Fits j.out p.out → bindings_text name (pair_cells j) (pair_cells p) ≡ print_bindings ns (bindings j p)
  unfolding bindings_text bindings_from any_cell
  bindings_printed j p f g =
      let vars = pair_cells j in
      let l = pair_cells p in
      let size : length vars ≡ nodes_all j.ins + (nodes j.out + 0) = omega (arith, length-append (cells_all j.ins) (cells j.out), cells_all_nodes j.ins, cells_nodes j.out) in
      let a = all_on vars l j.ins p.ins f (length vars) (nodes j.out + 0) 0 0 (cells j.out) (cells p.out) [] size refl refl (λ v h. refl) in
      let sv : Stands vars (0 + nodes_all j.ins) j.out [] = record { here = drop_front (cells_all j.ins) (cells j.out) (0 + nodes_all j.ins) (omega (arith, cells_all_nodes j.ins)) } in
      let se : Stands l (0 + nodes_all p.ins) p.out [] = record { here = drop_front (cells_all p.ins) (cells p.out) (0 + nodes_all p.ins) (omega (arith, cells_all_nodes p.ins)) } in
      let b = exp_on vars l j.out p.out g (nodes j.out + 0) 0 (0 + nodes_all j.ins) (0 + nodes_all p.ins) [] [] (bindings_of_all j.ins p.ins []) refl sv se a.1 in
      a.0 ∙ b.0 ∙ append-nil (print_bindings ns (bindings j p))
    where
      drop_front : (a b : List ℕ) (n : ℕ) → length a ≡ n → drop n (a ++ b) ≡ b ++ []
      drop_front a b n e = drop_at a b n e ∙ inv (append-nil b)
