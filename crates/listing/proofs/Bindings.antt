-- The printed bindings of a line are its substitution on the job's variables, in order of first standing.
use mathlib.Core.Path.{◌≡◌, refl, ap, ◌∙◌}
use mathlib.Core.Bool.{Bool, true, false, cond, ◌||◌}
use mathlib.Core.List.{List, [], ◌∷◌, ◌++◌, map}
use Rattle.expressions.specs.Expression.{sym, avar, Exp, atm, evar, pair}
use Rattle.expressions.specs.Substitution.{Substitution, apply, apply_all}
use Rattle.expressions.specs.Class.{IOPair, apply_io, IOClass}
use Rattle.semantics.specs.Demand2.{InstanceOf}
use Rattle.listing.specs.Bindings.{same, Binding, is_bound, add_binding, bindings_of, bindings_of_all, bindings, has_variable, add_variable, variables_of, variables_of_all, variables}

-- a variable under a substitution
abbrev pub bound_by : Substitution → Exp → Binding
bound_by s v = record { var = v; exp = apply s v }

module _ (s : Substitution) where
  bound_has : (v : Exp) (ws : List Exp) → is_bound v (map (bound_by s) ws) ≡ has_variable v ws
  bound_has v [] = refl
  bound_has v (w ∷ ws) = ap (λ (b : Bool). same w v || b) (bound_has v ws)

  map_append : (ws : List Exp) (v : Exp) → map (bound_by s) ws ++ (bound_by s v ∷ []) ≡ map (bound_by s) (ws ++ (v ∷ []))
  map_append [] v = refl
  map_append (w ∷ ws) v = ap (λ (l : List Binding). bound_by s w ∷ l) (map_append ws v)

  add_variable_lem : (v : Exp) (ws : List Exp) → add_binding v (apply s v) (map (bound_by s) ws) ≡ map (bound_by s) (add_variable v ws)
  add_variable_lem v ws = ap (λ (b : Bool). cond b (map (bound_by s) ws) (map (bound_by s) ws ++ (bound_by s v ∷ []))) (bound_has v ws) ∙ pick (has_variable v ws)
    where
      pick : (b : Bool) → cond b (map (bound_by s) ws) (map (bound_by s) ws ++ (bound_by s v ∷ [])) ≡ map (bound_by s) (cond b ws (ws ++ (v ∷ [])))
      pick true = refl
      pick false = map_append ws v

  bindings_exp : (c : Exp) (ws : List Exp) → bindings_of c (apply s c) (map (bound_by s) ws) ≡ map (bound_by s) (variables_of c ws)
  bindings_exp (atm (sym z)) ws = refl
  bindings_exp (atm (avar n)) ws = add_variable_lem (atm (avar n)) ws
  bindings_exp (evar n) ws = add_variable_lem (evar n) ws
  bindings_exp (pair c d) ws = ap (bindings_of d (apply s d)) (bindings_exp c ws) ∙ bindings_exp d (variables_of c ws)

  bindings_all : (cs ws : List Exp) → bindings_of_all cs (apply_all s cs) (map (bound_by s) ws) ≡ map (bound_by s) (variables_of_all cs ws)
  bindings_all [] ws = refl
  bindings_all (c ∷ cs) ws = ap (bindings_of_all cs (apply_all s cs)) (bindings_exp c ws) ∙ bindings_all cs (variables_of c ws)

  bindings_apply : (j : IOPair) → bindings j (apply_io s j) ≡ map (bound_by s) (variables j)
  bindings_apply j = ap (bindings_of j.out (apply s j.out)) (bindings_all j.ins []) ∙ bindings_exp j.out (variables_of_all j.ins [])

-- "` VAR=EXPR` for each job variable": an instance of the job is printed by its substitution
pub printed_bindings : (j l : IOClass) (i : InstanceOf j l) → bindings j.con l.con ≡ map (bound_by i.s) (variables j.con)
printed_bindings j l i = ap (bindings j.con) i.is ∙ bindings_apply i.s j.con
