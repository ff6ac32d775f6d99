-- Well-formed programs (001, section 3.1), which is what 6 to 9 leave; those that bind no name in reach (02, request 1), which 13 leaves of them; inputs that fit main (001, definition 40), which is what 10 leaves.
use Rattle.std.specs.Prelude.{Bool, true, false, ◌&&◌, ◌||◌, not, List, [], ◌∷◌, eqb, ltb, length}
use Rattle.expressions.specs.Expression.{Exp}
use Rattle.language.specs.Program.{eqa, consp, Term, call, conditional, result, Param, pe, pa, same_param, Def, Prog, find}
use Rattle.language.specs.Scope.{Scope, is_in, scope_of, with_a, pair_scope, in_scope, all_in_scope, is_atomic, atomic_in_scope}

-- "that the types of arguments and parameters are compatible": as many, and atomic ones for `a.` parameters
abbrev pub fits : List Param → List Exp → Bool
fits [] [] = true
fits [] (d ∷ ds) = false
fits (p ∷ ps) [] = false
fits (pe x ∷ ps) (d ∷ ds) = fits ps ds
fits (pa x ∷ ps) (d ∷ ds) = is_atomic d && fits ps ds

abbrev pub has_param : Param → List Param → Bool
has_param x [] = false
has_param x (y ∷ ys) = same_param y x || has_param x ys

-- no parameter twice
abbrev pub distinct_params : List Param → Bool
distinct_params [] = true
distinct_params (x ∷ xs) = not (has_param x xs) && distinct_params xs

-- "that every function name that appears in a call in p is defined in p, that the types of arguments and parameters are
-- compatible, that the variables xe in cons? are distinct, and that every variable x used in the body of a definition q is a
-- parameter of q or defined in an enclosing conditional"
abbrev pub well_formed_term : Prog → Scope → Term → Bool
well_formed_term p sc (result c) = in_scope sc c
well_formed_term p sc (call f ds) = ltb f (length p) && fits (find p f).params ds && all_in_scope sc ds
well_formed_term p sc (conditional (eqa x y) s t) = atomic_in_scope sc x && atomic_in_scope sc y && well_formed_term p sc s && well_formed_term p sc t
well_formed_term p sc (conditional (consp c h t x) s u) =
    in_scope sc c && not (eqb h t) && well_formed_term p (pair_scope h t sc) s && well_formed_term p (with_a x sc) u

abbrev pub well_formed_defs : Prog → List Def → Bool
well_formed_defs p [] = true
well_formed_defs p (d ∷ ds) = distinct_params d.params && well_formed_term p (scope_of d.params) d.body && well_formed_defs p ds

-- a program has a main
abbrev pub well_formed : Prog → Bool
well_formed p = ltb 0 (length p) && well_formed_defs p p

-- no `cons?` binds a name that is in reach (02, request 1)
abbrev pub binds_new : Scope → Term → Bool
binds_new sc (result c) = true
binds_new sc (call f ds) = true
binds_new sc (conditional (eqa x y) s t) = binds_new sc s && binds_new sc t
binds_new sc (conditional (consp c h t x) s u) =
    not (is_in h sc.evars) && not (is_in t sc.evars) && not (is_in x sc.avars) && binds_new (pair_scope h t sc) s && binds_new (with_a x sc) u

abbrev pub binds_new_all : List Def → Bool
binds_new_all [] = true
binds_new_all (d ∷ ds) = binds_new (scope_of d.params) d.body && binds_new_all ds

-- what the check of a program leaves: 001's programs in which no name in reach is bound
abbrev pub admitted : Prog → Bool
admitted p = well_formed p && binds_new_all p
