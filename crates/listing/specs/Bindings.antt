-- What the job's variables are bound to in a line: "for each job variable that was bound, in order of first standing in the job".
use Rattle.std.specs.Prelude.{Bool, false, cond, ◌&&◌, ◌||◌, List, [], ◌∷◌, ◌++◌, eqb}
use Rattle.expressions.specs.Expression.{sym, avar, Exp, atm, evar, pair}
use Rattle.expressions.specs.Restriction.{same_atomic}
use Rattle.expressions.specs.Class.{IOPair}

abbrev pub same : Exp → Exp → Bool
same (atm x) (atm y) = same_atomic x y
same (atm x) (evar n) = false
same (atm x) (pair c d) = false
same (evar m) (atm y) = false
same (evar m) (evar n) = eqb m n
same (evar m) (pair c d) = false
same (pair a b) (atm y) = false
same (pair a b) (evar n) = false
same (pair a b) (pair c d) = same a c && same b d

-- a variable and what stands in its place
pub record Binding : Type 0 where
  pub var : Exp
  pub exp : Exp

abbrev pub is_bound : Exp → List Binding → Bool
is_bound v [] = false
is_bound v (b ∷ bs) = same b.var v || is_bound v bs

abbrev pub add_binding : Exp → Exp → List Binding → List Binding
add_binding v c bs = cond (is_bound v bs) bs (bs ++ (record { var = v; exp = c } ∷ []))

-- the job's expression beside the line's, which it becomes under the line's substitution
abbrev pub bindings_of : Exp → Exp → List Binding → List Binding
bindings_of (atm (sym z)) e bs = bs
bindings_of (atm (avar n)) e bs = add_binding (atm (avar n)) e bs
bindings_of (evar n) e bs = add_binding (evar n) e bs
bindings_of (pair c d) (pair e f) bs = bindings_of d f (bindings_of c e bs)
bindings_of (pair c d) (atm x) bs = bs
bindings_of (pair c d) (evar n) bs = bs

abbrev pub bindings_of_all : List Exp → List Exp → List Binding → List Binding
bindings_of_all [] es bs = bs
bindings_of_all (c ∷ cs) [] bs = bs
bindings_of_all (c ∷ cs) (e ∷ es) bs = bindings_of_all cs es (bindings_of c e bs)

-- inputs first, then the output
abbrev pub bindings : IOPair → IOPair → List Binding
bindings j l = bindings_of j.out l.out (bindings_of_all j.ins l.ins [])

-- the variables of the job, in order of first standing
abbrev pub has_variable : Exp → List Exp → Bool
has_variable v [] = false
has_variable v (w ∷ ws) = same w v || has_variable v ws

abbrev pub add_variable : Exp → List Exp → List Exp
add_variable v ws = cond (has_variable v ws) ws (ws ++ (v ∷ []))

abbrev pub variables_of : Exp → List Exp → List Exp
variables_of (atm (sym z)) ws = ws
variables_of (atm (avar n)) ws = add_variable (atm (avar n)) ws
variables_of (evar n) ws = add_variable (evar n) ws
variables_of (pair c d) ws = variables_of d (variables_of c ws)

abbrev pub variables_of_all : List Exp → List Exp → List Exp
variables_of_all [] ws = ws
variables_of_all (c ∷ cs) ws = variables_of_all cs (variables_of c ws)

abbrev pub variables : IOPair → List Exp
variables j = variables_of j.out (variables_of_all j.ins [])
