-- Names in reach (01, "Texts": "The true branch of `cons?` has its two xe, the false branch its xa, neither the other's").
use Rattle.std.specs.Prelude.{ℕ, Bool, true, false, ◌&&◌, ◌||◌, List, [], ◌∷◌, eqb}
use Rattle.expressions.specs.Expression.{AtomicExp, sym, avar, Exp, atm, evar, pair}
use Rattle.language.specs.Program.{Param, pe, pa}

-- the `e.` names and the `a.` names in reach
pub record Scope : Type 0 where
  pub evars : List ℕ
  pub avars : List ℕ

abbrev pub is_in : ℕ → List ℕ → Bool
is_in x [] = false
is_in x (y ∷ ys) = eqb y x || is_in x ys

abbrev pub with_e : ℕ → Scope → Scope
with_e x sc = record { evars = x ∷ sc.evars; avars = sc.avars }

abbrev pub with_a : ℕ → Scope → Scope
with_a x sc = record { evars = sc.evars; avars = x ∷ sc.avars }

-- what the parameters bring into reach
abbrev pub scope_of : List Param → Scope
scope_of [] = record { evars = []; avars = [] }
scope_of (pe x ∷ ps) = with_e x (scope_of ps)
scope_of (pa x ∷ ps) = with_a x (scope_of ps)

-- what the two branches of a `cons?` have in reach
abbrev pub pair_scope : ℕ → ℕ → Scope → Scope
pair_scope h t sc = with_e t (with_e h sc)

abbrev pub in_scope_atomic : Scope → AtomicExp → Bool
in_scope_atomic sc (sym z) = true
in_scope_atomic sc (avar n) = is_in n sc.avars

abbrev pub in_scope : Scope → Exp → Bool
in_scope sc (atm x) = in_scope_atomic sc x
in_scope sc (evar n) = is_in n sc.evars
in_scope sc (pair c d) = in_scope sc c && in_scope sc d

abbrev pub all_in_scope : Scope → List Exp → Bool
all_in_scope sc [] = true
all_in_scope sc (d ∷ ds) = in_scope sc d && all_in_scope sc ds

-- an ea
abbrev pub is_atomic : Exp → Bool
is_atomic (atm x) = true
is_atomic (evar n) = false
is_atomic (pair c d) = false

abbrev pub atomic_in_scope : Scope → Exp → Bool
atomic_in_scope sc c = is_atomic c && in_scope sc c
