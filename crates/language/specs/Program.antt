-- Programs (001, figure 3; 01, "Texts").
use Rattle.std.specs.Prelude.{ℕ, Bool, false, List, [], eqb, get_or}
use Rattle.expressions.specs.Expression.{AtomicExp, sym, Exp, atm, evar, pair}

-- "k: `(eqa? ea ea)` or `(cons? e xe xe xa)`"
pub data Condition : Type 0 where
  eqa : Exp → Exp → Condition
  consp : Exp → ℕ → ℕ → ℕ → Condition

-- "t: `(call F [e ..])`, `(if k t t)` or e"; a function is named by the place of its definition
pub data Term : Type 0 where
  call : ℕ → List Exp → Term
  conditional : Condition → Term → Term → Term
  result : Exp → Term

-- a parameter `e.NAME` or `a.NAME`; "`e.x` and `a.x` are two variables"
pub data Param : Type 0 where
  pe : ℕ → Param
  pa : ℕ → Param

abbrev pub same_param : Param → Param → Bool
same_param (pe x) (pe y) = eqb x y
same_param (pe x) (pa y) = false
same_param (pa x) (pe y) = false
same_param (pa x) (pa y) = eqb x y

-- "`(define F [x ..] t)`"
pub record Def : Type 0 where
  pub params : List Param
  pub body : Term

-- "the first is main"
abbrev pub Prog : Type 0
Prog = List Def

-- The definition of a function. Total: where there is none, a function of no parameters that gives the symbol 0;
-- no call of a well-formed program is of such a one.
abbrev pub find : Prog → ℕ → Def
find p f = get_or p f (record { params = []; body = result (atm (sym 0)) })

-- An ea as what it is. Total: what is not atomic gives the symbol 0; 8 and 11 refuse it.
abbrev pub atom_of : Exp → AtomicExp
atom_of (atm x) = x
atom_of (evar n) = sym 0
atom_of (pair c d) = sym 0
