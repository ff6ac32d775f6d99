-- What the readers make of the texts: figure 3's syntax with the offsets that a refusal may name, and what it is without them.
use Rattle.std.specs.Prelude.{ℕ, suc, cond, List, [], ◌∷◌, map, eqb}
use Rattle.expressions.specs.Expression.{sym, avar, Exp, atm, evar, pair}
use Rattle.expressions.specs.Restriction.{NonEquality}
use Rattle.expressions.specs.Class.{IOClass}
use Rattle.language.specs.Program.{Condition, eqa, consp, Term, call, conditional, result, Param, Prog, atom_of}

-- a number (of a name, or a numeral's value) and the offset where it stands
pub record Stand : Type 0 where
  pub at : ℕ
  pub num : ℕ

-- e and d: `'Z`, `e.NAME` or `?eK`, `a.NAME` or `?aK`, `(cons e e)`; the offset is that of the first byte
pub data SExp : Type 0 where
  sym_s evar_s avar_s : Stand → SExp
  pair_s : ℕ → SExp → SExp → SExp

pub data SCondition : Type 0 where
  eqa_s : SExp → SExp → SCondition
  consp_s : SExp → Stand → Stand → Stand → SCondition

pub data STerm : Type 0 where
  call_s : Stand → List SExp → STerm
  conditional_s : SCondition → STerm → STerm → STerm
  result_s : SExp → STerm

pub record SParam : Type 0 where
  pub at : ℕ
  pub param : Param

pub record SDef : Type 0 where
  pub name : Stand
  pub params : List SParam
  pub body : STerm

-- "one or more of `(define F [x ..] t)`; the first is main"
pub record SProg : Type 0 where
  pub main : SDef
  pub others : List SDef

-- "`(job (in d ..) (out d) (neq [d d] ..) (steps N) (walk W) (table T))`"; in_at is the offset of `in`
pub record SJob : Type 0 where
  pub in_at : ℕ
  pub ins : List SExp
  pub out : SExp
  pub neqs : List (SExp × SExp)
  pub steps : Stand
  pub walk : Stand
  pub table : Stand

abbrev pub at_of : SExp → ℕ
at_of (sym_s n) = n.at
at_of (evar_s n) = n.at
at_of (avar_s n) = n.at
at_of (pair_s o c d) = o

-- without offsets
abbrev pub exp : SExp → Exp
exp (sym_s n) = atm (sym n.num)
exp (evar_s n) = evar n.num
exp (avar_s n) = atm (avar n.num)
exp (pair_s o c d) = pair (exp c) (exp d)

abbrev pub exps : List SExp → List Exp
exps [] = []
exps (c ∷ cs) = exp c ∷ exps cs

abbrev pub condition : SCondition → Condition
condition (eqa_s c d) = eqa (exp c) (exp d)
condition (consp_s c h t x) = consp (exp c) h.num t.num x.num

-- a function is the place of its definition, the number of definitions where it has none
abbrev pub place_of : ℕ → List ℕ → ℕ
place_of f [] = 0
place_of f (g ∷ gs) = cond (eqb g f) 0 (suc (place_of f gs))

abbrev pub term : List ℕ → STerm → Term
term fs (call_s f cs) = call (place_of f.num fs) (exps cs)
term fs (conditional_s k s t) = conditional (condition k) (term fs s) (term fs t)
term fs (result_s c) = result (exp c)

abbrev pub params : List SParam → List Param
params [] = []
params (x ∷ xs) = x.param ∷ params xs

abbrev pub defs : SProg → List SDef
defs s = s.main ∷ s.others

-- the names of the functions, in the order of their definitions
abbrev pub functions : List SDef → List ℕ
functions [] = []
functions (d ∷ ds) = d.name.num ∷ functions ds

abbrev pub prog_of : List ℕ → List SDef → Prog
prog_of fs [] = []
prog_of fs (d ∷ ds) = record { params = params d.params; body = term fs d.body } ∷ prog_of fs ds

abbrev pub prog : SProg → Prog
prog s = prog_of (functions (defs s)) (defs s)

abbrev pub neq_of : SExp × SExp → NonEquality
neq_of q = record { left = atom_of (exp q.0); right = atom_of (exp q.1) }

-- the class that the job asks about
abbrev pub class : SJob → IOClass
class j = record { con = record { ins = exps j.ins; out = exp j.out }; neqs = map neq_of j.neqs }
