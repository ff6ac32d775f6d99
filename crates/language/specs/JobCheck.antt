-- The check of a job: 10, 11, 12, in this order.
use Rattle.std.specs.Prelude.{ℕ, Bool, true, false, ◌||◌, List, [], ◌∷◌, eqb, leb, length}
use Rattle.std.proofs.Math.Option.{none}
use Rattle.expressions.specs.Expression.{sym, avar, Exp, atm, evar, pair}
use Rattle.language.specs.Program.{Param, pe, pa}
use Rattle.language.specs.Scope.{is_atomic}
use Rattle.language.specs.Bytes.{Verdict, fault, unless, ◌or_else◌}
use Rattle.language.specs.Source.{Stand, SExp, sym_s, evar_s, avar_s, pair_s, SJob, at_of, exp, exps}

-- the two tools that read a job
pub data Tool : Type 0 where
  lister runner : Tool

-- "in the runner, any variable in an input (offset: the variable)"
abbrev pub ground_verdict : SExp → Verdict
ground_verdict (sym_s z) = none
ground_verdict (evar_s x) = fault 10 x.at
ground_verdict (avar_s x) = fault 10 x.at
ground_verdict (pair_s o c d) = ground_verdict c or_else ground_verdict d

abbrev pub variables : Tool → SExp → Verdict
variables lister c = none
variables runner c = ground_verdict c

-- "10 job inputs unlike main's parameters in ... kind (offset: the input's first byte)"; "the earliest counts"
abbrev pub kinds_verdict : Tool → List Param → List SExp → Verdict
kinds_verdict tool [] cs = none
kinds_verdict tool (x ∷ xs) [] = none
kinds_verdict tool (pe x ∷ xs) (c ∷ cs) = variables tool c or_else kinds_verdict tool xs cs
kinds_verdict tool (pa x ∷ xs) (c ∷ cs) = unless (is_atomic (exp c)) 10 (at_of c) or_else variables tool c or_else kinds_verdict tool xs cs

-- "in number (offset: `in`)"
abbrev pub inputs_verdict : Tool → List Param → SJob → Verdict
inputs_verdict tool xs j = unless (eqb (length xs) (length j.ins)) 10 j.in_at or_else kinds_verdict tool xs j.ins

-- `?aK` stands in it
abbrev pub stands_in : ℕ → Exp → Bool
stands_in n (atm (sym z)) = false
stands_in n (atm (avar m)) = eqb m n
stands_in n (evar m) = false
stands_in n (pair c d) = stands_in n c || stands_in n d

abbrev pub stands_in_any : ℕ → List Exp → Bool
stands_in_any n [] = false
stands_in_any n (c ∷ cs) = stands_in n c || stands_in_any n cs

-- "11 a `neq` side not atomic, or its `?a` in neither input nor output"; cs are the inputs and the output
abbrev pub side_fits : List Exp → Exp → Bool
side_fits cs (atm (sym z)) = true
side_fits cs (atm (avar n)) = stands_in_any n cs
side_fits cs (evar n) = false
side_fits cs (pair c d) = false

abbrev pub sides_verdict : List Exp → List (SExp × SExp) → Verdict
sides_verdict cs [] = none
sides_verdict cs (q ∷ qs) =
    unless (side_fits cs (exp q.0)) 11 (at_of q.0) or_else unless (side_fits cs (exp q.1)) 11 (at_of q.1) or_else sides_verdict cs qs

-- "12 N, W or T too large"
abbrev pub at_most : ℕ → Stand → Verdict
at_most most n = unless (leb n.num most) 12 n.at

-- "N is 0 to 1,000, W 0 to 1,000,000, T 0 to 256"
abbrev pub bounds_verdict : SJob → Verdict
bounds_verdict j = at_most 1000 j.steps or_else at_most 1000000 j.walk or_else at_most 256 j.table

-- "Job: 10, 11, 12"; xs are main's parameters
unfoldable pub job_verdict : Tool → List Param → SJob → Verdict
job_verdict tool xs j = inputs_verdict tool xs j or_else sides_verdict (exp j.out ∷ exps j.ins) j.neqs or_else bounds_verdict j
