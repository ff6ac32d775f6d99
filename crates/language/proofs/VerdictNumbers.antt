-- A fault that a check finds has one of the numbers that "From the input" lists.
use Prim.Native.Nat.{ℕ, suc, ◌≤◌}
use mathlib.Core.Bool.{Bool, true, false, cond, ◌&&◌, not}
use mathlib.Core.List.{List, [], ◌∷◌}
use mathlib.Core.Option.{none, some}
use native.Mathlib.Omega.{arith}
use lib.Dec.{eqb, leb, ltb}
use lib.ListN.{length}
use Rattle.expressions.specs.Expression.{Exp}
use Rattle.language.specs.Program.{Param, pe, pa, Prog, find}
use Rattle.language.specs.Scope.{Scope, is_in, is_atomic, with_a, pair_scope, scope_of}
use Rattle.language.specs.WellFormed.{has_param}
use Rattle.language.specs.Bytes.{Verdict, fault, unless, ◌or_else◌, byte_kind, is_outside, outside_from, bytes_verdict}
use Rattle.language.specs.Source.{Stand, SExp, sym_s, evar_s, avar_s, pair_s, SCondition, eqa_s, consp_s, STerm, call_s, conditional_s, result_s, SParam, SDef, SProg, SJob, at_of, exp, exps, place_of, params, defs, functions, prog}
use Rattle.language.specs.ProgramCheck.{params_twice, condition_twice, term_twice, defs_twice, new_e, new_a, term_rebound, defs_rebound, reach_e, reach_ea, reach_args, call_verdict, term_verdict, defs_verdict, program_verdict}
use Rattle.language.specs.JobCheck.{Tool, lister, runner, ground_verdict, variables, kinds_verdict, inputs_verdict, side_fits, sides_verdict, at_most, bounds_verdict, job_verdict}

-- "From the input": 1 to 12, and 13 (02, request 1)
abbrev pub Stated : ℕ → Type 0
Stated n = (1 ≤ n) × (n ≤ 13)

abbrev pub OfVerdict : Verdict → Type 0
OfVerdict none = Unit {0}
OfVerdict (some r) = Stated r.number

unless_stated : (b : Bool) (n o : ℕ) → Stated n → OfVerdict (unless b n o)
unless_stated true n o h = tt
unless_stated false n o h = h

or_stated : (v w : Verdict) → OfVerdict v → OfVerdict w → OfVerdict (v or_else w)
or_stated none w h k = k
or_stated (some r) w h k = h

-- 1 and 2
outside_stated : (at : ℕ) (bs : List ℕ) → OfVerdict (outside_from at bs)
outside_stated at [] = tt
outside_stated at (b ∷ bs) = go (is_outside (byte_kind b)) (outside_stated (suc at) bs)
  where
    go : (t : Bool) → OfVerdict (outside_from (suc at) bs) → OfVerdict (cond t (fault 2 at) (outside_from (suc at) bs))
    go true h = (omega arith, omega arith)
    go false h = h

pub bytes_stated : (limit : ℕ) (bs : List ℕ) → OfVerdict (bytes_verdict limit bs)
bytes_stated limit bs = or_stated (unless (leb (length bs) limit) 1 limit) (outside_from 0 bs) (unless_stated (leb (length bs) limit) 1 limit (omega arith, omega arith)) (outside_stated 0 bs)

-- 6
twice_stated : (b : Bool) (o : ℕ) → OfVerdict (unless b 6 o)
twice_stated b o = unless_stated b 6 o (omega arith, omega arith)

params_stated : (before : List Param) (xs : List SParam) → OfVerdict (params_twice before xs)
params_stated before [] = tt
params_stated before (x ∷ xs) =
    or_stated (unless (not (has_param x.param before)) 6 x.at) (params_twice (x.param ∷ before) xs) (twice_stated (not (has_param x.param before)) x.at) (params_stated (x.param ∷ before) xs)

condition_stated : (k : SCondition) → OfVerdict (condition_twice k)
condition_stated (eqa_s c d) = tt
condition_stated (consp_s c h t x) = twice_stated (not (eqb h.num t.num)) t.at

names_stated : (t : STerm) → OfVerdict (term_twice t)
names_stated (call_s f cs) = tt
names_stated (conditional_s k s t) = or_stated (condition_twice k) (term_twice s or_else term_twice t) (condition_stated k) (or_stated (term_twice s) (term_twice t) (names_stated s) (names_stated t))
names_stated (result_s c) = tt

defs_stated : (before : List ℕ) (ds : List SDef) → OfVerdict (defs_twice before ds)
defs_stated before [] = tt
defs_stated before (d ∷ ds) =
    or_stated (unless (not (is_in d.name.num before)) 6 d.name.at) (params_twice [] d.params or_else term_twice d.body or_else defs_twice (d.name.num ∷ before) ds)
    (twice_stated (not (is_in d.name.num before)) d.name.at)
    (or_stated (params_twice [] d.params) (term_twice d.body or_else defs_twice (d.name.num ∷ before) ds) (params_stated [] d.params)
    (or_stated (term_twice d.body) (defs_twice (d.name.num ∷ before) ds) (names_stated d.body) (defs_stated (d.name.num ∷ before) ds)))

-- 13
new_e_stated : (sc : Scope) (x : Stand) → OfVerdict (new_e sc x)
new_e_stated sc x = unless_stated (not (is_in x.num sc.evars)) 13 x.at (omega arith, omega arith)

new_a_stated : (sc : Scope) (x : Stand) → OfVerdict (new_a sc x)
new_a_stated sc x = unless_stated (not (is_in x.num sc.avars)) 13 x.at (omega arith, omega arith)

rebound_stated : (sc : Scope) (t : STerm) → OfVerdict (term_rebound sc t)
rebound_stated sc (call_s f cs) = tt
rebound_stated sc (conditional_s (eqa_s c d) s t) = or_stated (term_rebound sc s) (term_rebound sc t) (rebound_stated sc s) (rebound_stated sc t)
rebound_stated sc (conditional_s (consp_s c h t x) s u) =
    let y = term_rebound (pair_scope h.num t.num sc) s in
    let z = term_rebound (with_a x.num sc) u in
    or_stated (new_e sc h) (new_e sc t or_else new_a sc x or_else y or_else z) (new_e_stated sc h)
    (or_stated (new_e sc t) (new_a sc x or_else y or_else z) (new_e_stated sc t)
    (or_stated (new_a sc x) (y or_else z) (new_a_stated sc x)
    (or_stated y z (rebound_stated (pair_scope h.num t.num sc) s) (rebound_stated (with_a x.num sc) u))))
rebound_stated sc (result_s c) = tt

all_rebound_stated : (ds : List SDef) → OfVerdict (defs_rebound ds)
all_rebound_stated [] = tt
all_rebound_stated (d ∷ ds) =
    or_stated (term_rebound (scope_of (params d.params)) d.body) (defs_rebound ds) (rebound_stated (scope_of (params d.params)) d.body) (all_rebound_stated ds)

-- 7, 8, 9
reach_stated : (sc : Scope) (c : SExp) → OfVerdict (reach_e sc c)
reach_stated sc (sym_s z) = tt
reach_stated sc (evar_s x) = unless_stated (is_in x.num sc.evars) 9 x.at (omega arith, omega arith)
reach_stated sc (avar_s x) = unless_stated (is_in x.num sc.avars) 9 x.at (omega arith, omega arith)
reach_stated sc (pair_s o c d) = or_stated (reach_e sc c) (reach_e sc d) (reach_stated sc c) (reach_stated sc d)

atomic_stated : (sc : Scope) (c : SExp) → OfVerdict (reach_ea sc c)
atomic_stated sc c = or_stated (unless (is_atomic (exp c)) 8 (at_of c)) (reach_e sc c) (unless_stated (is_atomic (exp c)) 8 (at_of c) (omega arith, omega arith)) (reach_stated sc c)

args_stated : (sc : Scope) (ps : List Param) (cs : List SExp) → OfVerdict (reach_args sc ps cs)
args_stated sc ps [] = tt
args_stated sc [] (c ∷ cs) = or_stated (reach_e sc c) (reach_args sc [] cs) (reach_stated sc c) (args_stated sc [] cs)
args_stated sc (pe x ∷ ps) (c ∷ cs) = or_stated (reach_e sc c) (reach_args sc ps cs) (reach_stated sc c) (args_stated sc ps cs)
args_stated sc (pa x ∷ ps) (c ∷ cs) = or_stated (reach_ea sc c) (reach_args sc ps cs) (atomic_stated sc c) (args_stated sc ps cs)

module _ (p : Prog) (fs : List ℕ) where
  call_stated : (f : ℕ) (name : Stand) (cs : List SExp) → OfVerdict (call_verdict p fs f name cs)
  call_stated f name cs = unless_stated (ltb f (length p) && eqb (length (find p f).params) (length cs)) 7 name.at (omega arith, omega arith)

  term_stated : (sc : Scope) (t : STerm) → OfVerdict (term_verdict p fs sc t)
  term_stated sc (call_s f cs) =
      let ps = (find p (place_of f.num fs)).params in
      or_stated (call_verdict p fs (place_of f.num fs) f cs) (reach_args sc ps cs) (call_stated (place_of f.num fs) f cs) (args_stated sc ps cs)
  term_stated sc (conditional_s (eqa_s c d) s t) =
      or_stated (reach_ea sc c) (reach_ea sc d or_else term_verdict p fs sc s or_else term_verdict p fs sc t) (atomic_stated sc c)
      (or_stated (reach_ea sc d) (term_verdict p fs sc s or_else term_verdict p fs sc t) (atomic_stated sc d)
      (or_stated (term_verdict p fs sc s) (term_verdict p fs sc t) (term_stated sc s) (term_stated sc t)))
  term_stated sc (conditional_s (consp_s c h t x) s u) =
      or_stated (reach_e sc c) (term_verdict p fs (pair_scope h.num t.num sc) s or_else term_verdict p fs (with_a x.num sc) u) (reach_stated sc c)
      (or_stated (term_verdict p fs (pair_scope h.num t.num sc) s) (term_verdict p fs (with_a x.num sc) u) (term_stated (pair_scope h.num t.num sc) s) (term_stated (with_a x.num sc) u))
  term_stated sc (result_s c) = reach_stated sc c

  bodies_stated : (ds : List SDef) → OfVerdict (defs_verdict p fs ds)
  bodies_stated [] = tt
  bodies_stated (d ∷ ds) =
      or_stated (term_verdict p fs (scope_of (params d.params)) d.body) (defs_verdict p fs ds) (term_stated (scope_of (params d.params)) d.body) (bodies_stated ds)

pub program_stated : (s : SProg) → OfVerdict (program_verdict s)
unfolding program_verdict
program_stated s =
    let v = defs_verdict (prog s) (functions (defs s)) (defs s) in
    or_stated (defs_twice [] (defs s)) (defs_rebound (defs s) or_else v) (defs_stated [] (defs s))
    (or_stated (defs_rebound (defs s)) v (all_rebound_stated (defs s)) (bodies_stated (prog s) (functions (defs s)) (defs s)))

-- 10, 11, 12
ground_stated : (c : SExp) → OfVerdict (ground_verdict c)
ground_stated (sym_s z) = tt
ground_stated (evar_s x) = (omega arith, omega arith)
ground_stated (avar_s x) = (omega arith, omega arith)
ground_stated (pair_s o c d) = or_stated (ground_verdict c) (ground_verdict d) (ground_stated c) (ground_stated d)

variables_stated : (tool : Tool) (c : SExp) → OfVerdict (variables tool c)
variables_stated lister c = tt
variables_stated runner c = ground_stated c

kinds_stated : (tool : Tool) (xs : List Param) (cs : List SExp) → OfVerdict (kinds_verdict tool xs cs)
kinds_stated tool [] cs = tt
kinds_stated tool (x ∷ xs) [] = tt
kinds_stated tool (pe x ∷ xs) (c ∷ cs) = or_stated (variables tool c) (kinds_verdict tool xs cs) (variables_stated tool c) (kinds_stated tool xs cs)
kinds_stated tool (pa x ∷ xs) (c ∷ cs) =
    or_stated (unless (is_atomic (exp c)) 10 (at_of c)) (variables tool c or_else kinds_verdict tool xs cs) (unless_stated (is_atomic (exp c)) 10 (at_of c) (omega arith, omega arith))
    (or_stated (variables tool c) (kinds_verdict tool xs cs) (variables_stated tool c) (kinds_stated tool xs cs))

inputs_stated : (tool : Tool) (xs : List Param) (j : SJob) → OfVerdict (inputs_verdict tool xs j)
inputs_stated tool xs j =
    let b = eqb (length xs) (length j.ins) in
    or_stated (unless b 10 j.in_at) (kinds_verdict tool xs j.ins) (unless_stated b 10 j.in_at (omega arith, omega arith)) (kinds_stated tool xs j.ins)

side_stated : (cs : List Exp) (c : SExp) → OfVerdict (unless (side_fits cs (exp c)) 11 (at_of c))
side_stated cs c = unless_stated (side_fits cs (exp c)) 11 (at_of c) (omega arith, omega arith)

sides_stated : (cs : List Exp) (qs : List (SExp × SExp)) → OfVerdict (sides_verdict cs qs)
sides_stated cs [] = tt
sides_stated cs (q ∷ qs) =
    or_stated (unless (side_fits cs (exp q.0)) 11 (at_of q.0)) (unless (side_fits cs (exp q.1)) 11 (at_of q.1) or_else sides_verdict cs qs) (side_stated cs q.0)
    (or_stated (unless (side_fits cs (exp q.1)) 11 (at_of q.1)) (sides_verdict cs qs) (side_stated cs q.1) (sides_stated cs qs))

most_stated : (most : ℕ) (n : Stand) → OfVerdict (at_most most n)
most_stated most n = unless_stated (leb n.num most) 12 n.at (omega arith, omega arith)

bounds_stated : (j : SJob) → OfVerdict (bounds_verdict j)
bounds_stated j =
    or_stated (at_most 1000 j.steps) (at_most 1000000 j.walk or_else at_most 256 j.table) (most_stated 1000 j.steps)
    (or_stated (at_most 1000000 j.walk) (at_most 256 j.table) (most_stated 1000000 j.walk) (most_stated 256 j.table))

pub job_stated : (tool : Tool) (xs : List Param) (j : SJob) → OfVerdict (job_verdict tool xs j)
unfolding job_verdict
job_stated tool xs j =
    let cs = exp j.out ∷ exps j.ins in
    or_stated (inputs_verdict tool xs j) (sides_verdict cs j.neqs or_else bounds_verdict j) (inputs_stated tool xs j)
    (or_stated (sides_verdict cs j.neqs) (bounds_verdict j) (sides_stated cs j.neqs) (bounds_stated j))
