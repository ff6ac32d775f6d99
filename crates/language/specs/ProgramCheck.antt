-- The check of a program: 6; then 13; then 7, 8, 9. Each check asks what it asks in the order in which it stands in the text, so
-- that the first fault found is the earliest; at one offset the lowest number is asked first.
use Rattle.std.specs.Prelude.{ℕ, ◌&&◌, not, List, [], ◌∷◌, eqb, ltb, length}
use Rattle.std.proofs.Math.Option.{none}
use Rattle.language.specs.Program.{Param, pe, pa, Prog, find}
use Rattle.language.specs.Scope.{Scope, is_in, is_atomic, with_a, pair_scope, scope_of}
use Rattle.language.specs.WellFormed.{has_param}
use Rattle.language.specs.Bytes.{Verdict, unless, ◌or_else◌}
use Rattle.language.specs.Source.{Stand, SExp, sym_s, evar_s, avar_s, pair_s, SCondition, eqa_s, consp_s, STerm, call_s, conditional_s, result_s, SParam, SDef, SProg, at_of, exp, place_of, params, defs, functions, prog}

-- "6 ... a parameter defined twice (offset: the second name)"; `before` stand the earlier ones
abbrev pub params_twice : List Param → List SParam → Verdict
params_twice before [] = none
params_twice before (x ∷ xs) = unless (not (has_param x.param before)) 6 x.at or_else params_twice (x.param ∷ before) xs

-- "6 ... equal names in one `cons?`"
abbrev pub condition_twice : SCondition → Verdict
condition_twice (eqa_s c d) = none
condition_twice (consp_s c h t x) = unless (not (eqb h.num t.num)) 6 t.at

abbrev pub term_twice : STerm → Verdict
term_twice (call_s f cs) = none
term_twice (conditional_s k s t) = condition_twice k or_else term_twice s or_else term_twice t
term_twice (result_s c) = none

-- "6 a function ... defined twice"; `before` are the names of the earlier ones
abbrev pub defs_twice : List ℕ → List SDef → Verdict
defs_twice before [] = none
defs_twice before (d ∷ ds) =
    unless (not (is_in d.name.num before)) 6 d.name.at or_else
    params_twice [] d.params or_else
    term_twice d.body or_else
    defs_twice (d.name.num ∷ before) ds

-- "A name .. that a `cons?` binds may no longer be one already in reach on that branch." "Refused: 13, at the rebound name" (02, request 1)
abbrev pub new_e : Scope → Stand → Verdict
new_e sc x = unless (not (is_in x.num sc.evars)) 13 x.at

abbrev pub new_a : Scope → Stand → Verdict
new_a sc x = unless (not (is_in x.num sc.avars)) 13 x.at

abbrev pub term_rebound : Scope → STerm → Verdict
term_rebound sc (call_s f cs) = none
term_rebound sc (conditional_s (eqa_s c d) s t) = term_rebound sc s or_else term_rebound sc t
term_rebound sc (conditional_s (consp_s c h t x) s u) =
    new_e sc h or_else new_e sc t or_else new_a sc x or_else term_rebound (pair_scope h.num t.num sc) s or_else term_rebound (with_a x.num sc) u
term_rebound sc (result_s c) = none

abbrev pub defs_rebound : List SDef → Verdict
defs_rebound [] = none
defs_rebound (d ∷ ds) = term_rebound (scope_of (params d.params)) d.body or_else defs_rebound ds

-- "9 variable not in reach"
abbrev pub reach_e : Scope → SExp → Verdict
reach_e sc (sym_s z) = none
reach_e sc (evar_s x) = unless (is_in x.num sc.evars) 9 x.at
reach_e sc (avar_s x) = unless (is_in x.num sc.avars) 9 x.at
reach_e sc (pair_s o c d) = reach_e sc c or_else reach_e sc d

-- "8 not atomic where an ea is due", then 9
abbrev pub reach_ea : Scope → SExp → Verdict
reach_ea sc c = unless (is_atomic (exp c)) 8 (at_of c) or_else reach_e sc c

-- "A parameter `a.NAME` takes only an ea"
abbrev pub reach_args : Scope → List Param → List SExp → Verdict
reach_args sc ps [] = none
reach_args sc [] (c ∷ cs) = reach_e sc c or_else reach_args sc [] cs
reach_args sc (pe x ∷ ps) (c ∷ cs) = reach_e sc c or_else reach_args sc ps cs
reach_args sc (pa x ∷ ps) (c ∷ cs) = reach_ea sc c or_else reach_args sc ps cs

-- p is the program, fs are the names of its functions
module _ (p : Prog) (fs : List ℕ) where
  -- "7 call of an unknown function, or a wrong number of arguments (offset: the function's name in the call)"
  abbrev pub call_verdict : ℕ → Stand → List SExp → Verdict
  call_verdict f name cs = unless (ltb f (length p) && eqb (length (find p f).params) (length cs)) 7 name.at

  -- "The true branch of `cons?` has its two xe, the false branch its xa, neither the other's."
  abbrev pub term_verdict : Scope → STerm → Verdict
  term_verdict sc (call_s f cs) =
      call_verdict (place_of f.num fs) f cs or_else reach_args sc (find p (place_of f.num fs)).params cs
  term_verdict sc (conditional_s (eqa_s c d) s t) = reach_ea sc c or_else reach_ea sc d or_else term_verdict sc s or_else term_verdict sc t
  term_verdict sc (conditional_s (consp_s c h t x) s u) =
      reach_e sc c or_else term_verdict (pair_scope h.num t.num sc) s or_else term_verdict (with_a x.num sc) u
  term_verdict sc (result_s c) = reach_e sc c

  abbrev pub defs_verdict : List SDef → Verdict
  defs_verdict [] = none
  defs_verdict (d ∷ ds) = term_verdict (scope_of (params d.params)) d.body or_else defs_verdict ds

-- "Program: 6; then 7, 8, 9 at the earliest token"; 13 "after 6 and before 7, 8 and 9"
unfoldable pub program_verdict : SProg → Verdict
program_verdict s = defs_twice [] (defs s) or_else defs_rebound (defs s) or_else defs_verdict (prog s) (functions (defs s)) (defs s)
