-- What the acceptance of two texts gives (01, "From the input", 6 to 10, 12 and 13): a well-formed program, inputs that fit main's
-- parameters and, in the runner, are ground_exp, numbers within their bounds.
use Prim.Native.Nat.{ℕ, ◌≤◌}
use mathlib.Core.Path.{◌≡◌, refl, ap, ap₂, subst, ◌∙◌, sym as inv}
use mathlib.Core.Bool.{Bool, true, false, ◌||◌, not, true≢false, false≢true}
use mathlib.Core.List.{List, [], ◌∷◌}
use mathlib.Core.Option.{none, some, some-ne-none}
use native.Mathlib.Omega.{arith}
use lib.Dec.{eqb, ltb}
use lib.ListN.{length}
use borrow.Author.Tests.{eqb-true, leb-true, lt-ltb, not-true}
use Rattle.expressions.specs.Expression.{cons}
use Rattle.expressions.specs.Substitution.{GroundSubst, ground_exp, ground_all}
use Rattle.expressions.proofs.Tests.{and_both, eqb_same}
use Rattle.language.specs.Program.{Param, pe, pa, same_param, Prog, find}
use Rattle.language.specs.Scope.{Scope, is_in, is_atomic, in_scope, all_in_scope, atomic_in_scope, with_a, pair_scope, scope_of}
use Rattle.language.specs.WellFormed.{fits, has_param, distinct_params, well_formed_term, well_formed_defs, binds_new, binds_new_all, admitted}
use Rattle.language.specs.Bytes.{Refusal, Verdict, unless, ◌or_else◌, bytes_verdict}
use Rattle.language.specs.Words.{Word}
use Rattle.language.specs.Tokens.{Text, of_program, of_job, tokens, symbols_of}
use Rattle.language.specs.Reader.{Res, ok, refused, and_then, unless_fault, Reader}
use Rattle.language.specs.Source.{SExp, sym_s, evar_s, avar_s, pair_s, eqa_s, consp_s, STerm, call_s, conditional_s, result_s, SParam, SDef, SProg, SJob, exp, exps, place_of, term, params, defs, functions, prog_of, prog, class}
use Rattle.language.specs.Grammar.{program, job_text}
use Rattle.language.specs.ProgramCheck.{params_twice, condition_twice, term_twice, defs_twice, new_e, new_a, term_rebound, defs_rebound, reach_e, reach_ea, reach_args, call_verdict, term_verdict, defs_verdict, program_verdict}
use Rattle.language.specs.JobCheck.{Tool, runner, ground_verdict, variables, kinds_verdict, inputs_verdict, sides_verdict, at_most, bounds_verdict, job_verdict}
use Rattle.language.specs.Reading.{read_text, read_program, read_job, accepted, rejected, with_job, with_program, reading}
use Rattle.language.proofs.Tests.{or_left, or_right, both, is_false}

-- a check that finds no fault
pub no_fault : (a b : Verdict) → (a or_else b) ≡ none → (a ≡ none) × (b ≡ none)
no_fault none b e = (refl, e)
no_fault (some r) b e = absurd (some-ne-none r e)

pub passes : (t : Bool) (n o : ℕ) → unless t n o ≡ none → t ≡ true
passes true n o e = refl
passes false n o e = absurd (some-ne-none _ e)

-- 6
same_param_lem : (x y : Param) → same_param x y ≡ true → x ≡ y
same_param_lem (pe x) (pe y) e = ap pe (eqb-true x y e)
same_param_lem (pe x) (pa y) e = absurd (false≢true e)
same_param_lem (pa x) (pe y) e = absurd (false≢true e)
same_param_lem (pa x) (pa y) e = ap pa (eqb-true x y e)

param_same : (x : Param) → same_param x x ≡ true
param_same (pe x) = eqb_same x
param_same (pa x) = eqb_same x

-- an earlier parameter is none of the later ones
not_again : (y : Param) (before : List Param) (xs : List SParam) → has_param y before ≡ true → params_twice before xs ≡ none → has_param y (params xs) ≡ false
not_again y before [] h e = refl
not_again y before (x ∷ xs) h e = ap₂ ◌||◌ other (not_again y (x.param ∷ before) xs (or_right (same_param x.param y) _ h) w.1)
  where
    w : (unless (not (has_param x.param before)) 6 x.at ≡ none) × (params_twice (x.param ∷ before) xs ≡ none)
    w = no_fault _ (params_twice (x.param ∷ before) xs) e

    other : same_param x.param y ≡ false
    other = is_false _ λ q. true≢false (inv h ∙ ap (λ (z : Param). has_param z before) (inv (same_param_lem x.param y q)) ∙ not-true _ (passes _ 6 x.at w.0))

params_distinct : (before : List Param) (xs : List SParam) → params_twice before xs ≡ none → distinct_params (params xs) ≡ true
params_distinct before [] e = refl
params_distinct before (x ∷ xs) e =
    let w = no_fault (unless (not (has_param x.param before)) 6 x.at) (params_twice (x.param ∷ before) xs) e in
    both (ap not (not_again x.param (x.param ∷ before) xs (or_left _ _ (param_same x.param)) w.1)) (params_distinct (x.param ∷ before) xs w.1)

-- 8 and 9
reach_in : (sc : Scope) (c : SExp) → reach_e sc c ≡ none → in_scope sc (exp c) ≡ true
reach_in sc (sym_s z) e = refl
reach_in sc (evar_s x) e = passes (is_in x.num sc.evars) 9 x.at e
reach_in sc (avar_s x) e = passes (is_in x.num sc.avars) 9 x.at e
reach_in sc (pair_s o c d) e = let w = no_fault (reach_e sc c) (reach_e sc d) e in both (reach_in sc c w.0) (reach_in sc d w.1)

atomic_in : (sc : Scope) (c : SExp) → reach_ea sc c ≡ none → atomic_in_scope sc (exp c) ≡ true
atomic_in sc c e = let w = no_fault _ (reach_e sc c) e in both (passes (is_atomic (exp c)) 8 _ w.0) (reach_in sc c w.1)

args_fit : (sc : Scope) (ps : List Param) (cs : List SExp) → length ps ≡ length cs → reach_args sc ps cs ≡ none →
    (fits ps (exps cs) ≡ true) × (all_in_scope sc (exps cs) ≡ true)
args_fit sc [] [] l e = (refl, refl)
args_fit sc (p ∷ ps) [] l e = let z : ⊥ = omega arith in absurd z
args_fit sc [] (c ∷ cs) l e = let z : ⊥ = omega arith in absurd z
args_fit sc (pe x ∷ ps) (c ∷ cs) l e =
    let w = no_fault (reach_e sc c) (reach_args sc ps cs) e in
    let r = args_fit sc ps cs (omega arith) w.1 in
    (r.0, both (reach_in sc c w.0) r.1)
args_fit sc (pa x ∷ ps) (c ∷ cs) l e =
    let w = no_fault (reach_ea sc c) (reach_args sc ps cs) e in
    let r = args_fit sc ps cs (omega arith) w.1 in
    let a = and_both (is_atomic (exp c)) (in_scope sc (exp c)) (atomic_in sc c w.0) in
    (both a.0 r.0, both a.1 r.1)

-- 6 to 9 of a term, of the definitions, of the program
module _ (p : Prog) (fs : List ℕ) where
  term_passed : (sc : Scope) (t : STerm) → term_twice t ≡ none → term_verdict p fs sc t ≡ none → well_formed_term p sc (term fs t) ≡ true
  term_passed sc (result_s c) d e = reach_in sc c e
  term_passed sc (call_s f cs) d e =
      let g = place_of f.num fs in
      let w = no_fault (call_verdict p fs g f cs) (reach_args sc (find p g).params cs) e in
      let u = and_both (ltb g (length p)) (eqb (length (find p g).params) (length cs)) (passes _ 7 f.at w.0) in
      let r = args_fit sc (find p g).params cs (eqb-true _ _ u.1) w.1 in
      both (both u.0 r.0) r.1
  term_passed sc (conditional_s (eqa_s a b) s t) d e =
      let w = no_fault (reach_ea sc a) (reach_ea sc b or_else term_verdict p fs sc s or_else term_verdict p fs sc t) e in
      let u = no_fault (reach_ea sc b) (term_verdict p fs sc s or_else term_verdict p fs sc t) w.1 in
      let v = no_fault (term_verdict p fs sc s) (term_verdict p fs sc t) u.1 in
      let y = no_fault (term_twice s) (term_twice t) d in
      both (both (both (atomic_in sc a w.0) (atomic_in sc b u.0)) (term_passed sc s y.0 v.0)) (term_passed sc t y.1 v.1)
  term_passed sc (conditional_s (consp_s c h t x) s u) d e =
      let yes' = term_verdict p fs (pair_scope h.num t.num sc) s in
      let no' = term_verdict p fs (with_a x.num sc) u in
      let w = no_fault (reach_e sc c) (yes' or_else no') e in
      let v = no_fault yes' no' w.1 in
      let z = no_fault (condition_twice (consp_s c h t x)) (term_twice s or_else term_twice u) d in
      let y = no_fault (term_twice s) (term_twice u) z.1 in
      both (both (both (reach_in sc c w.0) (passes _ 6 t.at z.0)) (term_passed _ s y.0 v.0)) (term_passed _ u y.1 v.1)

  defs_passed : (before : List ℕ) (ds : List SDef) → defs_twice before ds ≡ none → defs_verdict p fs ds ≡ none → well_formed_defs p (prog_of fs ds) ≡ true
  defs_passed before [] d e = refl
  defs_passed before (q ∷ ds) d e =
      let w = no_fault (term_verdict p fs (scope_of (params q.params)) q.body) (defs_verdict p fs ds) e in
      let u = no_fault (unless (not (is_in q.name.num before)) 6 q.name.at) (params_twice [] q.params or_else term_twice q.body or_else defs_twice (q.name.num ∷ before) ds) d in
      let v = no_fault (params_twice [] q.params) (term_twice q.body or_else defs_twice (q.name.num ∷ before) ds) u.1 in
      let y = no_fault (term_twice q.body) (defs_twice (q.name.num ∷ before) ds) v.1 in
      both (both (params_distinct [] q.params v.0) (term_passed _ q.body y.0 w.0)) (defs_passed (q.name.num ∷ before) ds y.1 w.1)

-- 13
term_new : (fs : List ℕ) (sc : Scope) (t : STerm) → term_rebound sc t ≡ none → binds_new sc (term fs t) ≡ true
term_new fs sc (result_s c) e = refl
term_new fs sc (call_s f cs) e = refl
term_new fs sc (conditional_s (eqa_s a b) s t) e = let w = no_fault (term_rebound sc s) (term_rebound sc t) e in both (term_new fs sc s w.0) (term_new fs sc t w.1)
term_new fs sc (conditional_s (consp_s c h t x) s u) e =
    let y = term_rebound (pair_scope h.num t.num sc) s in
    let z = term_rebound (with_a x.num sc) u in
    let w = no_fault (new_e sc h) (new_e sc t or_else new_a sc x or_else y or_else z) e in
    let v = no_fault (new_e sc t) (new_a sc x or_else y or_else z) w.1 in
    let r = no_fault (new_a sc x) (y or_else z) v.1 in
    let q = no_fault y z r.1 in
    both (both (both (both (passes (not (is_in h.num sc.evars)) 13 h.at w.0) (passes (not (is_in t.num sc.evars)) 13 t.at v.0)) (passes (not (is_in x.num sc.avars)) 13 x.at r.0))
    (term_new fs (pair_scope h.num t.num sc) s q.0)) (term_new fs (with_a x.num sc) u q.1)

defs_new : (fs : List ℕ) (ds : List SDef) → defs_rebound ds ≡ none → binds_new_all (prog_of fs ds) ≡ true
defs_new fs [] e = refl
defs_new fs (d ∷ ds) e = let w = no_fault (term_rebound (scope_of (params d.params)) d.body) (defs_rebound ds) e in both (term_new fs (scope_of (params d.params)) d.body w.0) (defs_new fs ds w.1)

program_passed : (s : SProg) → program_verdict s ≡ none → admitted (prog s) ≡ true
unfolding program_verdict
program_passed s e =
    let w = no_fault (defs_twice [] (defs s)) (defs_rebound (defs s) or_else defs_verdict (prog s) (functions (defs s)) (defs s)) e in
    let v = no_fault (defs_rebound (defs s)) (defs_verdict (prog s) (functions (defs s)) (defs s)) w.1 in
    both (both (lt-ltb 0 (length (prog s)) (omega arith)) (defs_passed (prog s) (functions (defs s)) [] (defs s) w.0 v.1)) (defs_new (functions (defs s)) (defs s) v.0)

-- 10: as many as the parameters, of their kinds
kinds_fit : (tool : Tool) (xs : List Param) (cs : List SExp) → length xs ≡ length cs → kinds_verdict tool xs cs ≡ none → fits xs (exps cs) ≡ true
kinds_fit tool [] [] l e = refl
kinds_fit tool [] (c ∷ cs) l e = let z : ⊥ = omega arith in absurd z
kinds_fit tool (x ∷ xs) [] l e = let z : ⊥ = omega arith in absurd z
kinds_fit tool (pe x ∷ xs) (c ∷ cs) l e = kinds_fit tool xs cs (omega arith) (no_fault (variables tool c) _ e).1
kinds_fit tool (pa x ∷ xs) (c ∷ cs) l e =
    let w = no_fault (unless (is_atomic (exp c)) 10 _) (variables tool c or_else kinds_verdict tool xs cs) e in
    both (passes (is_atomic (exp c)) 10 _ w.0) (kinds_fit tool xs cs (omega arith) (no_fault (variables tool c) _ w.1).1)

-- 10, in the runner: no variable, so that all ground_exp substitutions agree
ground_same : (c : SExp) → ground_verdict c ≡ none → (θ φ : GroundSubst) → ground_exp θ (exp c) ≡ ground_exp φ (exp c)
ground_same (sym_s z) e θ φ = refl
ground_same (evar_s x) e θ φ = absurd (some-ne-none _ e)
ground_same (avar_s x) e θ φ = absurd (some-ne-none _ e)
ground_same (pair_s o c d) e θ φ = let w = no_fault (ground_verdict c) (ground_verdict d) e in ap₂ cons (ground_same c w.0 θ φ) (ground_same d w.1 θ φ)

inputs_ground : (xs : List Param) (cs : List SExp) → length xs ≡ length cs → kinds_verdict runner xs cs ≡ none → (θ φ : GroundSubst) → ground_all θ (exps cs) ≡ ground_all φ (exps cs)
inputs_ground [] [] l e θ φ = refl
inputs_ground [] (c ∷ cs) l e θ φ = let z : ⊥ = omega arith in absurd z
inputs_ground (x ∷ xs) [] l e θ φ = let z : ⊥ = omega arith in absurd z
inputs_ground (pe x ∷ xs) (c ∷ cs) l e θ φ = let w = no_fault (ground_verdict c) (kinds_verdict runner xs cs) e in
    ap₂ ◌∷◌ (ground_same c w.0 θ φ) (inputs_ground xs cs (omega arith) w.1 θ φ)
inputs_ground (pa x ∷ xs) (c ∷ cs) l e θ φ =
    let w = no_fault (ground_verdict c) (kinds_verdict runner xs cs) (no_fault (unless (is_atomic (exp c)) 10 _) _ e).1 in
    ap₂ ◌∷◌ (ground_same c w.0 θ φ) (inputs_ground xs cs (omega arith) w.1 θ φ)

-- what holds of a program and a job that passed their checks
pub record Passed (tool : Tool) (s : SProg) (t : SJob) : Type 0 where
  pub admitted : admitted (prog s) ≡ true
  pub fits : fits (find (prog s) 0).params (class t).con.ins ≡ true
  pub ground_inputs : tool ≡ runner → (θ φ : GroundSubst) → ground_all θ (class t).con.ins ≡ ground_all φ (class t).con.ins
  pub steps : t.steps.num ≤ 1000
  pub walk : t.walk.num ≤ 1000000
  pub table : t.table.num ≤ 256

checks_passed : (tool : Tool) (s : SProg) (t : SJob) → program_verdict s ≡ none → job_verdict tool (params s.main.params) t ≡ none → Passed tool s t
unfolding job_verdict
checks_passed tool s t d e =
    let xs = params s.main.params in
    let w = no_fault (inputs_verdict tool xs t) _ e in
    let u = no_fault (unless (eqb (length xs) (length t.ins)) 10 t.in_at) (kinds_verdict tool xs t.ins) w.0 in
    let l : length xs ≡ length t.ins = eqb-true _ _ (passes _ 10 _ u.0) in
    let v = no_fault (sides_verdict (exp t.out ∷ exps t.ins) t.neqs) (bounds_verdict t) w.1 in
    let x = no_fault (at_most 1000 t.steps) (at_most 1000000 t.walk or_else at_most 256 t.table) v.1 in
    let y = no_fault (at_most 1000000 t.walk) (at_most 256 t.table) x.1 in
    record {
      admitted = program_passed s d;
      fits = kinds_fit tool xs t.ins l u.1;
      ground_inputs = λ q. inputs_ground xs t.ins l (subst (λ (r : Tool). kinds_verdict r xs t.ins ≡ none) q u.1);
      steps = leb-true _ _ (passes _ 12 _ x.0);
      walk = leb-true _ _ (passes _ 12 _ y.0);
      table = leb-true _ _ (passes _ 12 _ y.1);
    }

-- what a text was accepted with has passed its check
refused_ok : {A B : Type 0} (r : Refusal) (a : A) → refused r ≡ ok a → B
refused_ok r a e = let z : ◌≡◌ {A = ℕ} 0 1 = cc in let n : ⊥ = omega arith in absurd n

pub then_ok : {A B : Type 0} (r : Res A) (f : A → Res B) (b : B) → and_then r f ≡ ok b → (a : A) × (r ≡ ok a) × (f a ≡ ok b)
then_ok (ok a) f b e = (a, refl, e)
then_ok (refused r) f b e = refused_ok r b e

pub let_pass : {A : Type 0} (v : Verdict) (a b : A) → unless_fault v a ≡ ok b → (v ≡ none) × (a ≡ b)
let_pass none a b e = (refl, cc)
let_pass (some r) a b e = refused_ok r b e

pub text_passed : {A : Type 0} (text : Text) (limit : ℕ) (m : Reader A) (check : A → Verdict) (before : List Word) (bs : List ℕ) (a : A) →
    read_text text limit m check before bs ≡ ok a → check a ≡ none
text_passed {A} text limit m check before bs a e =
    let x = then_ok (unless_fault (bytes_verdict limit bs) bs) _ a e in
    let y = then_ok (m (tokens text before x.0)) _ a x.2 in
    let z = let_pass (check y.0.0) y.0.0 a y.2 in
    subst (λ (b : A). check b ≡ none) z.1 z.0

-- the two halves of an acceptance
rejected_accepted : {B : Type 0} (t : Text) (r : Refusal) (s : SProg) (j : SJob) → rejected t r ≡ accepted s j → B
rejected_accepted t r s j e = let z : ◌≡◌ {A = ℕ} 0 1 = cc in let n : ⊥ = omega arith in absurd n

job_read : (s s' : SProg) (x : Res SJob) (j : SJob) → with_job s x ≡ accepted s' j → (s ≡ s') × (x ≡ ok j)
job_read s s' (ok i) j e = ((cc), ap ok (cc))
job_read s s' (refused r) j e = rejected_accepted of_job r s' j e

pub both_read : (f : SProg → Res SJob) (x : Res SProg) (s : SProg) (j : SJob) → with_program f x ≡ accepted s j → (x ≡ ok s) × (f s ≡ ok j)
both_read f (ok s') s j e = let w = job_read s' s (f s') j e in (ap ok w.0, ap f (inv w.0) ∙ w.1)
both_read f (refused r) s j e = rejected_accepted of_program r s j e

-- accepted texts have passed both checks
pub accepted_passed : (tool : Tool) (p j : List ℕ) (s : SProg) (t : SJob) → reading tool p j ≡ accepted s t → Passed tool s t
unfolding reading read_program read_job
accepted_passed tool p j s t e =
    let w = both_read (λ s. read_job tool s (symbols_of [] p) j) (read_program p) s t e in
    checks_passed tool s t
    (text_passed of_program 32768 program program_verdict [] p s w.0)
    (text_passed of_job 8192 job_text (job_verdict tool (params s.main.params)) (symbols_of [] p) j t w.1)
