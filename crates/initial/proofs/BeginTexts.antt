-- The beginning of an accepted job, over the cells of the two texts.
use Prim.Native.Nat.{ℕ, zero, suc, ◌+◌, ◌*◌, ◌≤◌, ◌<◌}
use mathlib.Core.Path.{◌≡◌, refl, ap, subst, ◌∙◌, sym as inv}
use mathlib.Core.Bool.{true, false}
use mathlib.Core.List.{List, [], ◌∷◌}
use mathlib.Core.Option.{none, some}
use native.Mathlib.Omega.{arith}
use lib.ListN.{length}
use Rattle.expressions.specs.Expression.{sym, avar, Exp, atm, evar, pair, nodes, nodes_all}
use Rattle.expressions.specs.Class.{IOClass}
use Rattle.expressions.proofs.Numbers.{ClassNumbers}
use Rattle.sets.proofs.CellLaws.{cells_nodes, cells_all_nodes, restriction_cells_nodes}
use Rattle.language.specs.Bytes.{Verdict, unless, ◌or_else◌}
use Rattle.language.specs.Words.{Word}
use Rattle.language.specs.Tokens.{of_job, Token, symbols_of}
use Rattle.language.specs.Reader.{Res, ok, refused}
use Rattle.language.specs.Program.{Param, Prog, find}
use Rattle.language.specs.Scope.{is_atomic}
use Rattle.language.specs.WellFormed.{fits, admitted}
use Rattle.language.specs.Source.{SExp, SParam, SDef, SProg, SJob, at_of, exp, exps, params, defs, functions, prog_of, prog, class}
use Rattle.language.specs.Grammar.{job_text}
use Rattle.language.specs.JobCheck.{Tool, inputs_verdict, side_fits, sides_verdict, bounds_verdict, job_verdict}
use Rattle.language.specs.Reading.{read_program, read_job, accepted, with_job, with_program, reading}
use Rattle.language.proofs.TokenNumbers.{SymbolNumber, VariableNumber}
use Rattle.language.proofs.Numbers.{accepted_numbers}
use Rattle.language.proofs.Acceptance.{accepted_passed}
use Rattle.grammar.specs.Twins.Stored as stored
use Rattle.checker.specs.Twins.StoredAt.{key_at}
use Rattle.lexer.specs.Twins.Lexed.{State}
use Rattle.syntax.specs.Twins.Standing.{define_at, DefsFrom, none_from, more_from}
use Rattle.syntax.specs.Twins.PartEnds.{part_ends}
use Rattle.syntax.specs.declared.job_ends.JobEnds.{JobEnds}
use Rattle.syntax.proofs.StoredCheck.{stored_order}
use Rattle.syntax.proofs.ReadAnswers.{text_accepted}
use Rattle.syntax.proofs.ProgramRead.{ProgramStored}
use Rattle.syntax.proofs.JobRead.{JobStored}
use Rattle.syntax.proofs.PartLaws.{parts_at}
use Rattle.syntax.proofs.JobParts.{job_parts, job_ends_lem}
use Rattle.semantics.specs.Configuration.{start}
use Rattle.linking.specs.Twins.Linked.{ProgramLinked}
use Rattle.linking.proofs.ProgramLaws.{bodies_of}
use Rattle.initial.specs.Twins.Beginning.{main_body, begun_at}
use Rattle.initial.proofs.DataLaws.{datum_cells, run_short, given_short, tokens_held, AtomicSides, exp_run, exps_run, sides_run}
use Rattle.initial.proofs.JobLaws.{JobHere, job_laid_lem}
use Rattle.initial.proofs.BeginLaws.{BeginsAs, begin_means}

-- a place that `main_body_lem` answers is where linking has main's body
pub main_body_lem : (marks heads : List ℕ) → main_body marks heads ≡ bodies_of marks heads 0
main_body_lem marks heads = refl

-- a job that passed 11 has atomic sides
no_fault : (u v : Verdict) → (u or_else v) ≡ none → (u ≡ none) × (v ≡ none)
no_fault none v e = (refl, e)
no_fault (some r) v e = let z : ◌≡◌ {A = ℕ} 0 1 = cc in absurd (omega arith)

side_atomic : (cs : List Exp) (c : Exp) (n o : ℕ) → unless (side_fits cs c) n o ≡ none → is_atomic c ≡ true
side_atomic cs (atm (sym z)) n o e = refl
side_atomic cs (atm (avar m)) n o e = refl
side_atomic cs (evar m) n o e = let z : ◌≡◌ {A = ℕ} 0 1 = cc in absurd (omega arith)
side_atomic cs (pair c d) n o e = let z : ◌≡◌ {A = ℕ} 0 1 = cc in absurd (omega arith)

sides_atomic : (cs : List Exp) (qs : List (SExp × SExp)) → sides_verdict cs qs ≡ none → AtomicSides qs
sides_atomic cs [] e = tt
sides_atomic cs (q ∷ qs) e =
    let u = no_fault (unless (side_fits cs (exp q.0)) 11 (at_of q.0)) _ e in
    let v = no_fault (unless (side_fits cs (exp q.1)) 11 (at_of q.1)) (sides_verdict cs qs) u.1 in
    (side_atomic cs (exp q.0) 11 (at_of q.0) u.0, side_atomic cs (exp q.1) 11 (at_of q.1) v.0, sides_atomic cs qs v.1)

pub job_sides : (tool : Tool) (xs : List Param) (j : SJob) → job_verdict tool xs j ≡ none → AtomicSides j.neqs
unfolding job_verdict
job_sides tool xs j e =
    let w = no_fault (inputs_verdict tool xs j) _ e in
    sides_atomic (exp j.out ∷ exps j.ins) j.neqs (no_fault (sides_verdict (exp j.out ∷ exps j.ins) j.neqs) (bounds_verdict j) w.1).0

-- an accepted job was read behind its program
module _ (f : SProg → Res SJob) (p : SProg) (j : SJob) where
  read_job_lem : (s : SProg) (y : Res SJob) → f s ≡ y → with_job s y ≡ accepted p j → f p ≡ ok j
  read_job_lem s (ok i) e h =
      let a : s ≡ p = cc in
      let b : i ≡ j = cc in
      ap f (inv a) ∙ e ∙ ap ok b
  read_job_lem s (refused r) e h = let z : ◌≡◌ {A = ℕ} 0 1 = cc in absurd (omega arith)

  read_both_lem : (x : Res SProg) → with_program f x ≡ accepted p j → f p ≡ ok j
  read_both_lem (ok s) h = read_job_lem s (f s) refl h
  read_both_lem (refused r) h = let z : ◌≡◌ {A = ℕ} 0 1 = cc in absurd (omega arith)

pub accepted_sides : (tool : Tool) (first text : List ℕ) (p : SProg) (j : SJob) → reading tool first text ≡ accepted p j → AtomicSides j.neqs
unfolding reading read_job
accepted_sides tool first text p j e =
    job_sides tool (params p.main.params) j
    (text_accepted of_job 8192 job_text (job_verdict tool (params p.main.params)) (symbols_of [] first) text j (read_both_lem (λ s. read_job tool s (symbols_of [] first) text) p j (read_program first) e)).checked

-- the job in its cells
module _ (first text : List ℕ) (zs : List Word) (u : State) (j : SJob) (h : JobStored first text zs u j)
    (numbers : ClassNumbers SymbolNumber VariableNumber (class j)) (atomic : AtomicSides j.neqs) where
  abbrev jtok : ℕ → Token
  jtok i = stored.token_at u.marks u.nums u.ats u.i i

  room : u.i ≤ length u.marks
  room = let a = h.most in let b = h.long in omega arith

  abbrev jends : JobEnds
  jends = part_ends (key_at u.marks u.i) u.i

  pub job_here : JobHere u.marks u.nums jends (class j)
  job_here =
      let parts = job_parts first text zs u j h in
      let held = tokens_held u.marks u.nums u.ats u.i room in
      rw (job_ends_lem first text zs u j h) (record {
        inputs = exps_run jtok u.i u.marks u.nums held h.fixed parts.ins numbers.0;
        output = exp_run jtok u.i u.marks u.nums held h.fixed parts.out numbers.1;
        sides = sides_run jtok u.i u.marks u.nums held h.fixed parts.neqs atomic numbers.2;
      })

  -- it has fewer nodes than tokens
  pub job_short : (nodes_all (class j).con.ins + nodes (class j).con.out + 20 ≤ u.i) × (2 * length (class j).neqs + 20 ≤ u.i)
  job_short =
      let parts = job_parts first text zs u j h in
      let e : jends ≡ parts_at parts.a parts.b parts.c = job_ends_lem first text zs u j h in
      let here : JobHere u.marks u.nums (parts_at parts.a parts.b parts.c) (class j) = subst (λ (k : JobEnds). JobHere u.marks u.nums k (class j)) e job_here in
      let f = datum_cells u.marks u.nums in
      let x = run_short f (given_short u.marks u.nums) here.inputs in
      let y = run_short f (given_short u.marks u.nums) here.output in
      let z = run_short f (given_short u.marks u.nums) here.sides in
      let xe = here.inputs.end in
      let ye = here.output.end in
      let ze = here.sides.end in
      let l = parts.last in
      let a = cells_all_nodes (class j).con.ins in
      let b = cells_nodes (class j).con.out in
      let c = restriction_cells_nodes (class j).neqs in
      (omega arith, omega arith)

-- each definition has at most 16 parameters
module _ (text : List ℕ) (s : State) (p : SProg) (h : ProgramStored text s p) where
  params_length : (xs : List SParam) → length (params xs) ≡ length xs
  params_length [] = refl
  params_length (x ∷ xs) = ap suc (params_length xs)

  defs_few : {tok : ℕ → Token} {n : ℕ} {heads : List ℕ} {j a b : ℕ} {ds : List SDef} (fs : List ℕ) (f : ℕ) → DefsFrom tok n heads j a ds b → f < length (prog_of fs ds) → length (find (prog_of fs ds) f).params ≤ 16
  defs_few fs f (none_from q) l = absurd (omega arith)
  defs_few fs zero (more_from q (define_at {xs = xs} o w g r x few t e) k more) l = omega (arith, params_length xs)
  defs_few fs (suc f) (more_from q d k more) l = defs_few fs f more (omega arith)

  pub params_few : (f : ℕ) → f < length (prog p) → length (find (prog p) f).params ≤ 16
  params_few f l = defs_few (functions (defs p)) f (stored_order s.marks s.nums s.ats s.i p h.holds) l

-- over a job whose parts stand in its tokens
module _ (p : Prog) (bodies : ℕ → ℕ) (code : List ℕ) (linked : ProgramLinked p bodies code) (formed : admitted p ≡ true) (P : IOClass) (fit : fits (find p 0).params P.con.ins ≡ true)
    (jmarks jnums : List ℕ) (e : JobEnds) (job : JobHere jmarks jnums e P) (room : nodes_all P.con.ins + nodes P.con.out ≤ 4096) (few : 2 * length P.neqs ≤ 4096)
    (h f q : List ℕ) (h-size : length h ≡ 65535) (f-size : length f ≡ 12360) (q_size : length q ≡ 4096) where
  pub job_begins : BeginsAs p bodies code (start p P) (begun_at (bodies 0) jmarks jnums e false h f q)
  job_begins =
      let a = cells_all_nodes P.con.ins in
      let b = cells_nodes P.con.out in
      let c = restriction_cells_nodes P.neqs in
      begin_means p bodies code linked formed P fit h f q h-size f-size q_size (omega arith) (omega arith) jmarks jnums e false (job_laid_lem jmarks jnums e P h job (omega arith))

-- What `begin` answers over the cells of texts that were accepted: the configuration behind the start of the definition.
module _ (tool : Tool) (first text : List ℕ) (p : SProg) (j : SJob) (e : reading tool first text ≡ accepted p j) (u : State) (job : JobStored first text (symbols_of [] first) u j)
    (bodies : ℕ → ℕ) (code : List ℕ) (linked : ProgramLinked (prog p) bodies code)
    (h f q : List ℕ) (h-size : length h ≡ 65535) (f-size : length f ≡ 12360) (q_size : length q ≡ 4096) where
  pub accepted_begins : BeginsAs (prog p) bodies code (start (prog p) (class j)) (begun_at (bodies 0) u.marks u.nums (part_ends (key_at u.marks u.i) u.i) false h f q)
  accepted_begins =
      let numbers = (accepted_numbers tool first text p j e).job in
      let atomic = accepted_sides tool first text p j e in
      let passed = accepted_passed tool first text p j e in
      let short = job_short first text (symbols_of [] first) u j job numbers atomic in
      let most = job.most in
      job_begins (prog p) bodies code linked passed.admitted (class j) passed.fits u.marks u.nums _ (job_here first text (symbols_of [] first) u j job numbers atomic)
      (omega (arith, short.0)) (omega (arith, short.1)) h f q h-size f-size q_size
