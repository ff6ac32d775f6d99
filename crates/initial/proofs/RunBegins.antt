-- The beginning of a run is that of the runner's definition: a run has values only, and a value is an expression without variables.
use Prim.Native.Nat.{ℕ, ◌<◌}
use mathlib.Core.Path.{◌≡◌, refl, ap₂, subst, sym as inv}
use mathlib.Core.Bool.{true}
use mathlib.Core.List.{List, [], map}
use mathlib.Core.Logic.{◌⊎◌, inl, inr}
use native.Mathlib.Omega.{arith}
use lib.ListN.{length}
use Rattle.expressions.specs.Expression.{Value, sym, Exp, atm, nodes_all}
use Rattle.expressions.specs.Split.{first_fresh}
use Rattle.sets.specs.Cells.{cells_all}
use Rattle.sets.proofs.CellLaws.{cells_all_nodes}
use Rattle.language.specs.Tokens.{symbols_of}
use Rattle.language.specs.Program.{Prog, find}
use Rattle.language.specs.WellFormed.{fits, admitted}
use Rattle.language.specs.Source.{SProg, SJob, prog, class}
use Rattle.language.specs.JobCheck.{runner}
use Rattle.language.specs.Reading.{accepted, reading}
use Rattle.language.proofs.Numbers.{accepted_numbers}
use Rattle.language.proofs.Acceptance.{accepted_passed}
use Rattle.checker.specs.Twins.StoredAt.{key_at}
use Rattle.lexer.specs.Twins.Lexed.{State}
use Rattle.syntax.specs.Twins.PartEnds.{part_ends}
use Rattle.syntax.specs.declared.job_ends.JobEnds.{JobEnds}
use Rattle.syntax.proofs.JobRead.{JobStored}
use Rattle.semantics.specs.Embedding.{embed}
use Rattle.semantics.proofs.EmbeddedStates.{embed_env, at_state}
use Rattle.semantics.specs.Evaluate.{go, start_env}
use Rattle.semantics.specs.Runner.{nodes_next}
use Rattle.semantics.specs.Answer.{inputs}
use Rattle.semantics.specs.Configuration.{ExpEnv, nodes_state, Configuration, start}
use Rattle.semantics.proofs.Scopes.{WellScoped}
use Rattle.linking.specs.Twins.Linked.{ProgramLinked}
use Rattle.linking.specs.Twins.Places.{env_of}
use Rattle.initial.specs.Twins.Beginning.{BegunLeft, begun_at}
use Rattle.std.specs.Prelude.{Err}
use Rattle.restrictions.specs.declared.failure.Failure.TheVariants.{Over}
use Rattle.initial.proofs.DataLaws.{datum_cells, Run}
use Rattle.initial.proofs.EmbedLaws.{noughts, ones, all_embed, bound_embed, all_largest, run_pair, run_nodes}
use Rattle.initial.proofs.JobLaws.{run_class, run_job_laid}
use Rattle.initial.proofs.BeginLaws.{main_scoped, Begins, BeginsAs, begin_means}
use Rattle.initial.proofs.BeginTexts.{accepted_sides, job_here, job_short}

-- main's body; of a run the first fresh number is 1, and no run takes one
abbrev pub main_of : Prog → ExpEnv → List Exp → ℕ → Configuration
main_of p σ ds k = record { cr = record { con = record { io = record { ins = ds; out = atm (sym 0) }; env = σ }; neqs = [] }; term = (find p 0).body; fresh = k }

abbrev pub run_main : Prog → List Value → Configuration
run_main p vs = at_state (run_pair vs) 1 (find p 0).body (start_env p vs)

run_main_lem : (p : Prog) (vs : List Value) → main_of p (env_of (find p 0).params (map embed vs)) (map embed vs) (first_fresh (run_class (map embed vs))) ≡ run_main p vs
run_main_lem p vs =
    let k : first_fresh (run_class (map embed vs)) ≡ 1 = omega (arith, all_largest vs) in
    ap₂ (λ (σ : ExpEnv) (n : ℕ). main_of p σ (map embed vs) n) (bound_embed (find p 0).params vs) k

-- its names are in scope
pub run_scoped : (p : Prog) (vs : List Value) → admitted p ≡ true → fits (find p 0).params (map embed vs) ≡ true → WellScoped p (find p 0).body (embed_env (start_env p vs))
run_scoped p vs formed fit = subst (λ (σ : ExpEnv). WellScoped p (find p 0).body σ) (bound_embed (find p 0).params vs) (main_scoped p (map embed vs) formed fit)

module _ (p : Prog) (bodies : ℕ → ℕ) (code : List ℕ) where
  -- what a run begins as: main's body, or what does not fit
  abbrev Out : Configuration → BegunLeft → Type 0
  Out K w = ((w.answer ≡ Err Over) × (4097 < nodes_state K.cr)) ⊎ Begins p bodies code K w

  abbrev pub RunsAs : List Value → BegunLeft → Type 0
  RunsAs vs w = ((w.answer ≡ Err Over) × (4096 < nodes_next vs (go (find p 0).body (start_env p vs)))) ⊎ Begins p bodies code (run_main p vs) w

  module _ (linked : ProgramLinked p bodies code) (formed : admitted p ≡ true) (ds : List Exp) (fit : fits (find p 0).params ds ≡ true)
      (jmarks jnums : List ℕ) (e : JobEnds) (here : Run (datum_cells jmarks jnums) 4 e.ins (cells_all ds)) (room : nodes_all ds < 4096)
      (h f q : List ℕ) (h-size : length h ≡ 65535) (f-size : length f ≡ 12360) (q_size : length q ≡ 4096) where
    -- THE LAW of `begin` in a run
    pub run_class_begins : BeginsAs p bodies code (start p (run_class ds)) (begun_at (bodies 0) jmarks jnums e true h f q)
    run_class_begins =
        let a = cells_all_nodes ds in
        begin_means p bodies code linked formed (run_class ds) fit h f q h-size f-size q_size (omega arith) (omega arith) jmarks jnums e true (run_job_laid jmarks jnums e ds h here (omega arith))

    pub run_begins : (vs : List Value) → map embed vs ≡ ds → RunsAs vs (begun_at (bodies 0) jmarks jnums e true h f q)
    run_begins vs is = pick y
      where
        w : BegunLeft
        w = begun_at (bodies 0) jmarks jnums e true h f q

        x : Out (main_of p (env_of (find p 0).params ds) ds (first_fresh (run_class ds))) w
        x = run_class_begins

        y : Out (run_main p vs) w
        y = subst (λ (K : Configuration). Out K w) (run_main_lem p vs) (subst (λ (cs : List Exp). Out (main_of p (env_of (find p 0).params cs) cs (first_fresh (run_class cs))) w) (inv is) x)

        pick : Out (run_main p vs) w → RunsAs vs w
        pick (inl o) = inl (o.0, omega (arith, o.1, run_nodes vs 1 (find p 0).body (start_env p vs)))
        pick (inr b) = inr b

-- What `begin` answers in a run over the cells of texts that the runner accepted.
module _ (first text : List ℕ) (p : SProg) (j : SJob) (e : reading runner first text ≡ accepted p j) (u : State) (job : JobStored first text (symbols_of [] first) u j)
    (bodies : ℕ → ℕ) (code : List ℕ) (linked : ProgramLinked (prog p) bodies code)
    (h f q : List ℕ) (h-size : length h ≡ 65535) (f-size : length f ≡ 12360) (q_size : length q ≡ 4096) where
  pub accepted_runs : RunsAs (prog p) bodies code (inputs j) (begun_at (bodies 0) u.marks u.nums (part_ends (key_at u.marks u.i) u.i) true h f q)
  accepted_runs =
      let numbers = (accepted_numbers runner first text p j e).job in
      let atomic = accepted_sides runner first text p j e in
      let passed = accepted_passed runner first text p j e in
      let short = job_short first text (symbols_of [] first) u j job numbers atomic in
      let most = job.most in
      run_begins (prog p) bodies code linked passed.admitted (class j).con.ins passed.fits u.marks u.nums _ (job_here first text (symbols_of [] first) u j job numbers atomic).inputs
      (omega (arith, short.0)) h f q h-size f-size q_size (inputs j) (all_embed (class j).con.ins (passed.ground_inputs refl noughts ones))
