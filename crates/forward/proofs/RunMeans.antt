-- What `run_on` answers and leaves is the runner's definition.
use Prim.Native.Nat.{ℕ, zero, suc, ◌+◌, ◌-◌, ◌≤◌, ◌<◌}
use mathlib.Core.Path.{◌≡◌, refl, ap, subst, ◌∙◌, sym as inv}
use mathlib.Core.Bool.{true, false, cond}
use mathlib.Core.List.{List, ◌++◌, map}
use native.Mathlib.Omega.{arith}
use native.Mathlib.Decide.{dec_le}
use lib.ListN.{length, drop}
use borrow.Author.Tests.{ne_eqb, lt-ltb, le-ltb}
use Rattle.expressions.specs.Expression.{Value, sym, Exp}
use Rattle.expressions.specs.Substitution.{ground_exp, apply}
use Rattle.language.specs.Program.{Term, call, conditional, result, Prog, find}
use Rattle.language.specs.WellFormed.{fits}
use Rattle.semantics.specs.Figure4.{ValueEnv}
use Rattle.semantics.specs.Evaluate.{ground_of, Next, end, go, step, start_term, start_env}
use Rattle.semantics.specs.Embedding.{embed}
use Rattle.semantics.proofs.EmbeddedStates.{embed_env}
use Rattle.semantics.specs.Configuration.{ExpEnv, subst_of_env, Configuration}
use Rattle.semantics.specs.Runner.{Ran, value, ran_over, not_within, nodes_value, nodes_inputs, at_result, nodes_next, run_from, runner}
use Rattle.semantics.proofs.Environments.{FitsInputs}
use Rattle.semantics.proofs.Evaluation.{start_scoped}
use Rattle.semantics.proofs.Forward.{apply_embed}
use Rattle.semantics.proofs.Scopes.{Covers, WellScoped, scoped_map}
use Rattle.sets.specs.Cells.{cells}
use Rattle.heap.specs.declared.configuration.Configuration.{Configuration as InCells}
use Rattle.runs.proofs.RunLaws.{below_self}
use Rattle.linking.specs.Twins.Linked.{TermLinked}
use Rattle.linking.specs.Twins.Places.{env_of}
use Rattle.constants.proofs.ConstantLaws.{NoConstants}
use Rattle.values.proofs.ValueLaws.{Known}
use Rattle.values.proofs.StateLaws.{known_in_scope, Stands}
use Rattle.values.proofs.PairLaws.{entries_few}
use Rattle.initial.proofs.EmbedLaws.{run_nodes, start_step}
use Rattle.tracing.specs.declared.ask.Asked.TheVariants.{End}
use Rattle.tracing.proofs.ShowLaws.{Accepted}
use Rattle.forward.specs.Twins.Next.{ends_at}
use Rattle.forward.specs.Twins.Turning.{finished, TurnLeft, turned}
use Rattle.running.specs.Twins.Answers.{RanAnswer, ran_answer}
use Rattle.forward.specs.Twins.Running.{after_turn, ran_from, finished_ran, ran_on}
use Rattle.run_answers.specs.declared.run.Ran.TheVariants.{Value as RanValue, Over as RanOver, NotWithin}
use Rattle.forward.proofs.SourceLaws.{end_sources}
use Rattle.forward.proofs.WayLaws.{at}
use Rattle.forward.proofs.FinishLaws.{is_result, ends_is, over_is, finish_over, finish_value}
use Rattle.forward.proofs.TurnLaws.{result_linked_lem, Running, TurnMeans, over_turn, end_turn, go_turn, scoped_next, turn_means}

-- What a run comes to: an output that was over has been written in part.
abbrev pub RanMeans : List ℕ → Ran → RanAnswer → Type 0
RanMeans d (value k v) w = w ≡ ran_answer (RanValue k (nodes_value v)) (cells (embed v) ++ drop (nodes_value v) d)
RanMeans d ran_over w = (w.ran ≡ RanOver) × (length w.answer ≡ length d)
RanMeans d not_within w = w ≡ ran_answer NotWithin d

module _ (p : Prog) (is : List Value) where
  from_over : (n s : ℕ) (x : Next) → 4096 < nodes_next is x → run_from p is n s x ≡ ran_over
  unfolding run_from
  from_over zero s x l = rw (lt-ltb 4096 (nodes_next is x) l)
  from_over (suc n) s x l = rw (lt-ltb 4096 (nodes_next is x) l)

  from_end : (n s : ℕ) (v : Value) → nodes_next is (end v) ≤ 4096 → run_from p is n s (end v) ≡ value s v
  unfolding run_from
  from_end zero s v l = rw (le-ltb 4096 (nodes_inputs is + nodes_value v) l)
  from_end (suc n) s v l = rw (le-ltb 4096 (nodes_inputs is + nodes_value v) l)

  from_go : (s : ℕ) (t : Term) (σ : ValueEnv) → nodes_next is (go t σ) ≤ 4096 → (run_from p is zero s (go t σ) ≡ not_within) × ((n : ℕ) → run_from p is (suc n) s (go t σ) ≡ run_from p is n (suc s) (at_result p (step p t σ)))
  unfolding run_from
  from_go s t σ l = (rw (le-ltb 4096 (nodes_next is (go t σ)) l), λ n. rw (le-ltb 4096 (nodes_next is (go t σ)) l))

  -- "21 .. at the start"
  pub runner_over : (steps : ℕ) → 4096 < nodes_next is (go (start_term p) (start_env p is)) → runner p steps is ≡ ran_over
  unfolding runner
  runner_over steps l = from_over steps 0 (go (start_term p) (start_env p is)) l

module _ (p : Prog) (bodies : ℕ → ℕ) (code : List ℕ) (ok : Accepted p bodies code) (empty : NoConstants code) (is : List Value) (d : List ℕ) (long : 4096 ≤ length d) where
  abbrev K : Term → ValueEnv → Configuration
  K t σ = at p bodies code ok empty is t σ

  -- behind a turn
  behind : (m k : ℕ) →
      ((h f q : List ℕ) (c : InCells) (t : Term) (σ : ValueEnv) → Running p bodies code ok empty is h f q c t σ → RanMeans d (run_from p is m k (go t σ)) (ran_from code m k c h f q d)) →
      (n : Next) (w : TurnLeft) → TurnMeans p bodies code ok empty is k d w n → RanMeans d (run_from p is m k n) (after_turn (ran_from code m k) w)
  behind m k again n w (over_turn l e z) = rw (from_over p is m k n l, e) (refl, z)
  behind m k again n w (end_turn {v = v} l e z) = rw (from_end p is m k v l, e, z)
  behind m k again n w (go_turn {t = t} {σ = σ} c e z r) = rw (e, z) (again w.heap w.frame w.q c t σ r)

  loop_means : (m k : ℕ) (h f q : List ℕ) (c : InCells) (t : Term) (σ : ValueEnv) → Running p bodies code ok empty is h f q c t σ → RanMeans d (run_from p is m k (go t σ)) (ran_from code m k c h f q d)
  unfolding ran_from
  loop_means zero k h f q c t σ r = rw (from_go p is k t σ r.fits).0
  loop_means (suc m) k h f q c t σ r =
      let z : k + 1 ≡ suc k = omega arith in
      rw ((from_go p is k t σ r.fits).1 m, z) (behind m (suc k) (loop_means m (suc k)) (at_result p (step p t σ)) (turned code c (suc k) h f q d) (turn_means p bodies code ok empty is r (suc k) d long))

  abbrev σ : ValueEnv
  σ = start_env p is

  abbrev first : Next
  first = go (start_term p) σ

  -- From main's body on.
  module _ (main-fits : FitsInputs (find p 0).params is) (fit : fits (find p 0).params (map embed is) ≡ true) (h f q : List ℕ) (c : InCells) (few : c.used ≤ 4096) where
    module _ (t : Term) (begins : step p (start_term p) σ ≡ go t σ) (x : Stands p bodies code h f q c (K t σ)) (small : nodes_next is first ≤ 4096) where
      scoped : WellScoped p t σ
      scoped = scoped_next p bodies code ok empty is (start_scoped p is ok.formed main-fits) begins

      room : c.used + 8192 ≤ 65535
      room = omega arith

      few_entries : c.entries < 4120
      few_entries = omega (arith, entries_few x.holds (omega (arith, run_nodes is 1 t σ)))

      -- main's body is an e
      module _ (e : Exp) (is-end : t ≡ result e) where
        at_end_lem : TermLinked p bodies code x.names c.place (result e) x.past
        at_end_lem = subst (λ (u : Term). TermLinked p bodies code x.names c.place u x.past) is-end x.term

        known : Known x.names e
        known =
            let w : WellScoped p (result e) (embed_env σ) = scoped_map embed sym (subst (λ (u : Term). WellScoped p u σ) is-end scoped) in
            known_in_scope x.holds.typed w.scope (subst (λ (ρ : ExpEnv). Covers w.scope ρ) x.holds.env w.covers) e w.well_formed

        end_means : (n : ℕ) → RanMeans d (run_from p is n 1 (end (ground_exp (ground_of σ) e))) (finished_ran (finished code c End c.place 1 h f d))
        end_means n = pick (ground_exp (ground_of σ) e) (ap (λ (ρ : ExpEnv). apply (subst_of_env ρ) e) (inv x.holds.env) ∙ apply_embed σ e) (dec_le (nodes_inputs is + nodes_value (ground_exp (ground_of σ) e)) 4096)
          where
            pick : (v : Value) → apply (subst_of_env (env_of x.names x.holds.values)) e ≡ embed v → Dec (nodes_inputs is + nodes_value v ≤ 4096) →
                RanMeans d (run_from p is n 1 (end v)) (finished_ran (finished code c End c.place 1 h f d))
            pick v same (yes l) =
                let z = finish_value p bodies code ok empty is t σ x small End c.used h x.holds.heap_size d long x.names x.holds.values x.holds.typed (end_sources code empty x.holds few_entries room h below_self)
                c.place x.past e (result_linked_lem at_end_lem) known v same 1 l in
                rw (from_end p is n 1 v l, z.0, z.1)
            pick v same (no l) =
                let z = finish_over p bodies code ok empty is t σ x small End c.used h x.holds.heap_size d long x.names x.holds.values x.holds.typed (end_sources code empty x.holds few_entries room h below_self)
                c.place x.past e (result_linked_lem at_end_lem) known v same 1 (omega arith) in
                rw (from_over p is n 1 (end v) (omega arith)) z

      -- the state one step from the start
      begun_means : (n : ℕ) → RanMeans d (run_from p is n 1 (at_result p (go t σ))) (cond (ends_at code c.place) (finished_ran (finished code c End c.place 1 h f d)) (ran_from code n 1 c h f q d))
      unfolding step
      begun_means n = by t refl
        where
          going : (u : Term) → t ≡ u → is_result u ≡ false → RanMeans d (run_from p is n 1 (go t σ)) (cond (ends_at code c.place) (finished_ran (finished code c End c.place 1 h f d)) (ran_from code n 1 c h f q d))
          going u i no_end =
              let g = ap is_result i ∙ no_end in
              rw (ends_is t x.term scoped ∙ g) (loop_means n 1 h f q c t σ (record { stands = x; going = g; scoped = scoped; fits = small; low = omega arith }))

          by : (u : Term) → t ≡ u → RanMeans d (run_from p is n 1 (at_result p (go u σ))) (cond (ends_at code c.place) (finished_ran (finished code c End c.place 1 h f d)) (ran_from code n 1 c h f q d))
          by (result e) i = rw (ends_is t x.term scoped ∙ ap is_result i) (end_means e i n)
          by (call g ds) i = subst (λ (u : Term). RanMeans d (run_from p is n 1 (go u σ)) (cond (ends_at code c.place) (finished_ran (finished code c End c.place 1 h f d)) (ran_from code n 1 c h f q d))) i (going (call g ds) i refl)
          by (conditional b s u) i =
              subst (λ (u : Term). RanMeans d (run_from p is n 1 (go u σ)) (cond (ends_at code c.place) (finished_ran (finished code c End c.place 1 h f d)) (ran_from code n 1 c h f q d))) i (going (conditional b s u) i refl)

      steps_mean : (steps : ℕ) → RanMeans d (runner p steps is) (ran_on code c steps h f q d)
      unfolding runner ran_on
      steps_mean zero = rw ((from_go p is 0 (start_term p) σ small).0, over_is p bodies code ok empty is t σ x ∙ le-ltb 4097 (suc (nodes_next is (go t σ))) (omega arith))
      steps_mean (suc n) =
          let z : suc n - 1 ≡ n = omega arith in
          rw ((from_go p is 0 (start_term p) σ small).1 n, begins, over_is p bodies code ok empty is t σ x ∙ le-ltb 4097 (suc (nodes_next is (go t σ))) (omega arith), ne_eqb (suc n) 0 (λ e. omega arith), z) (begun_means n)

    -- THE LAW of a run
    pub run_means : Stands p bodies code h f q c (K (find p 0).body σ) → (steps : ℕ) → RanMeans d (runner p steps is) (ran_on code c steps h f q d)
    unfolding ran_on
    run_means x steps = pick (dec_le (nodes_next is first) 4096)
      where
        pick : Dec (nodes_next is first ≤ 4096) → RanMeans d (runner p steps is) (ran_on code c steps h f q d)
        pick (yes l) = steps_mean (find p 0).body (start_step p is ok.formed fit) x l steps
        pick (no l) =
            rw (runner_over p is steps (omega arith), over_is p bodies code ok empty is (find p 0).body σ x ∙ lt-ltb 4097 (suc (nodes_next is first)) (omega arith)) (refl, refl)
