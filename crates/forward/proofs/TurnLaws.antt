-- A turn of the loop is a step of the runner's definition.
use Prim.Native.Nat.{ℕ, suc, ◌+◌, ◌≤◌, ◌<◌}
use mathlib.Core.Path.{◌≡◌, refl, ap, subst, ◌∙◌, sym as inv}
use mathlib.Core.Bool.{Bool, true, false, cond, false≢true}
use mathlib.Core.List.{List, ◌++◌}
use mathlib.Core.Logic.{◌⊎◌, inl, inr}
use native.Mathlib.Omega.{arith}
use native.Mathlib.Decide.{dec_le}
use lib.ListN.{length, drop}
use borrow.Author.Tests.{lt-ltb, le-ltb}
use Rattle.std.specs.Prelude.{Err}
use Rattle.std.specs.declared.ops.ControlFlow.TheVariants.{Continue, Break}
use Rattle.restrictions.specs.declared.failure.Failure.TheVariants.{Over}
use Rattle.expressions.specs.Expression.{Value, sym, Exp}
use Rattle.expressions.specs.Substitution.{ground_exp, apply}
use Rattle.language.specs.Program.{Term, call, conditional, result, Param, Prog}
use Rattle.semantics.specs.Figure4.{ValueEnv}
use Rattle.semantics.specs.Evaluate.{ground_of, Next, end, go, step}
use Rattle.semantics.specs.Embedding.{embed}
use Rattle.semantics.proofs.EmbeddedStates.{embed_env}
use Rattle.semantics.specs.Configuration.{ExpEnv, subst_of_env, nodes_state, Configuration}
use Rattle.semantics.specs.Runner.{nodes_value, nodes_inputs, at_result, nodes_next}
use Rattle.semantics.proofs.Forward.{apply_embed}
use Rattle.semantics.proofs.Scopes.{Covers, WellScoped, scoped_map}
use Rattle.semantics.proofs.Evaluation.{Goes, step_goes, scoped_step}
use Rattle.sets.specs.Cells.{cells}
use Rattle.compaction.specs.Twins.Compacting.{Compaction, compacted}
use Rattle.heap.specs.Twins.Moving.{Left}
use Rattle.heap.specs.declared.configuration.Configuration.{Configuration as InCells}
use Rattle.compaction.proofs.CompactLaws.{Compacted, compact_means}
use Rattle.linking.specs.Twins.Linked.{ExpLinked, TermLinked, result_linked}
use Rattle.linking.specs.Twins.Places.{env_of}
use Rattle.constants.proofs.ConstantLaws.{NoConstants}
use Rattle.values.proofs.ValueLaws.{Known}
use Rattle.values.proofs.StateLaws.{trees, known_in_scope, Stands, Arrives}
use Rattle.values.proofs.PairLaws.{state_nodes, entries_few}
use Rattle.initial.proofs.EmbedLaws.{run_nodes}
use Rattle.tracing.specs.Twins.Asking.{AskLeft, asked_at, branches_asked, taken_as}
use Rattle.tracing.proofs.ShowLaws.{Accepted}
use Rattle.forward.specs.Twins.Next.{next_place, ends_at}
use Rattle.forward.specs.Twins.Turning.{used_as, RoomLeft, roomed_to, roomed, finished, sized_left, advanced, TurnLeft, ended_turn, went_turn, turned_by, turned_asked, turned}
use Rattle.run_answers.specs.declared.run.Ran.TheVariants.{Value as RanValue, Over as RanOver}
use Rattle.forward.proofs.WayLaws.{at, Way, WayTo, way}
use Rattle.forward.proofs.LandingLaws.{Landing, landing}
use Rattle.forward.proofs.FinishLaws.{is_result, ends_is, over_is, finish_over, finish_value}

-- the expression of an end
pub result_linked_lem : {p : Prog} {bodies : ℕ → ℕ} {code : List ℕ} {sc : List Param} {i k : ℕ} {e : Exp} → TermLinked p bodies code sc i (result e) k → ExpLinked code sc i e k
result_linked_lem (result_linked x) = x

module _ (p : Prog) (bodies : ℕ → ℕ) (code : List ℕ) (ok : Accepted p bodies code) (empty : NoConstants code) (is : List Value) where
  abbrev K : Term → ValueEnv → Configuration
  K t σ = at p bodies code ok empty is t σ

  -- The storages hold a state that is no end.
  pub record Running (h f q : List ℕ) (c : InCells) (t : Term) (σ : ValueEnv) : Type 0 where
    pub stands : Stands p bodies code h f q c (K t σ)
    pub going : is_result t ≡ false
    pub scoped : WellScoped p t σ
    pub fits : nodes_next is (go t σ) ≤ 4096
    pub low : c.used ≤ 49152

  -- the same with room for a transition
  record Ready (m : RoomLeft) (q : List ℕ) (t : Term) (σ : ValueEnv) : Type 0 where
    stands : Stands p bodies code m.heap m.frame q m.at (K t σ)
    low : m.at.used ≤ 40959

  module _ {h f q : List ℕ} {c : InCells} {t : Term} {σ : ValueEnv} (r : Running h f q c t σ) where
    abbrev ts : List Exp
    ts = trees (K t σ).cr r.stands.holds.values

    small : nodes_state (K t σ).cr ≤ 4097
    small = omega (arith, run_nodes is 1 t σ, r.fits)

    together : (w : Compaction) → Compacted h f 0 c.entries ts w → Ready (roomed_to c w) q t σ
    unfolding used_as
    together w a =
        let x = r.stands.holds in
        let n = state_nodes x in
        record {
          stands = record {
            names = r.stands.names;
            holds = record {
              values = x.values;
              typed = x.typed;
              env = x.env;
              held = a.holds;
              inputs = x.inputs;
              outputs = x.outputs;
              entries = x.entries;
              neqs = x.neqs;
              count = x.count;
              fits = omega (arith, a.most, small);
              heap_size = a.size;
              frame_size = a.entries;
              q_size = x.q_size;
            };
            past = r.stands.past;
            term = r.stands.term;
            fresh = r.stands.fresh;
          };
          low = omega (arith, a.most, small);
        }

    ready : Ready (roomed c h f) q t σ
    unfolding roomed
    ready = pick (dec_le c.used 40959)
      where
        pick : Dec (c.used ≤ 40959) → Ready (roomed c h f) q t σ
        pick (yes l) = rw (le-ltb 40959 c.used l) (record { stands = r.stands; low = l })
        pick (no l) =
            let x = r.stands.holds in
            let n = state_nodes x in
            let e = entries_few x small in
            rw (lt-ltb 40959 c.used (omega arith)) (together (compacted c.entries 0 c.used h f)
            (compact_means h f 0 c.used c.entries ts x.heap_size x.frame_size (omega (arith, x.entries)) x.entries (omega arith) (omega (arith, r.low, small)) x.held))

  -- What a turn leaves, the k-th.
  pub data TurnMeans (k : ℕ) (d : List ℕ) (w : TurnLeft) : Next → Type 0 where
    over_turn : {n : Next} → 4096 < nodes_next is n → w.turn ≡ Break RanOver → length w.answer ≡ length d → TurnMeans k d w n
    end_turn : {v : Value} → nodes_next is (end v) ≤ 4096 → w.turn ≡ Break (RanValue k (nodes_value v)) → w.answer ≡ cells (embed v) ++ drop (nodes_value v) d → TurnMeans k d w (end v)
    go_turn : {t : Term} {σ : ValueEnv} (c : InCells) → w.turn ≡ Continue c → w.answer ≡ d → Running w.heap w.frame w.q c t σ → TurnMeans k d w (go t σ)

  -- the state behind a step is one of the program
  pub scoped_next : {t u : Term} {σ τ : ValueEnv} → WellScoped p t σ → step p t σ ≡ go u τ → WellScoped p u τ
  scoped_next {t} {u} {σ} {τ} w e = scoped_step ok.formed (subst (Goes p t σ) e (step_goes t w)) w

  module _ {h f q : List ℕ} {c : InCells} {t : Term} {σ : ValueEnv} (x : Stands p bodies code h f q c (K t σ)) (going : is_result t ≡ false) (scoped : WellScoped p t σ) (fits : nodes_next is (go t σ) ≤ 4096) (low : c.used ≤ 40959)
      (k : ℕ) (d : List ℕ) (long : 4096 ≤ length d) where
    room : c.used + 8192 ≤ 65535
    room = omega arith

    abbrev asking : AskLeft
    asking = asked_at code c h f

    abbrev here : TurnLeft
    here = turned_asked code c k asking f q d

    abbrev OnWay : Term → ValueEnv → Type 0
    OnWay u τ = Way p bodies code ok empty is x fits scoped room u τ

    abbrev Lands : Bool → Term → ValueEnv → Type 0
    Lands b u τ = Landing p bodies code ok empty is x fits scoped room b u τ

    here_is : (b : Bool) → (branches_asked c.neqs asking.asked q).yes ≡ b → here ≡ turned_by code c k asking.asked b asking.heap f q d
    here_is b e = ap (λ (o : Bool). turned_by code c k asking.asked o asking.heap f q d) e

    by_end : (b e : Bool) → ends_at code (next_place code c.place b) ≡ e →
        turned_by code c k asking.asked b asking.heap f q d ≡
        cond e (ended_turn f q (finished code c asking.asked (next_place code c.place b) k asking.heap f d)) (went_turn d (advanced code c asking.asked b asking.heap f q))
    by_end b e i =
        ap (λ (o : Bool). cond o (ended_turn f q (finished code c asking.asked (next_place code c.place b) k asking.heap f d)) (went_turn d (advanced code c asking.asked b asking.heap f q))) i

    -- the names of an end are in reach
    known_end : (e : Exp) (τ : ValueEnv) → WellScoped p (result e) τ → (b : Bool) (l : Lands b (result e) τ) → Known l.names e
    known_end e τ s b l =
        let w : WellScoped p (result e) (embed_env τ) = scoped_map embed sym s in
        known_in_scope l.typed w.scope (subst (λ (ρ : ExpEnv). Covers w.scope ρ) l.env w.covers) e w.well_formed

    landed_end : (e : Exp) (τ : ValueEnv) → step p t σ ≡ go (result e) τ → (w : OnWay (result e) τ) → Lands w.by (result e) τ → TurnMeans k d here (end (ground_exp (ground_of τ) e))
    landed_end e τ i w l =
        let s = scoped_next scoped i in
        let y : here ≡ ended_turn f q (finished code c asking.asked (next_place code c.place w.by) k asking.heap f d) = here_is w.by w.yes_is ∙ by_end w.by true (ends_is (result e) l.term s) in
        subst (λ (z : TurnLeft). TurnMeans k d z (end (ground_exp (ground_of τ) e))) (inv y) (pick (ground_exp (ground_of τ) e) (ap (λ (ρ : ExpEnv). apply (subst_of_env ρ) e) (inv l.env) ∙ apply_embed τ e) s (dec_le (nodes_inputs is + nodes_value (ground_exp (ground_of τ) e)) 4096))
      where
        pick : (v : Value) → apply (subst_of_env (env_of l.names l.values)) e ≡ embed v → WellScoped p (result e) τ → Dec (nodes_inputs is + nodes_value v ≤ 4096) →
            TurnMeans k d (ended_turn f q (finished code c asking.asked (next_place code c.place w.by) k asking.heap f d)) (end v)
        pick v value s (yes m) =
            let z = finish_value p bodies code ok empty is t σ x fits asking.asked l.B asking.heap w.whole d long l.names l.values l.typed l.sources (next_place code c.place w.by) l.past e
            (result_linked_lem l.term) (known_end e τ s w.by l) v value k m in
            end_turn m (ap Break z.0) z.1
        pick v value s (no m) =
            let z = finish_over p bodies code ok empty is t σ x fits asking.asked l.B asking.heap w.whole d long l.names l.values l.typed l.sources (next_place code c.place w.by) l.past e
            (result_linked_lem l.term) (known_end e τ s w.by l) v value k (omega arith) in
            over_turn {n = end v} (omega arith) (ap Break z.0) z.1

    landed_go : (u : Term) (τ : ValueEnv) → is_result u ≡ false → step p t σ ≡ go u τ → (w : OnWay u τ) → Lands w.by u τ → TurnMeans k d here (go u τ)
    unfolding advanced
    landed_go u τ no_end i w l =
        let s = scoped_next scoped i in
        let y : here ≡ went_turn d (advanced code c asking.asked w.by asking.heap f q) = here_is w.by w.yes_is ∙ by_end w.by false (ends_is u l.term s ∙ no_end) in
        subst (λ (z : TurnLeft). TurnMeans k d z (go u τ)) (inv y) (pick (taken_as code c asking.asked w.by asking.heap f q) s (w.leads.to (K u τ) refl))
      where
        pick : (W : Left) → WellScoped p u τ → ((W.answer ≡ Err Over) × (4097 < nodes_state (K u τ).cr)) ⊎ Arrives p bodies code h c.used (K u τ) W → TurnMeans k d (went_turn d (sized_left W)) (go u τ)
        pick W s (inl o) = over_turn {n = go u τ} (omega (arith, o.1, run_nodes is 1 u τ)) (rw o.0) refl
        pick W s (inr a) = by_size (dec_le (nodes_next is (go u τ)) 4096)
          where
            by_size : Dec (nodes_next is (go u τ) ≤ 4096) → TurnMeans k d (went_turn d (sized_left W)) (go u τ)
            by_size (yes m) =
                let o = over_is p bodies code ok empty is u τ a.stands ∙ le-ltb 4097 (suc (nodes_next is (go u τ))) (omega arith) in
                go_turn a.at (rw (a.moved, o)) refl (record { stands = a.stands; going = no_end; scoped = s; fits = m; low = omega (arith, a.most, run_nodes is 1 u τ) })
            by_size (no m) =
                let o = over_is p bodies code ok empty is u τ a.stands ∙ lt-ltb 4097 (suc (nodes_next is (go u τ))) (omega arith) in
                over_turn {n = go u τ} (omega arith) (rw (a.moved, o)) refl

    here_means : TurnMeans k d here (at_result p (step p t σ))
    unfolding step
    here_means = pick (step p t σ) refl (way p bodies code ok empty is x fits scoped room)
      where
        pick : (n : Next) → step p t σ ≡ n → WayTo p bodies code ok empty is x fits scoped room n → TurnMeans k d here (at_result p n)
        pick (end v) i w = absurd (false≢true (inv going ∙ ap is_result w.1))
        pick (go (result e) τ) i w = landed_end e τ i w (landing p bodies code ok empty is x fits scoped room (result e) τ i w)
        pick (go (call g ds) τ) i w = landed_go (call g ds) τ refl i w (landing p bodies code ok empty is x fits scoped room (call g ds) τ i w)
        pick (go (conditional b s v) τ) i w = landed_go (conditional b s v) τ refl i w (landing p bodies code ok empty is x fits scoped room (conditional b s v) τ i w)

  -- THE LAW of a turn
  pub turn_means : {h f q : List ℕ} {c : InCells} {t : Term} {σ : ValueEnv} → Running h f q c t σ → (k : ℕ) (d : List ℕ) → 4096 ≤ length d → TurnMeans k d (turned code c k h f q d) (at_result p (step p t σ))
  unfolding turned
  turn_means r k d long = let a = ready r in here_means a.stands r.going r.scoped r.fits a.low k d long
