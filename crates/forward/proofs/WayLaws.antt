-- The one way on from a state of a run that is no end: which branch is taken, and the configuration that it leads to.
use Prim.Native.Nat.{ℕ, ◌+◌, ◌≤◌, ◌<◌}
use mathlib.Core.Path.{◌≡◌, refl}
use mathlib.Core.Bool.{Bool, true, false, false≢true}
use mathlib.Core.List.{List}
use mathlib.Core.Option.{Option, none, some}
use native.Mathlib.Omega.{arith}
use lib.ListN.{length}
use Rattle.expressions.specs.Expression.{Value, sym, Exp}
use Rattle.language.specs.Program.{Term, result, Prog}
use Rattle.semantics.specs.Figure4.{ValueEnv}
use Rattle.semantics.specs.Evaluate.{Next, end, go, step}
use Rattle.semantics.specs.Embedding.{embed}
use Rattle.semantics.proofs.EmbeddedStates.{embed_env, at_state, OneSuccessor}
use Rattle.semantics.proofs.EmbeddedStates as embedding
use Rattle.semantics.specs.Configuration.{nodes_state, Configuration}
use Rattle.semantics.specs.Runner.{nodes_next}
use Rattle.semantics.specs.Trace.{Successors, terminal, called, branches, successors}
use Rattle.semantics.proofs.Forward.{forward}
use Rattle.semantics.proofs.Scopes.{WellScoped, scoped_map}
use Rattle.heap.specs.Twins.Moving.{Left}
use Rattle.heap.specs.declared.configuration.Configuration.{Configuration as InCells}
use Rattle.runs.proofs.RunLaws.{Below}
use Rattle.constants.proofs.ConstantLaws.{NoConstants, none_held}
use Rattle.values.proofs.StateLaws.{Stands, Leads}
use Rattle.initial.proofs.EmbedLaws.{run_pair, run_nodes}
use Rattle.tracing.specs.Twins.Asking.{AskLeft, asked_at, is_call, branches_asked, taken_as}
use Rattle.tracing.specs.declared.ask.Asked.{Asked}
use Rattle.tracing.specs.declared.ask.Asked.TheVariants.{End, Call, Same, Test}
use Rattle.tracing.proofs.ShowLaws.{Accepted, Shows, shows}

-- the configuration behind a branch, or behind a call
abbrev pub way_to : Successors → Bool → Option Configuration
way_to (terminal u) b = none
way_to (called L) b = some L
way_to (branches A B) true = A
way_to (branches A B) false = B

-- a call is asked as a call
asked_call : (a : Asked) → is_call a ≡ true → a ≡ Call
asked_call End e = absurd (false≢true e)
asked_call Call e = refl
asked_call (Same x y) e = absurd (false≢true e)
asked_call (Test t) e = absurd (false≢true e)

module _ (p : Prog) (bodies : ℕ → ℕ) (code : List ℕ) (ok : Accepted p bodies code) (empty : NoConstants code) (is : List Value) where
  -- a state of a run as a configuration
  abbrev pub at : Term → ValueEnv → Configuration
  at t σ = at_state (run_pair is) 1 t σ

  module _ {h f q : List ℕ} {c : InCells} {t : Term} {σ : ValueEnv} (x : Stands p bodies code h f q c (at t σ)) (fits : nodes_next is (go t σ) ≤ 4096) (scoped : WellScoped p t σ) (room : c.used + 8192 ≤ 65535) where
    pub size : nodes_state (at t σ).cr ≤ 4097
    size = omega (arith, run_nodes is 1 t σ)

    pub in_scope : WellScoped p t (embed_env σ)
    in_scope = scoped_map embed sym scoped

    few_neqs : 0 ≤ 2047
    few_neqs = omega arith

    first_number : 1 ≤ 16381
    first_number = omega arith

    abbrev pub asks : AskLeft
    asks = asked_at code c h f

    abbrev pub taking : Bool → Left
    taking b = taken_as code c asks.asked b asks.heap f q

    -- by the true branch or not, and where it leads
    pub record Way (u : Term) (τ : ValueEnv) : Type 0 where
      pub by : Bool
      pub yes_is : (branches_asked c.neqs asks.asked q).yes ≡ by
      pub leads : Leads p bodies code h c.used (some (at u τ)) (taking by)
      pub same : Below c.used asks.heap h
      pub whole : length asks.heap ≡ 65535
      pub place : c.place < 4097
      pub to : way_to (successors p (at t σ)) by ≡ some (at u τ)
      pub calls : (L : Configuration) → successors p (at t σ) ≡ called L → (by ≡ false) × (asks.asked ≡ Call)

    abbrev pub WayTo : Next → Type 0
    WayTo (end v) = (e : Exp) × (t ≡ result e)
    WayTo (go u τ) = Way u τ

    abbrev Shown : Successors → Type 0
    Shown s = Shows p bodies code ok x (none_held empty) size few_neqs refl first_number in_scope room s

    one_way : {s : Successors} {n : Next} → OneSuccessor (run_pair is) 1 s n → successors p (at t σ) ≡ s → Shown s → WayTo n
    one_way (embedding.OneSuccessor.ends v) e w = w.2
    one_way (embedding.OneSuccessor.calls u τ) e w =
        let a = asked_call asks.asked w.1 in
        record {
          by = false;
          yes_is = rw a;
          leads = w.2 false;
          same = w.3.same;
          whole = w.3.whole;
          place = w.3.place;
          to = rw e;
          calls = λ L i. (refl, a);
        }
    one_way (embedding.OneSuccessor.holds u τ) e w = record {
      by = true;
      yes_is = w.2;
      leads = w.4;
      same = w.6.same;
      whole = w.6.whole;
      place = w.6.place;
      to = rw e;
      calls = λ L i. let z : ◌≡◌ {A = ℕ} 0 1 = cc in absurd (omega arith);
    }
    one_way (embedding.OneSuccessor.fails u τ) e w = record {
      by = false;
      yes_is = w.2;
      leads = w.5;
      same = w.6.same;
      whole = w.6.whole;
      place = w.6.place;
      to = rw e;
      calls = λ L i. let z : ◌≡◌ {A = ℕ} 0 1 = cc in absurd (omega arith);
    }

    -- THE LAW of the way on
    pub way : WayTo (step p t σ)
    way = one_way (forward (run_pair is) 1 p t σ) refl (shows p bodies code ok x (none_held empty) size few_neqs refl first_number in_scope room)
