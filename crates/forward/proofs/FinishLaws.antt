-- What a run comes to at an end: its value in the answer storage, or 21. And the tests of 21 and of an end.
use Prim.Native.Nat.{ℕ, zero, suc, ◌+◌, ◌-◌, ◌≤◌, ◌<◌, min}
use mathlib.Core.Path.{◌≡◌, ap, subst, ◌∙◌}
use mathlib.Core.Bool.{Bool, true, false}
use mathlib.Core.List.{List, [], ◌∷◌, ◌++◌}
use mathlib.Core.Logic.{inl, inr}
use native.Mathlib.Omega.{arith}
use native.Mathlib.Decide.{dec_le}
use lib.Dec.{ltb}
use lib.ListN.{length, drop, length-append}
use borrow.Author.Tests.{lt-ltb}
use Rattle.expressions.specs.Expression.{Value, sym, Exp, atm, nodes_all}
use Rattle.expressions.specs.Substitution.{apply}
use Rattle.language.specs.Program.{eqa, consp, Term, call, conditional, result, Param, Prog}
use Rattle.semantics.specs.Environment.{Env}
use Rattle.semantics.specs.Figure4.{ValueEnv}
use Rattle.semantics.specs.Evaluate.{go}
use Rattle.semantics.specs.Embedding.{embed}
use Rattle.semantics.specs.Configuration.{subst_of_env}
use Rattle.semantics.specs.Runner.{nodes_value, nodes_inputs, nodes_next}
use Rattle.semantics.proofs.Scopes.{WellScoped, scoped_call}
use Rattle.sets.specs.Cells.{cells}
use Rattle.sets.proofs.CellLaws.{cells_nodes}
use Rattle.heap.specs.Twins.Entries.{nodes_from}
use Rattle.heap.specs.declared.configuration.Configuration.{Configuration as InCells}
use Rattle.runs.proofs.RunLaws.{below_self}
use Rattle.heap.proofs.FrameLaws.{Held}
use Rattle.heap.proofs.FrameLaws as frame
use Rattle.heap.proofs.PartLaws.{held_first}
use Rattle.heap.proofs.NodeLaws.{holds_nodes, held_nodes}
use Rattle.linking.specs.Twins.Linked.{ExpLinked, TermLinked}
use Rattle.linking.specs.Twins.Places.{env_of}
use Rattle.constants.proofs.ConstantLaws.{NoConstants}
use Rattle.values.proofs.ValueLaws.{Typed, Known}
use Rattle.values.proofs.ValueLaws.{past_linked}
use Rattle.heap.proofs.HeapLaws.{nodes_positive}
use Rattle.values.proofs.StateLaws.{trees, nodes_length, Stands}
use Rattle.values.proofs.PairLaws.{state_nodes, entries_few}
use Rattle.initial.proofs.EmbedLaws.{embed_nodes, inputs_nodes, run_nodes}
use Rattle.tracing.specs.declared.ask.Asked.{Asked}
use Rattle.tracing.proofs.ShowLaws.{Accepted, end_at, call_at_lem, same_at, test_at_lem}
use Rattle.forward.specs.Twins.Next.{ends_at, over_in}
use Rattle.forward.specs.Twins.Output.{OutLeft, tokens_put}
use Rattle.forward.specs.Twins.Turning.{output_room, FinishLeft, finished_by, finished}
use Rattle.run_answers.specs.declared.run.Ran.TheVariants.{Value as RanValue, Over}
use Rattle.forward.proofs.PutLaws.{Puts}
use Rattle.forward.proofs.OutputLaws.{Sources, output_means}
use Rattle.forward.proofs.WayLaws.{at}

-- whether a term is an e
abbrev pub is_result : Term → Bool
is_result (result c) = true
is_result (call f ds) = false
is_result (conditional k s t) = false

-- "A state whose term is an e is an end"
module _ {p : Prog} {bodies : ℕ → ℕ} {code : List ℕ} {sc : List Param} {E A : Type 0} {σ : Env E A} where
  pub ends_is : {i k : ℕ} (t : Term) → TermLinked p bodies code sc i t k → WellScoped p t σ → ends_at code i ≡ is_result t
  ends_is (result e) x w = let a = end_at x in rw a.1.mark (lt-ltb a.0 3 a.2)
  ends_is (call g ds) x w = let a = call_at_lem x (scoped_call w).0 in rw a.mark
  ends_is (conditional (eqa a b) s t) x w = let a = same_at x in rw a.mark
  ends_is (conditional (consp e h l y) s t) x w = let a = test_at_lem x in rw a.mark

-- each entry has a node
some_nodes : {h f : List ℕ} {used i : ℕ} {ts : List Exp} → Held h used f i ts → (k : ℕ) → k ≤ length ts → k ≤ nodes_from k i f
unfolding nodes_from
some_nodes x zero l = omega arith
some_nodes frame.Held.none (suc k) l = absurd (omega arith)
some_nodes {i = i} (frame.Held.more {t = t} y kn r) (suc k) l = omega (arith, holds_nodes y, nodes_positive t, some_nodes {i = i + 1} r k (omega arith))

module _ (p : Prog) (bodies : ℕ → ℕ) (code : List ℕ) (ok : Accepted p bodies code) (empty : NoConstants code) (is : List Value) {h f q : List ℕ} {c : InCells} (t : Term) (σ : ValueEnv) (x : Stands p bodies code h f q c (at p bodies code ok empty is t σ)) where
  tree_nodes : nodes_all (trees (at p bodies code ok empty is t σ).cr x.holds.values) ≡ suc (nodes_next is (go t σ))
  tree_nodes = omega (arith, state_nodes x.holds, run_nodes is 1 t σ)

  -- "21 over 4,096 nodes"
  pub over_is : over_in c f ≡ ltb 4097 (suc (nodes_next is (go t σ)))
  over_is = pick (dec_le c.entries 4120)
    where
      pick : Dec (c.entries ≤ 4120) → over_in c f ≡ ltb 4097 (suc (nodes_next is (go t σ)))
      pick (yes l) =
          let z : min c.entries 4120 ≡ length (trees (at p bodies code ok empty is t σ).cr x.holds.values) = omega (arith, x.holds.entries) in
          rw (z, held_nodes x.holds.held, tree_nodes)
      pick (no l) =
          let z : min c.entries 4120 ≡ 4120 = omega arith in
          let a = some_nodes x.holds.held 4120 (omega (arith, x.holds.entries)) in
          let b = nodes_length (trees (at p bodies code ok empty is t σ).cr x.holds.values) in
          rw (z, lt-ltb 4097 (nodes_from 4120 0 f) (omega arith), lt-ltb 4097 (suc (nodes_next is (go t σ))) (omega (arith, tree_nodes, x.holds.entries)))

  -- "at an end of the inputs and the output"
  module _ (fits : nodes_next is (go t σ) ≤ 4096) where
    room_is : output_room c f ≡ 4096 - nodes_inputs is
    room_is =
        let ins = (at p bodies code ok empty is t σ).cr.con.io.ins in
        let z : min c.inputs 4120 ≡ length ins = omega (arith, x.holds.inputs, x.holds.entries, entries_few x.holds (omega (arith, run_nodes is 1 t σ)), length-append ins (atm (sym 0) ∷ x.holds.values)) in
        let a : nodes_from (length ins) 0 f ≡ nodes_inputs is = held_nodes (held_first ins (atm (sym 0) ∷ x.holds.values) x.holds.held) ∙ inputs_nodes is in
        ap (λ (n : ℕ). 4096 - nodes_from n 0 f) z ∙ ap (λ (n : ℕ). 4096 - n) a

    -- THE LAW of an end whose expression stands at i
    module _ (a : Asked) (B : ℕ) (g : List ℕ) (whole : length g ≡ 65535) (d : List ℕ) (long : 4096 ≤ length d) (sc : List Param) (vs : List Exp) (typed : Typed sc vs) (sources : Sources code c a f B g vs)
        (i j : ℕ) (e : Exp) (linked : ExpLinked code sc i e j) (known : Known sc e) (v : Value) (value : apply (subst_of_env (env_of sc vs)) e ≡ embed v) (k : ℕ) where
      abbrev ends : FinishLeft
      ends = finished code c a i k g f d

      abbrev limit : ℕ
      limit = 4096 - nodes_inputs is

      abbrev out : OutLeft
      out = tokens_put code c a limit f (j - i) i 0 g d

      puts : Puts limit B g [] d (cells (embed v)) out
      puts =
          subst (λ (t : Exp). Puts limit B g [] d (cells t) out) value
          (output_means code c a f B g limit (omega arith) sc vs typed sources linked known [] d g (record { most = omega arith; room = omega arith }) (record { same = below_self; size = whole }))

      ends_are : ends ≡ finished_by k out
      unfolding finished
      ends_are = rw (room_is, past_linked linked)

      pub finish_over : 4096 < nodes_inputs is + nodes_value v → (ends.ran ≡ Over) × (length ends.answer ≡ length d)
      finish_over l = pick puts
        where
          pick : Puts limit B g [] d (cells (embed v)) out → (ends.ran ≡ Over) × (length ends.answer ≡ length d)
          pick (inl o) = (ap (λ (w : FinishLeft). w.ran) ends_are ∙ rw o.0, ap (λ (w : FinishLeft). length w.answer) ends_are ∙ o.2 ∙ omega arith)
          pick (inr y) = absurd (omega (arith, y.fits, cells_nodes (embed v), embed_nodes v))

      pub finish_value : nodes_inputs is + nodes_value v ≤ 4096 → (ends.ran ≡ RanValue k (nodes_value v)) × (ends.answer ≡ cells (embed v) ++ drop (nodes_value v) d)
      finish_value l = pick puts
        where
          size : length (cells (embed v)) ≡ nodes_value v
          size = cells_nodes (embed v) ∙ embed_nodes v

          pick : Puts limit B g [] d (cells (embed v)) out → (ends.ran ≡ RanValue k (nodes_value v)) × (ends.answer ≡ cells (embed v) ++ drop (nodes_value v) d)
          pick (inl o) = absurd (omega (arith, o.1, size))
          pick (inr y) = (ap (λ (w : FinishLeft). w.ran) ends_are ∙ rw (y.done, size), ap (λ (w : FinishLeft). w.answer) ends_are ∙ y.is ∙ rw size)
