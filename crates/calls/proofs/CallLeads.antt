-- A call leads to the configuration behind it.
use Prim.Native.Nat.{ℕ, ◌+◌, ◌*◌, ◌≤◌, ◌<◌}
use mathlib.Core.Path.{◌≡◌, refl, ap, subst, ◌∙◌, sym as inv}
use mathlib.Core.Bool.{true}
use mathlib.Core.List.{List}
use mathlib.Core.Option.{some}
use mathlib.Core.Logic.{◌⊎◌, inl, inr}
use native.Mathlib.Omega.{arith}
use native.Mathlib.Decide.{dec_le}
use lib.ListN.{length, length-append}
use borrow.Author.Tests.{le-ltb}
use Rattle.std.specs.Prelude.{Err}
use Rattle.restrictions.specs.declared.failure.Failure.TheVariants.{Over}
use Rattle.expressions.specs.Expression.{Exp, nodes_all}
use Rattle.expressions.specs.Substitution.{Substitution, apply, apply_atomic, apply_all}
use Rattle.expressions.specs.Contraction.{CRPair}
use Rattle.language.specs.Program.{Term, call, Param, Prog, find}
use Rattle.language.specs.WellFormed.{fits}
use Rattle.semantics.specs.Environment.{bind_params}
use Rattle.semantics.specs.Configuration.{ExpEnv, subst_of_env, state, with_env, nodes_state, Configuration}
use Rattle.semantics.proofs.Scopes.{WellScoped, Covers, scoped_call}
use Rattle.heap.specs.Twins.Moving.{Left, left}
use Rattle.heap.specs.declared.configuration.Configuration.{Configuration as InCells}
use Rattle.heap.proofs.FrameLaws.{Held}
use Rattle.heap.proofs.PartLaws.{nodes_joined}
use Rattle.linking.specs.Twins.Code.{link, link_at}
use Rattle.linking.specs.Twins.Linked.{ExpsLinked, TermLinked, call_linked, ProgramLinked}
use Rattle.linking.specs.Twins.Places.{env_of}
use Rattle.linking.proofs.PlaceLaws.{bound_arguments}
use Rattle.constants.proofs.ConstantLaws.{Constants}
use Rattle.calls.specs.Twins.Calls.{called_to}
use Rattle.values.proofs.ValueLaws.{AllKnown}
use Rattle.calls.proofs.CallLaws.{Called, call_outcome}
use Rattle.values.proofs.StateLaws.{trees, HoldsPair, pair_nodes, all_known, Stands, Arrives, Leads, leads_to}
use Rattle.values.proofs.PairLaws.{ends, held_trees, ends_held, values_held, base_is, entries_are, state_nodes, ends_nodes, entries_few, trees_are, fits_typed, fits_length}
use Rattle.values.proofs.BodyLaws.{found_linked}

none_past : (code : List ℕ) (i : ℕ) → 4097 ≤ i → (link_at code i).mark ≡ 0
unfolding link_at
none_past code i l = rw (le-ltb i 4097 l)

-- no token past the last one is a call
call_below : (code : List ℕ) {n b e : ℕ} (i : ℕ) → link_at code i ≡ link 3 n b e → i ≤ 4097
call_below code {n} {b} {e} i q = go (dec_le i 4096)
  where
    go : Dec (i ≤ 4096) → i ≤ 4097
    go (yes l) = omega arith
    go (no l) = let m : (link_at code i).mark ≡ 3 = rw q in absurd (omega (arith, none_past code i (omega arith)))

call_parts : {p : Prog} {bodies : ℕ → ℕ} {code : List ℕ} {sc : List Param} {i g : ℕ} {ds : List Exp} {k : ℕ} → TermLinked p bodies code sc i (call g ds) k →
    (j : ℕ) × (g < length p → link_at code i ≡ link 3 (length (find p g).params) (bodies g) (j + 2)) × ExpsLinked code sc (i + 4) ds j
call_parts (call_linked a b) = (_, a, b)

module _ (p : Prog) (bodies : ℕ → ℕ) (code : List ℕ) (linked : ProgramLinked p bodies code) (few : (f : ℕ) → f < length p → length (find p f).params ≤ 16)
    (h f q : List ℕ) (c : InCells) (K : Configuration) (x : Stands p bodies code h f q c K) (constants : Constants code h c.used) (size : nodes_state K.cr ≤ 4097) (room : c.used + 8192 ≤ 65535) where
  abbrev σ : Substitution
  σ = subst_of_env K.cr.con.env

  abbrev behind : ℕ → List Exp → Configuration
  behind g ds = record { cr = with_env (bind_params (apply σ) (apply_atomic σ) (find p g).params ds) K.cr; term = (find p g).body; fresh = K.fresh }

  abbrev base : ℕ
  base = c.inputs + c.outputs

  abbrev after : Left
  after = let w = called_to code base c h f in left w.answer w.heap w.frame q

  module _ (g : ℕ) (ds : List Exp) (is : K.term ≡ call g ds) (scoped : WellScoped p K.term K.cr.con.env) where
    abbrev ps : List Param
    ps = (find p g).params

    abbrev ts : List Exp
    ts = apply_all σ ds

    asks : WellScoped p (call g ds) K.cr.con.env
    asks = subst (λ (t : Term). WellScoped p t K.cr.con.env) is scoped

    defined : g < length p
    defined = (scoped_call asks).0

    fit : fits ps ds ≡ true
    fit = (scoped_call asks).1

    known : AllKnown x.names ds
    known =
        let k : Covers asks.scope (env_of x.names x.holds.values) = subst (λ (e : ExpEnv). Covers asks.scope e) x.holds.env asks.covers in
        all_known x.holds.typed asks.scope k ds (scoped_call asks).2

    stands_at : TermLinked p bodies code x.names c.place (call g ds) x.past
    stands_at = subst (λ (t : Term). TermLinked p bodies code x.names c.place t x.past) is x.term

    linked_at : link_at code c.place ≡ link 3 (length ds) (bodies g) ((call_parts stands_at).0 + 2)
    linked_at = (call_parts stands_at).1 defined ∙ ap (λ (n : ℕ). link 3 n (bodies g) ((call_parts stands_at).0 + 2)) (inv (fits_length ps ds fit))

    abbrev kept : ℕ
    kept = nodes_all (ends K.cr) + 2 * c.neqs

    all_nodes : nodes_state K.cr ≡ kept + nodes_all x.holds.values
    all_nodes = omega (arith, state_nodes x.holds, ends_nodes x.holds, x.holds.count)

    behind_nodes : nodes_state (behind g ds).cr ≡ kept + nodes_all ts
    behind_nodes =
        let P : CRPair state = (behind g ds).cr in
        let e = pair_nodes P (fits_typed σ ps ds fit) (bound_arguments σ ps ds fit) in
        let j : nodes_all (trees P ts) ≡ nodes_all (ends P) + nodes_all ts = ap nodes_all (inv (trees_are P ts)) ∙ nodes_joined (ends P) ts in
        omega (arith, e, j, x.holds.count)

    abbrev Out : Substitution → Type 0
    Out s =
        (((called_to code base c h f).answer ≡ Err Over) × ((65535 < c.used + nodes_all (apply_all s ds)) ⊎ (4097 < kept + nodes_all (apply_all s ds)))) ⊎
        (Called h f base (ends K.cr) (apply_all s ds) c (bodies g) (called_to code base c h f) × (kept + nodes_all (apply_all s ds) ≤ 4097))

    outcome : Out σ
    outcome =
        let b = base_is x.holds in
        let l = entries_few x.holds size in
        let e = entries_are x.holds in
        let v : Held h c.used f base x.holds.values = rw b (values_held x.holds) in
        let o : Out (subst_of_env (env_of x.names x.holds.values)) =
        call_outcome code h f base c (ends K.cr) x.holds.frame_size (omega arith) (ends_held x.holds) (inv b) (omega arith) x.names x.holds.values x.holds.typed v (omega arith) x.holds.heap_size x.holds.fits constants
        refl (call_below code c.place linked_at) linked_at (call_parts stands_at).2 known (omega (arith, fits_length ps ds fit, few g defined)) (omega (arith, all_nodes)) in
        subst (λ (σ' : ExpEnv). Out (subst_of_env σ')) (inv x.holds.env) o

    holds_body : (w : Called h f base (ends K.cr) ts c (bodies g) (called_to code base c h f)) → HoldsPair after.heap after.frame q (record { inputs = c.inputs; outputs = c.outputs; entries = base + length ts; used = w.now; neqs = c.neqs; place = bodies g; counter = c.counter }) ps (behind g ds).cr
    holds_body w =
        let P : CRPair state = (behind g ds).cr in
        let b = base_is x.holds in
        let v : Held after.heap w.now after.frame (length (ends P)) ts = rw (← b) w.values in
        record {
          values = ts;
          typed = fits_typed σ ps ds fit;
          env = bound_arguments σ ps ds fit;
          held = held_trees P w.ends v;
          inputs = x.holds.inputs;
          outputs = x.holds.outputs;
          entries = omega (arith, b, ap length (inv (trees_are P ts)), length-append (ends P) ts);
          neqs = x.holds.neqs;
          count = x.holds.count;
          fits = w.fits;
          heap_size = w.size;
          frame_size = w.room ∙ x.holds.frame_size;
          q_size = x.holds.q_size;
        }

    arrives : Called h f base (ends K.cr) ts c (bodies g) (called_to code base c h f) → Arrives p bodies code h c.used (behind g ds) after
    arrives w =
        let y = found_linked g linked defined in
        record {
          at = record { inputs = c.inputs; outputs = c.outputs; entries = base + length ts; used = w.now; neqs = c.neqs; place = bodies g; counter = c.counter };
          moved = w.on;
          stands = record { names = ps; holds = holds_body w; past = y.0; term = y.1; fresh = x.fresh };
          same = w.same;
          grown = w.grown;
          most = omega (arith, w.most, behind_nodes);
        }

    -- THE LAW of a call
    pub call_leads : Leads p bodies code h c.used (some (behind g ds)) after
    call_leads = leads_to p bodies code (behind g ds) after (go outcome)
      where
        go : Out σ → ((after.answer ≡ Err Over) × (4097 < nodes_state (behind g ds).cr)) ⊎ Arrives p bodies code h c.used (behind g ds) after
        go (inl (o, inl r)) = inl (o, omega (arith, behind_nodes))
        go (inl (o, inr r)) = inl (o, omega (arith, behind_nodes))
        go (inr (w, l)) = inr (arrives w)
