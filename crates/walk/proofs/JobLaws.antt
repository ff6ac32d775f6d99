-- The walk of a job, from storages that hold the body of `main`, is the walk of semantics/proofs/Backtrack.antt from the call of `main`.
use Prim.Native.Nat.{ℕ, zero, suc, ◌+◌, ◌*◌, ◌≤◌, ◌<◌, min}
use mathlib.Core.Path.{◌≡◌, refl, ap, subst, ◌∙◌}
use mathlib.Core.Bool.{Bool, true, false, cond}
use mathlib.Core.List.{List, [], ◌∷◌, ◌++◌}
use mathlib.Core.Option.{some}
use native.Mathlib.Omega.{arith}
use lib.Dec.{eqb, ltb}
use lib.ListN.{length, replicate, length-replicate}
use lib.Seq.{length-take-le}
use borrow.Author.Tests.{eq-eqb, ne_eqb, le-ltb, ltb-true, ltb-false}
use Rattle.language.specs.Program.{Prog}
use Rattle.syntax.specs.declared.numerals.Numerals.{Numerals}
use Rattle.semantics.specs.Configuration.{nodes_state, Configuration}
use Rattle.std.specs.Prelude.{Result, Ok, Err}
use Rattle.semantics.specs.Trace.{called, successors}
use Rattle.semantics.specs.Tree.{Node, root, after_call}
use Rattle.semantics.specs.Walk.{state_over, Limits, Stop, stop21, Walked, state_of, lines_of, count_of, at_start, taken, mark_cut}
use Rattle.semantics.proofs.Backtrack.{PathState, on_path, Turn, ahead, exhausted, halted, extend, extend_unless, or_back, turn, walk_back, walk_back_from, walked_of}
use Rattle.semantics.proofs.Soundness.{Small, Sound}
use Rattle.semantics.proofs.Tracing.{Scoped}
use Rattle.semantics.proofs.Reaching.{Reaches, here, reaches_call}
use Rattle.heap.specs.declared.configuration.Configuration.{Configuration as InCells}
use Rattle.restrictions.specs.declared.failure.Failure.{Failure}
use Rattle.restrictions.specs.declared.failure.Failure.TheVariants.{Contradiction, Over as MovedOver}
use Rattle.heap.proofs.FrameLaws.{held_kept}
use Rattle.heap.proofs.NodeLaws.{held_few}
use Rattle.linking.specs.Twins.Code.{link_at}
use Rattle.linking.specs.Twins.Linked.{BodiesLinked, no_bodies, more_bodies}
use Rattle.linking.proofs.AgreeLaws.{term_agrees}
use Rattle.constants.specs.Twins.Laying.{ConstantsLeft, constants_laid}
use Rattle.constants.proofs.ConstantLaws.{Constants, NoConstants, Kept, constants_held, constants_kept}
use Rattle.saving.specs.Twins.Saving.{SaveLeft, saved_to}
use Rattle.saving.specs.Twins.Records.{Record, record_of, record_cells, Fits, Holding}
use Rattle.saving.proofs.HoldingLaws.{records_one, holding_none}
use Rattle.saving.proofs.SavedLaws.{save_fits}
use Rattle.values.specs.Twins.Sizes.{kept_nodes, sized_as}
use Rattle.values.proofs.StateLaws.{trees, HoldsPair, Stands, nodes_length}
use Rattle.values.proofs.PairLaws.{state_nodes, entries_few}
use Rattle.values.proofs.ContractionLaws.{pair_on, pair_over}
use Rattle.tracing.proofs.ShowLaws.{Accepted}
use Rattle.initial.specs.Twins.Beginning.{BegunLeft, begun_left}
use Rattle.initial.proofs.BeginLaws.{in_main, Begins}
use Rattle.lines.specs.LineCells.{answer_room}
use Rattle.lines.proofs.LineLaws.{LinesHeld}
use Rattle.positions.specs.Twins.Used.{with_used}
use Rattle.positions.specs.declared.position.Bounds.{Bounds}
use Rattle.replay.proofs.RecordLaws.{Entered, Recorded, Rooted, only}
use Rattle.turns.specs.Twins.Finding.{walked, nothing_found, counted}
use Rattle.turns.specs.Twins.States.{state_at}
use Rattle.walk.specs.Twins.Walking.{WalkedLeft, walked_from}
use Rattle.walk.specs.Twins.Jobs.{JobLeft, bounds_of, first_node, of_walk, walk_first, walk_begun, on_begun}
use Rattle.turns.specs.declared.found.Found.{Found}
use Rattle.turns.specs.declared.found.Ending.{Ending}
use Rattle.turns.specs.declared.found.Ending.TheVariants.{Done, Spent}
use Rattle.turns.specs.declared.found.Walked.{Walked as Came}
use Rattle.turns.specs.declared.state.State.{State}
use Rattle.walk.proofs.TurnLaws.{ending_of, Walking}
use Rattle.walk.proofs.WalkLaws.{end_of, Comes, walk_goes}

-- What a walk over the storages came to and left is what the walk w found.
pub record Leaves (w : Walked) (v : JobLeft) : Type 0 where
  pub ending : v.walked.ending ≡ end_of w
  pub cut : v.walked.found.cut ≡ (state_of w).cut
  pub count : v.walked.found.count ≡ count_of w
  pub lines : LinesHeld (lines_of w) (state_of w).nodes v.answer v.walked.found.lines

found_leaves : (w : Walked) (v : JobLeft) (z : Ending) (f : Found) → v.walked ≡ walked z f → z ≡ end_of w → f.cut ≡ (state_of w).cut → f.count ≡ count_of w → LinesHeld (lines_of w) (state_of w).nodes v.answer f.lines → Leaves w v
found_leaves w v z f i e c n l = record {
  ending = ap (λ (k : Came). k.ending) i ∙ e;
  cut = ap (λ (k : Came). k.found.cut) i ∙ c;
  count = ap (λ (k : Came). k.found.count) i ∙ n;
  lines = rw (ap (λ (k : Came). k.found.lines) i) l;
}

-- the test of a size, by what a transition answers
abbrev overs : Result InCells Failure → Bool
overs (Ok c) = false
overs (Err Contradiction) = false
overs (Err MovedOver) = true

size_test_lem : (c : InCells) (f : List ℕ) → ltb 4096 (kept_nodes c.entries c.neqs f) ≡ overs (sized_as c f)
unfolding sized_as
size_test_lem c f = pick (ltb 4096 (kept_nodes c.entries c.neqs f))
  where
    pick : (t : Bool) → t ≡ overs (cond t (Err MovedOver) (Ok c))
    pick true = refl
    pick false = refl

module _ (p : Prog) (bodies : ℕ → ℕ) (code : List ℕ) (ok : Accepted p bodies code) (K₀ : Configuration) (main : successors p K₀ ≡ called (in_main p K₀)) (w : BegunLeft) (c : InCells)
    (stands : Stands p bodies code w.heap w.frame w.q c (in_main p K₀)) (constants : Constants code w.heap c.used) (few-used : c.used ≤ 8193)
    (lim : Limits) (few-lines : lim.table ≤ 256) (few-steps : lim.walk ≤ 1000000) (N : ℕ) (most : N ≤ 1000) (k : Numerals) (of_steps : k.steps ≡ N) (of-walk : k.walk ≡ lim.walk) (of-table : k.table ≡ lim.table) (place : c.place < 65536)
    (sound-all : (bs : List Bool) (m : ℕ) (y : Node) → Reaches p Small N (root K₀) bs m y → Sound p y.conf × Scoped p y.conf) (a : List ℕ) (lines : LinesHeld [] 0 a nothing_found.lines) (long : answer_room ≤ length a) where
  abbrev v : HoldsPair w.heap w.frame w.q c stands.names K₀.cr
  v = stands.holds

  abbrev came : JobLeft
  came = walk_begun code c k w.heap w.frame w.q a

  few : c.entries ≤ 4120
  few = omega (arith, v.entries, held_few v.held v.frame_size (omega arith))

  large : 4096 < nodes_state K₀.cr → ltb 4096 (kept_nodes c.entries c.neqs w.frame) ≡ true
  large l = size_test_lem c w.frame ∙ ap overs (pair_over v few l)

  small : nodes_state K₀.cr ≤ 4096 → ltb 4096 (kept_nodes c.entries c.neqs w.frame) ≡ false
  small l = size_test_lem c w.frame ∙ ap overs (pair_on v few l)

  abbrev from : Bool → Turn
  from o = walk_back p lim N (root K₀) lim.walk (or_back p N (root K₀) (extend_unless p lim (record { left = N; node = root K₀ }) (on_path [] at_start) o))

  stays_halted : (i : ℕ) (z : Stop) (s : PathState) → walk_back p lim N (root K₀) i (halted z s) ≡ halted z s
  unfolding walk_back
  stays_halted zero z s = refl
  stays_halted (suc i) z s = refl

  stays_exhausted : (i : ℕ) (s : PathState) → walk_back p lim N (root K₀) i (exhausted s) ≡ exhausted s
  unfolding walk_back
  stays_exhausted zero s = refl
  stays_exhausted (suc i) s = refl

  -- "21 .. at the start"
  from_large : 4096 < nodes_state K₀.cr → Leaves (walked_of (from true)) came
  unfolding walk_begun
  from_large l = rw (stays_halted lim.walk stop21 (on_path [] at_start), large l) (record { ending = refl; cut = refl; count = refl; lines = lines })

  module _ (size : nodes_state K₀.cr ≤ 4096) where
    -- none deep
    from_cut : N ≡ 0 → Leaves (walked_of (from false)) came
    unfolding walk_begun
    from_cut z =
        let e : or_back p N (root K₀) (extend lim N (root K₀) (successors p K₀) (on_path [] at_start)) ≡ exhausted (on_path [] (mark_cut at_start)) = rw (z, main) in
        rw (e, stays_exhausted lim.walk (on_path [] (mark_cut at_start)), small size, eq-eqb k.steps 0 (of_steps ∙ z)) (record { ending = refl; cut = refl; count = refl; lines = lines })

    module _ (m : ℕ) (deep : N ≡ suc m) where
      abbrev y₁ : Node
      y₁ = after_call (root K₀) (in_main p K₀)

      abbrev first_ahead : Turn
      first_ahead = ahead (record { left = m; node = y₁ }) (on_path [] at_start)

      goes_first : or_back p N (root K₀) (extend lim N (root K₀) (successors p K₀) (on_path [] at_start)) ≡ first_ahead
      goes_first = rw (deep, main)

      not_none : eqb k.steps 0 ≡ false
      not_none = ne_eqb k.steps 0 (λ z. omega (arith, of_steps))

      -- "23 a transition would be number W+1", of none
      from_spent : lim.walk ≡ 0 → Leaves (walked_of (from false)) came
      unfolding walk_begun walk_back
      from_spent z = rw (goes_first, z, small size, not_none, eq-eqb k.walk 0 (of-walk ∙ z)) (record { ending = refl; cut = refl; count = refl; lines = lines })

      -- the first transition, and the walk from behind it
      root_reached : Sound p K₀ × Scoped p K₀
      root_reached = sound-all [] N (root K₀) here

      entered₀ : Entered p K₀
      entered₀ = record { sound = root_reached.0; scoped = root_reached.1; size = size }

      reached_main : (G : Configuration → Type 0) → G (in_main p K₀) → Reaches p G N (root K₀) [] m y₁
      reached_main G g = reaches_call p G (subst (λ (i : ℕ). Reaches p G N (root K₀) [] i (root K₀)) deep here) main g

      entered₁ : Entered p (in_main p K₀)
      entered₁ = let t = sound-all [] m y₁ (reached_main Small size) in record { sound = t.0; scoped = t.1; size = size }

      abbrev b₀ : Record
      b₀ = record_of w.frame w.q (first_node c)

      fits : Fits b₀
      fits =
          let n = entries_few v (omega arith) in
          let i = state_nodes v in
          let j = nodes_length K₀.cr.con.io.ins in
          record {
            entries = length-take-le (3 * c.entries) w.frame (omega (arith, v.frame_size));
            sides = length-take-le (2 * c.neqs) w.q (omega (arith, v.q_size, v.count));
            in_frame = omega arith;
            in_q = omega (arith, v.count);
            steps = omega arith;
            depth = omega arith;
            inputs = omega (arith, v.inputs);
            outputs = omega (arith, v.outputs);
            used = omega (arith, few-used);
            place = place;
          }

      abbrev keeping : SaveLeft
      keeping = saved_to w.frame w.q (first_node c) 0 0 (replicate 16384 0)

      held : Holding keeping.saved keeping.top ([] ++ (b₀ ∷ []))
      held = save_fits (holding_none (length-replicate {A = ℕ} 16384 0)) 0 w.frame w.q (first_node c) fits (omega (arith, state_nodes v, v.entries, v.count, nodes_length (trees K₀.cr v.values)))

      bottom : keeping.top ≡ length (record_cells b₀)
      bottom = held.size ∙ ap length (records_one b₀)

      recorded : Recorded p bodies code w.heap b₀ y₁
      recorded = record { frame = w.frame; q = w.q; stands = stands; constants = constants; entries = refl; sides = refl; steps = refl; room = omega (arith, few-used) }

      abbrev s₁ : PathState
      s₁ = on_path [] (taken [] at_start)

      abbrev bounds : Bounds
      bounds = bounds_of k keeping.top

      abbrev st : State
      st = state_at (record { node = first_node c; top = keeping.top }) (counted nothing_found)

      leads₁ : Rooted p bodies code K₀ N y₁ b₀ [] m y₁
      leads₁ = reached_main (Entered p) entered₁

      low₀ : b₀.at.used ≤ 16384
      low₀ = omega (arith, few-used)

      walking : Walking p bodies code ok K₀ N most y₁ b₀ (length (record_cells b₀)) refl low₀ entered₀ m leads₁ refl lim few-lines bounds of_steps of-table bottom m y₁ s₁ w.heap w.frame w.q (replicate 1000 0) keeping.saved a st
      walking = record {
        holds = record {
          stands = stands;
          entered = entered₁;
          steps = refl;
          depth = refl;
          low = omega (arith, few-used);
          kept = record { older = []; last = b₀; holding = held; saves = only {used = c.used} recorded (omega arith) };
        };
        leads = leads₁;
        way = record { held = record { rest = replicate 1000 0; cells = refl; size = refl }; long = length-replicate {A = ℕ} 1000 0; undone = tt };
        found = record { lines = lines; long = long; counts = refl; cuts = refl };
      }

      abbrev Came-to : Turn → WalkedLeft → Type 0
      Came-to t x = Comes p bodies code ok K₀ N most y₁ b₀ (length (record_cells b₀)) refl low₀ entered₀ m leads₁ refl lim few-lines bounds of_steps of-table bottom t x

      comes_leave : (t : Turn) (x : WalkedLeft) → Came-to t x → Leaves (walked_of t) (of_walk x)
      comes_leave (ahead i s) x h = found_leaves (walked_of (ahead i s)) (of_walk x) Spent h.0 h.1 refl h.2.cuts h.2.counts h.2.lines
      comes_leave (exhausted s) x h = found_leaves (walked_of (exhausted s)) (of_walk x) Done h.0 h.1 refl h.2.cuts h.2.counts h.2.lines
      comes_leave (halted z s) x h = found_leaves (walked_of (halted z s)) (of_walk x) (ending_of z) h.0 h.1 refl h.2.cuts h.2.counts h.2.lines

      first_made : (i : ℕ) → walk_back p lim N (root K₀) (suc i) first_ahead ≡ walk_back p lim N (root K₀) i (or_back p N (root K₀) (extend lim m y₁ (successors p (in_main p K₀)) s₁))
      unfolding walk_back turn
      first_made i = rw (le-ltb 4096 (nodes_state K₀.cr) size)

      first_turn : (i : ℕ) → lim.walk ≡ suc i → from false ≡ walk_back p lim N (root K₀) i (or_back p N (root K₀) (extend lim m y₁ (successors p (in_main p K₀)) s₁))
      first_turn i z = ap (λ (t : Turn). walk_back p lim N (root K₀) lim.walk t) goes_first ∙ ap (λ (j : ℕ). walk_back p lim N (root K₀) j first_ahead) z ∙ first_made i

      from_on : (i : ℕ) → lim.walk ≡ suc i → Leaves (walked_of (from false)) came
      unfolding walk_begun walk_first
      from_on i z =
          let n : min k.walk 1000000 + 1 ≡ suc (suc i) = omega (arith, of-walk) in
          let h = walk_goes p bodies code ok K₀ N most y₁ b₀ (length (record_cells b₀)) refl low₀ entered₀ m leads₁ refl lim few-lines bounds of_steps of-table bottom of-walk few-steps sound-all i (suc (suc i)) (omega arith) m y₁ s₁
          w.heap w.frame w.q (replicate 1000 0) keeping.saved a st walking (omega arith) in
          rw (first_turn i z, small size, not_none, ne_eqb k.walk 0 (λ e. omega (arith, of-walk)), n) (comes_leave (walk_back p lim N (root K₀) i (or_back p N (root K₀) (extend lim m y₁ (successors p (in_main p K₀)) s₁))) (walked_from code bounds (suc (suc i)) st w.heap w.frame w.q (replicate 1000 0) keeping.saved a) h)

      from_deep : Leaves (walked_of (from false)) came
      from_deep = go lim.walk refl
        where
          go : (i : ℕ) → lim.walk ≡ i → Leaves (walked_of (from false)) came
          go zero z = from_spent z
          go (suc i) z = from_on i z

    from_small : Leaves (walked_of (from false)) came
    from_small = go N refl
      where
        go : (i : ℕ) → N ≡ i → Leaves (walked_of (from false)) came
        go zero z = from_cut z
        go (suc m) z = from_deep m z

  -- the walk from main's body, its constants laid out
  laid_means : Leaves (walked_of (walk_back_from p lim N (some K₀))) came
  laid_means = go (state_over K₀.cr) refl
    where
      go : (o : Bool) → state_over K₀.cr ≡ o → Leaves (walked_of (from o)) came
      go true e = from_large (ltb-true 4096 (nodes_state K₀.cr) e)
      go false e = from_small (ltb-false 4096 (nodes_state K₀.cr) e)

-- what is linked stays so where only the table of constants changes
bodies_agree : {p : Prog} {bodies : ℕ → ℕ} {code g : List ℕ} {f : ℕ} {ds : Prog} → ((j : ℕ) → link_at g j ≡ link_at code j) → BodiesLinked p bodies code f ds → BodiesLinked p bodies g f ds
bodies_agree e no_bodies = no_bodies
bodies_agree {p} {bodies} {code} e (more_bodies t r) = more_bodies (term_agrees p bodies code t (record { same = λ j l m. e j })) (bodies_agree e r)

module _ (p : Prog) (bodies : ℕ → ℕ) (code : List ℕ) (count : ℕ) (ok : Accepted p bodies code) (empty : NoConstants code) (wide : length code ≡ 24582) (K₀ : Configuration) (main : successors p K₀ ≡ called (in_main p K₀)) (w : BegunLeft) (b : Begins p bodies code (in_main p K₀) w)
    (lim : Limits) (few-lines : lim.table ≤ 256) (few-steps : lim.walk ≤ 1000000) (N : ℕ) (most : N ≤ 1000) (k : Numerals) (of_steps : k.steps ≡ N) (of-walk : k.walk ≡ lim.walk) (of-table : k.table ≡ lim.table) (place : b.at.place < 65536)
    (sound-all : (bs : List Bool) (m : ℕ) (y : Node) → Reaches p Small N (root K₀) bs m y → Sound p y.conf × Scoped p y.conf) (a : List ℕ) (lines : LinesHeld [] 0 a nothing_found.lines) (long : answer_room ≤ length a) where
  abbrev laid : ConstantsLeft
  laid = constants_laid count b.at.used code w.heap

  kept : Kept count b.at.used code w.heap wide b.stands.holds.heap_size
  kept = constants_kept count b.at.used code w.heap wide b.stands.holds.heap_size

  accepted : Accepted p bodies laid.code
  accepted = record { linked = bodies_agree kept.links ok.linked; formed = ok.formed; few = ok.few }

  stands_laid : Stands p bodies laid.code laid.heap w.frame w.q (with_used b.at laid.used) (in_main p K₀)
  stands_laid =
      let x = b.stands.holds in
      record {
        names = b.stands.names;
        holds = record {
          values = x.values;
          typed = x.typed;
          env = x.env;
          held = held_kept x.held kept.same kept.grown (record { same = λ j l. refl });
          inputs = x.inputs;
          outputs = x.outputs;
          entries = x.entries;
          neqs = x.neqs;
          count = x.count;
          fits = omega (arith, kept.most, b.few);
          heap_size = kept.whole;
          frame_size = x.frame_size;
          q_size = x.q_size;
        };
        past = b.stands.past;
        term = term_agrees p bodies code b.stands.term (record { same = λ j l m. kept.links j });
        fresh = b.stands.fresh;
      }

  -- THE LAW of the walk of a job
  pub begun_means : Leaves (walked_of (walk_back_from p lim N (some K₀))) (on_begun code count k a w w.answer)
  begun_means =
      rw b.on (laid_means p bodies laid.code accepted K₀ main (begun_left (Ok (with_used b.at laid.used)) laid.heap w.frame w.q) (with_used b.at laid.used) stands_laid
      (constants_held count b.at.used code w.heap wide b.stands.holds.heap_size empty) (omega (arith, kept.most, b.few)) lim few-lines few-steps N most k of_steps of-walk of-table place sound-all a lines long)
