-- The walk over the storages is the walk of semantics/proofs/Backtrack.antt.
use Prim.Native.Nat.{ℕ, zero, suc, ◌+◌, ◌-◌, ◌≤◌, ◌<◌}
use mathlib.Core.Path.{◌≡◌, refl, ap, subst, ◌∙◌, sym as inv}
use mathlib.Core.Bool.{Bool, true, false, cond, false≢true}
use mathlib.Core.List.{List, [], ◌∷◌}
use mathlib.Core.Option.{Option, none, some}
use mathlib.Core.Logic.{◌⊎◌, inl, inr}
use native.Mathlib.Omega.{arith}
use lib.Dec.{eqb}
use lib.ListN.{length, set, length-set}
use borrow.Author.Tests.{le-leb, lt-leb, eq-eqb, ne_eqb, ltb-true, ltb-false}
use Rattle.std.specs.Prelude.{Ok, Err}
use Rattle.expressions.specs.Intersection.{Intersected, common, disjoint, too_large, intersect}
use Rattle.language.specs.Program.{Prog}
use Rattle.semantics.specs.Configuration.{nodes_state, Configuration}
use Rattle.semantics.specs.Trace.{Successors, terminal, called, branches, successors}
use Rattle.semantics.specs.Tree.{Node, root, after_decision, meeting_at}
use Rattle.semantics.specs.Walk.{state_over, meeting_over, Limits, Stop, stop21, Untaken, table_full, with_line, at_end, taken, Walked, going, stopped}
use Rattle.semantics.proofs.Backtrack.{Choice, trail_of, replay, PathState, on_path, with_todo, with_path, Turn, ahead, exhausted, halted, after_end, choose, extend, extend_unless, backtrack, backtrack_to, ahead_if, replay_path, or_back, turn, walk_back}
use Rattle.semantics.proofs.Paths.{trail_length}
use Rattle.semantics.proofs.Soundness.{Small, Sound}
use Rattle.semantics.proofs.Tracing.{Scoped}
use Rattle.semantics.proofs.Reaching.{Reaches, reaches_decision, reaches_steps, reaches_replay}
use Rattle.heap.specs.Twins.Moving.{Left}
use Rattle.restrictions.specs.declared.failure.Failure.TheVariants.{Over as MovedOver}
use Rattle.heap.proofs.NodeLaws.{held_few}
use Rattle.saving.specs.Twins.Records.{Record, record_cells}
use Rattle.values.proofs.StateLaws.{Arrives}
use Rattle.values.proofs.ContractionLaws.{pair_on, pair_over}
use Rattle.tracing.specs.Twins.Asking.{AskLeft, asked_at, taken_as}
use Rattle.tracing.specs.declared.ask.Asked.{Asked}
use Rattle.tracing.proofs.ShowLaws.{Accepted}
use Rattle.trails.specs.Twins.TrailCells.{latest_pending, backtracked, path_left}
use Rattle.trails.proofs.TrailLaws.{PathHeld, path_shorter, Backed, spent, turned, backs, backtrack_ended, backtrack_held}
use Rattle.positions.specs.Twins.Positions.{at_depth, moved_from}
use Rattle.replay.specs.Twins.Replaying.{ReplayLeft, brought_back}
use Rattle.positions.specs.declared.position.Bounds.{Bounds}
use Rattle.replay.proofs.RecordLaws.{Entered, Rooted, passed, saves_more, saves_below}
use Rattle.replay.proofs.ReplayLaws.{Holds, showing, Waiting, bring_means}
use Rattle.turns.specs.Twins.Finding.{walked, counted}
use Rattle.turns.specs.Twins.States.{state_at, after_move}
use Rattle.walk.specs.Twins.Making.{sized_move, branch_taken}
use Rattle.walk.specs.Twins.Backing.{false_taken, went_back, TurnLeft, beside_answer}
use Rattle.walk.specs.Twins.Walking.{walk_turn, WalkedLeft, walked_from}
use Rattle.turns.specs.declared.found.Found.{Found}
use Rattle.turns.specs.declared.found.Ending.{Ending}
use Rattle.turns.specs.declared.found.Ending.TheVariants.{Done, Over, Spent}
use Rattle.turns.specs.declared.state.State.{State}
use Rattle.walk.proofs.TurnLaws.{ending_of, SameFound, Undone, reaches_small, Walking, Ready, Exhausted, Takes, NodeMeans, node_means}

-- a path that goes back has its storage
back_length : (path : List ℕ) (depth : ℕ) → length (backtracked path depth).path ≡ length path
unfolding backtracked
back_length path depth = pick (eqb (latest_pending path depth) 0)
  where
    pick : (b : Bool) → length (cond b (path_left 0 path) (path_left (latest_pending path depth) (set path (latest_pending path depth - 1) 0))).path ≡ length path
    pick true = refl
    pick false = length-set path (latest_pending path depth - 1) 0

-- the ending of a walk
abbrev pub end_of : Walked → Ending
end_of (going r) = Done
end_of (stopped z r) = ending_of z

module _ (p : Prog) (bodies : ℕ → ℕ) (code : List ℕ) (ok : Accepted p bodies code) (K₀ : Configuration) (N : ℕ) (most : N ≤ 1000) (y₁ : Node) (b₀ : Record) (base : ℕ) (bottom : base ≡ length (record_cells b₀)) (low-base : b₀.at.used ≤ 16384)
    (entered₀ : Entered p K₀) (m₁ : ℕ) (leads₁ : Rooted p bodies code K₀ N y₁ b₀ [] m₁ y₁) (first : b₀.depth ≡ 0)
    (lim : Limits) (few-lines : lim.table ≤ 256) (bounds : Bounds) (of_steps : bounds.steps ≡ N) (of-table : bounds.table ≡ lim.table) (of-base : bounds.base ≡ base) where
  abbrev E : Configuration → Type 0
  E K = Entered p K

  abbrev Waits : List Choice → Type 0
  Waits ds = Waiting p bodies code ok K₀ N most y₁ b₀ base bottom low-base ds

  abbrev Left-undone : List Choice → Type 0
  Left-undone ds = Undone p bodies code ok K₀ N most y₁ b₀ base bottom low-base entered₀ m₁ leads₁ first lim few-lines bounds of_steps of-table of-base ds

  abbrev Readied : Untaken → PathState → List ℕ → List ℕ → List ℕ → List ℕ → List ℕ → List ℕ → State → Asked → Bool → Type 0
  Readied i s h f q path saved a st k b = Ready p bodies code ok K₀ N most y₁ b₀ base bottom low-base entered₀ m₁ leads₁ first lim few-lines bounds of_steps of-table of-base i s h f q path saved a st k b

  abbrev Taking : Untaken → PathState → TurnLeft → Type 0
  Taking i s w = Takes p bodies code ok K₀ N most y₁ b₀ base bottom low-base entered₀ m₁ leads₁ first lim few-lines bounds of_steps of-table of-base i s w

  abbrev AtNode : Turn → TurnLeft → Type 0
  AtNode t w = NodeMeans p bodies code ok K₀ N most y₁ b₀ base bottom low-base entered₀ m₁ leads₁ first lim few-lines bounds of_steps of-table of-base t w

  abbrev Walks : ℕ → Node → PathState → List ℕ → List ℕ → List ℕ → List ℕ → List ℕ → List ℕ → State → Type 0
  Walks m y s h f q path saved a st = Walking p bodies code ok K₀ N most y₁ b₀ base bottom low-base entered₀ m₁ leads₁ first lim few-lines bounds of_steps of-table of-base m y s h f q path saved a st

  abbrev NextMeans : Turn → TurnLeft → Type 0
  NextMeans (ahead i s) w = Taking i s w
  NextMeans (exhausted s) w = (g : Found) × (w.turn ≡ Err (walked Done g)) × SameFound s w.answer g
  NextMeans (halted z s) w = (g : Found) × (w.turn ≡ Err (walked (ending_of z) g)) × SameFound s w.answer g

  undone_latest : (cs : List Choice) → Left-undone cs → (b : Choice) (ds : List Choice) → backtrack cs ≡ b ∷ ds → Waits ds × Left-undone ds
  undone_latest [] u b ds e = let z : ◌≡◌ {A = ℕ} 0 1 = cc in absurd (omega arith)
  undone_latest (c ∷ cs) u b ds e = pick c.pending refl e (undone_latest cs u.1 b ds)
    where
      pick : (t : Bool) → c.pending ≡ t → backtrack_to (backtrack cs) cs t ≡ b ∷ ds → (backtrack cs ≡ b ∷ ds → Waits ds × Left-undone ds) → Waits ds × Left-undone ds
      pick true f g again = let i : cs ≡ ds = cc in subst (λ (l : List Choice). Waits l × Left-undone l) i (u.0 f, u.1)
      pick false f g again = again g

  abbrev off : Choice
  off = record { taken = false; pending = false }

  -- going back
  module _ (s : PathState) (h f q path saved a : List ℕ) (st : State) (x : Exhausted p bodies code ok K₀ N most y₁ b₀ base bottom low-base entered₀ m₁ leads₁ first lim few-lines bounds of_steps of-table of-base s h f q path saved a st) where
    abbrev goes : TurnLeft
    goes = beside_answer a (went_back code bounds st h f q path saved)

    found_on : (cs : List Choice) → SameFound (with_path cs s) a st.found
    found_on cs = record { lines = x.found.lines; long = x.found.long; counts = x.found.counts; cuts = x.found.cuts }

    back_done : backtrack s.path ≡ [] → NextMeans (exhausted (with_path [] s)) goes
    unfolding went_back
    back_done e = rw (eq-eqb (backtracked path st.at.node.depth).depth 0 (backtrack_ended x.way.held e)) (st.found, refl, found_on [])

    module _ (ds : List Choice) (e : backtrack s.path ≡ off ∷ ds) where
      abbrev after : List ℕ
      after = (backtracked path st.at.node.depth).path

      left_off : ((backtracked path st.at.node.depth).depth ≡ suc (length ds)) × PathHeld (off ∷ ds) after (backtracked path st.at.node.depth).depth
      left_off = backtrack_held x.way.held off ds e

      there : PathHeld (off ∷ ds) after (suc (length ds))
      there = subst (λ (i : ℕ). PathHeld (off ∷ ds) after i) left_off.0 left_off.1

      undone : Waits ds × Left-undone ds
      undone = undone_latest s.path x.way.undone off ds e

      abbrev waiting : Waits ds
      waiting = undone.0

      steps_are : (suc waiting.left + waiting.node.steps ≡ N) × (length ds ≤ waiting.node.steps)
      steps_are = let k = reaches_steps p E waiting.leads in (omega (arith, k.0), omega (arith, k.1, trail_length ds))

      abbrev brings : ReplayLeft
      brings = brought_back code after base (length ds) N st.at.top h f q saved

      brought : Holds p bodies code ok K₀ N most y₁ b₀ base bottom low-base waiting.node ds brings.position brings.heap brings.frame brings.q brings.saved
      brought = bring_means p bodies code ok K₀ N most y₁ b₀ base bottom low-base entered₀ m₁ leads₁ first off ds waiting (omega (arith, steps_are.0, steps_are.1)) after (path_shorter there) h f q saved x.of_frame x.of_q x.kept e

      abbrev asks : AskLeft
      asks = asked_at code brings.position.node.at brings.heap brings.frame

      ready : Readied (record { left = waiting.left; node = after_decision waiting.node false waiting.no_to }) (with_path (off ∷ ds) s) asks.heap brings.frame brings.q after brings.saved a
          (state_at (at_depth brings.position.node (suc (length ds)) brings.position.top) st.found) asks.asked false
      ready =
          let v = showing p bodies code ok K₀ N most y₁ b₀ base bottom low-base brought (branches waiting.yes_to (some waiting.no_to)) waiting.decides in
          let k = brought.kept in record {
            before = brings.heap;
            to = v.5;
            low = brought.low;
            kept = record { older = k.older; last = k.last; holding = k.holding; saves = passed k.saves };
            deep = ap suc (inv brought.steps);
            early = omega (arith, steps_are.0, brought.steps);
            depth = refl;
            leads = λ g. reaches_decision p E false waiting.leads waiting.decides refl g;
            small_leads = λ g. reaches_decision p Small false (reaches_small p bodies code ok K₀ N most y₁ b₀ base bottom low-base entered₀ m₁ leads₁ first lim few-lines bounds of_steps of-table of-base waiting.leads) waiting.decides refl g;
            way = record { held = there; long = back_length path st.at.node.depth ∙ x.way.long; undone = ((λ i. absurd (false≢true i)), undone.1) };
            found = found_on (off ∷ ds);
          }

      went : went_back code bounds st h f q path saved ≡ false_taken code bounds.walk after (suc (length ds)) st.found brings
      unfolding went_back
      went = let z : suc (length ds) - 1 ≡ length ds = omega arith in rw (left_off.0, ne_eqb (suc (length ds)) 0 (λ i. omega arith), z, of-base, of_steps)

      back_taken : NextMeans (replay_path p N (root K₀) s (off ∷ ds)) goes
      back_taken =
          let r = reaches_replay p E false waiting.leads waiting.decides refl in
          rw (r, went) (record {
            heap = asks.heap;
            frame = brings.frame;
            q = brings.q;
            path = after;
            saved = brings.saved;
            answer = a;
            from = state_at (at_depth brings.position.node (suc (length ds)) brings.position.top) st.found;
            asked = asks.asked;
            branch = false;
            is = refl;
            ready = ready;
          })

    back_means : NextMeans (replay_path p N (root K₀) s (backtrack s.path)) goes
    back_means = go (backtrack s.path) (backs s.path) refl
      where
        go : (bs : List Choice) → Backed s.path bs → backtrack s.path ≡ bs → NextMeans (replay_path p N (root K₀) s bs) goes
        go bs spent e = back_done e
        go bs (turned c ds es f q) e = back_taken ds e

  -- The transition that a turn makes, on this path or behind it, is that of the definitions.
  next_means : {m : ℕ} {y : Node} {s : PathState} {h f q path saved a : List ℕ} {st : State} → Walks m y s h f q path saved a st →
      NextMeans (or_back p N (root K₀) (extend lim m y (successors p y.conf) s)) (walk_turn code bounds st h f q path saved a)
  next_means {m} {y} {s} {h} {f} {q} {path} {saved} {a} {st} w = go (extend lim m y (successors p y.conf) s) (walk_turn code bounds st h f q path saved a) (node_means p bodies code ok K₀ N most y₁ b₀ base bottom low-base entered₀ m₁ leads₁ first lim few-lines bounds of_steps of-table of-base w)
    where
      go : (t : Turn) (v : TurnLeft) → AtNode t v → NextMeans (or_back p N (root K₀) t) v
      go (ahead i u) v k = k
      go (exhausted u) v k = rw k.is (back_means u k.heap k.frame k.q k.path k.saved k.answer k.from k.done)
      go (halted z u) v k = k

  abbrev turn_count : Turn → ℕ
  turn_count (ahead i s) = s.count
  turn_count (exhausted s) = s.count
  turn_count (halted z s) = s.count

  -- only a transition that is made counts
  end_count : (s : PathState) (k : ℕ) (I : Intersected) → turn_count (after_end s.path (at_end lim k (with_todo [] s) I)) ≡ s.count
  end_count s k disjoint = refl
  end_count s k too_large = refl
  end_count s k (common Q) = pick (table_full lim Q (with_todo [] s))
    where
      pick : (t : Bool) → turn_count (after_end s.path (with_line k Q (with_todo [] s) t)) ≡ s.count
      pick true = refl
      pick false = refl

  choose_count : (m : ℕ) (y : Node) (a b : Option Configuration) (s : PathState) → turn_count (choose m y a b s) ≡ s.count
  choose_count m y none none s = refl
  choose_count m y none (some d) s = refl
  choose_count m y (some c) none s = refl
  choose_count m y (some c) (some d) s = refl

  extend_count : (m : ℕ) (y : Node) (S : Successors) (s : PathState) → turn_count (extend lim m y S s) ≡ s.count
  extend_count zero y (terminal u) s = end_count s y.steps (intersect meeting_over (meeting_at y u))
  extend_count (suc m) y (terminal u) s = end_count s y.steps (intersect meeting_over (meeting_at y u))
  extend_count zero y (called c) s = refl
  extend_count zero y (branches a b) s = refl
  extend_count (suc m) y (called c) s = refl
  extend_count (suc m) y (branches a b) s = choose_count m y a b s

  back_count : (s : PathState) (cs : List Choice) → turn_count (replay_path p N (root K₀) s cs) ≡ s.count
  back_count s [] = refl
  back_count s (c ∷ cs) = pick (replay p N (root K₀) (trail_of (c ∷ cs)))
    where
      pick : (o : Option Untaken) → turn_count (ahead_if (with_path (c ∷ cs) s) o) ≡ s.count
      pick none = refl
      pick (some i) = refl

  or_count : (t : Turn) → turn_count (or_back p N (root K₀) t) ≡ turn_count t
  or_count (ahead i s) = refl
  or_count (exhausted s) = back_count s (backtrack s.path)
  or_count (halted z s) = refl

  -- What a walk that came to a turn leaves: "23 a transition would be number W+1" where one is still ahead.
  abbrev pub Comes : Turn → WalkedLeft → Type 0
  Comes (ahead i s) w = (g : Found) × (w.walked ≡ walked Spent g) × SameFound s w.answer g
  Comes (exhausted s) w = (g : Found) × (w.walked ≡ walked Done g) × SameFound s w.answer g
  Comes (halted z s) w = (g : Found) × (w.walked ≡ walked (ending_of z) g) × SameFound s w.answer g

  exhausted_stays : (v : ℕ) (s : PathState) → walk_back p lim N (root K₀) v (exhausted s) ≡ exhausted s
  unfolding walk_back
  exhausted_stays zero s = refl
  exhausted_stays (suc v) s = refl

  halted_stays : (v : ℕ) (z : Stop) (s : PathState) → walk_back p lim N (root K₀) v (halted z s) ≡ halted z s
  unfolding walk_back
  halted_stays zero z s = refl
  halted_stays (suc v) z s = refl

  module _ (of-walk : bounds.walk ≡ lim.walk) (few-steps : lim.walk ≤ 1000000)
      (sound-all : (bs : List Bool) (m : ℕ) (y : Node) → Reaches p Small N (root K₀) bs m y → Sound p y.conf × Scoped p y.conf) where
    abbrev Goes : ℕ → ℕ → Type 0
    Goes v left = (m : ℕ) (y : Node) (s : PathState) (h f q path saved a : List ℕ) (st : State) → Walks m y s h f q path saved a st → s.count + v ≡ lim.walk →
        Comes (walk_back p lim N (root K₀) v (or_back p N (root K₀) (extend lim m y (successors p y.conf) s))) (walked_from code bounds left st h f q path saved a)

    -- the transition to i
    module _ (i : Untaken) (s : PathState) {W : TurnLeft} (T : Taking i s W) (v : ℕ) (c : s.count + suc v ≡ lim.walk) where
      abbrev st : State
      st = T.from

      abbrev r : Readied i s T.heap T.frame T.q T.path T.saved T.answer st T.asked T.branch
      r = T.ready

      abbrev step : Left
      step = taken_as code st.at.node.at T.asked T.branch T.heap T.frame T.q

      abbrev next : PathState
      next = on_path s.path (taken [] (with_todo [] s))

      free : st.found.count < bounds.walk
      free = omega (arith, r.found.counts, of-walk)

      found_next : SameFound next T.answer (counted st.found)
      found_next = record { lines = r.found.lines; long = r.found.long; counts = omega (arith, r.found.counts); cuts = r.found.cuts }

      module _ (size : nodes_state i.node.conf.cr ≤ 4096) (to : Arrives p bodies code r.before st.at.node.at.used i.node.conf step) where
        entered_next : E i.node.conf
        entered_next = let t = sound-all (trail_of s.path) i.left i.node (r.small_leads size) in record { sound = t.0; scoped = t.1; size = size }

        abbrev state_next : State
        state_next = state_at (moved_from st.at to.at false) (counted st.found)

        on : Walks i.left i.node next step.heap step.frame step.q T.path T.saved T.answer state_next
        on =
            let t = r.kept in record {
              holds = record {
                stands = to.stands;
                entered = entered_next;
                steps = omega (arith, r.deep, r.early);
                depth = r.depth;
                low = omega (arith, to.most, size, r.low);
                kept = record {
                  older = t.older;
                  last = t.last;
                  holding = t.holding;
                  saves = saves_more p bodies code K₀ N y₁ b₀ (saves_below p bodies code K₀ N y₁ b₀ t.saves to.same to.stands.holds.heap_size) to.grown;
                };
              };
              leads = r.leads entered_next;
              way = r.way;
              found = found_next;
            }

        few : to.at.entries ≤ 4120
        few = let v = to.stands.holds in omega (arith, v.entries, held_few v.held v.frame_size (omega arith))

        moves_on : after_move st (sized_move step.answer step.frame) ≡ Ok state_next
        moves_on = rw (to.moved, pair_on to.stands.holds few size)

      -- "21 over 4,096 nodes: .. after a transition"
      over_move : 4096 < nodes_state i.node.conf.cr → ((step.answer ≡ Err MovedOver) × (4097 < nodes_state i.node.conf.cr)) ⊎ Arrives p bodies code r.before st.at.node.at.used i.node.conf step →
          after_move st (sized_move step.answer step.frame) ≡ Err (walked Over (counted st.found))
      over_move l (inl o) = rw o.0
      over_move l (inr to) = let v = to.stands.holds in rw (to.moved, pair_over v (omega (arith, v.entries, held_few v.held v.frame_size (omega arith))) l)

      arrives : nodes_state i.node.conf.cr ≤ 4096 → ((step.answer ≡ Err MovedOver) × (4097 < nodes_state i.node.conf.cr)) ⊎ Arrives p bodies code r.before st.at.node.at.used i.node.conf step →
          Arrives p bodies code r.before st.at.node.at.used i.node.conf step
      arrives l (inl o) = absurd (omega (arith, o.1))
      arrives l (inr to) = to

    -- a turn
    turn_ends : (v left : ℕ) (st : State) (h f q path saved a : List ℕ) (t : Turn) → NextMeans t (walk_turn code bounds st h f q path saved a) → turn_count t + v ≡ lim.walk → ((u : ℕ) → v ≡ suc u → Goes u left) →
        Comes (walk_back p lim N (root K₀) v t) (walked_from code bounds (suc left) st h f q path saved a)
    unfolding walk_back turn walked_from branch_taken
    turn_ends v left st h f q path saved a (exhausted s) x c again = rw (exhausted_stays v s, x.1) (x.0, refl, x.2)
    turn_ends v left st h f q path saved a (halted z s) x c again = rw (halted_stays v z s, x.1) (x.0, refl, x.2)
    turn_ends zero left st h f q path saved a (ahead i s) x c again =
        rw (x.is, le-leb bounds.walk x.from.found.count (omega (arith, x.ready.found.counts, of-walk))) (x.from.found, refl, x.ready.found)
    turn_ends (suc v) left st h f q path saved a (ahead i s) x c again = go (state_over i.node.conf.cr) refl
      where
        go : (o : Bool) → state_over i.node.conf.cr ≡ o →
            Comes (walk_back p lim N (root K₀) v (or_back p N (root K₀) (extend_unless p lim i (on_path s.path (taken [] (with_todo [] s))) o))) (walked_from code bounds (suc left) st h f q path saved a)
        go true e =
            let m = over_move i s x v c (ltb-true 4096 (nodes_state i.node.conf.cr) e) (x.ready.to.to i.node.conf refl) in
            rw (halted_stays v stop21 (on_path s.path (taken [] (with_todo [] s))), x.is, lt-leb bounds.walk x.from.found.count (free i s x v c), m) (counted x.from.found, refl, found_next i s x v c)
        go false e =
            let size = ltb-false 4096 (nodes_state i.node.conf.cr) e in
            let to = arrives i s x v c size (x.ready.to.to i.node.conf refl) in
            let z = step i s x v c in
            rw (x.is, lt-leb bounds.walk x.from.found.count (free i s x v c), moves_on i s x v c size to)
            (again v refl i.left i.node (on_path s.path (taken [] (with_todo [] s))) z.heap z.frame z.q x.path x.saved x.answer (state_next i s x v c size to) (on i s x v c size to) (omega (arith, c)))

    -- THE LAW of the loop: it is `walk_back`.
    pub walk_goes : (v left : ℕ) → v < left → Goes v left
    walk_goes v zero l m y s h f q path saved a st w c = absurd (omega arith)
    walk_goes v (suc left) l m y s h f q path saved a st w c =
        turn_ends v left st h f q path saved a (or_back p N (root K₀) (extend lim m y (successors p y.conf) s)) (next_means w)
        (omega (arith, c, or_count (extend lim m y (successors p y.conf) s), extend_count m y (successors p y.conf) s)) (λ u e. walk_goes u left (omega arith))
