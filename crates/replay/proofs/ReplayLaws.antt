-- A path worked out again leads to the node of the choice that is looked for, with what was saved on the way.
use Prim.Native.Nat.{ℕ, zero, suc, ◌+◌, ◌*◌, ◌≤◌, ◌<◌}
use mathlib.Core.Path.{◌≡◌, refl, ap, subst, ◌∙◌, sym as inv}
use mathlib.Core.Bool.{Bool, true, false}
use mathlib.Core.List.{List, [], ◌∷◌, ◌++◌, append-nil, append_assoc}
use mathlib.Core.Option.{Option, some}
use mathlib.Core.Logic.{◌⊎◌, inl, inr}
use native.Mathlib.Omega.{arith}
use lib.ListN.{length, take, length-append}
use lib.Seq.{length-take-le}
use borrow.Author.Tests.{le-leb, lt-leb}
use Rattle.std.specs.Prelude.{Err}
use Rattle.language.specs.Program.{Prog}
use Rattle.semantics.specs.Configuration.{nodes_state, Configuration}
use Rattle.semantics.specs.Trace.{Successors, called, branches, successors}
use Rattle.semantics.specs.Tree.{Node, root, after_call, after_decision}
use Rattle.semantics.proofs.Backtrack.{Choice, trail_of, backtrack}
use Rattle.semantics.proofs.Reaching.{branch_of, Reaches, here, by_call, by_decision, reaches_call, reaches_decision, reaches_steps, reaches_good}
use Rattle.heap.specs.Twins.Moving.{Left}
use Rattle.restrictions.specs.declared.failure.Failure.TheVariants.{Over}
use Rattle.runs.proofs.RunLaws.{Below}
use Rattle.saving.specs.Twins.Saving.{SaveLeft, saved_to, LoadLeft, loaded}
use Rattle.saving.specs.Twins.Records.{Record, record_of, record_cells, records_cells, Fits, Holding}
use Rattle.saving.proofs.HoldingLaws.{records_one, records_more, records_snoc, load_means, load_holding, fit_last}
use Rattle.saving.proofs.RecordLaws.{record_length}
use Rattle.saving.proofs.SavedLaws.{SaveHeld, save_means}
use Rattle.constants.proofs.ConstantLaws.{Constants}
use Rattle.values.proofs.StateLaws.{trees, Arrives, Leads, nodes_length}
use Rattle.values.proofs.PairLaws.{entries_few}
use Rattle.tracing.specs.Twins.Asking.{asked_at, is_call, taken_as}
use Rattle.tracing.proofs.ShowLaws.{Accepted, Shows, shows}
use Rattle.trails.specs.Twins.TrailCells.{taken_at, pending_at}
use Rattle.trails.proofs.TrailLaws.{PathHeld, path_at}
use Rattle.trails.proofs.ReachLaws.{Decides, reaches_rest, first_of, none_left, trail_joined}
use Rattle.positions.specs.Twins.Positions.{moved_from}
use Rattle.replay.specs.Twins.Rooms.{RoomLeft, made_room}
use Rattle.replay.specs.Twins.Replaying.{is_there, saved_if, ReplayLeft, replay_left, stepped_to, follow_step, follow_from, brought_back}
use Rattle.positions.specs.Twins.Positions.{kept_top}
use Rattle.positions.specs.declared.position.Position.{Position}
use Rattle.replay.proofs.RecordLaws.{Entered, Recorded, loaded_stands, Rooted, Saves, only, passed, keeps, saves_more, saves_below, saves_constants, saves_first, saves_take, Resumed, from_base, from_choice, resumed_latest}
use Rattle.replay.proofs.RoomLaws.{Kept, At, room_made_lem}

module _ (p : Prog) (bodies : ℕ → ℕ) (code : List ℕ) (ok : Accepted p bodies code) (K₀ : Configuration) (N : ℕ) (most : N ≤ 1000) (y₁ : Node) (b₀ : Record)
    (base : ℕ) (bottom : base ≡ length (record_cells b₀)) (low-base : b₀.at.used ≤ 16384) where
  abbrev pub Holds : Node → List Choice → Position → List ℕ → List ℕ → List ℕ → List ℕ → Type 0
  Holds x cs pos h f q saved = At p bodies code K₀ N y₁ b₀ 45100 x cs pos h f q saved

  abbrev Root : List Choice → ℕ → Node → Type 0
  Root cs m y = Rooted p bodies code K₀ N y₁ b₀ cs m y

  -- what a node that is held shows
  module _ {x : Node} {cs : List Choice} {pos : Position} {h f q saved : List ℕ} (a : Holds x cs pos h f q saved) where
    pub few_neqs : length x.conf.cr.neqs ≤ 2047
    few_neqs = omega (arith, a.entered.size, nodes_length (x.conf.cr.con.io.out ∷ []))

    pub small : nodes_state x.conf.cr ≤ 4097
    small = omega (arith, a.entered.size)

    pub roomy : pos.node.at.used + 8192 ≤ 65535
    roomy = omega (arith, a.low)

    pub at_constants : Constants code h pos.node.at.used
    at_constants = saves_constants p bodies code K₀ N y₁ b₀ a.kept.saves

    abbrev pub Showing : Successors → Type 0
    Showing S = Shows p bodies code ok a.stands at_constants small few_neqs a.entered.sound.simple a.entered.sound.fresh a.entered.scoped roomy S

    pub showing : (S : Successors) → successors p x.conf ≡ S → Showing S
    showing S e = subst Showing e (shows p bodies code ok a.stands at_constants small few_neqs a.entered.sound.simple a.entered.sound.fresh a.entered.scoped roomy)

    -- kept by what is written behind it
    pub kept_later : {g s : List ℕ} {k top : ℕ} {ds : List Choice} → Kept p bodies code K₀ N y₁ b₀ h s pos.node.at.used top ds → Below pos.node.at.used g h → length g ≡ 65535 → pos.node.at.used ≤ k →
        Kept p bodies code K₀ N y₁ b₀ g s k top ds
    kept_later t b l m = record { older = t.older; last = t.last; holding = t.holding; saves = saves_more p bodies code K₀ N y₁ b₀ (saves_below p bodies code K₀ N y₁ b₀ t.saves b l) m }

    -- where a transition leads, if it is not over
    pub landed : {L : Configuration} {w : Left} → Entered p L → Leads p bodies code h pos.node.at.used (some L) w → Arrives p bodies code h pos.node.at.used L w
    landed {L} {w} g l = go (l.to L refl)
      where
        go : ((w.answer ≡ Err Over) × (4097 < nodes_state L.cr)) ⊎ Arrives p bodies code h pos.node.at.used L w → Arrives p bodies code h pos.node.at.used L w
        go (inl o) = absurd (omega (arith, o.1, g.size))
        go (inr r) = r

    -- saved for the false branch, where it is untaken
    module _ (m : ℕ) (rooted : Root cs m x) (decides : Decides p x) (room : pos.node.at.used ≤ 40959) (place : pos.node.at.place < 4097) (within : length cs ≤ 1000) (early : x.steps ≤ 1000) where
      abbrev made : Record
      made = record_of f q pos.node

      made_fits : Fits made
      made_fits =
          let v = a.stands.holds in
          let n = entries_few v small in
          let i = few_neqs in
          let t = nodes_length (trees x.conf.cr v.values) in
          record {
            entries = length-take-le (3 * pos.node.at.entries) f (omega (arith, v.frame_size));
            sides = length-take-le (2 * pos.node.at.neqs) q (omega (arith, v.q_size, v.count));
            in_frame = omega arith;
            in_q = omega (arith, v.count);
            steps = omega (arith, a.steps);
            depth = omega (arith, a.depth);
            inputs = omega (arith, v.inputs, a.entered.size, nodes_length x.conf.cr.con.io.ins);
            outputs = omega (arith, v.outputs);
            used = omega arith;
            place = omega arith;
          }

      made_recorded : Recorded p bodies code h made x
      made_recorded = record { frame = f; q = q; stands = a.stands; constants = at_constants; entries = refl; sides = refl; steps = a.steps; room = room }

      abbrev EitherHeld : SaveLeft → List Record → Type 0
      EitherHeld w rs = Holding w.saved w.top (rs ++ (made ∷ [])) ⊎ Holding w.saved w.top rs

      abbrev KeptBy : Choice → SaveLeft → Type 0
      KeptBy ch w = Kept p bodies code K₀ N y₁ b₀ h w.saved pos.node.at.used w.top (ch ∷ cs)

      one_more : (ch : Choice) → ch.pending ≡ true → (w : SaveLeft) (qs : List Record) (o : Record) → Saves p bodies code K₀ N y₁ b₀ h pos.node.at.used cs qs o → EitherHeld w (qs ++ (o ∷ [])) → KeptBy ch w
      one_more ch e w qs o t (inl u) = record { older = qs ++ (o ∷ []); last = made; holding = u; saves = keeps {used = pos.node.at.used} made m x e rooted decides made_recorded a.depth (omega arith) t }
      one_more ch e w qs o t (inr u) = record { older = qs; last = o; holding = u; saves = passed t }

      saved_kept : (ch : Choice) → ch.pending ≡ true → KeptBy ch (saved_to f q pos.node pos.top base saved)
      saved_kept ch e =
          let k = a.kept in
          let w = saved_to f q pos.node pos.top base saved in
          let l = saves_first p bodies code K₀ N y₁ b₀ k.saves in
          let s : SaveHeld (b₀ ∷ l.0) made 1 w = save_means (subst (λ (rs : List Record). Holding saved pos.top rs) l.1 k.holding) base bottom f q pos.node made_fits in
          let o = saves_take p bodies code K₀ N y₁ b₀ k.saves s.k s.least (omega (arith, s.most, ap length l.1)) in
          let i : take s.k (b₀ ∷ l.0) ≡ o.qs ++ (o.r ∷ []) = ap (take s.k) (inv l.1) ∙ o.is in
          one_more ch e w o.qs o.r o.saves (subst (λ (rs : List Record). EitherHeld w rs) i s.holds)

      -- THE LAW of saving at a choice
      pub choice_kept : (ch : Choice) → KeptBy ch (saved_if ch.pending pos base f q saved)
      choice_kept ch = go ch.pending refl
        where
          go : (b : Bool) → ch.pending ≡ b → KeptBy ch (saved_if b pos base f q saved)
          go true e = saved_kept ch e
          go false e = let k = a.kept in record { older = k.older; last = k.last; holding = k.holding; saves = passed k.saves }

  -- the node of a choice that is looked for
  module _ (path : List ℕ) (ds : List Choice) {depth : ℕ} (on-path : PathHeld ds path depth) (within : length ds ≤ 1000) (y : Node) (decides : Decides p y) where
    abbrev goes : ℕ → Position → List ℕ → List ℕ → List ℕ → List ℕ → ReplayLeft
    goes left pos h f q saved = follow_from code path base (length ds) left pos h f q saved

    abbrev Reached : ReplayLeft → Type 0
    Reached w = Holds y ds w.position w.heap w.frame w.q w.saved

    there : (left : ℕ) (pos : Position) (h f q saved : List ℕ) → is_there code pos.node (length ds) ≡ true → goes (suc left) pos h f q saved ≡ replay_left pos h f q saved
    unfolding follow_from
    there left pos h f q saved e = rw e

    on : (left : ℕ) (pos : Position) (h f q saved : List ℕ) → is_there code pos.node (length ds) ≡ false → (w : ReplayLeft) → follow_step code path base pos h f q saved ≡ w →
        goes (suc left) pos h f q saved ≡ goes left w.position w.heap w.frame w.q w.saved
    unfolding follow_from
    on left pos h f q saved e w s = rw (e, s)

    -- one transition of the path
    module _ (pos : Position) (h f q saved : List ℕ) where
      abbrev roomed : RoomLeft
      roomed = made_room base pos saved h f

      step_call : is_call (asked_at code roomed.position.node.at roomed.heap roomed.frame).asked ≡ true →
          let a = asked_at code roomed.position.node.at roomed.heap roomed.frame in
          follow_step code path base pos h f q saved ≡ stepped_to roomed.position false saved (taken_as code roomed.position.node.at a.asked true a.heap roomed.frame q)
      unfolding follow_step
      step_call e = rw e

      step_choice : is_call (asked_at code roomed.position.node.at roomed.heap roomed.frame).asked ≡ false → (taken pending : Bool) → taken_at path roomed.position.node.depth ≡ taken → pending_at path roomed.position.node.depth ≡ pending →
          let a = asked_at code roomed.position.node.at roomed.heap roomed.frame in
          let k = saved_if pending roomed.position base roomed.frame q saved in
          follow_step code path base pos h f q saved ≡ stepped_to (record { node = roomed.position.node; top = k.top }) true k.saved (taken_as code roomed.position.node.at a.asked taken a.heap roomed.frame q)
      unfolding follow_step
      step_choice e taken pending t u = rw (e, t, u)

    module _ {x : Node} {es : List Choice} {pos : Position} {h f q saved : List ℕ} (a : Holds x es pos h f q saved) where
      abbrev w : RoomLeft
      w = made_room base pos saved h f

      roomy_held : Holds x es w.position w.heap w.frame q saved
      roomy_held = (room_made_lem p bodies code K₀ N y₁ b₀ base bottom low-base (omega arith) a).0

      room : w.position.node.at.used ≤ 40959
      room = (room_made_lem p bodies code K₀ N y₁ b₀ base bottom low-base (omega arith) a).1

      -- a call
      module _ {L : Configuration} (e : successors p x.conf ≡ called L) (g : Entered p L) (early : x.steps < 1000) where
        called_shows : Showing roomy_held (called L)
        called_shows = showing roomy_held (called L) e

        called_not_there : is_there code pos.node (length ds) ≡ false
        called_not_there = let s = showing a (called L) e in rw (s.3.calls ∙ s.1)

        abbrev after : Left
        after = let b = asked_at code w.position.node.at w.heap w.frame in taken_as code w.position.node.at b.asked true b.heap w.frame q

        arrived : Arrives p bodies code w.heap w.position.node.at.used L after
        arrived = landed roomy_held g (called_shows.2 true)

        abbrev behind : ReplayLeft
        behind = replay_left (moved_from w.position arrived.at false) after.heap after.frame after.q saved

        behind_is : follow_step code path base pos h f q saved ≡ behind
        behind_is = step_call pos h f q saved called_shows.1 ∙ rw arrived.moved

        behind_holds : Holds (after_call x L) es behind.position behind.heap behind.frame behind.q behind.saved
        behind_holds = record {
          stands = arrived.stands;
          entered = g;
          steps = omega (arith, roomy_held.steps);
          depth = roomy_held.depth;
          low = omega (arith, arrived.most, g.size, room);
          kept = kept_later roomy_held roomy_held.kept arrived.same arrived.stands.holds.heap_size arrived.grown;
        }

      -- a decision, of which the path has the choice ch
      module _ {b c : Option Configuration} {L : Configuration} (ch : Choice) (e : successors p x.conf ≡ branches b c) (d : branch_of ch.taken b c ≡ some L) (g : Entered p L) (early : x.steps < 1000) (m : ℕ) (rooted : Root es m x)
          (xs : List Choice) (is : ds ≡ xs ++ (ch ∷ es)) where
        decided_shows : Showing roomy_held (branches b c)
        decided_shows = showing roomy_held (branches b c) e

        fewer : length es < length ds
        fewer = omega (arith, ap length is, length-append xs (ch ∷ es))

        not_there : is_there code pos.node (length ds) ≡ false
        not_there = let s = showing a (branches b c) e in rw (s.6.calls ∙ s.1, lt-leb (length ds) pos.node.depth (omega (arith, a.depth, fewer)))

        of_path : (taken_at path w.position.node.depth ≡ ch.taken) × (pending_at path w.position.node.depth ≡ ch.pending)
        of_path = rw roomy_held.depth (path_at xs ch es (subst (λ (l : List Choice). PathHeld l path depth) is on-path))

        abbrev taken : Left
        taken = let o = asked_at code w.position.node.at w.heap w.frame in taken_as code w.position.node.at o.asked ch.taken o.heap w.frame q

        leading : Leads p bodies code w.heap w.position.node.at.used (some L) taken
        leading = subst (λ (o : Option Configuration). Leads p bodies code w.heap w.position.node.at.used o taken) d (pick ch.taken)
          where
            pick : (t : Bool) → let o = asked_at code w.position.node.at w.heap w.frame in
                Leads p bodies code w.heap w.position.node.at.used (branch_of t b c) (taken_as code w.position.node.at o.asked t o.heap w.frame q)
            pick true = decided_shows.4
            pick false = decided_shows.5

        arrived_there : Arrives p bodies code w.heap w.position.node.at.used L taken
        arrived_there = landed roomy_held g leading

        abbrev keeping : SaveLeft
        keeping = saved_if ch.pending w.position base w.frame q saved

        abbrev next : ReplayLeft
        next = replay_left (moved_from (record { node = w.position.node; top = keeping.top }) arrived_there.at true) taken.heap taken.frame taken.q keeping.saved

        next_is : follow_step code path base pos h f q saved ≡ next
        next_is = step_choice pos h f q saved decided_shows.1 ch.taken ch.pending of_path.0 of_path.1 ∙ rw arrived_there.moved

        next_holds : Holds (after_decision x ch.taken L) (ch ∷ es) next.position next.heap next.frame next.q next.saved
        next_holds =
            let k = choice_kept roomy_held m rooted (record { yes_to = b; no_to = c; branching = e }) room decided_shows.6.place (omega (arith, fewer)) (omega arith) ch in
            record {
              stands = arrived_there.stands;
              entered = g;
              steps = omega (arith, roomy_held.steps);
              depth = omega (arith, roomy_held.depth, fewer);
              low = omega (arith, arrived_there.most, g.size, room);
              kept = kept_later roomy_held k arrived_there.same arrived_there.stands.holds.heap_size arrived_there.grown;
            }

    -- it is there
    arrives : (es xs : List Choice) → ds ≡ xs ++ es → trail_of xs ≡ [] → (left : ℕ) (pos : Position) (h f q saved : List ℕ) → Holds y es pos h f q saved → Reached (goes (suc left) pos h f q saved)
    arrives es xs e t left pos h f q saved a =
        let n : ds ≡ es = e ∙ ap (λ (l : List Choice). l ++ es) (none_left xs t) in
        let s = showing a (branches decides.yes_to decides.no_to) decides.branching in
        let i : is_there code pos.node (length ds) ≡ true = rw (s.6.calls ∙ s.1, le-leb (length ds) pos.node.depth (omega (arith, a.depth, ap length n))) in
        rw (there left pos h f q saved i) (subst (λ (l : List Choice). Holds y l pos h f q saved) (inv n) a)

    -- what is left of the way
    abbrev Leading : ℕ → ℕ → Node → List Bool → Type 0
    Leading m k x bs =
        (xs es : List Choice) → ds ≡ xs ++ es → trail_of xs ≡ bs → Root es m x → (left : ℕ) → m < left + k → (pos : Position) (h f q saved : List ℕ) → Holds x es pos h f q saved → Reached (goes left pos h f q saved)

    early_of : (es : List Choice) (m : ℕ) (x : Node) → Root es (suc m) x → x.steps < 1000
    early_of es m x r = omega (arith, (reaches_steps p (Entered p) r).0)

    least : {m k : ℕ} {x : Node} {bs : List Bool} → Reaches p (Entered p) m x bs k y → k ≤ m
    least here = omega arith
    least (by_call e g r) = omega (arith, least r)
    least (by_decision e d g r) = omega (arith, least r)

    past_call : (m k : ℕ) (x : Node) (bs : List Bool) (L : Configuration) → k ≤ m → successors p x.conf ≡ called L → Entered p L → Leading m k (after_call x L) bs → Leading (suc m) k x bs
    past_call m k x bs L s e g again xs es is t r zero l pos h f q saved a = absurd (omega arith)
    past_call m k x bs L s e g again xs es is t r (suc left) l pos h f q saved a =
        let i = early_of es m x r in
        rw (on left pos h f q saved (called_not_there a e g i) (behind a e g i) (behind_is a e g i))
        (again xs es is t (reaches_call p (Entered p) r e g) left (omega arith) (behind a e g i).position (behind a e g i).heap (behind a e g i).frame (behind a e g i).q (behind a e g i).saved (behind_holds a e g i))

    past_decision : (m k : ℕ) (x : Node) (bs : List Bool) (q₀ : Bool) (b c : Option Configuration) (L : Configuration) → k ≤ m → successors p x.conf ≡ branches b c → branch_of q₀ b c ≡ some L → Entered p L →
        Leading m k (after_decision x q₀ L) bs → Leading (suc m) k x (q₀ ∷ bs)
    past_decision m k x bs q₀ b c L s e d g again xs es is t r zero l pos h f q saved a = absurd (omega arith)
    past_decision m k x bs q₀ b c L s e d g again xs es is t r (suc left) l pos h f q saved a =
        let i = early_of es m x r in
        let o = first_of xs q₀ bs t in
        let ch = o.choice in
        let z : ds ≡ o.rest ++ (ch ∷ es) = is ∙ ap (λ (l : List Choice). l ++ es) o.is ∙ append_assoc o.rest (ch ∷ []) es in
        let d' : branch_of ch.taken b c ≡ some L = ap (λ (u : Bool). branch_of u b c) o.taken ∙ d in
        let r' : Root (ch ∷ es) m (after_decision x ch.taken L) = reaches_decision p (Entered p) ch.taken r e d' g in
        let more : Leading m k (after_decision x ch.taken L) bs = subst (λ (u : Bool). Leading m k (after_decision x u L) bs) (inv o.taken) again in
        let n = next a ch e d' g i (suc m) r o.rest z in
        rw (on left pos h f q saved (not_there a ch e d' g i (suc m) r o.rest z) n (next_is a ch e d' g i (suc m) r o.rest z))
        (more o.rest (ch ∷ es) z o.trail r' left (omega arith) n.position n.heap n.frame n.q n.saved (next_holds a ch e d' g i (suc m) r o.rest z))

    -- THE LAW of a path worked out again
    pub follow_means : {m k : ℕ} {x : Node} {bs : List Bool} → Reaches p (Entered p) m x bs k y → Leading m k x bs
    follow_means here xs es is t r zero l pos h f q saved a = absurd (omega arith)
    follow_means here xs es is t r (suc left) l pos h f q saved a = arrives es xs is t left pos h f q saved a
    follow_means {k = k} (by_call {n} {x} {bs = bs} {c = L} e g s) xs es is t r left l pos h f q saved a = past_call n k x bs L (least s) e g (λ ys fs i u v n o ps hs gs rs ss z. follow_means s ys fs i u v n o ps hs gs rs ss z) xs es is t r left l pos h f q saved a
    follow_means {k = k} (by_decision {n} {x} {q = q₀} {bs = bs} {a = b} {b = c} {c = L} e d g s) xs es is t r left l pos h f q saved a = past_decision n k x bs q₀ b c L (least s) e d g (λ ys fs i u v n o ps hs gs rs ss z. follow_means s ys fs i u v n o ps hs gs rs ss z) xs es is t r left l pos h f q saved a

  -- the node of the choice that comes after ds, where it has a false branch
  pub record Waiting (ds : List Choice) : Type 0 where
    pub left : ℕ
    pub node : Node
    pub yes_to : Option Configuration
    pub no_to : Configuration
    pub leads : Root ds (suc left) node
    pub decides : successors p node.conf ≡ branches yes_to (some no_to)

  -- THE LAW of going back
  module _ (entered₀ : Entered p K₀) (m₁ : ℕ) (leads₁ : Root [] m₁ y₁) (first : b₀.depth ≡ 0) (b : Choice) (ds : List Choice) (x : Waiting ds) (within : length ds ≤ 1000) (path : List ℕ) (on-path : PathHeld ds path (length ds))
      (h f q saved : List ℕ) (lf : length f ≡ 12360) (lq : length q ≡ 4096) where
    abbrev brings : ℕ → ReplayLeft
    brings top = brought_back code path base (length ds) N top h f q saved

    abbrev Brought : ReplayLeft → Type 0
    Brought v = Holds x.node ds v.position v.heap v.frame v.q v.saved

    decider : Decides p x.node
    decider = record { yes_to = x.yes_to; no_to = some x.no_to; branching = x.decides }

    -- from a record that is loaded
    module _ (top : ℕ) (rs : List Record) (r : Record) (held : Holding saved top (rs ++ (r ∷ []))) (y : Node) (rec : Recorded p bodies code h r y) where
      brings_is : (t : ℕ) → kept_top (length (records_cells rs)) top base ≡ t → brings top ≡
          follow_from code path base (length ds) N (record { node = record { at = r.at; steps = r.steps; depth = r.depth }; top = t }) h (loaded saved top f q).frame (loaded saved top f q).q saved
      unfolding brought_back
      brings_is t e = let z : (loaded saved top f q).back ≡ record { node = record { at = r.at; steps = r.steps; depth = r.depth }; top = length (records_cells rs) } = ap (λ (w : LoadLeft). w.back) (load_means rs r held f q lf lq) in
          rw (z, e)

      resumed : (t : ℕ) (es : List Choice) → r.depth ≡ length es → Entered p y.conf → Kept p bodies code K₀ N y₁ b₀ h saved r.at.used t es →
          Holds y es (record { node = record { at = r.at; steps = r.steps; depth = r.depth }; top = t }) h (loaded saved top f q).frame (loaded saved top f q).q saved
      resumed t es d g k = record {
        stands = loaded_stands p bodies code rs r y held rec f q lf lq;
        entered = g;
        steps = rec.steps;
        depth = d;
        low = omega (arith, rec.room);
        kept = k;
      }

    from_first : (top : ℕ) → Holding saved top ([] ++ (b₀ ∷ [])) → Recorded p bodies code h b₀ y₁ → Brought (brings top)
    from_first top held rec =
        let e : top ≡ base = held.size ∙ ap length (records_one b₀) ∙ inv bottom in
        let z : kept_top (length (records_cells [])) top base ≡ top = rw (le-leb top base (omega arith)) (inv e) in
        let g : Entered p y₁.conf = reaches_good p (Entered p) leads₁ entered₀ in
        let a = resumed top [] b₀ held y₁ rec top [] first g (record { older = []; last = b₀; holding = held; saves = only {used = b₀.at.used} rec (omega arith) }) in
        let w = reaches_rest p (Entered p) decider leads₁ (trail_of ds) x.leads in
        rw (brings_is top [] b₀ held y₁ rec top z) (follow_means path ds on-path within x.node decider w ds [] (inv (append-nil ds)) refl leads₁ N (omega (arith, (reaches_steps p (Entered p) leads₁).0)) _ h _ _ saved a)

    from_later : (top : ℕ) (xs es : List Choice) (m : ℕ) (y : Node) (ps : List Record) (o r : Record) → ds ≡ xs ++ es → Root es m y → Decides p y → Recorded p bodies code h r y → r.depth ≡ length es →
        Saves p bodies code K₀ N y₁ b₀ h r.at.used es ps o → Holding saved top ((ps ++ (o ∷ [])) ++ (r ∷ [])) → Brought (brings top)
    from_later top xs es m y ps o r is t d rec dep s held =
        let l = saves_first p bodies code K₀ N y₁ b₀ s in
        let u : length (records_cells (ps ++ (o ∷ []))) ≡ length (record_cells b₀) + length (records_cells l.0) = ap (λ (rs : List Record). length (records_cells rs)) l.1 ∙ first_cells l.0 in
        let v : top ≡ length (records_cells (ps ++ (o ∷ []))) + length (record_cells r) = held.size ∙ ap length (records_snoc (ps ++ (o ∷ [])) r) ∙ length-append (records_cells (ps ++ (o ∷ []))) (record_cells r) in
        let n = record_length r (fit_last (ps ++ (o ∷ [])) r held.fits) in
        let t' = length (records_cells (ps ++ (o ∷ []))) in
        let z : kept_top t' top base ≡ t' = rw (lt-leb top base (omega (arith, bottom))) in
        let g : Entered p y.conf = reaches_good p (Entered p) t entered₀ in
        let a = resumed top (ps ++ (o ∷ [])) r held y rec t' es dep g (record { older = ps; last = o; holding = load_holding (ps ++ (o ∷ [])) r held; saves = s }) in
        let lead : Reaches p (Entered p) N (root K₀) (trail_of es ++ trail_of xs) (suc x.left) x.node = subst (λ (bs : List Bool). Reaches p (Entered p) N (root K₀) bs (suc x.left) x.node) (ap trail_of is ∙ trail_joined xs es) x.leads in
        let w = reaches_rest p (Entered p) decider t (trail_of xs) lead in
        rw (brings_is top (ps ++ (o ∷ [])) r held y rec t' z) (follow_means path ds on-path within x.node decider w xs es is refl t N (omega (arith, (reaches_steps p (Entered p) t).0)) _ h _ _ saved a)
      where
        first_cells : (l : List Record) → length (records_cells (b₀ ∷ l)) ≡ length (record_cells b₀) + length (records_cells l)
        first_cells l = ap length (records_more b₀ l) ∙ length-append (record_cells b₀) (records_cells l)

    pub bring_means : {used top : ℕ} {cs : List Choice} → Kept p bodies code K₀ N y₁ b₀ h saved used top cs → backtrack cs ≡ b ∷ ds → Brought (brings top)
    bring_means {used} {top} {cs} k e = go (resumed_latest p bodies code K₀ N y₁ b₀ k.saves b ds e)
      where
        go : Resumed p bodies code K₀ N y₁ b₀ h ds k.older k.last → Brought (brings top)
        go (from_base rec i j) = from_first top (subst (λ (rs : List Record). Holding saved top rs) (ap (λ (qs : List Record). qs ++ (k.last ∷ [])) i ∙ ap (λ (r : Record). [] ++ (r ∷ [])) j) k.holding) rec
        go (from_choice xs es m y ps o i t d rec dep j s) = from_later top xs es m y ps o k.last i t d rec dep s (subst (λ (qs : List Record). Holding saved top (qs ++ (k.last ∷ []))) j k.holding)
