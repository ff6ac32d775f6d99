-- What a path stands for: the untaken transitions of the machine, at each turn of the loop.
use Prim.Native.Nat.{ℕ, zero, suc, ◌+◌, ◌≤◌}
use mathlib.Core.Path.{◌≡◌, refl, ap, ◌∙◌, sym as inv}
use mathlib.Core.Bool.{Bool, true, false, false≢true}
use mathlib.Core.List.{List, [], ◌∷◌, ◌++◌, append_assoc, append-nil}
use mathlib.Core.Option.{Option, none, some}
use native.Mathlib.Omega.{arith}
use lib.ListN.{length, length-append}
use Rattle.expressions.specs.Intersection.{Intersected, common, disjoint, too_large, intersect}
use Rattle.language.specs.Program.{Prog}
use Rattle.semantics.specs.Configuration.{Configuration}
use Rattle.semantics.specs.Trace.{Successors, terminal, called, branches, successors}
use Rattle.semantics.specs.Tree.{Node, after_call, after_decision, meeting_at}
use Rattle.semantics.specs.Walk.{state_over, meeting_over, Limits, Untaken, Walked, going, stopped, table_full, with_line, at_end, expand, expand_unless, visit, taken}
use Rattle.semantics.proofs.Backtrack.{Choice, trail_of, replay, PathState, on_path, with_todo, with_path, Turn, ahead, exhausted, halted, after_end, choose, extend, extend_unless, enter, backtrack_to, backtrack, ahead_if, replay_path, or_back, turn}
use Rattle.semantics.proofs.Replay.{Along, replay_none, replay_call, replay_decision, replay_from, replay_leads}

pub trail_length : (cs : List Choice) → length (trail_of cs) ≡ length cs
trail_length [] = refl
trail_length (c ∷ cs) = omega (arith, length-append (trail_of cs) (c.taken ∷ []), trail_length cs)

pub trail_append : (ds cs : List Choice) → trail_of (ds ++ cs) ≡ trail_of cs ++ trail_of ds
trail_append [] cs = inv (append-nil (trail_of cs))
trail_append (d ∷ ds) cs = ap (λ (bs : List Bool). bs ++ (d.taken ∷ [])) (trail_append ds cs) ∙ append_assoc (trail_of cs) (trail_of ds) (d.taken ∷ [])

abbrev pub path_of : Turn → List Choice
path_of (ahead i s) = s.path
path_of (exhausted s) = s.path
path_of (halted z s) = s.path

abbrev pub untaken_if : List Untaken → Option Untaken → Bool → List Untaken
untaken_if is o false = is
untaken_if is none true = is
untaken_if is (some i) true = i ∷ is

module _ (p : Prog) (n : ℕ) (x : Node) where
  -- the false branch of the choice made after cs
  abbrev pub false_branch : List Choice → Option Untaken
  false_branch cs = replay p n x (trail_of cs ++ (false ∷ []))

  -- the untaken transitions that a path stands for
  abbrev pub untaken : List Choice → List Untaken
  untaken [] = []
  untaken (c ∷ cs) = untaken_if (untaken cs) (false_branch cs) c.pending

  -- a false branch that is said to be untaken is there
  abbrev pub Replays : List Choice → Type 0
  Replays [] = Unit {0}
  Replays (c ∷ cs) = (c.pending ≡ true → (i : Untaken) × (false_branch cs ≡ some i)) × Replays cs

  -- a path with the node i at its end, calls perhaps between: the decisions behind i are those behind the path
  pub record Placed (i : Untaken) (cs : List Choice) : Type 0 where
    pub leads : (b : Bool) (bs : List Bool) → replay p n x (trail_of cs ++ (b ∷ bs)) ≡ replay p i.left i.node (b ∷ bs)
    pub replays : Replays cs
    pub along : Along n x (trail_of cs) i

  -- the machine's state at a turn
  abbrev pub machine_at : Turn → Walked
  machine_at (ahead i s) = going (with_todo (i ∷ untaken s.path) s)
  machine_at (exhausted s) = going (with_todo (untaken s.path) s)
  machine_at (halted z s) = stopped z (with_todo (untaken s.path) s)

  -- what holds at each turn of the loop
  abbrev pub AtTurn : Turn → Type 0
  AtTurn (ahead i s) = Placed i s.path
  AtTurn (exhausted s) = s.path ≡ []
  AtTurn (halted z s) = Replays s.path × (length s.path ≤ n)

  -- .. and behind a node, before the walk goes back
  abbrev AtNode : Turn → Type 0
  AtNode (ahead i s) = Placed i s.path
  AtNode (exhausted s) = Replays s.path
  AtNode (halted z s) = Replays s.path × (length s.path ≤ n)

  -- as the machine has it
  abbrev Entered : Walked → Turn → Type 0
  Entered v t = (machine_at t ≡ v) × AtNode t

  abbrev pub Turned : Walked → Turn → Type 0
  Turned v t = (machine_at t ≡ v) × AtTurn t

  pub first_placed : Placed (record { left = n; node = x }) []
  first_placed = record { leads = λ b bs. refl; replays = tt; along = record { depth = refl; decisions = omega arith; trail = inv (append-nil x.trail) } }

  -- a choice is a step, so that a path has room for one more where a transition is left
  pub placed_length : {i : Untaken} (cs : List Choice) → Placed i cs → (length cs + x.steps ≤ i.node.steps) × (length cs + i.left ≤ n)
  placed_length cs h = omega (arith, trail_length cs, h.along.depth, h.along.decisions)

  placed_within : {i : Untaken} (cs : List Choice) → Placed i cs → length cs ≤ n
  placed_within cs h = omega (arith, (placed_length cs h).1)

  -- a configuration that was saved on the path: the choices after it lead from there to where the whole path leads
  pub placed_replay : {i : Untaken} (c : Choice) (ds cs : List Choice) → Placed i cs → replay p n x (trail_of (c ∷ (ds ++ cs))) ≡ replay p i.left i.node (trail_of (c ∷ ds))
  placed_replay {i} c ds cs h = ap (λ (bs : List Bool). replay p n x (bs ++ (c.taken ∷ []))) (trail_append ds cs)
      ∙ ap (replay p n x) (append_assoc (trail_of cs) (trail_of ds) (c.taken ∷ [])) ∙ pick (trail_of ds)
    where
      pick : (bs : List Bool) → replay p n x (trail_of cs ++ (bs ++ (c.taken ∷ []))) ≡ replay p i.left i.node (bs ++ (c.taken ∷ []))
      pick [] = h.leads c.taken []
      pick (b ∷ bs) = h.leads b (bs ++ (c.taken ∷ []))

  call_placed : (m : ℕ) (y : Node) (c : Configuration) (cs : List Choice) → successors p y.conf ≡ called c →
      Placed (record { left = suc m; node = y }) cs → Placed (record { left = m; node = after_call y c }) cs
  call_placed m y c cs e h = record {
    leads = λ b bs. h.leads b bs ∙ replay_call p m y c b bs e;
    replays = h.replays;
    along = record { depth = omega (arith, h.along.depth); decisions = omega (arith, h.along.decisions); trail = h.along.trail };
  }

  decision_placed : (m : ℕ) (y : Node) (q : Bool) (c : Configuration) (other : Bool) (cs : List Choice) →
      ((bs : List Bool) → replay p (suc m) y (q ∷ bs) ≡ replay p m (after_decision y q c) bs) → (other ≡ true → (i : Untaken) × (false_branch cs ≡ some i)) →
      Placed (record { left = suc m; node = y }) cs → Placed (record { left = m; node = after_decision y q c }) (record { taken = q; pending = other } ∷ cs)
  decision_placed m y q c other cs e f h = record {
    leads = λ b bs. ap (replay p n x) (append_assoc (trail_of cs) (q ∷ []) (b ∷ bs)) ∙ h.leads q (b ∷ bs) ∙ e (b ∷ bs);
    replays = (f, h.replays);
    along = record {
      depth = omega (arith, h.along.depth);
      decisions = omega (arith, length-append (trail_of cs) (q ∷ []), h.along.decisions);
      trail = ap (λ (l : List Bool). l ++ (q ∷ [])) h.along.trail ∙ append_assoc x.trail (trail_of cs) (q ∷ []);
    };
  }

  branches_entered : (m : ℕ) (y : Node) (a b : Option Configuration) (s : PathState) → successors p y.conf ≡ branches a b → Placed (record { left = suc m; node = y }) s.path →
      (lim : Limits) → Entered (expand lim (suc m) y (branches a b) (with_todo (untaken s.path) s)) (choose m y a b s)
  branches_entered m y none none s e h lim = (refl, h.replays)
  branches_entered m y none (some d) s e h lim =
      (refl, decision_placed m y false d false s.path (λ bs. replay_decision p m y none (some d) false bs e) (λ k. absurd (false≢true k)) h)
  branches_entered m y (some c) none s e h lim =
      (refl, decision_placed m y true c false s.path (λ bs. replay_decision p m y (some c) none true bs e) (λ k. absurd (false≢true k)) h)
  branches_entered m y (some c) (some d) s e h lim = (
    ap (λ (o : Option Untaken). going (with_todo (record { left = m; node = after_decision y true c } ∷ untaken_if (untaken s.path) o true) s)) there,
    decision_placed m y true c true s.path (λ bs. replay_decision p m y (some c) (some d) true bs e) (λ k. (record { left = m; node = after_decision y false d }, there)) h,
  )
    where
      there : false_branch s.path ≡ some (record { left = m; node = after_decision y false d })
      there = h.leads false [] ∙ replay_decision p m y (some c) (some d) false [] e ∙ replay_none p m (after_decision y false d)

  back_placed : (cs : List Choice) (i : Untaken) → false_branch cs ≡ some i → Replays cs → Placed i (record { taken = false; pending = false } ∷ cs)
  back_placed cs i e h = record {
    leads = λ b bs. replay_from p n x (trail_of cs ++ (false ∷ [])) (b ∷ bs) e;
    replays = ((λ k. absurd (false≢true k)), h);
    along = replay_leads p n x (trail_of cs ++ (false ∷ [])) e;
  }

  -- what is left on a path that goes back
  module _ (s : PathState) where
    abbrev Back : List Untaken → List Choice → Type 0
    Back is ds = Turned (going (with_todo is s)) (replay_path p n x s ds)

    back_turned : (cs : List Choice) → Replays cs → Back (untaken cs) (backtrack cs)
    back_turned [] h = (refl, refl)
    back_turned (c ∷ cs) h = pick c.pending h.0 (back_turned cs h.1)
      where
        found : (o : Option Untaken) → false_branch cs ≡ o → ((i : Untaken) × (false_branch cs ≡ some i)) →
            Turned (going (with_todo (untaken_if (untaken cs) o true) s)) (ahead_if (with_path (record { taken = false; pending = false } ∷ cs) s) o)
        found none e f = let k : ◌≡◌ {A = ℕ} 0 1 = cc f.1 in absurd (omega arith)
        found (some i) e f = (refl, back_placed cs i e h.1)

        pick : (q : Bool) → (q ≡ true → (i : Untaken) × (false_branch cs ≡ some i)) → Back (untaken cs) (backtrack cs) → Back (untaken_if (untaken cs) (false_branch cs) q) (backtrack_to (backtrack cs) cs q)
        pick false f k = k
        pick true f k = found (false_branch cs) refl (f refl)

  or_back_lem : (v : Walked) (t : Turn) → Entered v t → Turned v (or_back p n x t)
  or_back_lem v (ahead i s) h = h
  or_back_lem v (exhausted s) h = let k = back_turned s s.path h.1 in (k.0 ∙ h.0, k.1)
  or_back_lem v (halted z s) h = h

  pub turn_length : (t : Turn) → AtTurn t → length (path_of t) ≤ n
  turn_length (ahead i s) h = placed_within s.path h
  turn_length (exhausted s) h = omega (arith, ap (λ (cs : List Choice). length cs) h)
  turn_length (halted z s) h = h.1

  module _ (lim : Limits) where
    end_entered : (i : Untaken) (s : PathState) (I : Intersected) (k : ℕ) → Placed i s.path →
        Entered (at_end lim k (with_todo (untaken s.path) s) I) (after_end s.path (at_end lim k (with_todo [] s) I))
    end_entered i s (common P) k h = pick (table_full lim P (with_todo [] s))
      where
        pick : (t : Bool) → Entered (with_line k P (with_todo (untaken s.path) s) t) (after_end s.path (with_line k P (with_todo [] s) t))
        pick true = (refl, (h.replays, placed_within s.path h))
        pick false = (refl, h.replays)
    end_entered i s disjoint k h = (refl, h.replays)
    end_entered i s too_large k h = (refl, (h.replays, placed_within s.path h))

    extend_entered : (m : ℕ) (y : Node) (S : Successors) (s : PathState) → successors p y.conf ≡ S → Placed (record { left = m; node = y }) s.path →
        Entered (expand lim m y S (with_todo (untaken s.path) s)) (extend lim m y S s)
    extend_entered zero y (terminal u) s e h = end_entered _ s (intersect meeting_over (meeting_at y u)) y.steps h
    extend_entered (suc m) y (terminal u) s e h = end_entered _ s (intersect meeting_over (meeting_at y u)) y.steps h
    extend_entered zero y (called c) s e h = (refl, h.replays)
    extend_entered zero y (branches a b) s e h = (refl, h.replays)
    extend_entered (suc m) y (called c) s e h = (refl, call_placed m y c s.path e h)
    extend_entered (suc m) y (branches a b) s e h = branches_entered m y a b s e h lim

    -- a visit on a path is the machine's
    pub enter_turned : (i : Untaken) (s : PathState) → Placed i s.path → Turned (visit p lim i (with_todo (untaken s.path) s)) (or_back p n x (enter p lim i s))
    enter_turned i s h = or_back_lem _ (enter p lim i s) (pick (state_over i.node.conf.cr))
      where
        pick : (t : Bool) → Entered (expand_unless p lim i (with_todo (untaken s.path) s) t) (extend_unless p lim i s t)
        pick true = (refl, (h.replays, placed_within s.path h))
        pick false = extend_entered i.left i.node (successors p i.node.conf) s refl h

    pub turn_keeps : (i : Untaken) (s : PathState) → Placed i s.path → AtTurn (turn p lim n x i s)
    unfolding turn
    turn_keeps i s h = (enter_turned i (on_path s.path (taken [] (with_todo [] s))) h).1
