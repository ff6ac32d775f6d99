-- When the walk stops (specs/Stops.antt): its machine against the derivations of figure 10 of 001 and the lines of the listing.
use Prim.Native.Nat.{ℕ, zero, suc, ◌+◌, ◌≤◌, ◌<◌}
use mathlib.Core.Path.{◌≡◌, refl, ap, subst, ◌∙◌, sym as inv}
use mathlib.Core.Bool.{Bool, true, false, cond}
use mathlib.Core.List.{List, [], ◌∷◌, ◌++◌}
use mathlib.Core.Option.{Option, none, some, none-ne-some, some-injective}
use mathlib.Core.Logic.{◌⊎◌, inl, inr}
use native.Mathlib.Omega.{arith}
use native.Mathlib.Nat.{not-suc-le-zero, le_of_suc-le-suc}
use lib.Dec.{leb, ltb}
use lib.ListN.{length}
use borrow.Author.Tests.{ltb-true, ltb-false, leb-true, leb-false}
use Rattle.expressions.specs.Expression.{Exp}
use Rattle.expressions.specs.Class.{IOClass, nodes_class}
use Rattle.expressions.specs.Intersection.{Intersected, common, disjoint, too_large, intersect, no_limit}
use Rattle.expressions.proofs.Tests.{or_either, or_none}
use Rattle.expressions.proofs.Unification.{limited_common}
use Rattle.language.specs.Program.{Prog, find}
use Rattle.language.specs.WellFormed.{fits, admitted}
use Rattle.semantics.specs.Lists.{All}
use Rattle.semantics.specs.Configuration.{Configuration, start, nodes_state}
use Rattle.semantics.specs.Figure10.{Transition, decisions, Derivation, here, there, Terminal}
use Rattle.semantics.specs.Trace.{Successors, terminal, called, branches, successors}
use Rattle.semantics.specs.Tree.{Node, root, end, tree_from, tree, Line, meeting_at, line_of, Listing, listing_of, tree_of, listing}
use Rattle.semantics.specs.Walk.{node_limit, state_over, meeting_over, line_limit, Limits, Stop, stop21, stop22, stop23, Untaken, WalkState, Walked, going, stopped, at_start, table_full, with_line, at_end, push_branch, expand, expand_unless, visit, and_then, taken, take_next, spent, walk, walk_from, resolve, Word, whole, cut, stop, word_of, lines_of, count_of}
use Rattle.semantics.specs.Demand3.{Unstopped}
use Rattle.semantics.specs.Stops.{OverConfiguration, OverMeeting, OverIn, lines_nodes, NoRoom, Stops}
use Rattle.semantics.proofs.Machine.{found, Visited, to_come, total, total_with, Keeps, taken_total, at_start_lem, visit_keeps, visit_visited, resolve_unstopped, resolve_within}
use Rattle.semantics.proofs.Tracing.{child, IfSome, each_child, Scoped, transition_child, terminal_successors, child_transition, successors_terminal, child_scoped, start_scoped}

-- one transition more at the end of a derivation
pub derivation_after : {p : Prog} {d c e : Configuration} {o : Option Bool} {m : ℕ} {bs : List Bool} → Derivation p d c m bs → Transition p d o e →
    Derivation p e c (suc m) (bs ++ decisions o [])
derivation_after {d = d} {e = e} {o = o} here t = there d e o zero [] t here
derivation_after {o = o} (there c f none m bs s h) t = there c f none (suc m) (bs ++ decisions o []) s (derivation_after h t)
derivation_after {o = o} (there c f (some b) m bs s h) t = there c f (some b) (suc m) (bs ++ decisions o []) s (derivation_after h t)

pub length_line : (ls : List Line) (l : Line) → length (ls ++ (l ∷ [])) ≡ suc (length ls)
length_line [] l = refl
length_line (k ∷ ls) l = ap suc (length_line ls l)

pub nodes_line : (ls : List Line) (l : Line) → lines_nodes (ls ++ (l ∷ [])) ≡ lines_nodes ls + nodes_class l.class
nodes_line [] l = omega arith
nodes_line (k ∷ ls) l = omega (arith, nodes_line ls l)

-- no limit on lines is passed
record Room (lim : Limits) (ls : List Line) : Type 0 where
  few : length ls ≤ lim.table
  small : lines_nodes ls ≤ line_limit

module _ (p : Prog) (lim : Limits) (n : ℕ) (c : Configuration) where
  -- the condition of 21 in the tree from c
  abbrev Over : Type 0
  Over = OverConfiguration p n c ⊎ OverMeeting p n c

  -- an untaken transition leads to a configuration of the tree
  record Reached (i : Untaken) : Type 0 where
    m : ℕ
    trail : List Bool
    derivation : Derivation p i.node.conf c m trail
    depth : m + i.left ≤ n
    scoped : Scoped p i.node.conf

  -- what is true of a state that a walk from c comes to
  record Holds (r : WalkState) : Type 0 where
    todo : All Reached r.todo
    nodes : r.nodes ≡ lines_nodes r.lines
    room : Room lim r.lines

  -- where a visit leads; w is to be found
  abbrev Stopping : Listing → Walked → Type 0
  Stopping w (going r) = Holds r
  Stopping w (stopped stop21 r) = Room lim r.lines × Over
  Stopping w (stopped stop22 r) = Room lim r.lines × NoRoom lim r.lines w.lines
  Stopping w (stopped stop23 r) = ⊥

  -- an end: a line that fits or does not, or a meeting that is too large
  end_stopping : (i : Untaken) (u : Exp) (r : WalkState) → Reached i → Terminal i.node.conf u → Holds r → (I : Intersected) → intersect meeting_over (meeting_at i.node u) ≡ I →
      Stopping (total_with p (end i.node u) 0 r) (at_end lim i.node.steps r I)
  end_stopping i u r R T H (common P) e = pick (table_full lim P r) refl
    where
      L : Line
      L = record { steps = i.node.steps; class = P }

      one : line_of i.node.steps (intersect no_limit (meeting_at i.node u)) ≡ L ∷ []
      one = ap (line_of i.node.steps) (limited_common meeting_over (meeting_at i.node u) P e)

      pick : (t : Bool) → table_full lim P r ≡ t → Stopping (total_with p (end i.node u) 0 r) (with_line i.node.steps P r t)
      pick true k = (
        H.room,
        record {
          line = L;
          rest = (to_come p r.todo).lines;
          lines_are = ap (λ (k : List Line). r.lines ++ ((k ++ []) ++ (to_come p r.todo).lines)) one;
          no_room = or_either (leb lim.table (length r.lines)) (ltb line_limit (r.nodes + nodes_class P)) k
              (λ a. inl (omega (arith, leb-true lim.table (length r.lines) a, H.room.few)))
              (λ b. inr (omega (arith, ltb-true line_limit (r.nodes + nodes_class P) b, H.nodes)));
        },
      )
      pick false k =
          let q = or_none (leb lim.table (length r.lines)) (ltb line_limit (r.nodes + nodes_class P)) k in
          record {
            todo = H.todo;
            nodes = omega (arith, H.nodes, nodes_line r.lines L);
            room = record { few = omega (arith, leb-false lim.table (length r.lines) q.0, length_line r.lines L); small = omega (arith, ltb-false line_limit (r.nodes + nodes_class P) q.1, H.nodes, nodes_line r.lines L) };
          }
  end_stopping i u r R T H disjoint e = H
  end_stopping i u r R T H too_large e =
      (H.room, inr (record { d = i.node.conf; m = R.m; trail = R.trail; u = u; derivation = R.derivation; within = omega (arith, R.depth); terminal = T; over = e }))

  module _ (wf : admitted p ≡ true) where
    reached_child : (x : Node) (k : ℕ) (o : Option Bool) (d : Configuration) (s : ℕ) (ts : List Bool) → Reached (record { left = suc k; node = x }) →
        child o (successors p x.conf) ≡ some d → Reached (record { left = k; node = record { conf = d; steps = s; trail = ts } })
    reached_child x k o d s ts R e = record {
      m = suc R.m;
      trail = R.trail ++ decisions o [];
      derivation = derivation_after R.derivation (child_transition p x.conf d o R.scoped e);
      depth = omega (arith, R.depth);
      scoped = child_scoped p x.conf d o wf R.scoped e;
    }

    branch_holds : (x : Node) (k : ℕ) (b : Bool) (a : Option Configuration) (r : WalkState) → Reached (record { left = suc k; node = x }) →
        child (some b) (successors p x.conf) ≡ a → Holds r → Holds (push_branch k x b a r)
    branch_holds x k b none r R e H = H
    branch_holds x k b (some d) r R e H = record { todo = (reached_child x k (some b) d _ _ R e, H.todo); nodes = H.nodes; room = H.room }

    expand_stopping : (k : ℕ) (x : Node) (S : Successors) (r : WalkState) → Reached (record { left = k; node = x }) → successors p x.conf ≡ S → Holds r →
        Stopping (total_with p (tree_from p k x S) 0 r) (expand lim k x S r)
    unfolding tree_from
    expand_stopping zero x (terminal u) r R e H =
        end_stopping (record { left = zero; node = x }) u r R (successors_terminal p x.conf u R.scoped e) H (intersect meeting_over (meeting_at x u)) refl
    expand_stopping zero x (called d) r R e H = record { todo = H.todo; nodes = H.nodes; room = H.room }
    expand_stopping zero x (branches a b) r R e H = record { todo = H.todo; nodes = H.nodes; room = H.room }
    expand_stopping (suc k) x (terminal u) r R e H =
        end_stopping (record { left = suc k; node = x }) u r R (successors_terminal p x.conf u R.scoped e) H (intersect meeting_over (meeting_at x u)) refl
    expand_stopping (suc k) x (called d) r R e H = record { todo = (reached_child x k none d _ _ R (ap (child none) e), H.todo); nodes = H.nodes; room = H.room }
    expand_stopping (suc k) x (branches a b) r R e H =
        branch_holds x k true a (push_branch k x false b r) R (ap (child (some true)) e) (branch_holds x k false b r R (ap (child (some false)) e) H)

    visit_stopping : (i : Untaken) (r : WalkState) → Reached i → Holds r → Stopping (total_with p (tree p i.left i.node) 0 r) (visit p lim i r)
    visit_stopping i r R H = pick (state_over i.node.conf.cr) refl
      where
        pick : (t : Bool) → state_over i.node.conf.cr ≡ t → Stopping (total_with p (tree p i.left i.node) 0 r) (expand_unless p lim i r t)
        pick true e = (
          H.room,
          inl (record { d = i.node.conf; m = R.m; trail = R.trail; derivation = R.derivation; within = omega (arith, R.depth); over = ltb-true _ _ e }),
        )
        pick false e = expand_stopping i.left i.node (successors p i.node.conf) r R refl H

    -- where a walk leads that may make k transitions in all
    abbrev Stopped : Listing → ℕ → Walked → Type 0
    Stopped w k (going r) = Room lim r.lines
    Stopped w k (stopped stop21 r) = Room lim r.lines × Over
    Stopped w k (stopped stop22 r) = Room lim r.lines × NoRoom lim r.lines w.lines
    Stopped w k (stopped stop23 r) = Room lim r.lines × (r.count ≡ k) × (k < w.count)

    then_stopped : (v : ℕ) → ((r : WalkState) → Holds r → Stopped (total p r) (r.count + v) (walk p lim v r)) →
        (b : Listing) (r : WalkState) (x : Walked) → Keeps p b x → Visited r x → Stopping b x → Stopped b (r.count + v) (and_then (walk p lim v) x)
    then_stopped v ih b r (going q) k h s = subst (λ (l : Listing). Stopped l (r.count + v) (walk p lim v q)) (inv k)
        (subst (λ (a : ℕ). Stopped (total p q) (a + v) (walk p lim v q)) h (ih q s))
    then_stopped v ih b r (stopped stop21 q) k h s = s
    then_stopped v ih b r (stopped stop22 q) k h s = s
    then_stopped v ih b r (stopped stop23 q) k h s = absurd s

    walk_stopped : (v : ℕ) (r : WalkState) → Holds r → Stopped (total p r) (r.count + v) (walk p lim v r)
    unfolding walk
    walk_stopped zero r H = pick r.todo refl
      where
        pick : (is : List Untaken) → r.todo ≡ is → Stopped (total p r) (r.count + zero) (spent is r)
        pick [] e = H.room
        pick (i ∷ is) e = let k = ap (λ (js : List Untaken). (to_come p js).count) e in (H.room, omega arith, omega (arith, k))
    walk_stopped (suc v) r H = pick r.todo refl (then_stopped v (walk_stopped v))
      where
        pick : (is : List Untaken) → r.todo ≡ is →
            ((b : Listing) (q : WalkState) (x : Walked) → Keeps p b x → Visited q x → Stopping b x → Stopped b (q.count + v) (and_then (walk p lim v) x)) →
            Stopped (total p r) (r.count + suc v) (take_next p lim (walk p lim v) is r)
        pick [] e f = H.room
        pick (i ∷ is) e f =
            let R : All Reached (i ∷ is) = subst (All Reached) e H.todo in
            let q = taken is r in
            let K : suc r.count + v ≡ r.count + suc v = omega arith in
            subst (λ (k : ℕ). Stopped (total p r) k (and_then (walk p lim v) (visit p lim i q))) K
            (subst (λ (l : Listing). Stopped l (suc r.count + v) (and_then (walk p lim v) (visit p lim i q)))
            (taken_total p i is r ∙ ap (λ (js : List Untaken). found r (to_come p js)) (inv e))
            (f (total_with p (tree p i.left i.node) 0 q) q (visit p lim i q) (visit_keeps p lim i q) (visit_visited p lim i q)
            (visit_stopping i q R.0 (record { todo = R.1; nodes = H.nodes; room = H.room }))))

-- A walk that is not stopped met the condition of 21 nowhere: what is untaken leads to it nowhere if what is behind it does not.
module _ (p : Prog) where
  -- the condition of 21 at most k transitions from a configuration
  abbrev OverFrom : ℕ → Configuration → Type 0
  OverFrom k c = OverConfiguration p k c ⊎ OverMeeting p k c

  abbrev Clear : Untaken → Type 0
  Clear i = OverFrom i.left i.node.conf → ⊥

  -- a node is clear if it keeps the limit itself, as a configuration and as an end, and what its transitions lead to is clear
  abbrev Fine : Configuration → Type 0
  Fine c = (node_limit < nodes_state c.cr → ⊥) × ((u : Exp) → Terminal c u → intersect meeting_over (meeting_at (root c) u) ≡ too_large → ⊥)

  abbrev ClearBehind : ℕ → Configuration → Type 0
  ClearBehind zero c = Unit {0}
  ClearBehind (suc k) c = (o : Option Bool) (d : Configuration) → child o (successors p c) ≡ some d → OverFrom k d → ⊥

  clear_configuration : {c d : Configuration} {m : ℕ} {bs : List Bool} (k : ℕ) → Fine c → ClearBehind k c → Derivation p d c m bs → m ≤ k → node_limit < nodes_state d.cr → ⊥
  clear_configuration k F B here l e = F.0 e
  clear_configuration zero F B (there c f o m bs t h) l e = not-suc-le-zero l
  clear_configuration {d} (suc k) F B (there c f o m bs t h) l e =
      B o f (transition_child t) (inl (record { d = d; m = m; trail = bs; derivation = h; within = le_of_suc-le-suc l; over = e }))

  clear_meeting : {c d : Configuration} {m : ℕ} {bs : List Bool} (k : ℕ) (u : Exp) → Fine c → ClearBehind k c → Derivation p d c m bs → m ≤ k → Terminal d u →
      intersect meeting_over (meeting_at (root d) u) ≡ too_large → ⊥
  clear_meeting k u F B here l T e = F.1 u T e
  clear_meeting zero u F B (there c f o m bs t h) l T e = not-suc-le-zero l
  clear_meeting {d} (suc k) u F B (there c f o m bs t h) l T e =
      B o f (transition_child t) (inr (record { d = d; m = m; trail = bs; u = u; derivation = h; within = le_of_suc-le-suc l; terminal = T; over = e }))

  clear_node : (k : ℕ) (c : Configuration) → Fine c → ClearBehind k c → OverFrom k c → ⊥
  clear_node k c F B (inl x) = clear_configuration k F B x.derivation x.within x.over
  clear_node k c F B (inr x) = clear_meeting k x.u F B x.derivation x.within x.terminal x.over

  -- a configuration that is no end has no meeting
  fine_inner : (c : Configuration) (S : Successors) → successors p c ≡ S → (node_limit < nodes_state c.cr → ⊥) → ((u : Exp) → S ≡ terminal u → ⊥) → Fine c
  fine_inner c S e f g = (f, λ u T h. g u (inv e ∙ terminal_successors p T))

  module _ (lim : Limits) where
    -- what a visit says of the node and of what else is untaken, once what is untaken after it is clear
    abbrev Clears : Untaken → WalkState → Walked → Type 0
    Clears i r (going q) = All Clear q.todo → Clear i × All Clear r.todo
    Clears i r (stopped z q) = Unit {0}

    end_clears : (k : ℕ) (x : Node) (u : Exp) (r : WalkState) → successors p x.conf ≡ terminal u → (node_limit < nodes_state x.conf.cr → ⊥) →
        (I : Intersected) → intersect meeting_over (meeting_at x u) ≡ I → Clears (record { left = k; node = x }) r (at_end lim x.steps r I)
    end_clears k x u r e f I g = pick I g
      where
        behind : (l : ℕ) → ClearBehind l x.conf
        behind zero = tt
        behind (suc l) = λ o d h z. none-ne-some d (ap (child o) (inv e) ∙ h)

        clear : (intersect meeting_over (meeting_at x u) ≡ too_large → ⊥) → Clear (record { left = k; node = x })
        clear g = clear_node k x.conf (f, λ v T h. g (let q = inv e ∙ terminal_successors p T in let s : u ≡ v = cc in ap (λ (v : Exp). intersect meeting_over (meeting_at x v)) s ∙ h)) (behind k)

        pick : (I : Intersected) → intersect meeting_over (meeting_at x u) ≡ I → Clears (record { left = k; node = x }) r (at_end lim x.steps r I)
        pick (common P) g = fit (table_full lim P r)
          where
            fit : (t : Bool) → Clears (record { left = k; node = x }) r (with_line x.steps P r t)
            fit true = tt
            fit false = λ h. (clear (λ z. let y = inv g ∙ z in let k : ◌≡◌ {A = ℕ} 0 1 = cc in omega arith), h)
        pick disjoint g = λ h. (clear (λ z. let y = inv g ∙ z in let k : ◌≡◌ {A = ℕ} 0 1 = cc in omega arith), h)
        pick too_large g = tt

    branch_clears : (k : ℕ) (x : Node) (b : Bool) (a : Option Configuration) (r : WalkState) → All Clear (push_branch k x b a r).todo →
        IfSome (λ d. OverFrom k d → ⊥) a × All Clear r.todo
    branch_clears k x b none r h = (tt, h)
    branch_clears k x b (some d) r h = h

    expand_clears : (k : ℕ) (x : Node) (S : Successors) (r : WalkState) → successors p x.conf ≡ S → (node_limit < nodes_state x.conf.cr → ⊥) →
        Clears (record { left = k; node = x }) r (expand lim k x S r)
    expand_clears zero x (terminal u) r e f = end_clears zero x u r e f (intersect meeting_over (meeting_at x u)) refl
    expand_clears zero x (called c) r e f = λ h. (clear_node zero x.conf (fine_inner x.conf (called c) e f (λ v q. let k : ◌≡◌ {A = ℕ} 0 1 = cc in omega arith)) tt, h)
    expand_clears zero x (branches a b) r e f = λ h. (clear_node zero x.conf (fine_inner x.conf (branches a b) e f (λ v q. let k : ◌≡◌ {A = ℕ} 0 1 = cc in omega arith)) tt, h)
    expand_clears (suc k) x (terminal u) r e f = end_clears (suc k) x u r e f (intersect meeting_over (meeting_at x u)) refl
    expand_clears (suc k) x (called c) r e f = λ h. (
      clear_node (suc k) x.conf (fine_inner x.conf (called c) e f (λ v q. let k : ◌≡◌ {A = ℕ} 0 1 = cc in omega arith))
          (λ o d g. each_child (λ u. Unit {0}) (λ o d. OverFrom k d → ⊥) (called c) o d h.0 (ap (child o) (inv e) ∙ g)),
      h.1,
    )
    expand_clears (suc k) x (branches a b) r e f = λ h.
        let s = branch_clears k x true a (push_branch k x false b r) h in
        let t = branch_clears k x false b r s.1 in (
          clear_node (suc k) x.conf (fine_inner x.conf (branches a b) e f (λ v q. let k : ◌≡◌ {A = ℕ} 0 1 = cc in omega arith))
              (λ o d g. each_child (λ u. Unit {0}) (λ o d. OverFrom k d → ⊥) (branches a b) o d (s.0, t.0) (ap (child o) (inv e) ∙ g)),
          t.1,
        )

    visit_clears : (i : Untaken) (r : WalkState) → Clears i r (visit p lim i r)
    visit_clears i r = pick (state_over i.node.conf.cr) refl
      where
        pick : (t : Bool) → state_over i.node.conf.cr ≡ t → Clears i r (expand_unless p lim i r t)
        pick true e = tt
        pick false e = expand_clears i.left i.node (successors p i.node.conf) r refl (λ l. omega (arith, ltb-false node_limit (nodes_state i.node.conf.cr) e))

    abbrev Cleared : List Untaken → Walked → Type 0
    Cleared is (going q) = All Clear is
    Cleared is (stopped z q) = Unit {0}

    then_clears : (v : ℕ) → ((r : WalkState) → Cleared r.todo (walk p lim v r)) → (i : Untaken) (r : WalkState) (x : Walked) → Clears i r x → Cleared (i ∷ r.todo) (and_then (walk p lim v) x)
    then_clears v ih i r (going q) h = pick (walk p lim v q) (ih q)
      where
        pick : (y : Walked) → Cleared q.todo y → Cleared (i ∷ r.todo) y
        pick (going s) k = h k
        pick (stopped z s) k = tt
    then_clears v ih i r (stopped z q) h = tt

    walk_clears : (v : ℕ) (r : WalkState) → Cleared r.todo (walk p lim v r)
    unfolding walk
    walk_clears zero r = pick r.todo
      where
        pick : (is : List Untaken) → Cleared is (spent is r)
        pick [] = tt
        pick (i ∷ is) = tt
    walk_clears (suc v) r = pick r.todo (then_clears v (walk_clears v))
      where
        pick : (is : List Untaken) → ((i : Untaken) (r : WalkState) (x : Walked) → Clears i r x → Cleared (i ∷ r.todo) (and_then (walk p lim v) x)) →
            Cleared is (take_next p lim (walk p lim v) is r)
        pick [] f = tt
        pick (i ∷ is) f = f i (taken is r) (visit p lim i (taken is r)) (visit_clears i (taken is r))

-- a word that is none of the stops
unstopped_word : (v : Word) → (v ≡ stop stop21 → ⊥) → (v ≡ stop stop22 → ⊥) → (v ≡ stop stop23 → ⊥) → Unstopped v
unstopped_word whole a b c = tt
unstopped_word cut a b c = tt
unstopped_word (stop stop21) a b c = a refl
unstopped_word (stop stop22) a b c = b refl
unstopped_word (stop stop23) a b c = c refl

pub word_going : {z : Stop} (b : Bool) → cond b cut whole ≡ stop z → ⊥
word_going true e = let k : ◌≡◌ {A = ℕ} 0 1 = cc in omega arith
word_going false e = let k : ◌≡◌ {A = ℕ} 0 1 = cc in omega arith

pub length_more : (ls : List Line) (l : Line) (ms : List Line) → length ls < length (ls ++ (l ∷ ms))
length_more [] l ms = omega arith
length_more (k ∷ ls) l ms = omega (arith, length_more ls l ms)

pub nodes_more : (ls : List Line) (l : Line) (ms : List Line) → lines_nodes ls + nodes_class l.class ≤ lines_nodes (ls ++ (l ∷ ms))
nodes_more [] l ms = omega arith
nodes_more (k ∷ ls) l ms = omega (arith, nodes_more ls l ms)

-- a line that does not fit is one of a listing that does not
no_room_lem : (lim : Limits) (found all : List Line) → NoRoom lim found all → length all ≤ lim.table → lines_nodes all ≤ line_limit → ⊥
no_room_lem lim found all N f s = pick N.no_room
  where
    l : length all ≡ length (found ++ (N.line ∷ N.rest))
    l = ap length N.lines_are

    k : lines_nodes all ≡ lines_nodes (found ++ (N.line ∷ N.rest))
    k = ap lines_nodes N.lines_are

    pick : (length found ≡ lim.table) ⊎ (line_limit < lines_nodes found + nodes_class N.line.class) → ⊥
    pick (inl e) = omega (arith, f, e, l, length_more found N.line N.rest)
    pick (inr e) = omega (arith, s, e, k, nodes_more found N.line N.rest)

module _ (p : Prog) (j : IOClass) (n : ℕ) (lim : Limits) (wf : admitted p ≡ true) (fit : fits (find p 0).params j.con.ins ≡ true) where
  -- where the walk of a job leads; w is its listing
  abbrev Outcome : Listing → Walked → Type 0
  Outcome w (going r) = Room lim r.lines × (OverIn p n j → ⊥)
  Outcome w (stopped stop21 r) = Room lim r.lines × OverIn p n j
  Outcome w (stopped stop22 r) = Room lim r.lines × NoRoom lim r.lines w.lines
  Outcome w (stopped stop23 r) = Room lim r.lines × (r.count ≡ lim.walk) × (lim.walk < w.count)

  outcome_from : (o : Option Configuration) → start p j ≡ o → Outcome (listing_of (tree_of p n o)) (walk_from p lim n o)
  outcome_from none e = (record { few = omega arith; small = omega arith }, λ x. none-ne-some x.c (inv e ∙ x.starts))
  outcome_from (some c) e =
      pick (walk_from p lim n (some c)) (subst (λ (l : Listing). Stopped p lim n c wf l lim.walk (walk_from p lim n (some c))) (at_start_lem p (tree p n (root c))) stopping) clearing
    where
      i : Untaken
      i = record { left = n; node = root c }

      held : Holds p lim n c at_start
      held = record { todo = tt; nodes = refl; room = record { few = omega arith; small = omega arith } }

      stopping : Stopped p lim n c wf (total_with p (tree p n (root c)) 0 at_start) lim.walk (walk_from p lim n (some c))
      stopping = subst (λ (k : ℕ). Stopped p lim n c wf (total_with p (tree p n (root c)) 0 at_start) k (walk_from p lim n (some c))) (let k : 0 + lim.walk ≡ lim.walk = omega arith in k)
          (then_stopped p lim n c wf lim.walk (walk_stopped p lim n c wf lim.walk) (total_with p (tree p n (root c)) 0 at_start) at_start (visit p lim i at_start)
          (visit_keeps p lim i at_start) (visit_visited p lim i at_start)
          (visit_stopping p lim n c wf i at_start (record { m = 0; trail = []; derivation = here; depth = omega arith; scoped = start_scoped p j c wf fit e }) held))

      clearing : Cleared p lim (i ∷ []) (walk_from p lim n (some c))
      clearing = then_clears p lim lim.walk (walk_clears p lim lim.walk) i at_start (visit p lim i at_start) (visit_clears p lim i at_start)

      started : OverIn p n j → OverConfiguration p n c ⊎ OverMeeting p n c
      started x = subst (λ (d : Configuration). OverConfiguration p n d ⊎ OverMeeting p n d) (some-injective _ _ (inv x.starts ∙ e)) x.over

      pick : (w : Walked) → Stopped p lim n c wf (listing_of (tree p n (root c))) lim.walk w → Cleared p lim (i ∷ []) w → Outcome (listing_of (tree p n (root c))) w
      pick (going r) s k = (s, λ x. k.0 (started x))
      pick (stopped stop21 r) s k = (s.0, record { c = c; starts = e; over = s.1 })
      pick (stopped stop22 r) s k = s
      pick (stopped stop23 r) s k = s

  outcome : Outcome (listing p n j) (resolve p j n lim)
  unfolding resolve listing
  outcome = outcome_from (start p j) refl

  -- the fields, of any walk with such an outcome
  module _ (w : Listing) where
    outcome_spent : (v : Walked) → Outcome w v → word_of v ≡ stop stop23 → (count_of v ≡ lim.walk) × (lim.walk < w.count)
    outcome_spent (going r) h e = absurd (word_going r.cut e)
    outcome_spent (stopped stop21 r) h e = let k : ◌≡◌ {A = ℕ} 0 1 = cc in absurd (omega arith)
    outcome_spent (stopped stop22 r) h e = let k : ◌≡◌ {A = ℕ} 0 1 = cc in absurd (omega arith)
    outcome_spent (stopped stop23 r) h e = (h.1, h.2)

    outcome_full : (v : Walked) → Outcome w v → word_of v ≡ stop stop22 → NoRoom lim (lines_of v) w.lines
    outcome_full (going r) h e = absurd (word_going r.cut e)
    outcome_full (stopped stop21 r) h e = let k : ◌≡◌ {A = ℕ} 0 1 = cc in absurd (omega arith)
    outcome_full (stopped stop22 r) h e = h.1
    outcome_full (stopped stop23 r) h e = let k : ◌≡◌ {A = ℕ} 0 1 = cc in absurd (omega arith)

    outcome_over : (v : Walked) → Outcome w v → word_of v ≡ stop stop21 → OverIn p n j
    outcome_over (going r) h e = absurd (word_going r.cut e)
    outcome_over (stopped stop21 r) h e = h.1
    outcome_over (stopped stop22 r) h e = let k : ◌≡◌ {A = ℕ} 0 1 = cc in absurd (omega arith)
    outcome_over (stopped stop23 r) h e = let k : ◌≡◌ {A = ℕ} 0 1 = cc in absurd (omega arith)

    outcome_clear : (v : Walked) → Outcome w v → Unstopped (word_of v) → OverIn p n j → ⊥
    outcome_clear (going r) h u = h.1
    outcome_clear (stopped z r) h u = absurd u

    outcome_room : (v : Walked) → Outcome w v → Room lim (lines_of v)
    outcome_room (going r) h = h.0
    outcome_room (stopped stop21 r) h = h.0
    outcome_room (stopped stop22 r) h = h.0
    outcome_room (stopped stop23 r) h = h.0

  -- "Each number comes under its condition and otherwise never"
  pub resolve_stops : Stops p n j lim (resolve p j n lim)
  resolve_stops = record {
    spent = spent_by;
    full = full_by;
    over = over_by;
    unstopped = λ c f s o. unstopped_word (word_of v) (λ e. o (over_by e)) (λ e. no_room_lem lim (lines_of v) w.lines (full_by e) f s) (λ e. let k = (spent_by e).1 in omega (arith, k, c));
    ended = λ u. let r = resolve_unstopped p j n lim u in (r.0, r.1, r.2, outcome_clear w v outcome u);
    within = let r = outcome_room w v outcome in (resolve_within p j n lim, r.few, r.small);
  }
    where
      v : Walked
      v = resolve p j n lim

      w : Listing
      w = listing p n j

      spent_by : word_of (resolve p j n lim) ≡ stop stop23 → (count_of (resolve p j n lim) ≡ lim.walk) × (lim.walk < (listing p n j).count)
      spent_by = outcome_spent (listing p n j) (resolve p j n lim) outcome

      full_by : word_of (resolve p j n lim) ≡ stop stop22 → NoRoom lim (lines_of (resolve p j n lim)) (listing p n j).lines
      full_by = outcome_full (listing p n j) (resolve p j n lim) outcome

      over_by : word_of (resolve p j n lim) ≡ stop stop21 → OverIn p n j
      over_by = outcome_over (listing p n j) (resolve p j n lim) outcome
