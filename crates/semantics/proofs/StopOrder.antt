-- The walk's word, lines and count by the order of its visits (specs/StopOrder.antt).
use Prim.Native.Nat.{ℕ, zero, suc, ◌+◌, ◌≤◌}
use mathlib.Core.Path.{◌≡◌, refl, ap, ap₂, subst, ◌∙◌, sym as inv}
use mathlib.Core.Bool.{Bool, true, false, ◌||◌}
use mathlib.Core.List.{List, [], ◌∷◌, ◌++◌, append_assoc, append-nil}
use mathlib.Core.Option.{Option, none, some}
use mathlib.Core.Logic.{inl, inr, ◌↔◌}
use native.Mathlib.Omega.{arith}
use lib.Dec.{leb, ltb}
use lib.ListN.{length}
use borrow.Author.Tests.{ltb-true, leb-true, leb-false}
use Rattle.expressions.specs.Expression.{Exp}
use Rattle.expressions.specs.Class.{IOClass, nodes_class}
use Rattle.expressions.specs.Intersection.{Intersected, common, disjoint, too_large, intersect}
use Rattle.expressions.proofs.Tests.{or_either, or_none}
use Rattle.expressions.proofs.Unification.{limited_common, limited_disjoint}
use Rattle.language.specs.Program.{Prog, find}
use Rattle.language.specs.WellFormed.{fits, admitted}
use Rattle.semantics.specs.Lists.{All, Any}
use Rattle.semantics.specs.Configuration.{Configuration, start}
use Rattle.semantics.specs.Trace.{Successors, terminal, called, branches, successors}
use Rattle.semantics.specs.Tree.{Node, root, after_decision, Line, meeting_at, line_of}
use Rattle.semantics.specs.Walk.{state_over, meeting_over, line_limit, Limits, Stop, stop21, stop22, stop23, Untaken, WalkState, Walked, going, stopped, at_start, table_full, with_line, at_end, push_branch, mark_cut, expand, expand_unless, visit, and_then, taken, take_next, spent, walk, walk_from, resolve, cut, stop, word_of, lines_of, count_of}
use Rattle.semantics.specs.Demand3.{Unstopped}
use Rattle.semantics.specs.Stops.{lines_nodes}
use Rattle.semantics.specs.StopOrder.{Visit, visit_of, visits_branch, visits_from, visits_of, visits, transitions, is_too_large, meeting_is_over, output_of, over_at, lines_at, visits_lines, Halt, HaltsBy, Unfinished, InOrder}
use Rattle.semantics.proofs.Lists.{all_append}
use Rattle.semantics.proofs.Machine.{Visited, visit_visited, resolve_unstopped}
use Rattle.semantics.proofs.Visits.{length_append, visits_lines_append, visits_head, visits_cut}
use Rattle.semantics.proofs.Stops.{length_line, nodes_line, word_going, resolve_stops}

module _ (p : Prog) where
  -- what the untaken transitions lead to
  abbrev to_visit : List Untaken → List Visit
  to_visit [] = []
  to_visit (i ∷ is) = visits_from p i.left i.node (successors p i.node.conf) ++ to_visit is

  module _ (lim : Limits) (vs : List Visit) where
    abbrev Under : Visit → Type 0
    Under v = over_at v ≡ false

    -- what a state has found by passing some configurations
    record Passing (r : WalkState) (passed : List Visit) : Type 0 where
      under : All Under passed
      lines : r.lines ≡ visits_lines passed
      nodes : r.nodes ≡ lines_nodes r.lines
      few : length r.lines ≤ lim.table

    -- between two transitions
    record Between (r : WalkState) : Type 0 where
      passed : List Visit
      passing : Passing r passed
      ahead : vs ≡ passed ++ to_visit r.todo
      count : length passed ≡ suc r.count

    -- where a visit leads
    abbrev Halting : Walked → Type 0
    Halting (going r) = Between r
    Halting (stopped stop21 r) = HaltsBy stop21 lim vs r.lines r.count
    Halting (stopped stop22 r) = HaltsBy stop22 lim vs r.lines r.count
    Halting (stopped stop23 r) = ⊥

    -- at a node, before it is visited
    module _ (x : Node) (r : WalkState) (passed : List Visit) (P : Passing r passed) (count : r.count ≡ length passed) where
      abbrev halt_at : (v : Visit) (us : List Visit) → vs ≡ passed ++ (v ∷ us) → Halt vs r.lines
      halt_at v us e = record { passed = passed; at = v; behind = us; visits_are = e; under = P.under; lines_are = P.lines }

      -- one more is passed
      pass : (v : Visit) (q : WalkState) → vs ≡ passed ++ (v ∷ to_visit q.todo) → over_at v ≡ false → q.lines ≡ r.lines ++ lines_at v → q.nodes ≡ lines_nodes q.lines →
          length q.lines ≤ lim.table → q.count ≡ r.count → Between q
      pass v q e o l m f c = record {
        passed = passed ++ (v ∷ []);
        passing = record {
          under = all_append Under passed (v ∷ []) P.under (o, tt);
          lines = l ∙ ap₂ ◌++◌ P.lines (inv (append-nil (lines_at v))) ∙ inv (visits_lines_append passed (v ∷ []));
          nodes = m;
          few = f;
        };
        ahead = e ∙ inv (append_assoc passed (v ∷ []) (to_visit q.todo));
        count = omega (arith, length_append passed (v ∷ []), count, c);
      }

      -- with no line
      pass_on : (v : Visit) (q : WalkState) → vs ≡ passed ++ (v ∷ to_visit q.todo) → over_at v ≡ false → lines_at v ≡ [] → q.lines ≡ r.lines → q.nodes ≡ r.nodes → q.count ≡ r.count → Between q
      pass_on v q e o l k m c = pass v q e o (k ∙ inv (append-nil r.lines) ∙ ap (λ (ls : List Line). r.lines ++ ls) (inv l)) (m ∙ P.nodes ∙ ap lines_nodes (inv k))
          (subst (λ (ls : List Line). length ls ≤ lim.table) (inv k) P.few) c

      end_halts : (u : Exp) → vs ≡ passed ++ (visit_of x (terminal u) ∷ to_visit r.todo) → state_over x.conf.cr ≡ false → (I : Intersected) → intersect meeting_over (meeting_at x u) ≡ I →
          Halting (at_end lim x.steps r I)
      end_halts u e o I g = pick I g
        where
          v : Visit
          v = visit_of x (terminal u)

          over_is : (I : Intersected) → intersect meeting_over (meeting_at x u) ≡ I → over_at v ≡ is_too_large I
          over_is I g = ap₂ ◌||◌ o (ap is_too_large g)

          pick : (I : Intersected) → intersect meeting_over (meeting_at x u) ≡ I → Halting (at_end lim x.steps r I)
          pick (common Q) g = fit (table_full lim Q r) refl
            where
              L : Line
              L = record { steps = x.steps; class = Q }

              one : lines_at v ≡ L ∷ []
              one = ap (line_of x.steps) (limited_common meeting_over (meeting_at x u) Q g)

              fit : (t : Bool) → table_full lim Q r ≡ t → Halting (with_line x.steps Q r t)
              fit true k = (
                halt_at v (to_visit r.todo) e,
                over_is (common Q) g,
                count,
                (
                  L,
                  one,
                  or_either (leb lim.table (length r.lines)) (ltb line_limit (r.nodes + nodes_class Q)) k
                      (λ a. inl (omega (arith, leb-true lim.table (length r.lines) a, P.few)))
                      (λ b. inr (omega (arith, ltb-true line_limit (r.nodes + nodes_class Q) b, P.nodes))),
                ),
              )
              fit false k =
                  let q = or_none (leb lim.table (length r.lines)) (ltb line_limit (r.nodes + nodes_class Q)) k in
                  pass v _ e (over_is (common Q) g) (ap (λ (ls : List Line). r.lines ++ ls) (inv one)) (omega (arith, P.nodes, nodes_line r.lines L))
                  (omega (arith, leb-false lim.table (length r.lines) q.0, length_line r.lines L)) refl
          pick disjoint g = pass_on v r e (over_is disjoint g) (ap (line_of x.steps) (limited_disjoint meeting_over (meeting_at x u) g)) refl refl refl
          pick too_large g = (halt_at v (to_visit r.todo) e, over_is too_large g, count)

      expand_halts : (k : ℕ) (S : Successors) → vs ≡ passed ++ (visits_from p k x S ++ to_visit r.todo) → state_over x.conf.cr ≡ false → Halting (expand lim k x S r)
      unfolding visits_from
      expand_halts zero (terminal u) e o = end_halts u e o (intersect meeting_over (meeting_at x u)) refl
      expand_halts zero (called c) e o = pass_on (visit_of x (called c)) (mark_cut r) e (ap (λ (b : Bool). b || false) o) refl refl refl refl
      expand_halts zero (branches a b) e o = pass_on (visit_of x (branches a b)) (mark_cut r) e (ap (λ (b : Bool). b || false) o) refl refl refl refl
      expand_halts (suc k) (terminal u) e o = end_halts u e o (intersect meeting_over (meeting_at x u)) refl
      expand_halts (suc k) (called c) e o = pass_on (visit_of x (called c)) _ e (ap (λ (b : Bool). b || false) o) refl refl refl refl
      expand_halts (suc k) (branches a b) e o = pick a b e
        where
          f : Node → List Visit
          f y = visits_from p k y (successors p y.conf)

          v : Visit
          v = record { node = x; output = none }

          pick : (a b : Option Configuration) → vs ≡ passed ++ (v ∷ ((visits_branch (λ y. visits_from p k y (successors p y.conf)) x true a ++
              visits_branch (λ y. visits_from p k y (successors p y.conf)) x false b) ++ to_visit r.todo)) →
              Between (push_branch k x true a (push_branch k x false b r))
          pick none none e = pass_on v _ e (ap (λ (b : Bool). b || false) o) refl refl refl refl
          pick none (some d) e = pass_on v _ e (ap (λ (b : Bool). b || false) o) refl refl refl refl
          pick (some c) none e = pass_on v _ (e ∙ ap (λ (us : List Visit). passed ++ (v ∷ us)) (append_assoc (f (after_decision x true c)) [] (to_visit r.todo))) (ap (λ (b : Bool). b || false) o) refl refl refl refl
          pick (some c) (some d) e =
              pass_on v _ (e ∙ ap (λ (us : List Visit). passed ++ (v ∷ us)) (append_assoc (f (after_decision x true c)) (f (after_decision x false d)) (to_visit r.todo))) (ap (λ (b : Bool). b || false) o) refl refl refl refl

    visit_halts : (i : Untaken) (r : WalkState) (passed : List Visit) → Passing r passed → r.count ≡ length passed →
        vs ≡ passed ++ (visits_from p i.left i.node (successors p i.node.conf) ++ to_visit r.todo) → Halting (visit p lim i r)
    visit_halts i r passed P c e = pick (state_over i.node.conf.cr) refl
      where
        pick : (t : Bool) → state_over i.node.conf.cr ≡ t → Halting (expand_unless p lim i r t)
        pick true o =
            let h = visits_head p i.left i.node (successors p i.node.conf) in (
              halt_at i.node r passed P c (visit_of i.node (successors p i.node.conf)) (h.0 ++ to_visit r.todo) (e ∙ ap (λ (us : List Visit). passed ++ (us ++ to_visit r.todo)) h.1),
              ap (λ (b : Bool). b || meeting_is_over i.node (output_of (successors p i.node.conf))) o,
              c,
            )
        pick false o = expand_halts i.node r passed P c i.left (successors p i.node.conf) e o

    -- where a walk leads that may make k transitions in all
    record Ending (r : WalkState) : Type 0 where
      under : All Under vs
      lines : r.lines ≡ visits_lines vs
      count : length vs ≡ suc r.count

    abbrev Halted : ℕ → Walked → Type 0
    Halted k (going r) = Ending r
    Halted k (stopped stop21 r) = HaltsBy stop21 lim vs r.lines r.count
    Halted k (stopped stop22 r) = HaltsBy stop22 lim vs r.lines r.count
    Halted k (stopped stop23 r) = (h : Halt vs r.lines) × (length h.passed ≡ suc k) × (r.count ≡ k)

    end_of : (r : WalkState) → Between r → r.todo ≡ [] → Ending r
    end_of r B e =
        let k : B.passed ≡ vs = inv (append-nil B.passed) ∙ ap (λ (is : List Untaken). B.passed ++ to_visit is) (inv e) ∙ inv B.ahead in
        record { under = subst (All Under) k B.passing.under; lines = B.passing.lines ∙ ap visits_lines k; count = ap length (inv k) ∙ B.count }

    then_halts : (v : ℕ) → ((r : WalkState) → Between r → Halted (r.count + v) (walk p lim v r)) →
        (r : WalkState) (x : Walked) → Visited r x → Halting x → Halted (r.count + v) (and_then (walk p lim v) x)
    then_halts v ih r (going q) k h = subst (λ (a : ℕ). Halted (a + v) (walk p lim v q)) k (ih q h)
    then_halts v ih r (stopped stop21 q) k h = h
    then_halts v ih r (stopped stop22 q) k h = h
    then_halts v ih r (stopped stop23 q) k h = absurd h

    walk_halts : (v : ℕ) (r : WalkState) → Between r → Halted (r.count + v) (walk p lim v r)
    unfolding walk
    walk_halts zero r B = pick r.todo refl
      where
        pick : (is : List Untaken) → r.todo ≡ is → Halted (r.count + zero) (spent is r)
        pick [] e = end_of r B e
        pick (i ∷ is) e =
            let h = visits_head p i.left i.node (successors p i.node.conf) in (
              record {
                passed = B.passed;
                at = visit_of i.node (successors p i.node.conf);
                behind = h.0 ++ to_visit is;
                visits_are = B.ahead ∙ ap (λ (js : List Untaken). B.passed ++ to_visit js) e ∙ ap (λ (us : List Visit). B.passed ++ (us ++ to_visit is)) h.1;
                under = B.passing.under;
                lines_are = B.passing.lines;
              },
              omega (arith, B.count),
              omega arith,
            )
    walk_halts (suc v) r B = pick r.todo refl (then_halts v (walk_halts v))
      where
        pick : (is : List Untaken) → r.todo ≡ is → ((q : WalkState) (x : Walked) → Visited q x → Halting x → Halted (q.count + v) (and_then (walk p lim v) x)) →
            Halted (r.count + suc v) (take_next p lim (walk p lim v) is r)
        pick [] e f = end_of r B e
        pick (i ∷ is) e f =
            let q = taken is r in
            let K : suc r.count + v ≡ r.count + suc v = omega arith in
            subst (λ (k : ℕ). Halted k (and_then (walk p lim v) (visit p lim i q))) K
            (f q (visit p lim i q) (visit_visited p lim i q)
            (visit_halts i q B.passed (record { under = B.passing.under; lines = B.passing.lines; nodes = B.passing.nodes; few = B.passing.few }) (inv B.count)
            (B.ahead ∙ ap (λ (js : List Untaken). B.passed ++ to_visit js) e)))

count_transitions : (vs : List Visit) (c : ℕ) → length vs ≡ suc c → c ≡ transitions vs
count_transitions [] c e = absurd (omega (arith, e))
count_transitions (v ∷ vs) c e = omega (arith, e)

module _ (p : Prog) (n : ℕ) (lim : Limits) where
  -- where the walk of a job leads
  abbrev Outcome : List Visit → Walked → Type 0
  Outcome vs (going r) = All (λ v. over_at v ≡ false) vs × (r.lines ≡ visits_lines vs) × (r.count ≡ transitions vs)
  Outcome vs (stopped z r) = HaltsBy z lim vs r.lines r.count

  outcome_from : (o : Option Configuration) → Outcome (visits_of p n o) (walk_from p lim n o)
  outcome_from none = (tt, refl, refl)
  outcome_from (some c) = pick (walk_from p lim n (some c))
      (subst (λ (k : ℕ). Halted p lim vs k (walk_from p lim n (some c))) (let k : 0 + lim.walk ≡ lim.walk = omega arith in k)
      (then_halts p lim vs lim.walk (walk_halts p lim vs lim.walk) at_start (visit p lim i at_start) (visit_visited p lim i at_start)
      (visit_halts p lim vs i at_start [] (record { under = tt; lines = refl; nodes = refl; few = omega arith }) refl (inv (append-nil vs)))))
    where
      vs : List Visit
      vs = visits_from p n (root c) (successors p c)

      i : Untaken
      i = record { left = n; node = root c }

      pick : (w : Walked) → Halted p lim (visits_from p n (root c) (successors p c)) lim.walk w → Outcome (visits_from p n (root c) (successors p c)) w
      pick (going r) h = (h.under, h.lines, count_transitions (visits_from p n (root c) (successors p c)) r.count h.count)
      pick (stopped stop21 r) h = h
      pick (stopped stop22 r) h = h
      pick (stopped stop23 r) h = h

  outcome_halts : (vs : List Visit) (w : Walked) → Outcome vs w → (z : Stop) → word_of w ≡ stop z → HaltsBy z lim vs (lines_of w) (count_of w)
  outcome_halts vs (going r) h z e = absurd (word_going r.cut e)
  outcome_halts vs (stopped y r) h z e = let k : y ≡ z = cc in subst (λ (z : Stop). HaltsBy z lim vs r.lines r.count) k h

  outcome_ends : (vs : List Visit) (w : Walked) → Outcome vs w → Unstopped (word_of w) → All (λ v. over_at v ≡ false) vs × (lines_of w ≡ visits_lines vs) × (count_of w ≡ transitions vs)
  outcome_ends vs (going r) h u = h
  outcome_ends vs (stopped z r) h u = absurd u

  outcome : (j : IOClass) → Outcome (visits p n j) (resolve p j n lim)
  unfolding resolve
  outcome j = outcome_from (start p j)

-- the first stop in the order of the walk
pub resolve_in_order : (p : Prog) (j : IOClass) (n : ℕ) (lim : Limits) → admitted p ≡ true → fits (find p 0).params j.con.ins ≡ true → InOrder p n j lim (resolve p j n lim)
resolve_in_order p j n lim wf fit = record {
  halts = outcome_halts p n lim (visits p n j) (resolve p j n lim) (outcome p n lim j);
  ends = λ u. let h = outcome_ends p n lim (visits p n j) (resolve p j n lim) (outcome p n lim j) u in (h.0, h.1, h.2, cut_visits u);
  within = (resolve_stops p j n lim wf fit).within;
}
  where
    cut_visits : Unstopped (word_of (resolve p j n lim)) → (word_of (resolve p j n lim) ≡ cut) ↔ Any (Unfinished n) (visits p n j)
    cut_visits u = let a = (resolve_unstopped p j n lim u).2 in let b = visits_cut p n j in ((λ e. b.0 (a.0 e)), (λ x. a.1 (b.1 x)))
