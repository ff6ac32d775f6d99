-- The walk machine against the process tree: what it has found and what is still to come is the tree's listing.
use Prim.Native.Nat.{ℕ, zero, suc, ◌+◌, ◌≤◌}
use mathlib.Core.Path.{◌≡◌, refl, ap, ap₂, subst, ◌∙◌, sym as inv}
use mathlib.Core.Bool.{Bool, true, false, cond, ◌||◌, false≢true, or-true, or-false, or_assoc}
use mathlib.Core.List.{List, [], ◌∷◌, ◌++◌, append_assoc, append-nil}
use mathlib.Core.Option.{Option, none, some}
use mathlib.Core.Logic.{◌↔◌}
use native.Mathlib.Omega.{arith}
use Rattle.expressions.specs.Expression.{Exp}
use Rattle.expressions.specs.Class.{IOClass}
use Rattle.expressions.specs.Intersection.{Intersected, common, disjoint, too_large, intersect, no_limit}
use Rattle.expressions.proofs.Unification.{limited_common, limited_disjoint}
use Rattle.language.specs.Program.{Prog}
use Rattle.semantics.specs.Configuration.{Configuration, start}
use Rattle.semantics.specs.Trace.{Successors, terminal, called, branches, successors}
use Rattle.semantics.specs.Tree.{Node, root, after_call, after_decision, Tree, end, call, decision, branch, tree_from, tree, edge_to, edges, leaves, unfinished_nodes, Line, meeting_at, line_of, leaves_lines, any_of, Listing, listing_of, tree_of, listing}
use Rattle.semantics.specs.Walk.{meeting_over, state_over, Limits, Stop, stop21, stop22, stop23, Untaken, WalkState, Walked, going, stopped, at_start, table_full, with_line, at_end, push_branch, expand, expand_unless, visit, and_then, taken, take_next, spent, walk, walk_from, resolve, whole, cut, state_of, word_of, lines_of, count_of}
use Rattle.semantics.specs.Demand3.{Unstopped}
use Rattle.semantics.proofs.Coverage.{leaves_lines_append, any_of_append}

-- what is read off a tree, with the k transitions that lead to it, and then the rest
abbrev pub also : Tree → ℕ → Listing → Listing
also t k w = record { lines = leaves_lines (leaves t) ++ w.lines; cut = any_of (unfinished_nodes t) || w.cut; count = (k + edges t) + w.count }

-- what a walk has found, and then the rest
abbrev pub found : WalkState → Listing → Listing
found r w = record { lines = r.lines ++ w.lines; cut = r.cut || w.cut; count = r.count + w.count }

listing_is : {v w : Listing} → v.lines ≡ w.lines → v.cut ≡ w.cut → v.count ≡ w.count → v ≡ w
listing_is e f g = λ i. record { lines = e i; cut = f i; count = g i }

-- r has found a beginning of w
abbrev pub Beginning : Listing → WalkState → Type 0
Beginning w r = ((rest : List Line) × (w.lines ≡ r.lines ++ rest)) × (r.count ≤ w.count)

begins : (r : WalkState) (w : Listing) → Beginning (found r w) r
begins r w = ((w.lines, refl), omega arith)

call_also : (t : Tree) (w : Listing) → also (call t) 0 w ≡ also t (edge_to t) w
call_also t w = listing_is refl refl (omega arith)

decision_also : (s t : Tree) (w : Listing) → also (decision s t) 0 w ≡ also s (edge_to s) (also t (edge_to t) w)
decision_also s t w = listing_is
    (ap (λ (k : List Line). k ++ w.lines) (leaves_lines_append (leaves s) (leaves t)) ∙ append_assoc (leaves_lines (leaves s)) (leaves_lines (leaves t)) w.lines)
    (ap (λ (k : Bool). k || w.cut) (any_of_append (unfinished_nodes s) (unfinished_nodes t)) ∙ or_assoc (any_of (unfinished_nodes s)) (any_of (unfinished_nodes t)) w.cut)
    (omega arith)

branch_found : (n : ℕ) (x : Node) (b : Bool) (o : Option Configuration) (r : WalkState) (w : Listing) → found r w ≡ found (push_branch n x b o r) w
branch_found n x b none r w = refl
branch_found n x b (some c) r w = refl

-- no visit makes a transition, and 23 is no stop of a visit
abbrev pub Visited : WalkState → Walked → Type 0
Visited r (going q) = q.count ≡ r.count
Visited r (stopped stop21 q) = q.count ≡ r.count
Visited r (stopped stop22 q) = q.count ≡ r.count
Visited r (stopped stop23 q) = ⊥

branch_count : (n : ℕ) (x : Node) (b : Bool) (o : Option Configuration) (r : WalkState) → (push_branch n x b o r).count ≡ r.count
branch_count n x b none r = refl
branch_count n x b (some c) r = refl

not_stopped : {z : Stop} {r q : WalkState} → going r ≡ stopped z q → ⊥
not_stopped e = let k : ◌≡◌ {A = ℕ} 0 1 = cc in omega arith

cut_iff_lem : (a b : Bool) → b ≡ a → (cond a cut whole ≡ cut) ↔ (b ≡ true)
cut_iff_lem true b e = ((λ k. e), (λ k. refl))
cut_iff_lem false b e = ((λ k. let z : ◌≡◌ {A = ℕ} 0 1 = cc in absurd (omega arith)), (λ k. absurd (false≢true (inv e ∙ k))))

module _ (p : Prog) where
  -- what the untaken transitions lead to
  abbrev pub to_come : List Untaken → Listing
  to_come [] = record { lines = []; cut = false; count = 0 }
  to_come (i ∷ is) = also (tree p i.left i.node) 1 (to_come is)

  -- what the walk will have found in the end
  abbrev pub total : WalkState → Listing
  total r = found r (to_come r.todo)

  -- what it will have found when t is walked first
  abbrev pub total_with : Tree → ℕ → WalkState → Listing
  total_with t k r = found r (also t k (to_come r.todo))

  -- w was to be found before a visit
  abbrev pub Keeps : Listing → Walked → Type 0
  Keeps w (going r) = w ≡ total r
  Keeps w (stopped z r) = Beginning w r

  -- w was to be found before a walk; nothing is untaken at the end of one that is not stopped
  abbrev pub Finds : Listing → Walked → Type 0
  Finds w (going r) = (r.todo ≡ []) × (w ≡ total r)
  Finds w (stopped z r) = Beginning w r

  -- the tree of a node is never absent: its transition counts
  pub edge_to_lem : (n : ℕ) (x : Node) (S : Successors) → edge_to (tree_from p n x S) ≡ 1
  unfolding tree_from
  edge_to_lem zero x (terminal u) = refl
  edge_to_lem zero x (called c) = refl
  edge_to_lem zero x (branches a b) = refl
  edge_to_lem (suc n) x (terminal u) = refl
  edge_to_lem (suc n) x (called c) = refl
  edge_to_lem (suc n) x (branches a b) = refl

  push_come : (n : ℕ) (x : Node) (is : List Untaken) → also (tree p n x) (edge_to (tree p n x)) (to_come is) ≡ to_come (record { left = n; node = x } ∷ is)
  push_come n x is = ap (λ (k : ℕ). also (tree p n x) k (to_come is)) (edge_to_lem n x (successors p x.conf))

  branch_come : (n : ℕ) (x : Node) (b : Bool) (o : Option Configuration) (r : WalkState) →
      (let t = branch (tree p n) x b o in also t (edge_to t) (to_come r.todo)) ≡ to_come (push_branch n x b o r).todo
  branch_come n x b none r = listing_is refl refl (omega arith)
  branch_come n x b (some c) r = push_come n (after_decision x b c) r.todo

  pub taken_total : (i : Untaken) (is : List Untaken) (r : WalkState) → total_with (tree p i.left i.node) 0 (taken is r) ≡ found r (to_come (i ∷ is))
  taken_total i is r = listing_is refl refl (omega arith)

  pub at_start_lem : (t : Tree) → total_with t 0 at_start ≡ listing_of t
  at_start_lem t = listing_is (append-nil (leaves_lines (leaves t))) (or-false (any_of (unfinished_nodes t))) (omega arith)

  module _ (lim : Limits) where
    -- an end
    end_keeps : (x : Node) (u : Exp) (r : WalkState) (I : Intersected) → intersect meeting_over (meeting_at x u) ≡ I → Keeps (total_with (end x u) 0 r) (at_end lim x.steps r I)
    end_keeps x u r (common P) e = pick (table_full lim P r)
      where
        L : Line
        L = record { steps = x.steps; class = P }

        one : line_of x.steps (intersect no_limit (meeting_at x u)) ≡ L ∷ []
        one = ap (line_of x.steps) (limited_common meeting_over (meeting_at x u) P e)

        pick : (t : Bool) → Keeps (total_with (end x u) 0 r) (with_line x.steps P r t)
        pick true = begins r (also (end x u) 0 (to_come r.todo))
        pick false = listing_is (ap (λ (k : List Line). r.lines ++ ((k ++ []) ++ (to_come r.todo).lines)) one ∙ inv (append_assoc r.lines (L ∷ []) (to_come r.todo).lines)) refl (omega arith)
    end_keeps x u r disjoint e =
        listing_is (ap (λ (k : List Line). r.lines ++ ((k ++ []) ++ (to_come r.todo).lines)) (ap (line_of x.steps) (limited_disjoint meeting_over (meeting_at x u) e))) refl (omega arith)
    end_keeps x u r too_large e = begins r (also (end x u) 0 (to_come r.todo))

    expand_keeps : (n : ℕ) (x : Node) (S : Successors) (r : WalkState) → Keeps (total_with (tree_from p n x S) 0 r) (expand lim n x S r)
    unfolding tree_from
    expand_keeps zero x (terminal u) r = end_keeps x u r (intersect meeting_over (meeting_at x u)) refl
    expand_keeps zero x (called c) r = listing_is refl (or-true r.cut) (omega arith)
    expand_keeps zero x (branches a b) r = listing_is refl (or-true r.cut) (omega arith)
    expand_keeps (suc n) x (terminal u) r = end_keeps x u r (intersect meeting_over (meeting_at x u)) refl
    expand_keeps (suc n) x (called c) r = ap (found r) (call_also (tree p n (after_call x c)) (to_come r.todo) ∙ push_come n (after_call x c) r.todo)
    expand_keeps (suc n) x (branches a b) r =
        let s = branch (tree p n) x true a in
        let t = branch (tree p n) x false b in
        let q = push_branch n x false b r in
        ap (found r) (decision_also s t (to_come r.todo) ∙ ap (also s (edge_to s)) (branch_come n x false b r) ∙ branch_come n x true a q)
        ∙ branch_found n x false b r _ ∙ branch_found n x true a q _

    pub visit_keeps : (i : Untaken) (r : WalkState) → Keeps (total_with (tree p i.left i.node) 0 r) (visit p lim i r)
    visit_keeps i r = pick (state_over i.node.conf.cr)
      where
        pick : (t : Bool) → Keeps (total_with (tree p i.left i.node) 0 r) (expand_unless p lim i r t)
        pick true = begins r (also (tree p i.left i.node) 0 (to_come r.todo))
        pick false = expand_keeps i.left i.node (successors p i.node.conf) r

    then_finds : (w : ℕ) → ((r : WalkState) → Finds (total r) (walk p lim w r)) → (b : Listing) (v : Walked) → Keeps b v → Finds b (and_then (walk p lim w) v)
    then_finds w ih b (going r) e = subst (λ (l : Listing). Finds l (walk p lim w r)) (inv e) (ih r)
    then_finds w ih b (stopped z r) e = e

    -- from any state a walk finds what was found and what the untaken transitions lead to
    pub walk_finds : (w : ℕ) (r : WalkState) → Finds (total r) (walk p lim w r)
    unfolding walk
    walk_finds zero r = pick r.todo refl
      where
        pick : (is : List Untaken) → r.todo ≡ is → Finds (total r) (spent is r)
        pick [] e = (e, refl)
        pick (i ∷ is) e = begins r (to_come r.todo)
    walk_finds (suc w) r = pick r.todo refl (then_finds w (walk_finds w))
      where
        pick : (is : List Untaken) → r.todo ≡ is → ((b : Listing) (v : Walked) → Keeps b v → Finds b (and_then (walk p lim w) v)) → Finds (total r) (take_next p lim (walk p lim w) is r)
        pick [] e f = (e, refl)
        pick (i ∷ is) e f = subst (λ (l : Listing). Finds l (and_then (walk p lim w) (visit p lim i (taken is r))))
            (taken_total i is r ∙ ap (λ (js : List Untaken). found r (to_come js)) (inv e)) (f (total_with (tree p i.left i.node) 0 (taken is r)) (visit p lim i (taken is r)) (visit_keeps i (taken is r)))

    end_visited : (s : ℕ) (r : WalkState) (I : Intersected) → Visited r (at_end lim s r I)
    end_visited s r (common P) = pick (table_full lim P r)
      where
        pick : (t : Bool) → Visited r (with_line s P r t)
        pick true = refl
        pick false = refl
    end_visited s r disjoint = refl
    end_visited s r too_large = refl

    expand_visited : (n : ℕ) (x : Node) (S : Successors) (r : WalkState) → Visited r (expand lim n x S r)
    expand_visited zero x (terminal u) r = end_visited x.steps r (intersect meeting_over (meeting_at x u))
    expand_visited zero x (called c) r = refl
    expand_visited zero x (branches a b) r = refl
    expand_visited (suc n) x (terminal u) r = end_visited x.steps r (intersect meeting_over (meeting_at x u))
    expand_visited (suc n) x (called c) r = refl
    expand_visited (suc n) x (branches a b) r = branch_count n x true a (push_branch n x false b r) ∙ branch_count n x false b r

    pub visit_visited : (i : Untaken) (r : WalkState) → Visited r (visit p lim i r)
    visit_visited i r = pick (state_over i.node.conf.cr)
      where
        pick : (t : Bool) → Visited r (expand_unless p lim i r t)
        pick true = refl
        pick false = expand_visited i.left i.node (successors p i.node.conf) r

    then_count : (w : ℕ) → ((r : WalkState) → count_of (walk p lim w r) ≤ r.count + w) → (r : WalkState) (v : Walked) → Visited r v → count_of (and_then (walk p lim w) v) ≤ r.count + w
    then_count w ih r (going q) e = omega (arith, ih q)
    then_count w ih r (stopped stop21 q) e = omega arith
    then_count w ih r (stopped stop22 q) e = omega arith
    then_count w ih r (stopped stop23 q) e = absurd e

    -- "23 a transition would be number W+1"
    pub walk_count : (w : ℕ) (r : WalkState) → count_of (walk p lim w r) ≤ r.count + w
    unfolding walk
    walk_count zero r = pick r.todo
      where
        pick : (is : List Untaken) → count_of (spent is r) ≤ r.count + 0
        pick [] = omega arith
        pick (i ∷ is) = omega arith
    walk_count (suc w) r = pick r.todo (then_count w (walk_count w))
      where
        pick : (is : List Untaken) → ((q : WalkState) (v : Walked) → Visited q v → count_of (and_then (walk p lim w) v) ≤ q.count + w) → count_of (take_next p lim (walk p lim w) is r) ≤ r.count + suc w
        pick [] f = omega arith
        pick (i ∷ is) f = omega (arith, f (taken is r) (visit p lim i (taken is r)) (visit_visited i (taken is r)))

    then_resume : (w v : ℕ) → ((r q : WalkState) → walk p lim w r ≡ stopped stop23 q → walk p lim v q ≡ walk p lim (w + v) r) →
        (r q : WalkState) (x : Walked) → Visited r x → and_then (walk p lim w) x ≡ stopped stop23 q → walk p lim v q ≡ and_then (walk p lim (w + v)) x
    then_resume w v ih r q (going s) h e = ih s q e
    then_resume w v ih r q (stopped stop21 s) h e = let k : ◌≡◌ {A = ℕ} 0 1 = cc in absurd (omega arith)
    then_resume w v ih r q (stopped stop22 s) h e = let k : ◌≡◌ {A = ℕ} 0 1 = cc in absurd (omega arith)
    then_resume w v ih r q (stopped stop23 s) h e = absurd h

    -- a walk stopped by 23 and gone on with v more transitions is one walk with the sum
    pub resume : (w v : ℕ) (r q : WalkState) → walk p lim w r ≡ stopped stop23 q → walk p lim v q ≡ walk p lim (w + v) r
    unfolding walk
    resume zero v r q e = pick r.todo e
      where
        pick : (is : List Untaken) → spent is r ≡ stopped stop23 q → walk p lim v q ≡ walk p lim (zero + v) r
        pick [] e = absurd (not_stopped e)
        pick (i ∷ is) e = let k : v ≡ zero + v = omega arith in let h : q ≡ r = cc in ap₂ (walk p lim) k h
    resume (suc w) v r q e = pick r.todo e (then_resume w v (resume w v)) ∙ (let k : suc (w + v) ≡ suc w + v = omega arith in ap (λ (u : ℕ). walk p lim u r) k)
      where
        pick : (is : List Untaken) → take_next p lim (walk p lim w) is r ≡ stopped stop23 q →
            ((s q : WalkState) (x : Walked) → Visited s x → and_then (walk p lim w) x ≡ stopped stop23 q → walk p lim v q ≡ and_then (walk p lim (w + v)) x) →
            walk p lim v q ≡ take_next p lim (walk p lim (w + v)) is r
        pick [] e f = absurd (not_stopped e)
        pick (i ∷ is) e f = f (taken is r) q (visit p lim i (taken is r)) (visit_visited i (taken is r)) e

    from_finds : (n : ℕ) (o : Option Configuration) → Finds (listing_of (tree_of p n o)) (walk_from p lim n o)
    from_finds n none = (refl, refl)
    from_finds n (some c) = subst (λ (w : Listing). Finds w (walk_from p lim n (some c))) (at_start_lem (tree p n (root c)))
        (then_finds lim.walk (walk_finds lim.walk) _ (visit p lim (record { left = n; node = root c }) at_start) (visit_keeps (record { left = n; node = root c }) at_start))

    from_count : (n : ℕ) (o : Option Configuration) → count_of (walk_from p lim n o) ≤ lim.walk
    from_count n none = omega arith
    from_count n (some c) = omega (
      arith,
      then_count lim.walk (walk_count lim.walk) at_start (visit p lim (record { left = n; node = root c }) at_start) (visit_visited (record { left = n; node = root c }) at_start),
    )

  begun : (b : Listing) (w : Walked) → Finds b w → Beginning b (state_of w)
  begun b (going r) f = (((to_come r.todo).lines, ap (λ (l : Listing). l.lines) f.1), omega (arith, ap (λ (l : Listing). l.count) f.1))
  begun b (stopped z r) f = f

  ended : (b : Listing) (w : Walked) → Finds b w → Unstopped (word_of w) → (lines_of w ≡ b.lines) × (count_of w ≡ b.count) × ((word_of w ≡ cut) ↔ (b.cut ≡ true))
  ended b (going r) f h =
      let e : b ≡ found r (to_come []) = f.1 ∙ ap (λ (is : List Untaken). found r (to_come is)) f.0 in (
        inv (append-nil r.lines) ∙ inv (ap (λ (l : Listing). l.lines) e),
        omega (arith, ap (λ (l : Listing). l.count) e),
        cut_iff_lem r.cut b.cut (ap (λ (l : Listing). l.cut) e ∙ or-false r.cut),
      )
  ended b (stopped z r) f h = absurd h

-- "a stopped listing is a beginning of that one"
pub resolve_beginning : (p : Prog) (j : IOClass) (n : ℕ) (lim : Limits) → (rest : List Line) × ((listing p n j).lines ≡ lines_of (resolve p j n lim) ++ rest)
unfolding resolve listing
resolve_beginning p j n lim = (begun p _ (walk_from p lim n (start p j)) (from_finds p lim n (start p j))).0

-- one that is not stopped is the listing
pub resolve_unstopped : (p : Prog) (j : IOClass) (n : ℕ) (lim : Limits) → (let w = resolve p j n lim in
    Unstopped (word_of w) → (lines_of w ≡ (listing p n j).lines) × (count_of w ≡ (listing p n j).count) × ((word_of w ≡ cut) ↔ ((listing p n j).cut ≡ true)))
unfolding resolve listing
resolve_unstopped p j n lim h = ended p _ (walk_from p lim n (start p j)) (from_finds p lim n (start p j)) h

pub resolve_count : (p : Prog) (j : IOClass) (n : ℕ) (lim : Limits) → count_of (resolve p j n lim) ≤ (listing p n j).count
unfolding resolve listing
resolve_count p j n lim = (begun p _ (walk_from p lim n (start p j)) (from_finds p lim n (start p j))).1

-- "23 a transition would be number W+1"
pub resolve_within : (p : Prog) (j : IOClass) (n : ℕ) (lim : Limits) → count_of (resolve p j n lim) ≤ lim.walk
unfolding resolve
resolve_within p j n lim = from_count p lim n (start p j)
