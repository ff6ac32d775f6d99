-- The leftmost disagreement of two trees in ranges of the heap: the first place at which their cells differ says what it is.
use Prim.Native.Nat.{ℕ, zero, suc, ◌+◌, ◌-◌, ◌*◌, ◌%◌, ◌≤◌, min}
use mathlib.Core.Path.{◌≡◌, refl, ap, ap₂, subst, ◌∙◌, sym as inv}
use mathlib.Core.Bool.{Bool, true, false, cond}
use mathlib.Core.List.{List, [], ◌∷◌, ◌++◌, append_assoc, append-nil}
use native.Mathlib.Omega.{arith}
use native.Mathlib.Numerals.{add-one}
use lib.Dec.{eqb}
use lib.ListN.{length, take, drop, get_or, length-append, take-append-drop}
use lib.Seq.{drop-cons, drop-drop, drop-append_seam, get_or-drop}
use borrow.Author.Tests.{eqb-true, eqb-false, ne_eqb, le-leb, lt-leb}
use Rattle.expressions.specs.Expression.{AtomicExp, sym, avar, Exp, atm, evar, pair, nodes}
use Rattle.expressions.specs.Restriction.{same_atomic}
use Rattle.expressions.specs.Contraction.{Contraction, identity, contra, bind_e, bind_a, non_equal, mk_bind}
use Rattle.expressions.specs.Intersection.{occurs, bind_unless_occurs, first, disagreement}
use Rattle.sets.specs.Twins.Copying.{part, tree_end, any_cell}
use Rattle.sets.specs.Cells.{pair_code, evar_code, avar_code, atomic_code, cells}
use Rattle.runs.specs.Twins.Runs.{cells_at, run}
use Rattle.meetings.specs.Twins.Differing.{common_front, first_difference, unless_standing, atomic_by, judged_by, differing_at, leftmost_in}
use Rattle.meetings.specs.declared.difference.Disagreement.{Disagreement}
use Rattle.meetings.specs.declared.difference.Disagreement.TheVariants.{Same, Apart, Bind}
use Rattle.expressions.proofs.Tests.{eqb_same}
use Rattle.expressions.proofs.Simplification.{same_atomic_eq}
use Rattle.expressions.proofs.Disagreement.{IsIdentity, disagreement_identity}
use Rattle.sets.proofs.CellLaws.{atomic_not_pair, atomic_not_evar, cells_nodes, Stands, stands_end, stands_part, stands_occurs}
use Rattle.sets.proofs.ContractionLaws.{code_tag, atomic_code_same}
use Rattle.heap.proofs.HeapLaws.{Holds, nodes_positive}
use Rattle.heap.proofs.NodeLaws.{holds_nodes}

-- the first cell of a tree, and those behind it
abbrev top : Exp → ℕ
top (atm x) = atomic_code x
top (evar n) = evar_code n
top (pair c d) = pair_code

abbrev below : Exp → List ℕ
below (atm x) = []
below (evar n) = []
below (pair c d) = cells c ++ cells d

root : (c : Exp) → cells c ≡ top c ∷ below c
root (atm x) = refl
root (evar n) = refl
root (pair c d) = refl

common_same : (l : List ℕ) → common_front l l ≡ length l
unfolding common_front
common_same [] = refl
common_same (x ∷ l) = rw (eqb_same x) (ap suc (common_same l))

common_before : (front : List ℕ) (x y : ℕ) (r s : List ℕ) → (x ≡ y → ⊥) → common_front (front ++ (x ∷ r)) (front ++ (y ∷ s)) ≡ length front
unfolding common_front
common_before [] x y r s h = rw (ne_eqb x y h)
common_before (z ∷ front) x y r s h = rw (eqb_same z) (ap suc (common_before front x y r s h))

-- Where their cells first differ stand two parts a and b, which disagree as the two do.
record Differ (w u : Exp) : Type 0 where
  front : List ℕ
  a : Exp
  b : Exp
  xs : List ℕ
  ys : List ℕ
  wanted : cells w ≡ front ++ (cells a ++ xs)
  output : cells u ≡ front ++ (cells b ++ ys)
  apart : top a ≡ top b → ⊥
  says : disagreement w u ≡ disagreement a b

data Scan (w u : Exp) : Type 0 where
  equal : w ≡ u → disagreement w u ≡ identity → Scan w u
  differs : (disagreement w u ≡ identity → ⊥) → Differ w u → Scan w u

here : (w u : Exp) → (top w ≡ top u → ⊥) → Scan w u
here w u h = differs (λ i. h (ap top (disagreement_identity w u (subst IsIdentity (inv i) tt))))
    (record { front = []; a = w; b = u; xs = []; ys = []; wanted = inv (append-nil (cells w)); output = inv (append-nil (cells u)); apart = h; says = refl })

keep : (κ l : Contraction) → (κ ≡ identity → ⊥) → first κ l ≡ κ
keep identity l h = absurd (h refl)
keep contra l h = refl
keep (bind_e n d) l h = refl
keep (bind_a n x) l h = refl
keep (non_equal x y) l h = refl

scan : (w u : Exp) → Scan w u
unfolding disagreement
scan (atm x) (evar n) = here (atm x) (evar n) (atomic_not_evar x n)
scan (atm x) (pair c d) = here (atm x) (pair c d) (atomic_not_pair x)
scan (evar m) (atm y) = here (evar m) (atm y) (λ e. atomic_not_evar y m (inv e))
scan (evar m) (pair c d) = here (evar m) (pair c d) (λ e. omega arith)
scan (pair a b) (atm y) = here (pair a b) (atm y) (λ e. atomic_not_pair y (inv e))
scan (pair a b) (evar n) = here (pair a b) (evar n) (λ e. omega arith)
scan (atm x) (atm y) = pick (same_atomic x y) refl
  where
    pick : (t : Bool) → same_atomic x y ≡ t → Scan (atm x) (atm y)
    pick true e = equal (ap atm (same_atomic_eq x y e)) (rw e)
    pick false e = here (atm x) (atm y) (eqb-false (atomic_code x) (atomic_code y) (atomic_code_same x y ∙ e))
scan (evar m) (evar n) = pick (eqb m n) refl
  where
    pick : (t : Bool) → eqb m n ≡ t → Scan (evar m) (evar n)
    pick true e = equal (ap evar (eqb-true m n e)) (rw e)
    pick false e = here (evar m) (evar n) (λ q. eqb-false m n e (omega arith))
scan (pair a b) (pair c d) = pick (scan a c) (scan b d)
  where
    pick : Scan a c → Scan b d → Scan (pair a b) (pair c d)
    pick (equal e i) (equal f j) = equal (ap₂ pair e f) (rw i j)
    pick (equal e i) (differs n D) = differs (λ z. n (rw i at z)) (record {
      front = pair_code ∷ (cells a ++ D.front);
      a = D.a;
      b = D.b;
      xs = D.xs;
      ys = D.ys;
      wanted = rw (D.wanted, append_assoc (cells a) D.front (cells D.a ++ D.xs));
      output = rw (D.output, e, append_assoc (cells c) D.front (cells D.b ++ D.ys));
      apart = D.apart;
      says = rw i D.says;
    })
    pick (differs n D) s = differs (λ z. n (inv (keep (disagreement a c) (disagreement b d) n) ∙ z)) (record {
      front = pair_code ∷ D.front;
      a = D.a;
      b = D.b;
      xs = D.xs ++ cells b;
      ys = D.ys ++ cells d;
      wanted = rw (D.wanted, append_assoc D.front (cells D.a ++ D.xs) (cells b), append_assoc (cells D.a) D.xs (cells b));
      output = rw (D.output, append_assoc D.front (cells D.b ++ D.ys) (cells d), append_assoc (cells D.b) D.ys (cells d));
      apart = D.apart;
      says = keep (disagreement a c) (disagreement b d) n ∙ D.says;
    })

-- a run is a part of the list
run_take : (n i : ℕ) (h : List ℕ) → i + n ≤ length h → cells_at n i h ≡ take n (drop i h)
unfolding cells_at
run_take zero i h l = refl
run_take (suc n) i h l =
    rw (drop-cons h i 0 (omega arith)) (ap (λ (k : List ℕ). get_or h i 0 ∷ k) (run_take n (i + 1) h (omega arith) ∙ ap (λ (k : ℕ). take n (drop k h)) (add-one i)))

pub run_part : (from to : ℕ) (h : List ℕ) → to ≤ length h → run from to h ≡ part from to h
unfolding cells_at
run_part from to h l = pick (to - from) refl
  where
    pick : (n : ℕ) → to - from ≡ n → run from to h ≡ part from to h
    pick zero e = rw e
    pick (suc n) e = run_take (to - from) from h (omega arith)

-- What the answer of `leftmost` says: what it binds a variable to stands in the range that it names.
pub data Coded (h : List ℕ) (used : ℕ) : Disagreement → Contraction → Type 0 where
  same : Coded h used Same identity
  apart : Coded h used Apart contra
  binds_e : (n : ℕ) (d : Exp) (from to : ℕ) → Holds h used from to d → Coded h used (Bind (evar_code n) from to) (bind_e n d)
  binds_a : (n : ℕ) (x : AtomicExp) (from to : ℕ) → Holds h used from to (atm x) → Coded h used (Bind (avar_code n) from to) (bind_a n x)

atomic_tag : (x : AtomicExp) → atomic_code x % 4 ≡ 2 → ⊥
atomic_tag (sym z) e = omega arith
atomic_tag (avar n) e = omega arith

module _ (h : List ℕ) (used : ℕ) (in_heap_lem : used ≤ length h) where
  stands_holds : {p : ℕ} {a : Exp} {rest : List ℕ} → Stands h p a rest → tree_end h p ≤ used → Holds h used p (tree_end h p) a
  stands_holds {p} t l = record { below = l; is = run_part p (tree_end h p) h (omega arith) ∙ stands_part t }

  -- "(each fails if the variable occurs inside the other side)"
  bound_e : (n p to : ℕ) (d : Exp) (rest : List ℕ) → Stands h p d rest → p + nodes d ≤ to → to ≤ used → Coded h used (unless_standing (evar_code n) p to h) (bind_unless_occurs n d)
  unfolding unless_standing
  bound_e n p to d rest t l m =
      let e : min (tree_end h p) to ≡ tree_end h p = omega (arith, stands_end t) in
      rw (e, stands_part t, stands_occurs n d) (pick (occurs n d))
    where
      pick : (b : Bool) → Coded h used (cond b Apart (Bind (evar_code n) p (tree_end h p))) (cond b contra (bind_e n d))
      pick true = apart
      pick false = binds_e n d p (tree_end h p) (stands_holds t (omega (arith, stands_end t)))

  bound_a : (n p to : ℕ) (x : AtomicExp) (rest : List ℕ) → (atomic_code x ≡ avar_code n → ⊥) → Stands h p (atm x) rest → p + 1 ≤ to → to ≤ used →
      Coded h used (unless_standing (avar_code n) p to h) (bind_a n x)
  unfolding unless_standing any_cell
  bound_a n p to x rest z t l m =
      let s = stands_end t in
      let e : min (tree_end h p) to ≡ tree_end h p = omega arith in
      rw (e, stands_part t, ne_eqb (atomic_code x) (avar_code n) z) (binds_a n x p (tree_end h p) (stands_holds t (omega arith)))

  -- at two parts that begin with different cells
  module _ (p wto k uto : ℕ) (w-used : wto ≤ used) (u-used : uto ≤ used) where
    atomic_means : (x y : AtomicExp) (xs ys : List ℕ) → Stands h p (atm x) xs → Stands h k (atm y) ys → p + 1 ≤ wto → k + 1 ≤ uto → (atomic_code x ≡ atomic_code y → ⊥) →
        Coded h used (atomic_by (atomic_code x) (atomic_code y) p wto k uto h) (mk_bind x y)
    atomic_means (sym y) (sym z) xs ys s t l r d = rw (code_tag y 1 (omega arith), code_tag z 1 (omega arith)) apart
    atomic_means (sym y) (avar n) xs ys s t l r d = rw (code_tag y 1 (omega arith), code_tag n 3 (omega arith)) (bound_a n p wto (sym y) xs d s l w-used)
    atomic_means (avar m) (sym z) xs ys s t l r d =
        let e : (4 * z + 1) % 2 ≡ 1 = omega arith in rw (code_tag m 3 (omega arith), e) (bound_a m k uto (sym z) ys (λ q. d (inv q)) t r u-used)
    atomic_means (avar m) (avar n) xs ys s t l r d =
        let e : (4 * n + 3) % 2 ≡ 1 = omega arith in rw (code_tag m 3 (omega arith), e) (bound_a m k uto (avar n) ys (λ q. d (inv q)) t r u-used)

    part_means : (a b : Exp) (xs ys : List ℕ) → Stands h p a xs → Stands h k b ys → p + nodes a ≤ wto → k + nodes b ≤ uto → (top a ≡ top b → ⊥) →
        Coded h used (judged_by (top a) (top b) p wto k uto h) (disagreement a b)
    unfolding disagreement
    part_means (evar m) (evar j) xs ys s t l r d =
        let z = ne_eqb m j (λ q. d (ap evar_code q)) in
        let y : eqb j m ≡ false = ne_eqb j m (λ q. d (ap evar_code (inv q))) in
        rw (code_tag m 2 (omega arith), z) (rw y at (bound_e m k uto (evar j) ys t r u-used))
    part_means (evar m) (atm y) xs ys s t l r d = rw (code_tag m 2 (omega arith)) (bound_e m k uto (atm y) ys t r u-used)
    part_means (evar m) (pair a b) xs ys s t l r d = rw (code_tag m 2 (omega arith)) (bound_e m k uto (pair a b) ys t r u-used)
    part_means (atm x) (evar j) xs ys s t l r d =
        rw (ne_eqb (atomic_code x % 4) 2 (atomic_tag x), code_tag j 2 (omega arith)) (bound_e j p wto (atm x) xs s l w-used)
    part_means (atm x) (atm y) xs ys s t l r d =
        rw (ne_eqb (atomic_code x % 4) 2 (atomic_tag x), ne_eqb (atomic_code y % 4) 2 (atomic_tag y), ← (atomic_code_same x y), ne_eqb (atomic_code x) (atomic_code y) d)
        (atomic_means x y xs ys s t l r d)
    part_means (atm x) (pair a b) xs ys s t l r d = rw (ne_eqb (atomic_code x % 4) 2 (atomic_tag x)) (pick (eqb (atomic_code x % 4) 3))
      where
        pick : (b : Bool) → Coded h used (cond b Apart Apart) contra
        pick true = apart
        pick false = apart
    part_means (pair a b) (evar j) xs ys s t l r d = rw (code_tag j 2 (omega arith)) (bound_e j p wto (pair a b) xs s l w-used)
    part_means (pair a b) (atm y) xs ys s t l r d = rw (ne_eqb (atomic_code y % 4) 2 (atomic_tag y)) (pick (eqb (atomic_code y % 4) 3))
      where
        pick : (b : Bool) → Coded h used (cond b Apart Apart) contra
        pick true = apart
        pick false = apart
    part_means (pair a b) (pair c e) xs ys s t l r d = absurd (d refl)

-- a part of a run of cells, as a tree that stands there
run_stands : (s : List ℕ) (from to : ℕ) (front : List ℕ) (a : Exp) (xs : List ℕ) → part from to s ≡ front ++ (cells a ++ xs) →
    Stands s (from + length front) a (xs ++ drop (to - from) (drop from s))
run_stands s from to front a xs h =
    let r = drop (to - from) (drop from s) in
    let whole : drop from s ≡ (front ++ (cells a ++ xs)) ++ r = inv (take-append-drop (to - from) (drop from s)) ∙ ap (λ (l : List ℕ). l ++ r) h in
    record { here = inv (drop-drop (length front) from s) ∙ ap (drop (length front)) (whole ∙ simp append_assoc) ∙ drop-append_seam front (cells a ++ (xs ++ r)) }

first_cell : (s : List ℕ) (p : ℕ) (a : Exp) (xs : List ℕ) → Stands s p a xs → get_or s p 0 ≡ top a
first_cell s p a xs t =
    let z : p + 0 ≡ p = omega arith in
    inv (get_or-drop p s 0 0 ∙ ap (λ (i : ℕ). get_or s i 0) z) ∙ ap (λ (l : List ℕ). get_or l 0 0) (t.here ∙ ap (λ (l : List ℕ). l ++ xs) (root a))

module _ (h : List ℕ) (used wfrom wto ufrom uto : ℕ) (w u : Exp) (whole : length h ≡ 65535) (in_heap_lem : used ≤ 65535)
    (wanted : Holds h used wfrom wto w) (output : Holds h used ufrom uto u) where
  w_end : wto ≡ wfrom + nodes w
  w_end = omega (arith, holds_nodes wanted, nodes_positive w)

  u_end : uto ≡ ufrom + nodes u
  u_end = omega (arith, holds_nodes output, nodes_positive u)

  at_difference : (n : ℕ) → common_front (run wfrom wto h) (run ufrom uto h) ≡ n →
      leftmost_in wfrom wto ufrom uto h ≡ differing_at wto uto (record { wanted = wfrom + n; output = ufrom + n }) h
  unfolding leftmost_in first_difference
  at_difference n e =
      let a : min wto 65535 ≡ wto = omega (arith, wanted.below) in
      let b : min uto 65535 ≡ uto = omega (arith, output.below) in
      rw (a, b, e)

  scanned : Scan w u → Coded h used (leftmost_in wfrom wto ufrom uto h) (disagreement w u)
  scanned (equal e i) =
      let key : common_front (run wfrom wto h) (run ufrom uto h) ≡ nodes w = rw (wanted.is, output.is, e) (common_same (cells u) ∙ cells_nodes u) in
      rw (i, at_difference (nodes w) key, le-leb wto (wfrom + nodes w) (omega (arith, w_end))) same
  scanned (differs z D) =
      let n = length D.front in
      let key : common_front (run wfrom wto h) (run ufrom uto h) ≡ n =
      rw (wanted.is, output.is, D.wanted, D.output, root D.a, root D.b) (common_before D.front (top D.a) (top D.b) (below D.a ++ D.xs) (below D.b ++ D.ys) D.apart) in
      let s = run_stands h wfrom wto D.front D.a D.xs (inv (run_part wfrom wto h (omega (arith, wanted.below))) ∙ wanted.is ∙ D.wanted) in
      let t = run_stands h ufrom uto D.front D.b D.ys (inv (run_part ufrom uto h (omega (arith, output.below))) ∙ output.is ∙ D.output) in
      let lw = ap length D.wanted in
      let lu = ap length D.output in
      let l : wfrom + n + nodes D.a ≤ wto = omega (arith, lw, length-append D.front (cells D.a ++ D.xs), length-append (cells D.a) D.xs, cells_nodes D.a, cells_nodes w, w_end) in
      let r : ufrom + n + nodes D.b ≤ uto = omega (arith, lu, length-append D.front (cells D.b ++ D.ys), length-append (cells D.b) D.ys, cells_nodes D.b, cells_nodes u, u_end) in
      rw (
        D.says,
        at_difference n key,
        lt-leb wto (wfrom + n) (omega (arith, nodes_positive D.a)),
        lt-leb uto (ufrom + n) (omega (arith, nodes_positive D.b)),
        first_cell h (wfrom + n) D.a _ s,
        first_cell h (ufrom + n) D.b _ t,
      )
      (part_means h used (omega arith) (wfrom + n) wto (ufrom + n) uto wanted.below output.below D.a D.b _ _ s t l r D.apart)

  -- THE LAW of the leftmost difference: it is the disagreement of the two trees
  pub leftmost_means : Coded h used (leftmost_in wfrom wto ufrom uto h) (disagreement w u)
  leftmost_means = scanned (scan w u)
