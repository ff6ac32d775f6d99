-- Trees that stand one behind the other: the entries that are made hold them, or there are too many.
use Prim.Native.Nat.{ℕ, suc, ◌+◌, ◌-◌, ◌*◌, ◌≤◌, ◌<◌}
use mathlib.Core.Path.{◌≡◌, refl, ap, ◌∙◌, sym as inv}
use mathlib.Core.List.{List, [], ◌∷◌, ◌++◌, append_assoc}
use mathlib.Core.Logic.{◌⊎◌, inl, inr}
use native.Mathlib.Omega.{arith}
use native.Mathlib.Decide.{dec_le}
use lib.ListN.{length, take, drop, length-append}
use lib.Seq.{take_at, drop_at}
use Rattle.std.specs.Prelude.{Some, None}
use Rattle.expressions.specs.Expression.{Exp, nodes}
use Rattle.sets.specs.Twins.Copying.{tree_end}
use Rattle.sets.specs.Cells.{cells, cells_all}
use Rattle.sets.proofs.CellLaws.{stands_end, cells_nodes}
use Rattle.runs.specs.Twins.Runs.{cells_at, run}
use Rattle.heap.specs.Twins.Entries.{PushAnswer, entry, entry_known, entry_from, entry_to, pushed}
use Rattle.runs.proofs.RunLaws.{Below, below_self, length_cells_at, run_drop, cells_split}
use Rattle.heap.proofs.HeapLaws.{Holds, nodes_positive}
use Rattle.heap.proofs.FrameLaws.{Held, entry_length, entry_before, entry_known_lem, entry_from_lem, entry_to_lem}
use Rattle.heap.proofs.KnownLaws.{KnownOf, unknown}
use Rattle.heap.proofs.FrameLaws as frame
use Rattle.initial.specs.Twins.Trees.{onward_push, trees_entered}
use Rattle.initial.proofs.InitialTurns.{trees_end, trees_turn, pushed_full, pushed_on}

-- the two parts of a run
pub run_parts : (m n i : ℕ) (h u v : List ℕ) → cells_at (m + n) i h ≡ u ++ v → length u ≡ m → (cells_at m i h ≡ u) × (cells_at n (i + m) h ≡ v)
run_parts m n i h u v e l =
    let s : cells_at m i h ++ cells_at n (i + m) h ≡ u ++ v = inv (cells_split m n i h) ∙ e in
    let k = length_cells_at m i h in (
      inv (take_at (cells_at m i h) (cells_at n (i + m) h) m k) ∙ ap (take m) s ∙ take_at u v m l,
      inv (drop_at (cells_at m i h) (cells_at n (i + m) h) m k) ∙ ap (drop m) s ∙ drop_at u v m l,
    )

-- the first tree of a run, and those behind it
pub record First (h : List ℕ) (i to : ℕ) (t : Exp) (r : List ℕ) : Type 0 where
  pub within : i + nodes t ≤ to
  pub some : i < i + nodes t
  pub first : run i (i + nodes t) h ≡ cells t
  pub rest : run (i + nodes t) to h ≡ r
  pub end : tree_end h i ≡ i + nodes t

first_tree : (h : List ℕ) (i to : ℕ) (t : Exp) (r : List ℕ) → i ≤ to → to ≤ length h → run i to h ≡ cells t ++ r → First h i to t r
first_tree h i to t r l m e =
    let k : to - i ≡ nodes t + length r = inv (length_cells_at (to - i) i h) ∙ ap length e ∙ length-append (cells t) r ∙ ap (λ (x : ℕ). x + length r) (cells_nodes t) in
    let p = run_parts (nodes t) (length r) i h (cells t) r (ap (λ (x : ℕ). cells_at x i h) (inv k) ∙ e) (cells_nodes t) in
    let a : i + nodes t - i ≡ nodes t = omega arith in
    let b : to - (i + nodes t) ≡ length r = omega arith in
    let c : i + (to - i) ≡ to = omega arith in
    let d : drop i h ≡ run i to h ++ drop to h = run_drop (to - i) i h (omega arith) ∙ ap (λ (x : ℕ). run i to h ++ drop x h) c in
    record {
      within = omega arith;
      some = omega (arith, nodes_positive t);
      first = ap (λ (x : ℕ). cells_at x i h) a ∙ p.0;
      rest = ap (λ (x : ℕ). cells_at x (i + nodes t) h) b ∙ p.1;
      end = stands_end {c = t} {rest = r ++ drop to h} (record { here = d ∙ ap (λ (x : List ℕ). x ++ drop to h) e ∙ append_assoc (cells t) r (drop to h) });
    }

-- so many entries more, behind n; what stood before them stands there
pub record Enters (h : List ℕ) (used : ℕ) (f : List ℕ) (n : ℕ) (ts : List Exp) (w : PushAnswer) : Type 0 where
  pub done : w.answer ≡ Some (n + length ts)
  pub holds : Held h used w.frame n ts
  pub before : Below (3 * n) w.frame f
  pub size : length w.frame ≡ length f

-- or there is no room for them
abbrev pub Outcome : List ℕ → ℕ → List ℕ → ℕ → List Exp → PushAnswer → Type 0
Outcome h used f n ts w = ((w.answer ≡ None) × (4120 < n + length ts)) ⊎ Enters h used f n ts w

-- one entry
module _ (h : List ℕ) (used : ℕ) (f : List ℕ) (n i to : ℕ) (t : Exp) (in_heap_lem : used ≤ 65535) (long : length f ≡ 12360) (room : n < 4120) (low : i ≤ used) (x : Holds h used i to t) where
  pub entry_holds : (g : List ℕ) → Below (3 * (n + 1)) g (entry n 0 i to f) → Holds h used (entry_from g n) (entry_to g n) t
  entry_holds g b =
      let l = x.below in
      let p : entry_from g n ≡ i = b.same (3 * n + 1) (omega arith) ∙ entry_from_lem n 0 i to f (omega arith) ∙ omega arith in
      let q : entry_to g n ≡ to = b.same (3 * n + 2) (omega arith) ∙ entry_to_lem n 0 i to f (omega arith) ∙ omega arith in
      rw (p, q) x

  pub entry_knows : (g : List ℕ) → Below (3 * (n + 1)) g (entry n 0 i to f) → KnownOf (entry_known g n) t
  entry_knows g b = let p : entry_known g n ≡ 0 = b.same (3 * n) (omega arith) ∙ entry_known_lem n 0 i to f (omega arith) in rw p unknown

  pub entry_below : (g : List ℕ) → Below (3 * (n + 1)) g (entry n 0 i to f) → Below (3 * n) g f
  entry_below g b = record { same = λ j l. b.same j (omega arith) ∙ (entry_before n 0 i to f).same j l }

module _ (h : List ℕ) (used : ℕ) (whole : length h ≡ 65535) (in_heap_lem : used ≤ 65535) where
  abbrev Means : List Exp → Type 0
  Means ts = (n i to : ℕ) (f : List ℕ) → length f ≡ 12360 → n ≤ 4120 → i ≤ to → to ≤ used → run i to h ≡ cells_all ts → Outcome h used f n ts (trees_entered n i to h f)

  none_means : Means []
  none_means n i to f long room l m e =
      let k : to - i ≡ 0 = inv (length_cells_at (to - i) i h) ∙ ap length e in
      let z : n + 0 ≡ n = omega arith in
      rw (trees_end n i to h f (omega arith)) (inr (record { done = rw z; holds = frame.Held.none; before = below_self; size = refl }))

  -- behind the first
  joined : (t : Exp) (ts : List Exp) (n i to : ℕ) (f : List ℕ) → length f ≡ 12360 → n < 4120 → i ≤ used → Holds h used i to t → (w : PushAnswer) →
      Outcome h used (entry n 0 i to f) (n + 1) ts w → Outcome h used f n (t ∷ ts) w
  joined t ts n i to f long room low x w (inl o) = inl (o.0, omega (arith, o.1))
  joined t ts n i to f long room low x w (inr a) =
      let z : n + 1 + length ts ≡ n + suc (length ts) = omega arith in
      inr (record {
        done = rw z at a.done;
        holds = frame.Held.more (entry_holds h used f n i to t in_heap_lem long room low x w.frame a.before) (entry_knows h used f n i to t in_heap_lem long room low x w.frame a.before) a.holds;
        before = entry_below h used f n i to t in_heap_lem long room low x w.frame a.before;
        size = a.size ∙ entry_length n 0 i to f;
      })

  more_means : (t : Exp) (ts : List Exp) → Means ts → Means (t ∷ ts)
  more_means t ts again n i to f long room l m e = go (dec_le 4120 n)
    where
      x : First h i to t (cells_all ts)
      x = first_tree h i to t (cells_all ts) l (omega arith) e

      turn : trees_entered n i to h f ≡ (let w = pushed n 0 i (tree_end h i) f in onward_push (λ m g. trees_entered m (tree_end h i) to h g) w.answer w.frame)
      turn = trees_turn n i to h f (omega (arith, x.within, x.some))

      go : Dec (4120 ≤ n) → Outcome h used f n (t ∷ ts) (trees_entered n i to h f)
      go (yes k) = rw (turn, pushed_full n i f k (tree_end h i)) (inl (refl, omega arith))
      go (no k) =
          let j : n < 4120 = omega arith in
          let b : Holds h used i (i + nodes t) t = record { below = omega (arith, x.within); is = x.first } in
          let r = again (n + 1) (i + nodes t) to (entry n 0 i (i + nodes t) f) (entry_length n 0 i (i + nodes t) f ∙ long) (omega arith) x.within m x.rest in
          rw (turn, x.end, pushed_on n i f j (i + nodes t)) (joined t ts n i (i + nodes t) f long j (omega arith) b (trees_entered (n + 1) (i + nodes t) to h (entry n 0 i (i + nodes t) f)) r)

  -- THE LAW of `enter_trees`
  pub trees_mean : (ts : List Exp) → Means ts
  trees_mean [] = none_means
  trees_mean (t ∷ ts) = more_means t ts (trees_mean ts)
