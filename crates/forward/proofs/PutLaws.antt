-- What is written into the answer storage behind what stands there, p: cells follow it, or they are over the limit.
use Prim.Native.Nat.{ℕ, zero, suc, ◌+◌, ◌-◌, ◌≤◌, ◌<◌}
use mathlib.Core.Path.{◌≡◌, refl, ap, ap₂, ◌∙◌, sym as inv}
use mathlib.Core.List.{List, [], ◌∷◌, ◌++◌, append_assoc, append-nil}
use mathlib.Core.Logic.{◌⊎◌, inl, inr}
use native.Mathlib.Omega.{arith}
use native.Mathlib.Numerals.{add-one}
use native.Mathlib.Decide.{dec_le}
use lib.ListN.{length, take, drop, get_or, set, length-append, length-drop}
use lib.Seq.{drop-cons, set_at, take_at, drop_at, drop-drop}
use borrow.Author.Tests.{le-leb, lt-leb, lt-ltb, le-ltb}
use Rattle.std.specs.Prelude.{Some, None}
use Rattle.expressions.specs.Expression.{Exp, nodes}
use Rattle.sets.specs.Twins.Copying.{CopyAnswer, copied}
use Rattle.sets.specs.Cells.{cells}
use Rattle.sets.proofs.CellLaws.{cells_nodes, copied_done}
use Rattle.runs.specs.Twins.Runs.{cells_at}
use Rattle.runs.proofs.RunLaws.{Below}
use Rattle.heap.proofs.HeapLaws.{Holds}
use Rattle.heap.proofs.NodeLaws.{holds_nodes}
use Rattle.forward.specs.Twins.Output.{cell_put, range_put, OutLeft, out_left, beside, onward_from}

-- a run is a part of the list
run_take : (n i : ℕ) (h : List ℕ) → i + n ≤ length h → take n (drop i h) ≡ cells_at n i h
unfolding cells_at
run_take zero i h l = refl
run_take (suc n) i h l =
    ap (take (suc n)) (drop-cons h i 0 (omega arith)) ∙ ap (λ (k : List ℕ). get_or h i 0 ∷ k) (ap (λ (j : ℕ). take n (drop j h)) (inv (add-one i)) ∙ run_take n (i + 1) h (omega arith))

-- a copy behind p
copied_behind : (src : List ℕ) (from n : ℕ) (p r : List ℕ) → from + n ≤ length src → n ≤ length r → (copied src from n (p ++ r) (length p)).cells ≡ (p ++ take n (drop from src)) ++ drop n r
copied_behind src from n p r in_src in-r =
    let m : length p + n ≤ length (p ++ r) = omega (arith, length-append p r) in
    let e : take (length p) (p ++ r) ≡ p = take_at p r (length p) refl in
    let f : drop (length p + n) (p ++ r) ≡ drop n r = inv (drop-drop n (length p) (p ++ r)) ∙ ap (drop n) (drop_at p r (length p) refl) in
    ap (λ (w : CopyAnswer). w.cells) (copied_done src from n (p ++ r) (length p) in_src m) ∙ rw (e, f)

set_behind : (p r : List ℕ) (x : ℕ) → 1 ≤ length r → set (p ++ r) (length p) x ≡ (p ++ (x ∷ [])) ++ drop 1 r
set_behind p [] x l = absurd (omega arith)
set_behind p (y ∷ r) x l = set_at p y r x (length p) refl ∙ inv (append_assoc p (x ∷ []) r)

-- the heap as it was below B
pub record Kept (B : ℕ) (h g : List ℕ) : Type 0 where
  pub same : Below B g h
  pub size : length g ≡ 65535

module _ (limit B : ℕ) (h : List ℕ) where
  -- p stands in the storage, with room for `limit` cells
  pub record Room (p r : List ℕ) : Type 0 where
    pub most : length p ≤ limit
    pub room : limit ≤ length p + length r

  -- v stands behind p
  pub record Follows (p r v : List ℕ) (w : OutLeft) : Type 0 where
    pub done : w.answer ≡ Some (length (p ++ v))
    pub is : w.cells ≡ (p ++ v) ++ drop (length v) r
    pub fits : length p + length v ≤ limit
    pub kept : Kept B h w.heap

  abbrev pub Puts : List ℕ → List ℕ → List ℕ → OutLeft → Type 0
  Puts p r v w = ((w.answer ≡ None) × (limit < length p + length v) × (length w.cells ≡ length p + length r)) ⊎ Follows p r v w

  pub nothing_put : (p r g : List ℕ) → Room p r → Kept B h g → Puts p r [] (out_left (Some (length p)) g (p ++ r))
  nothing_put p r g m k = inr (record { done = rw (append-nil p); is = rw (append-nil p); fits = omega (arith, m.most); kept = k })

  pub cell_put_lem : (p r g : List ℕ) (x : ℕ) → Room p r → Kept B h g → Puts p r (x ∷ []) (beside g (cell_put x (length p) limit (p ++ r)))
  unfolding cell_put
  cell_put_lem p r g x m k = go (dec_le limit (length p))
    where
      go : Dec (limit ≤ length p) → Puts p r (x ∷ []) (beside g (cell_put x (length p) limit (p ++ r)))
      go (yes l) = rw (le-leb limit (length p) l) (inl (refl, omega arith, length-append p r))
      go (no l) =
          rw (lt-leb limit (length p) (omega arith)) (inr (record {
            done = ap Some (inv (length-append p (x ∷ [])));
            is = set_behind p r x (omega (arith, m.room));
            fits = omega arith;
            kept = k;
          }))

  -- a range that holds a tree
  pub range_put_lem : (p r g : List ℕ) (used from to : ℕ) (t : Exp) → Room p r → Kept B h g → Holds g used from to t → used ≤ 65535 → from ≤ to → Puts p r (cells t) (beside g (range_put from to (length p) limit g (p ++ r)))
  unfolding range_put
  range_put_lem p r g used from to t m k x u o = go (dec_le (length p + nodes t) limit)
    where
      size : to - from ≡ nodes t
      size = holds_nodes x

      here : take (nodes t) (drop from g) ≡ cells t
      here =
          let n = holds_nodes x in
          run_take (nodes t) from g (omega (arith, x.below, k.size)) ∙ ap (λ (j : ℕ). cells_at j from g) (inv n) ∙ x.is

      go : Dec (length p + nodes t ≤ limit) → Puts p r (cells t) (beside g (range_put from to (length p) limit g (p ++ r)))
      go (yes l) =
          let n = cells_nodes t in
          let z : length (p ++ cells t) ≡ length p + nodes t = length-append p (cells t) ∙ omega arith in
          rw (size, le-ltb limit (length p) m.most, le-ltb (limit - length p) (nodes t) (omega arith)) (inr (record {
            done = ap Some (inv z);
            is = copied_behind g from (nodes t) p r (omega (arith, holds_nodes x, x.below, k.size)) (omega (arith, m.room)) ∙ rw (here, n);
            fits = omega arith;
            kept = k;
          }))
      go (no l) = rw (size, le-ltb limit (length p) m.most, lt-ltb (limit - length p) (nodes t) (omega (arith, m.most))) (inl (refl, omega (arith, cells_nodes t), length-append p r))

  -- one behind the other
  pub put_then : (p r v u : List ℕ) (w : OutLeft) (again : ℕ → List ℕ → List ℕ → OutLeft) → Room p r → Puts p r v w →
      ((g : List ℕ) → Kept B h g → Room (p ++ v) (drop (length v) r) → Puts (p ++ v) (drop (length v) r) u (again (length (p ++ v)) g ((p ++ v) ++ drop (length v) r))) →
      Puts p r (v ++ u) (onward_from again w)
  put_then p r v u w again m (inl o) next = rw o.0 (inl (refl, omega (arith, o.1, length-append v u), o.2))
  put_then p r v u w again m (inr a) next =
      let n = length-append p v in
      let k : Room (p ++ v) (drop (length v) r) = record { most = omega (arith, a.fits); room = omega (arith, a.fits, m.room, length-drop (length v) r) } in
      rw (a.done, a.is) (join (next w.heap a.kept k))
    where
      join : {x : OutLeft} → Puts (p ++ v) (drop (length v) r) u x → Puts p r (v ++ u) x
      join (inl o) = inl (o.0, omega (arith, o.1, length-append p v, length-append v u), omega (arith, o.2, length-append p v, length-drop (length v) r, a.fits, m.room))
      join (inr b) =
          let e = append_assoc p v u in
          let n = length-append v u in
          inr (record {
            done = b.done ∙ ap (λ (l : List ℕ). Some (length l)) e;
            is = b.is ∙ ap₂ {C = List ℕ} ◌++◌ e (drop-drop (length u) (length v) r ∙ ap (λ (j : ℕ). drop j r) (inv n));
            fits = omega (arith, b.fits, length-append p v);
            kept = b.kept;
          })
