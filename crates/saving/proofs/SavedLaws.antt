-- What `older_used` and `save` mean: of the records that are held the newer ones may be forgotten, and one more is held, or not.
use Prim.Native.Nat.{ℕ, zero, suc, ◌+◌, ◌-◌, ◌/◌, ◌≤◌, ◌<◌, min}
use mathlib.Core.Path.{◌≡◌, refl, ap, ◌∙◌, sym as inv}
use mathlib.Core.Bool.{Bool, true, false, cond, ◌&&◌}
use mathlib.Core.List.{List, [], ◌∷◌, ◌++◌}
use mathlib.Core.Logic.{◌⊎◌, inl, inr}
use native.Mathlib.Omega.{arith}
use native.Mathlib.Decide.{dec_le}
use lib.Dec.{leb, ltb}
use lib.ListN.{length, take}
use borrow.Author.Tests.{le-leb, lt-leb, leb-true}
use Rattle.saving.specs.Twins.Heads.{used_at, depth_at, begins_at}
use Rattle.saving.specs.Twins.Saving.{size_of, allowed_at, is_low, older_top, older_used, place_for, SaveLeft, saved_at, saved_to}
use Rattle.saving.specs.Twins.Records.{Record, record_of, record_cells, Fits, Holding}
use Rattle.saving.specs.declared.head.Node.{Node}
use Rattle.saving.proofs.OlderTurns.{older_end, older_here, older_turn}
use Rattle.saving.proofs.HoldingLaws.{top_of, holding_low, holding_all, top_grows, top_begins, holding_take, store_means, records_one}

-- the top of the first k records, m of them at least; where there are more than m, they are low
record Older (s : List ℕ) (rs : List Record) (size used m t : ℕ) : Type 0 where
  k : ℕ
  least : m ≤ k
  most : k ≤ length rs
  is : t ≡ top_of rs k
  low : (k ≡ m) ⊎ (is_low s size used t ≡ true)

module _ {s : List ℕ} {top : ℕ} {rs : List Record} (x : Holding s top rs) (d : Record) (m base size used : ℕ) (bottom : base ≡ top_of rs m) where
  abbrev Found : ℕ → Type 0
  Found j = m + j ≤ length rs → (base ≤ top_of rs (m + j)) × Older s rs size used m (older_top s base size used (top_of rs (m + j)))

  found_none : Found 0
  found_none l =
      let z : m + 0 ≡ m = omega arith in
      let e : top_of rs (m + 0) ≡ base = rw z (inv bottom) in
      let n = older_end s base size used (top_of rs (m + 0)) (top_of rs (m + 0)) (omega arith) in
      (omega arith, record { k = m; least = omega arith; most = omega arith; is = n ∙ bottom; low = inl refl })

  found_more : (j : ℕ) → Found j → Found (suc j)
  found_more j again l =
      let e : m + suc j ≡ suc (m + j) = omega arith in
      let g = top_grows x (m + j) d (omega arith) in
      let a = again (omega arith) in
      rw e (omega (arith, a.0), pick (omega (arith, a.0)) a.1 (is_low s size used (top_of rs (suc (m + j)))) refl)
    where
      pick : base < top_of rs (suc (m + j)) → Older s rs size used m (older_top s base size used (top_of rs (m + j))) → (b : Bool) → is_low s size used (top_of rs (suc (m + j))) ≡ b →
          Older s rs size used m (older_top s base size used (top_of rs (suc (m + j))))
      pick p o true e =
          rw (older_here s base size used (top_of rs (suc (m + j))) (top_of rs (suc (m + j))) p (omega arith) e)
          (record { k = suc (m + j); least = omega arith; most = omega arith; is = refl; low = inr e })
      pick p o false e = rw (older_turn s base size used (top_of rs (suc (m + j))) p e, top_begins x (m + j) d (omega arith)) o

  found : (j : ℕ) → Found j
  found zero = found_none
  found (suc j) = found_more j (found j)

  older_held : m ≤ length rs → Older s rs size used m (older_top s base size used top)
  older_held l =
      let e : m + (length rs - m) ≡ length rs = omega arith in
      let z : top_of rs (m + (length rs - m)) ≡ top = rw e (holding_all x) in
      rw z at (found (length rs - m) (omega arith)).1

-- the first k records are held, m of them at least, and the last has at most half of the heap in use where there are more than m
pub record OlderHeld (s : List ℕ) (rs : List Record) (m t : ℕ) : Type 0 where
  pub k : ℕ
  pub least : m ≤ k
  pub most : k ≤ length rs
  pub holds : Holding s t (take k rs)
  pub low : (k ≡ m) ⊎ (used_at s t ≤ 32768)

-- the first k records are held, m of them at least, and one more or not
pub record SaveHeld (rs : List Record) (r : Record) (m : ℕ) (w : SaveLeft) : Type 0 where
  pub k : ℕ
  pub least : m ≤ k
  pub most : k ≤ length rs
  pub holds : Holding w.saved w.top (take k rs ++ (r ∷ [])) ⊎ Holding w.saved w.top (take k rs)

second_true : (t u : Bool) → (t && u) ≡ true → u ≡ true
second_true true u e = e
second_true false u e = cc

-- a record, of any kind
abbrev nothing : Record
nothing = record { at = record { inputs = 0; outputs = 0; entries = 0; used = 0; neqs = 0; place = 0; counter = 0 }; steps = 0; depth = 0; entries = []; sides = [] }

module _ {s : List ℕ} {top : ℕ} {rs : List Record} (x : Holding s top rs) (m base : ℕ) (bottom : base ≡ top_of rs m) (in-rs : m ≤ length rs) where
  allowed_most : (t : ℕ) → allowed_at s 16384 t ≤ 32768
  unfolding allowed_at
  allowed_most t = pick (ltb (min (depth_at s (begins_at s t)) 65535 + 8) (depth_at s t))
    where
      pick : (b : Bool) → cond b (min 16384 65535 + min 16384 65535 / 2) (min 16384 65535) ≤ 32768
      pick true = omega arith
      pick false = omega arith

  low_used : (t : ℕ) → is_low s 16384 16384 t ≡ true → used_at s t ≤ 32768
  low_used t e =
      let l = leb-true (used_at s t) (allowed_at s 16384 t) (second_true (leb t 16384) (leb (used_at s t) (allowed_at s 16384 t)) e) in
      omega (arith, l, allowed_most t)

  low_of : (k t : ℕ) → (k ≡ m) ⊎ (is_low s 16384 16384 t ≡ true) → (k ≡ m) ⊎ (used_at s t ≤ 32768)
  low_of k t (inl e) = inl e
  low_of k t (inr e) = inr (low_used t e)

  -- THE LAW of forgetting where the heap is full, with m records that stay
  pub older_above : OlderHeld s rs m (older_used s top base)
  older_above =
      let o = older_held x nothing m base 16384 16384 bottom in-rs in
      record { k = o.k; least = o.least; most = o.most; holds = rw o.is (holding_take x o.k); low = low_of o.k (older_used s top base) o.low }

  -- where a record goes
  placed : (size : ℕ) → (k : ℕ) × (m ≤ k) × (k ≤ length rs) × (place_for s size top base ≡ top_of rs k)
  placed size = pick (dec_le size (16384 - top))
    where
      clipped : min top 16384 ≡ top
      clipped = omega (arith, holding_low x)

      pick : Dec (size ≤ 16384 - top) → (k : ℕ) × (m ≤ k) × (k ≤ length rs) × (place_for s size top base ≡ top_of rs k)
      pick (yes l) = (length rs, in-rs, omega arith, rw (clipped, le-leb size (16384 - top) l) (inv (holding_all x)))
      pick (no l) =
          let o = older_held x nothing m base 8192 65535 bottom in-rs in
          (o.k, o.least, o.most, rw (clipped, lt-leb size (16384 - top) (omega arith)) o.is)

  -- THE LAW of saving, with m records that stay
  pub save_above : (f q : List ℕ) (n : Node) → Fits (record_of f q n) → SaveHeld rs (record_of f q n) m (saved_to f q n top base s)
  unfolding saved_to
  save_above f q n ok = at_place (placed (size_of n))
    where
      at_place : (k : ℕ) × (m ≤ k) × (k ≤ length rs) × (place_for s (size_of n) top base ≡ top_of rs k) → SaveHeld rs (record_of f q n) m (saved_to f q n top base s)
      at_place (k, l, u, e) =
          let h = holding_take x k in
          let c : min (place_for s (size_of n) top base) 16384 ≡ top_of rs k = rw e (omega (arith, holding_low h)) in
          rw c (pick h (dec_le (size_of n) (16384 - top_of rs k)))
        where
          pick : Holding s (top_of rs k) (take k rs) → Dec (size_of n ≤ 16384 - top_of rs k) → SaveHeld rs (record_of f q n) m (saved_at f q n (top_of rs k) s)
          pick h (yes p) = rw (le-leb (size_of n) (16384 - top_of rs k) p) (record { k = k; least = l; most = u; holds = inl (store_means h f q n ok p) })
          pick h (no p) = rw (lt-leb (size_of n) (16384 - top_of rs k) (omega arith)) (record { k = k; least = l; most = u; holds = inr h })

-- where there is room on top, nothing is forgotten
pub save_fits : {s : List ℕ} {top : ℕ} {rs : List Record} → Holding s top rs → (base : ℕ) (f q : List ℕ) (n : Node) → Fits (record_of f q n) → size_of n ≤ 16384 - top →
    let w = saved_to f q n top base s in Holding w.saved w.top (rs ++ (record_of f q n ∷ []))
unfolding saved_to
save_fits {top = top} x base f q n ok room =
    let c : min top 16384 ≡ top = omega (arith, holding_low x) in
    rw (c, le-leb (size_of n) (16384 - top) room, c, le-leb (size_of n) (16384 - top) room) (store_means x f q n ok room)

-- THE LAWS with the first record at the bottom, which ends at `base`
module _ {s : List ℕ} {top : ℕ} {b : Record} {rs : List Record} (x : Holding s top (b ∷ rs)) (base : ℕ) (bottom : base ≡ length (record_cells b)) where
  first_top : base ≡ top_of (b ∷ rs) 1
  first_top = bottom ∙ ap length (inv (records_one b))

  pub older_means : OlderHeld s (b ∷ rs) 1 (older_used s top base)
  older_means = older_above x 1 base first_top (omega arith)

  pub save_means : (f q : List ℕ) (n : Node) → Fits (record_of f q n) → SaveHeld (b ∷ rs) (record_of f q n) 1 (saved_to f q n top base s)
  save_means f q n ok = save_above x 1 base first_top (omega arith) f q n ok
