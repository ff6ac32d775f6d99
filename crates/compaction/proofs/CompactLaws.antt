-- What `compact` means: each entry holds what it held, the values that do not lie below `floor` stand together from there on, and nothing below it changed.
use Prim.Native.Nat.{ℕ, zero, suc, ◌+◌, ◌-◌, ◌*◌, ◌≤◌, ◌<◌, min}
use mathlib.Core.Path.{◌≡◌, refl, ap, ap₂, ◌∙◌}
use mathlib.Core.List.{List, [], ◌∷◌}
use native.Mathlib.Omega.{arith}
use native.Mathlib.Decide.{dec_le}
use lib.ListN.{length, get_or}
use lib.Seq.{sets, length-sets}
use borrow.Author.Tests.{le-leb, lt-leb, le-ltb}
use Rattle.std.specs.Prelude.{Option, Some}
use Rattle.expressions.specs.Expression.{Exp, nodes, nodes_all}
use Rattle.sets.specs.Twins.Fill.{FillAnswer}
use Rattle.runs.specs.Twins.Runs.{cells_at, run, appended}
use Rattle.heap.specs.Twins.Entries.{entry, entry_known, entry_from, entry_to, PushAnswer, push_answer, pushed}
use Rattle.heap.specs.Twins.Contracted.{Stores, stores, onward_from}
use Rattle.compaction.specs.Twins.Compacting.{relocated_entry, relocated_from, cells_moved, Compaction, moved_stores, compacted}
use Rattle.runs.proofs.RunLaws.{Below, below_self, below_sets, length_cells_at}
use Rattle.heap.proofs.HeapLaws.{Holds, holds_below, sets_cells, Grown, append_means}
use Rattle.heap.proofs.KnownLaws.{KnownOf}
use Rattle.heap.proofs.FrameLaws.{Behind, entry_length, entry_before, entry_behind, entry_known_lem, entry_from_lem, entry_to_lem, known_kept, held_kept, Held, none, more}

-- an entry that is there, put anew
module _ (i known from to : ℕ) (f : List ℕ) (l : i < 4120) where
  pushed_fits : pushed i known from to f ≡ push_answer (Some (i + 1)) (entry i known from to f)
  unfolding pushed
  pushed_fits = rw (lt-leb 4120 i l)

  pub pushed_there : (g : List ℕ) (r : Option ℕ) → push_answer r g ≡ pushed i known from to f → g ≡ entry i known from to f
  pushed_there g r e = ap (λ (p : PushAnswer). p.frame) (e ∙ pushed_fits)

-- turns of `relocate_entries`
module _ (i end floor down used : ℕ) (h f : List ℕ) where
  pub relocate_end : end ≤ i → relocated_from (end - i) i floor down used h f ≡ stores (Some used) h f
  unfolding relocated_from
  relocate_end l = let n : end - i ≡ 0 = omega arith in rw n

  pub relocate_turn : i < end →
      relocated_from (end - i) i floor down used h f ≡ onward_from (relocated_from (end - (i + 1)) (i + 1) floor down) (relocated_entry i floor down used h f)
  unfolding relocated_from
  relocate_turn l = let n : end - i ≡ suc (end - (i + 1)) = omega arith in rw n

-- an entry whose value lies below `floor`, or will stand `down` cells lower than it does
pub data Placed (h : List ℕ) (used floor down from to : ℕ) (t : Exp) : Type 0 where
  stays : Holds h floor from to t → Placed h used floor down from to t
  moves : floor ≤ from → Holds h used (from + down) (to + down) t → Placed h used floor down from to t

pub data AllPlaced (h : List ℕ) (used floor down : ℕ) (f : List ℕ) : ℕ → List Exp → Type 0 where
  none_p : {i : ℕ} → AllPlaced h used floor down f i []
  more_p : {i : ℕ} {t : Exp} {ts : List Exp} → Placed h used floor down (entry_from f i) (entry_to f i) t → KnownOf (entry_known f i) t → AllPlaced h used floor down f (i + 1) ts → AllPlaced h used floor down f i (t ∷ ts)

placed_below : {h h' : List ℕ} {used k floor down from to : ℕ} {t : Exp} → Placed h used floor down from to t → Below used h' h → floor ≤ used → used ≤ k → Placed h' k floor down from to t
placed_below (stays x) b l m = stays (holds_below x (record { same = λ j p. b.same j (omega arith) }) (omega arith))
placed_below (moves q x) b l m = moves q (holds_below x b m)

-- what relocating the n entries from i on leaves
pub record Relocated (h f : List ℕ) (used floor down i n : ℕ) (ts : List Exp) (w : Stores) : Type 0 where
  pub now : ℕ
  pub done : w.answer ≡ Some now
  pub grown : used ≤ now
  pub most : now ≤ used + nodes_all ts
  pub same : Below used w.heap h
  pub size : length w.heap ≡ 65535
  pub before : Below (3 * i) w.frame f
  pub behind : Behind (3 * (i + n)) w.frame f
  pub entries : length w.frame ≡ length f
  pub holds : AllPlaced w.heap now floor down w.frame i ts

module _ (h f : List ℕ) (used floor down i : ℕ) (whole : length h ≡ 65535) (above : floor + down ≤ used) (in_frame : 3 * (i + 1) ≤ length f) (t : Exp)
    (held : Holds h used (entry_from f i) (entry_to f i) t) (known : KnownOf (entry_known f i) t) (room : used + nodes t ≤ 65535) where
  stayed : entry_to f i ≤ floor → Relocated h f used floor down i 1 (t ∷ []) (stores (Some used) h f)
  stayed l = record {
    now = used;
    done = refl;
    grown = omega arith;
    most = omega arith;
    same = below_self;
    size = whole;
    before = below_self;
    behind = record { same = λ j m. refl };
    entries = refl;
    holds = more_p (stays (record { below = l; is = held.is })) known none_p;
  }

  moved : (k : ℕ) (w : FillAnswer) → k ≡ used + nodes t → Grown h used t w →
      Relocated h f used floor down i 1 (t ∷ []) (stores (Some k) w.cells (entry i (entry_known f i) (used - down) (k - down) f))
  moved k w e g =
      let p : entry_from (entry i (entry_known f i) (used - down) (k - down) f) i ≡ used - down = entry_from_lem i (entry_known f i) (used - down) (k - down) f in_frame ∙ omega arith in
      let q : entry_to (entry i (entry_known f i) (used - down) (k - down) f) i ≡ k - down = entry_to_lem i (entry_known f i) (used - down) (k - down) f in_frame ∙ omega arith in
      let u : used - down + down ≡ used = omega arith in
      let v : k - down + down ≡ used + nodes t = omega arith in
      let a : Holds w.cells k (used - down + down) (k - down + down) t = rw (u, v, e) g.holds in
      let b : Placed w.cells k floor down (entry_from (entry i (entry_known f i) (used - down) (k - down) f) i) (entry_to (entry i (entry_known f i) (used - down) (k - down) f) i) t =
      rw (p, q) (moves (omega arith) a) in
      let n : entry_known (entry i (entry_known f i) (used - down) (k - down) f) i ≡ entry_known f i = entry_known_lem i (entry_known f i) (used - down) (k - down) f in_frame in
      record {
        now = k;
        done = refl;
        grown = omega arith;
        most = omega arith;
        same = g.same;
        size = g.size;
        before = entry_before i (entry_known f i) (used - down) (k - down) f;
        behind = entry_behind i (entry_known f i) (used - down) (k - down) f;
        entries = entry_length i (entry_known f i) (used - down) (k - down) f;
        holds = more_p b (known_kept f (entry i (entry_known f i) (used - down) (k - down) f) i known n) none_p;
      }

  -- one entry
  relocate_one : Relocated h f used floor down i 1 (t ∷ []) (relocated_entry i floor down used h f)
  unfolding relocated_entry
  relocate_one = pick (dec_le (entry_to f i) floor)
    where
      pick : Dec (entry_to f i ≤ floor) → Relocated h f used floor down i 1 (t ∷ []) (relocated_entry i floor down used h f)
      pick (yes l) = rw (le-leb (entry_to f i) floor l) (stayed l)
      pick (no l) =
          let g = append_means h whole used held room in
          rw (lt-leb (entry_to f i) floor (omega arith), g.done) (moved (used + nodes t) (appended (entry_from f i) (entry_to f i) used h) refl g)

-- one entry and those behind it
joined : (h f : List ℕ) (used floor down i n : ℕ) (t : Exp) (ts : List Exp) → floor ≤ used → (w : Stores) (a : Relocated h f used floor down i 1 (t ∷ []) w) (u : Stores) →
    Relocated w.heap w.frame a.now floor down (i + 1) n ts u → Relocated h f used floor down i (suc n) (t ∷ ts) u
joined h f used floor down i n t ts low w a u b =
    let e : entry_from u.frame i ≡ entry_from w.frame i = b.before.same (3 * i + 1) (omega arith) in
    let o : entry_to u.frame i ≡ entry_to w.frame i = b.before.same (3 * i + 2) (omega arith) in
    let x : Placed u.heap b.now floor down (entry_from u.frame i) (entry_to u.frame i) t =
    rw (e, o) (placed_below (first a.holds) b.same (omega (arith, a.grown)) b.grown) in
    record {
      now = b.now;
      done = b.done;
      grown = omega (arith, a.grown, b.grown);
      most = omega (arith, a.most, b.most);
      same = record { same = λ j l. b.same.same j (omega (arith, a.grown)) ∙ a.same.same j l };
      size = b.size;
      before = record { same = λ j l. b.before.same j (omega arith) ∙ a.before.same j l };
      behind = record { same = λ j l. b.behind.same j (omega arith) ∙ a.behind.same j (omega arith) };
      entries = b.entries ∙ a.entries;
      holds = more_p x (known_kept w.frame u.frame i (first_known a.holds) (b.before.same (3 * i) (omega arith))) b.holds;
    }
  where
    first : {g : List ℕ} {k : ℕ} {e : List ℕ} → AllPlaced g k floor down e i (t ∷ []) → Placed g k floor down (entry_from e i) (entry_to e i) t
    first (more_p x k r) = x

    first_known : {g : List ℕ} {k : ℕ} {e : List ℕ} → AllPlaced g k floor down e i (t ∷ []) → KnownOf (entry_known e i) t
    first_known (more_p x k r) = k

module _ (floor down : ℕ) where
  abbrev Means : List Exp → Type 0
  Means ts =
      (i used : ℕ) (h f : List ℕ) → length h ≡ 65535 → floor + down ≤ used → used + nodes_all ts ≤ 65535 → 3 * (i + length ts) ≤ length f → Held h used f i ts →
      Relocated h f used floor down i (length ts) ts (relocated_from (length ts) i floor down used h f)

  means_none : Means []
  unfolding relocated_from
  means_none i used h f whole above room in_frame held = record {
    now = used;
    done = refl;
    grown = omega arith;
    most = omega arith;
    same = below_self;
    size = whole;
    before = below_self;
    behind = record { same = λ j l. refl };
    entries = refl;
    holds = none_p;
  }

  means_more : (t : Exp) (ts : List Exp) → Means ts → Means (t ∷ ts)
  unfolding relocated_from
  means_more t ts again i used h f whole above room in_frame (more e k r) =
      rest (relocated_entry i floor down used h f) (relocate_one h f used floor down i whole above (omega arith) t e k (omega arith))
    where
      rest : (w : Stores) → Relocated h f used floor down i 1 (t ∷ []) w →
          Relocated h f used floor down i (suc (length ts)) (t ∷ ts) (onward_from (relocated_from (length ts) (i + 1) floor down) w)
      rest w a =
          let m = again (i + 1) a.now w.heap w.frame a.size (omega (arith, a.grown)) (omega (arith, a.most)) (omega (arith, a.entries))
          (held_kept r a.same a.grown a.behind) in
          rw a.done (joined h f used floor down i (length ts) t ts (omega arith) w a (relocated_from (length ts) (i + 1) floor down a.now w.heap w.frame) m)

  relocate_means : (ts : List Exp) → Means ts
  relocate_means [] = means_none
  relocate_means (t ∷ ts) = means_more t ts (relocate_means ts)

-- parts of equal runs are equal
tails : {a b : ℕ} {r s : List ℕ} → a ∷ r ≡ b ∷ s → r ≡ s
tails e = cc

heads : {a b : ℕ} {r s : List ℕ} → a ∷ r ≡ b ∷ s → a ≡ b
heads e = cc

module _ (g h : List ℕ) where
  cells_front : (n m a b : ℕ) → cells_at (n + m) a g ≡ cells_at (n + m) b h → cells_at n a g ≡ cells_at n b h
  unfolding cells_at
  cells_front zero m a b e = refl
  cells_front (suc n) m a b e =
      let s : suc n + m ≡ suc (n + m) = omega arith in
      let d : get_or g a 0 ∷ cells_at (n + m) (a + 1) g ≡ get_or h b 0 ∷ cells_at (n + m) (b + 1) h = rw s at e in
      ap₂ {C = List ℕ} ◌∷◌ (heads d) (cells_front n m (a + 1) (b + 1) (tails d))

  cells_behind : (p n a b : ℕ) → cells_at (p + n) a g ≡ cells_at (p + n) b h → cells_at n (a + p) g ≡ cells_at n (b + p) h
  unfolding cells_at
  cells_behind zero n a b e =
      let s : 0 + n ≡ n = omega arith in
      let u : a + 0 ≡ a = omega arith in
      let v : b + 0 ≡ b = omega arith in
      rw (u, v) (rw s at e)
  cells_behind (suc p) n a b e =
      let s : suc p + n ≡ suc (p + n) = omega arith in
      let d : get_or g a 0 ∷ cells_at (p + n) (a + 1) g ≡ get_or h b 0 ∷ cells_at (p + n) (b + 1) h = rw s at e in
      let u : a + suc p ≡ a + 1 + p = omega arith in
      let v : b + suc p ≡ b + 1 + p = omega arith in
      rw (u, v) (cells_behind p n (a + 1) (b + 1) (tails d))

  cells_part : (n p m a b : ℕ) → p + m ≤ n → cells_at n a g ≡ cells_at n b h → cells_at m (a + p) g ≡ cells_at m (b + p) h
  cells_part n p m a b l e =
      let s : n ≡ p + (m + (n - p - m)) = omega arith in
      cells_front m (n - p - m) (a + p) (b + p) (cells_behind p (m + (n - p - m)) a b (rw s at e))

-- what is left when all is moved down
module _ (h : List ℕ) (whole : length h ≡ 65535) (floor used now : ℕ) (low : floor ≤ used) (grown : used ≤ now) (fits : now ≤ 65535) where
  abbrev down : ℕ
  down = used - floor

  abbrev last : List ℕ
  last = cells_moved used now floor h

  last_below : Below floor last h
  last_below = below_sets floor (run used (min now 65535) h) below_self (omega arith)

  last_length : length last ≡ 65535
  last_length = length-sets h floor (run used (min now 65535) h) ∙ whole

  last_cells : cells_at (now - used) floor last ≡ cells_at (now - used) used h
  last_cells =
      let m : min now 65535 ≡ now = omega arith in
      let n = length_cells_at (now - used) used h in
      let e : cells_at (length (cells_at (now - used) used h)) floor (sets h floor (cells_at (now - used) used h)) ≡ cells_at (now - used) used h =
      sets_cells (cells_at (now - used) used h) h floor (omega arith) in
      rw m (rw n at e)

  last_run : (from to : ℕ) → floor ≤ from → to + down ≤ now → run from to last ≡ run (from + down) (to + down) h
  unfolding cells_at
  last_run from to q l = pick (to - from) refl
    where
      same : to + down - (from + down) ≡ to - from
      same = omega arith

      pick : (m : ℕ) → to - from ≡ m → run from to last ≡ run (from + down) (to + down) h
      pick zero e = rw (same, e)
      pick (suc m) e =
          let a : floor + (from - floor) ≡ from = omega arith in
          let b : used + (from - floor) ≡ from + down = omega arith in
          let r : cells_at (to - from) (floor + (from - floor)) last ≡ cells_at (to - from) (used + (from - floor)) h =
          cells_part last h (now - used) (from - floor) (to - from) floor used (omega arith) last_cells in
          rw same (rw (a, b) at r)

  lowered : {from to : ℕ} {t : Exp} → Placed h now floor down from to t → Holds last (now - down) from to t
  lowered (stays x) = holds_below x last_below (omega arith)
  lowered {from} {to} (moves q x) = record { below = omega (arith, x.below); is = last_run from to q x.below ∙ x.is }

  all_lowered : {f : List ℕ} {i : ℕ} {ts : List Exp} → AllPlaced h now floor down f i ts → Held last (now - down) f i ts
  all_lowered none_p = none
  all_lowered (more_p x k r) = more (lowered x) k (all_lowered r)

-- THE LAW of compaction
pub record Compacted (h f : List ℕ) (floor n : ℕ) (ts : List Exp) (w : Compaction) : Type 0 where
  pub holds : Held w.heap w.answer w.frame 0 ts
  pub same : Below floor w.heap h
  pub least : floor ≤ w.answer
  pub most : w.answer ≤ floor + nodes_all ts
  pub size : length w.heap ≡ 65535
  pub entries : length w.frame ≡ 12360
  pub behind : Behind (3 * n) w.frame f

module _ (h f : List ℕ) (floor used n : ℕ) (ts : List Exp) (whole : length h ≡ 65535) (frame : length f ≡ 12360) (few : length ts ≤ 4120) (is : n ≡ length ts)
    (low : floor ≤ used) (room : used + nodes_all ts ≤ 65535) (held : Held h used f 0 ts) where
  together : (w : Stores) → Relocated h f used floor (used - floor) 0 (length ts) ts w → Compacted h f floor n ts (moved_stores floor used w)
  together w a =
      let g = a.grown in
      let m = a.most in
      rw a.done (record {
        holds = all_lowered w.heap a.size floor used a.now low g (omega arith) a.holds;
        same = record { same = λ j l. (last_below w.heap a.size floor used a.now low g (omega arith)).same j l ∙ a.same.same j (omega arith) };
        least = omega arith;
        most = omega arith;
        size = last_length w.heap a.size floor used a.now low g (omega arith);
        entries = a.entries ∙ frame;
        behind = record { same = λ j l. a.behind.same j (omega arith) };
      })

  pub compact_means : Compacted h f floor n ts (compacted n floor used h f)
  unfolding compacted
  compact_means =
      let e : min n 4120 ≡ length ts = omega arith in
      rw (le-ltb used floor low, e) (together (relocated_from (length ts) 0 floor (used - floor) used h f) (relocate_means floor (used - floor) ts 0 used h f whole (omega arith) room (omega arith) held))
