-- Room for a transition: the storages hold the same configuration and the same records, or older ones alone, and enough of the heap is free.
use Prim.Native.Nat.{ℕ, ◌+◌, ◌≤◌, min}
use mathlib.Core.Path.{◌≡◌, refl, ap, subst, ◌∙◌, sym as inv}
use mathlib.Core.Bool.{Bool, true, false, cond}
use mathlib.Core.List.{List, [], ◌∷◌, ◌++◌}
use mathlib.Core.Logic.{◌⊎◌, inl, inr}
use native.Mathlib.Omega.{arith}
use lib.Dec.{ltb}
use lib.ListN.{length, take}
use borrow.Author.Tests.{ltb-true, ltb-false}
use Rattle.expressions.specs.Expression.{nodes_all}
use Rattle.language.specs.Program.{Prog}
use Rattle.semantics.specs.Configuration.{Configuration}
use Rattle.semantics.specs.Tree.{Node}
use Rattle.semantics.proofs.Backtrack.{Choice}
use Rattle.compaction.specs.Twins.Compacting.{compacted}
use Rattle.runs.proofs.RunLaws.{Below}
use Rattle.compaction.proofs.CompactLaws.{Compacted, compact_means}
use Rattle.heap.specs.declared.configuration.Configuration.{Configuration as InCells}
use Rattle.saving.specs.Twins.Heads.{used_at}
use Rattle.saving.specs.Twins.Saving.{older_used}
use Rattle.saving.specs.Twins.Records.{Record, record_cells, Holding}
use Rattle.saving.proofs.HoldingLaws.{used_means}
use Rattle.saving.proofs.SavedLaws.{OlderHeld, older_means}
use Rattle.values.proofs.StateLaws.{trees, HoldsPair, Stands, nodes_length}
use Rattle.values.proofs.PairLaws.{state_nodes}
use Rattle.replay.specs.Twins.Rooms.{floor_top, RoomLeft, room_left, together_behind, made_room}
use Rattle.positions.specs.declared.position.Position.{Position}
use Rattle.replay.proofs.RecordLaws.{Entered, Saves, saves_more, saves_below, saves_floor, saves_first, saves_take}

module _ (p : Prog) (bodies : ℕ → ℕ) (code : List ℕ) (K₀ : Configuration) (N : ℕ) (y₁ : Node) (b₀ : Record) where
  -- the records that are held, with what each has in the heap
  pub record Kept (h saved : List ℕ) (used top : ℕ) (cs : List Choice) : Type 0 where
    pub older : List Record
    pub last : Record
    pub holding : Holding saved top (older ++ (last ∷ []))
    pub saves : Saves p bodies code K₀ N y₁ b₀ h used cs older last

  -- the storages hold the node x, behind the choices cs, with at most so much of the heap in use
  pub record At (limit : ℕ) (x : Node) (cs : List Choice) (pos : Position) (h f q saved : List ℕ) : Type 0 where
    pub stands : Stands p bodies code h f q pos.node.at x.conf
    pub entered : Entered p x.conf
    pub steps : pos.node.steps ≡ x.steps
    pub depth : pos.node.depth ≡ length cs
    pub low : pos.node.at.used ≤ limit
    pub kept : Kept h saved pos.node.at.used pos.top cs

  module _ (base : ℕ) (bottom : base ≡ length (record_cells b₀)) (low-base : b₀.at.used ≤ 16384) {limit : ℕ} (wide : limit ≤ 57343) {x : Node} {cs : List Choice} {pos : Position} {h f q saved : List ℕ} (a : At limit x cs pos h f q saved) where
    abbrev c : InCells
    c = pos.node.at

    abbrev v : HoldsPair h f q c a.stands.names x.conf.cr
    v = a.stands.holds

    few_nodes : nodes_all (trees x.conf.cr v.values) ≤ 4096
    few_nodes = omega (arith, state_nodes v, a.entered.size)

    -- behind older records, of which the last has at most so much in use
    module _ (t : ℕ) (k : Kept h saved c.used t cs) where
      floor : used_at saved t ≡ k.last.at.used
      floor = used_means k.older k.last k.holding

      put : Compacted h f (used_at saved t) c.entries (trees x.conf.cr v.values) (compacted c.entries (used_at saved t) c.used h f)
      put =
          let g = saves_floor p bodies code K₀ N y₁ b₀ k.saves in
          compact_means h f (used_at saved t) c.used c.entries (trees x.conf.cr v.values) v.heap_size v.frame_size (omega (arith, few_nodes, nodes_length (trees x.conf.cr v.values))) v.entries
          (omega (arith, floor, g.0)) (omega (arith, a.low, few_nodes)) v.held

      abbrev left : RoomLeft
      left = together_behind t pos saved h f

      together : used_at saved t ≤ 36863 → At 45100 x cs left.position left.heap left.frame q saved × (left.position.node.at.used ≤ 40959)
      together l =
          let w = put in
          let g = saves_floor p bodies code K₀ N y₁ b₀ k.saves in
          let b : Below k.last.at.used left.heap h = subst (λ (i : ℕ). Below i left.heap h) floor w.same in
          let s = saves_below p bodies code K₀ N y₁ b₀ g.1 b w.size in (
            record {
              stands = record {
                names = a.stands.names;
                holds = record {
                  values = v.values;
                  typed = v.typed;
                  env = v.env;
                  held = w.holds;
                  inputs = v.inputs;
                  outputs = v.outputs;
                  entries = v.entries;
                  neqs = v.neqs;
                  count = v.count;
                  fits = omega (arith, w.most, few_nodes);
                  heap_size = w.size;
                  frame_size = w.entries;
                  q_size = v.q_size;
                };
                past = a.stands.past;
                term = a.stands.term;
                fresh = a.stands.fresh;
              };
              entered = a.entered;
              steps = a.steps;
              depth = a.depth;
              low = omega (arith, w.most, few_nodes);
              kept = record { older = k.older; last = k.last; holding = k.holding; saves = saves_more p bodies code K₀ N y₁ b₀ s (omega (arith, w.least, floor)) };
            },
            omega (arith, w.most, few_nodes),
          )

    -- the records that stay
    forgotten : Kept h saved c.used (older_used saved pos.top base) cs × (used_at saved (older_used saved pos.top base) ≤ 32768)
    forgotten =
        let k = a.kept in
        let l = saves_first p bodies code K₀ N y₁ b₀ k.saves in
        let o : OlderHeld saved (b₀ ∷ l.0) 1 (older_used saved pos.top base) = older_means (subst (λ (rs : List Record). Holding saved pos.top rs) l.1 k.holding) base bottom in
        let e : take o.k (k.older ++ (k.last ∷ [])) ≡ take o.k (b₀ ∷ l.0) = ap (take o.k) l.1 in
        let s = saves_take p bodies code K₀ N y₁ b₀ k.saves o.k o.least (omega (arith, o.most, ap length l.1)) in
        let h' : Holding saved (older_used saved pos.top base) (s.qs ++ (s.r ∷ [])) = subst (λ (rs : List Record). Holding saved (older_used saved pos.top base) rs) (inv e ∙ s.is) o.holds in
        (record { older = s.qs; last = s.r; holding = h'; saves = s.saves }, low_of o.k o.low l.0 o.holds)
      where
        one : {t : ℕ} (l : List Record) → Holding saved t (take 1 (b₀ ∷ l)) → used_at saved t ≤ 32768
        one l x = omega (arith, used_means [] b₀ x, low-base)

        low_of : {t : ℕ} (k : ℕ) → (k ≡ 1) ⊎ (used_at saved t ≤ 32768) → (l : List Record) → Holding saved t (take k (b₀ ∷ l)) → used_at saved t ≤ 32768
        low_of k (inr m) l x = m
        low_of {t} k (inl e) l x = one l (subst (λ (i : ℕ). Holding saved t (take i (b₀ ∷ l))) e x)

    -- THE LAW of room
    pub room_made_lem : let w = made_room base pos saved h f in At 45100 x cs w.position w.heap w.frame q saved × (w.position.node.at.used ≤ 40959)
    unfolding made_room floor_top
    room_made_lem = pick (ltb 40959 c.used) refl (ltb (min (used_at saved pos.top) 65535 + 8192) c.used) refl
      where
        pick : (s : Bool) → ltb 40959 c.used ≡ s → (t : Bool) → ltb (min (used_at saved pos.top) 65535 + 8192) c.used ≡ t →
            let w = cond (cond s true t) (together_behind (cond s (older_used saved pos.top base) pos.top) pos saved h f) (room_left pos h f) in
            At 45100 x cs w.position w.heap w.frame q saved × (w.position.node.at.used ≤ 40959)
        pick true e t g = let k = forgotten in together (older_used saved pos.top base) k.0 (omega (arith, k.1))
        pick false e true g = let m = ltb-false 40959 c.used e in let n = ltb-true (min (used_at saved pos.top) 65535 + 8192) c.used g in together pos.top a.kept (omega arith)
        pick false e false g =
            let m = ltb-false 40959 c.used e in
            (record { stands = a.stands; entered = a.entered; steps = a.steps; depth = a.depth; low = omega arith; kept = a.kept }, m)
