-- Where the heap has no room for the value of an expression, `value` says so.
use Prim.Native.Nat.{ℕ, ◌+◌, ◌-◌, ◌*◌, ◌≤◌, ◌<◌, min}
use mathlib.Core.Path.{◌≡◌, refl, ap, subst, ◌∙◌, sym as inv}
use mathlib.Core.Bool.{Bool, true, false}
use mathlib.Core.List.{List, [], ◌∷◌}
use mathlib.Core.Logic.{◌⊎◌, inl, inr}
use native.Mathlib.Omega.{arith}
use native.Mathlib.Decide.{dec_le}
use lib.Dec.{eqb, ltb}
use lib.ListN.{length, get_or}
use lib.Seq.{sets, length-sets}
use borrow.Author.Tests.{lt-ltb}
use Rattle.std.specs.Prelude.{Some, None}
use Rattle.expressions.specs.Expression.{sym, avar, Exp, atm, evar, pair, nodes}
use Rattle.expressions.specs.Substitution.{Substitution, apply}
use Rattle.language.specs.Program.{Param, pe, pa}
use Rattle.semantics.specs.Configuration.{subst_of_env}
use Rattle.sets.specs.Cells.{cells}
use Rattle.sets.specs.Twins.Fill.{FillAnswer, fill_answer}
use Rattle.sets.proofs.CellLaws.{cells_nodes}
use Rattle.heap.specs.Twins.Entries.{entry_from, entry_to}
use Rattle.runs.proofs.RunLaws.{Below, below_self, below_sets, length_cells_at, written_over}
use Rattle.heap.proofs.HeapLaws.{Holds, holds_below}
use Rattle.heap.proofs.FrameLaws.{Held}
use Rattle.linking.specs.Twins.Code.{link, link_at}
use Rattle.constants.specs.Twins.Table.{constant_at}
use Rattle.constants.proofs.ConstantLaws.{Constants}
use Rattle.linking.specs.Twins.Linked.{place_in, ExpLinked, sym_linked, e_linked, a_linked, cons_linked}
use Rattle.linking.specs.Twins.Places.{env_of}
use Rattle.linking.proofs.AgreeLaws.{exp_goes_on}
use Rattle.linking.proofs.PlaceLaws.{lookup_e, lookup_a}
use Rattle.values.specs.Twins.Values.{entry_at, token_written, tokens_written, made_of, value_at}
use Rattle.values.proofs.ValueLaws.{held_at, Typed, typed_length, atom_typed, Known, two_parts, then, nothing_token, cell_token, tokens_mean, ValuedAs, valued_name, valued_constant, value_means}

module _ (code f : List ℕ) (base : ℕ) where
  abbrev wrote : ℕ → ℕ → ℕ → List ℕ → FillAnswer
  wrote left j k h = tokens_written code f base left j k h

  -- a part that has no room, and what would come behind it
  then_over : (a b i k : ℕ) (h : List ℕ) → (wrote a i k h).answer ≡ None → (wrote (a + b) i k h).answer ≡ None
  then_over a b i k h e = ap (λ (w : FillAnswer). w.answer) (two_parts code f base a b i k h) ∙ rw e

  one_over : (i k : ℕ) (h : List ℕ) → (token_written code f base i k h).answer ≡ None → (wrote 1 i k h).answer ≡ None
  unfolding tokens_written
  one_over i k h e = rw e

  cell_over : (i k : ℕ) (h : List ℕ) (c p : ℕ) → link_at code i ≡ link 1 c 0 p → 65535 < k + 1 → (wrote 1 i k h).answer ≡ None
  unfolding token_written
  cell_over i k h c p e l = one_over i k h (token e)
    where
      token : link_at code i ≡ link 1 c 0 p → (token_written code f base i k h).answer ≡ None
      token e = rw (e, written_over k 1 (c ∷ []) h l)

  name_over : {used : ℕ} (i k : ℕ) (h : List ℕ) (q p : ℕ) (v : Exp) → link_at code i ≡ link 2 q 0 p → base + q < 4120 → Holds h used (entry_from f (base + q)) (entry_to f (base + q)) v → used ≤ k → 65535 < k + nodes v →
      (wrote 1 i k h).answer ≡ None
  unfolding token_written entry_at
  name_over {used} i k h q p v e l x u m = one_over i k h (token e)
    where
      token : link_at code i ≡ link 2 q 0 p → (token_written code f base i k h).answer ≡ None
      token e =
          let b = x.below in
          let z : min base 4120 + q ≡ base + q = omega arith in
          let y : min (entry_to f (base + q)) k ≡ entry_to f (base + q) = omega arith in
          let s : entry_to f (base + q) - entry_from f (base + q) ≡ nodes v = inv (length_cells_at (entry_to f (base + q) - entry_from f (base + q)) (entry_from f (base + q)) h) ∙ ap length x.is ∙ cells_nodes v in
          rw (e, z, lt-ltb (base + q) 4120 l, y, x.is, s, written_over k (nodes v) (cells v) h m)

  -- a pair: its own cell, its head or its tail has no room
  module _ (i j kk k : ℕ) (g : List ℕ) (tc td : Exp) (w : link_at code (i + 1) ≡ link 1 4 0 (i + 2)) (x1 : i + 2 < j) (x2 : j < kk) (m : 65535 < k + nodes (pair tc td)) where
    abbrev behind_head : ℕ
    behind_head = (kk - j) + 1

    abbrev behind_pair : ℕ
    behind_pair = (j - (i + 2)) + behind_head

    abbrev g1 : List ℕ
    g1 = sets g k (4 ∷ [])

    abbrev g2 : List ℕ
    g2 = sets g1 (k + 1) (cells tc)

    answer : {v v2 : FillAnswer} → v ≡ v2 → v.answer ≡ v2.answer
    answer p = ap (λ (w : FillAnswer). w.answer) p

    module _ (head-none : 65535 < k + 1 + nodes tc → (wrote (j - (i + 2)) (i + 2) (k + 1) g1).answer ≡ None)
        (head : k + 1 + nodes tc ≤ 65535 → wrote (j - (i + 2)) (i + 2) (k + 1) g1 ≡ fill_answer (Some (k + 1 + nodes tc)) g2)
        (tail_none : 65535 < k + 1 + nodes tc + nodes td → (wrote (kk - j) j (k + 1 + nodes tc) g2).answer ≡ None) where
      parts : Dec (k + 1 + nodes tc ≤ 65535) → (wrote behind_pair (i + 2) (k + 1) g1).answer ≡ None
      parts (yes l) =
          let y : i + 2 + (j - (i + 2)) ≡ j = omega arith in
          answer (then code f base (j - (i + 2)) behind_head (i + 2) (k + 1) g1 (k + 1 + nodes tc) g2 (head l)) ∙ rw y (then_over (kk - j) 1 j (k + 1 + nodes tc) g2 (tail_none (omega arith)))
      parts (no l) = then_over (j - (i + 2)) behind_head (i + 2) (k + 1) g1 (head-none (omega arith))

      own : Dec (k + 1 ≤ 65535) → (wrote (1 + behind_pair) (i + 1) k g).answer ≡ None
      own (yes l) =
          let y : i + 1 + 1 ≡ i + 2 = omega arith in
          answer (then code f base 1 behind_pair (i + 1) k g (k + 1) g1 (cell_token code f base (i + 1) k g 4 (i + 2) w l)) ∙ rw y (parts (dec_le (k + 1 + nodes tc) 65535))
      own (no l) = then_over 1 behind_pair (i + 1) k g (cell_over (i + 1) k g 4 (i + 2) w (omega arith))

      pair_none : link_at code i ≡ link 0 0 0 (kk + 1) → (wrote (kk + 1 - i) i k g).answer ≡ None
      pair_none o =
          let n : kk + 1 - i ≡ 1 + (1 + behind_pair) = omega arith in
          rw n (answer (then code f base 1 (1 + behind_pair) i k g k g (nothing_token code f base i k g (kk + 1) o)) ∙ own (dec_le (k + 1) 65535))

  module _ (h : List ℕ) (used : ℕ) (sc : List Param) (vs : List Exp) (typed : Typed sc vs) (held : Held h used f base vs) (few : base + length vs ≤ 4120) where
    abbrev σ : Substitution
    σ = subst_of_env (env_of sc vs)

    abbrev NoRoom : ℕ → ℕ → ℕ → List ℕ → Type 0
    NoRoom i j k g = (wrote (j - i) i k g).answer ≡ None

    none_name : (i q p : ℕ) (t : Exp) → link_at code i ≡ link 2 q 0 p → q < length vs → t ≡ get_or vs q (atm (sym 0)) → (k : ℕ) (g : List ℕ) → used ≤ k → Below used g h → 65535 < k + nodes t → NoRoom i (i + 1) k g
    none_name i q p t e l same k g u b m =
        let z : i + 1 - i ≡ 1 = omega arith in
        let x = held_at (atm (sym 0)) q held l in
        let y : Holds g used (entry_from f (base + q)) (entry_to f (base + q)) t = subst (λ (a : Exp). Holds g used (entry_from f (base + q)) (entry_to f (base + q)) a) (inv same) (holds_below x b (omega arith)) in
        rw z (name_over i k g q p t e (omega arith) y u m)

    tokens_none : {i : ℕ} {c : Exp} {j : ℕ} → ExpLinked code sc i c j → Known sc c → (k : ℕ) (g : List ℕ) → used ≤ k → Below used g h → length g ≡ 65535 → 65535 < k + nodes (apply σ c) → NoRoom i j k g
    tokens_none {i} (sym_linked {z = s} e) kn k g u b z m = let y : i + 1 - i ≡ 1 = omega arith in rw y (cell_over i k g (4 * s + 1) (i + 1) e m)
    tokens_none {i} (e_linked {x = x} e) kn k g u b z m =
        let l = typed_length typed in
        none_name i (place_in (pe x) sc) (i + 1) (apply σ (evar x)) e (omega arith) (lookup_e (atm (sym 0)) x sc vs l) k g u b m
    tokens_none {i} (a_linked {x = x} e) kn k g u b z m =
        let l = typed_length typed in
        none_name i (place_in (pa x) sc) (i + 1) (apply σ (atm (avar x))) e (omega arith) (ap atm (lookup_a (sym 0) x sc vs l kn) ∙ atom_typed (atm (sym 0)) x typed kn) k g u b m
    tokens_none {i} (cons_linked {j = j} {k = kk} {c = c} {d = d} o w lc ld e) kn k g u b z m =
        let tc = apply σ c in
        let g1 = sets g k (4 ∷ []) in
        let g2 = sets g1 (k + 1) (cells tc) in
        let b1 : Below used g1 h = below_sets k (4 ∷ []) b u in
        let b2 : Below used g2 h = below_sets (k + 1) (cells tc) b1 (omega arith) in
        let z1 = length-sets g k (4 ∷ []) ∙ z in
        let z2 = length-sets g1 (k + 1) (cells tc) ∙ z1 in
        pair_none i j kk k g tc (apply σ d) w (exp_goes_on code sc lc) (exp_goes_on code sc ld) m (λ l. tokens_none lc kn.0 (k + 1) g1 (omega arith) b1 z1 l)
        (λ l. tokens_mean code f base h used sc vs typed held few lc kn.0 (k + 1) g1 (omega arith) b1 z1 l) (λ l. tokens_none ld kn.1 (k + 1 + nodes tc) g2 (omega arith) b2 z2 l) o

    valued_none : (i j m a : ℕ) → link_at code i ≡ link m a 0 j → eqb m 2 ≡ false → ltb (constant_at code i).from (constant_at code i).to ≡ false → NoRoom i j used h → (value_at code f base used i h).answer ≡ None
    unfolding value_at made_of
    valued_none i j m a e n o w = rw (e, n, o, w)

    -- no room for the value, or the value
    abbrev pub Outcome : ℕ → Exp → Type 0
    Outcome i t = (((value_at code f base used i h).answer ≡ None) × (65535 < used + nodes t)) ⊎ ValuedAs code f base h used sc vs typed held few t (value_at code f base used i h)

    module _ (whole : length h ≡ 65535) (in_heap_lem : used ≤ 65535) (constants : Constants code h used) where
      by_room : {i : ℕ} {c : Exp} {j : ℕ} (m a : ℕ) → link_at code i ≡ link m a 0 j → eqb m 2 ≡ false → ExpLinked code sc i c j → Known sc c → Outcome i (apply σ c)
      by_room {i} {c} {j} m a e n l kn = pick (ltb (constant_at code i).from (constant_at code i).to) refl
        where
          go : ltb (constant_at code i).from (constant_at code i).to ≡ false → Dec (used + nodes (apply σ c) ≤ 65535) → Outcome i (apply σ c)
          go o (yes r) = inr (value_means code f base h used sc vs typed held few l kn whole r o)
          go o (no r) = inl (valued_none i j m a e n o (tokens_none l kn used h (omega arith) below_self whole (omega arith)), omega arith)

          pick : (t : Bool) → ltb (constant_at code i).from (constant_at code i).to ≡ t → Outcome i (apply σ c)
          pick true o = inr (valued_constant code f base h used sc vs typed held few m a e n l whole in_heap_lem constants o)
          pick false o = go o (dec_le (used + nodes (apply σ c)) 65535)

      -- THE LAW of values
      pub value_outcome : {i : ℕ} {c : Exp} {j : ℕ} → ExpLinked code sc i c j → Known sc c → Outcome i (apply σ c)
      value_outcome (sym_linked {z = s} e) kn = by_room 1 (4 * s + 1) e refl (sym_linked e) kn
      value_outcome {i} (e_linked {x = x} e) kn =
          let l = typed_length typed in inr (valued_name code f base h used sc vs typed held few i (place_in (pe x) sc) (i + 1) _ whole in_heap_lem e (omega arith) (lookup_e (atm (sym 0)) x sc vs l))
      value_outcome {i} (a_linked {x = x} e) kn =
          let l = typed_length typed in
          inr (valued_name code f base h used sc vs typed held few i (place_in (pa x) sc) (i + 1) _ whole in_heap_lem e (omega arith) (ap atm (lookup_a (sym 0) x sc vs l kn) ∙ atom_typed (atm (sym 0)) x typed kn))
      value_outcome (cons_linked o w lc ld e) kn = by_room 0 0 o refl (cons_linked o w lc ld e) kn
