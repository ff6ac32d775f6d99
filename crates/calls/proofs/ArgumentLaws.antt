-- What `arguments` means: an entry for the value of each argument, and nothing that was there changed; or there is no room, or more than 4,096 nodes.
use Prim.Native.Nat.{ℕ, suc, ◌+◌, ◌-◌, ◌*◌, ◌≤◌, ◌<◌, min}
use mathlib.Core.Path.{◌≡◌, refl, ap₂, ◌∙◌}
use mathlib.Core.List.{List, ◌∷◌}
use Rattle.std.specs.Prelude.{Some, None}
use mathlib.Core.Logic.{◌⊎◌, inl, inr}
use native.Mathlib.Omega.{arith}
use native.Mathlib.Decide.{dec_le}
use lib.ListN.{length}
use borrow.Author.Tests.{lt-ltb, le-ltb, lt-leb}
use Rattle.expressions.specs.Expression.{Exp, nodes, nodes_all}
use Rattle.expressions.specs.Substitution.{apply, apply_all}
use Rattle.language.specs.Program.{Param}
use Rattle.semantics.specs.Configuration.{subst_of_env}
use Rattle.heap.specs.Twins.Entries.{entry, entry_known, entry_from, entry_to, pushed}
use Rattle.runs.proofs.RunLaws.{Below, below_self}
use Rattle.heap.proofs.HeapLaws.{Holds, holds_below, nodes_positive}
use Rattle.heap.proofs.KnownLaws.{KnownOf}
use Rattle.heap.proofs.FrameLaws.{Held, held_front, entry_length, entry_before, entry_known_lem, entry_from_lem, entry_to_lem}
use Rattle.heap.proofs.FrameLaws as frame
use Rattle.heap.proofs.NodeLaws.{holds_nodes}
use Rattle.constants.proofs.ConstantLaws.{Constants, constants_below}
use Rattle.linking.specs.Twins.Code.{link_at}
use Rattle.linking.specs.Twins.Linked.{ExpsLinked, none_linked, more_linked}
use Rattle.linking.specs.Twins.Places.{env_of}
use Rattle.values.specs.Twins.Values.{ValueLeft, valued, value_at}
use Rattle.calls.specs.Twins.Arguments.{tally, ArgueLeft, argue_left, argument_at, arguments_at}
use Rattle.values.proofs.ValueLaws.{Typed, past_linked, AllKnown, ValuedAs}
use Rattle.values.proofs.RoomLaws.{value_outcome}
use Rattle.values.proofs.RoomLaws as values

-- what is left behind the entries of trees
pub record Entered (h f : List ℕ) (used entries sum : ℕ) (ts : List Exp) (w : ArgueLeft) : Type 0 where
  pub now : ℕ
  pub done : w.answer ≡ Some (tally (entries + length ts) now (sum + nodes_all ts))
  pub grown : used ≤ now
  pub most : now ≤ used + nodes_all ts
  pub fits : now ≤ 65535
  pub same : Below used w.heap h
  pub size : length w.heap ≡ 65535
  pub before : Below (3 * entries) w.frame f
  pub room : length w.frame ≡ length f
  pub holds : Held w.heap now w.frame entries ts

below_then : {k n : ℕ} {a b c : List ℕ} → Below k a b → Below n b c → n ≤ k → Below n a c
below_then x y l = record { same = λ j m. x.same j (omega arith) ∙ y.same j m }

module _ (code : List ℕ) (base : ℕ) where
  -- the entry of a value that there is room for
  one_entered : (entries used sum i from to now kn : ℕ) (h f g : List ℕ) (t : Exp) → (value_at code f base used i h).answer ≡ Some (valued from to now kn) → (value_at code f base used i h).heap ≡ g →
      to - from ≡ nodes t → sum + nodes t ≤ 4097 → entries < 4120 →
      argument_at code base entries used sum i h f ≡ argue_left (Some (tally (entries + 1) now (sum + nodes t))) g (entry entries kn from to f)
  unfolding argument_at pushed
  one_entered entries used sum i from to now kn h f g t e p s l m =
      let c : min sum 4098 + min (nodes t) 4098 ≡ sum + nodes t = omega arith in
      rw (e, p, s, lt-leb 4120 entries m, c, le-ltb 4097 (sum + nodes t) l)

  over_entered : (entries used sum i : ℕ) (h f : List ℕ) → (value_at code f base used i h).answer ≡ None → (argument_at code base entries used sum i h f).answer ≡ None
  unfolding argument_at
  over_entered entries used sum i h f e = rw e

  -- "over 4,096 nodes"
  many_entered : (entries used sum i from to now kn : ℕ) (h f : List ℕ) (t : Exp) → (value_at code f base used i h).answer ≡ Some (valued from to now kn) → to - from ≡ nodes t → 4097 < sum + nodes t → entries < 4120 →
      (argument_at code base entries used sum i h f).answer ≡ None
  unfolding argument_at pushed
  many_entered entries used sum i from to now kn h f t e s l m =
      let c : 4097 < min sum 4098 + min (nodes t) 4098 = omega arith in
      rw (e, s, lt-leb 4120 entries m, lt-ltb 4097 (min sum 4098 + min (nodes t) 4098) c)

  module _ (sc : List Param) (vs : List Exp) (typed : Typed sc vs) where
    -- the entry at hand, kept by what comes behind it
    entry_holds : {now more from to : ℕ} {g g2 : List ℕ} {t : Exp} (entries kn : ℕ) (f f2 : List ℕ) → Holds g now from to t → to ≤ 65535 → 3 * (entries + 1) ≤ length f →
        Below now g2 g → now ≤ more → Below (3 * (entries + 1)) f2 (entry entries kn from to f) → Holds g2 more (entry_from f2 entries) (entry_to f2 entries) t
    entry_holds {from = from} {to = to} {t = t} entries kn f f2 x l r b n s =
        let z = holds_nodes x in
        let q = nodes_positive t in
        let a : min from 65535 ≡ from = omega arith in
        let c : min to 65535 ≡ to = omega arith in
        rw (s.same (3 * entries + 1) (omega arith), s.same (3 * entries + 2) (omega arith), entry_from_lem entries kn from to f r, entry_to_lem entries kn from to f r, a, c) (holds_below x b n)

    entry_knows : {t : Exp} (entries kn from to : ℕ) (f f2 : List ℕ) → KnownOf kn t → 3 * (entries + 1) ≤ length f → Below (3 * (entries + 1)) f2 (entry entries kn from to f) → KnownOf (entry_known f2 entries) t
    entry_knows entries kn from to f f2 x r s = rw (s.same (3 * entries) (omega arith), entry_known_lem entries kn from to f r) x

    -- an argument and then the others
    module _ (h f : List ℕ) (used entries sum : ℕ) (t : Exp) (ts : List Exp) (from to now kn : ℕ) (g : List ℕ) (at : Holds g now from to t) (knows : KnownOf kn t) (same : Below used g h) (grown : used ≤ now)
        (most : now ≤ used + nodes t) (fits : now ≤ 65535) (in_frame : 3 * (entries + 1) ≤ length f) where
      joined : (w : ArgueLeft) → Entered g (entry entries kn from to f) now (entries + 1) (sum + nodes t) ts w → Entered h f used entries sum (t ∷ ts) w
      joined w r = record {
        now = r.now;
        done = r.done ∙ ap₂ (λ (x y : ℕ). Some (tally x r.now y)) (omega arith) (omega arith);
        grown = omega (arith, r.grown);
        most = omega (arith, r.most);
        fits = r.fits;
        same = below_then r.same same grown;
        size = r.size;
        before = below_then r.before (entry_before entries kn from to f) (omega arith);
        room = r.room ∙ entry_length entries kn from to f;
        holds = frame.Held.more (entry_holds entries kn f w.frame at (omega (arith, at.below)) in_frame r.same r.grown r.before) (entry_knows entries kn from to f w.frame knows in_frame r.before) r.holds;
      }

    -- no room, or more than 4,096 nodes; else an entry for each
    abbrev pub Outcome : List ℕ → List ℕ → ℕ → ℕ → ℕ → List Exp → ArgueLeft → Type 0
    Outcome h f used entries sum ts w =
        ((w.answer ≡ None) × ((65535 < used + nodes_all ts) ⊎ (4097 < sum + nodes_all ts))) ⊎ (Entered h f used entries sum ts w × (sum + nodes_all ts ≤ 4097))

    module _ (h f : List ℕ) (used entries sum i j n : ℕ) (t : Exp) (ts : List Exp) (held : Held h used f base vs) (few : base + length vs ≤ 4120) (behind : base + length vs ≤ entries) (room : entries < 4120)
        (lf : length f ≡ 12360) (past : (link_at code i).past ≡ j)
        (again : (g f1 : List ℕ) (now sum1 : ℕ) → Below used g h → used ≤ now → Held g now f1 base vs → length f1 ≡ 12360 → length g ≡ 65535 → now ≤ 65535 → sum1 ≤ 4097 →
        Outcome g f1 now (entries + 1) sum1 ts (arguments_at code base n (entries + 1) now sum1 j g f1)) where
      abbrev all : ArgueLeft
      all = arguments_at code base (suc n) entries used sum i h f

      abbrev value : ValueLeft
      value = value_at code f base used i h

      over_first : (argument_at code base entries used sum i h f).answer ≡ None → all.answer ≡ None
      unfolding arguments_at
      over_first e = rw e

      on : (e k m : ℕ) (g f1 : List ℕ) → argument_at code base entries used sum i h f ≡ argue_left (Some (tally e k m)) g f1 → all ≡ arguments_at code base n e k m j g f1
      unfolding arguments_at
      on e k m g f1 p = rw (p, past)

      then_others : (v : ValuedAs code f base h used sc vs typed held few t value) → sum + nodes t ≤ 4097 → let f1 = entry entries v.known v.from v.to f in
          (w : ArgueLeft) → Outcome value.heap f1 v.now (entries + 1) (sum + nodes t) ts w → Outcome h f used entries sum (t ∷ ts) w
      then_others v l w (inl (e, inl r)) = inl (e, inl (omega (arith, v.most)))
      then_others v l w (inl (e, inr r)) = inl (e, inr (omega arith))
      then_others v l w (inr (x, r)) =
          inr (joined h f used entries sum t ts v.from v.to v.now v.known value.heap v.holds v.knows v.same v.grown v.most v.fits (omega (arith, lf)) w x, omega arith)

      few_nodes : (v : ValuedAs code f base h used sc vs typed held few t value) → Dec (sum + nodes t ≤ 4097) → Outcome h f used entries sum (t ∷ ts) all
      few_nodes v (yes l) =
          let f1 = entry entries v.known v.from v.to f in
          let eb = entry_before entries v.known v.from v.to f in
          let held1 : Held value.heap v.now f1 base vs = held_front held v.same v.grown (record { same = λ k m. eb.same k (omega arith) }) in
          let o = one_entered entries used sum i v.from v.to v.now v.known h f value.heap t v.done refl (holds_nodes v.holds) l room in
          rw (on (entries + 1) v.now (sum + nodes t) value.heap f1 o)
          (then_others v l (arguments_at code base n (entries + 1) v.now (sum + nodes t) j value.heap f1)
          (again value.heap f1 v.now (sum + nodes t) v.same v.grown held1 (entry_length entries v.known v.from v.to f ∙ lf) v.size v.fits l))
      few_nodes v (no l) = inl (over_first (many_entered entries used sum i v.from v.to v.now v.known h f t v.done (holds_nodes v.holds) (omega arith) room), inr (omega arith))

      more_outcome : values.Outcome code f base h used sc vs typed held few i t → Outcome h f used entries sum (t ∷ ts) all
      more_outcome (inl (e, r)) = inl (over_first (over_entered entries used sum i h f e), inl (omega arith))
      more_outcome (inr v) = few_nodes v (dec_le (sum + nodes t) 4097)

    -- THE LAW of a call's arguments
    pub arguments_outcome : {i : ℕ} {cs : List Exp} {j : ℕ} → ExpsLinked code sc i cs j → AllKnown sc cs → (h f : List ℕ) (used entries sum : ℕ) → Constants code h used → Held h used f base vs → base + length vs ≤ entries →
        entries + length cs ≤ 4120 → length f ≡ 12360 → length h ≡ 65535 → used ≤ 65535 → sum ≤ 4097 →
        Outcome h f used entries sum (apply_all (subst_of_env (env_of sc vs)) cs) (arguments_at code base (length cs) entries used sum i h f)
    unfolding arguments_at
    arguments_outcome none_linked kn h f used entries sum con held few room lf lh fit le =
        inr (
          record {
            now = used;
            done = ap₂ (λ (x y : ℕ). Some (tally x used y)) (omega arith) (omega arith);
            grown = omega arith;
            most = omega arith;
            fits = fit;
            same = below_self;
            size = lh;
            before = below_self;
            room = refl;
            holds = frame.Held.none;
          },
          omega arith,
        )
    arguments_outcome {i} (more_linked {j = j} {c = c} {cs = cs} l ls) kn h f used entries sum con held few room lf lh fit le =
        more_outcome h f used entries sum i j (length cs) (apply (subst_of_env (env_of sc vs)) c) (apply_all (subst_of_env (env_of sc vs)) cs) held (omega arith) few (omega arith) lf (past_linked l)
        (λ g f1 now sum1 same1 grown1 held1 lf1 lh1 fit1 le1. arguments_outcome ls kn.1 g f1 now (entries + 1) sum1 (constants_below con same1 grown1) held1 (omega arith) (omega arith) lf1 lh1 fit1 le1)
        (value_outcome code f base h used sc vs typed held (omega arith) lh fit con l kn.0)
