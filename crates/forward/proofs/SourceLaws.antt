-- What gives the names of an end their values: the entries there are, the arguments of the call before it, what the `cons?` before it tests.
use Prim.Native.Nat.{ℕ, zero, suc, ◌+◌, ◌≤◌, ◌<◌}
use mathlib.Core.Path.{◌≡◌, refl, ap, subst, ◌∙◌, sym as inv}
use mathlib.Core.Bool.{Bool, true, false, cond}
use mathlib.Core.List.{List, [], ◌∷◌, ◌++◌}
use mathlib.Core.Logic.{inl, inr}
use native.Mathlib.Omega.{arith}
use lib.Dec.{eqb, ltb}
use lib.ListN.{length, get_or, length-append, get_or-append}
use lib.Seq.{get_or_at}
use borrow.Author.Tests.{lt-ltb, le-ltb, ltb-true, ltb-false, eqb-true, eqb-false}
use Rattle.std.specs.Prelude.{Some}
use Rattle.expressions.specs.Expression.{AtomicExp, sym, Exp, atm, pair}
use Rattle.expressions.specs.Substitution.{Substitution, apply, apply_all}
use Rattle.expressions.specs.Contraction.{CRPair}
use Rattle.language.specs.Program.{Term, Param, Prog}
use Rattle.semantics.specs.Configuration.{subst_of_env, state}
use Rattle.heap.specs.declared.configuration.Configuration.{Configuration as InCells}
use Rattle.runs.proofs.RunLaws.{Below}
use Rattle.heap.proofs.HeapLaws.{Holds, holds_below}
use Rattle.heap.proofs.FrameLaws.{Held, held_kept}
use Rattle.linking.specs.Twins.Code.{link, link_at}
use Rattle.linking.specs.Twins.Linked.{ExpLinked, cons_linked, ExpsLinked, none_linked, more_linked}
use Rattle.linking.specs.Twins.Places.{env_of}
use Rattle.constants.proofs.ConstantLaws.{NoConstants, none_held}
use Rattle.values.specs.Twins.Names.{names_from, names_in}
use Rattle.values.specs.Twins.Values.{ValueLeft, valued, value_left, value_at}
use Rattle.values.proofs.ValueLaws.{Known, AllKnown, valued_name}
use Rattle.values.proofs.ValueLaws.{past_linked}
use Rattle.values.proofs.RoomLaws.{value_outcome}
use Rattle.values.proofs.RoomLaws as values
use Rattle.values.proofs.StateLaws.{HoldsPair}
use Rattle.looking.specs.Twins.Looking.{test_at}
use Rattle.looking.specs.declared.look.Tested.TheVariants.{Atom, Pair, Large}
use Rattle.pairs.proofs.NameLaws.{names_held, entries_are}
use Rattle.pairs.proofs.LookLaws.{TestAt, test_from}
use Rattle.tracing.specs.declared.ask.Asked.TheVariants.{End, Call, Same, Test}
use Rattle.forward.specs.Twins.Naming.{argument_from, own_at, part_index, tested_named, named_at}
use Rattle.forward.proofs.PutLaws.{Kept}
use Rattle.forward.proofs.OutputLaws.{Source, Sources}

-- a name in reach, or the one behind them
module _ (B : ℕ) (h : List ℕ) (vs : List Exp) (q : ℕ) (u : ValueLeft) (own : q < length vs → Source B h (get_or vs q (atm (sym 0))) u) where
  last_source : (v : Exp) (w : ValueLeft) → q < length (vs ++ (v ∷ [])) → Source B h v w → Source B h (get_or (vs ++ (v ∷ [])) q (atm (sym 0))) (cond (ltb q (length vs)) u w)
  last_source v w l s = go (ltb q (length vs)) refl
    where
      go : (o : Bool) → ltb q (length vs) ≡ o → Source B h (get_or (vs ++ (v ∷ [])) q (atm (sym 0))) (cond o u w)
      go true e = let k = ltb-true q (length vs) e in rw (get_or-append vs (v ∷ []) (atm (sym 0)) q k) (own k)
      go false e = let k = ltb-false q (length vs) e in rw (get_or_at vs v [] (atm (sym 0)) q (omega (arith, length-append vs (v ∷ [])))) s

-- or one of the two behind them
two_sources : (B : ℕ) (h : List ℕ) (vs : List Exp) (q : ℕ) (u : ValueLeft) → (q < length vs → Source B h (get_or vs q (atm (sym 0))) u) → (a b : Exp) (w z : ValueLeft) → q < length ((vs ++ (a ∷ [])) ++ (b ∷ [])) →
    Source B h a w → Source B h b z → Source B h (get_or ((vs ++ (a ∷ [])) ++ (b ∷ [])) q (atm (sym 0))) (cond (ltb q (length vs)) u (cond (eqb q (length vs)) w z))
two_sources B h vs q u own a b w z l s t =
    subst (λ (y : ValueLeft). Source B h (get_or ((vs ++ (a ∷ [])) ++ (b ∷ [])) q (atm (sym 0))) y) (same (ltb q (length vs)) (eqb q (length vs)) refl refl)
    (last_source B h (vs ++ (a ∷ [])) q (cond (ltb q (length vs)) u w) (λ k. last_source B h vs q u own a w k s) b z l t)
  where
    one : length (vs ++ (a ∷ [])) ≡ length vs + 1
    one = length-append vs (a ∷ [])

    same : (x y : Bool) → ltb q (length vs) ≡ x → eqb q (length vs) ≡ y → cond (ltb q (length (vs ++ (a ∷ [])))) (cond x u w) z ≡ cond x u (cond y w z)
    same true y e f = let k = ltb-true q (length vs) e in rw (lt-ltb q (length (vs ++ (a ∷ []))) (omega (arith, one)))
    same false true e f = let k = eqb-true q (length vs) f in rw (lt-ltb q (length (vs ++ (a ∷ []))) (omega (arith, one)))
    same false false e f = let k = ltb-false q (length vs) e in let n = eqb-false q (length vs) f in rw (le-ltb q (length (vs ++ (a ∷ []))) (omega (arith, one, n)))

-- a range that is there
at_source : {B : ℕ} {h g : List ℕ} {from to : ℕ} {v : Exp} → Holds h B from to v → B ≤ 65535 → Kept B h g → Source B h v (value_left (Some (valued from to B 0)) g)
at_source {B} {h} {g} {from} {to} x l k = inr (record { from = from; to = to; used = B; now = B; known = 0; done = refl; holds = holds_below x k.same (omega arith); fits = l; kept = k })

-- the arguments of a call, by their places
argument_linked : {code : List ℕ} {sc : List Param} {i j : ℕ} {ds : List Exp} → ExpsLinked code sc i ds j → AllKnown sc ds → (q : ℕ) → q < length ds → (d : Exp) →
    (past : ℕ) × ExpLinked code sc (argument_from code q i) (get_or ds q d) past × Known sc (get_or ds q d)
unfolding argument_from
argument_linked none_linked kn q l d = absurd (omega arith)
argument_linked (more_linked {j = j} x r) kn zero l d = (j, x, kn.0)
argument_linked (more_linked x r) kn (suc q) l d = rw (past_linked x) (argument_linked r kn.1 q (omega arith) d)

-- the two parts of a `cons`
cons_parts : {code : List ℕ} {sc : List Param} {i to : ℕ} {a b : Exp} → ExpLinked code sc i (pair a b) to → (j : ℕ) × (k : ℕ) × ExpLinked code sc (i + 2) a j × ExpLinked code sc j b k
cons_parts (cons_linked {j = j} {k = k} o w la lb z) = (j, k, la, lb)

applied_at : (s : Substitution) (ds : List Exp) (q : ℕ) (d : Exp) → q < length ds → get_or (apply_all s ds) q d ≡ apply s (get_or ds q d)
applied_at s [] q d l = absurd (omega arith)
applied_at s (e ∷ ds) zero d l = refl
applied_at s (e ∷ ds) (suc q) d l = applied_at s ds q d (omega arith)

applied_length : (s : Substitution) (ds : List Exp) → length (apply_all s ds) ≡ length ds
applied_length s [] = refl
applied_length s (e ∷ ds) = ap suc (applied_length s ds)

module _ (code : List ℕ) (empty : NoConstants code) {h f q : List ℕ} {c : InCells} {names : List Param} {P : CRPair state} (x : HoldsPair h f q c names P) (few : c.entries < 4120) (room : c.used + 8192 ≤ 65535)
    (g : List ℕ) (same : Below c.used g h) where
  abbrev vs : List Exp
  vs = x.values

  abbrev σ : Substitution
  σ = subst_of_env (env_of names vs)

  slots : names_from c + length vs ≤ 4120
  slots = omega (arith, entries_are x few)

  module _ (B : ℕ) (above : c.used ≤ B) (e : List ℕ) (k : Kept B g e) where
    held_here : Held e c.used f (names_from c) vs
    held_here = held_kept (names_held x few) (record { same = λ j l. k.same.same j (omega arith) ∙ same.same j l }) (omega arith) (record { same = λ j l. refl })

    own_heap : (j n p : ℕ) → link_at code j ≡ link 2 n 0 p → (own_at code c j e f).heap ≡ e
    unfolding value_at
    own_heap j n p l = rw l

    -- the entry of a name
    own_source : (n : ℕ) → n < length vs → (j p : ℕ) → link_at code j ≡ link 2 n 0 p → Source B g (get_or vs n (atm (sym 0))) (own_at code c j e f)
    own_source n l j p i =
        let v = valued_name code f (names_from c) e c.used names vs x.typed held_here slots j n p (get_or vs n (atm (sym 0))) k.size x.fits i l refl in
        inr (record { from = v.from; to = v.to; used = v.now; now = v.now; known = v.known; done = v.done; holds = v.holds; fits = v.fits; kept = rw (own_heap j n p i) k })

  -- an expression of the program
  exp_source : (e : List ℕ) → Kept c.used g e → {i : ℕ} {t : Exp} {j : ℕ} → ExpLinked code names i t j → Known names t → Source c.used g (apply σ t) (own_at code c i e f)
  exp_source e k {i} {t} l kn = go (value_outcome code f (names_from c) e c.used names vs x.typed (held_here c.used (omega arith) e k) slots k.size x.fits (none_held empty) l kn)
    where
      go : values.Outcome code f (names_from c) e c.used names vs x.typed (held_here c.used (omega arith) e k) slots i (apply σ t) → Source c.used g (apply σ t) (own_at code c i e f)
      go (inl o) = inl (o.0, omega (arith, o.1))
      go (inr v) = inr (record {
        from = v.from;
        to = v.to;
        used = v.now;
        now = v.now;
        known = v.known;
        done = v.done;
        holds = v.holds;
        fits = v.fits;
        kept = record { same = record { same = λ j m. v.same.same j m ∙ k.same.same j m }; size = v.size };
      })

  -- an end where the run begins, or behind an `eqa?`
  pub end_sources : Sources code c End f c.used g vs
  unfolding named_at
  end_sources n l j p i e k = own_source c.used (omega arith) e k n l j p i

  pub same_sources : (a b : ℕ) → Sources code c (Same a b) f c.used g vs
  unfolding named_at
  same_sources a b n l j p i e k = own_source c.used (omega arith) e k n l j p i

  -- behind a call
  pub call_sources : {i j : ℕ} {ds : List Exp} → test_at c ≡ i → ExpsLinked code names i ds j → AllKnown names ds → Sources code c Call f c.used g (apply_all σ ds)
  unfolding named_at
  call_sources {i} {j} {ds} at ls kn n l k p is e kept =
      let m : n < length ds = omega (arith, applied_length σ ds) in
      let a = argument_linked ls kn n m (atm (sym 0)) in
      rw (is, at, applied_at σ ds n (atm (sym 0)) m) (exp_source e kept a.1 a.2)

  -- behind a `cons?`
  module _ {p : Prog} {bodies : ℕ → ℕ} {t : Exp} {m k n : ℕ} {s u : Term} (T : TestAt p bodies code names c.place t m k n s u) where
    -- the names in reach, by their number
    names_count : names_in c ≡ length vs
    names_count = omega (arith, entries_are x few)

    -- by the index of a part, or by its value
    three : (i j : ℕ) (e : List ℕ) → own_at code c (part_index code c i j) e f ≡
        cond (ltb i (length vs)) (own_at code c j e f) (cond (eqb i (length vs)) (own_at code c (test_at c + 2) e f) (own_at code c (link_at code (test_at c + 2)).past e f))
    three i j e = rw names_count (go (ltb i (length vs)) (eqb i (length vs)))
      where
        go : (a b : Bool) → own_at code c (cond a j (cond b (test_at c + 2) (link_at code (test_at c + 2)).past)) e f ≡
            cond a (own_at code c j e f) (cond b (own_at code c (test_at c + 2) e f) (own_at code c (link_at code (test_at c + 2)).past e f))
        go true b = refl
        go false true = refl
        go false false = refl

    module _ (now : ℕ) (above : c.used ≤ now) (in_heap_lem : now ≤ 65535) where
      pub atom_sources : (from to : ℕ) (y : AtomicExp) → Holds g now from to (atm y) → Sources code c (Test (Atom from to now)) f now g (vs ++ (atm y ∷ []))
      unfolding named_at tested_named
      atom_sources from to y there i l j p is e kept =
          rw (is, names_count) (last_source now g vs i (own_at code c j e f) (λ o. own_source now above e kept i o j p is) (atm y) (value_left (Some (valued from to now 0)) e) l (at_source there in_heap_lem kept))

      pub pair_sources : (from mid to : ℕ) (a b : Exp) → Holds g now from mid a → Holds g now mid to b → Sources code c (Test (Pair from mid to now)) f now g ((vs ++ (a ∷ [])) ++ (b ∷ []))
      unfolding named_at tested_named
      pair_sources from mid to a b head tail i l j p is e kept =
          rw (is, names_count) (two_sources now g vs i (own_at code c j e f) (λ o. own_source now above e kept i o j p is) a b (value_left (Some (valued from mid now 0)) e) (value_left (Some (valued mid to now 0)) e) l
          (at_source head in_heap_lem kept) (at_source tail in_heap_lem kept))

    -- a `cons` of the program whose value has no room
    pub large_sources : {a b : Exp} → ExpLinked code names (c.place + 4) (pair a b) T.names_from_lem → Known names (pair a b) → Sources code c (Test Large) f c.used g ((vs ++ (apply σ a ∷ [])) ++ (apply σ b ∷ []))
    unfolding named_at tested_named
    large_sources {a} {b} linked kn i l j p is e kept =
        let parts = cons_parts linked in
        let at : test_at c + 2 ≡ c.place + 4 + 2 = ap (λ (i : ℕ). i + 2) (test_from c T) in
        let behind : (link_at code (test_at c + 2)).past ≡ parts.0 = ap (λ (i : ℕ). (link_at code i).past) at ∙ past_linked parts.2 in
        let la2 : ExpLinked code names (test_at c + 2) a parts.0 = rw at parts.2 in
        let lb2 = subst (λ (i : ℕ). ExpLinked code names i b parts.1) (inv behind) parts.3 in
        rw (is, three i j e) (two_sources c.used g vs i (own_at code c j e f) (λ o. own_source c.used (omega arith) e kept i o j p is) (apply σ a) (apply σ b) (own_at code c (test_at c + 2) e f)
        (own_at code c (link_at code (test_at c + 2)).past e f) l (exp_source e kept la2 kn.0) (exp_source e kept lb2 kn.1))
