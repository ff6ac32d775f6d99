-- What `look` means: the value of the expression that a `cons?` tests, by what kind of tree it is. Nothing that was used changes.
use Prim.Native.Nat.{ℕ, zero, suc, ◌+◌, ◌-◌, ◌*◌, ◌/◌, ◌%◌, ◌≤◌, ◌<◌, min}
use mathlib.Core.Path.{◌≡◌, refl, ap, ◌∙◌, sym as inv}
use mathlib.Core.Bool.{Bool, true, false, cond}
use mathlib.Core.List.{List, [], ◌∷◌}
use mathlib.Core.Logic.{inl, inr}
use native.Mathlib.Omega.{arith}
use lib.Dec.{eqb, ltb, leb}
use lib.ListN.{length, get_or}
use lib.Seq.{sets, length-sets}
use borrow.Author.Tests.{ltb-true, le-ltb, eq-eqb, ne_eqb, eqb-false}
use Rattle.std.specs.Prelude.{Option, Some, None}
use Rattle.expressions.specs.Expression.{AtomicExp, sym, avar, Exp, atm, evar, pair, nodes}
use Rattle.expressions.specs.Substitution.{apply}
use Rattle.expressions.specs.Contraction.{CRPair}
use Rattle.language.specs.Program.{Term, consp, conditional, Param, pe, pa, Prog}
use Rattle.semantics.specs.Configuration.{subst_of_env, state}
use Rattle.sets.specs.Twins.Copying.{tree_end}
use Rattle.sets.specs.Cells.{cells, evar_code, atomic_code}
use Rattle.sets.specs.Twins.Fill.{FillAnswer, fill_answer}
use Rattle.runs.specs.Twins.Runs.{written, run}
use Rattle.heap.specs.declared.configuration.Configuration.{Configuration}
use Rattle.runs.proofs.RunLaws.{Below, below_self, below_sets, run_cons}
use Rattle.heap.proofs.HeapLaws.{Holds}
use Rattle.heap.proofs.KnownLaws.{KnownOf}
use Rattle.heap.proofs.NodeLaws.{holds_nodes}
use Rattle.heap.proofs.PairLaws.{head_holds, tail_holds, head_end}
use Rattle.linking.specs.Twins.Code.{link, link_at}
use Rattle.linking.specs.Twins.Linked.{with_name, ExpLinked, TermLinked, test_linked}
use Rattle.language.specs.WellFormed.{has_param}
use Rattle.linking.specs.declared.code.Link.{Link}
use Rattle.linking.specs.Twins.Places.{env_of}
use Rattle.constants.proofs.ConstantLaws.{Constants}
use Rattle.constants.specs.Twins.Table.{constant_at}
use Rattle.values.specs.Twins.Values.{onward_fill, token_written, tokens_written, ValueLeft, made_of, value_at}
use Rattle.values.proofs.ValueLaws.{Known}
use Rattle.values.proofs.RoomLaws.{value_outcome}
use Rattle.values.proofs.RoomLaws as values
use Rattle.values.proofs.StateLaws.{HoldsPair}
use Rattle.values.specs.Twins.Names.{names_from}
use Rattle.looking.specs.Twins.Looking.{test_at, head_end_in, tested_by, tested_at, LookLeft, look_left, tested_value, look_at}
use Rattle.looking.specs.declared.look.Tested.{Tested}
use Rattle.looking.specs.declared.look.Tested.TheVariants.{Atom, Pair, Variable, Large}
use Rattle.pairs.proofs.NameLaws.{names_held, entries_are}

-- what is written at a place or behind it leaves what lies below as it was
record Grows (used : ℕ) (h : List ℕ) (w : FillAnswer) : Type 0 where
  same : Below used w.cells h
  size : length w.cells ≡ length h
  behind : (m : ℕ) → w.answer ≡ Some m → used ≤ m

record Kept (used : ℕ) (h : List ℕ) (v : ValueLeft) : Type 0 where
  same : Below used v.heap h
  size : length v.heap ≡ length h

written_grows : (used k n : ℕ) (w h : List ℕ) → used ≤ k → Grows used h (written k n w h)
unfolding written
written_grows used k n w h l = go (leb (k + n) 65535)
  where
    go : (b : Bool) → Grows used h (cond b (fill_answer (Some (k + n)) (sets h k w)) (fill_answer None h))
    go true = record { same = below_sets k w below_self l; size = length-sets h k w; behind = λ m e. let z : k + n ≡ m = cc in omega arith }
    go false = record { same = below_self; size = refl; behind = λ m e. let z : ◌≡◌ {A = ℕ} 0 1 = cc in absurd (omega arith) }

stays_grows : (used k : ℕ) (h : List ℕ) → used ≤ k → Grows used h (fill_answer (Some k) h)
stays_grows used k h l = record { same = below_self; size = refl; behind = λ m e. let z : k ≡ m = cc in omega arith }

module _ (code f : List ℕ) (base : ℕ) where
  token_grows : (used j k : ℕ) (h : List ℕ) → used ≤ k → Grows used h (token_written code f base j k h)
  unfolding token_written
  token_grows used j k h l = go (eqb (link_at code j).mark 1) (eqb (link_at code j).mark 2) (written_grows used k _ _ h l) (written_grows used k _ _ h l)
    where
      go : (a b : Bool) → {u v : FillAnswer} → Grows used h u → Grows used h v → Grows used h (cond a u (cond b v (fill_answer (Some k) h)))
      go true b x y = x
      go false true x y = y
      go false false x y = stays_grows used k h l

  tokens_grow : (left used j k : ℕ) (h : List ℕ) → used ≤ k → Grows used h (tokens_written code f base left j k h)
  unfolding tokens_written
  tokens_grow zero used j k h l = stays_grows used k h l
  tokens_grow (suc left) used j k h l = go (token_written code f base j k h).answer (token_written code f base j k h).cells (token_grows used j k h l) (λ m g i. tokens_grow left used (j + 1) m g i)
    where
      go : (r : Option ℕ) (g : List ℕ) → Grows used h (fill_answer r g) → ((m : ℕ) (u : List ℕ) → used ≤ m → Grows used u (tokens_written code f base left (j + 1) m u)) →
          Grows used h (onward_fill (λ m u. tokens_written code f base left (j + 1) m u) r g)
      go (Some m) g x again =
          let y = again m g (x.behind m refl) in record { same = record { same = λ i a. y.same.same i a ∙ x.same.same i a }; size = y.size ∙ x.size; behind = y.behind }
      go None g x again = x

  made_grows : (used i past : ℕ) (h : List ℕ) → Kept used h (made_of code f base used i past h)
  unfolding made_of
  made_grows used i past h = let w = tokens_grow (past - i) used i used h (omega arith) in record { same = w.same; size = w.size }

  value_grows : (used i : ℕ) (h : List ℕ) → Kept used h (value_at code f base used i h)
  unfolding value_at
  value_grows used i h =
      go (eqb (link_at code i).mark 2) _ _ (record { same = below_self; size = refl })
      (go (ltb (constant_at code i).from (constant_at code i).to) _ _ (record { same = below_self; size = refl }) (made_grows used i (link_at code i).past h))
    where
      go : (b : Bool) (u v : ValueLeft) → Kept used h u → Kept used h v → Kept used h (cond b u v)
      go true u v x y = x
      go false u v x y = y

-- where the parts of a `cons?` stand; its names are none of those in reach
pub record TestAt (p : Prog) (bodies : ℕ → ℕ) (code : List ℕ) (names : List Param) (i : ℕ) (e : Exp) (g k x : ℕ) (s u : Term) : Type 0 where
  pub names_from_lem : ℕ
  pub false_from : ℕ
  pub past : ℕ
  pub end : ℕ
  pub opens : link_at code i ≡ link 5 (names_from_lem + 4) false_from past
  pub tested : ExpLinked code names (i + 4) e names_from_lem
  pub new_head : has_param (pe g) names ≡ false
  pub new_tail : has_param (pe k) (with_name (pe g) names) ≡ false
  pub new_atom_lem : has_param (pa x) names ≡ false
  pub on_true : TermLinked p bodies code (with_name (pe k) (with_name (pe g) names)) (names_from_lem + 4) s false_from
  pub on_false : TermLinked p bodies code (with_name (pa x) names) false_from u end

pub test_at_lem : {p : Prog} {bodies : ℕ → ℕ} {code : List ℕ} {names : List Param} {i m : ℕ} {e : Exp} {g k x : ℕ} {s u : Term} →
    TermLinked p bodies code names i (conditional (consp e g k x) s u) m → TestAt p bodies code names i e g k x s u
test_at_lem (test_linked o c h t a y z) = record {
  names_from_lem = _;
  false_from = _;
  past = _;
  end = _;
  opens = o;
  tested = c;
  new_head = h;
  new_tail = t;
  new_atom_lem = a;
  on_true = y;
  on_false = z;
}

-- a condition stands in the code
in_code : (code : List ℕ) (i a b m : ℕ) → link_at code i ≡ link 5 a b m → i < 4097
unfolding link_at
in_code code i a b m e = go (ltb i 4097) _ refl e
  where
    go : (t : Bool) (l : Link) → ltb i 4097 ≡ t → cond t l (link 0 0 0 0) ≡ link 5 a b m → i < 4097
    go true l r w = ltb-true i 4097 r
    go false l r w = let z : ◌≡◌ {A = ℕ} 0 5 = ap (λ (n : Link). n.mark) w in absurd (omega arith)

module _ {p : Prog} {bodies : ℕ → ℕ} {code : List ℕ} {names : List Param} {e : Exp} {g k x : ℕ} {s u : Term} (c : Configuration) (T : TestAt p bodies code names c.place e g k x s u) where
  pub test_from : test_at c ≡ c.place + 4
  test_from = let l = in_code code c.place (T.names_from_lem + 4) T.false_from T.past T.opens in omega arith

-- THE KINDS of what is tested, d: what `look` answers, the heap g that it leaves
pub data Looked (used : ℕ) (g : List ℕ) (t : Tested) : Exp → Type 0 where
  atom_at : {y : AtomicExp} (from to now : ℕ) → t ≡ Atom from to now → Holds g now from to (atm y) → used ≤ now → now ≤ used + 1 → now ≤ 65535 → Looked used g t (atm y)
  variable_at : {v : ℕ} → t ≡ Variable (evar_code v) → Looked used g t (evar v)
  pair_at : {a b : Exp} (from mid to now : ℕ) → t ≡ Pair from mid to now → Holds g now from mid a → Holds g now mid to b → used ≤ now → now ≤ used + nodes (pair a b) → now ≤ 65535 → Looked used g t (pair a b)
  large_at : {a b : Exp} → t ≡ Large → 8192 < nodes (pair a b) → Looked used g t (pair a b)

pub record Looks (h : List ℕ) (used : ℕ) (d : Exp) (w : LookLeft) : Type 0 where
  pub same : Below used w.heap h
  pub size : length w.heap ≡ 65535
  pub is : Looked used w.heap w.answer d

first_cell : {g : List ℕ} {now from to : ℕ} {d : Exp} → Holds g now from to d → from < to → (a : ℕ) (r : List ℕ) → cells d ≡ a ∷ r → get_or g from 0 ≡ a
first_cell {g} {now} {from} {to} at l a r e = let z : get_or g from 0 ∷ run (from + 1) to g ≡ a ∷ r = inv (run_cons from to g l) ∙ at.is ∙ e in cc

-- a range that holds a tree, by its first cell
module _ (used now from to k : ℕ) (g : List ℕ) (grown : used ≤ now) (fits : now ≤ 65535) (size : length g ≡ 65535) where
  tested_cell : (x : ℕ) → from < to → to ≤ now → get_or g from 0 ≡ x → tested_at from to now k g ≡ tested_by x from to now k g
  unfolding tested_at
  tested_cell x l m e = rw (le-ltb 65534 from (omega arith), e)

  tested_atom : (y : AtomicExp) → Holds g now from to (atm y) → now ≤ used + 1 → Looked used g (tested_at from to now k g) (atm y)
  tested_atom y at most = let n = holds_nodes at in atom_at from to now (tested_cell (atomic_code y) (omega arith) at.below (first_cell at (omega arith) (atomic_code y) [] refl) ∙ by y) at grown most fits
    where
      by : (y : AtomicExp) → tested_by (atomic_code y) from to now k g ≡ Atom from to now
      by (sym z) = rw (ne_eqb (4 * z + 1) 4 (λ e. omega arith), ne_eqb ((4 * z + 1) % 4) 2 (λ e. omega arith))
      by (avar z) = rw (ne_eqb (4 * z + 3) 4 (λ e. omega arith), ne_eqb ((4 * z + 3) % 4) 2 (λ e. omega arith))

  tested_variable : (v : ℕ) → Holds g now from to (evar v) → Looked used g (tested_at from to now k g) (evar v)
  tested_variable v at =
      let n = holds_nodes at in
      variable_at {v = v} (tested_cell (evar_code v) (omega arith) at.below (first_cell at (omega arith) (evar_code v) [] refl) ∙ rw (ne_eqb (4 * v + 2) 4 (λ e. omega arith), eq-eqb ((4 * v + 2) % 4) 2 (omega arith)))

  -- where the head ends, known or looked for
  head_ends : (a b : Exp) → Holds g now from to (pair a b) → KnownOf k (pair a b) → head_end_in (from + 1) (k / 2) g ≡ from + 1 + nodes a
  head_ends a b at kn = pick (eqb (k / 2) 0) refl
    where
      pick : (z : Bool) → eqb (k / 2) 0 ≡ z → cond z (tree_end g (from + 1)) (min (from + 1) 65535 + k / 2) ≡ from + 1 + nodes a
      pick true e = head_end at (omega arith)
      pick false e =
          let n = eqb-false (k / 2) 0 e in
          let h : nodes a ≡ k / 2 = kn.head (omega (arith, n)) in
          let m = holds_nodes at in
          omega (arith, h, m, at.below)

  tested_pair : (a b : Exp) → Holds g now from to (pair a b) → KnownOf k (pair a b) → now ≤ used + nodes (pair a b) → Looked used g (tested_at from to now k g) (pair a b)
  tested_pair a b at kn most =
      let n = holds_nodes at in
      let t : tested_at from to now k g ≡ Pair (from + 1) (min (from + 1 + nodes a) to) to now = tested_cell 4 (omega arith) at.below (first_cell at (omega arith) 4 _ refl) ∙ rw (head_ends a b at kn) in
      let m : min (from + 1 + nodes a) to ≡ from + 1 + nodes a = omega arith in
      pair_at (from + 1) (from + 1 + nodes a) to now (t ∙ ap (λ (i : ℕ). Pair (from + 1) i to now) m) (head_holds at) (tail_holds at) grown most fits

  tested_means : (d : Exp) → Holds g now from to d → KnownOf k d → now ≤ used + nodes d → Looked used g (tested_at from to now k g) d
  tested_means (atm y) at kn most = tested_atom y at most
  tested_means (evar v) at kn most = tested_variable v at
  tested_means (pair a b) at kn most = tested_pair a b at kn most

-- no room for a value is one of many nodes
large_means : (used : ℕ) (g : List ℕ) (t : Tested) (d : Exp) → t ≡ Large → 8192 < nodes d → Looked used g t d
large_means used g t (atm y) e l = absurd (omega arith)
large_means used g t (evar v) e l = absurd (omega arith)
large_means used g t (pair a b) e l = large_at e l

module _ {p : Prog} {bodies : ℕ → ℕ} {code h f q : List ℕ} {c : Configuration} {names : List Param} {P : CRPair state} (x : HoldsPair h f q c names P) (few : c.entries < 4120)
    {e : Exp} {m k n : ℕ} {s u : Term} (T : TestAt p bodies code names c.place e m k n s u) where
  abbrev valued : ValueLeft
  valued = value_at code f (names_from c) c.used (c.place + 4) h

  look_is : look_at code c h f ≡ look_left (tested_value valued.answer valued.heap) valued.heap
  unfolding look_at
  look_is = rw (test_from c T)

  -- THE LAW of what is tested
  pub look_means : Constants code h c.used → Known names e → c.used + 8192 ≤ 65535 → Looks h c.used (apply (subst_of_env P.con.env) e) (look_at code c h f)
  look_means constants kn room =
      let b : names_from c + length x.values ≤ 4120 = omega (arith, entries_are x few) in
      let o = value_outcome code f (names_from c) h c.used names x.values x.typed (names_held x few) b x.heap_size x.fits constants T.tested kn in
      let z = value_grows code f (names_from c) c.used (c.place + 4) h in
      rw (look_is, x.env) (record { same = z.same; size = z.size ∙ x.heap_size; is = go b (apply (subst_of_env (env_of names x.values)) e) o })
    where
      go : (b : names_from c + length x.values ≤ 4120) (d : Exp) → values.Outcome code f (names_from c) h c.used names x.values x.typed (names_held x few) b (c.place + 4) d →
          Looked c.used valued.heap (tested_value valued.answer valued.heap) d
      go b d (inl (o, l)) = large_means c.used valued.heap (tested_value valued.answer valued.heap) d (rw o) (omega arith)
      go b d (inr v) = rw v.done (tested_means c.used v.now v.from v.to v.known valued.heap v.grown v.fits v.size d v.holds v.knows v.most)
