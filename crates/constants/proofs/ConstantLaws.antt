-- What the table of constants holds: each range has the cells of its tokens, none of which is a name.
use Prim.Native.Nat.{ℕ, zero, suc, ◌+◌, ◌-◌, ◌*◌, ◌≤◌, ◌<◌, min}
use mathlib.Core.Path.{◌≡◌, refl, ap, subst, ◌∙◌, sym as inv}
use mathlib.Core.Bool.{Bool, true, false, cond, not}
use mathlib.Core.List.{List, [], ◌∷◌, ◌++◌, append_assoc, append-nil}
use native.Mathlib.Omega.{arith}
use native.Mathlib.Decide.{dec_le}
use lib.Dec.{eqb, ltb, leb}
use lib.ListN.{length, get_or, set, replicate, length-set}
use lib.Seq.{sets, length-sets, get_or-set_same, get_or-set_other}
use borrow.Author.Tests.{lt-ltb, ltb-true, ltb-false, leb-true, leb-false, eqb-true, eqb-false}
use Rattle.runs.specs.Twins.Runs.{run}
use Rattle.runs.proofs.RunLaws.{Below, below_self, below_sets, run_below}
use Rattle.heap.proofs.HeapLaws.{sets_cells}
use Rattle.expressions.specs.Expression.{Exp}
use Rattle.expressions.specs.Substitution.{Substitution, apply}
use Rattle.language.specs.Program.{Param, pe, pa}
use Rattle.sets.specs.Cells.{cells}
use Rattle.linking.specs.Twins.Code.{link, link_at}
use Rattle.linking.specs.Twins.Linked.{place_in, ExpLinked, sym_linked, e_linked, a_linked, cons_linked}
use Rattle.linking.proofs.AgreeLaws.{exp_goes_on}
use Rattle.linking.specs.declared.code.Link.{Link}
use Rattle.constants.specs.Twins.Table.{constant, constant_at, entered}
use Rattle.constants.specs.Twins.Laying.{named_in, cells_of_token, cells_of, starts_at, is_constant, laid, laid_one, laid_from, limit_of, constants_laid}
use Rattle.constants.specs.declared.table.Constant.{Constant}
use Rattle.constants.specs.declared.lay.Laid.{Laid}

-- the range of the token i, which lies below `used`
pub record ConstantHeld (code h : List ℕ) (used i : ℕ) : Type 0 where
  pub below : (constant_at code i).to ≤ used
  pub nameless : named_in code ((link_at code i).past - i) i ≡ false
  pub is : run (constant_at code i).from (constant_at code i).to h ≡ cells_of code ((link_at code i).past - i) i

-- all that there are
pub record Constants (code h : List ℕ) (used : ℕ) : Type 0 where
  pub holds : (i : ℕ) → (constant_at code i).from < (constant_at code i).to → ConstantHeld code h used i

-- what writes at `used` and behind it keeps them
pub constants_below : {code h g : List ℕ} {used now : ℕ} → Constants code h used → Below used g h → used ≤ now → Constants code g now
constants_below {code} c b l = record {
  holds = λ i m. let x = c.holds i m in record {
    below = omega (arith, x.below);
    nameless = x.nameless;
    is = run_below b (constant_at code i).from (constant_at code i).to x.below ∙ x.is;
  };
}

-- a table that is empty
pub record NoConstants (code : List ℕ) : Type 0 where
  pub none : (i : ℕ) → constant_at code i ≡ constant 0 0

pub none_held : {code h : List ℕ} {used : ℕ} → NoConstants code → Constants code h used
none_held n = record { holds = λ i m. let z : 0 < 0 = subst (λ (k : Constant). k.from < k.to) (n.none i) m in absurd (omega arith) }

pub nought_at : (n m : ℕ) → ◌≡◌ {A = ℕ} (get_or (replicate n 0) m 0) 0
nought_at zero m = refl
nought_at (suc n) zero = refl
nought_at (suc n) (suc m) = nought_at n m

pub nought_none : (code : List ℕ) → ((m : ℕ) → 16388 ≤ m → get_or code m 0 ≡ 0) → NoConstants code
unfolding constant_at
nought_none code z = record { none = λ i. at i }
  where
    two : (b : Bool) (m n : ℕ) → m ≡ 0 → n ≡ 0 → cond b (constant m n) (constant 0 0) ≡ constant 0 0
    two true m n x y = rw (x, y)
    two false m n x y = refl

    at : (i : ℕ) → constant_at code i ≡ constant 0 0
    at i = two (ltb i 4097) _ _ (z (16388 + 2 * i) (omega arith)) (z (16389 + 2 * i) (omega arith))

-- two programs with the same links
module _ (c d : List ℕ) (same : (j : ℕ) → link_at c j ≡ link_at d j) where
  named_agrees : (n i : ℕ) → named_in c n i ≡ named_in d n i
  unfolding named_in
  named_agrees zero i = refl
  named_agrees (suc n) i = rw (same i, named_agrees n (i + 1))

  cells_agree : (n i : ℕ) → cells_of c n i ≡ cells_of d n i
  unfolding cells_of
  cells_agree zero i = refl
  cells_agree (suc n) i = rw (same i, cells_agree n (i + 1))

-- at most a cell a token
cells_few : (code : List ℕ) (n i : ℕ) → length (cells_of code n i) ≤ n
unfolding cells_of
cells_few code zero i = omega arith
cells_few code (suc n) i = pick (eqb (link_at code i).mark 1) (cells_few code n (i + 1))
  where
    pick : (b : Bool) → length (cells_of code n (i + 1)) ≤ n → length (cond b ((link_at code i).first ∷ []) [] ++ cells_of code n (i + 1)) ≤ suc n
    pick true l = omega arith
    pick false l = omega arith

-- the table
module _ (i from to : ℕ) (code : List ℕ) where
  pub entered_long : length (entered i from to code) ≡ length code
  unfolding entered
  entered_long = pick (ltb i 4097)
    where
      pick : (b : Bool) → length (cond b (set (set code (16388 + 2 * i) (min from 65535)) (16389 + 2 * i) (min to 65535)) code) ≡ length code
      pick true = length-set (set code (16388 + 2 * i) (min from 65535)) (16389 + 2 * i) (min to 65535) ∙ length-set code (16388 + 2 * i) (min from 65535)
      pick false = refl

  -- a cell of another token
  apart : (m : ℕ) → (m ≡ 16388 + 2 * i → ⊥) → (m ≡ 16389 + 2 * i → ⊥) → get_or (entered i from to code) m 0 ≡ get_or code m 0
  unfolding entered
  apart m a b = pick (ltb i 4097)
    where
      pick : (t : Bool) → get_or (cond t (set (set code (16388 + 2 * i) (min from 65535)) (16389 + 2 * i) (min to 65535)) code) m 0 ≡ get_or code m 0
      pick true = get_or-set_other (set code (16388 + 2 * i) (min from 65535)) (16389 + 2 * i) m (min to 65535) 0 b ∙ get_or-set_other code (16388 + 2 * i) m (min from 65535) 0 a
      pick false = refl

  pub entered_links : (j : ℕ) → link_at (entered i from to code) j ≡ link_at code j
  unfolding link_at
  entered_links j = pick (ltb j 4097) refl
    where
      four : (b : Bool) (m n o p q r s t : ℕ) → m ≡ q → n ≡ r → o ≡ s → p ≡ t → cond b (link m n o p) (link 0 0 0 0) ≡ cond b (link q r s t) (link 0 0 0 0)
      four b m n o p q r s t w x y z = rw (w, x, y, z)

      pick : (b : Bool) → ltb j 4097 ≡ b →
          cond b (link (get_or (entered i from to code) (4 * j) 0) (get_or (entered i from to code) (4 * j + 1) 0) (get_or (entered i from to code) (4 * j + 2) 0) (get_or (entered i from to code) (4 * j + 3) 0)) (link 0 0 0 0) ≡
          cond b (link (get_or code (4 * j) 0) (get_or code (4 * j + 1) 0) (get_or code (4 * j + 2) 0) (get_or code (4 * j + 3) 0)) (link 0 0 0 0)
      pick false e = refl
      pick true e =
          let l = ltb-true j 4097 e in
          four true _ _ _ _ _ _ _ _ (apart (4 * j) (λ z. omega arith) (λ z. omega arith)) (apart (4 * j + 1) (λ z. omega arith) (λ z. omega arith))
          (apart (4 * j + 2) (λ z. omega arith) (λ z. omega arith)) (apart (4 * j + 3) (λ z. omega arith) (λ z. omega arith))

  two : (b : Bool) (m n q r : ℕ) → m ≡ q → n ≡ r → cond b (constant m n) (constant 0 0) ≡ cond b (constant q r) (constant 0 0)
  two b m n q r x y = rw (x, y)

  pub entered_other : (j : ℕ) → (j ≡ i → ⊥) → constant_at (entered i from to code) j ≡ constant_at code j
  unfolding constant_at
  entered_other j n = two (ltb j 4097) _ _ _ _ (apart (16388 + 2 * j) (λ z. n (omega arith)) (λ z. omega arith)) (apart (16389 + 2 * j) (λ z. omega arith) (λ z. n (omega arith)))

  pub entered_here : length code ≡ 24582 → i < 4097 → from ≤ 65535 → to ≤ 65535 → constant_at (entered i from to code) i ≡ constant from to
  unfolding constant_at entered
  entered_here long l a b =
      let first : min from 65535 ≡ from = omega arith in
      let last : min to 65535 ≡ to = omega arith in
      let one = set code (16388 + 2 * i) from in
      let n = length-set code (16388 + 2 * i) from in
      let x : get_or (set one (16389 + 2 * i) to) (16388 + 2 * i) 0 ≡ from = get_or-set_other one (16389 + 2 * i) (16388 + 2 * i) to 0 (λ z. omega arith) ∙ get_or-set_same code (16388 + 2 * i) from 0 (omega arith) in
      let y : get_or (set one (16389 + 2 * i) to) (16389 + 2 * i) 0 ≡ to = get_or-set_same one (16389 + 2 * i) to 0 (omega arith) in
      rw (lt-ltb i 4097 l, first, last, x, y)

-- THE INVARIANT of `lay_constants`: the constants of the tokens before i are laid, behind what was used and before k
pub record Laying (used : ℕ) (code₀ h₀ : List ℕ) (i k : ℕ) (code h : List ℕ) : Type 0 where
  pub links : (j : ℕ) → link_at code j ≡ link_at code₀ j
  pub long : length code ≡ 24582
  pub whole : length h ≡ 65535
  pub same : Below used h h₀
  pub grown : used ≤ k
  pub most : k ≤ used + 4097
  pub held : (j : ℕ) → j < i → (constant_at code j).from < (constant_at code j).to → ConstantHeld code h k j
  pub rest : (j : ℕ) → i ≤ j → constant_at code j ≡ constant_at code₀ j

-- what makes a constant
record Makes (code : List ℕ) (i : ℕ) (s : Laid) (limit : ℕ) : Type 0 where
  on : i < (link_at code i).past
  room : min s.used 65535 + ((link_at code i).past - i) ≤ limit
  nameless : named_in code ((link_at code i).past - i) i ≡ false

makes : (code : List ℕ) (i : ℕ) (s : Laid) (limit : ℕ) → is_constant code i s limit ≡ true → Makes code i s limit
makes code i s limit e =
    pick (ltb i s.skip) (starts_at code i) (leb (link_at code i).past i) (ltb limit ((link_at code i).past - i)) (leb (min s.used 65535) (limit - ((link_at code i).past - i))) (named_in code ((link_at code i).past - i) i)
    refl refl refl refl e
  where
    pick : (a b c m d n : Bool) → leb (link_at code i).past i ≡ c → ltb limit ((link_at code i).past - i) ≡ m → leb (min s.used 65535) (limit - ((link_at code i).past - i)) ≡ d → named_in code ((link_at code i).past - i) i ≡ n →
        cond a false (cond b (cond (cond c false (cond m false d)) (not n) false) false) ≡ true → Makes code i s limit
    pick true b c m d n x v y z w = let q : ◌≡◌ {A = ℕ} 0 1 = cc in absurd (omega arith)
    pick false false c m d n x v y z w = let q : ◌≡◌ {A = ℕ} 0 1 = cc in absurd (omega arith)
    pick false true true m d n x v y z w = let q : ◌≡◌ {A = ℕ} 0 1 = cc in absurd (omega arith)
    pick false true false true d n x v y z w = let q : ◌≡◌ {A = ℕ} 0 1 = cc in absurd (omega arith)
    pick false true false false false n x v y z w = let q : ◌≡◌ {A = ℕ} 0 1 = cc in absurd (omega arith)
    pick false true false false true true x v y z w = let q : ◌≡◌ {A = ℕ} 0 1 = cc in absurd (omega arith)
    pick false true false false true false x v y z w = record {
      on = leb-false (link_at code i).past i x;
      room = omega (arith, leb-true (min s.used 65535) (limit - ((link_at code i).past - i)) y, ltb-false limit ((link_at code i).past - i) v);
      nameless = z;
    }

-- .. has room
pub makes_room : (code : List ℕ) (i : ℕ) (s : Laid) (limit : ℕ) → limit ≤ 65535 → is_constant code i s limit ≡ true → s.used + ((link_at code i).past - i) ≤ 65535
makes_room code i s limit l e = let m = makes code i s limit e in omega (arith, m.room, m.on)

module _ (s : Laid) {used : ℕ} {code₀ h₀ : List ℕ} {i : ℕ} {code h : List ℕ} (y : Laying used code₀ h₀ i s.used code h) (here : i < 4097) where
  -- a constant more
  module _ (m : Makes code i s (limit_of used)) where
    abbrev past : ℕ
    past = (link_at code i).past

    abbrev w : List ℕ
    w = cells_of code (past - i) i

    abbrev end : ℕ
    end = s.used + length w

    abbrev code' : List ℕ
    code' = entered i s.used end code

    abbrev h' : List ℕ
    h' = sets h s.used w

    few : length w ≤ past - i
    few = cells_few code (past - i) i

    fits : (end ≤ 65535) × (end ≤ used + 4097)
    fits = (omega (arith, few, m.room, m.on, y.grown), omega (arith, few, m.room, m.on, y.grown))

    is_here : constant_at code' i ≡ constant s.used end
    is_here = entered_here i s.used end code y.long here (omega (arith, fits)) fits.0

    agrees : (j : ℕ) → link_at code' j ≡ link_at code j
    agrees = entered_links i s.used end code

    before : Below s.used h' h
    before = below_sets s.used w below_self (omega arith)

    new : ConstantHeld code' h' end i
    new =
        let p : (link_at code' i).past ≡ past = ap (λ (l : Link). l.past) (agrees i) in
        let c : cells_of code' (past - i) i ≡ w = cells_agree code' code agrees (past - i) i in
        let n : end - s.used ≡ length w = omega arith in
        record {
          below = rw is_here (omega arith);
          nameless = rw p (named_agrees code' code agrees (past - i) i ∙ m.nameless);
          is = rw (is_here, p, n, c) (sets_cells w h s.used (omega (arith, fits, y.whole)));
        }

    old : (j : ℕ) → (j ≡ i → ⊥) → j < i → (constant_at code' j).from < (constant_at code' j).to → ConstantHeld code' h' end j
    old j n l r =
        let o = entered_other i s.used end code j n in
        let x = y.held j l (subst (λ (k : Constant). k.from < k.to) o r) in
        let p : (link_at code' j).past ≡ (link_at code j).past = ap (λ (q : Link). q.past) (agrees j) in
        record {
          below = rw o (omega (arith, x.below));
          nameless = rw p (named_agrees code' code agrees ((link_at code j).past - j) j ∙ x.nameless);
          is = rw (o, p) (run_below before (constant_at code j).from (constant_at code j).to x.below ∙ x.is ∙ inv (cells_agree code' code agrees ((link_at code j).past - j) j));
        }

    one_laid : Laying used code₀ h₀ (i + 1) end code' h'
    one_laid = record {
      links = λ j. agrees j ∙ y.links j;
      long = entered_long i s.used end code ∙ y.long;
      whole = length-sets h s.used w ∙ y.whole;
      same = record { same = λ j l. before.same j (omega (arith, y.grown)) ∙ y.same.same j l };
      grown = omega (arith, y.grown);
      most = fits.1;
      held = λ j l r. pick j l r (eqb j i) refl;
      rest = λ j l. entered_other i s.used end code j (λ e. omega arith) ∙ y.rest j (omega arith);
    }
      where
        pick : (j : ℕ) → j < i + 1 → (constant_at code' j).from < (constant_at code' j).to → (b : Bool) → eqb j i ≡ b → ConstantHeld code' h' end j
        pick j l r true t = let e = eqb-true j i t in subst (λ (k : ℕ). ConstantHeld code' h' end k) (inv e) new
        pick j l r false t = let n = eqb-false j i t in old j n (omega arith) r

  -- none
  none_laid : Laying used code₀ h₀ (i + 1) s.used (entered i 0 0 code) h
  none_laid = record {
    links = λ j. entered_links i 0 0 code j ∙ y.links j;
    long = entered_long i 0 0 code ∙ y.long;
    whole = y.whole;
    same = y.same;
    grown = y.grown;
    most = y.most;
    held = λ j l r. pick j l r (eqb j i) refl;
    rest = λ j l. entered_other i 0 0 code j (λ e. omega arith) ∙ y.rest j (omega arith);
  }
    where
      agrees : (j : ℕ) → link_at (entered i 0 0 code) j ≡ link_at code j
      agrees = entered_links i 0 0 code

      pick : (j : ℕ) → j < i + 1 → (constant_at (entered i 0 0 code) j).from < (constant_at (entered i 0 0 code) j).to → (b : Bool) → eqb j i ≡ b → ConstantHeld (entered i 0 0 code) h s.used j
      pick j l r true t =
          let e = eqb-true j i t in
          let c : constant_at (entered i 0 0 code) j ≡ constant 0 0 = ap (λ (k : ℕ). constant_at (entered i 0 0 code) k) e ∙ entered_here i 0 0 code y.long here (omega arith) (omega arith) in
          let z : 0 < 0 = subst (λ (k : Constant). k.from < k.to) c r in absurd (omega arith)
      pick j l r false t =
          let n = eqb-false j i t in
          let o = entered_other i 0 0 code j n in
          let x = y.held j (omega arith) (subst (λ (k : Constant). k.from < k.to) o r) in
          let p : (link_at (entered i 0 0 code) j).past ≡ (link_at code j).past = ap (λ (q : Link). q.past) (agrees j) in
          record {
            below = rw o x.below;
            nameless = rw p (named_agrees (entered i 0 0 code) code agrees ((link_at code j).past - j) j ∙ x.nameless);
            is = rw (o, p) (x.is ∙ inv (cells_agree (entered i 0 0 code) code agrees ((link_at code j).past - j) j));
          }

  one_more : let w = laid_one i s (limit_of used) code h in Laying used code₀ h₀ (i + 1) w.now.used w.code w.heap
  unfolding laid_one
  one_more = pick (is_constant code i s (limit_of used)) refl
    where
      pick : (t : Bool) → is_constant code i s (limit_of used) ≡ t →
          (let v = cells_of code ((link_at code i).past - i) i in
          let w = cond t (laid (record { used = s.used + length v; skip = (link_at code i).past }) (entered i s.used (s.used + length v) code) (sets h s.used v)) (laid s (entered i 0 0 code) h) in
          Laying used code₀ h₀ (i + 1) w.now.used w.code w.heap)
      pick true e = one_laid (makes code i s (limit_of used) e)
      pick false e = none_laid

laid_from_lem : (left : ℕ) (s : Laid) {used : ℕ} {code₀ h₀ : List ℕ} {i : ℕ} {code h : List ℕ} → Laying used code₀ h₀ i s.used code h → i + left ≤ 4097 →
    let w = laid_from (limit_of used) left i s code h in Laying used code₀ h₀ (i + left) w.now.used w.code w.heap
unfolding laid_from
laid_from_lem zero s {used} {code₀} {h₀} {i} {code} {h} y l = let e : i + 0 ≡ i = omega arith in rw e y
laid_from_lem (suc left) s {used} {code₀} {h₀} {i} {code} {h} y l =
    let e : i + suc left ≡ i + 1 + left = omega arith in rw e (laid_from_lem left (laid_one i s (limit_of used) code h).now (one_more s y (omega arith)) (omega arith))

-- THE LAW of constants
module _ (count used : ℕ) (code h : List ℕ) (long : length code ≡ 24582) (in_heap_lem : length h ≡ 65535) where
  all_laid : let w = laid_from (limit_of used) (min count 4097) 0 (record { used = used; skip = 0 }) code h in Laying used code h (min count 4097) w.now.used w.code w.heap
  all_laid =
      let w = laid_from (limit_of used) (min count 4097) 0 (record { used = used; skip = 0 }) code h in
      let z : 0 + min count 4097 ≡ min count 4097 = omega arith in
      subst (λ (n : ℕ). Laying used code h n w.now.used w.code w.heap) z
      (laid_from_lem (min count 4097) (record { used = used; skip = 0 })
      (record { links = λ j. refl; long = long; whole = in_heap_lem; same = below_self; grown = omega arith; most = omega arith; held = λ j l r. absurd (omega arith); rest = λ j l. refl }) (omega arith))

  -- where the table was empty, it has these and no other
  pub constants_held : NoConstants code → let w = constants_laid count used code h in Constants w.code w.heap w.used
  unfolding constants_laid
  constants_held empty = let w = laid_from (limit_of used) (min count 4097) 0 (record { used = used; skip = 0 }) code h in record { holds = λ i r. pick i r (dec_le (min count 4097) i) }
    where
      pick : (i : ℕ) → (let w = laid_from (limit_of used) (min count 4097) 0 (record { used = used; skip = 0 }) code h in (constant_at w.code i).from < (constant_at w.code i).to → Dec (min count 4097 ≤ i) → ConstantHeld w.code w.heap w.now.used i)
      pick i r (yes l) = let z : 0 < 0 = subst (λ (k : Constant). k.from < k.to) (all_laid.rest i l ∙ empty.none i) r in absurd (omega arith)
      pick i r (no l) = all_laid.held i (omega arith) r

  -- .. and what stays
  pub record Kept : Type 0 where
    pub links : (j : ℕ) → link_at (constants_laid count used code h).code j ≡ link_at code j
    pub whole : length (constants_laid count used code h).heap ≡ 65535
    pub same : Below used (constants_laid count used code h).heap h
    pub grown : used ≤ (constants_laid count used code h).used
    pub most : (constants_laid count used code h).used ≤ used + 4097

  pub constants_kept : Kept
  unfolding constants_laid
  constants_kept = let y = all_laid in record { links = y.links; whole = y.whole; same = y.same; grown = y.grown; most = y.most }

-- the tokens of two parts
module _ (code : List ℕ) where
  cells_parts : (a b i : ℕ) → cells_of code (a + b) i ≡ cells_of code a i ++ cells_of code b (i + a)
  unfolding cells_of
  cells_parts zero b i = let z : 0 + b ≡ b = omega arith in let y : i + 0 ≡ i = omega arith in rw (z, y)
  cells_parts (suc a) b i =
      let z : suc a + b ≡ suc (a + b) = omega arith in
      let y : i + suc a ≡ i + 1 + a = omega arith in
      rw (z, y) (ap (λ (v : List ℕ). cells_of_token code i ++ v) (cells_parts a b (i + 1)) ∙ inv (append_assoc (cells_of_token code i) (cells_of code a (i + 1)) (cells_of code b (i + 1 + a))))

  named_parts : (a b i : ℕ) → named_in code (a + b) i ≡ false → (named_in code a i ≡ false) × (named_in code b (i + a) ≡ false)
  unfolding named_in
  named_parts zero b i e = let z : 0 + b ≡ b = omega arith in let y : i + 0 ≡ i = omega arith in (refl, rw y (rw z at e))
  named_parts (suc a) b i e =
      let z : suc a + b ≡ suc (a + b) = omega arith in
      let y : i + suc a ≡ i + 1 + a = omega arith in
      rw y (pick (eqb (link_at code i).mark 2) (named_parts a b (i + 1)) (rw z at e))
    where
      pick : (t : Bool) → (named_in code (a + b) (i + 1) ≡ false → (named_in code a (i + 1) ≡ false) × (named_in code b (i + 1 + a) ≡ false)) → cond t true (named_in code (a + b) (i + 1)) ≡ false →
          (cond t true (named_in code a (i + 1)) ≡ false) × (named_in code b (i + 1 + a) ≡ false)
      pick true again f = let q : ◌≡◌ {A = ℕ} 0 1 = cc in absurd (omega arith)
      pick false again f = again f

  one_cells : (i m a p : ℕ) → link_at code i ≡ link m a 0 p → cells_of code 1 i ≡ cond (eqb m 1) (a ∷ []) [] ++ []
  unfolding cells_of
  one_cells i m a p e = rw e

  named_one : (i m a p : ℕ) → link_at code i ≡ link m a 0 p → named_in code 1 i ≡ cond (eqb m 2) true false
  unfolding named_in
  named_one i m a p e = rw e

  -- without names the value is the tokens' own cells
  module _ (sc : List Param) (σ : Substitution) where
    pub closed_cells : {i : ℕ} {c : Exp} {k : ℕ} → ExpLinked code sc i c k → named_in code (k - i) i ≡ false → cells_of code (k - i) i ≡ cells (apply σ c)
    closed_cells {i} (sym_linked {z = s} e) n = let z : i + 1 - i ≡ 1 = omega arith in rw z (one_cells i 1 (4 * s + 1) (i + 1) e)
    closed_cells {i} (e_linked {x = x} e) n =
        let z : i + 1 - i ≡ 1 = omega arith in let w : true ≡ false = inv (named_one i 2 (place_in (pe x) sc) (i + 1) e) ∙ rw z at n in let q : ◌≡◌ {A = ℕ} 0 1 = cc in absurd (omega arith)
    closed_cells {i} (a_linked {x = x} e) n =
        let z : i + 1 - i ≡ 1 = omega arith in let w : true ≡ false = inv (named_one i 2 (place_in (pa x) sc) (i + 1) e) ∙ rw z at n in let q : ◌≡◌ {A = ℕ} 0 1 = cc in absurd (omega arith)
    closed_cells {i} (cons_linked {j = j} {k = kk} {c = c} {d = d} o w lc ld e) n =
        let x1 = exp_goes_on code sc lc in let x2 = exp_goes_on code sc ld in
        let n0 : kk + 1 - i ≡ 1 + (1 + ((j - (i + 2)) + ((kk - j) + 1))) = omega arith in
        let i1 : i + 1 + 1 ≡ i + 2 = omega arith in let i2 : i + 2 + (j - (i + 2)) ≡ j = omega arith in let i3 : j + (kk - j) ≡ kk = omega arith in
        let m0 = named_parts 1 (1 + ((j - (i + 2)) + ((kk - j) + 1))) i (rw n0 at n) in
        let m1 = named_parts 1 ((j - (i + 2)) + ((kk - j) + 1)) (i + 1) m0.1 in
        let m2 = named_parts (j - (i + 2)) ((kk - j) + 1) (i + 2) (rw i1 at m1.1) in
        let m3 = named_parts (kk - j) 1 j (rw i2 at m2.1) in
        let hc = closed_cells lc m2.0 in
        let hd = closed_cells ld m3.0 in
        let s0 = cells_parts 1 (1 + ((j - (i + 2)) + ((kk - j) + 1))) i in
        let s1 = cells_parts 1 ((j - (i + 2)) + ((kk - j) + 1)) (i + 1) in
        let s2 = cells_parts (j - (i + 2)) ((kk - j) + 1) (i + 2) in
        let s3 = cells_parts (kk - j) 1 j in
        rw (n0, s0, one_cells i 0 0 (kk + 1) o, s1, one_cells (i + 1) 1 4 (i + 2) w, i1, s2, hc, i2, s3, hd, i3, one_cells kk 0 0 (kk + 1) e) (ap (λ (v : List ℕ). 4 ∷ (cells (apply σ c) ++ v)) (append-nil (cells (apply σ d))))
