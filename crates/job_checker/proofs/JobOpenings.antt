-- One level of the check of a job opened, by the tests of the code.
use Prim.Native.Nat.{ℕ, zero, suc, ◌+◌, ◌*◌, ◌-◌, ◌≤◌, ◌<◌}
use mathlib.Core.Path.{◌≡◌, refl, ap, ◌∙◌}
use mathlib.Core.Bool.{Bool, false, cond, ◌&&◌, not}
use mathlib.Core.List.{List}
use lib.Dec.{eqb, leb, ltb}
use borrow.Author.Tests.{eq-eqb, ne_eqb, le-leb, le-ltb, lt-leb, lt-ltb}
use lib.ListN.{length, get_or, set}
use Rattle.checker.specs.Twins.CheckAt.{first, ahead, walked, arguments, pick}
use Rattle.job_checker.specs.Twins.JobCheckAt.{datum_leaf, datum_pair, datum_at, input_at, inputs_at, marked_from, two_sides, sides_at}
use Rattle.job_checker.specs.Twins.JobStored.{numeral_from}
use Rattle.checker.proofs.CheckOpenings.{less, counted_out, counted_on}
use Rattle.verdicts.specs.Twins.Found.{Verdict, fine}

pub datum_none : {k : ℕ} → k ≡ 0 → (key kind at : ℕ → ℕ) (n : ℕ) (runs : Bool) (i : ℕ) → datum_at key kind at n runs k i ≡ datum_leaf kind at n runs i
unfolding datum_at
datum_none e key kind at n runs i = rw e

datum_more : {k : ℕ} → (k ≡ 0 → ⊥) → (key kind at : ℕ → ℕ) (n : ℕ) (runs : Bool) (i : ℕ) →
    datum_at key kind at n runs k i ≡ pick (eqb (key i) 1) (datum_pair n (λ j. datum_at key kind at n runs (k - 1) j)) (datum_leaf kind at n runs) i
unfolding datum_at
datum_more {k = zero} f key kind at n runs i = absurd (f refl)
datum_more {k = suc k} f key kind at n runs i = rw (less k)

pub datum_pair_at : {k : ℕ} → (k ≡ 0 → ⊥) → (key kind at : ℕ → ℕ) (n : ℕ) (runs : Bool) (i : ℕ) → key i ≡ 1 →
    datum_at key kind at n runs k i ≡ datum_pair n (λ j. datum_at key kind at n runs (k - 1) j) i
datum_pair_at f key kind at n runs i e = datum_more f key kind at n runs i ∙ rw (eq-eqb _ _ e)

pub datum_leaf_at : {k : ℕ} → (k ≡ 0 → ⊥) → (key kind at : ℕ → ℕ) (n : ℕ) (runs : Bool) (i : ℕ) → (key i ≡ 1 → ⊥) → datum_at key kind at n runs k i ≡ datum_leaf kind at n runs i
datum_leaf_at f key kind at n runs i e = datum_more f key kind at n runs i ∙ rw (ne_eqb _ _ e)

-- at the turn k of t
module _ (key kind at : ℕ → ℕ) (n : ℕ) (runs : Bool) (mkey mkind : ℕ → ℕ) (m p : ℕ) (b : Bool) (v : Verdict) (i : ℕ) where
  pub inputs_none : {t k : ℕ} → t ≤ k → inputs_at key kind at n runs mkey mkind m (t - k) p b v i ≡ arguments i false v
  unfolding inputs_at
  inputs_none {t} {k} l = rw (counted_out t k l)

  inputs_more : {t k : ℕ} → k < t →
      inputs_at key kind at n runs mkey mkind m (t - k) p b v i ≡ cond (eqb (key i) 2) (arguments i (b && eqb (mkey p) 4) v)
      (inputs_at key kind at n runs mkey mkind m (t - (k + 1)) (ahead m 1 p) (b && not (eqb (mkey p) 4)) (first v (input_at key kind at n runs mkey mkind m p i).uses) (input_at key kind at n runs mkey mkind m p i).past)
  unfolding inputs_at
  inputs_more {t} {k} l = rw (counted_on t k l)

  pub inputs_close : {t k : ℕ} → k < t → key i ≡ 2 → inputs_at key kind at n runs mkey mkind m (t - k) p b v i ≡ arguments i (b && eqb (mkey p) 4) v
  inputs_close l e = inputs_more l ∙ rw (eq-eqb _ _ e)

  pub inputs_on : {t k : ℕ} → k < t → (key i ≡ 2 → ⊥) →
      inputs_at key kind at n runs mkey mkind m (t - k) p b v i ≡
      inputs_at key kind at n runs mkey mkind m (t - (k + 1)) (ahead m 1 p) (b && not (eqb (mkey p) 4)) (first v (input_at key kind at n runs mkey mkind m p i).uses) (input_at key kind at n runs mkey mkind m p i).past
  inputs_on l e = inputs_more l ∙ rw (ne_eqb _ _ e)

pub marked_none : {c j : ℕ} → c ≤ j → (kind num : ℕ → ℕ) (cells : List ℕ) → marked_from kind num (c - j) j cells ≡ cells
unfolding marked_from
marked_none {c} {j} l kind num cells = rw (counted_out c j l)

-- one token on, which is `?aK` or is not
module _ {c j : ℕ} (l : j < c) (kind num : ℕ → ℕ) (cells : List ℕ) where
  marked_more : marked_from kind num (c - j) j cells ≡ marked_from kind num (c - (j + 1)) (j + 1) (cond (eqb (kind j) 4) (set cells (num j) 1) cells)
  unfolding marked_from
  marked_more = rw (counted_on c j l)

  pub marked_here : kind j ≡ 4 → marked_from kind num (c - j) j cells ≡ marked_from kind num (c - (j + 1)) (j + 1) (set cells (num j) 1)
  marked_here e = marked_more ∙ ap (λ b. marked_from kind num (c - (j + 1)) (j + 1) (cond b (set cells (num j) 1) cells)) (eq-eqb _ _ e)

  pub marked_on : (kind j ≡ 4 → ⊥) → marked_from kind num (c - j) j cells ≡ marked_from kind num (c - (j + 1)) (j + 1) cells
  marked_on e = marked_more ∙ ap (λ b. marked_from kind num (c - (j + 1)) (j + 1) (cond b (set cells (num j) 1) cells)) (ne_eqb _ _ e)

-- at the turn k of t
module _ (key kind num at : ℕ → ℕ) (n : ℕ) (runs : Bool) (marked : List ℕ) (v : Verdict) (i : ℕ) where
  pub sides_none : {t k : ℕ} → t ≤ k → sides_at key kind num at n runs (t - k) marked v i ≡ walked i fine fine v
  unfolding sides_at
  sides_none {t} {k} l = rw (counted_out t k l)

  sides_more : {t k : ℕ} → k < t →
      sides_at key kind num at n runs (t - k) marked v i ≡ cond (eqb (key i) 2) (walked i fine fine v)
      (sides_at key kind num at n runs (t - (k + 1)) marked (first v (two_sides key kind num at n runs marked (ahead n 1 i)).uses) (two_sides key kind num at n runs marked (ahead n 1 i)).past)
  unfolding sides_at
  sides_more {t} {k} l = rw (counted_on t k l)

  pub sides_close : {t k : ℕ} → k < t → key i ≡ 2 → sides_at key kind num at n runs (t - k) marked v i ≡ walked i fine fine v
  sides_close l e = sides_more l ∙ rw (eq-eqb _ _ e)

  pub sides_on : {t k : ℕ} → k < t → (key i ≡ 2 → ⊥) →
      sides_at key kind num at n runs (t - k) marked v i ≡
      sides_at key kind num at n runs (t - (k + 1)) marked (first v (two_sides key kind num at n runs marked (ahead n 1 i)).uses) (two_sides key kind num at n runs marked (ahead n 1 i)).past
  sides_on l e = sides_more l ∙ rw (ne_eqb _ _ e)

module _ (text : List ℕ) (i v : ℕ) where
  pub numeral_none : {t k : ℕ} → t ≤ k → numeral_from text (t - k) i v ≡ v
  unfolding numeral_from
  numeral_none {t} {k} l = rw (counted_out t k l)

  numeral_more : {t k : ℕ} → k < t →
      numeral_from text (t - k) i v ≡ cond (ltb (get_or text i 0) 48) v (cond (ltb 57 (get_or text i 0)) v (cond (leb 1000000 v) v (numeral_from text (t - (k + 1)) (ahead (length text) 1 i) (10 * v + (get_or text i 0 - 48)))))
  unfolding numeral_from
  numeral_more {t} {k} l = rw (counted_on t k l)

  pub numeral_below : {t k : ℕ} → k < t → get_or text i 0 < 48 → numeral_from text (t - k) i v ≡ v
  numeral_below l a = numeral_more l ∙ rw (lt-ltb _ _ a)

  pub numeral_above : {t k : ℕ} → k < t → 48 ≤ get_or text i 0 → 57 < get_or text i 0 → numeral_from text (t - k) i v ≡ v
  numeral_above l a b = numeral_more l ∙ rw (le-ltb _ _ a, lt-ltb _ _ b)

  pub numeral_large : {t k : ℕ} → k < t → 48 ≤ get_or text i 0 → get_or text i 0 ≤ 57 → 1000000 ≤ v → numeral_from text (t - k) i v ≡ v
  numeral_large l a b c = numeral_more l ∙ rw (le-ltb _ _ a, le-ltb _ _ b, le-leb _ _ c)

  pub numeral_on : {t k : ℕ} → k < t → 48 ≤ get_or text i 0 → get_or text i 0 ≤ 57 → v < 1000000 →
      numeral_from text (t - k) i v ≡ numeral_from text (t - (k + 1)) (ahead (length text) 1 i) (10 * v + (get_or text i 0 - 48))
  numeral_on l a b c = numeral_more l ∙ rw (le-ltb _ _ a, le-ltb _ _ b, lt-leb _ _ c)
