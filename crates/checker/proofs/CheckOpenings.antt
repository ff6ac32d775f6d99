-- One level of the check by position opened, by the tests of the code.
use Prim.Native.Nat.{ℕ, zero, suc, ◌+◌, ◌-◌, ◌≤◌, ◌<◌}
use mathlib.Core.Path.{◌≡◌, refl, ap, ◌∙◌, sym}
use mathlib.Core.Bool.{Bool, true, false, cond, ◌&&◌, ◌||◌, not}
use mathlib.Core.List.{List}
use native.Mathlib.Omega.{arith}
use borrow.Author.Tests.{eq-eqb, ne_eqb}
use lib.Dec.{eqb}
use lib.ListN.{get_or}
use Rattle.checker.specs.declared.check.Names.{Names}
use Rattle.checker.specs.declared.check.Defs.{Defs}
use Rattle.checker.specs.Twins.CheckAt.{Put, first, ahead, arguments, names, push, pick, pick_term, same_name, is_named, in_reach, leaf_at, pair_at, exp_at, arg_at, args_at, place_at, form_at, term_at, params_at, params_end, params_twice, def_at, defs_at, body_at, bodies_at}
use Rattle.verdicts.specs.Twins.Found.{Verdict, fine}
use Rattle.refusals.specs.Faults.{fault}

-- the number that falls is 0, or the next of the one before it
pub less : (k : ℕ) → suc k - 1 ≡ k
less k = omega arith

-- from j up to the count
pub counted_out : (c j : ℕ) → c ≤ j → c - j ≡ 0
counted_out c j l = omega arith

pub whole_count : (c : ℕ) → c - 0 ≡ c
whole_count c = omega arith

pub counted_on : (c j : ℕ) → j < c → c - j ≡ suc (c - (j + 1))
counted_on c j l = omega arith

-- turns of `is_named`: the name at i is the last of the first u, or one of those before it
pub named_none : (kind num : ℕ → ℕ) (cells : List ℕ) (u i : ℕ) → u ≡ 0 → is_named kind num cells u i ≡ false
unfolding is_named
named_none kind num cells u i e = rw e

pub named_more : (kind num : ℕ → ℕ) (cells : List ℕ) (u k i : ℕ) → u ≡ suc k → is_named kind num cells u i ≡ (same_name kind num (get_or cells k 0) i || is_named kind num cells k i)
unfolding is_named
named_more kind num cells u k i e = rw e

pub exp_none : {k : ℕ} → k ≡ 0 → (key kind num at : ℕ → ℕ) (n : ℕ) (sc : Names) (i : ℕ) → exp_at key kind num at n k sc i ≡ leaf_at key kind num at n sc i
unfolding exp_at
exp_none e key kind num at n sc i = rw e

exp_more : {k : ℕ} → (k ≡ 0 → ⊥) → (key kind num at : ℕ → ℕ) (n : ℕ) (sc : Names) (i : ℕ) →
    exp_at key kind num at n k sc i ≡ pick (eqb (key i) 1) (pair_at key kind num at n (λ j. exp_at key kind num at n (k - 1) sc j)) (leaf_at key kind num at n sc) i
unfolding exp_at
exp_more {k = zero} f key kind num at n sc i = absurd (f refl)
exp_more {k = suc k} f key kind num at n sc i = rw (less k)

pub exp_pair : {k : ℕ} → (k ≡ 0 → ⊥) → (key kind num at : ℕ → ℕ) (n : ℕ) (sc : Names) (i : ℕ) → key i ≡ 1 →
    exp_at key kind num at n k sc i ≡ pair_at key kind num at n (λ j. exp_at key kind num at n (k - 1) sc j) i
exp_pair f key kind num at n sc i e = exp_more f key kind num at n sc i ∙ rw (eq-eqb _ _ e)

pub exp_leaf : {k : ℕ} → (k ≡ 0 → ⊥) → (key kind num at : ℕ → ℕ) (n : ℕ) (sc : Names) (i : ℕ) → (key i ≡ 1 → ⊥) → exp_at key kind num at n k sc i ≡ leaf_at key kind num at n sc i
exp_leaf f key kind num at n sc i e = exp_more f key kind num at n sc i ∙ rw (ne_eqb _ _ e)

-- at the turn k of m
pub args_none : {m k : ℕ} → m ≤ k → (key kind num at : ℕ → ℕ) (n room : ℕ) (sc : Names) (p : ℕ) (b : Bool) (v : Verdict) (i : ℕ) → args_at key kind num at n (m - k) room sc p b v i ≡ arguments i false v
unfolding args_at
args_none {m} {k} l key kind num at n room sc p b v i = rw (counted_out m k l)

args_more : {m k : ℕ} → k < m → (key kind num at : ℕ → ℕ) (n room : ℕ) (sc : Names) (p : ℕ) (b : Bool) (v : Verdict) (i : ℕ) →
    args_at key kind num at n (m - k) room sc p b v i ≡ cond (eqb (key i) 4) (arguments i (b && eqb (key p) 4) v)
    (args_at key kind num at n (m - (k + 1)) room sc (ahead n 1 p) (b && not (eqb (key p) 4)) (first v (arg_at key kind num at n room sc p i).uses) (arg_at key kind num at n room sc p i).past)
unfolding args_at
args_more {m} {k} l key kind num at n room sc p b v i = rw (counted_on m k l)

pub args_close : {m k : ℕ} → k < m → (key kind num at : ℕ → ℕ) (n room : ℕ) (sc : Names) (p : ℕ) (b : Bool) (v : Verdict) (i : ℕ) → key i ≡ 4 →
    args_at key kind num at n (m - k) room sc p b v i ≡ arguments i (b && eqb (key p) 4) v
args_close l key kind num at n room sc p b v i e = args_more l key kind num at n room sc p b v i ∙ rw (eq-eqb _ _ e)

pub args_on : {m k : ℕ} → k < m → (key kind num at : ℕ → ℕ) (n room : ℕ) (sc : Names) (p : ℕ) (b : Bool) (v : Verdict) (i : ℕ) → (key i ≡ 4 → ⊥) →
    args_at key kind num at n (m - k) room sc p b v i ≡
    args_at key kind num at n (m - (k + 1)) room sc (ahead n 1 p) (b && not (eqb (key p) 4)) (first v (arg_at key kind num at n room sc p i).uses) (arg_at key kind num at n room sc p i).past
args_on l key kind num at n room sc p b v i e = args_more l key kind num at n room sc p b v i ∙ rw (ne_eqb _ _ e)

pub place_none : {c j : ℕ} → c ≤ j → (num : ℕ → ℕ) (heads : List ℕ) (x : ℕ) → place_at num heads (c - j) j x ≡ j
unfolding place_at
place_none {c} {j} l num heads x = rw (counted_out c j l)

place_more : {c j : ℕ} → j < c → (num : ℕ → ℕ) (heads : List ℕ) (x : ℕ) →
    place_at num heads (c - j) j x ≡ cond (eqb (num (get_or heads j 0)) x) j (place_at num heads (c - (j + 1)) (j + 1) x)
unfolding place_at
place_more {c} {j} l num heads x = rw (counted_on c j l)

pub place_here : {c j : ℕ} → j < c → (num : ℕ → ℕ) (heads : List ℕ) (x : ℕ) → num (get_or heads j 0) ≡ x → place_at num heads (c - j) j x ≡ j
place_here l num heads x e = place_more l num heads x ∙ rw (eq-eqb _ _ e)

pub place_on : {c j : ℕ} → j < c → (num : ℕ → ℕ) (heads : List ℕ) (x : ℕ) → (num (get_or heads j 0) ≡ x → ⊥) → place_at num heads (c - j) j x ≡ place_at num heads (c - (j + 1)) (j + 1) x
place_on l num heads x e = place_more l num heads x ∙ rw (ne_eqb _ _ e)

pub term_none : {k : ℕ} → k ≡ 0 → (key kind num at : ℕ → ℕ) (n : ℕ) (heads : List ℕ) (count : ℕ) (sc : Names) (i : ℕ) → term_at key kind num at n heads count k sc i ≡ leaf_at key kind num at n sc i
unfolding term_at
term_none e key kind num at n heads count sc i = rw e

pub term_more : {k : ℕ} → (k ≡ 0 → ⊥) → (key kind num at : ℕ → ℕ) (n : ℕ) (heads : List ℕ) (count : ℕ) (sc : Names) (i : ℕ) →
    term_at key kind num at n heads count k sc i ≡
    pick_term (eqb (key i) 1) (form_at key kind num at n heads count (λ sc j. term_at key kind num at n heads count (k - 1) sc j) (k - 1)) (leaf_at key kind num at n) sc i
unfolding term_at
term_more {k = zero} f key kind num at n heads count sc i = absurd (f refl)
term_more {k = suc k} f key kind num at n heads count sc i = rw (less k)

-- at the turn k of m
pub params_none : {m k : ℕ} → m ≤ k → (key : ℕ → ℕ) (n : ℕ) (sc : Names) (i : ℕ) → params_at key n (m - k) sc i ≡ sc
unfolding params_at
params_none {m} {k} l key n sc i = rw (counted_out m k l)

params_more : {m k : ℕ} → k < m → (key : ℕ → ℕ) (n : ℕ) (sc : Names) (i : ℕ) →
    params_at key n (m - k) sc i ≡ cond (eqb (key i) 4) sc (params_at key n (m - (k + 1)) (push sc i) (ahead n 1 i))
unfolding params_at
params_more {m} {k} l key n sc i = rw (counted_on m k l)

pub params_close : {m k : ℕ} → k < m → (key : ℕ → ℕ) (n : ℕ) (sc : Names) (i : ℕ) → key i ≡ 4 → params_at key n (m - k) sc i ≡ sc
params_close l key n sc i e = params_more l key n sc i ∙ rw (eq-eqb _ _ e)

-- one parameter more, put in its cell
pub params_put : {m k : ℕ} → k < m → (key : ℕ → ℕ) (n : ℕ) (a b : List ℕ) (u v i : ℕ) → (key i ≡ 4 → ⊥) → Put a u i b v →
    params_at key n (m - k) (names a u) i ≡ params_at key n (m - (k + 1)) (names b v) (ahead n 1 i)
params_put {m} {k} l key n a b u v i e p =
    params_more l key n (names a u) i ∙ ap (λ t. cond t (names a u) (params_at key n (m - (k + 1)) (push (names a u) i) (ahead n 1 i))) (ne_eqb _ _ e) ∙ ap (λ sc. params_at key n (m - (k + 1)) sc (ahead n 1 i)) (sym p.is)

pub end_none : {m k : ℕ} → m ≤ k → (key : ℕ → ℕ) (n i : ℕ) → params_end key n (m - k) i ≡ i
unfolding params_end
end_none {m} {k} l key n i = rw (counted_out m k l)

end_more : {m k : ℕ} → k < m → (key : ℕ → ℕ) (n i : ℕ) → params_end key n (m - k) i ≡ cond (eqb (key i) 4) i (params_end key n (m - (k + 1)) (ahead n 1 i))
unfolding params_end
end_more {m} {k} l key n i = rw (counted_on m k l)

pub end_close : {m k : ℕ} → k < m → (key : ℕ → ℕ) (n i : ℕ) → key i ≡ 4 → params_end key n (m - k) i ≡ i
end_close l key n i e = end_more l key n i ∙ rw (eq-eqb _ _ e)

pub end_on : {m k : ℕ} → k < m → (key : ℕ → ℕ) (n i : ℕ) → (key i ≡ 4 → ⊥) → params_end key n (m - k) i ≡ params_end key n (m - (k + 1)) (ahead n 1 i)
end_on l key n i e = end_more l key n i ∙ rw (ne_eqb _ _ e)

pub twice_none : {m k : ℕ} → m ≤ k → (key kind num at : ℕ → ℕ) (n : ℕ) (before : Names) (i : ℕ) → params_twice key kind num at n (m - k) before i ≡ fine
unfolding params_twice
twice_none {m} {k} l key kind num at n before i = rw (counted_out m k l)

module _ {m k : ℕ} (l : k < m) (key kind num at : ℕ → ℕ) (n : ℕ) where
  twice_more : (before : Names) (i : ℕ) →
      params_twice key kind num at n (m - k) before i ≡
      cond (eqb (key i) 4) fine (cond (in_reach key kind num at n before i) (fault 6 (at i)) (params_twice key kind num at n (m - (k + 1)) (push before i) (ahead n 1 i)))
  unfolding params_twice
  twice_more before i = rw (counted_on m k l)

  pub twice_close : (before : Names) (i : ℕ) → key i ≡ 4 → params_twice key kind num at n (m - k) before i ≡ fine
  twice_close before i e = twice_more before i ∙ rw (eq-eqb _ _ e)

  pub twice_here : (before : Names) (i : ℕ) → (key i ≡ 4 → ⊥) → in_reach key kind num at n before i ≡ true → params_twice key kind num at n (m - k) before i ≡ fault 6 (at i)
  twice_here before i e r = twice_more before i ∙ rw (ne_eqb _ _ e, r)

  pub twice_put : (a b : List ℕ) (u v i : ℕ) → (key i ≡ 4 → ⊥) → in_reach key kind num at n (names a u) i ≡ false → Put a u i b v →
      params_twice key kind num at n (m - k) (names a u) i ≡ params_twice key kind num at n (m - (k + 1)) (names b v) (ahead n 1 i)
  twice_put a b u v i e r p =
      twice_more (names a u) i
      ∙ ap (λ t. cond t fine (cond (in_reach key kind num at n (names a u) i) (fault 6 (at i)) (params_twice key kind num at n (m - (k + 1)) (push (names a u) i) (ahead n 1 i)))) (ne_eqb _ _ e)
      ∙ ap (λ t. cond t (fault 6 (at i)) (params_twice key kind num at n (m - (k + 1)) (push (names a u) i) (ahead n 1 i))) r
      ∙ ap (λ sc. params_twice key kind num at n (m - (k + 1)) sc (ahead n 1 i)) (sym p.is)

pub defs_none : {m k : ℕ} → m ≤ k → (key kind num at : ℕ → ℕ) (n : ℕ) (ds : Defs) → defs_at key kind num at n (m - k) ds ≡ ds
unfolding defs_at
defs_none {m} {k} l key kind num at n ds = rw (counted_out m k l)

module _ {m k : ℕ} (l : k < m) (key kind num at : ℕ → ℕ) (n : ℕ) (ds : Defs) where
  defs_more : defs_at key kind num at n (m - k) ds ≡ cond (eqb (key ds.past) 0) ds (defs_at key kind num at n (m - (k + 1)) (def_at key kind num at n ds))
  unfolding defs_at
  defs_more = rw (counted_on m k l)

  pub defs_end : key ds.past ≡ 0 → defs_at key kind num at n (m - k) ds ≡ ds
  defs_end e = defs_more ∙ rw (eq-eqb _ _ e)

  pub defs_on : (key ds.past ≡ 0 → ⊥) → defs_at key kind num at n (m - k) ds ≡ defs_at key kind num at n (m - (k + 1)) (def_at key kind num at n ds)
  defs_on e = defs_more ∙ rw (ne_eqb _ _ e)

pub bodies_none : {c j : ℕ} → c ≤ j → (key kind num at : ℕ → ℕ) (n : ℕ) (heads : List ℕ) (count : ℕ) (v w : Verdict) →
    bodies_at key kind num at n heads count (c - j) j v w ≡ record { rebound = v; uses = w }
unfolding bodies_at
bodies_none {c} {j} l key kind num at n heads count v w = rw (counted_out c j l)

pub bodies_more : {c j : ℕ} → j < c → (key kind num at : ℕ → ℕ) (n : ℕ) (heads : List ℕ) (count : ℕ) (v w : Verdict) →
    bodies_at key kind num at n heads count (c - j) j v w ≡
    bodies_at key kind num at n heads count (c - (j + 1)) (j + 1) (first v (body_at key kind num at n heads count (get_or heads j 0)).rebound) (first w (body_at key kind num at n heads count (get_or heads j 0)).uses)
unfolding bodies_at
bodies_more {c} {j} l key kind num at n heads count v w = rw (counted_on c j l)
