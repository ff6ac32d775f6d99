-- The check of a job by position finds what the check of what was read finds: `job_checked`.
use Prim.Native.Nat.{ℕ, zero, suc, ◌+◌, ◌-◌, ◌≤◌, ◌<◌}
use Prim.Native.String.{String}
use mathlib.Core.Path.{◌≡◌, refl, ap, ap₂, subst, ◌∙◌, sym as inv}
use mathlib.Core.Bool.{Bool, true, false, cond, ◌&&◌, ◌||◌, not}
use mathlib.Core.List.{List, [], ◌∷◌}
use mathlib.Core.Option.{none, some}
use native.Mathlib.Omega.{arith}
use native.Mathlib.Nat.{add_assoc}
use native.Mathlib.Decide.{ℕ_discrete}
use lib.Dec.{eqb, leb, eqb-zero-suc, eqb-suc-zero, eqb-suc-suc}
use lib.ListN.{length, get_or, set, length-set, replicate, length-replicate, get_or-replicate}
use lib.Seq.{get_or-set_same, get_or-set_other}
use borrow.Author.Tests.{eq-eqb, ne_eqb, eqb-true}
use Rattle.expressions.specs.Expression.{Exp}
use Rattle.language.specs.Bytes.{txt, unless, ◌or_else◌}
use Rattle.language.specs.Bytes as bytes
use Rattle.language.specs.Words.{fits}
use Rattle.language.specs.Tokens.{symbol, ename, aname, evariable, avariable, plain, of_job, Token, key_of}
use Rattle.language.specs.Reader.{is, is_a}
use Rattle.language.specs.Scope.{is_atomic}
use Rattle.language.specs.Source.{SExp, sym_s, pair_s, SParam, SJob, exp, exps, at_of, params}
use Rattle.language.specs.JobCheck.{Tool, lister, runner, ground_verdict, variables, kinds_verdict, stands_in, stands_in_any, side_fits, sides_verdict, job_verdict}
use Rattle.syntax.specs.Twins.Standing.{WordAt, NameAt, ExpAt, symbol_at, cons_at, ExpsAt, ParamsAt, SidesAt, JobAt, job_at}
use Rattle.syntax.specs.Twins.Standing as at
use Rattle.verdicts.specs.Twins.Found.{Verdict, fine}
use Rattle.verdicts.specs.declared.found.Walked.{Walked}
use Rattle.checker.specs.Twins.CheckAt.{first, judge, ahead, walked, arguments}
use Rattle.job_checker.specs.Twins.JobCheckAt as check
use Rattle.job_checker.specs.Twins.JobCheckAt.{datum_at, inputs_at, marked_from, stands_from, sides_at}
use Rattle.syntax.proofs.CheckLaws.{coded, coded_first, coded_judge, first_fine, first_assoc, ahead_in, is_a_other, exp_least, exp_most, keys, kinds, ats}
use Rattle.syntax.proofs.TermLaws.{length_params}

abbrev pub is_runner : Tool → Bool
is_runner lister = false
is_runner runner = true

-- a fixed word is of no kind but plain
abbrev pub Fixed : (ℕ → Token) → Type 0
Fixed tok = (i : ℕ) → (tok i).key < 18 → is_a plain (tok i) ≡ true

module _ (tok mtok : ℕ → Token) (n m : ℕ) (tool : Tool) where
  abbrev datum_of : ℕ → ℕ → Walked
  datum_of room i = datum_at (keys tok n) (kinds tok n) (ats tok n) n (is_runner tool) room i

  abbrev leaf_of : ℕ → Walked
  leaf_of i = check.datum_leaf (kinds tok n) (ats tok n) n (is_runner tool) i

  datum_leaf_lem : (room i : ℕ) → is "(" (tok i) ≡ false → datum_of room i ≡ leaf_of i
  unfolding datum_at
  datum_leaf_lem zero i b = refl
  datum_leaf_lem (suc room) i b = rw b

  datum_opened : (room i j k : ℕ) → WordAt tok n "(" i → WordAt tok n "cons" (i + 1) → WordAt tok n ")" k → (datum_of room (i + 2)).past ≡ j → (datum_of room j).past ≡ k →
      datum_of (suc room) i ≡ walked (k + 1) fine fine (first (datum_of room (i + 2)).uses (datum_of room j).uses)
  unfolding datum_at
  datum_opened room i j k o w e p q =
      let a = w.below in let b = e.below in
      rw (o.key, ahead_in n 2 i (omega arith), p, q, ahead_in n 1 k (omega arith))

  datum_past : {room i : ℕ} {c : SExp} {k : ℕ} → ExpAt tok n of_job room i c k → (datum_of room i).past ≡ k
  datum_past {room} {i} (symbol_at b x) = let y = x.below in ap (λ w. w.past) (datum_leaf_lem room i b) ∙ ahead_in n 1 i (omega arith)
  datum_past {room} {i} (at.ExpAt.e_at b x) = let y = x.below in ap (λ w. w.past) (datum_leaf_lem room i b) ∙ ahead_in n 1 i (omega arith)
  datum_past {room} {i} (at.ExpAt.a_at b x) = let y = x.below in ap (λ w. w.past) (datum_leaf_lem room i b) ∙ ahead_in n 1 i (omega arith)
  datum_past {room = suc room} {i} (cons_at o w c d e) = ap (λ w. w.past) (datum_opened room i _ _ o w e (datum_past c) (datum_past d))

  leaf_uses : (room i : ℕ) (b : Bool) → is "(" (tok i) ≡ false → is_a symbol (tok i) ≡ b → (datum_of room i).uses ≡ judge (b || not (is_runner tool)) 10 (tok i).at
  leaf_uses room i b o e = ap (λ w. w.uses) (datum_leaf_lem room i o) ∙ ap (λ c. judge (c || not (is_runner tool)) 10 (tok i).at) e

-- what a tool finds in a variable, and in a pair
variable_found : (tool : Tool) (o : ℕ) (c : SExp) → ground_verdict c ≡ bytes.fault 10 o → judge (not (is_runner tool)) 10 o ≡ coded (variables tool c)
variable_found lister o c e = refl
variable_found runner o c e = ap coded (inv e)

pair_found : (tool : Tool) (o : ℕ) (c d : SExp) → first (coded (variables tool c)) (coded (variables tool d)) ≡ coded (variables tool (pair_s o c d))
pair_found lister o c d = refl
pair_found runner o c d = inv (coded_first (ground_verdict c) (ground_verdict d))

or_assoc : (a b c : Bool) → (a || b || c) ≡ (a || (b || c))
or_assoc true b c = refl
or_assoc false b c = refl

or_none : (a : Bool) → (a || false) ≡ a
or_none true = refl
or_none false = refl

or_comm : (a b : Bool) → (a || b) ≡ (b || a)
or_comm true true = refl
or_comm true false = refl
or_comm false true = refl
or_comm false false = refl

and_assoc : (a b c : Bool) → (a && b && c) ≡ (a && (b && c))
and_assoc true b c = refl
and_assoc false b c = refl

or_true : (a : Bool) → (a || true) ≡ true
or_true true = refl
or_true false = refl

-- a cell is marked where its `?aK` stands
module _ (kind num : ℕ → ℕ) where
  marked_one : (cells : List ℕ) (j x : ℕ) → x < length cells → (t : Bool) → eqb (get_or (cond t (set cells (num j) 1) cells) x 0) 1 ≡ (eqb (get_or cells x 0) 1 || (t && eqb (num j) x))
  marked_one cells j x l false = inv (or_none (eqb (get_or cells x 0) 1))
  marked_one cells j x l true = go (ℕ_discrete (num j) x)
    where
      go : Dec (num j ≡ x) → eqb (get_or (set cells (num j) 1) x 0) 1 ≡ (eqb (get_or cells x 0) 1 || eqb (num j) x)
      go (yes e) =
          ap (λ k. eqb (get_or (set cells k 1) x 0) 1) e ∙ ap (λ c. eqb c 1) (get_or-set_same cells x 1 0 l) ∙
          inv (ap (λ b. eqb (get_or cells x 0) 1 || b) (eq-eqb (num j) x e) ∙ or_true (eqb (get_or cells x 0) 1))
      go (no e) =
          ap (λ c. eqb c 1) (get_or-set_other cells (num j) x 1 0 (λ z. e (inv z))) ∙
          inv (ap (λ b. eqb (get_or cells x 0) 1 || b) (ne_eqb (num j) x e) ∙ or_none (eqb (get_or cells x 0) 1))

  length_marked : (t : Bool) (cells : List ℕ) (k : ℕ) → length (cond t (set cells k 1) cells) ≡ length cells
  length_marked true cells k = length-set cells k 1
  length_marked false cells k = refl

  pub marked_stands : (left j x : ℕ) (cells : List ℕ) → x < length cells → eqb (get_or (marked_from kind num left j cells) x 0) 1 ≡ (eqb (get_or cells x 0) 1 || stands_from kind num left j x)
  unfolding marked_from stands_from
  marked_stands zero j x cells l = inv (or_none (eqb (get_or cells x 0) 1))
  marked_stands (suc left) j x cells l =
      marked_stands left (j + 1) x (cond (eqb (kind j) 4) (set cells (num j) 1) cells) (omega (arith, length_marked (eqb (kind j) 4) cells (num j))) ∙
      ap (λ b. b || stands_from kind num left (j + 1) x) (marked_one cells j x l (eqb (kind j) 4)) ∙
      or_assoc (eqb (get_or cells x 0) 1) (eqb (kind j) 4 && eqb (num j) x) (stands_from kind num left (j + 1) x)

-- num gives the numbers of `?aK`, val those of numerals: a cell has no room for every numeral
module _ (tok mtok : ℕ → Token) (n m : ℕ) (tool : Tool) (num val : ℕ → ℕ) (numbers : (i : ℕ) → is_a avariable (tok i) ≡ true → num i ≡ (tok i).num)
    (few : (i : ℕ) → is_a avariable (tok i) ≡ true → (tok i).fit ≡ fits → (tok i).num < 1000) where
  datum_uses : {room i : ℕ} {c : SExp} {k : ℕ} → ExpAt tok n of_job room i c k → (datum_of tok mtok n m tool room i).uses ≡ coded (variables tool c)
  datum_uses {room} {i} (symbol_at b x) = leaf_uses tok mtok n m tool room i true b x.kind ∙ none_found tool
    where
      none_found : (t : Tool) → fine ≡ coded (variables t (sym_s (record { at = (tok i).at; num = (tok i).num })))
      none_found lister = refl
      none_found runner = refl
  datum_uses {room} {i} (at.ExpAt.e_at b x) = leaf_uses tok mtok n m tool room i false b (is_a_other evariable symbol (tok i) x.kind) ∙ variable_found tool (tok i).at _ refl
  datum_uses {room} {i} (at.ExpAt.a_at b x) = leaf_uses tok mtok n m tool room i false b (is_a_other avariable symbol (tok i) x.kind) ∙ variable_found tool (tok i).at _ refl
  datum_uses {room = suc room} {i} (cons_at {c = p} {d = q} o w c d e) =
      ap (λ w. w.uses) (datum_opened tok mtok n m tool room i _ _ o w e (datum_past tok mtok n m tool c) (datum_past tok mtok n m tool d)) ∙
      ap₂ first (datum_uses c) (datum_uses d) ∙ pair_found tool (tok i).at p q

  abbrev atomic_of : ℕ → Bool
  atomic_of i = check.atomic_at (keys tok n) (kinds tok n) i

  atomic_at_lem : {room i : ℕ} {c : SExp} {k : ℕ} → ExpAt tok n of_job room i c k → atomic_of i ≡ is_atomic (exp c)
  atomic_at_lem {room} {i} (symbol_at b x) = ap₂ (λ p q. not p && not q) b (is_a_other symbol evariable (tok i) x.kind)
  atomic_at_lem {room} {i} (at.ExpAt.e_at b x) = ap₂ (λ p q. not p && not q) b x.kind
  atomic_at_lem {room} {i} (at.ExpAt.a_at b x) = ap₂ (λ p q. not p && not q) b (is_a_other avariable evariable (tok i) x.kind)
  atomic_at_lem {room} {i} (cons_at o w c d e) = ap (λ p. not p && not (is_a evariable (tok i))) o.key

  offset_at : {room i : ℕ} {c : SExp} {k : ℕ} → ExpAt tok n of_job room i c k → (tok i).at ≡ at_of c
  offset_at (symbol_at b x) = refl
  offset_at (at.ExpAt.e_at b x) = refl
  offset_at (at.ExpAt.a_at b x) = refl
  offset_at (cons_at o w c d e) = refl

  -- the inputs against the parameters from p on
  input_uses : ℕ → SExp → bytes.Verdict
  input_uses p c = unless (not (is_a aname (mtok p)) || is_atomic (exp c)) 10 (at_of c) or_else variables tool c

  inputs_uses : ℕ → List SExp → bytes.Verdict
  unfolding input_uses
  inputs_uses p [] = none
  inputs_uses p (c ∷ cs) = input_uses p c or_else inputs_uses (ahead m 1 p) cs

  inputs_fit : ℕ → List SExp → Bool
  inputs_fit p [] = is "]" (mtok p)
  inputs_fit p (c ∷ cs) = not (is "]" (mtok p)) && inputs_fit (ahead m 1 p) cs

  abbrev input_of : ℕ → ℕ → Walked
  input_of p i = check.input_at (keys tok n) (kinds tok n) (ats tok n) n (is_runner tool) (keys mtok m) (kinds mtok m) m p i

  input_uses_lem : {i : ℕ} {c : SExp} {k : ℕ} (p : ℕ) → ExpAt tok n of_job 62 i c k → (input_of p i).uses ≡ coded (input_uses p c)
  unfolding input_uses check.input_at
  input_uses_lem {i} {c} p x = ap₂ first (ap₂ (λ b o. judge (not (is_a aname (mtok p)) || b) 10 o) (atomic_at_lem x) (offset_at x) ∙ inv (coded_judge (not (is_a aname (mtok p)) || is_atomic (exp c)) 10 (at_of c)))
      (datum_uses x) ∙ inv (coded_first (unless (not (is_a aname (mtok p)) || is_atomic (exp c)) 10 (at_of c)) (variables tool c))

  exps_bounds : {w : String} {room i : ℕ} {cs : List SExp} {k : ℕ} → ExpsAt tok n of_job w room i cs k → (i ≤ k) × (k < n)
  exps_bounds (at.ExpsAt.none_at x) = (omega arith, x.below)
  exps_bounds (at.ExpsAt.more_at b x xs) = let w = exps_bounds xs in let y = exp_least x in let z = w.0 in (omega arith, w.1)

  inputs_at_lem : {i : ℕ} {cs : List SExp} {k : ℕ} (f p : ℕ) (b : Bool) (v : Verdict) → ExpsAt tok n of_job ")" 62 i cs k → k - i < f →
      inputs_at (keys tok n) (kinds tok n) (ats tok n) n (is_runner tool) (keys mtok m) (kinds mtok m) m f p b v i ≡
      arguments k (b && inputs_fit p cs) (first v (coded (inputs_uses p cs)))
  unfolding inputs_at inputs_fit inputs_uses check.input_at
  inputs_at_lem zero p b v x l = let z : ⊥ = omega arith in absurd z
  inputs_at_lem {i} (suc f) p b v (at.ExpsAt.none_at x) l = rw (x.key, first_fine)
  inputs_at_lem {i} {k} (suc f) p b v (at.ExpsAt.more_at {j = j} {c = c} {cs = cs} w x xs) l =
      let y = exp_least x in let z = exps_bounds xs in let z0 = z.0 in let q : k - j < f = omega arith in
      rw (w, input_uses_lem p x, datum_past tok mtok n m tool x, inputs_at_lem f (ahead m 1 p) (b && not (is "]" (mtok p))) (first v (coded (input_uses p c))) xs q, and_assoc, first_assoc, coded_first (input_uses p c))

  fit_at : {p : ℕ} {xs : List SParam} {k : ℕ} (cs : List SExp) → ParamsAt mtok m p xs k → inputs_fit p cs ≡ eqb (length xs) (length cs)
  unfolding inputs_fit
  fit_at [] (at.ParamsAt.none_at x) = x.key
  fit_at (c ∷ cs) (at.ParamsAt.none_at x) = rw x.key (inv (eqb-zero-suc (length cs)))
  fit_at [] (at.ParamsAt.e_at {xs = ys} b x xs) = b ∙ inv (eqb-suc-zero (length ys))
  fit_at {p} (c ∷ cs) (at.ParamsAt.e_at {xs = ys} b x xs) = let y = x.below in rw (b, ahead_in m 1 p (omega arith)) (fit_at {p = p + 1} cs xs ∙ inv (eqb-suc-suc (length ys) (length cs)))
  fit_at [] (at.ParamsAt.a_at {xs = ys} b x xs) = b ∙ inv (eqb-suc-zero (length ys))
  fit_at {p} (c ∷ cs) (at.ParamsAt.a_at {xs = ys} b x xs) = let y = x.below in rw (b, ahead_in m 1 p (omega arith)) (fit_at {p = p + 1} cs xs ∙ inv (eqb-suc-suc (length ys) (length cs)))

  or_else_assoc : (u v w : bytes.Verdict) → ((u or_else v) or_else w) ≡ (u or_else v or_else w)
  or_else_assoc none v w = refl
  or_else_assoc (some r) v w = refl

  uses_at : {p : ℕ} {xs : List SParam} {k : ℕ} (cs : List SExp) → ParamsAt mtok m p xs k → length xs ≡ length cs → inputs_uses p cs ≡ kinds_verdict tool (params xs) cs
  unfolding inputs_uses input_uses
  uses_at [] (at.ParamsAt.none_at x) e = refl
  uses_at (c ∷ cs) (at.ParamsAt.none_at x) e = let z : ⊥ = omega arith in absurd z
  uses_at [] (at.ParamsAt.e_at b x xs) e = let z : ⊥ = omega arith in absurd z
  uses_at {p} (c ∷ cs) (at.ParamsAt.e_at b x xs) e =
      let y = x.below in rw (is_a_other ename aname (mtok p) x.kind, ahead_in m 1 p (omega arith)) (ap (λ v. variables tool c or_else v) (uses_at {p = p + 1} cs xs (omega arith)))
  uses_at [] (at.ParamsAt.a_at b x xs) e = let z : ⊥ = omega arith in absurd z
  uses_at {p} (c ∷ cs) (at.ParamsAt.a_at {xs = ys} b x xs) e =
      let y = x.below in rw (x.kind, ahead_in m 1 p (omega arith)) (or_else_assoc (unless (is_atomic (exp c)) 10 (at_of c)) (variables tool c) (inputs_uses (p + 1) cs) ∙
      ap (λ v. unless (is_atomic (exp c)) 10 (at_of c) or_else variables tool c or_else v) (uses_at {p = p + 1} cs xs (omega arith)))

  -- 10 whole
  inputs_end : (t : Bool) (o : ℕ) (u w : bytes.Verdict) → (t ≡ true → u ≡ w) → first (judge t 10 o) (coded u) ≡ coded (unless t 10 o or_else w)
  inputs_end true o u w h = ap coded (h refl)
  inputs_end false o u w h = refl

  -- where `?aK` stands
  abbrev stands_of : ℕ → ℕ → ℕ → Bool
  stands_of left j x = stands_from (kinds tok n) num left j x

  module _ (fixed : Fixed tok) where
    -- a fixed word is no `?aK`
    passed : (w : String) (i left x : ℕ) → WordAt tok n w i → key_of (txt w) < 18 → stands_of (suc left) i x ≡ stands_of left (i + 1) x
    unfolding stands_from
    passed w i left x y l =
        let e = eqb-true (tok i).key (key_of (txt w)) y.key in
        let h : (tok i).key < 18 = subst (λ (k : ℕ). k < 18) (inv e) l in
        rw (is_a_other plain avariable (tok i) (fixed i h))

    stands_exp : {room i : ℕ} {c : SExp} {k : ℕ} (rest x : ℕ) → ExpAt tok n of_job room i c k → stands_of ((k - i) + rest) i x ≡ (stands_in x (exp c) || stands_of rest k x)
    unfolding stands_from
    stands_exp {room} {i} rest x (symbol_at b y) = let e : i + 1 - i + rest ≡ suc rest = omega arith in rw (e, is_a_other symbol avariable (tok i) y.kind)
    stands_exp {room} {i} rest x (at.ExpAt.e_at b y) = let e : i + 1 - i + rest ≡ suc rest = omega arith in rw (e, is_a_other evariable avariable (tok i) y.kind)
    stands_exp {room} {i} rest x (at.ExpAt.a_at b y) = let e : i + 1 - i + rest ≡ suc rest = omega arith in rw (e, y.kind, numbers i y.kind)
    stands_exp {room = suc room} {i} rest x (cons_at {j = j} {k = k} {c = p} {d = q} o w c d e) =
        let a = exp_least c in let b = exp_least d in
        let f : k + 1 - i + rest ≡ suc (suc (j - (i + 2) + (k - j + suc rest))) = omega arith in
        rw (f, passed "(" i _ x o (omega arith), passed "cons" (i + 1) _ x w (omega arith), add_assoc i 1 1, stands_exp (k - j + suc rest) x c, stands_exp (suc rest) x d, passed ")" k rest x e (omega arith)) (inv (or_assoc (stands_in x (exp p)) (stands_in x (exp q)) (stands_of rest (k + 1) x)))

    stands_exps : {i : ℕ} {cs : List SExp} {k : ℕ} (rest x : ℕ) → ExpsAt tok n of_job ")" 62 i cs k → stands_of ((k - i) + rest) i x ≡ (stands_in_any x (exps cs) || stands_of rest k x)
    stands_exps {i} rest x (at.ExpsAt.none_at y) = let e : i - i + rest ≡ rest = omega arith in rw e
    stands_exps {i} {k} rest x (at.ExpsAt.more_at {j = j} {c = c} {cs = cs} b y ys) =
        let a = exp_least y in let z = exps_bounds ys in let z0 = z.0 in
        let f : k - i + rest ≡ j - i + (k - j + rest) = omega arith in
        rw (f, stands_exp (k - j + rest) x y, stands_exps rest x ys) (inv (or_assoc (stands_in x (exp c)) (stands_in_any x (exps cs)) (stands_of rest k x)))

    stands_none : (j x : ℕ) → stands_of 0 j x ≡ false
    unfolding stands_from
    stands_none j x = refl

    -- in the inputs and the output
    stands_at : {a b : ℕ} {ins : List SExp} {out : SExp} (x : ℕ) → ExpsAt tok n of_job ")" 62 4 ins a → WordAt tok n ")" a → WordAt tok n "(" (a + 1) → WordAt tok n "out" (a + 2) →
        ExpAt tok n of_job 62 (a + 3) out b → stands_of (b - 4) 4 x ≡ stands_in_any x (exp out ∷ exps ins)
    stands_at {a} {b} {ins} {out} x is c o w y =
        let z = exps_bounds is in let z0 = z.0 in let l = exp_least y in
        let f : b - 4 ≡ a - 4 + suc (suc (suc (b - (a + 3) + 0))) = omega arith in
        rw (
          f,
          stands_exps (suc (suc (suc (b - (a + 3) + 0)))) x is,
          passed ")" a _ x c (omega arith),
          passed "(" (a + 1) _ x o (omega arith),
          add_assoc a 1 1,
          passed "out" (a + 2) _ x w (omega arith),
          add_assoc a 2 1,
          stands_exp 0 x y,
          stands_none b x,
          or_none,
        ) (or_comm (stands_in_any x (exps ins)) (stands_in x (exp out)))

  -- the cells in which they are marked
  abbrev marked_to : ℕ → List ℕ
  marked_to end = marked_from (kinds tok n) num (end - 4) 4 (replicate 1000 0)

  marked_at : (end x : ℕ) → x < 1000 → eqb (get_or (marked_to end) x 0) 1 ≡ stands_of (end - 4) 4 x
  marked_at end x l =
      marked_stands (kinds tok n) num (end - 4) 4 x (replicate 1000 0) (omega (arith, length-replicate {A = ℕ} 1000 0)) ∙ ap (λ c. eqb c 1 || stands_of (end - 4) 4 x) (get_or-replicate 1000 x 0 0 l)

  abbrev side_of : ℕ → ℕ → Bool
  side_of end i = check.side_at (keys tok n) (kinds tok n) num (marked_to end) i

  module _ (cs : List Exp) (end : ℕ) (h : (x : ℕ) → stands_of (end - 4) 4 x ≡ stands_in_any x cs) where
    side_at_lem : {room i : ℕ} {c : SExp} {k : ℕ} → ExpAt tok n of_job room i c k → side_of end i ≡ side_fits cs (exp c)
    side_at_lem {room} {i} (symbol_at b x) = rw (atomic_at_lem (symbol_at {room = room} b x), x.kind)
    side_at_lem {room} {i} (at.ExpAt.e_at b x) = rw (atomic_at_lem (at.ExpAt.e_at {room = room} b x))
    side_at_lem {room} {i} (at.ExpAt.a_at b x) = rw (atomic_at_lem (at.ExpAt.a_at {room = room} b x), is_a_other avariable symbol (tok i) x.kind, numbers i x.kind, marked_at end (tok i).num (few i x.kind x.fit), h (tok i).num)
    side_at_lem {room} {i} (cons_at o w c d e) = rw (atomic_at_lem (cons_at o w c d e))

    sides_bounds : {i : ℕ} {qs : List (SExp × SExp)} {k : ℕ} → SidesAt tok n i qs k → (i ≤ k) × (k < n)
    sides_bounds (at.SidesAt.none_at x) = (omega arith, x.below)
    sides_bounds (at.SidesAt.more_at b o x y z qs) = let w = sides_bounds qs in let x0 = exp_least x in let y0 = exp_least y in let w0 = w.0 in (omega arith, w.1)

    sides_at_lem : {i : ℕ} {qs : List (SExp × SExp)} {k : ℕ} (f : ℕ) (v : Verdict) → SidesAt tok n i qs k → k - i < f →
        sides_at (keys tok n) (kinds tok n) num (ats tok n) n (is_runner tool) f (marked_to end) v i ≡ walked k fine fine (first v (coded (sides_verdict cs qs)))
    unfolding sides_at check.two_sides
    sides_at_lem zero v x l = let z : ⊥ = omega arith in absurd z
    sides_at_lem {i} (suc f) v (at.SidesAt.none_at x) l = rw (x.key, first_fine)
    sides_at_lem {i} {k = m'} (suc f) v (at.SidesAt.more_at {j = j} {k = k} {c = c} {d = d} {qs = rest} b o x y z qs) l =
        let x0 = exp_least x in let y0 = exp_least y in let o0 = o.below in let z0 = z.below in let w = sides_bounds qs in let w0 = w.0 in
        let q : m' - (k + 1) < f = omega arith in
        let p = unless (side_fits cs (exp c)) 11 (at_of c) in let r = unless (side_fits cs (exp d)) 11 (at_of d) in
        rw (
          b,
          ahead_in n 1 i (omega arith),
          datum_past tok mtok n m tool x,
          datum_past tok mtok n m tool y,
          ahead_in n 1 k (omega arith),
          side_at_lem x,
          side_at_lem y,
          offset_at x,
          offset_at y,
          ← (coded_judge (side_fits cs (exp c)) 11 (at_of c)),
          ← (coded_judge (side_fits cs (exp d)) 11 (at_of d)),
          ← (coded_first p r),
          sides_at_lem {i = k + 1} f (first v (coded (p or_else r))) qs q,
          first_assoc,
          ← (coded_first (p or_else r) (sides_verdict cs rest)),
          or_else_assoc p r,
        )

  tens : {p : ℕ} {xs : List SParam} {q : ℕ} (o : ℕ) (ins : List SExp) → ParamsAt mtok m p xs q →
      first (judge (inputs_fit p ins) 10 o) (coded (inputs_uses p ins)) ≡ coded (unless (eqb (length (params xs)) (length ins)) 10 o or_else kinds_verdict tool (params xs) ins)
  tens {p} {xs} o ins x =
      let e : inputs_fit p ins ≡ eqb (length (params xs)) (length ins) = fit_at ins x ∙ ap (λ l. eqb l (length ins)) (inv (length_params xs)) in
      rw e (inputs_end (eqb (length (params xs)) (length ins)) o (inputs_uses p ins) (kinds_verdict tool (params xs) ins)
      (λ t. uses_at ins x (inv (length_params xs) ∙ eqb-true (length (params xs)) (length ins) t)))

  bounds : (a b c : ℕ) → first (judge (leb (tok a).num 1000) 12 (tok a).at) (first (judge (leb (tok b).num 1000000) 12 (tok b).at) (judge (leb (tok c).num 256) 12 (tok c).at)) ≡
      coded (unless (leb (tok a).num 1000) 12 (tok a).at or_else unless (leb (tok b).num 1000000) 12 (tok b).at or_else unless (leb (tok c).num 256) 12 (tok c).at)
  bounds a b c = rw (coded_first (unless (leb (tok a).num 1000) 12 (tok a).at), coded_first (unless (leb (tok b).num 1000000) 12 (tok b).at), coded_judge (leb (tok a).num 1000), coded_judge (leb (tok b).num 1000000), coded_judge (leb (tok c).num 256))

  abbrev job_of : ℕ → Verdict
  job_of p = check.job_at (keys tok n) (kinds tok n) num (ats tok n) val n (keys mtok m) (kinds mtok m) m (is_runner tool) p

  closing : {i : ℕ} {cs : List SExp} {k : ℕ} → ExpsAt tok n of_job ")" 62 i cs k → WordAt tok n ")" k
  closing (at.ExpsAt.none_at x) = x
  closing (at.ExpsAt.more_at b x xs) = closing xs

  -- what the check by position finds is what the check of the job finds; main's parameters stand at p in the program
  pub job_checked : {p : ℕ} {xs : List SParam} {q : ℕ} (j : SJob) → Fixed tok → ((i : ℕ) → NameAt tok n plain i → val i ≡ (tok i).num) → ParamsAt mtok m p xs q → JobAt tok n j → job_of p ≡ coded (job_verdict tool (params xs) j)
  unfolding check.job_at check.tens_at check.elevens_at job_verdict
  job_checked {p} {xs} j fixed values x (job_at {a = a} {b = b} {c = c} {ins = ins} {out = out} {neqs = neqs} o1 o2 o3 o4 is o5 o6 y o7 o8 o9 qs steps walk table last) =
      let cs = exp out ∷ exps ins in
      let z0 = exps_bounds is in let z1 = z0.0 in let z2 = z0.1 in let y0 = exp_least y in let y1 = exp_most y in let w0 = last.below in let o90 = o9.below in let o60 = o6.below in
      let h : (u : ℕ) → stands_of (b - 4) 4 u ≡ stands_in_any u cs = λ u. stands_at fixed u is (closing is) o5 o6 y in
      let r = sides_bounds cs b h qs in let r0 = r.0 in let r1 = r.1 in
      let twelves : bytes.Verdict = unless (leb (tok (c + 3)).num 1000) 12 (tok (c + 3)).at or_else unless (leb (tok (c + 7)).num 1000000) 12 (tok (c + 7)).at or_else unless (leb (tok (c + 11)).num 256) 12 (tok (c + 11)).at in
      let l1 : a - 4 < n = omega arith in let l2 : c - (b + 3) < n = omega arith in
      rw (
        inputs_at_lem n p true fine is l1,
        ahead_in n 3 a (omega arith),
        datum_past tok mtok n m tool y,
        ahead_in n 3 b (omega arith),
        sides_at_lem cs b h n fine qs l2,
        ahead_in n 3 c (omega arith),
        ahead_in n 7 c (omega arith),
        ahead_in n 11 c (omega arith),
        values (c + 3) (simp add_assoc at steps.numeral),
        values (c + 7) (simp add_assoc at walk.numeral),
        values (c + 11) (simp add_assoc at table.numeral),
      )
      (ap₂ first (tens (tok 3).at ins x) (ap (first (coded (sides_verdict cs neqs))) (bounds (c + 3) (c + 7) (c + 11)) ∙ inv (coded_first (sides_verdict cs neqs) twelves)) ∙
      inv (coded_first (unless (eqb (length (params xs)) (length ins)) 10 (tok 3).at or_else kinds_verdict tool (params xs) ins) (sides_verdict cs neqs or_else twelves)))
