-- The names in reach by position: what a name more brings into reach; parameters; the table of definitions.
use Prim.Native.Nat.{ℕ, zero, suc, ◌+◌, ◌≤◌, ◌<◌}
use mathlib.Core.Path.{◌≡◌, refl, ap, ap₂, subst, ◌∙◌, sym as inv}
use mathlib.Core.Bool.{Bool, true, false, cond, ◌&&◌, ◌||◌}
use mathlib.Core.List.{List, [], ◌∷◌}
use native.Mathlib.Omega.{arith}
use native.Mathlib.Numerals.{add-one}
use lib.Dec.{eqb, eqb-zero-suc, eqb-suc-zero, eqb-suc-suc}
use lib.ListN.{length, set, length-set, length-replicate}
use lib.Seq.{get_or-set_same, get_or-set_other}
use borrow.Author.Tests.{eqb-true, lt-ltb}
use Rattle.language.specs.Bytes.{◌or_else◌}
use Rattle.language.specs.Tokens.{Kind, ename, aname, tag, Token}
use Rattle.language.specs.Reader.{is, is_a}
use Rattle.language.specs.Scope.{Scope, is_in, with_e, with_a, scope_of}
use Rattle.language.specs.Source.{SExp, SParam, params}
use Rattle.language.specs.ProgramCheck.{reach_e, reach_ea, reach_args}
use Rattle.syntax.specs.Twins.Standing.{WordAt, NameAt, ParamsAt, DefAt, define_at, HeadsAt}
use Rattle.syntax.specs.Twins.Standing as at
use Rattle.checker.specs.declared.check.Names.{Names}
use Rattle.checker.specs.Twins.CheckAt.{ahead, no_names, push, same_name, is_named, params_at, params_end}
use Rattle.syntax.proofs.CheckLaws.{ahead_in, is_a_other, keys, kinds, nums, Reach, args_fit, arg_uses, args_uses}

-- there is room for m names more
pub record Wide (sc : Names) (m : ℕ) : Type 0 where
  pub size : length sc.cells ≡ 144
  pub spare : sc.used + m ≤ 144

pub no_names_wide : Wide no_names 144
no_names_wide = record { size = length-replicate {A = ℕ} 144 0; spare = omega arith }

pub wide_less : (sc : Names) (k m : ℕ) → m ≤ k → Wide sc k → Wide sc m
wide_less sc k m l w = let s = w.spare in record { size = w.size; spare = omega arith }

pushed : (sc : Names) (x : ℕ) → sc.used < 144 → push sc x ≡ record { cells = set sc.cells sc.used x; used = sc.used + 1 }
pushed sc x l = rw (lt-ltb sc.used 144 l)

pub push_wide : (sc : Names) (x m : ℕ) → Wide sc (suc m) → Wide (push sc x) m
push_wide sc x m w =
    let s = w.spare in let l : sc.used < 144 = omega arith in let z = w.size in let q = length-set sc.cells sc.used x in
    subst (λ (n : Names). Wide n m) (inv (pushed sc x l)) (record { size = q ∙ z; spare = omega arith })

or_moves : (a b r : Bool) → (a || (b || r)) ≡ ((b || a) || r)
or_moves true true r = refl
or_moves true false r = refl
or_moves false true r = refl
or_moves false false r = refl

or_none : (a : Bool) → (a || false) ≡ a
or_none true = refl
or_none false = refl

module _ (tok : ℕ → Token) (n : ℕ) where
  abbrev named : List ℕ → ℕ → ℕ → Bool
  named cells u i = is_named (kinds tok n) (nums tok n) cells u i

  abbrev same : ℕ → ℕ → Bool
  same i j = same_name (kinds tok n) (nums tok n) i j

  abbrev pub reached : Names → ℕ → Bool
  reached sc i = named sc.cells sc.used i

  named_before : (cells : List ℕ) (u v x i : ℕ) → v ≤ u → named (set cells u x) v i ≡ named cells v i
  unfolding is_named
  named_before cells u zero x i l = refl
  named_before cells u (suc v) x i l =
      let a : v ≤ u = omega arith in
      rw (named_before cells u v x i a) (ap (λ y. same y i || named cells v i) (get_or-set_other cells u v x 0 (λ e. omega arith)))

  pub push_reached : (sc : Names) (x m i : ℕ) → Wide sc (suc m) → reached (push sc x) i ≡ (same x i || reached sc i)
  unfolding is_named
  push_reached sc x m i w =
      let s = w.spare in let z = w.size in let l : sc.used < 144 = omega arith in let k : sc.used < length sc.cells = omega arith in
      rw (pushed sc x l, add-one, get_or-set_same sc.cells sc.used x 0 k, named_before sc.cells sc.used sc.used x i (omega arith))

  pub same_kind : (k l : Kind) (i j : ℕ) → is_a k (tok i) ≡ true → is_a l (tok j) ≡ true → same i j ≡ (eqb (tag k) (tag l) && eqb (tok i).num (tok j).num)
  same_kind k l i j e f = rw (eqb-true (tag (tok i).kind) (tag k) e, eqb-true (tag (tok j).kind) (tag l) f)

  pub no_names_reach : Reach tok n no_names (scope_of [])
  unfolding is_named
  no_names_reach = record { evars = λ j e. refl; avars = λ j e. refl }

  pub push_e : (sc : Names) (s : Scope) (x m : ℕ) → Wide sc (suc m) → is_a ename (tok x) ≡ true → Reach tok n sc s → Reach tok n (push sc x) (with_e (tok x).num s)
  push_e sc s x m w e r = record {
    evars = λ j f. push_reached sc x m j w ∙ ap₂ ◌||◌ (same_kind ename ename x j e f) (r.evars j f);
    avars = λ j f. push_reached sc x m j w ∙ ap₂ ◌||◌ (same_kind ename aname x j e f) (r.avars j f);
  }

  pub push_a : (sc : Names) (s : Scope) (x m : ℕ) → Wide sc (suc m) → is_a aname (tok x) ≡ true → Reach tok n sc s → Reach tok n (push sc x) (with_a (tok x).num s)
  push_a sc s x m w e r = record {
    evars = λ j f. push_reached sc x m j w ∙ ap₂ ◌||◌ (same_kind aname ename x j e f) (r.evars j f);
    avars = λ j f. push_reached sc x m j w ∙ ap₂ ◌||◌ (same_kind aname aname x j e f) (r.avars j f);
  }

  -- the parameters' bracket, and what they bring into reach
  abbrev end_of : ℕ → ℕ → ℕ
  end_of room i = params_end (keys tok n) n room i

  abbrev names_of : ℕ → Names → ℕ → Names
  names_of room sc i = params_at (keys tok n) n room sc i

  pub params_end_lem : {i : ℕ} {xs : List SParam} {k : ℕ} (room : ℕ) → ParamsAt tok n i xs k → length xs ≤ room → end_of room i ≡ k
  unfolding params_end
  params_end_lem zero (at.ParamsAt.none_at x) l = refl
  params_end_lem (suc room) (at.ParamsAt.none_at x) l = rw x.key
  params_end_lem zero (at.ParamsAt.e_at b x xs) l = let z : ⊥ = omega arith in absurd z
  params_end_lem {i} (suc room) (at.ParamsAt.e_at b x xs) l = let y = x.below in rw (b, ahead_in n 1 i (omega arith)) (params_end_lem {i = i + 1} room xs (omega arith))
  params_end_lem zero (at.ParamsAt.a_at b x xs) l = let z : ⊥ = omega arith in absurd z
  params_end_lem {i} (suc room) (at.ParamsAt.a_at b x xs) l = let y = x.below in rw (b, ahead_in n 1 i (omega arith)) (params_end_lem {i = i + 1} room xs (omega arith))

  either_wide : (sc td : Names) (m : ℕ) (b : Bool) → Wide sc m → Wide td m → Wide (cond b sc td) m
  either_wide sc td m true v w = v
  either_wide sc td m false v w = w

  pub params_wide : (room : ℕ) (sc : Names) (i m : ℕ) → Wide sc (room + m) → Wide (names_of room sc i) m
  unfolding params_at
  params_wide zero sc i m w = wide_less sc (zero + m) m (omega arith) w
  params_wide (suc room) sc i m w =
      let v = wide_less sc (suc room + m) (suc (room + m)) (omega arith) w in
      either_wide sc (names_of room (push sc i) (ahead n 1 i)) m (is "]" (tok i)) (wide_less sc (suc room + m) m (omega arith) w)
      (params_wide room (push sc i) (ahead n 1 i) m (push_wide sc i (room + m) v))

  -- td has in reach what is in s, and what sc has
  record Also (sc td : Names) (s : Scope) : Type 0 where
    evars : (j : ℕ) → is_a ename (tok j) ≡ true → reached td j ≡ (is_in (tok j).num s.evars || reached sc j)
    avars : (j : ℕ) → is_a aname (tok j) ≡ true → reached td j ≡ (is_in (tok j).num s.avars || reached sc j)

  also_e : (sc td : Names) (s : Scope) (x m : ℕ) → Wide sc (suc m) → is_a ename (tok x) ≡ true → Also (push sc x) td s → Also sc td (with_e (tok x).num s)
  also_e sc td s x m w e r = record {
    evars = λ j f. r.evars j f ∙ ap (λ (b : Bool). is_in (tok j).num s.evars || b) (push_reached sc x m j w ∙ ap (λ (b : Bool). b || reached sc j) (same_kind ename ename x j e f))
        ∙ or_moves (is_in (tok j).num s.evars) (eqb (tok x).num (tok j).num) (reached sc j);
    avars = λ j f. r.avars j f ∙ ap (λ (b : Bool). is_in (tok j).num s.avars || b) (push_reached sc x m j w ∙ ap (λ (b : Bool). b || reached sc j) (same_kind ename aname x j e f));
  }

  also_a : (sc td : Names) (s : Scope) (x m : ℕ) → Wide sc (suc m) → is_a aname (tok x) ≡ true → Also (push sc x) td s → Also sc td (with_a (tok x).num s)
  also_a sc td s x m w e r = record {
    evars = λ j f. r.evars j f ∙ ap (λ (b : Bool). is_in (tok j).num s.evars || b) (push_reached sc x m j w ∙ ap (λ (b : Bool). b || reached sc j) (same_kind aname ename x j e f));
    avars = λ j f. r.avars j f ∙ ap (λ (b : Bool). is_in (tok j).num s.avars || b) (push_reached sc x m j w ∙ ap (λ (b : Bool). b || reached sc j) (same_kind aname aname x j e f))
        ∙ or_moves (is_in (tok j).num s.avars) (eqb (tok x).num (tok j).num) (reached sc j);
  }

  params_also : {i : ℕ} {xs : List SParam} {k : ℕ} (room : ℕ) (sc : Names) → ParamsAt tok n i xs k → length xs ≤ room → Wide sc room → Also sc (names_of room sc i) (scope_of (params xs))
  unfolding params_at
  params_also zero sc (at.ParamsAt.none_at x) l w = record { evars = λ j e. refl; avars = λ j e. refl }
  params_also (suc room) sc (at.ParamsAt.none_at x) l w = rw x.key (record { evars = λ j e. refl; avars = λ j e. refl })
  params_also zero sc (at.ParamsAt.e_at b x xs) l w = let z : ⊥ = omega arith in absurd z
  params_also {i} (suc room) sc (at.ParamsAt.e_at {xs = ys} b x xs) l w =
      let y = x.below in
      rw (b, ahead_in n 1 i (omega arith)) (also_e sc (names_of room (push sc i) (i + 1)) (scope_of (params ys)) i room w x.kind (params_also {i = i + 1} room (push sc i) xs (omega arith) (push_wide sc i room w)))
  params_also zero sc (at.ParamsAt.a_at b x xs) l w = let z : ⊥ = omega arith in absurd z
  params_also {i} (suc room) sc (at.ParamsAt.a_at {xs = ys} b x xs) l w =
      let y = x.below in
      rw (b, ahead_in n 1 i (omega arith)) (also_a sc (names_of room (push sc i) (i + 1)) (scope_of (params ys)) i room w x.kind (params_also {i = i + 1} room (push sc i) xs (omega arith) (push_wide sc i room w)))

  pub params_reach : {i : ℕ} {xs : List SParam} {k : ℕ} (room : ℕ) → ParamsAt tok n i xs k → length xs ≤ room → room ≤ 144 → Reach tok n (names_of room no_names i) (scope_of (params xs))
  unfolding is_named
  params_reach {xs = xs} room p l m =
      let r = params_also room no_names p l (wide_less no_names 144 room m no_names_wide) in record {
        evars = λ j e. r.evars j e ∙ or_none (is_in (tok j).num (scope_of (params xs)).evars);
        avars = λ j e. r.avars j e ∙ or_none (is_in (tok j).num (scope_of (params xs)).avars);
      }

  -- as many arguments as parameters, and what the parameters ask of them
  pub fit_at : {p : ℕ} {xs : List SParam} {k : ℕ} (cs : List SExp) → ParamsAt tok n p xs k → args_fit tok n p cs ≡ eqb (length xs) (length cs)
  unfolding args_fit
  fit_at [] (at.ParamsAt.none_at x) = x.key
  fit_at (c ∷ cs) (at.ParamsAt.none_at x) = rw x.key (inv (eqb-zero-suc (length cs)))
  fit_at [] (at.ParamsAt.e_at {xs = ys} b x xs) = b ∙ inv (eqb-suc-zero (length ys))
  fit_at {p} (c ∷ cs) (at.ParamsAt.e_at {xs = ys} b x xs) = let y = x.below in rw (b, ahead_in n 1 p (omega arith)) (fit_at {p = p + 1} cs xs ∙ inv (eqb-suc-suc (length ys) (length cs)))
  fit_at [] (at.ParamsAt.a_at {xs = ys} b x xs) = b ∙ inv (eqb-suc-zero (length ys))
  fit_at {p} (c ∷ cs) (at.ParamsAt.a_at {xs = ys} b x xs) = let y = x.below in rw (b, ahead_in n 1 p (omega arith)) (fit_at {p = p + 1} cs xs ∙ inv (eqb-suc-suc (length ys) (length cs)))

  pub uses_at : {p : ℕ} {xs : List SParam} {k : ℕ} (s : Scope) (cs : List SExp) → ParamsAt tok n p xs k → length xs ≡ length cs → args_uses tok n s p cs ≡ reach_args s (params xs) cs
  unfolding args_uses arg_uses
  uses_at s [] (at.ParamsAt.none_at x) e = refl
  uses_at s (c ∷ cs) (at.ParamsAt.none_at x) e = let z : ⊥ = omega arith in absurd z
  uses_at s [] (at.ParamsAt.e_at b x xs) e = let z : ⊥ = omega arith in absurd z
  uses_at {p} s (c ∷ cs) (at.ParamsAt.e_at b x xs) e =
      let y = x.below in rw (is_a_other ename aname (tok p) x.kind, ahead_in n 1 p (omega arith)) (ap (λ v. reach_e s c or_else v) (uses_at {p = p + 1} s cs xs (omega arith)))
  uses_at s [] (at.ParamsAt.a_at b x xs) e = let z : ⊥ = omega arith in absurd z
  uses_at {p} s (c ∷ cs) (at.ParamsAt.a_at b x xs) e =
      let y = x.below in rw (x.kind, ahead_in n 1 p (omega arith)) (ap (λ v. reach_ea s c or_else v) (uses_at {p = p + 1} s cs xs (omega arith)))
