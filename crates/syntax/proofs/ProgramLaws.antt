-- The check by position on definitions and on a program: `program_checked`.
use Prim.Native.Nat.{ℕ, zero, suc, ◌+◌, ◌≤◌, ◌<◌}
use mathlib.Core.Path.{◌≡◌, refl, ap, ap₂, ◌∙◌, sym as inv}
use mathlib.Core.Bool.{Bool, true, false, cond, ◌&&◌, ◌||◌, not}
use mathlib.Core.List.{List, [], ◌∷◌, ◌++◌, append_assoc, append-nil}
use mathlib.Core.Option.{none, some}
use native.Mathlib.Omega.{arith}
use native.Mathlib.Nat.{add_assoc}
use lib.Dec.{eqb, leb, leb-suc-zero, leb-suc-suc}
use lib.ListN.{length, get_or, set, length-set, length-replicate, length-append}
use lib.Seq.{get_or-set_same, get_or-set_other}
use borrow.Author.Tests.{lt-ltb}
use Rattle.language.specs.Bytes.{unless, ◌or_else◌}
use Rattle.language.specs.Bytes as bytes
use Rattle.language.specs.Tokens.{ename, aname, Token}
use Rattle.language.specs.Reader.{is, is_a}
use Rattle.language.specs.Program.{Param, pe, pa}
use Rattle.language.specs.Scope.{Scope, is_in, scope_of}
use Rattle.language.specs.WellFormed.{has_param}
use Rattle.language.specs.Source.{SParam, SDef, SProg, params, place_of, functions, prog_of, defs, SCondition, STerm}
use Rattle.language.specs.ProgramCheck.{term_twice, defs_twice, term_rebound, defs_rebound, term_verdict, defs_verdict, program_verdict}
use Rattle.language.specs.ProgramCheck as meaning
use Rattle.syntax.specs.Twins.Standing.{WordAt, NameAt, ConditionAt, eqa_at, consp_at, TermAt, call_at, if_at, result_at, ParamsAt, DefAt, define_at, DefsAt, HeadsAt, DefsFrom, ProgramAt}
use Rattle.syntax.specs.Twins.Standing as at
use Rattle.verdicts.specs.Twins.Found.{Verdict, fine}
use Rattle.refusals.specs.Faults.{fault}
use Rattle.checker.specs.declared.check.Names.{Names}
use Rattle.checker.specs.declared.check.Defs.{Defs}
use Rattle.checker.specs.declared.check.Bodies.{Bodies}
use Rattle.verdicts.specs.declared.found.Walked.{Walked}
use Rattle.checker.specs.Twins.CheckAt as check
use Rattle.checker.specs.Twins.CheckAt.{first, judge, ahead, no_names, push, params_twice, defs_at, bodies_at, program_at}
use Rattle.syntax.proofs.CheckLaws.{coded, coded_first, coded_judge, first_fine, first_assoc, ahead_in, is_other_lem, keys, kinds, nums, ats, exp_least, exp_most, exps_bounds}
use Rattle.syntax.proofs.NameLaws.{Wide, wide_less, no_names_wide, push_wide, reached, push_reached, same_kind, no_names_reach, params_end_lem, params_wide, params_reach}
use Rattle.syntax.proofs.TermLaws.{place_at_lem, term_at_lem}

module _ (tok : ℕ → Token) (n : ℕ) where
  -- the names pushed are those of the earlier parameters
  record Earlier (sc : Names) (ps : List Param) : Type 0 where
    evars : (j : ℕ) → is_a ename (tok j) ≡ true → reached tok n sc j ≡ has_param (pe (tok j).num) ps
    avars : (j : ℕ) → is_a aname (tok j) ≡ true → reached tok n sc j ≡ has_param (pa (tok j).num) ps

  e_earlier : (sc : Names) (ps : List Param) (x m : ℕ) → Wide sc (suc m) → is_a ename (tok x) ≡ true → Earlier sc ps → Earlier (push sc x) (pe (tok x).num ∷ ps)
  e_earlier sc ps x m w e r = record {
    evars = λ j f. push_reached tok n sc x m j w ∙ ap₂ ◌||◌ (same_kind tok n ename ename x j e f) (r.evars j f);
    avars = λ j f. push_reached tok n sc x m j w ∙ ap₂ ◌||◌ (same_kind tok n ename aname x j e f) (r.avars j f);
  }

  a_earlier : (sc : Names) (ps : List Param) (x m : ℕ) → Wide sc (suc m) → is_a aname (tok x) ≡ true → Earlier sc ps → Earlier (push sc x) (pa (tok x).num ∷ ps)
  a_earlier sc ps x m w e r = record {
    evars = λ j f. push_reached tok n sc x m j w ∙ ap₂ ◌||◌ (same_kind tok n aname ename x j e f) (r.evars j f);
    avars = λ j f. push_reached tok n sc x m j w ∙ ap₂ ◌||◌ (same_kind tok n aname aname x j e f) (r.avars j f);
  }

  no_earlier : Earlier no_names []
  unfolding check.is_named
  no_earlier = record { evars = λ j e. refl; avars = λ j e. refl }

  abbrev twice : ℕ → Names → ℕ → Verdict
  twice room sc i = params_twice (keys tok n) (kinds tok n) (nums tok n) (ats tok n) n room sc i

  -- one parameter, and then the rest
  twice_step : (b : Bool) (o : ℕ) (u : Verdict) (v : bytes.Verdict) → u ≡ coded v → cond b (fault 6 o) u ≡ coded (unless (not b) 6 o or_else v)
  twice_step true o u v e = refl
  twice_step false o u v e = e

  twice_at : {i : ℕ} {xs : List SParam} {k : ℕ} (room : ℕ) (sc : Names) (ps : List Param) → Earlier sc ps → Wide sc room → ParamsAt tok n i xs k → length xs ≤ room → twice room sc i ≡ coded (meaning.params_twice ps xs)
  unfolding params_twice
  twice_at zero sc ps r w (at.ParamsAt.none_at x) l = refl
  twice_at (suc room) sc ps r w (at.ParamsAt.none_at x) l = rw x.key
  twice_at zero sc ps r w (at.ParamsAt.e_at b x xs) l = let z : ⊥ = omega arith in absurd z
  twice_at {i} (suc room) sc ps r w (at.ParamsAt.e_at {xs = ys} b x xs) l =
      let y = x.below in
      rw (b, ahead_in n 1 i (omega arith), r.evars i x.kind) (twice_step (has_param (pe (tok i).num) ps) (tok i).at _ (meaning.params_twice (pe (tok i).num ∷ ps) ys)
      (twice_at {i = i + 1} room (push sc i) (pe (tok i).num ∷ ps) (e_earlier sc ps i room w x.kind r) (push_wide sc i room w) xs (omega arith)))
  twice_at zero sc ps r w (at.ParamsAt.a_at b x xs) l = let z : ⊥ = omega arith in absurd z
  twice_at {i} (suc room) sc ps r w (at.ParamsAt.a_at {xs = ys} b x xs) l =
      let y = x.below in
      rw (b, ahead_in n 1 i (omega arith), r.avars i x.kind) (twice_step (has_param (pa (tok i).num) ps) (tok i).at _ (meaning.params_twice (pa (tok i).num ∷ ps) ys)
      (twice_at {i = i + 1} room (push sc i) (pa (tok i).num ∷ ps) (a_earlier sc ps i room w x.kind r) (push_wide sc i room w) xs (omega arith)))

-- no function of these definitions has the name x
unknown : ℕ → List SDef → Bool
unknown x ds = leb (length ds) (place_of x (functions ds))

unknown_more : (x : ℕ) (ds : List SDef) (d : SDef) → unknown x (ds ++ (d ∷ [])) ≡ (not (eqb d.name.num x) && unknown x ds)
unfolding unknown
unknown_more x [] d = go (eqb d.name.num x)
  where
    go : (b : Bool) → leb 1 (cond b 0 1) ≡ (not b && leb 0 0)
    go true = refl
    go false = refl
unknown_more x (e ∷ ds) d = go (eqb e.name.num x) (unknown_more x ds d)
  where
    none_is : (b : Bool) → (not b && false) ≡ false
    none_is true = refl
    none_is false = refl

    go : (b : Bool) → leb (length (ds ++ (d ∷ []))) (place_of x (functions (ds ++ (d ∷ [])))) ≡ (not (eqb d.name.num x) && leb (length ds) (place_of x (functions ds))) →
        leb (suc (length (ds ++ (d ∷ [])))) (cond b 0 (suc (place_of x (functions (ds ++ (d ∷ [])))))) ≡ (not (eqb d.name.num x) && leb (suc (length ds)) (cond b 0 (suc (place_of x (functions ds)))))
    go true h = rw (leb-suc-zero (length (ds ++ (d ∷ []))), leb-suc-zero (length ds)) (inv (none_is (eqb d.name.num x)))
    go false h = rw (leb-suc-suc (length (ds ++ (d ∷ []))), leb-suc-suc (length ds)) h

module _ (tok : ℕ → Token) (n : ℕ) where
  -- one head more, at u
  heads_more : {heads : List ℕ} {j i k u : ℕ} {ds : List SDef} {d : SDef} → HeadsAt tok n heads j ds → DefAt tok n i d k → j + length ds ≡ u → u < length heads →
      HeadsAt tok n (set heads u (i + 2)) j (ds ++ (d ∷ []))
  heads_more {heads} {j} {i} {k} {u} at.HeadsAt.none_at x e l =
      let z : j ≡ u = omega arith in
      at.HeadsAt.more_at x (ap (λ m. get_or (set heads u (i + 2)) m 0) z ∙ get_or-set_same heads u (i + 2) 0 l) at.HeadsAt.none_at
  heads_more {heads} {j} {i} {k} {u} (at.HeadsAt.more_at {ds = es} y f hs) x e l =
      at.HeadsAt.more_at y (get_or-set_other heads u j (i + 2) 0 (λ q. omega arith) ∙ f) (heads_more hs x (omega arith) l)

  order_more : {heads : List ℕ} {j a i k u : ℕ} {ds : List SDef} {d : SDef} → DefsFrom tok n heads j a ds i → DefAt tok n i d k → i < k → j + length ds ≡ u → u < length heads →
      DefsFrom tok n (set heads u (i + 2)) j a (ds ++ (d ∷ [])) k
  order_more {heads} {j} {a} {i} {k} {u} (at.DefsFrom.none_from q) x m e l =
      let z : j ≡ u = omega arith in
      at.DefsFrom.more_from q x (ap (λ m. get_or (set heads u (i + 2)) m 0) z ∙ get_or-set_same heads u (i + 2) 0 l) (at.DefsFrom.none_from {a = k} {b = k} (omega arith))
  order_more {heads} {j} {a} {i} {k} {u} (at.DefsFrom.more_from q y f hs) x m e l =
      at.DefsFrom.more_from q y (get_or-set_other heads u j (i + 2) 0 (λ q. omega arith) ∙ f) (order_more hs x m (omega arith) l)

  -- the definitions so far stand in the table, and `before` are their names
  record Built (a : Defs) (ds : List SDef) (before : List ℕ) : Type 0 where
    heads : HeadsAt tok n a.heads 0 ds
    order : DefsFrom tok n a.heads 0 0 ds a.past
    count : a.count ≡ length ds
    size : length a.heads ≡ 64
    known : (x : ℕ) → is_in x before ≡ not (unknown x ds)

  abbrev step : Defs → Defs
  step a = check.def_at (keys tok n) (kinds tok n) (nums tok n) (ats tok n) n a

  not_not : (b : Bool) → not (not b) ≡ b
  not_not true = refl
  not_not false = refl

  or_not : (a b : Bool) → (a || not b) ≡ not (not a && b)
  or_not true b = refl
  or_not false b = refl

  known_more : (x : ℕ) (before : List ℕ) (ds : List SDef) (d : SDef) → is_in x before ≡ not (unknown x ds) → is_in x (d.name.num ∷ before) ≡ not (unknown x (ds ++ (d ∷ [])))
  known_more x before ds d e = rw (unknown_more x ds d, e) (or_not (eqb d.name.num x) (unknown x ds))

  params_most : {i : ℕ} {xs : List SParam} {k : ℕ} → ParamsAt tok n i xs k → k < n
  params_most (at.ParamsAt.none_at x) = x.below
  params_most (at.ParamsAt.e_at b x xs) = params_most xs
  params_most (at.ParamsAt.a_at b x xs) = params_most xs

  params_least : {i : ℕ} {xs : List SParam} {k : ℕ} → ParamsAt tok n i xs k → i ≤ k
  params_least (at.ParamsAt.none_at x) = omega arith
  params_least (at.ParamsAt.e_at b x xs) = let y = params_least xs in omega arith
  params_least (at.ParamsAt.a_at b x xs) = let y = params_least xs in omega arith

  condition_least : {room i : ℕ} {q : SCondition} {k : ℕ} → ConditionAt tok n room i q k → i < k
  condition_least (eqa_at o w c d e) = let x = exp_least c in let y = exp_least d in omega arith
  condition_least (consp_at o w c h t x e) = let y = exp_least c in omega arith

  pub term_bounds : {room i : ℕ} {t : STerm} {k : ℕ} → TermAt tok n room i t k → (i < k) × (k ≤ n)
  term_bounds (call_at o w f b x c) = let y = exps_bounds tok n x in let z = y.0 in let l = c.below in (omega arith, omega arith)
  term_bounds (if_at o w q s u c) = let x = condition_least q in let y = (term_bounds s).0 in let z = (term_bounds u).0 in let l = c.below in (omega arith, omega arith)
  term_bounds (result_at x) = (exp_least x, exp_most x)

  def_least : {i : ℕ} {d : SDef} {k : ℕ} → DefAt tok n i d k → i < k
  def_least (define_at o w f q p m s c) = let x = params_least p in let y = (term_bounds s).0 in omega arith

  -- what the step comes to
  abbrev made : Defs → ℕ → ℕ → Verdict → Defs
  made a h k v = record { heads = set a.heads a.count h; count = a.count + 1; past = k; names = first a.names v }

  step_is : (a : Defs) {ds : List SDef} {before : List ℕ} {d : SDef} {k : ℕ} → Built a ds before → length ds < 64 → DefAt tok n a.past d k →
      step a ≡ made a (a.past + 2) k (coded (unless (not (is_in d.name.num before)) 6 d.name.at or_else meaning.params_twice [] d.params or_else term_twice d.body))
  unfolding unknown
  step_is a {ds} {before} b l (define_at {i = i} {j = j} {k = k} {xs = xs} {t = t} o w f q p m s c) =
      let c0 = b.count in let l0 : a.count < 64 = omega arith in let q0 = q.below in let k0 = c.below in let j0 = params_most p in
      let z : 0 + place_of (tok (i + 2)).num (functions ds) ≡ place_of (tok (i + 2)).num (functions ds) = omega arith in
      let g = ap (λ u. check.place_at (nums tok n) a.heads u 0 (tok (i + 2)).num) c0 ∙ place_at_lem tok n (tok (i + 2)).num b.heads ∙ z in
      rw (
        lt-ltb a.count 64 l0,
        ahead_in n 2 i (omega arith),
        ahead_in n 4 i (omega arith),
        params_end_lem tok n 16 p m,
        ahead_in n 1 j (omega arith),
        term_at_lem tok n {heads = a.heads} {ds = []} at.HeadsAt.none_at no_names (scope_of []) (wide_less no_names 144 126 (omega arith) no_names_wide) (no_names_reach tok n) s,
        ahead_in n 1 k (omega arith),
        twice_at tok n 16 no_names [] (no_earlier tok n) (wide_less no_names 144 16 (omega arith) no_names_wide) p m,
        g,
        c0,
        coded_first (unless (not (is_in (tok (i + 2)).num before)) 6 (tok (i + 2)).at),
        coded_judge,
        coded_first (meaning.params_twice [] xs),
        b.known (tok (i + 2)).num,
        not_not,
      )

  step_built : (a : Defs) {ds : List SDef} {before : List ℕ} {d : SDef} {k : ℕ} (v : Verdict) → Built a ds before → length ds < 64 → DefAt tok n a.past d k →
      Built (made a (a.past + 2) k v) (ds ++ (d ∷ [])) (d.name.num ∷ before)
  step_built a {ds} {before} {d} v b l x =
      let c0 = b.count in let z0 = b.size in let c1 = length-append ds (d ∷ []) in
      let e : 0 + length ds ≡ a.count = omega arith in
      record {
        heads = heads_more b.heads x e (omega arith);
        order = order_more b.order x (def_least x) e (omega arith);
        count = omega arith;
        size = length-set a.heads a.count (a.past + 2) ∙ z0;
        known = λ x. known_more x before ds d (b.known x);
      }

  -- all definitions: the table holds them, and 6 is found as in what was read
  pub record All (a : Defs) (ds : List SDef) (v : Verdict) : Type 0 where
    pub heads : HeadsAt tok n a.heads 0 ds
    pub order : DefsFrom tok n a.heads 0 0 ds a.past
    pub count : a.count ≡ length ds
    pub names : a.names ≡ v

  abbrev pub defs_of : ℕ → Defs → Defs
  defs_of left a = defs_at (keys tok n) (kinds tok n) (nums tok n) (ats tok n) n left a

  or_else_assoc : (u v w : bytes.Verdict) → ((u or_else v) or_else w) ≡ (u or_else v or_else w)
  or_else_assoc none v w = refl
  or_else_assoc (some r) v w = refl

  all_so : (a : Defs) (ds es : List SDef) (v w : Verdict) → ds ≡ es → v ≡ w → All a ds v → All a es w
  all_so a ds es v w p q x = rw (← p, ← q) x

  defs_at_lem : {k : ℕ} {es : List SDef} (left : ℕ) (a : Defs) (ds : List SDef) (before : List ℕ) → DefsAt tok n a.past es k → Built a ds before → length es ≤ left → length ds + length es ≤ 64 →
      All (defs_of left a) (ds ++ es) (first a.names (coded (defs_twice before es)))
  unfolding defs_at
  defs_at_lem zero a ds before (at.DefsAt.none_at x) b l m = rw (append-nil, first_fine) (record { heads = b.heads; order = b.order; count = b.count; names = refl })
  defs_at_lem (suc left) a ds before (at.DefsAt.none_at x) b l m = rw (x.key, append-nil, first_fine) (record { heads = b.heads; order = b.order; count = b.count; names = refl })
  defs_at_lem zero a ds before (at.DefsAt.more_at y x xs) b l m = let z : ⊥ = omega arith in absurd z
  defs_at_lem (suc left) a ds before (at.DefsAt.more_at {j = j} {d = d} {ds = es} y x xs) b l m =
      let u = unless (not (is_in d.name.num before)) 6 d.name.at in
      let c1 = length-append ds (d ∷ []) in
      let m0 : length ds < 64 = omega arith in let m1 : length (ds ++ (d ∷ [])) + length es ≤ 64 = omega arith in let l1 : length es ≤ left = omega arith in
      let v = u or_else meaning.params_twice [] d.params or_else term_twice d.body in
      let h = defs_at_lem left (made a (a.past + 2) j (coded v)) (ds ++ (d ∷ [])) (d.name.num ∷ before) xs (step_built a (coded v) b m0 x) l1 m1 in
      let r = defs_twice (d.name.num ∷ before) es in
      rw (y, step_is a b m0 x) (all_so _ _ _ _ _ (append_assoc ds (d ∷ []) es)
      (first_assoc a.names (coded v) (coded r) ∙ ap (first a.names) (inv (coded_first v r) ∙
      ap coded (or_else_assoc u (meaning.params_twice [] d.params or_else term_twice d.body) r ∙ ap (λ q. u or_else q) (or_else_assoc (meaning.params_twice [] d.params) (term_twice d.body) r)))) h)

  -- 13 and 7, 8, 9 in the bodies
  module _ {heads : List ℕ} {ds : List SDef} (hs : HeadsAt tok n heads 0 ds) where
    abbrev term_of : Names → ℕ → Walked
    term_of sc i = check.term_at (keys tok n) (kinds tok n) (nums tok n) (ats tok n) n heads (length ds) 63 sc i

    abbrev params_of : ℕ → Names
    params_of p = check.params_at (keys tok n) n 16 no_names p

    abbrev end_of : ℕ → ℕ
    end_of p = check.params_end (keys tok n) n 16 p

    abbrev meant : List SDef → bytes.Verdict
    meant es = defs_verdict (prog_of (functions ds) ds) (functions ds) es

    abbrev body_of : ℕ → Walked
    body_of h = check.body_at (keys tok n) (kinds tok n) (nums tok n) (ats tok n) n heads (length ds) h

    abbrev bodies_of : ℕ → ℕ → Verdict → Verdict → Bodies
    bodies_of left j v w = bodies_at (keys tok n) (kinds tok n) (nums tok n) (ats tok n) n heads (length ds) left j v w

    abbrev scope : SDef → Scope
    scope d = scope_of (params d.params)

    abbrev meant_by : SDef → bytes.Verdict
    meant_by d = term_verdict (prog_of (functions ds) ds) (functions ds) (scope d) d.body

    body_at_lem : {i k : ℕ} {d : SDef} → DefAt tok n i d k →
        ((body_of (i + 2)).rebound ≡ coded (term_rebound (scope d) d.body)) × ((body_of (i + 2)).uses ≡ coded (meant_by d))
    body_at_lem (define_at {i = i} {j = j} {xs = xs} o w f q p m s c) =
        let q0 = q.below in let j0 = params_most p in
        let a : ahead n 2 (i + 2) ≡ i + 4 = ahead_in n 2 (i + 2) (omega arith) ∙ add_assoc i 2 2 in
        let e =
        ap (λ p. term_of (params_of p) (ahead n 1 (end_of p))) a ∙
        ap (λ e. term_of (params_of (i + 4)) (ahead n 1 e)) (params_end_lem tok n 16 p m) ∙
        ap (λ b. term_of (params_of (i + 4)) b) (ahead_in n 1 j (omega arith)) ∙
        term_at_lem tok n hs (params_of (i + 4)) (scope_of (params xs)) (params_wide tok n 16 no_names (i + 4) 126 (wide_less no_names 144 (16 + 126) (omega arith) no_names_wide))
        (params_reach tok n 16 p m (omega arith)) s in
        (ap (λ w. w.rebound) e, ap (λ w. w.uses) e)

    bodies_end : (j : ℕ) (v w : Verdict) → bodies_of 0 j v w ≡ record { rebound = v; uses = w }
    unfolding bodies_at
    bodies_end j v w = refl

    bodies_step : (m j : ℕ) (v w : Verdict) → bodies_of (suc m) j v w ≡ bodies_of m (j + 1) (first v (body_of (get_or heads j 0)).rebound) (first w (body_of (get_or heads j 0)).uses)
    unfolding bodies_at
    bodies_step m j v w = refl

    bodies_at_lem : {j : ℕ} {es : List SDef} (v w : Verdict) → HeadsAt tok n heads j es →
        bodies_of (length es) j v w ≡ record { rebound = first v (coded (defs_rebound es)); uses = first w (coded (meant es)) }
    bodies_at_lem v w at.HeadsAt.none_at = rw (bodies_end _ v w, first_fine v, first_fine w)
    bodies_at_lem {j} v w (at.HeadsAt.more_at {d = d} {ds = es} x e rest) =
        let b = body_at_lem x in
        rw (bodies_step (length es) j v w, e, b.0, b.1, bodies_at_lem _ _ rest, first_assoc v, first_assoc w, coded_first (term_rebound (scope d) d.body), coded_first (meant_by d))

-- the table that the check by position makes of a program: its definitions, and 6
pub program_table : (tok : ℕ → Token) (n : ℕ) (s : SProg) → ProgramAt tok n s → All tok n (defs_of tok n 64 check.no_defs) (defs s) (coded (defs_twice [] (defs s)))
unfolding unknown
program_table tok n s x =
    let l = x.few in let l0 : length (defs s) ≤ 64 = omega arith in
    defs_at_lem tok n 64 check.no_defs [] [] (at.DefsAt.more_at (first_bracket x.main) x.main x.others) no_built l0 (omega arith)
  where
    first_bracket : {d : SDef} {k : ℕ} → DefAt tok n 0 d k → is "" (tok 0) ≡ false
    first_bracket (define_at o w f q p m s c) = is_other_lem "(" "" (tok 0) o.key

    no_built : Built tok n check.no_defs [] []
    no_built = record { heads = at.HeadsAt.none_at; order = at.DefsFrom.none_from {a = 0} {b = 0} (omega arith); count = refl; size = length-replicate {A = ℕ} 64 0; known = λ x. refl }

-- what the check by position finds is what the check of the program finds
pub program_checked : (tok : ℕ → Token) (n : ℕ) (s : SProg) → ProgramAt tok n s → program_at (keys tok n) (kinds tok n) (nums tok n) (ats tok n) n ≡ coded (program_verdict s)
unfolding program_at program_verdict
program_checked tok n s x =
    let a = program_table tok n s x in
    rw (
      a.names,
      a.count,
      bodies_at_lem tok n a.heads fine fine a.heads,
      coded_first (defs_twice [] (defs s)),
      coded_first (defs_rebound (defs s)),
    )
