-- The check by position on a t: it goes past it, and finds of 6, of 13 and of 7, 8, 9 what the check of what was read finds.
use Prim.Native.Nat.{ℕ, zero, suc, ◌+◌, ◌-◌, ◌≤◌, ◌<◌}
use mathlib.Core.Path.{◌≡◌, refl, ap, subst, ◌∙◌, sym as inv}
use mathlib.Core.Bool.{Bool, true, false, cond, ◌&&◌, not}
use mathlib.Core.List.{List, [], ◌∷◌}
use native.Mathlib.Omega.{arith}
use native.Mathlib.Nat.{add_assoc}
use lib.Dec.{eqb, ltb}
use lib.ListN.{length, get_or}
use borrow.Author.Tests.{eqb-true, ltb-true}
use Rattle.language.specs.Bytes.{unless, ◌or_else◌}
use Rattle.language.specs.Bytes as bytes
use Rattle.language.specs.Tokens.{ename, aname, of_program, Token}
use Rattle.language.specs.Reader.{is, is_a}
use Rattle.language.specs.Program.{Param, Prog, find}
use Rattle.language.specs.Scope.{Scope, is_in, with_e, with_a, pair_scope}
use Rattle.language.specs.Source.{Stand, SExp, eqa_s, consp_s, STerm, call_s, conditional_s, SParam, SDef, params, place_of, functions, prog_of}
use Rattle.language.specs.ProgramCheck.{reach_e, reach_ea, reach_args, term_twice, new_e, new_a, term_rebound, term_verdict}
use Rattle.syntax.specs.Twins.Standing.{WordAt, NameAt, ExpAt, symbol_at, cons_at, ExpsAt, ConditionAt, TermAt, call_at, if_at, result_at, ParamsAt, DefAt, define_at, HeadsAt}
use Rattle.syntax.specs.Twins.Standing as at
use Rattle.verdicts.specs.Twins.Found.{Verdict, fine}
use Rattle.verdicts.specs.declared.found.Walked.{Walked}
use Rattle.checker.specs.declared.check.Names.{Names}
use Rattle.checker.specs.Twins.CheckAt as check
use Rattle.checker.specs.Twins.CheckAt.{first, judge, ahead, walked, push, exp_at, place_at, term_at}
use Rattle.syntax.proofs.CheckLaws.{coded, coded_first, coded_judge, first_assoc, ahead_in, is_other_lem, keys, kinds, nums, ats, Reach, args_fit, args_uses, exp_least, exp_most, exp_leaf, exp_opened, exp_past, exp_uses, ea_uses, exps_bounds, args_at_lem}
use Rattle.syntax.proofs.NameLaws.{Wide, wide_less, push_wide, push_e, push_a, fit_at, uses_at}

pub length_params : (xs : List SParam) → length (params xs) ≡ length xs
length_params [] = refl
length_params (x ∷ xs) = ap suc (length_params xs)

length_prog : (fs : List ℕ) (ds : List SDef) → length (prog_of fs ds) ≡ length ds
length_prog fs [] = refl
length_prog fs (d ∷ ds) = ap suc (length_prog fs ds)

-- 7 alone, or 7 and then the arguments
call_end : (t : Bool) (o : ℕ) (u w : bytes.Verdict) → (t ≡ true → u ≡ w) → first (judge t 7 o) (coded u) ≡ coded (unless t 7 o or_else w)
call_end true o u w h = ap coded (h refl)
call_end false o u w h = refl

same_walked : (w : Walked) (k : ℕ) (v b u : Verdict) → w.past ≡ k → w.names ≡ v → w.rebound ≡ b → w.uses ≡ u → w ≡ walked k v b u
same_walked w k v b u p q t r = rw (← p, ← q, ← t, ← r)

place_step : (b : Bool) (j m : ℕ) → cond b j (j + 1 + m) ≡ j + cond b 0 (suc m)
place_step true j m = omega arith
place_step false j m = omega arith

module _ (tok : ℕ → Token) (n : ℕ) where
  abbrev place_of' : List ℕ → ℕ → ℕ → ℕ → ℕ
  place_of' heads left j x = place_at (nums tok n) heads left j x

  -- the definition that a head leads to has these parameters
  pub record Head (h : ℕ) (ps : List Param) : Type 0 where
    pub i : ℕ
    pub k : ℕ
    pub xs : List SParam
    pub head : h ≡ i + 2
    pub below : i + 4 ≤ n
    pub stands : ParamsAt tok n (i + 4) xs k
    pub same : params xs ≡ ps

  pub place_at_lem : {heads : List ℕ} {j : ℕ} {ds : List SDef} (x : ℕ) → HeadsAt tok n heads j ds → place_of' heads (length ds) j x ≡ j + place_of x (functions ds)
  unfolding place_at
  place_at_lem {heads} {j} x at.HeadsAt.none_at = omega arith
  place_at_lem {heads} {j} x (at.HeadsAt.more_at (define_at {i = i} o w f b p l s c) e hs) =
      rw (e, place_at_lem x hs) (place_step (eqb (tok (i + 2)).num x) j _)

  pub head_at : {heads : List ℕ} {j : ℕ} {ds : List SDef} (fs : List ℕ) (g : ℕ) → HeadsAt tok n heads j ds → g < length ds → Head (get_or heads (j + g) 0) (find (prog_of fs ds) g).params
  head_at fs g at.HeadsAt.none_at l = let z : ⊥ = omega arith in absurd z
  head_at {heads} {j} fs zero (at.HeadsAt.more_at (define_at {i = i} {xs = xs} o w f b p l s c) e hs) m =
      let z : j + 0 ≡ j = omega arith in let y = b.below in
      record { i = i; k = _; xs = xs; head = ap (λ m. get_or heads m 0) z ∙ e; below = omega arith; stands = p; same = refl }
  head_at {heads} {j} fs (suc g) (at.HeadsAt.more_at d e hs) m = let z : j + suc g ≡ j + 1 + g = omega arith in rw z (head_at fs g hs (omega arith))

  module _ {heads : List ℕ} {ds : List SDef} (hs : HeadsAt tok n heads 0 ds) where
    abbrev fs : List ℕ
    fs = functions ds

    abbrev prog : Prog
    prog = prog_of fs ds

    -- 7, then what the parameters ask of the arguments
    call_uses : (g o : ℕ) (s : Scope) (cs : List SExp) →
        first (judge (ltb g (length ds) && args_fit tok n (ahead n 2 (get_or heads g 0)) cs) 7 o) (coded (args_uses tok n s (ahead n 2 (get_or heads g 0)) cs)) ≡
        coded (unless (ltb g (length prog) && eqb (length (find prog g).params) (length cs)) 7 o or_else reach_args s (find prog g).params cs)
    call_uses g o s cs = go (ltb g (length ds)) refl
      where
        known : g < length ds → Head (get_or heads g 0) (find prog g).params
        known l = let z : 0 + g ≡ g = omega arith in subst (λ (m : ℕ). Head (get_or heads m 0) (find prog g).params) z (head_at fs g hs l)

        go : (b : Bool) → ltb g (length ds) ≡ b → first (judge (ltb g (length ds) && args_fit tok n (ahead n 2 (get_or heads g 0)) cs) 7 o) (coded (args_uses tok n s (ahead n 2 (get_or heads g 0)) cs)) ≡
            coded (unless (ltb g (length prog) && eqb (length (find prog g).params) (length cs)) 7 o or_else reach_args s (find prog g).params cs)
        go true e =
            let h = known (ltb-true g (length ds) e) in
            let l = h.below in
            let a : ahead n 2 (get_or heads g 0) ≡ h.i + 4 = ap (ahead n 2) h.head ∙ ahead_in n 2 (h.i + 2) (omega arith) ∙ add_assoc h.i 2 2 in
            let m : length h.xs ≡ length (find prog g).params = inv (length_params h.xs) ∙ ap length h.same in
            let f : args_fit tok n (ahead n 2 (get_or heads g 0)) cs ≡ eqb (length (find prog g).params) (length cs) =
            ap (λ q. args_fit tok n q cs) a ∙ fit_at tok n cs h.stands ∙ ap (λ q. eqb q (length cs)) m in
            rw (length_prog, e, f) (call_end _ o _ _ (λ t. ap (λ q. args_uses tok n s q cs) a ∙
            uses_at tok n s cs h.stands (m ∙ eqb-true _ _ t) ∙ ap (λ q. reach_args s q cs) h.same))
        go false e = rw (length_prog, e)

    abbrev term_of : ℕ → Names → ℕ → Walked
    term_of room sc i = term_at (keys tok n) (kinds tok n) (nums tok n) (ats tok n) n heads (length ds) room sc i

    abbrev exp_of : ℕ → Names → ℕ → Walked
    exp_of room sc i = exp_at (keys tok n) (kinds tok n) (nums tok n) (ats tok n) n room sc i

    abbrev leaf_of : Names → ℕ → Walked
    leaf_of sc i = check.leaf_at (keys tok n) (kinds tok n) (nums tok n) (ats tok n) n sc i

    abbrev form_of : ℕ → Names → ℕ → Walked
    form_of room sc i = check.form_at (keys tok n) (kinds tok n) (nums tok n) (ats tok n) n heads (length ds) (λ sc k. term_of room sc k) room sc i

    abbrev new_of : Names → ℕ → Verdict
    new_of sc i = check.new_at (keys tok n) (kinds tok n) (nums tok n) (ats tok n) n sc i

    abbrev stand : ℕ → Stand
    stand i = record { at = (tok i).at; num = (tok i).num }

    term_leaf : (room : ℕ) (sc : Names) (i : ℕ) → is "(" (tok i) ≡ false → term_of room sc i ≡ leaf_of sc i
    unfolding term_at
    term_leaf zero sc i b = refl
    term_leaf (suc room) sc i b = rw b

    term_form : (room : ℕ) (sc : Names) (i : ℕ) → is "(" (tok i) ≡ true → term_of (suc room) sc i ≡ form_of room sc i
    unfolding term_at
    term_form room sc i b = rw b

    -- an e is walked as an e
    term_exp : {room i : ℕ} {c : SExp} {k : ℕ} (sc : Names) → ExpAt tok n of_program room i c k → term_of room sc i ≡ exp_of room sc i
    unfolding exp_at
    term_exp {room} {i} sc (symbol_at b x) = term_leaf room sc i b ∙ inv (exp_leaf tok n room sc i b)
    term_exp {room} {i} sc (at.ExpAt.e_at b x) = term_leaf room sc i b ∙ inv (exp_leaf tok n room sc i b)
    term_exp {room} {i} sc (at.ExpAt.a_at b x) = term_leaf room sc i b ∙ inv (exp_leaf tok n room sc i b)
    term_exp {room = suc room} {i} sc (cons_at o w c d e) =
        let y = o.below in
        term_form room sc i o.key ∙ rw (ahead_in n 1 i (omega arith), is_other_lem "cons" "call" (tok (i + 1)) w.key, is_other_lem "cons" "if" (tok (i + 1)) w.key, o.key)

    -- an e binds nothing
    exp_binds : {room i : ℕ} {c : SExp} {k : ℕ} (sc : Names) → ExpAt tok n of_program room i c k → ((exp_of room sc i).names ≡ fine) × ((exp_of room sc i).rebound ≡ fine)
    exp_binds {room} {i} sc (symbol_at b x) = let e = exp_leaf tok n room sc i b in (ap (λ w. w.names) e, ap (λ w. w.rebound) e)
    exp_binds {room} {i} sc (at.ExpAt.e_at b x) = let e = exp_leaf tok n room sc i b in (ap (λ w. w.names) e, ap (λ w. w.rebound) e)
    exp_binds {room} {i} sc (at.ExpAt.a_at b x) = let e = exp_leaf tok n room sc i b in (ap (λ w. w.names) e, ap (λ w. w.rebound) e)
    exp_binds {room = suc room} {i} sc (cons_at o w c d f) =
        let e = exp_opened tok n room sc i _ _ o w f (exp_past tok n sc c) (exp_past tok n sc d) in (ap (λ w. w.names) e, ap (λ w. w.rebound) e)

    abbrev verdict : Scope → STerm → bytes.Verdict
    verdict s t = term_verdict prog fs s t

    result_at_lem : {room i : ℕ} {c : SExp} {k : ℕ} (sc : Names) (s : Scope) → Reach tok n sc s → ExpAt tok n of_program room i c k → term_of room sc i ≡ walked k fine fine (coded (reach_e s c))
    result_at_lem sc s r x = let e = exp_binds sc x in term_exp sc x ∙ same_walked _ _ _ _ _ (exp_past tok n sc x) e.0 e.1 (exp_uses tok n sc s r x)

    call_at_lem : {room i k : ℕ} {cs : List SExp} (sc : Names) (s : Scope) → Reach tok n sc s → WordAt tok n "(" i → WordAt tok n "call" (i + 1) → ExpsAt tok n of_program "]" room (i + 4) cs k → WordAt tok n ")" (k + 1) →
        term_of (suc room) sc i ≡ walked (k + 2) fine fine (coded (verdict s (call_s (stand (i + 2)) cs)))
    call_at_lem {room} {i} {k} {cs} sc s r o w x c =
        let a = w.below in let d = exps_bounds tok n x in let d0 = d.0 in let d1 = d.1 in let c0 = c.below in
        let z : 0 + place_of (tok (i + 2)).num fs ≡ place_of (tok (i + 2)).num fs = omega arith in
        let f : k - (i + 4) < n = omega arith in
        term_form room sc i o.key ∙
        rw (
          ahead_in n 1 i (omega arith),
          w.key,
          ahead_in n 2 i (omega arith),
          ahead_in n 4 i (omega arith),
          place_at_lem (tok (i + 2)).num hs,
          z,
          args_at_lem tok n n sc s (ahead n 2 (get_or heads (place_of (tok (i + 2)).num fs) 0)) true fine r x f,
          ahead_in n 2 k (omega arith),
        )
        (ap (walked (k + 2) fine fine) (call_uses (place_of (tok (i + 2)).num fs) (tok (i + 2)).at s cs))

    -- what a t that ends before k comes to
    abbrev found : ℕ → Scope → STerm → Walked
    found k s t = walked k (coded (term_twice t)) (coded (term_rebound s t)) (coded (verdict s t))

    eqa_at_lem : {room i j m k l : ℕ} {c d : SExp} (t u : STerm) (sc : Names) (s : Scope) → Reach tok n sc s → WordAt tok n "(" i → WordAt tok n "if" (i + 1) → WordAt tok n "eqa?" (i + 3) →
        ExpAt tok n of_program room (i + 4) c j → ExpAt tok n of_program room j d m → WordAt tok n ")" m → WordAt tok n ")" l →
        term_of room sc (m + 1) ≡ found k s t → term_of room sc k ≡ found l s u → term_of (suc room) sc i ≡ found (l + 1) s (conditional_s (eqa_s c d) t u)
    unfolding check.ea_at check.branched
    eqa_at_lem {room} {i} {j} {m} {k} {l} {c} {d} t u sc s r o w q x y e f g h =
        let a = w.below in let b = q.below in let e0 = e.below in let f0 = f.below in let x0 = exp_most x in let x1 = exp_least x in let y0 = exp_least y in
        term_form room sc i o.key ∙
        rw (
          ahead_in n 1 i (omega arith),
          is_other_lem "if" "call" (tok (i + 1)) w.key,
          w.key,
          ahead_in n 3 i (omega arith),
          q.key,
          ahead_in n 4 i (omega arith),
          ea_uses tok n sc s r x,
          exp_past tok n sc x,
          ea_uses tok n sc s r y,
          exp_past tok n sc y,
          ahead_in n 1 m (omega arith),
          g,
          h,
          ahead_in n 1 l (omega arith),
          coded_first (term_twice t),
          coded_first (term_rebound s t),
          coded_first (reach_ea s c),
          coded_first (reach_ea s d),
          coded_first (verdict s t),
          first_assoc (coded (reach_ea s c)),
        )

    -- 13 at a name that a `cons?` binds
    new_e_lem : (sc : Names) (s : Scope) (j : ℕ) → Reach tok n sc s → is_a ename (tok j) ≡ true → new_of sc j ≡ coded (new_e s (stand j))
    new_e_lem sc s j r e = ap (λ b. judge (not b) 13 (tok j).at) (r.evars j e) ∙ inv (coded_judge (not (is_in (tok j).num s.evars)) 13 (tok j).at)

    new_a_lem : (sc : Names) (s : Scope) (j : ℕ) → Reach tok n sc s → is_a aname (tok j) ≡ true → new_of sc j ≡ coded (new_a s (stand j))
    new_a_lem sc s j r e = ap (λ b. judge (not b) 13 (tok j).at) (r.avars j e) ∙ inv (coded_judge (not (is_in (tok j).num s.avars)) 13 (tok j).at)

    consp_at_lem : {room i j k l : ℕ} {c : SExp} (t u : STerm) (sc : Names) (s : Scope) → Reach tok n sc s → WordAt tok n "(" i → WordAt tok n "if" (i + 1) → WordAt tok n "cons?" (i + 3) →
        ExpAt tok n of_program room (i + 4) c j → is_a ename (tok j) ≡ true → is_a ename (tok (j + 1)) ≡ true → is_a aname (tok (j + 2)) ≡ true → WordAt tok n ")" (j + 3) → WordAt tok n ")" l →
        term_of room (push (push sc j) (j + 1)) (j + 4) ≡ found k (pair_scope (tok j).num (tok (j + 1)).num s) t →
        term_of room (push sc (j + 2)) k ≡ found l (with_a (tok (j + 2)).num s) u →
        term_of (suc room) sc i ≡ found (l + 1) s (conditional_s (consp_s c (stand j) (stand (j + 1)) (stand (j + 2))) t u)
    unfolding check.binding_at check.branched
    consp_at_lem {room} {i} {j} {k} {l} {c} t u sc s r o w q x y1 y2 y3 e f g h =
        let a = w.below in let b = q.below in let e0 = e.below in let f0 = f.below in
        let s1 = pair_scope (tok j).num (tok (j + 1)).num s in
        let s2 = with_a (tok (j + 2)).num s in
        let nh = new_e s (stand j) in let nt = new_e s (stand (j + 1)) in let nx = new_a s (stand (j + 2)) in
        let p : first (first (coded nh) (first (coded nt) (coded nx))) (first (coded (term_rebound s1 t)) (coded (term_rebound s2 u))) ≡ coded (nh or_else nt or_else nx or_else term_rebound s1 t or_else term_rebound s2 u) =
        rw (first_assoc (coded nh), first_assoc (coded nt), coded_first nh, coded_first nt, coded_first nx, coded_first (term_rebound s1 t)) in
        term_form room sc i o.key ∙
        rw (
          ahead_in n 1 i (omega arith),
          is_other_lem "if" "call" (tok (i + 1)) w.key,
          w.key,
          ahead_in n 3 i (omega arith),
          is_other_lem "cons?" "eqa?" (tok (i + 3)) q.key,
          ahead_in n 4 i (omega arith),
          exp_uses tok n sc s r x,
          exp_past tok n sc x,
          ahead_in n 1 j (omega arith),
          ahead_in n 2 j (omega arith),
          ahead_in n 4 j (omega arith),
          new_e_lem sc s j r y1,
          new_e_lem sc s (j + 1) r y2,
          new_a_lem sc s (j + 2) r y3,
          g,
          h,
          ahead_in n 1 l (omega arith),
          p,
          coded_first (unless (not (eqb (tok j).num (tok (j + 1)).num)) 6 (tok (j + 1)).at),
          coded_judge,
          coded_first (term_twice t),
          coded_first (reach_e s c),
          coded_first (verdict (pair_scope (tok j).num (tok (j + 1)).num s) t),
        )

    pub term_at_lem : {room i : ℕ} {t : STerm} {k : ℕ} (sc : Names) (s : Scope) → Wide sc (room + room) → Reach tok n sc s → TermAt tok n room i t k →
        term_of room sc i ≡ found k s t
    term_at_lem sc s z r (result_at x) = result_at_lem sc s r x
    term_at_lem sc s z r (call_at o w f b x c) = call_at_lem sc s r o w x c
    term_at_lem {room = suc room} {i} sc s z r (if_at {s = t'} {u = u'} o w (at.ConditionAt.eqa_at p q x y e) t u f) =
        let v : Wide sc (room + room) = wide_less sc (suc room + suc room) (room + room) (omega arith) z in
        eqa_at_lem t' u' sc s r o w (simp add_assoc at q) (simp add_assoc at x) y e f (term_at_lem sc s v r t) (term_at_lem sc s v r u)
    term_at_lem {room = suc room} {i} sc s z r (if_at {s = t'} {u = u'} o w (at.ConditionAt.consp_at {j = j} p q x hd tl av e) t u f) =
        let v2 : Wide sc (suc (suc (room + room))) = wide_less sc (suc room + suc room) (suc (suc (room + room))) (omega arith) z in
        let v1 : Wide sc (suc (room + room)) = wide_less sc (suc (suc (room + room))) (suc (room + room)) (omega arith) v2 in
        let w1 = push_wide sc j (suc (room + room)) v2 in
        let r1 = push_e tok n sc s j (suc (room + room)) v2 hd.kind r in
        let r2 = push_e tok n (push sc j) (with_e (tok j).num s) (j + 1) (room + room) w1 tl.kind r1 in
        consp_at_lem t' u' sc s r o w (simp add_assoc at q) (simp add_assoc at x) hd.kind tl.kind av.kind e f
        (term_at_lem (push (push sc j) (j + 1)) _ (push_wide (push sc j) (j + 1) (room + room) w1) r2 t)
        (term_at_lem (push sc (j + 2)) _ (push_wide sc (j + 2) (room + room) v1) (push_a tok n sc s (j + 2) (room + room) v1 av.kind r) u)
