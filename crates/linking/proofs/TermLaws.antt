-- A term that stands in the tokens stands linked in the code that linking leaves, with the names in reach at each of its parts.
use Prim.Native.Nat.{ℕ, suc, ◌+◌, ◌-◌, ◌≤◌, ◌<◌}
use mathlib.Core.Path.{◌≡◌, subst, ◌∙◌}
use mathlib.Core.List.{List, [], ◌∷◌, ◌++◌}
use native.Mathlib.Omega.{arith}
use lib.ListN.{length, get_or}
use Rattle.language.specs.Tokens.{ename, aname, of_program, Token}
use Rattle.language.specs.Program.{eqa, consp, Term, conditional, Param, pe, pa, Prog}
use Rattle.language.specs.Source.{SExp, STerm, exp, term}
use Rattle.syntax.specs.Twins.Standing.{WordAt, NameAt, ExpAt, eqa_at, consp_at, TermAt, call_at, if_at, result_at}
use Rattle.syntax.proofs.EndsLaws.{exp_end, condition_end, term_end}
use Rattle.syntax.proofs.Placed.{exp_placed, condition_placed, term_placed}
use Rattle.syntax.proofs.CheckLaws.{exp_least}
use Rattle.syntax.proofs.ProgramLaws.{term_bounds}
use Rattle.linking.specs.Twins.Code.{link, link_at, with_link}
use Rattle.linking.specs.Twins.Linking.{Linked, linked, form_of, if_link, pushed_name, true_names, false_names, range_linked, term_linked}
use Rattle.linking.specs.Twins.Linked.{with_name, same_linked, test_linked}
use Rattle.linking.proofs.CodeLaws.{with_long, with_same, with_wrote, wider, wrote_then, range_wrote, range_at}
use Rattle.linking.proofs.AgreeLaws.{before_agrees, exp_agrees, term_agrees}
use Rattle.linking.proofs.TokenLaws.{TokensIn, e_name, a_name, NamesAre, no_names, more_names, link_of, word_key}
use Rattle.linking.proofs.NameLaws.{Names, names_less, name_pushed}
use Rattle.linking.proofs.NewNames.{BindsNew}
use Rattle.linking.proofs.ExpressionLaws.{exp_linked}
use Rattle.linking.proofs.TermParts.{on_in, LinkedTo, Calls, result_linked_lem, call_linked_lem}

-- names without the last
front : {tok : ℕ → Token} {n : ℕ} {names : List ℕ} {j : ℕ} (xs ys : List Param) → NamesAre tok n names j (xs ++ ys) → NamesAre tok n names j xs
front [] ys h = no_names
front {j = j} (x ∷ xs) ys (more_names is hs) = more_names is (front {j = j + 1} xs ys hs)

module _ {tok : ℕ → Token} {n : ℕ} {marks nums ends : List ℕ} (t : TokensIn tok n marks nums ends) (heads : List ℕ) (count : ℕ) (fs : List ℕ) (p : Prog) (bodies : ℕ → ℕ) where
  abbrev again : ℕ → ℕ → ℕ → Linked → Linked
  again room used i s = term_linked marks nums ends heads count room used i s

  -- what linking does with a term, whatever names are in reach
  abbrev Law : ℕ → ℕ → Term → ℕ → Type 0
  Law room i u k = (used : ℕ) (sc : List Param) (s : Linked) → BindsNew sc u → Names tok n s.names used (room + room) sc → length s.code ≡ 24582 →
      LinkedTo tok n p bodies sc i u k used (room + room) s (again room used i s)

  if_form : (i : ℕ) → WordAt tok n "(" i → WordAt tok n "if" (i + 1) → form_of marks i ≡ 7
  unfolding form_of
  if_form i o w =
      let y = o.below in let f = t.few in
      rw (t.key i o.below, o.key, on_in i 1 (omega arith) (omega arith)) (word_key t [] 0 "if" (i + 1) w)

  same_link : (i ta fa end : ℕ) → i + 3 < n → ta < n → WordAt tok n "eqa?" (i + 3) → get_or ends (i + 2) 0 ≡ ta → get_or ends ta 0 ≡ fa → get_or ends i 0 ≡ end → if_link marks ends i ≡ link 4 ta fa end
  unfolding if_link
  same_link i ta fa end l m w a b c =
      let f = t.few in rw (on_in i 2 (omega arith) (omega arith), on_in i 3 (omega arith) (omega arith), a, b, c, word_key t [] 0 "eqa?" (i + 3) w)

  test_link : (i ta fa end : ℕ) → i + 3 < n → ta < n → WordAt tok n "cons?" (i + 3) → get_or ends (i + 2) 0 ≡ ta → get_or ends ta 0 ≡ fa → get_or ends i 0 ≡ end → if_link marks ends i ≡ link 5 ta fa end
  unfolding if_link
  test_link i ta fa end l m w a b c =
      let f = t.few in rw (on_in i 2 (omega arith) (omega arith), on_in i 3 (omega arith) (omega arith), a, b, c, word_key t [] 0 "cons?" (i + 3) w)

  -- "`(if (eqa? ea ea) t t)`"
  same_linked_lem : {room i j m fa k : ℕ} {c d : SExp} {u v : Term} → WordAt tok n "(" i → WordAt tok n "if" (i + 1) → WordAt tok n "eqa?" (i + 3) →
      ExpAt tok n of_program room (i + 4) c j → ExpAt tok n of_program room j d m → get_or ends (i + 2) 0 ≡ m + 1 → get_or ends (m + 1) 0 ≡ fa → get_or ends i 0 ≡ k + 1 → m + 1 < fa → fa < k → k < n →
      Law room (m + 1) u fa → Law room fa v k → Law (suc room) i (conditional (eqa (exp c) (exp d)) u v) (k + 1)
  unfolding term_linked true_names false_names
  same_linked_lem {room} {i} {j} {m} {fa} {k} o w q x y e1 e2 e3 l1 l2 l3 f g used sc s new h z =
      let few = t.few in let a = exp_least x in let b = exp_least y in let r = h.room in
      let l = link 4 (m + 1) fa (k + 1) in
      let c1 = with_link i l s.code in
      let c2 = range_linked marks nums ends s.names used (m + 1 - (i + 4)) (i + 4) c1 in
      let z1 = with_long i l s.code ∙ z in
      let v2 = range_wrote marks nums ends s.names used (m + 1 - (i + 4)) (i + 4) c1 in
      let h1 : Names tok n s.names used (room + room) sc = names_less (omega arith) h in
      let r1 = f used sc (linked s.names c2) new.0 h1 (v2.long ∙ z1) in
      let t1 = again room used (m + 1) (linked s.names c2) in
      let r2 = g used sc (linked t1.names t1.code) new.1 r1.reach (r1.wrote.long ∙ v2.long ∙ z1) in
      let t2 = again room used fa (linked t1.names t1.code) in
      let each : (n1 : ℕ) → i + 4 ≤ n1 → n1 < m + 1 → link_at c2 n1 ≡ link_of t s.names used n1 = (λ n1 p1 p2. range_at marks nums ends s.names used (m + 1 - (i + 4)) (i + 4) c1 (omega arith) z1 n1 p1 (omega arith)) in
      let ex = exp_linked t h c2 x (λ n1 p1 p2. each n1 (omega arith) (omega arith)) in
      let ey = exp_linked t h c2 y (λ n1 p1 p2. each n1 (omega arith) (omega arith)) in
      rw (if_form i o w, same_link i (m + 1) fa (k + 1) q.below (omega arith) q e1 e2 e3, on_in i 4 (omega arith) (omega arith)) (record {
        term = same_linked
            (r2.wrote.before i (omega arith) ∙ r1.wrote.before i (omega arith) ∙ v2.before i (omega arith) ∙ with_same i l s.code (omega arith) z)
            (exp_agrees _ sc (exp_agrees _ sc ex (before_agrees r1.wrote (omega arith))) (before_agrees r2.wrote (omega arith)))
            (exp_agrees _ sc (exp_agrees _ sc ey (before_agrees r1.wrote (omega arith))) (before_agrees r2.wrote (omega arith)))
            (term_agrees p bodies _ r1.term (before_agrees r2.wrote (omega arith)))
            r2.term;
        wrote = wrote_then (wrote_then (wrote_then (with_wrote i l s.code) (wider v2 (omega arith))) (wider r1.wrote (omega arith))) (wider r2.wrote (omega arith));
        reach = record { are = r2.reach.are; count = h.count; size = r2.reach.size; room = r };
      })

  -- "`(if (cons? e xe xe xa) t t)`": "The true branch of `cons?` has its two xe, the false branch its xa, neither the other's."
  test_linked_lem : {room i j fa k : ℕ} {c : SExp} {u v : Term} → WordAt tok n "(" i → WordAt tok n "if" (i + 1) → WordAt tok n "cons?" (i + 3) →
      ExpAt tok n of_program room (i + 4) c j → NameAt tok n ename j → NameAt tok n ename (j + 1) → NameAt tok n aname (j + 2) →
      get_or ends (i + 2) 0 ≡ j + 4 → get_or ends (j + 4) 0 ≡ fa → get_or ends i 0 ≡ k + 1 → get_or ends (i + 4) 0 ≡ j → j + 4 < fa → fa < k → k < n →
      Law room (j + 4) u fa → Law room fa v k → Law (suc room) i (conditional (consp (exp c) (tok j).num (tok (j + 1)).num (tok (j + 2)).num) u v) (k + 1)
  unfolding term_linked true_names false_names
  test_linked_lem {room} {i} {j} {fa} {k} o w q x nh nt na e1 e2 e3 e4 l1 l2 l3 f g used sc s new h z =
      let few = t.few in let a = exp_least x in let r = h.room in
      let xh = pe (tok j).num in let xt = pe (tok (j + 1)).num in let xa = pa (tok (j + 2)).num in
      let l = link 5 (j + 4) fa (k + 1) in
      let c1 = with_link i l s.code in
      let c2 = range_linked marks nums ends s.names used (j + 4 - (i + 4)) (i + 4) c1 in
      let z1 = with_long i l s.code ∙ z in
      let v2 = range_wrote marks nums ends s.names used (j + 4 - (i + 4)) (i + 4) c1 in
      let z2 = v2.long ∙ z1 in
      let h0 : Names tok n s.names used (suc (suc (room + room))) sc = names_less (omega arith) h in
      let w1 = pushed_name used j s.names in
      let w2 = pushed_name w1.used (j + 1) w1.names in
      let n2 = name_pushed (name_pushed h0 (e_name nh)) (e_name nt) in
      let r1 = f w2.used (with_name xt (with_name xh sc)) (linked w2.names c2) new.3 n2 z2 in
      let t1 = again room w2.used (j + 4) (linked w2.names c2) in
      let h1 : Names tok n t1.names used (suc (room + room)) sc =
      record { are = front sc (xh ∷ []) (front (with_name xh sc) (xt ∷ []) r1.reach.are); count = h.count; size = r1.reach.size; room = omega arith } in
      let w3 = pushed_name used (j + 2) t1.names in
      let r2 = g w3.used (with_name xa sc) (linked w3.names t1.code) new.4 (name_pushed h1 (a_name na)) (r1.wrote.long ∙ z2) in
      let ex = exp_linked t h c2 x (λ m p1 p2. range_at marks nums ends s.names used (j + 4 - (i + 4)) (i + 4) c1 (omega arith) z1 m p1 (omega arith)) in
      let b1 = on_in j 1 (omega arith) (omega arith) in let b2 = on_in j 2 (omega arith) (omega arith) in
      rw (if_form i o w, test_link i (j + 4) fa (k + 1) q.below (omega arith) q e1 e2 e3, on_in i 4 (omega arith) (omega arith), e4, b1, b2) (record {
        term = test_linked
            (r2.wrote.before i (omega arith) ∙ r1.wrote.before i (omega arith) ∙ v2.before i (omega arith) ∙ with_same i l s.code (omega arith) z)
            (exp_agrees _ sc (exp_agrees _ sc ex (before_agrees r1.wrote (omega arith))) (before_agrees r2.wrote (omega arith)))
            new.0 new.1 new.2
            (term_agrees p bodies _ r1.term (before_agrees r2.wrote (omega arith)))
            r2.term;
        wrote = wrote_then (wrote_then (wrote_then (with_wrote i l s.code) (wider v2 (omega arith))) (wider r1.wrote (omega arith))) (wider r2.wrote (omega arith));
        reach = record { are = front sc (xa ∷ []) r2.reach.are; count = h.count; size = r2.reach.size; room = r };
      })

  module _ (d : Calls marks nums heads count fs p bodies) where
    pub term_linked_lem : {room i : ℕ} {u : STerm} {k : ℕ} → TermAt tok n room i u k → Law room i (term fs u) k
    term_linked_lem (call_at o w f b x c) = λ used sc s new h z. call_linked_lem t heads count fs p bodies s d o w f b x c h z
    term_linked_lem (result_at x) = λ used sc s new h z. result_linked_lem t heads count fs p bodies s x h z
    term_linked_lem {i = i} (if_at {room = rm} {k = fa} {m = k} o w (eqa_at {j = j} {k = m} {c = ce} ob wb x y cb) s u c) =
        let y1 = exp_least x in let y2 = exp_least y in let y3 = term_bounds tok n s in let y4 = term_bounds tok n u in let y5 = y3.0 in let y6 = y4.0 in let l = c.below in
        let q1 : i + 2 + 1 ≡ i + 3 = omega arith in let q2 : i + 2 + 2 ≡ i + 4 = omega arith in
        same_linked_lem o w (subst (λ (a : ℕ). WordAt tok n "eqa?" a) q1 wb) (subst (λ (a : ℕ). ExpAt tok n of_program rm a ce j) q2 x) y
        (t.ended (i + 2) (omega arith) ∙ condition_end tok n t.unbracketed (omega arith) (condition_placed (eqa_at ob wb x y cb)))
        (t.ended (m + 1) (omega arith) ∙ term_end tok n t.unbracketed (term_placed fs s))
        (t.ended i o.below ∙ term_end tok n t.unbracketed (term_placed fs (if_at o w (eqa_at ob wb x y cb) s u c)))
        (omega arith) (omega arith) l (term_linked_lem s) (term_linked_lem u)
    term_linked_lem {i = i} (if_at {room = rm} {k = fa} {m = k} o w (consp_at {j = j} {c = ce} ob wb x nh nt na cb) s u c) =
        let y1 = exp_least x in let y3 = term_bounds tok n s in let y4 = term_bounds tok n u in let y5 = y3.0 in let y6 = y4.0 in let l = c.below in
        let q1 : i + 2 + 1 ≡ i + 3 = omega arith in let q2 : i + 2 + 2 ≡ i + 4 = omega arith in
        let x4 = subst (λ (a : ℕ). ExpAt tok n of_program rm a ce j) q2 x in
        test_linked_lem o w (subst (λ (a : ℕ). WordAt tok n "cons?" a) q1 wb) x4 nh nt na
        (t.ended (i + 2) (omega arith) ∙ condition_end tok n t.unbracketed (omega arith) (condition_placed (consp_at ob wb x nh nt na cb)))
        (t.ended (j + 4) (omega arith) ∙ term_end tok n t.unbracketed (term_placed fs s))
        (t.ended i o.below ∙ term_end tok n t.unbracketed (term_placed fs (if_at o w (consp_at ob wb x nh nt na cb) s u c)))
        (t.ended (i + 4) (omega arith) ∙ exp_end tok n t.unbracketed (exp_placed x4))
        (omega arith) (omega arith) l (term_linked_lem s) (term_linked_lem u)
