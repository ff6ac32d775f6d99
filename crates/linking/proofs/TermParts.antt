-- The parts of a term by themselves: an expression as a term, a call.
use Prim.Native.Nat.{ℕ, zero, suc, ◌+◌, ◌-◌, ◌%◌, ◌≤◌, ◌<◌, min}
use mathlib.Core.Path.{◌≡◌, refl, ◌∙◌}
use mathlib.Core.Bool.{false}
use mathlib.Core.List.{List, []}
use native.Mathlib.Omega.{arith}
use lib.Dec.{eqb}
use lib.ListN.{length, get_or}
use Rattle.language.specs.Tokens.{ename, aname, of_program, Token}
use Rattle.language.specs.Tokens as tokens
use Rattle.language.specs.Program.{Term, call, result, Param, Prog, find}
use Rattle.language.specs.Source.{SExp, exp, exps, place_of}
use Rattle.syntax.specs.Twins.Standing.{WordAt, NameAt, ExpAt, symbol_at, cons_at, ExpsAt, TermAt, call_at, result_at}
use Rattle.syntax.specs.Twins.Standing as at
use Rattle.syntax.proofs.EndsLaws.{exp_end, term_end}
use Rattle.syntax.proofs.Placed.{exp_placed, term_placed}
use Rattle.syntax.proofs.CheckLaws.{exp_least, exp_most}
use Rattle.linking.specs.Twins.Code.{link, with_link}
use Rattle.linking.specs.Twins.Linking.{on, Linked, head_of, closing_at, form_of, call_link, range_linked, range, term_linked}
use Rattle.linking.specs.Twins.Linked.{TermLinked, call_linked, result_linked}
use Rattle.linking.proofs.CodeLaws.{Wrote, with_same, with_other, with_wrote, wrote_then, range_wrote, range_at}
use Rattle.linking.proofs.TokenLaws.{TokensIn, word_key}
use Rattle.linking.proofs.NameLaws.{Names}
use Rattle.linking.proofs.ExpressionLaws.{exp_linked, exps_least, exps_linked}

pub on_in : (i k : ℕ) → i ≤ 4097 → k ≤ 4097 → on i k ≡ i + k
on_in i k a b = omega arith

-- What linking a term leaves: the term linked, nothing written outside it, and the names that were in reach.
pub record LinkedTo (tok : ℕ → Token) (n : ℕ) (p : Prog) (bodies : ℕ → ℕ) (sc : List Param) (i : ℕ) (t : Term) (k used m : ℕ) (s r : Linked) : Type 0 where
  pub term : TermLinked p bodies r.code sc i t k
  pub wrote : Wrote i s.code r.code
  pub reach : Names tok n r.names used m sc

-- Where the definition of a function stands: as many parameters, and its body.
pub record Calls (marks nums heads : List ℕ) (count : ℕ) (fs : List ℕ) (p : Prog) (bodies : ℕ → ℕ) : Type 0 where
  pub known : (x : ℕ) → place_of x fs < length p → let open' = on (head_of nums heads count x) 2 in let close = closing_at marks open' in
      ((close - min open' close) % 65536 ≡ length (find p (place_of x fs)).params) × (on close 1 % 65536 ≡ bodies (place_of x fs))

module _ {tok : ℕ → Token} {n : ℕ} {marks nums ends : List ℕ} (t : TokensIn tok n marks nums ends) (heads : List ℕ) (count : ℕ) (fs : List ℕ) (p : Prog) (bodies : ℕ → ℕ) where
  -- an expression is no call and no `if`
  exp_form : {room i : ℕ} {c : SExp} {k : ℕ} → ExpAt tok n of_program room i c k → (eqb (form_of marks i) 7 ≡ false) × (eqb (form_of marks i) 6 ≡ false)
  unfolding form_of
  exp_form {i = i} (symbol_at b x) = rw (t.key i x.below, b) (refl, refl)
  exp_form {i = i} (at.ExpAt.e_at b x) = rw (t.key i x.below, b) (refl, refl)
  exp_form {i = i} (at.ExpAt.a_at b x) = rw (t.key i x.below, b) (refl, refl)
  exp_form {i = i} (cons_at o w c d e) =
      let y = o.below in let f = t.few in
      rw (t.key i o.below, o.key, on_in i 1 (omega arith) (omega arith), word_key t [] 0 "cons" (i + 1) w) (refl, refl)

  exp_range : {room i : ℕ} {c : SExp} {k : ℕ} (used : ℕ) (s : Linked) → ExpAt tok n of_program room i c k → term_linked marks nums ends heads count room used i s ≡ range marks nums ends used i s
  unfolding term_linked
  exp_range {room = zero} used s x = refl
  exp_range {room = suc room} used s x = let f = exp_form x in rw (f.0, f.1)

  -- an expression as a term
  pub result_linked_lem : {room i : ℕ} {c : SExp} {k used m : ℕ} {sc : List Param} (s : Linked) → ExpAt tok n of_program room i c k → Names tok n s.names used m sc → length s.code ≡ 24582 →
      LinkedTo tok n p bodies sc i (result (exp c)) k used m s (term_linked marks nums ends heads count room used i s)
  result_linked_lem {i = i} {c} {k} {used} s x h e =
      let l = exp_least x in let m = exp_most x in let f = t.few in let b : i < n = omega arith in
      let z : get_or ends i 0 ≡ k = t.ended i b ∙ exp_end tok n t.unbracketed (exp_placed x) in
      rw (exp_range used s x, z) (record {
        term = result_linked (exp_linked t h _ x (λ j a d. range_at marks nums ends s.names used (k - i) i s.code (omega arith) e j a (omega arith)));
        wrote = range_wrote marks nums ends s.names used (k - i) i s.code;
        reach = h;
      })

  -- a call's own link
  call_link_lem : (i k : ℕ) → Calls marks nums heads count fs p bodies → NameAt tok n tokens.plain (i + 2) → get_or ends i 0 ≡ k → i + 2 < n →
      place_of (tok (i + 2)).num fs < length p → call_link marks nums ends heads count i ≡ link 3 (length (find p (place_of (tok (i + 2)).num fs)).params) (bodies (place_of (tok (i + 2)).num fs)) k
  unfolding call_link
  call_link_lem i k d x e l f =
      let m = t.few in let w = d.known (tok (i + 2)).num f in
      rw (on_in i 2 (omega arith) (omega arith), t.num (i + 2) l, w.0, w.1, e)

  call_form : (i : ℕ) → WordAt tok n "(" i → WordAt tok n "call" (i + 1) → form_of marks i ≡ 6
  unfolding form_of
  call_form i o w =
      let y = o.below in let f = t.few in
      rw (t.key i o.below, o.key, on_in i 1 (omega arith) (omega arith)) (word_key t [] 0 "call" (i + 1) w)

  pub call_linked_lem : {room i k used m : ℕ} {cs : List SExp} {sc : List Param} (s : Linked) → Calls marks nums heads count fs p bodies →
      WordAt tok n "(" i → WordAt tok n "call" (i + 1) → NameAt tok n tokens.plain (i + 2) → WordAt tok n "[" (i + 3) → ExpsAt tok n of_program "]" room (i + 4) cs k → WordAt tok n ")" (k + 1) →
      Names tok n s.names used m sc → length s.code ≡ 24582 →
      LinkedTo tok n p bodies sc i (call (place_of (tok (i + 2)).num fs) (exps cs)) (k + 2) used m s (term_linked marks nums ends heads count (suc room) used i s)
  unfolding term_linked
  call_linked_lem {room} {i} {k} {used} s d o w f b x c h e =
      let q = t.few in let y = exps_least t h s.code x in let y0 = y.0 in let y1 = y.1 in let c1 = c.below in let o1 = o.below in
      let z : get_or ends i 0 ≡ k + 2 = t.ended i o.below ∙ term_end tok n t.unbracketed (term_placed fs (call_at o w f b x c)) in
      let g = range_linked marks nums ends s.names used (k + 2 - i) i s.code in
      let v : Wrote i s.code g = range_wrote marks nums ends s.names used (k + 2 - i) i s.code in
      let l = call_link marks nums ends heads count i in
      rw (call_form i o w, z) (record {
        term = call_linked (λ a. with_same i l g (omega arith) (v.long ∙ e) ∙ call_link_lem i (k + 2) d f z f.below a)
            (exps_linked t h (with_link i l g) x (λ j a r. with_other i j l g (λ n. omega arith) ∙ range_at marks nums ends s.names used (k + 2 - i) i s.code (omega arith) e j (omega arith) (omega arith)));
        wrote = wrote_then v (with_wrote i l g);
        reach = h;
      })
