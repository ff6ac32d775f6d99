-- Expressions: where each token has its link, the expression stands linked.
use Prim.Native.Nat.{ℕ, ◌+◌, ◌%◌, ◌≤◌, ◌<◌}
use Prim.Native.String.{String}
use mathlib.Core.Path.{◌≡◌, refl, ap, ◌∙◌}
use mathlib.Core.Bool.{false}
use mathlib.Core.List.{List}
use native.Mathlib.Omega.{arith}
use lib.Dec.{eqb}
use lib.ListN.{get_or}
use borrow.Author.Tests.{eqb-true}
use Rattle.language.specs.Bytes.{txt}
use Rattle.language.specs.Tokens.{of_program, Token}
use Rattle.language.specs.Tokens as tokens
use Rattle.language.specs.Program.{Param, pe, pa}
use Rattle.language.specs.Source.{SExp, exp, exps}
use Rattle.syntax.specs.Twins.Standing.{WordAt, ExpAt, symbol_at, cons_at, ExpsAt}
use Rattle.syntax.specs.Twins.Standing as at
use Rattle.syntax.proofs.EndsLaws.{exp_end}
use Rattle.syntax.proofs.Placed.{exp_placed}
use Rattle.syntax.proofs.CheckLaws.{exp_least}
use Rattle.linking.specs.Twins.Code.{link, link_at}
use Rattle.linking.specs.Twins.Linking.{place_of}
use Rattle.linking.specs.Twins.Linked.{place_in, ExpLinked, sym_linked, e_linked, a_linked, cons_linked, ExpsLinked, none_linked, more_linked}
use Rattle.linking.proofs.TokenLaws.{TokensIn, IsName, e_name, a_name, link_of, past_one, word_link, cons_link, symbol_link, ename_link, aname_link}
use Rattle.linking.proofs.NameLaws.{Names, place_most, place_is}

pub below_cell : (m : ℕ) → m < 65536 → m % 65536 ≡ m
below_cell m l = omega arith

module _ {tok : ℕ → Token} {n : ℕ} {marks nums ends : List ℕ} (t : TokensIn tok n marks nums ends) {names : List ℕ} {used m : ℕ} {sc : List Param} (h : Names tok n names used m sc) (g : List ℕ) where
  -- the tokens from i up to k have their links
  abbrev pub Each : ℕ → ℕ → Type 0
  Each i k = (j : ℕ) → i ≤ j → j < k → link_at g j ≡ link_of t names used j

  -- a name's place fits a cell
  pub in_place : (i : ℕ) (x : Param) → IsName tok n i x → link 2 (place_of marks nums names used i % 65536) 0 (i + 1) ≡ link 2 (place_in x sc) 0 (i + 1)
  in_place i x is =
      let c = h.count in let r = h.room in let k = place_most x sc in
      rw (place_is t h is, below_cell (place_in x sc) (omega arith))

  ends_before : (w : String) (i : ℕ) → WordAt tok n w i → eqb (tokens.key_of (txt w)) 1 ≡ false → get_or ends i 0 ≡ i + 1
  ends_before w i x b = past_one t names used i x.below (rw (eqb-true (tok i).key (tokens.key_of (txt w)) x.key) b)

  pub exp_linked : {room i : ℕ} {c : SExp} {k : ℕ} → ExpAt tok n of_program room i c k → Each i k → ExpLinked g sc i (exp c) k
  exp_linked {i = i} (symbol_at b x) f = sym_linked (f i (omega arith) (omega arith) ∙ symbol_link t names used i x)
  exp_linked {i = i} (at.ExpAt.e_at b x) f = e_linked (f i (omega arith) (omega arith) ∙ ename_link t names used i x ∙ in_place i (pe (tok i).num) (e_name x))
  exp_linked {i = i} (at.ExpAt.a_at b x) f = a_linked (f i (omega arith) (omega arith) ∙ aname_link t names used i x ∙ in_place i (pa (tok i).num) (a_name x))
  exp_linked {i = i} (cons_at {j = j} {k = k} o w c d e) f =
      let x = exp_least c in let y = exp_least d in
      let p = t.ended i o.below ∙ exp_end tok n t.unbracketed (exp_placed (cons_at o w c d e)) in
      cons_linked (f i (omega arith) (omega arith) ∙ word_link t names used "(" i o (omega arith) refl ∙ ap (λ (z : ℕ). link 0 0 0 z) p)
      (f (i + 1) (omega arith) (omega arith) ∙ cons_link t names used (i + 1) w ∙ ap (λ (z : ℕ). link 1 4 0 z) (omega arith))
      (exp_linked c (λ z a b. f z (omega arith) (omega arith))) (exp_linked d (λ z a b. f z (omega arith) (omega arith)))
      (f k (omega arith) (omega arith) ∙ word_link t names used ")" k e (omega arith) refl ∙ ap (λ (z : ℕ). link 0 0 0 z) (ends_before ")" k e refl))

  pub exps_least : {room i : ℕ} {cs : List SExp} {k : ℕ} → ExpsAt tok n of_program "]" room i cs k → (i ≤ k) × (k < n)
  exps_least (at.ExpsAt.none_at x) = (omega arith, x.below)
  exps_least (at.ExpsAt.more_at b c cs) = let x = exp_least c in let y = exps_least cs in (omega (arith, y.0), y.1)

  pub exps_linked : {room i : ℕ} {cs : List SExp} {k : ℕ} → ExpsAt tok n of_program "]" room i cs k → Each i k → ExpsLinked g sc i (exps cs) k
  exps_linked (at.ExpsAt.none_at x) f = none_linked
  exps_linked (at.ExpsAt.more_at b c cs) f =
      let x = exp_least c in let y = (exps_least cs).0 in more_linked (exp_linked c (λ z a b. f z (omega arith) (omega arith))) (exps_linked cs (λ z a b. f z (omega arith) (omega arith)))
