-- What stands linked in code stands so in any code that agrees with it there.
use Prim.Native.Nat.{ℕ, ◌≤◌, ◌<◌}
use mathlib.Core.Path.{◌∙◌}
use mathlib.Core.List.{List}
use native.Mathlib.Omega.{arith}
use Rattle.expressions.specs.Expression.{Exp}
use Rattle.language.specs.Program.{Term, Param, Prog}
use Rattle.linking.specs.Twins.Linked.{ExpLinked, sym_linked, e_linked, a_linked, cons_linked, ExpsLinked, none_linked, more_linked, TermLinked, call_linked, same_linked, test_linked, result_linked}
use Rattle.linking.proofs.CodeLaws.{Agree, Wrote}

agree_less : {a b c d : ℕ} {code g : List ℕ} → a ≤ c → d ≤ b → Agree a b code g → Agree c d code g
agree_less p q h = record { same = λ j l m. h.same j (omega arith) (omega arith) }

pub before_agrees : {a c d : ℕ} {code g : List ℕ} → Wrote a code g → d ≤ a → Agree c d code g
before_agrees w p = record { same = λ j l m. w.before j (omega arith) }

module _ (code : List ℕ) (sc : List Param) where
  pub exp_goes_on : {i : ℕ} {c : Exp} {k : ℕ} → ExpLinked code sc i c k → i < k
  exp_goes_on (sym_linked e) = omega arith
  exp_goes_on (e_linked e) = omega arith
  exp_goes_on (a_linked e) = omega arith
  exp_goes_on (cons_linked o w c d e) = let x = exp_goes_on c in let y = exp_goes_on d in omega arith

  pub exp_agrees : {i : ℕ} {c : Exp} {k : ℕ} {g : List ℕ} → ExpLinked code sc i c k → Agree i k code g → ExpLinked g sc i c k
  exp_agrees (sym_linked e) h = sym_linked (h.same _ (omega arith) (omega arith) ∙ e)
  exp_agrees (e_linked e) h = e_linked (h.same _ (omega arith) (omega arith) ∙ e)
  exp_agrees (a_linked e) h = a_linked (h.same _ (omega arith) (omega arith) ∙ e)
  exp_agrees (cons_linked o w c d e) h =
      let x = exp_goes_on c in let y = exp_goes_on d in
      cons_linked (h.same _ (omega arith) (omega arith) ∙ o) (h.same _ (omega arith) (omega arith) ∙ w) (exp_agrees c (agree_less (omega arith) (omega arith) h))
      (exp_agrees d (agree_less (omega arith) (omega arith) h)) (h.same _ (omega arith) (omega arith) ∙ e)

  pub exps_go_on : {i : ℕ} {cs : List Exp} {k : ℕ} → ExpsLinked code sc i cs k → i ≤ k
  exps_go_on none_linked = omega arith
  exps_go_on (more_linked c cs) = let x = exp_goes_on c in let y = exps_go_on cs in omega arith

  pub exps_agree : {i : ℕ} {cs : List Exp} {k : ℕ} {g : List ℕ} → ExpsLinked code sc i cs k → Agree i k code g → ExpsLinked g sc i cs k
  exps_agree none_linked h = none_linked
  exps_agree (more_linked c cs) h =
      let x = exp_goes_on c in let y = exps_go_on cs in more_linked (exp_agrees c (agree_less (omega arith) (omega arith) h)) (exps_agree cs (agree_less (omega arith) (omega arith) h))

module _ (p : Prog) (bodies : ℕ → ℕ) (code : List ℕ) where
  pub term_goes_on : {sc : List Param} {i : ℕ} {t : Term} {k : ℕ} → TermLinked p bodies code sc i t k → i < k
  term_goes_on (call_linked l cs) = let x = exps_go_on code _ cs in omega arith
  term_goes_on (same_linked l c d s t) = let x = exp_goes_on code _ c in let y = exp_goes_on code _ d in let z = term_goes_on s in let w = term_goes_on t in omega arith
  term_goes_on (test_linked l c h t x s u) = let y = exp_goes_on code _ c in let z = term_goes_on s in let w = term_goes_on u in omega arith
  term_goes_on (result_linked c) = exp_goes_on code _ c

  pub term_agrees : {sc : List Param} {i : ℕ} {t : Term} {k : ℕ} {g : List ℕ} → TermLinked p bodies code sc i t k → Agree i k code g → TermLinked p bodies g sc i t k
  term_agrees (call_linked l cs) a =
      let x = exps_go_on code _ cs in call_linked (λ f. a.same _ (omega arith) (omega arith) ∙ l f) (exps_agree code _ cs (agree_less (omega arith) (omega arith) a))
  term_agrees (same_linked l c d s t) a =
      let x = exp_goes_on code _ c in let y = exp_goes_on code _ d in let z = term_goes_on s in let w = term_goes_on t in
      same_linked (a.same _ (omega arith) (omega arith) ∙ l) (exp_agrees code _ c (agree_less (omega arith) (omega arith) a)) (exp_agrees code _ d (agree_less (omega arith) (omega arith) a))
      (term_agrees s (agree_less (omega arith) (omega arith) a)) (term_agrees t (agree_less (omega arith) (omega arith) a))
  term_agrees (test_linked l c h t x s u) a =
      let y = exp_goes_on code _ c in let z = term_goes_on s in let w = term_goes_on u in
      test_linked (a.same _ (omega arith) (omega arith) ∙ l) (exp_agrees code _ c (agree_less (omega arith) (omega arith) a)) h t x (term_agrees s (agree_less (omega arith) (omega arith) a)) (term_agrees u (agree_less (omega arith) (omega arith) a))
  term_agrees (result_linked c) a = result_linked (exp_agrees code _ c a)
