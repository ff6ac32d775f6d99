-- What stands in the tokens of a program is placed there as specs/Twins/Placed.antt says; what the first tokens of a term say of it.
use Prim.Native.Nat.{ℕ, ◌+◌}
use mathlib.Core.List.{List}
use native.Mathlib.Nat.{add_assoc}
use Rattle.language.specs.Program.{Condition, Term}
use Rattle.language.specs.Tokens.{Text, of_program, Token}
use Rattle.language.specs.Reader.{is}
use Rattle.language.specs.Source.{SExp, SCondition, STerm, SParam, SDef, exp, exps, condition, term, params, prog_of}
use Rattle.syntax.specs.Twins.Standing as at
use Rattle.syntax.specs.Twins.Standing.{WordAt, ExpAt, ExpsAt, ConditionAt, TermAt, ParamsAt, DefAt, HeadsAt}
use Rattle.syntax.specs.Twins.Placed.{ExpIn, symbol_in, cons_in, ExpsIn, ConditionIn, eqa_in, consp_in, TermIn, call_in, if_in, result_in, ParamsIn, DefIn, DefsIn, View, leaf_view, call_view, if_view, cons_view, ConditionView, eqa_view, consp_view}
use Rattle.syntax.specs.Twins.Placed as placed
use Rattle.syntax.proofs.CheckLaws.{is_other_lem}

module _ {tok : ℕ → Token} {n : ℕ} where
  pub exp_placed : {text : Text} {room i : ℕ} {c : SExp} {k : ℕ} → ExpAt tok n text room i c k → ExpIn tok n text i (exp c) k
  exp_placed (at.ExpAt.symbol_at b x) = symbol_in b x
  exp_placed (at.ExpAt.e_at b x) = placed.ExpIn.e_in b x
  exp_placed (at.ExpAt.a_at b x) = placed.ExpIn.a_in b x
  exp_placed (at.ExpAt.cons_at o w c d e) = cons_in o w (exp_placed c) (exp_placed d) e

  pub exps_placed : {room i : ℕ} {cs : List SExp} {k : ℕ} → ExpsAt tok n of_program "]" room i cs k → ExpsIn tok n i (exps cs) k
  exps_placed (at.ExpsAt.none_at x) = placed.ExpsIn.none_in x
  exps_placed (at.ExpsAt.more_at b x xs) = placed.ExpsIn.more_in b (exp_placed x) (exps_placed xs)

  pub condition_placed : {room i : ℕ} {q : SCondition} {k : ℕ} → ConditionAt tok n room i q k → ConditionIn tok n i (condition q) k
  condition_placed (at.ConditionAt.eqa_at o w c d e) = eqa_in o w (exp_placed c) (exp_placed d) e
  condition_placed (at.ConditionAt.consp_at o w c h t x e) = consp_in o w (exp_placed c) h t x e

  pub term_placed : {room i : ℕ} {t : STerm} {k : ℕ} (fs : List ℕ) → TermAt tok n room i t k → TermIn tok n fs i (term fs t) k
  term_placed fs (at.TermAt.call_at o w f b x c) = call_in o w f b (exps_placed x) c
  term_placed fs (at.TermAt.if_at o w q s u c) = if_in o w (condition_placed q) (term_placed fs s) (term_placed fs u) c
  term_placed fs (at.TermAt.result_at x) = result_in (exp_placed x)

  pub params_placed : {i : ℕ} {xs : List SParam} {k : ℕ} → ParamsAt tok n i xs k → ParamsIn tok n i (params xs) k
  params_placed (at.ParamsAt.none_at x) = placed.ParamsIn.none_in x
  params_placed (at.ParamsAt.e_at b x xs) = placed.ParamsIn.e_in b x (params_placed xs)
  params_placed (at.ParamsAt.a_at b x xs) = placed.ParamsIn.a_in b x (params_placed xs)

  pub defs_placed : {heads : List ℕ} {j : ℕ} {ds : List SDef} (fs : List ℕ) → HeadsAt tok n heads j ds → DefsIn tok n fs heads j (prog_of fs ds)
  defs_placed fs at.HeadsAt.none_at = placed.DefsIn.none_in
  defs_placed {heads} {j = g} fs (at.HeadsAt.more_at (at.DefAt.define_at {j = j} {k = k} {xs = xs} {t = t} o w f b p l s c) e hs) =
      placed.DefsIn.more_in {j = g} {d = record { params = params xs; body = term fs t }}
      (rw e (record { close = j; past = k; name = f; params = simp add_assoc (params_placed p); body = term_placed fs s })) (defs_placed fs hs)

  -- what the first tokens of a term say
  pub term_view : {fs : List ℕ} {i : ℕ} {t : Term} {k : ℕ} → TermIn tok n fs i t k → View tok n fs (is "(" (tok i)) (is "call" (tok (i + 1))) (is "if" (tok (i + 1))) i t k
  term_view {fs} {i} (call_in o w f b x c) = rw (o.key, w.key) (call_view x)
  term_view {fs} {i} (if_in o w q s u c) = rw (o.key, is_other_lem "if" "call" (tok (i + 1)) w.key, w.key) (if_view q s u)
  term_view {fs} {i} (result_in (placed.ExpIn.symbol_in b x)) = rw b (leaf_view (symbol_in b x))
  term_view {fs} {i} (result_in (placed.ExpIn.e_in b x)) = rw b (leaf_view (placed.ExpIn.e_in b x))
  term_view {fs} {i} (result_in (placed.ExpIn.a_in b x)) = rw b (leaf_view (placed.ExpIn.a_in b x))
  term_view {fs} {i} (result_in (cons_in o w c d e)) =
      rw (o.key, is_other_lem "cons" "call" (tok (i + 1)) w.key, is_other_lem "cons" "if" (tok (i + 1)) w.key) (cons_view (cons_in o w c d e))

  pub condition_view : {i : ℕ} {q : Condition} {k : ℕ} → ConditionIn tok n i q k → ConditionView tok n (is "eqa?" (tok (i + 1))) i q k
  condition_view (eqa_in o w c d e) = rw w.key (eqa_view c d)
  condition_view {i} (consp_in o w c h t x e) = rw (is_other_lem "cons?" "eqa?" (tok (i + 1)) w.key) (consp_view c)
