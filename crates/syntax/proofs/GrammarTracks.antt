-- The readers by positions track those of the grammar.
use Prim.Native.Nat.{ℕ, zero, suc}
use Prim.Native.String.{String}
use mathlib.Core.Path.{◌≡◌, refl, ap, ◌∙◌}
use mathlib.Core.Bool.{false, cond}
use mathlib.Core.List.{List, [], ◌∷◌}
use native.Mathlib.Omega.{arith}
use lib.ListN.{length}
use Rattle.language.specs.Words.{broken}
use Rattle.language.specs.Tokens.{Kind, symbol, ename, aname, evariable, avariable, plain, Token}
use Rattle.language.specs.Reader.{Reader, ◌>>=◌, ◌>>◌, give, take, wrong, choose, is, is_a, fit_if, roomed, one_fit, the, the_in, up_to}
use Rattle.syntax.proofs.Advances.{Advances, fewer, give_advances, bind_advances, then_advances, choose_advances, up_to_advances}
use Rattle.language.specs.Source.{Stand, SExp, sym_s, evar_s, avar_s, pair_s, SCondition, eqa_s, consp_s, STerm, call_s, conditional_s, result_s, SParam, SDef, SJob}
use Rattle.language.specs.Grammar.{standing, word, or_word, leaf, leaf_d, cons_at, tree, expr, datum, args, condition, form, term, parameter, parameters, definition, is_end, definitions, program, sides, part, job_text}
use Rattle.syntax.proofs.GrammarAdvances.{takes, word_advances, tree_advances, leaf_advances, leaf_d_advances, expr_advances, datum_advances, args_advances, condition_advances, term_advances, cons_advances, parameter_advances, parameters_advances, definition_advances, definitions_advances, sides_advances, part_advances}
use Rattle.refusals.specs.declared.refusal.Refusal.{Refusal}
use Rattle.std.specs.Prelude.{Result, Ok}
use Rattle.grammar.specs.Twins.Positions.{nothing, take_p, seq_p, wrong_p, choose_p, up_to_p}
use Rattle.grammar.specs.Twins.Positions as at
use Rattle.syntax.proofs.Tracks.{token_at, Tracks, give_tracks, wrong_tracks, take_tracks, choose_tracks, bind_tracks, then_tracks, last_tracks, up_to_tracks}

module _ (ts : List Token) where
  or_word_tracks : (k : Kind) → is_a k nothing ≡ false → (f : Stand → SExp) (m : Reader SExp) (p : ℕ → Result ℕ Refusal) → Tracks ts m p → Tracks ts (or_word k f m) (at.or_word_p (token_at ts) (length ts) k p)
  or_word_tracks k z f m p h = choose_tracks ts (is_a k) z (word k >>= λ x. give (f x)) m (at.word_p (token_at ts) (length ts) k) p
      (last_tracks ts (word k) f (at.word_p (token_at ts) (length ts) k) (fewer 0 1 (word k) (omega arith) (word_advances k))
      (last_tracks ts (take (one_fit 1 k)) _ (at.word_p (token_at ts) (length ts) k) (takes _) (take_tracks ts (one_fit 1 k) (ap (λ b. cond b broken broken) z)))) h

  word_tracks : (k : Kind) → one_fit 1 k nothing ≡ broken → Tracks ts (word k) (at.word_p (token_at ts) (length ts) k)
  word_tracks k z = last_tracks ts (take (one_fit 1 k)) standing (at.word_p (token_at ts) (length ts) k) (takes _) (take_tracks ts (one_fit 1 k) z)

  leaf_tracks : Tracks ts leaf (at.leaf_p (token_at ts) (length ts))
  leaf_tracks = or_word_tracks symbol refl sym_s _ _ (or_word_tracks ename refl evar_s _ _ (or_word_tracks aname refl avar_s _ _ (wrong_tracks ts SExp)))

  -- a fixed word
  the_tracks : (w : String) → is w nothing ≡ false → Tracks ts (the w) (at.the_p (token_at ts) (length ts) w)
  the_tracks w z = take_tracks ts _ (ap fit_if z)

  roomed_broken : (room : ℕ) → roomed room broken ≡ broken
  roomed_broken zero = refl
  roomed_broken (suc room) = refl

  the_in_tracks : (room : ℕ) (w : String) → is w nothing ≡ false → Tracks ts (the_in room w) (at.the_in_p (token_at ts) (length ts) room w)
  the_in_tracks room w z = take_tracks ts _ (ap (λ b. roomed room (fit_if b)) z ∙ roomed_broken room)

  -- a closing bracket, and what it gives
  closing : {B : Type 0} (w : String) → is w nothing ≡ false → (b : B) → Tracks ts (the w >> give b) (at.the_p (token_at ts) (length ts) w)
  closing w z b = last_tracks ts (the w) (λ t. b) (at.the_p (token_at ts) (length ts) w) (takes _) (the_tracks w z)

  cons_tracks : (o : ℕ) (item : Reader SExp) (p : ℕ → Result ℕ Refusal) → Advances 0 item → Tracks ts item p → Tracks ts (cons_at o item) (at.cons_p (token_at ts) (length ts) p)
  cons_tracks o item p a h = then_tracks ts (the "cons") _ (at.the_p (token_at ts) (length ts) "cons") _ (takes _) (the_tracks "cons" refl)
      (bind_tracks ts item _ p _ a h (λ c. bind_tracks ts item _ p (at.the_p (token_at ts) (length ts) ")") a h (λ d. closing ")" refl (pair_s o c d))))

  tree_tracks : (m : Reader SExp) (p : ℕ → Result ℕ Refusal) → Advances 1 m → Tracks ts m p → (room : ℕ) → Tracks ts (tree m room) (at.tree_p (token_at ts) (length ts) p room)
  unfolding tree at.tree_p
  tree_tracks m p a h zero = choose_tracks ts (is "(") refl (the_in 0 "(" >> wrong) m _ p
      (then_tracks ts (the_in 0 "(") wrong _ (wrong_p (token_at ts)) (takes _) (the_in_tracks 0 "(" refl) (wrong_tracks ts SExp)) h
  tree_tracks m p a h (suc room) = choose_tracks ts (is "(") refl (the "(" >>= λ o. cons_at o.at (λ us. tree m room us)) m _ p
      (bind_tracks ts (the "(") (λ o. cons_at o.at (λ us. tree m room us)) (at.the_p (token_at ts) (length ts) "(") _ (takes _) (the_tracks "(" refl)
      (λ o. cons_tracks o.at (λ us. tree m room us) (λ k. at.tree_p (token_at ts) (length ts) p room k)
      (fewer 0 1 (tree m room) (omega arith) (tree_advances m a room)) (tree_tracks m p a h room))) h

  pub expr_tracks : (room : ℕ) → Tracks ts (expr room) (at.expr_p (token_at ts) (length ts) room)
  unfolding expr
  expr_tracks room = tree_tracks leaf (at.leaf_p (token_at ts) (length ts)) leaf_advances leaf_tracks room

  leaf_d_tracks : Tracks ts leaf_d (at.leaf_dp (token_at ts) (length ts))
  leaf_d_tracks = or_word_tracks symbol refl sym_s _ _ (or_word_tracks evariable refl evar_s _ _ (or_word_tracks avariable refl avar_s _ _ (wrong_tracks ts SExp)))

  pub datum_tracks : (room : ℕ) → Tracks ts (datum room) (at.datum_p (token_at ts) (length ts) room)
  unfolding datum
  datum_tracks room = tree_tracks leaf_d (at.leaf_dp (token_at ts) (length ts)) leaf_d_advances leaf_d_tracks room

  some_expr : (room : ℕ) → Advances 0 (expr room)
  some_expr room = fewer 0 1 (expr room) (omega arith) (expr_advances room)

  some_word : (k : Kind) → Advances 0 (word k)
  some_word k = fewer 0 1 (word k) (omega arith) (word_advances k)

  args_tracks : (room : ℕ) → Tracks ts (args room) (at.args_p (token_at ts) (length ts) room)
  args_tracks zero = then_tracks ts (the_in 0 "[") wrong _ (wrong_p (token_at ts)) (takes _) (the_in_tracks 0 "[" refl) (wrong_tracks ts (List SExp))
  args_tracks (suc room) = then_tracks ts (the "[") _ (at.the_p (token_at ts) (length ts) "[") _ (takes _) (the_tracks "[" refl)
      (bind_tracks ts (up_to "]" (λ us. expr room us)) _ (up_to_p (token_at ts) (length ts) "]" (at.expr_p (token_at ts) (length ts) room)) (at.the_p (token_at ts) (length ts) "]")
      (up_to_advances "]" (expr room) (some_expr room)) (up_to_tracks ts "]" refl (expr room) (at.expr_p (token_at ts) (length ts) room) (some_expr room) (expr_tracks room))
      (λ cs. closing "]" refl cs))

  condition_tracks : (room : ℕ) → Tracks ts (condition room) (at.condition_p (token_at ts) (length ts) room)
  condition_tracks zero = then_tracks ts (the_in 0 "(") wrong _ (wrong_p (token_at ts)) (takes _) (the_in_tracks 0 "(" refl) (wrong_tracks ts SCondition)
  condition_tracks (suc room) = then_tracks ts (the "(") _ (at.the_p (token_at ts) (length ts) "(") _ (takes _) (the_tracks "(" refl)
      (bind_tracks ts either _ either_p (at.the_p (token_at ts) (length ts) ")") either_advances either_tracks (λ k. closing ")" refl k))
    where
      one : Reader SCondition
      one = the "eqa?" >> (expr room >>= λ c. expr room >>= λ d. give (eqa_s c d))

      two : Reader SCondition
      two = the "cons?" >> (expr room >>= λ c. word ename >>= λ h. word ename >>= λ t. word aname >>= λ x. give (consp_s c h t x))

      either : Reader SCondition
      either = choose (is "eqa?") one two

      either_p : ℕ → Result ℕ Refusal
      either_p = choose_p (token_at ts) (is "eqa?") (seq_p (at.the_p (token_at ts) (length ts) "eqa?") (seq_p (at.expr_p (token_at ts) (length ts) room) (at.expr_p (token_at ts) (length ts) room)))
          (seq_p (at.the_p (token_at ts) (length ts) "cons?") (seq_p (at.expr_p (token_at ts) (length ts) room) (seq_p (at.word_p (token_at ts) (length ts) ename) (seq_p (at.word_p (token_at ts) (length ts) ename) (at.word_p (token_at ts) (length ts) aname)))))

      either_tracks : Tracks ts either either_p
      either_tracks = choose_tracks ts (is "eqa?") refl one two _ _
          (then_tracks ts (the "eqa?") _ (at.the_p (token_at ts) (length ts) "eqa?") _ (takes _) (the_tracks "eqa?" refl)
          (bind_tracks ts (expr room) _ (at.expr_p (token_at ts) (length ts) room) (at.expr_p (token_at ts) (length ts) room) (some_expr room) (expr_tracks room)
          (λ c. last_tracks ts (expr room) (λ d. eqa_s c d) (at.expr_p (token_at ts) (length ts) room) (some_expr room) (expr_tracks room))))
          (then_tracks ts (the "cons?") _ (at.the_p (token_at ts) (length ts) "cons?") _ (takes _) (the_tracks "cons?" refl)
          (bind_tracks ts (expr room) _ (at.expr_p (token_at ts) (length ts) room) _ (some_expr room) (expr_tracks room) (λ c.
          bind_tracks ts (word ename) _ (at.word_p (token_at ts) (length ts) ename) _ (some_word ename) (word_tracks ename refl) (λ h.
          bind_tracks ts (word ename) _ (at.word_p (token_at ts) (length ts) ename) (at.word_p (token_at ts) (length ts) aname) (some_word ename) (word_tracks ename refl) (λ t.
          last_tracks ts (word aname) (λ x. consp_s c h t x) (at.word_p (token_at ts) (length ts) aname) (some_word aname) (word_tracks aname refl))))))

      either_advances : Advances 0 either
      either_advances = choose_advances 0 (is "eqa?") one two
          (then_advances 0 0 (the "eqa?") _ (takes _) (bind_advances 0 0 (expr room) _ (some_expr room) (λ c. bind_advances 0 0 (expr room) _ (some_expr room) (λ d. give_advances _))))
          (then_advances 0 0 (the "cons?") _ (takes _) (bind_advances 0 0 (expr room) _ (some_expr room) (λ c. bind_advances 0 0 (word ename) _ (some_word ename)
          (λ h. bind_advances 0 0 (word ename) _ (some_word ename) (λ t. bind_advances 0 0 (word aname) _ (some_word aname) (λ x. give_advances _))))))

  form_tracks : (room : ℕ) (again : Reader STerm) (p : ℕ → Result ℕ Refusal) → Advances 0 again → Tracks ts again p → (o : Token) → Tracks ts (form room again o) (at.form_p (token_at ts) (length ts) room p)
  form_tracks room again p a h o =
      choose_tracks ts (is "call") refl _ _ _ _
      (then_tracks ts (the "call") _ (at.the_p (token_at ts) (length ts) "call") _ (takes _) (the_tracks "call" refl)
      (bind_tracks ts (word plain) _ (at.word_p (token_at ts) (length ts) plain) _ (some_word plain) (word_tracks plain refl) (λ f.
      bind_tracks ts (args room) _ (at.args_p (token_at ts) (length ts) room) (at.the_p (token_at ts) (length ts) ")") (args_advances room) (args_tracks room) (λ cs. closing ")" refl (call_s f cs)))))
      (choose_tracks ts (is "if") refl _ _ _ _
      (then_tracks ts (the "if") _ (at.the_p (token_at ts) (length ts) "if") _ (takes _) (the_tracks "if" refl)
      (bind_tracks ts (condition room) _ (at.condition_p (token_at ts) (length ts) room) _ (condition_advances room) (condition_tracks room) (λ k.
      bind_tracks ts again _ p _ a h (λ s. bind_tracks ts again _ p (at.the_p (token_at ts) (length ts) ")") a h (λ t. closing ")" refl (conditional_s k s t))))))
      (last_tracks ts (cons_at o.at (λ us. expr room us)) (λ c. result_s c) _ (cons_advances o.at (expr room) (expr_advances room))
      (cons_tracks o.at (expr room) (at.expr_p (token_at ts) (length ts) room) (some_expr room) (expr_tracks room))))

  pub term_tracks : (room : ℕ) → Tracks ts (term room) (at.term_p (token_at ts) (length ts) room)
  unfolding term at.term_p
  term_tracks zero = last_tracks ts (expr zero) (λ c. result_s c) (at.expr_p (token_at ts) (length ts) zero) (some_expr zero) (expr_tracks zero)
  term_tracks (suc room) = choose_tracks ts (is "(") refl _ _ _ (at.leaf_p (token_at ts) (length ts))
      (bind_tracks ts (the "(") _ (at.the_p (token_at ts) (length ts) "(") _ (takes _) (the_tracks "(" refl)
      (form_tracks room (λ us. term room us) (λ k. at.term_p (token_at ts) (length ts) room k) (fewer 0 1 (term room) (omega arith) (term_advances room)) (term_tracks room)))
      (last_tracks ts leaf (λ c. result_s c) (at.leaf_p (token_at ts) (length ts)) (fewer 0 1 leaf (omega arith) leaf_advances) leaf_tracks)

  parameter_tracks : (room : ℕ) → Tracks ts (parameter room) (at.parameter_p (token_at ts) (length ts) room)
  parameter_tracks room = choose_tracks ts (is_a ename) refl _ _ _ _
      (last_tracks ts (take (one_fit room ename)) _ _ (takes _) (take_tracks ts (one_fit room ename) (roomed_broken room)))
      (last_tracks ts (take (one_fit room aname)) _ _ (takes _) (take_tracks ts (one_fit room aname) (roomed_broken room)))

  some_parameter : (room : ℕ) → Advances 0 (parameter room)
  some_parameter room = fewer 0 1 (parameter room) (omega arith) (parameter_advances room)

  parameters_tracks : (room : ℕ) → Tracks ts (parameters room) (at.parameters_p (token_at ts) (length ts) room)
  unfolding parameters at.parameters_p
  parameters_tracks zero = choose_tracks ts (is "]") refl _ _ Ok _ (give_tracks ts {A = List SParam} [])
      (then_tracks ts (parameter 0) wrong _ (wrong_p (token_at ts)) (some_parameter 0) (parameter_tracks 0) (wrong_tracks ts (List SParam)))
  parameters_tracks (suc room) = choose_tracks ts (is "]") refl _ _ Ok _ (give_tracks ts {A = List SParam} [])
      (bind_tracks ts (parameter 1) _ _ (λ k. at.parameters_p (token_at ts) (length ts) room k) (some_parameter 1) (parameter_tracks 1) (λ x.
      last_tracks ts (λ us. parameters room us) (λ xs. x ∷ xs) (λ k. at.parameters_p (token_at ts) (length ts) room k) (parameters_advances room) (parameters_tracks room)))

  definition_tracks : (room : ℕ) → Tracks ts (definition room) (at.definition_p (token_at ts) (length ts) room)
  unfolding definition at.definition_p
  definition_tracks room = then_tracks ts (the_in room "(") _ (at.the_in_p (token_at ts) (length ts) room "(") _ (takes _) (the_in_tracks room "(" refl)
      (then_tracks ts (the "define") _ (at.the_p (token_at ts) (length ts) "define") _ (takes _) (the_tracks "define" refl)
      (bind_tracks ts (word plain) _ (at.word_p (token_at ts) (length ts) plain) _ (some_word plain) (word_tracks plain refl) (λ f.
      then_tracks ts (the "[") _ (at.the_p (token_at ts) (length ts) "[") _ (takes _) (the_tracks "[" refl)
      (bind_tracks ts (parameters 16) _ (at.parameters_p (token_at ts) (length ts) 16) _ (parameters_advances 16) (parameters_tracks 16) (λ xs.
      then_tracks ts (the "]") _ (at.the_p (token_at ts) (length ts) "]") _ (takes _) (the_tracks "]" refl)
      (bind_tracks ts (term 63) _ (at.term_p (token_at ts) (length ts) 63) (at.the_p (token_at ts) (length ts) ")") (fewer 0 1 (term 63) (omega arith) (term_advances 63)) (term_tracks 63) (λ t.
      closing ")" refl _)))))))

  some_definition : (room : ℕ) → Advances 0 (definition room)
  some_definition room = fewer 0 1 (definition room) (omega arith) (definition_advances room)

  definitions_tracks : (room : ℕ) → Tracks ts (definitions room) (at.definitions_p (token_at ts) (length ts) room)
  unfolding definitions at.definitions_p
  definitions_tracks zero = choose_tracks ts is_end refl _ _ Ok _ (give_tracks ts {A = List SDef} [])
      (then_tracks ts (definition 0) wrong _ (wrong_p (token_at ts)) (some_definition 0) (definition_tracks 0) (wrong_tracks ts (List SDef)))
  definitions_tracks (suc room) = choose_tracks ts is_end refl _ _ Ok _ (give_tracks ts {A = List SDef} [])
      (bind_tracks ts (definition 1) _ _ (λ k. at.definitions_p (token_at ts) (length ts) room k) (some_definition 1) (definition_tracks 1) (λ d.
      last_tracks ts (λ us. definitions room us) (λ ds. d ∷ ds) (λ k. at.definitions_p (token_at ts) (length ts) room k) (definitions_advances room) (definitions_tracks room)))

  pub program_tracks : Tracks ts program (at.program_p (token_at ts) (length ts))
  unfolding program at.program_p
  program_tracks = bind_tracks ts (definition 1) _ (at.definition_p (token_at ts) (length ts) 1) (at.definitions_p (token_at ts) (length ts) 63) (some_definition 1) (definition_tracks 1)
      (λ d. last_tracks ts (definitions 63) (λ ds. record { main = d; others = ds }) (at.definitions_p (token_at ts) (length ts) 63) (definitions_advances 63) (definitions_tracks 63))

  part_tracks : {A : Type 0} (w : String) → is w nothing ≡ false → (m : Reader A) (p : ℕ → Result ℕ Refusal) → Advances 0 m → Tracks ts m p → Tracks ts (part w m) (at.part_p (token_at ts) (length ts) w p)
  part_tracks w z m p a h = then_tracks ts (the "(") _ (at.the_p (token_at ts) (length ts) "(") _ (takes _) (the_tracks "(" refl)
      (bind_tracks ts (the w) _ (at.the_p (token_at ts) (length ts) w) _ (takes _) (the_tracks w z) (λ t.
      bind_tracks ts m _ p (at.the_p (token_at ts) (length ts) ")") a h (λ b. closing ")" refl (t.at, b))))

  some_datum : (room : ℕ) → Advances 0 (datum room)
  some_datum room = fewer 0 1 (datum room) (omega arith) (datum_advances room)

  sides_tracks : Tracks ts sides (at.sides_p (token_at ts) (length ts))
  sides_tracks = then_tracks ts (the "[") _ (at.the_p (token_at ts) (length ts) "[") _ (takes _) (the_tracks "[" refl)
      (bind_tracks ts (datum 61) _ (at.datum_p (token_at ts) (length ts) 61) _ (some_datum 61) (datum_tracks 61) (λ c.
      bind_tracks ts (datum 61) _ (at.datum_p (token_at ts) (length ts) 61) (at.the_p (token_at ts) (length ts) "]") (some_datum 61) (datum_tracks 61) (λ d. closing "]" refl (c, d))))

  some_sides : Advances 0 sides
  some_sides = fewer 0 1 sides (omega arith) sides_advances

  some_items : {A : Type 0} (item : Reader A) → Advances 0 item → Advances 0 (up_to ")" item)
  some_items item h = up_to_advances ")" item h

  pub job_tracks : Tracks ts job_text (at.job_p (token_at ts) (length ts))
  unfolding job_text at.job_p
  job_tracks = then_tracks ts (the "(") _ _ _ (takes _) (the_tracks "(" refl) (then_tracks ts (the "job") _ _ _ (takes _) (the_tracks "job" refl)
      (bind_tracks ts (part "in" (up_to ")" (datum 62))) _ _ _ (part_advances "in" _ (some_items (datum 62) (some_datum 62)))
      (part_tracks "in" refl _ _ (some_items (datum 62) (some_datum 62)) (up_to_tracks ts ")" refl (datum 62) _ (some_datum 62) (datum_tracks 62))) (λ i.
      bind_tracks ts (part "out" (datum 62)) _ _ _ (part_advances "out" _ (some_datum 62)) (part_tracks "out" refl _ _ (some_datum 62) (datum_tracks 62)) (λ o.
      bind_tracks ts (part "neq" (up_to ")" sides)) _ _ _ (part_advances "neq" _ (some_items sides some_sides))
      (part_tracks "neq" refl _ _ (some_items sides some_sides) (up_to_tracks ts ")" refl sides _ some_sides sides_tracks)) (λ q.
      bind_tracks ts (part "steps" (word plain)) _ _ _ (part_advances "steps" _ (some_word plain)) (part_tracks "steps" refl _ _ (some_word plain) (word_tracks plain refl)) (λ m.
      bind_tracks ts (part "walk" (word plain)) _ _ _ (part_advances "walk" _ (some_word plain)) (part_tracks "walk" refl _ _ (some_word plain) (word_tracks plain refl)) (λ w.
      bind_tracks ts (part "table" (word plain)) _ _ _ (part_advances "table" _ (some_word plain)) (part_tracks "table" refl _ _ (some_word plain) (word_tracks plain refl)) (λ t.
      then_tracks ts (the ")") _ _ _ (takes _) (the_tracks ")" refl)
      (choose_tracks ts is_end refl _ _ Ok (wrong_p (token_at ts)) (give_tracks ts {A = SJob} (record { in_at = i.0; ins = i.1; out = o.1; neqs = q.1; steps = m.1; walk = w.1; table = t.1 })) (wrong_tracks ts SJob))))))))))
