-- The grammar by positions: what a reader comes to that builds nothing and keeps an index into the tokens.
-- A function of the code that reads has one of these for its contract; syntax/proofs/GrammarTracks.antt: they do what the grammar does.
use Rattle.std.specs.Prelude.{ℕ, zero, suc, ◌+◌, ◌-◌, Bool, true, false, Result, Ok, Err}
use Prim.Native.String.{String}
use Rattle.language.specs.Words.{Fit, fits, broken, long, many}
use Rattle.language.specs.Tokens.{Kind, symbol, ename, aname, evariable, avariable, plain, Token}
use Rattle.language.specs.Reader.{is, is_a, fit_if, roomed, one_fit}
use Rattle.language.specs.Grammar.{is_end}
use Rattle.refusals.specs.declared.refusal.Refusal.{Refusal}
use Rattle.refusals.specs.Faults.{fault}

-- what comes behind, from the index where the first ended
abbrev pub on_past : (ℕ → Result ℕ Refusal) → Result ℕ Refusal → Result ℕ Refusal
on_past q (Ok i) = q i
on_past q (Err r) = Err r

-- 3, 4, 5, or one token on
abbrev pub judged_at : Fit → Bool → ℕ → ℕ → Result ℕ Refusal
judged_at broken over at i = fault 3 at
judged_at long over at i = fault 4 at
judged_at many over at i = fault 5 at
judged_at fits true at i = fault 5 at
judged_at fits false at i = Ok (i + 1)

-- what stands past the last token: nothing that fits anywhere
abbrev pub nothing : Token
nothing = record { key = 18; kind = plain; fit = broken; num = 0; at = 0; over = false }

abbrev pub seq_p : (ℕ → Result ℕ Refusal) → (ℕ → Result ℕ Refusal) → ℕ → Result ℕ Refusal
seq_p p q i = on_past q (p i)

abbrev pub pick_p : Bool → (ℕ → Result ℕ Refusal) → (ℕ → Result ℕ Refusal) → ℕ → Result ℕ Refusal
pick_p true p q i = p i
pick_p false p q i = q i

-- `tok i` is the token at i
module _ (tok : ℕ → Token) where
  abbrev pub take_p : (Token → Fit) → ℕ → Result ℕ Refusal
  take_p f i = judged_at (f (tok i)) (tok i).over (tok i).at i

  abbrev pub wrong_p : ℕ → Result ℕ Refusal
  wrong_p i = fault 3 (tok i).at

  abbrev pub choose_p : (Token → Bool) → (ℕ → Result ℕ Refusal) → (ℕ → Result ℕ Refusal) → ℕ → Result ℕ Refusal
  choose_p f p q i = pick_p (f (tok i)) p q i

  -- items up to the word that the test knows; n as in `many_in`
  abbrev pub many_p : ℕ → (Token → Bool) → (ℕ → Result ℕ Refusal) → ℕ → Result ℕ Refusal
  many_p zero f p i = wrong_p i
  many_p (suc n) f p i = choose_p f Ok (seq_p p (λ k. many_p n f p k)) i

  -- there are n tokens
  abbrev pub up_to_p : ℕ → String → (ℕ → Result ℕ Refusal) → ℕ → Result ℕ Refusal
  up_to_p n w p i = many_p (n - i) (is w) p i

-- `tok i` is the token at i, of n
module _ (tok : ℕ → Token) (n : ℕ) where
  abbrev pub the_in_p : ℕ → String → ℕ → Result ℕ Refusal
  the_in_p room w = take_p tok (λ t. roomed room (fit_if (is w t)))

  abbrev pub the_p : String → ℕ → Result ℕ Refusal
  the_p w = take_p tok (λ t. fit_if (is w t))

  abbrev pub word_p : Kind → ℕ → Result ℕ Refusal
  word_p k = take_p tok (one_fit 1 k)

  abbrev pub or_word_p : Kind → (ℕ → Result ℕ Refusal) → ℕ → Result ℕ Refusal
  or_word_p k p = choose_p tok (is_a k) (word_p k) p

  abbrev pub leaf_p : ℕ → Result ℕ Refusal
  leaf_p = or_word_p symbol (or_word_p ename (or_word_p aname (wrong_p tok)))

  abbrev pub leaf_dp : ℕ → Result ℕ Refusal
  leaf_dp = or_word_p symbol (or_word_p evariable (or_word_p avariable (wrong_p tok)))

  abbrev pub cons_p : (ℕ → Result ℕ Refusal) → ℕ → Result ℕ Refusal
  cons_p item = seq_p (the_p "cons") (seq_p item (seq_p item (the_p ")")))

  unfoldable pub tree_p : (ℕ → Result ℕ Refusal) → ℕ → ℕ → Result ℕ Refusal
  tree_p one zero i = choose_p tok (is "(") (seq_p (the_in_p 0 "(") (wrong_p tok)) one i
  tree_p one (suc room) i = choose_p tok (is "(") (seq_p (the_p "(") (cons_p (λ k. tree_p one room k))) one i

  abbrev pub expr_p : ℕ → ℕ → Result ℕ Refusal
  expr_p room i = tree_p leaf_p room i

  abbrev pub datum_p : ℕ → ℕ → Result ℕ Refusal
  datum_p room i = tree_p leaf_dp room i

  abbrev pub args_p : ℕ → ℕ → Result ℕ Refusal
  args_p zero = seq_p (the_in_p 0 "[") (wrong_p tok)
  args_p (suc room) = seq_p (the_p "[") (seq_p (up_to_p tok n "]" (expr_p room)) (the_p "]"))

  abbrev pub condition_p : ℕ → ℕ → Result ℕ Refusal
  condition_p zero = seq_p (the_in_p 0 "(") (wrong_p tok)
  condition_p (suc room) = seq_p (the_p "(") (seq_p
      (choose_p tok (is "eqa?") (seq_p (the_p "eqa?") (seq_p (expr_p room) (expr_p room)))
      (seq_p (the_p "cons?") (seq_p (expr_p room) (seq_p (word_p ename) (seq_p (word_p ename) (word_p aname))))))
      (the_p ")"))

  abbrev pub form_p : ℕ → (ℕ → Result ℕ Refusal) → ℕ → Result ℕ Refusal
  form_p room again =
      choose_p tok (is "call") (seq_p (the_p "call") (seq_p (word_p plain) (seq_p (args_p room) (the_p ")"))))
      (choose_p tok (is "if") (seq_p (the_p "if") (seq_p (condition_p room) (seq_p again (seq_p again (the_p ")")))))
      (cons_p (expr_p room)))

  unfoldable pub term_p : ℕ → ℕ → Result ℕ Refusal
  term_p zero i = expr_p zero i
  term_p (suc room) i = choose_p tok (is "(") (seq_p (the_p "(") (form_p room (λ k. term_p room k))) leaf_p i

  abbrev pub parameter_p : ℕ → ℕ → Result ℕ Refusal
  parameter_p room = choose_p tok (is_a ename) (take_p tok (one_fit room ename)) (take_p tok (one_fit room aname))

  unfoldable pub parameters_p : ℕ → ℕ → Result ℕ Refusal
  parameters_p zero i = choose_p tok (is "]") Ok (seq_p (parameter_p 0) (wrong_p tok)) i
  parameters_p (suc room) i = choose_p tok (is "]") Ok (seq_p (parameter_p 1) (λ k. parameters_p room k)) i

  unfoldable pub definition_p : ℕ → ℕ → Result ℕ Refusal
  definition_p room = seq_p (the_in_p room "(") (seq_p (the_p "define") (seq_p (word_p plain) (seq_p (the_p "[")
      (seq_p (parameters_p 16) (seq_p (the_p "]") (seq_p (term_p 63) (the_p ")")))))))

  unfoldable pub definitions_p : ℕ → ℕ → Result ℕ Refusal
  definitions_p zero i = choose_p tok is_end Ok (seq_p (definition_p 0) (wrong_p tok)) i
  definitions_p (suc room) i = choose_p tok is_end Ok (seq_p (definition_p 1) (λ k. definitions_p room k)) i

  unfoldable pub program_p : ℕ → Result ℕ Refusal
  program_p = seq_p (definition_p 1) (definitions_p 63)

  abbrev pub sides_p : ℕ → Result ℕ Refusal
  sides_p = seq_p (the_p "[") (seq_p (datum_p 61) (seq_p (datum_p 61) (the_p "]")))

  -- `(word ..)`
  abbrev pub part_p : String → (ℕ → Result ℕ Refusal) → ℕ → Result ℕ Refusal
  part_p w p = seq_p (the_p "(") (seq_p (the_p w) (seq_p p (the_p ")")))

  abbrev pub end_p : ℕ → Result ℕ Refusal
  end_p = choose_p tok is_end Ok (wrong_p tok)

  unfoldable pub job_p : ℕ → Result ℕ Refusal
  job_p = seq_p (the_p "(") (seq_p (the_p "job")
      (seq_p (part_p "in" (up_to_p tok n ")" (datum_p 62))) (seq_p (part_p "out" (datum_p 62)) (seq_p (part_p "neq" (up_to_p tok n ")" sides_p))
      (seq_p (part_p "steps" (word_p plain)) (seq_p (part_p "walk" (word_p plain)) (seq_p (part_p "table" (word_p plain)) (seq_p (the_p ")") end_p))))))))
