-- Tokens in storage: three cells a token, in three lists, and the readers over them.
use Rattle.std.specs.Prelude.{ℕ, ◌-◌, cond, List, ltb, get_or, Result}
use Rattle.std.proofs.Math.Dec.{eqb}
use Rattle.language.specs.Words.{broken}
use Rattle.language.specs.Tokens.{ename, aname, tag, Token}
use Rattle.language.specs.Reader.{is, fit_if, roomed}
use Rattle.words.specs.Twins.Marks.{decode}
use Rattle.refusals.specs.declared.refusal.Refusal.{Refusal}
use Rattle.refusals.specs.Faults.{fault}
use Rattle.grammar.specs.Twins.Positions.{nothing, take_p, seq_p, wrong_p, choose_p, many_p, the_p, word_p, tree_p, expr_p, args_p, condition_p, term_p, parameter_p, parameters_p, definition_p, definitions_p, program_p, sides_p, end_p, job_p}

-- past the end of the storage stands what no reader passes: no fixed word, plain, broken, one too many
abbrev pub mark_at : List ℕ → ℕ → ℕ
mark_at marks i = get_or marks i 1458

abbrev pub offset_at : List ℕ → ℕ → ℕ
offset_at ats i = get_or ats i 0

-- what a reader sees of the token at i: all but its number
abbrev pub seen : List ℕ → List ℕ → ℕ → Token
seen marks ats i = decode (mark_at marks i) 0 (offset_at ats i)

-- the token at i, of n
abbrev pub token_at : List ℕ → List ℕ → List ℕ → ℕ → ℕ → Token
token_at marks nums ats n i = cond (ltb i n) (decode (mark_at marks i) (get_or nums i 0) (offset_at ats i)) nothing

-- The readers of the code. Words go by their keys, kinds by their tags; at most 4,097 tokens are stored.
abbrev pub wrong_at : List ℕ → ℕ → Result ℕ Refusal
wrong_at ats i = fault 3 (offset_at ats i)

module _ (marks ats : List ℕ) where
  abbrev pub the_in_at : ℕ → ℕ → ℕ → Result ℕ Refusal
  the_in_at room w i = take_p (seen marks ats) (λ t. roomed room (fit_if (eqb t.key w))) i

  abbrev pub one_of_at : ℕ → ℕ → ℕ → Result ℕ Refusal
  one_of_at room k i = take_p (seen marks ats) (λ t. roomed room (cond (eqb (tag t.kind) k) t.fit broken)) i

  -- `leaf_p` with the tags 1 and 2, `leaf_dp` with 3 and 4
  abbrev pub or_word_at : ℕ → (ℕ → Result ℕ Refusal) → ℕ → Result ℕ Refusal
  or_word_at k p i = choose_p (seen marks ats) (λ t. eqb (tag t.kind) k) (one_of_at 1 k) p i

  abbrev pub leaf_at : ℕ → ℕ → ℕ → Result ℕ Refusal
  leaf_at e a i = or_word_at 0 (or_word_at e (or_word_at a (wrong_p (seen marks ats)))) i

  unfoldable pub tree_at : ℕ → ℕ → ℕ → ℕ → Result ℕ Refusal
  unfolding tree_p
  tree_at e a room i = tree_p (seen marks ats) 4097 (leaf_at e a) room i

  -- trees up to the word `close`, as many as `fuel` at most
  unfoldable pub trees_at : ℕ → ℕ → ℕ → ℕ → ℕ → ℕ → Result ℕ Refusal
  unfolding tree_at
  trees_at close e a room fuel i = many_p (seen marks ats) fuel (λ t. eqb t.key close) (tree_at e a room) i

  unfoldable pub args_at : ℕ → ℕ → Result ℕ Refusal
  args_at room i = args_p (seen marks ats) 4097 room i

  -- what stands in the brackets of a condition
  unfoldable pub test_at : ℕ → ℕ → Result ℕ Refusal
  test_at room i =
      choose_p (seen marks ats) (is "eqa?") (seq_p (the_p (seen marks ats) 4097 "eqa?") (seq_p (expr_p (seen marks ats) 4097 room) (expr_p (seen marks ats) 4097 room)))
      (seq_p (the_p (seen marks ats) 4097 "cons?") (seq_p (expr_p (seen marks ats) 4097 room)
      (seq_p (word_p (seen marks ats) 4097 ename) (seq_p (word_p (seen marks ats) 4097 ename) (word_p (seen marks ats) 4097 aname))))) i

  unfoldable pub condition_at : ℕ → ℕ → Result ℕ Refusal
  condition_at room i = condition_p (seen marks ats) 4097 room i

  unfoldable pub term_at : ℕ → ℕ → Result ℕ Refusal
  term_at room i = term_p (seen marks ats) 4097 room i

  -- the three forms of a term behind its bracket
  unfoldable pub call_at : ℕ → ℕ → Result ℕ Refusal
  unfolding args_at
  call_at room i = seq_p (the_in_at 1 6) (seq_p (one_of_at 1 5) (seq_p (args_at room) (the_in_at 1 2))) i

  unfoldable pub conditional_at : ℕ → ℕ → Result ℕ Refusal
  unfolding condition_at term_at
  conditional_at room i = seq_p (the_in_at 1 7) (seq_p (condition_at room) (seq_p (term_at room) (seq_p (term_at room) (the_in_at 1 2)))) i

  unfoldable pub pair_at : ℕ → ℕ → Result ℕ Refusal
  unfolding tree_at
  pair_at room i = seq_p (the_in_at 1 8) (seq_p (tree_at 1 2 room) (seq_p (tree_at 1 2 room) (the_in_at 1 2))) i

  unfoldable pub parameter_at : ℕ → ℕ → Result ℕ Refusal
  parameter_at room i = parameter_p (seen marks ats) 4097 room i

  unfoldable pub parameters_at : ℕ → ℕ → Result ℕ Refusal
  unfolding parameters_p
  parameters_at room i = parameters_p (seen marks ats) 4097 room i

  unfoldable pub definition_at : ℕ → ℕ → Result ℕ Refusal
  unfolding definition_p
  definition_at room i = definition_p (seen marks ats) 4097 room i

  unfoldable pub definitions_at : ℕ → ℕ → Result ℕ Refusal
  unfolding definitions_p
  definitions_at room i = definitions_p (seen marks ats) 4097 room i

  unfoldable pub program_at : ℕ → Result ℕ Refusal
  unfolding program_p
  program_at i = program_p (seen marks ats) 4097 i

  unfoldable pub sides_at : ℕ → Result ℕ Refusal
  sides_at i = sides_p (seen marks ats) 4097 i

  -- pairs of sides up to the closing bracket, as many as `fuel` at most
  unfoldable pub pairs_at : ℕ → ℕ → Result ℕ Refusal
  unfolding sides_at
  pairs_at fuel i = many_p (seen marks ats) fuel (is ")") sides_at i

  -- a part of a job: `(`, the word with this key, what p reads, `)`
  abbrev pub part_at : ℕ → (ℕ → Result ℕ Refusal) → ℕ → Result ℕ Refusal
  part_at w p i = seq_p (the_in_at 1 1) (seq_p (the_in_at 1 w) (seq_p p (the_in_at 1 2))) i

  unfoldable pub inputs_at : ℕ → Result ℕ Refusal
  unfolding trees_at
  inputs_at i = part_at 12 (λ k. trees_at 2 3 4 62 (4097 - k) k) i

  unfoldable pub output_at : ℕ → Result ℕ Refusal
  unfolding tree_at
  output_at i = part_at 13 (tree_at 3 4 62) i

  unfoldable pub non_equalities_at : ℕ → Result ℕ Refusal
  unfolding pairs_at
  non_equalities_at i = part_at 14 (λ k. pairs_at (4097 - k) k) i

  unfoldable pub numeral_at : ℕ → ℕ → Result ℕ Refusal
  numeral_at w i = part_at w (one_of_at 1 5) i

  unfoldable pub end_at : ℕ → Result ℕ Refusal
  end_at i = end_p (seen marks ats) 4097 i

  unfoldable pub job_at : ℕ → Result ℕ Refusal
  unfolding job_p
  job_at i = job_p (seen marks ats) 4097 i
