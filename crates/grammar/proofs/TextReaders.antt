-- One step of the readers of definitions, programs and jobs over stored tokens.
use Prim.Native.Nat.{ℕ, zero, suc, ◌<◌, ◌≤◌, ◌+◌, ◌-◌, ◌%◌}
use mathlib.Core.Path.{◌≡◌, refl, ap, ◌∙◌}
use mathlib.Core.List.{List}
use Rattle.std.specs.Prelude.{Result, Ok}
use native.Mathlib.Omega.{arith}
use lib.Dec.{eqb}
use borrow.Author.Tests.{eq-eqb, ne_eqb}
use Rattle.language.specs.Tokens.{tag}
use Rattle.refusals.specs.declared.refusal.Refusal.{Refusal}
use Rattle.grammar.specs.Twins.Positions.{on_past, seq_p, pick_p, parameters_p, definition_p, definitions_p, program_p, job_p}
use Rattle.words.specs.Twins.Marks.{kind_at, kind_tag}
use Rattle.grammar.specs.Twins.Stored.{mark_at, wrong_at, the_in_at, one_of_at, tree_at, trees_at, term_at, parameter_at, parameters_at, definition_at, definitions_at, program_at, sides_at, pairs_at, part_at, inputs_at, output_at, non_equalities_at, numeral_at, end_at, job_at}
use Rattle.grammar.proofs.StoredReaders.{on_seq, tag_kind}
use Rattle.grammar.proofs.TermReaders.{on_seq3, on_seq4}

module _ (marks ats : List ℕ) where
  parameter_opens : (room i : ℕ) → parameter_at marks ats room i ≡ pick_p (eqb (tag (kind_at (kind_tag (mark_at marks i)))) 1) (one_of_at marks ats room 1) (one_of_at marks ats room 2) i
  unfolding parameter_at
  parameter_opens room i = refl

  pub parameter_e : (room i : ℕ) → kind_tag (mark_at marks i) ≡ 1 → parameter_at marks ats room i ≡ one_of_at marks ats room 1 i
  parameter_e room i z = parameter_opens room i ∙ ap (λ b. pick_p b (one_of_at marks ats room 1) (one_of_at marks ats room 2) i) (ap (λ k. eqb k 1) (tag_kind (mark_at marks i)) ∙ eq-eqb _ _ z)

  pub parameter_a : (room i : ℕ) → (kind_tag (mark_at marks i) ≡ 1 → ⊥) → parameter_at marks ats room i ≡ one_of_at marks ats room 2 i
  parameter_a room i z = parameter_opens room i ∙ ap (λ b. pick_p b (one_of_at marks ats room 1) (one_of_at marks ats room 2) i) (ap (λ k. eqb k 1) (tag_kind (mark_at marks i)) ∙ ne_eqb _ _ z)

  parameters_step : (n i : ℕ) → parameters_at marks ats (suc n) i ≡ pick_p (eqb (mark_at marks i % 32) 4) Ok (seq_p (parameter_at marks ats 1) (parameters_at marks ats n)) i
  unfolding parameters_at parameters_p parameter_at
  parameters_step n i = refl

  parameters_last : (i : ℕ) → parameters_at marks ats 0 i ≡ pick_p (eqb (mark_at marks i % 32) 4) Ok (seq_p (parameter_at marks ats 0) (wrong_at ats)) i
  unfolding parameters_at parameters_p parameter_at
  parameters_last i = refl

  -- at the turn k of n
  pub parameters_close : (n k i : ℕ) → mark_at marks i % 32 ≡ 4 → parameters_at marks ats (n - k) i ≡ Ok i
  parameters_close n k i z = go (n - k)
    where
      go : (m : ℕ) → parameters_at marks ats m i ≡ Ok i
      go zero = parameters_last i ∙ ap (λ b. pick_p b Ok (seq_p (parameter_at marks ats 0) (wrong_at ats)) i) (eq-eqb _ _ z)
      go (suc m) = parameters_step m i ∙ ap (λ b. pick_p b Ok (seq_p (parameter_at marks ats 1) (parameters_at marks ats m)) i) (eq-eqb _ _ z)

  pub parameters_on : (n k i : ℕ) → k < n → (mark_at marks i % 32 ≡ 4 → ⊥) → parameters_at marks ats (n - k) i ≡ on_past (parameters_at marks ats (n - (k + 1))) (parameter_at marks ats 1 i)
  parameters_on n k i h z =
      let d : n - k ≡ suc (n - (k + 1)) = omega arith in
      rw d (parameters_step (n - (k + 1)) i ∙ ap (λ b. pick_p b Ok (seq_p (parameter_at marks ats 1) (parameters_at marks ats (n - (k + 1)))) i) (ne_eqb _ _ z))

  pub parameters_full : (n k i : ℕ) → n ≤ k → (mark_at marks i % 32 ≡ 4 → ⊥) → parameters_at marks ats (n - k) i ≡ on_past (wrong_at ats) (parameter_at marks ats 0 i)
  parameters_full n k i h z =
      let d : n - k ≡ 0 = omega arith in
      rw d (parameters_last i ∙ ap (λ b. pick_p b Ok (seq_p (parameter_at marks ats 0) (wrong_at ats)) i) (ne_eqb _ _ z))

  pub definition_opens : (room i : ℕ) → definition_at marks ats room i ≡
      on_past (the_in_at marks ats 1 2) (on_past (term_at marks ats 63) (on_past (the_in_at marks ats 1 4) (on_past (parameters_at marks ats 16)
      (on_past (the_in_at marks ats 1 3) (on_past (one_of_at marks ats 1 5) (on_past (the_in_at marks ats 1 5) (the_in_at marks ats room 1 i)))))))
  unfolding definition_at definition_p term_at parameters_at
  definition_opens room i =
      let t = term_at marks ats 63 in
      let ps = parameters_at marks ats 16 in
      let rest = seq_p (the_in_at marks ats 1 4) (seq_p t (the_in_at marks ats 1 2)) in
      let g = the_in_at marks ats room 1 i in
      let listed = on_past (the_in_at marks ats 1 3) (on_past (one_of_at marks ats 1 5) (on_past (the_in_at marks ats 1 5) g)) in
      on_seq4 (the_in_at marks ats 1 5) (one_of_at marks ats 1 5) (the_in_at marks ats 1 3) (seq_p ps rest) g
      ∙ on_seq ps rest listed
      ∙ on_seq3 (the_in_at marks ats 1 4) t (the_in_at marks ats 1 2) (on_past ps listed)

  definitions_step : (n i : ℕ) → definitions_at marks ats (suc n) i ≡ pick_p (eqb (mark_at marks i % 32) 0) Ok (seq_p (definition_at marks ats 1) (definitions_at marks ats n)) i
  unfolding definitions_at definitions_p definition_at
  definitions_step n i = refl

  definitions_last : (i : ℕ) → definitions_at marks ats 0 i ≡ pick_p (eqb (mark_at marks i % 32) 0) Ok (seq_p (definition_at marks ats 0) (wrong_at ats)) i
  unfolding definitions_at definitions_p definition_at
  definitions_last i = refl

  -- at the turn k of n
  pub definitions_close : (n k i : ℕ) → mark_at marks i % 32 ≡ 0 → definitions_at marks ats (n - k) i ≡ Ok i
  definitions_close n k i z = go (n - k)
    where
      go : (m : ℕ) → definitions_at marks ats m i ≡ Ok i
      go zero = definitions_last i ∙ ap (λ b. pick_p b Ok (seq_p (definition_at marks ats 0) (wrong_at ats)) i) (eq-eqb _ _ z)
      go (suc m) = definitions_step m i ∙ ap (λ b. pick_p b Ok (seq_p (definition_at marks ats 1) (definitions_at marks ats m)) i) (eq-eqb _ _ z)

  pub definitions_on : (n k i : ℕ) → k < n → (mark_at marks i % 32 ≡ 0 → ⊥) → definitions_at marks ats (n - k) i ≡ on_past (definitions_at marks ats (n - (k + 1))) (definition_at marks ats 1 i)
  definitions_on n k i h z =
      let d : n - k ≡ suc (n - (k + 1)) = omega arith in
      rw d (definitions_step (n - (k + 1)) i ∙ ap (λ b. pick_p b Ok (seq_p (definition_at marks ats 1) (definitions_at marks ats (n - (k + 1)))) i) (ne_eqb _ _ z))

  pub definitions_full : (n k i : ℕ) → n ≤ k → (mark_at marks i % 32 ≡ 0 → ⊥) → definitions_at marks ats (n - k) i ≡ on_past (wrong_at ats) (definition_at marks ats 0 i)
  definitions_full n k i h z =
      let d : n - k ≡ 0 = omega arith in
      rw d (definitions_last i ∙ ap (λ b. pick_p b Ok (seq_p (definition_at marks ats 0) (wrong_at ats)) i) (ne_eqb _ _ z))

  pub program_opens : (i : ℕ) → program_at marks ats i ≡ on_past (definitions_at marks ats 63) (definition_at marks ats 1 i)
  unfolding program_at program_p definitions_at definition_at
  program_opens i = refl

  -- jobs
  pub sides_opens : (i : ℕ) → sides_at marks ats i ≡
      on_past (the_in_at marks ats 1 4) (on_past (tree_at marks ats 3 4 61) (on_past (tree_at marks ats 3 4 61) (the_in_at marks ats 1 3 i)))
  unfolding sides_at tree_at
  sides_opens i = on_seq3 (tree_at marks ats 3 4 61) (tree_at marks ats 3 4 61) (the_in_at marks ats 1 4) (the_in_at marks ats 1 3 i)

  pairs_step : (n i : ℕ) → pairs_at marks ats (suc n) i ≡ pick_p (eqb (mark_at marks i % 32) 2) Ok (seq_p (sides_at marks ats) (pairs_at marks ats n)) i
  unfolding pairs_at
  pairs_step n i = refl

  -- at the turn k of n
  pub pairs_end : (n k i : ℕ) → n ≤ k → pairs_at marks ats (n - k) i ≡ wrong_at ats i
  unfolding pairs_at
  pairs_end n k i h = let d : n - k ≡ 0 = omega arith in rw d

  pub pairs_close : (n k i : ℕ) → k < n → mark_at marks i % 32 ≡ 2 → pairs_at marks ats (n - k) i ≡ Ok i
  pairs_close n k i h z =
      let d : n - k ≡ suc (n - (k + 1)) = omega arith in
      rw d (pairs_step (n - (k + 1)) i ∙ ap (λ b. pick_p b Ok (seq_p (sides_at marks ats) (pairs_at marks ats (n - (k + 1)))) i) (eq-eqb _ _ z))

  pub pairs_on : (n k i : ℕ) → k < n → (mark_at marks i % 32 ≡ 2 → ⊥) → pairs_at marks ats (n - k) i ≡ on_past (pairs_at marks ats (n - (k + 1))) (sides_at marks ats i)
  pairs_on n k i h z =
      let d : n - k ≡ suc (n - (k + 1)) = omega arith in
      rw d (pairs_step (n - (k + 1)) i ∙ ap (λ b. pick_p b Ok (seq_p (sides_at marks ats) (pairs_at marks ats (n - (k + 1)))) i) (ne_eqb _ _ z))

  part_opens : (w : ℕ) (p : ℕ → Result ℕ Refusal) (i : ℕ) → part_at marks ats w p i ≡ on_past (the_in_at marks ats 1 2) (on_past p (on_past (the_in_at marks ats 1 w) (the_in_at marks ats 1 1 i)))
  part_opens w p i = on_seq3 (the_in_at marks ats 1 w) p (the_in_at marks ats 1 2) (the_in_at marks ats 1 1 i)

  pub inputs_open : (i : ℕ) → inputs_at marks ats i ≡
      on_past (the_in_at marks ats 1 2) (on_past (λ k. trees_at marks ats 2 3 4 62 (4097 - k) k) (on_past (the_in_at marks ats 1 12) (the_in_at marks ats 1 1 i)))
  unfolding inputs_at
  inputs_open i = part_opens 12 (λ k. trees_at marks ats 2 3 4 62 (4097 - k) k) i

  pub output_opens : (i : ℕ) → output_at marks ats i ≡
      on_past (the_in_at marks ats 1 2) (on_past (tree_at marks ats 3 4 62) (on_past (the_in_at marks ats 1 13) (the_in_at marks ats 1 1 i)))
  unfolding output_at
  output_opens i = part_opens 13 (tree_at marks ats 3 4 62) i

  pub non_equalities_open : (i : ℕ) → non_equalities_at marks ats i ≡
      on_past (the_in_at marks ats 1 2) (on_past (λ k. pairs_at marks ats (4097 - k) k) (on_past (the_in_at marks ats 1 14) (the_in_at marks ats 1 1 i)))
  unfolding non_equalities_at
  non_equalities_open i = part_opens 14 (λ k. pairs_at marks ats (4097 - k) k) i

  pub numeral_opens : (w i : ℕ) → numeral_at marks ats w i ≡
      on_past (the_in_at marks ats 1 2) (on_past (one_of_at marks ats 1 5) (on_past (the_in_at marks ats 1 w) (the_in_at marks ats 1 1 i)))
  unfolding numeral_at
  numeral_opens w i = part_opens w (one_of_at marks ats 1 5) i

  end_opens : (i : ℕ) → end_at marks ats i ≡ pick_p (eqb (mark_at marks i % 32) 0) Ok (wrong_at ats) i
  unfolding end_at
  end_opens i = refl

  pub end_there : (i : ℕ) → mark_at marks i % 32 ≡ 0 → end_at marks ats i ≡ Ok i
  end_there i z = end_opens i ∙ ap (λ b. pick_p b Ok (wrong_at ats) i) (eq-eqb _ _ z)

  pub end_missing : (i : ℕ) → (mark_at marks i % 32 ≡ 0 → ⊥) → end_at marks ats i ≡ wrong_at ats i
  end_missing i z = end_opens i ∙ ap (λ b. pick_p b Ok (wrong_at ats) i) (ne_eqb _ _ z)

  pub job_opens : (i : ℕ) → job_at marks ats i ≡
      on_past (end_at marks ats) (on_past (the_in_at marks ats 1 2) (on_past (numeral_at marks ats 17) (on_past (numeral_at marks ats 16) (on_past (numeral_at marks ats 15)
      (on_past (non_equalities_at marks ats) (on_past (output_at marks ats) (on_past (inputs_at marks ats) (on_past (the_in_at marks ats 1 11) (the_in_at marks ats 1 1 i)))))))))
  unfolding job_at job_p inputs_at output_at non_equalities_at numeral_at end_at trees_at tree_at pairs_at sides_at
  job_opens i =
      let numeral = numeral_at marks ats in
      let last = seq_p (the_in_at marks ats 1 2) (end_at marks ats) in
      let later = seq_p (numeral 15) (seq_p (numeral 16) (seq_p (numeral 17) last)) in
      let g = the_in_at marks ats 1 1 i in
      let read = on_past (output_at marks ats) (on_past (inputs_at marks ats) (on_past (the_in_at marks ats 1 11) g)) in
      on_seq4 (the_in_at marks ats 1 11) (inputs_at marks ats) (output_at marks ats) (seq_p (non_equalities_at marks ats) later) g
      ∙ on_seq4 (non_equalities_at marks ats) (numeral 15) (numeral 16) (seq_p (numeral 17) last) read
      ∙ on_seq3 (numeral 17) (the_in_at marks ats 1 2) (end_at marks ats) (on_past (numeral 16) (on_past (numeral 15) (on_past (non_equalities_at marks ats) read)))
