-- One step of the readers of lists, conditions and terms over stored tokens.
use Prim.Native.Nat.{ℕ, zero, suc, ◌<◌, ◌≤◌, ◌+◌, ◌-◌, ◌%◌}
use mathlib.Core.Path.{◌≡◌, refl, ap, ◌∙◌}
use mathlib.Core.List.{List}
use Rattle.std.specs.Prelude.{Result, Ok, Err}
use native.Mathlib.Omega.{arith}
use lib.Dec.{eqb}
use borrow.Author.Tests.{eq-eqb, ne_eqb}
use Rattle.refusals.specs.declared.refusal.Refusal.{Refusal}
use Rattle.grammar.specs.Twins.Positions.{on_past, seq_p, pick_p, term_p}
use Rattle.grammar.specs.Twins.Stored.{mark_at, wrong_at, the_in_at, one_of_at, leaf_at, tree_at, trees_at, args_at, test_at, condition_at, call_at, conditional_at, pair_at, term_at}
use Rattle.grammar.proofs.StoredReaders.{on_seq}

-- three and four readers, one behind the other
pub on_seq3 : (p q r : ℕ → Result ℕ Refusal) (g : Result ℕ Refusal) → on_past (seq_p p (seq_p q r)) g ≡ on_past r (on_past q (on_past p g))
on_seq3 p q r g = on_seq p (seq_p q r) g ∙ on_seq q r (on_past p g)

pub on_seq4 : (p q r s : ℕ → Result ℕ Refusal) (g : Result ℕ Refusal) → on_past (seq_p p (seq_p q (seq_p r s))) g ≡ on_past s (on_past r (on_past q (on_past p g)))
on_seq4 p q r s g = on_seq p (seq_p q (seq_p r s)) g ∙ on_seq3 q r s (on_past p g)

module _ (marks ats : List ℕ) where
  module _ (close e a room : ℕ) where
    trees_step : (n i : ℕ) → trees_at marks ats close e a room (suc n) i ≡ pick_p (eqb (mark_at marks i % 32) close) Ok (seq_p (tree_at marks ats e a room) (trees_at marks ats close e a room n)) i
    unfolding trees_at
    trees_step n i = refl

    -- at the turn k of n
    pub trees_end : (n k i : ℕ) → n ≤ k → trees_at marks ats close e a room (n - k) i ≡ wrong_at ats i
    unfolding trees_at
    trees_end n k i h = let d : n - k ≡ 0 = omega arith in rw d

    pub trees_close : (n k i : ℕ) → k < n → mark_at marks i % 32 ≡ close → trees_at marks ats close e a room (n - k) i ≡ Ok i
    trees_close n k i h z =
        let d : n - k ≡ suc (n - (k + 1)) = omega arith in
        rw d (trees_step (n - (k + 1)) i ∙ ap (λ b. pick_p b Ok (seq_p (tree_at marks ats e a room) (trees_at marks ats close e a room (n - (k + 1)))) i) (eq-eqb _ _ z))

    pub trees_on : (n k i : ℕ) → k < n → (mark_at marks i % 32 ≡ close → ⊥) → trees_at marks ats close e a room (n - k) i ≡ on_past (trees_at marks ats close e a room (n - (k + 1))) (tree_at marks ats e a room i)
    trees_on n k i h z =
        let d : n - k ≡ suc (n - (k + 1)) = omega arith in
        rw d (trees_step (n - (k + 1)) i ∙ ap (λ b. pick_p b Ok (seq_p (tree_at marks ats e a room) (trees_at marks ats close e a room (n - (k + 1)))) i) (ne_eqb _ _ z))

  pub args_shut : {room : ℕ} → room ≡ 0 → (i : ℕ) → args_at marks ats room i ≡ on_past (wrong_at ats) (the_in_at marks ats 0 3 i)
  unfolding args_at
  args_shut h i = rw h

  pub args_more : {room : ℕ} → (room ≡ 0 → ⊥) → (i : ℕ) → args_at marks ats room i ≡
      on_past (the_in_at marks ats 1 4) (on_past (λ k. trees_at marks ats 4 1 2 (room - 1) (4097 - k) k) (the_in_at marks ats 1 3 i))
  unfolding args_at trees_at tree_at
  args_more {room = zero} h i = absurd (h refl)
  args_more {room = suc room} h i =
      let d : suc room - 1 ≡ room = omega arith in
      rw d (on_seq (λ k. trees_at marks ats 4 1 2 room (4097 - k) k) (the_in_at marks ats 1 4) (the_in_at marks ats 1 3 i))

  -- the two tests by their words
  test_opens : (room i : ℕ) → test_at marks ats room i ≡ pick_p (eqb (mark_at marks i % 32) 9)
      (seq_p (the_in_at marks ats 1 9) (seq_p (tree_at marks ats 1 2 room) (tree_at marks ats 1 2 room)))
      (seq_p (the_in_at marks ats 1 10) (seq_p (tree_at marks ats 1 2 room) (seq_p (one_of_at marks ats 1 1) (seq_p (one_of_at marks ats 1 1) (one_of_at marks ats 1 2))))) i
  unfolding test_at tree_at
  test_opens room i = refl

  pub test_eqa : (room i : ℕ) → mark_at marks i % 32 ≡ 9 → test_at marks ats room i ≡
      on_past (tree_at marks ats 1 2 room) (on_past (tree_at marks ats 1 2 room) (the_in_at marks ats 1 9 i))
  test_eqa room i z = test_opens room i ∙ ap (λ b. pick_p b
      (seq_p (the_in_at marks ats 1 9) (seq_p (tree_at marks ats 1 2 room) (tree_at marks ats 1 2 room)))
      (seq_p (the_in_at marks ats 1 10) (seq_p (tree_at marks ats 1 2 room) (seq_p (one_of_at marks ats 1 1) (seq_p (one_of_at marks ats 1 1) (one_of_at marks ats 1 2))))) i) (eq-eqb _ _ z)
      ∙ on_seq (tree_at marks ats 1 2 room) (tree_at marks ats 1 2 room) (the_in_at marks ats 1 9 i)

  pub test_cons : (room i : ℕ) → (mark_at marks i % 32 ≡ 9 → ⊥) → test_at marks ats room i ≡
      on_past (one_of_at marks ats 1 2) (on_past (one_of_at marks ats 1 1) (on_past (one_of_at marks ats 1 1) (on_past (tree_at marks ats 1 2 room) (the_in_at marks ats 1 10 i))))
  test_cons room i z = test_opens room i ∙ ap (λ b. pick_p b
      (seq_p (the_in_at marks ats 1 9) (seq_p (tree_at marks ats 1 2 room) (tree_at marks ats 1 2 room)))
      (seq_p (the_in_at marks ats 1 10) (seq_p (tree_at marks ats 1 2 room) (seq_p (one_of_at marks ats 1 1) (seq_p (one_of_at marks ats 1 1) (one_of_at marks ats 1 2))))) i) (ne_eqb _ _ z)
      ∙ on_seq4 (tree_at marks ats 1 2 room) (one_of_at marks ats 1 1) (one_of_at marks ats 1 1) (one_of_at marks ats 1 2) (the_in_at marks ats 1 10 i)

  pub condition_shut : {room : ℕ} → room ≡ 0 → (i : ℕ) → condition_at marks ats room i ≡ on_past (wrong_at ats) (the_in_at marks ats 0 1 i)
  unfolding condition_at
  condition_shut h i = rw h

  pub condition_more : {room : ℕ} → (room ≡ 0 → ⊥) → (i : ℕ) → condition_at marks ats room i ≡
      on_past (the_in_at marks ats 1 2) (on_past (test_at marks ats (room - 1)) (the_in_at marks ats 1 1 i))
  unfolding condition_at test_at
  condition_more {room = zero} h i = absurd (h refl)
  condition_more {room = suc room} h i =
      let d : suc room - 1 ≡ room = omega arith in
      rw d (on_seq (test_at marks ats room) (the_in_at marks ats 1 2) (the_in_at marks ats 1 1 i))

  -- the forms of a term
  pub call_opens : (room i : ℕ) → call_at marks ats room i ≡ on_past (the_in_at marks ats 1 2) (on_past (args_at marks ats room) (on_past (one_of_at marks ats 1 5) (the_in_at marks ats 1 6 i)))
  unfolding call_at
  call_opens room i = on_seq3 (one_of_at marks ats 1 5) (args_at marks ats room) (the_in_at marks ats 1 2) (the_in_at marks ats 1 6 i)

  pub conditional_opens : (room i : ℕ) → conditional_at marks ats room i ≡
      on_past (the_in_at marks ats 1 2) (on_past (term_at marks ats room) (on_past (term_at marks ats room) (on_past (condition_at marks ats room) (the_in_at marks ats 1 7 i))))
  unfolding conditional_at
  conditional_opens room i = on_seq4 (condition_at marks ats room) (term_at marks ats room) (term_at marks ats room) (the_in_at marks ats 1 2) (the_in_at marks ats 1 7 i)

  pub pair_opens : (room i : ℕ) → pair_at marks ats room i ≡
      on_past (the_in_at marks ats 1 2) (on_past (tree_at marks ats 1 2 room) (on_past (tree_at marks ats 1 2 room) (the_in_at marks ats 1 8 i)))
  unfolding pair_at
  pair_opens room i = on_seq3 (tree_at marks ats 1 2 room) (tree_at marks ats 1 2 room) (the_in_at marks ats 1 2) (the_in_at marks ats 1 8 i)

  pub term_shut : {room : ℕ} → room ≡ 0 → (i : ℕ) → term_at marks ats room i ≡ tree_at marks ats 1 2 0 i
  unfolding term_at term_p tree_at
  term_shut h i = rw h

  unfoldable form_at : ℕ → ℕ → Result ℕ Refusal
  form_at room k = pick_p (eqb (mark_at marks k % 32) 6) (call_at marks ats room) (λ j. pick_p (eqb (mark_at marks j % 32) 7) (conditional_at marks ats room) (pair_at marks ats room) j) k

  term_opens : (room i : ℕ) → term_at marks ats (suc room) i ≡ pick_p (eqb (mark_at marks i % 32) 1) (seq_p (the_in_at marks ats 1 1) (form_at room)) (leaf_at marks ats 1 2) i
  unfolding term_at term_p call_at conditional_at pair_at tree_at args_at condition_at form_at
  term_opens room i = refl

  pub term_leaf : {room : ℕ} → (room ≡ 0 → ⊥) → (i : ℕ) → (mark_at marks i % 32 ≡ 1 → ⊥) → term_at marks ats room i ≡ leaf_at marks ats 1 2 i
  term_leaf {room = zero} h i z = absurd (h refl)
  term_leaf {room = suc room} h i z = term_opens room i ∙ ap (λ b. pick_p b (seq_p (the_in_at marks ats 1 1) (form_at room)) (leaf_at marks ats 1 2) i) (ne_eqb _ _ z)

  term_form : {room : ℕ} → (room ≡ 0 → ⊥) → (i : ℕ) → mark_at marks i % 32 ≡ 1 → term_at marks ats room i ≡ on_past (form_at (room - 1)) (the_in_at marks ats 1 1 i)
  term_form {room = zero} h i z = absurd (h refl)
  term_form {room = suc room} h i z =
      let d : suc room - 1 ≡ room = omega arith in
      rw d (term_opens room i ∙ ap (λ b. pick_p b (seq_p (the_in_at marks ats 1 1) (form_at room)) (leaf_at marks ats 1 2) i) (eq-eqb _ _ z))

  -- a term that opens a bracket, by what the reader of the bracket came to
  pub term_refused : {room : ℕ} → (room ≡ 0 → ⊥) → (i : ℕ) → mark_at marks i % 32 ≡ 1 → (r : Refusal) → Err r ≡ the_in_at marks ats 1 1 i → term_at marks ats room i ≡ Err r
  term_refused h i z r e = term_form h i z ∙ rw (← e)

  module _ {room : ℕ} (h : room ≡ 0 → ⊥) (i : ℕ) (z : mark_at marks i % 32 ≡ 1) (k : ℕ) (e : Ok k ≡ the_in_at marks ats 1 1 i) where
    form_opens : term_at marks ats room i ≡ form_at (room - 1) k
    form_opens = term_form h i z ∙ rw (← e)

    pub term_call : mark_at marks k % 32 ≡ 6 → term_at marks ats room i ≡ call_at marks ats (room - 1) k
    unfolding form_at
    term_call c = form_opens ∙ rw (eq-eqb _ _ c)

    pub term_conditional : (mark_at marks k % 32 ≡ 6 → ⊥) → mark_at marks k % 32 ≡ 7 → term_at marks ats room i ≡ conditional_at marks ats (room - 1) k
    unfolding form_at
    term_conditional c f = form_opens ∙ rw (ne_eqb _ _ c, eq-eqb _ _ f)

    pub term_pair : (mark_at marks k % 32 ≡ 6 → ⊥) → (mark_at marks k % 32 ≡ 7 → ⊥) → term_at marks ats room i ≡ pair_at marks ats (room - 1) k
    unfolding form_at
    term_pair c f = form_opens ∙ rw (ne_eqb _ _ c, ne_eqb _ _ f)
