-- A reader of a whole text that answers without refusal has come to the end's token.
use Prim.Native.Nat.{ℕ, zero, suc}
use mathlib.Core.Path.{◌≡◌, refl, ap, ◌∙◌, sym}
use mathlib.Core.Bool.{Bool, true, false}
use Rattle.language.specs.Tokens.{plain, Token}
use Rattle.language.specs.Grammar.{is_end}
use Rattle.refusals.specs.declared.refusal.Refusal.{Refusal}
use Rattle.std.specs.Prelude.{Result, Ok, Err}
use Rattle.grammar.specs.Twins.Positions as at
use Rattle.grammar.specs.Twins.Positions.{on_past, seq_p, pick_p, wrong_p, choose_p, up_to_p}
use Rattle.syntax.proofs.Shut.{past_inj, refused_past}

module _ (tok : ℕ → Token) (n : ℕ) where
  abbrev pub Ends : (ℕ → Result ℕ Refusal) → Type 0
  Ends p = (i k : ℕ) → p i ≡ Ok k → is_end (tok k) ≡ true

  ends_seq : (p q : ℕ → Result ℕ Refusal) → Ends q → Ends (seq_p p q)
  ends_seq p q h i k e = go (p i) e
    where
      go : (g : Result ℕ Refusal) → on_past q g ≡ Ok k → is_end (tok k) ≡ true
      go (Ok m) z = h m k z
      go (Err r) z = refused_past r k z

  ends_wrong : Ends (wrong_p tok)
  ends_wrong i k e = refused_past _ k e

  ends_end : (q : ℕ → Result ℕ Refusal) → Ends q → Ends (choose_p tok is_end Ok q)
  ends_end q h i k e = go (is_end (tok i)) refl e
    where
      go : (b : Bool) → is_end (tok i) ≡ b → pick_p b Ok q i ≡ Ok k → is_end (tok k) ≡ true
      go true z x = ap (λ m. is_end (tok m)) (sym (past_inj i k x)) ∙ z
      go false z x = h i k x

  ends_definitions : (room : ℕ) → Ends (at.definitions_p tok n room)
  unfolding at.definitions_p
  ends_definitions zero = ends_end _ (ends_seq (at.definition_p tok n 0) (wrong_p tok) ends_wrong)
  ends_definitions (suc room) = ends_end _ (ends_seq (at.definition_p tok n 1) (λ k. at.definitions_p tok n room k) (ends_definitions room))

  pub ends_program : Ends (at.program_p tok n)
  unfolding at.program_p
  ends_program = ends_seq (at.definition_p tok n 1) (at.definitions_p tok n 63) (ends_definitions 63)

  pub ends_job : Ends (at.job_p tok n)
  unfolding at.job_p
  ends_job = ends_seq (at.the_p tok n "(") _ (ends_seq (at.the_p tok n "job") _ (ends_seq (at.part_p tok n "in" (up_to_p tok n ")" (at.datum_p tok n 62))) _
      (ends_seq (at.part_p tok n "out" (at.datum_p tok n 62)) _ (ends_seq (at.part_p tok n "neq" (up_to_p tok n ")" (at.sides_p tok n))) _
      (ends_seq (at.part_p tok n "steps" (at.word_p tok n plain)) _ (ends_seq (at.part_p tok n "walk" (at.word_p tok n plain)) _ (ends_seq (at.part_p tok n "table" (at.word_p tok n plain)) _
      (ends_seq (at.the_p tok n ")") _ (ends_end (wrong_p tok) ends_wrong)))))))))
