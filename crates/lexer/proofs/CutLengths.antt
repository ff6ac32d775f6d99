-- Cutting a text keeps the lengths of its storages.
use Prim.Native.Nat.{ℕ, zero, suc}
use mathlib.Core.Path.{◌≡◌, refl, ◌∙◌}
use mathlib.Core.Bool.{Bool, true, false}
use mathlib.Core.List.{List}
use lib.ListN.{length, length-set}
use Rattle.lexer.specs.Twins.Lexed.{State, stored, passed, on_shut, step_from, cut_from, token_from, shifted}
use Rattle.lexer.specs.declared.lexer.Token.{Token}
use Rattle.lexer.proofs.LexedLaws.{length_entered}

pub record SameLengths (s u : State) : Type 0 where
  pub marks : length u.marks ≡ length s.marks
  pub nums : length u.nums ≡ length s.nums
  pub ats : length u.ats ≡ length s.ats
  pub symbols : length u.symbols ≡ length s.symbols
  pub names : length u.names ≡ length s.names

then : {s u v : State} → SameLengths s u → SameLengths u v → SameLengths s v
then a b = record {
  marks = b.marks ∙ a.marks;
  nums = b.nums ∙ a.nums;
  ats = b.ats ∙ a.ats;
  symbols = b.symbols ∙ a.symbols;
  names = b.names ∙ a.names;
}

module _ (job : Bool) (first text : List ℕ) where
  after_stored : (t : Token) (s : State) → SameLengths s (stored t s)
  after_stored t s = record {
    marks = length-set s.marks s.i t.mark;
    nums = length-set s.nums s.i t.num;
    ats = length-set s.ats s.i t.at;
    symbols = refl;
    names = refl;
  }

  after_passed : (t : Token) (s : State) → SameLengths s (passed job t s)
  after_passed t s = record {
    marks = refl;
    nums = refl;
    ats = refl;
    symbols = length_entered t.symbol s.symbols s.found t.hash (shifted job t.at) refl;
    names = length_entered t.name s.names s.known t.hash t.at refl;
  }

  pub cut_lengths : (n : ℕ) (s : State) → SameLengths s (cut_from job first text n s)
  unfolding cut_from
  cut_lengths zero s = record { marks = refl; nums = refl; ats = refl; symbols = refl; names = refl }
  cut_lengths (suc n) s = go (token_from job first text s.symbols s.found s.names s.known s.i s.from) (λ u. cut_lengths n u)
    where
      step : (b : Bool) (t : Token) → ((u : State) → SameLengths u (cut_from job first text n u)) →
          SameLengths (stored t s) (on_shut b (stored t s) (passed job t (stored t s)) (λ u. cut_from job first text n u))
      step true t again = record { marks = refl; nums = refl; ats = refl; symbols = refl; names = refl }
      step false t again = then (after_passed t (stored t s)) (again (passed job t (stored t s)))

      go : (t : Token) → ((u : State) → SameLengths u (cut_from job first text n u)) → SameLengths s (step_from job t s (λ u. cut_from job first text n u))
      go t again = then (after_stored t s) (step t.shut t again)
