-- The names of a line's new atoms: Q and a number, rising, none a symbol's (02, request 2).
use Prim.Native.Nat.{ℕ, ◌<◌}
use mathlib.Core.Path.{◌≡◌, ap, subst, ◌∙◌, sym as inv}
use mathlib.Core.Bool.{true}
use mathlib.Core.List.{List}
use native.Mathlib.Omega.{arith}
use lib.ListN.{length}
use Rattle.expressions.specs.Expression.{Exp}
use Rattle.expressions.specs.Class.{IOPair}
use Rattle.language.specs.Words.{Word}
use Rattle.language.specs.Tokens.{is_among}
use Rattle.listing.specs.Bindings.{has_variable, variables}
use Rattle.listing.specs.Sample.{place_of, name_q}
use Rattle.listing.specs.SampleDemand.{name_for, SampleNamed}
use Rattle.listing.proofs.FreeNames.{name_q_apart, free_number, name_low, name_high, new_name_lem, numbers_rising, number_passed}
use Rattle.listing.proofs.SampleAtoms.{has_in}

-- for any names of symbols and any line
pub sampled_named : (ns : List Word) (c : IOPair) → SampleNamed ns c
sampled_named ns c = record {
  named = λ v h. (number v, (new_name_lem ns m (place_of v vs) (has_in v vs h)).least, name_is v h);
  rising = λ v w k l h g e f q. subst (λ (i : ℕ). i < l) (number_is v k h e) (subst (λ (i : ℕ). number v < i) (number_is w l g f) (numbers_rising ns m (place_of v vs) (place_of w vs) q (has_in w vs g)));
  least = λ v k i h e a b q.
      let r = number_passed ns m (place_of v vs) i (has_in v vs h) a (subst (λ (j : ℕ). i < j) (inv (number_is v k h e)) b) q in
      (r.0, r.1, name_high ns m r.0 (omega (arith, r.1, has_in v vs h)) ∙ ap name_q r.2);
  new = λ v h. ap (λ (w : Word). is_among w ns) (name_is v h) ∙ (new_name_lem ns m (place_of v vs) (has_in v vs h)).new;
  symbols = λ z l. name_low ns m z l;
}
  where
    vs : List Exp
    vs = variables c

    m : ℕ
    m = length vs

    number : Exp → ℕ
    number v = free_number ns m (place_of v vs)

    name_is : (v : Exp) → has_variable v vs ≡ true → name_for ns c v ≡ name_q (number v)
    name_is v h = name_high ns m (place_of v vs) (has_in v vs h)

    number_is : (v : Exp) (k : ℕ) → has_variable v vs ≡ true → name_for ns c v ≡ name_q k → number v ≡ k
    number_is v k h e = name_q_apart (number v) k (inv (name_is v h) ∙ e)
