-- All, some, and each two members of a list, in order.
use Rattle.std.specs.Prelude.{◌⊎◌, List, [], ◌∷◌}

module _ {A : Type 0} where
  abbrev pub All : (A → Type 0) → List A → Type 0
  All Q [] = Unit {0}
  All Q (x ∷ xs) = Q x × All Q xs

  abbrev pub Any : (A → Type 0) → List A → Type 0
  Any Q [] = ⊥
  Any Q (x ∷ xs) = Q x ⊎ Any Q xs

  abbrev pub AllPairs : (A → A → Type 0) → List A → Type 0
  AllPairs R [] = Unit {0}
  AllPairs R (x ∷ xs) = All (R x) xs × AllPairs R xs
