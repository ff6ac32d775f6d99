-- A property of each member of a list, and of what stands in an option.
use mathlib.Core.List.{List, [], ◌∷◌, ◌++◌}
use mathlib.Core.Option.{Option, none, some}

module _ {A : Type 0} (Q : A → Type 0) where
  abbrev pub All : List A → Type 0
  All [] = Unit {0}
  All (x ∷ xs) = Q x × All xs

  abbrev pub OfOption : Option A → Type 0
  OfOption none = Unit {0}
  OfOption (some a) = Q a

  pub all_append : (xs ys : List A) → All xs → All ys → All (xs ++ ys)
  all_append [] ys h k = k
  all_append (x ∷ xs) ys h k = (h.0, all_append xs ys h.1 k)
