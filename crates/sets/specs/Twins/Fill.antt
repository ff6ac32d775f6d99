-- Filling cells: what they become, and what `rename` does, cell by cell.
use Rattle.std.specs.Prelude.{ℕ, zero, suc, cond, List, [], ◌∷◌, ◌++◌, eqb, Option}

-- an answer, and the storage that was filled
pub record FillAnswer : Type 0 where
  pub answer : Option ℕ
  pub cells : List ℕ

abbrev pub fill_answer : Option ℕ → List ℕ → FillAnswer
fill_answer a d = record { answer = a; cells = d }

-- what the cells become: each x the cells v
abbrev pub spread : ℕ → List ℕ → List ℕ → List ℕ
spread x v [] = []
spread x v (c ∷ s) = cond (eqb c x) v (c ∷ []) ++ spread x v s

unfoldable pub renamed : ℕ → ℕ → ℕ → List ℕ → List ℕ
renamed zero x y s = s
renamed (suc n) x y [] = []
renamed (suc n) x y (c ∷ s) = cond (eqb c x) y c ∷ renamed n x y s
