-- A bracket passed: what `pass` of place.rt answers.
use Rattle.std.specs.Prelude.{ℕ, ◌+◌, cond, List, eqb, ltb, length, get_or, Ok, Err, Result}
use Rattle.brackets.specs.declared.place.Broken.{Broken}
use Rattle.brackets.specs.declared.place.Place.{Place}

abbrev pub behind : Place → ℕ → Place
behind p at = record { at = at + 1; cells = p.cells; symbols = p.symbols }

abbrev broken : ℕ → Result Place Broken
broken offset = Err (record { at = offset })

unfoldable pub passed : List ℕ → Place → ℕ → ℕ → Result Place Broken
passed text p at b = cond (ltb at (length text)) (cond (eqb (get_or text at 0) b) (Ok (behind p at)) (broken at)) (broken at)
