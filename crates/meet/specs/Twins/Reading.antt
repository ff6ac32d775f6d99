-- Reading moves on.
use Rattle.std.specs.Prelude.{◌≤◌, ◌<◌, Result, IfOk}
use Rattle.brackets.specs.declared.place.Broken.{Broken}
use Rattle.brackets.specs.declared.place.Place.{Place}

-- what is read lies behind the place before
abbrev pub Behind : Place → Result Place Broken → Type 0
Behind p r = IfOk r (λ n. p.at ≤ n.at)

-- and takes a byte at least
abbrev pub Onward : Place → Result Place Broken → Type 0
Onward p r = IfOk r (λ n. p.at < n.at)
