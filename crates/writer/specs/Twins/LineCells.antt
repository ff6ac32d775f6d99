-- Where the parts of a line in cells end.
use Rattle.std.specs.Prelude.{ℕ, ◌+◌, ◌*◌, List, get_or}

-- behind a line's inputs and output, and behind the line
abbrev pub class_end : List ℕ → ℕ
class_end l = 4 + get_or l 1 0 + get_or l 2 0

abbrev pub line_end : List ℕ → ℕ
line_end l = 4 + get_or l 1 0 + get_or l 2 0 + 2 * get_or l 3 0
