-- What a window of a text shows.
use Rattle.std.specs.Prelude.{ℕ, ◌-◌, min, ◌≡◌, List, ◌++◌, length, take, drop, replicate}

-- `size` bytes of the text from the byte `from` on, and zeros behind its end
unfoldable pub windowed : ℕ → ℕ → List ℕ → List ℕ
windowed size from text = take size (drop from text) ++ replicate (size - (length text - from)) 0

-- what an entry answers and leaves: how many bytes are text, and the window
abbrev pub Printed : ℕ → ℕ → List ℕ → ℕ → List ℕ → Type 0
Printed size from text r x = (r ≡ min size (length text - from)) × (x ≡ windowed size from text)
