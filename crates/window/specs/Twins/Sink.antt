-- A text written through a window, byte by byte.
use Rattle.std.specs.Prelude.{ℕ, ◌+◌, ◌-◌, ◌≡◌, Bool, false, cond, List, [], ◌∷◌, leb, ltb, length, set}
use Rattle.window.specs.declared.sink.Place.{Place}

-- the place in the text, and the window
pub record Sink : Type 0 where
  pub place : Place
  pub out : List ℕ

abbrev pub sink : Place → List ℕ → Sink
sink p o = record { place = p; out = o }

-- before the first byte, with the window from the byte `from` on
abbrev pub opening : ℕ → Place
opening from = record { skip = from; at = 0 }

-- one byte more: passed over, written, or dropped where the window is full
unfoldable pub pushed : Sink → ℕ → Sink
pushed s b =
    cond (ltb 0 s.place.skip) (sink (record { skip = s.place.skip - 1; at = s.place.at }) s.out)
    (cond (ltb s.place.at (length s.out)) (sink (record { skip = s.place.skip; at = s.place.at + 1 }) (set s.out s.place.at b)) s)

-- nothing is left to pass over and the window of this size is full: what follows is dropped
unfoldable pub full : Place → ℕ → Bool
full p size = cond (ltb 0 p.skip) false (leb size p.at)

unfoldable pub puts : Sink → List ℕ → Sink
puts s [] = s
puts s (b ∷ bs) = puts (pushed s b) bs

-- what a function that appends a text leaves
abbrev pub Wrote : Place → List ℕ → List ℕ → Place → List ℕ → Type 0
Wrote p o text r x = sink r x ≡ puts (sink p o) text
