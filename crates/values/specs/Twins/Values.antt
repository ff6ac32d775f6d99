-- The values of expressions over cells of any content.
use Rattle.std.specs.Prelude.{ℕ, zero, suc, ◌+◌, ◌-◌, ◌*◌, min, cond, List, [], ◌∷◌, eqb, ltb, leb, Option, Some, None}
use Rattle.sets.specs.Twins.Fill.{FillAnswer, fill_answer}
use Rattle.runs.specs.Twins.Runs.{written, appended}
use Rattle.heap.specs.Twins.Entries.{entry_known, entry_from, entry_to}
use Rattle.linking.specs.Twins.Code.{link_at}
use Rattle.constants.specs.Twins.Table.{constant_at}
use Rattle.values.specs.declared.tokens.Place.{Place}
use Rattle.values.specs.declared.value.Valued.{Valued}

-- where an entry's value stands, and what is known of it; nothing past the last entry
unfoldable pub entry_at : List ℕ → ℕ → Place
entry_at f i = cond (ltb i 4120) (record { from = entry_from f i; to = entry_to f i; known = entry_known f i }) (record { from = 0; to = 0; known = 0 })

abbrev pub place_at : ℕ → ℕ → ℕ
place_at base place = min base 4120 + place

-- on from an answer
abbrev pub onward_fill : (ℕ → List ℕ → FillAnswer) → Option ℕ → List ℕ → FillAnswer
onward_fill again (Some k) h = again k h
onward_fill again None h = fill_answer None h

module _ (code frame : List ℕ) (base : ℕ) where
  -- the cells of a token, at k
  unfoldable pub token_written : ℕ → ℕ → List ℕ → FillAnswer
  token_written j k h =
      let l = link_at code j in
      let e = entry_at frame (place_at base l.first) in
      cond (eqb l.mark 1) (written k 1 (l.first ∷ []) h) (cond (eqb l.mark 2) (appended e.from e.to k h) (fill_answer (Some k) h))

  -- those of `left` tokens from j on
  unfoldable pub tokens_written : ℕ → ℕ → ℕ → List ℕ → FillAnswer
  tokens_written zero j k h = fill_answer (Some k) h
  tokens_written (suc left) j k h = let w = token_written j k h in onward_fill (λ m g. tokens_written left (j + 1) m g) w.answer w.cells

pub record ValueLeft : Type 0 where
  pub answer : Option Valued
  pub heap : List ℕ

abbrev pub value_left : Option Valued → List ℕ → ValueLeft
value_left a h = record { answer = a; heap = h }

-- a range, what is used with it, and what is known of it
abbrev pub valued : ℕ → ℕ → ℕ → ℕ → Valued
valued from to used known = record { from = from; to = to; used = used; known = known }

abbrev pub made_at : ℕ → ℕ → Option ℕ → Option Valued
made_at used known (Some k) = Some (valued used k k known)
made_at used known None = None

-- the token behind the head of the `cons` at i, which begins two tokens on
abbrev pub head_end_at : List ℕ → ℕ → ℕ → ℕ
head_end_at code i past = let j = (link_at code (i + 2)).past in cond (ltb j i) i (min j past)

-- what is known of a pair whose own cell and head take n cells
abbrev pub known_pair : ℕ → ℕ
known_pair n = cond (ltb n 32768) (2 * (n - 1)) 0

-- what is known of a pair, of which so much is written when its head is
abbrev pub known_head : ℕ → Option ℕ → ℕ
known_head used (Some k) = known_pair (k - used)
known_head used None = 0

-- what the tokens from i up to `past` make: a `cons` has more than two of them
unfoldable pub made_of : List ℕ → List ℕ → ℕ → ℕ → ℕ → ℕ → List ℕ → ValueLeft
made_of code frame base used i past h =
    let w = tokens_written code frame base (past - i) i used h in
    let v = tokens_written code frame base (head_end_at code i past - i) i used h in
    value_left (made_at used (cond (leb (past - i) 2) 0 (known_head used v.answer)) w.answer) w.cells

-- a name has its entry's range, an expression without names its own; what a `cons` makes is written
unfoldable pub value_at : List ℕ → List ℕ → ℕ → ℕ → ℕ → List ℕ → ValueLeft
value_at code frame base used i h =
    let l = link_at code i in
    let e = entry_at frame (place_at base l.first) in
    let k = constant_at code i in
    cond (eqb l.mark 2) (value_left (Some (valued e.from e.to used e.known)) h)
    (cond (ltb k.from k.to) (value_left (Some (valued k.from k.to used 0)) h) (made_of code frame base used i l.past h))
