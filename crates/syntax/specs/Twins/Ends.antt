-- The index past a part of a text, by its brackets alone: for who skips a branch.
-- proofs/EndsLaws.antt: it is the index past an expression, a condition or a term.
use Rattle.std.specs.Prelude.{ℕ, zero, suc, ◌+◌, ◌-◌, Bool, cond, ◌||◌, List, eqb, leb, set}
use Rattle.words.specs.Twins.Marks.{cell_of}

module _ (key : ℕ → ℕ) where
  abbrev pub opens : ℕ → Bool
  opens i = eqb (key i) 1 || eqb (key i) 3

  abbrev pub closes : ℕ → Bool
  closes i = eqb (key i) 2 || eqb (key i) 4

  -- the index past the bracket that closes the last of d open ones, at most f tokens on
  unfoldable pub close_from : ℕ → ℕ → ℕ → ℕ
  close_from zero d i = i
  close_from (suc f) d i =
      cond (opens i) (close_from f (d + 1) (i + 1))
      (cond (closes i) (cond (leb d 1) (i + 1) (close_from f (d - 1) (i + 1)))
      (close_from f d (i + 1)))

  -- past what starts at i: a token, or a bracket with what stands in it; there are n tokens
  abbrev pub past_at : ℕ → ℕ → ℕ
  past_at n i = cond (leb n i) n (cond (eqb (key i) 1) (close_from (n - i) 0 i) (i + 1))

  -- the cells from i on, `left` of them, each with the index past what starts there
  unfoldable pub ends_from : ℕ → ℕ → ℕ → List ℕ → List ℕ
  ends_from n zero i cells = cells
  ends_from n (suc left) i cells = ends_from n left (i + 1) (set cells i (cell_of (past_at n i)))
