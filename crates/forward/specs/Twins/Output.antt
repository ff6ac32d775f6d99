-- The output of an end in the answer storage, over cells of any content.
use Rattle.std.specs.Prelude.{ℕ, zero, suc, ◌+◌, ◌-◌, cond, List, eqb, Option, Some, None}
use Rattle.sets.specs.Twins.Fill.{FillAnswer, fill_answer}
use Rattle.heap.specs.declared.configuration.Configuration.{Configuration}
use Rattle.linking.specs.Twins.Code.{link_at}
use Rattle.values.specs.Twins.Values.{ValueLeft}
use Rattle.values.specs.declared.value.Valued.{Valued}
use Rattle.tracing.specs.declared.ask.Asked.{Asked}
use Rattle.forward.specs.Twins.Naming.{named_at}
unfoldable pub use Rattle.running.specs.Twins.Writing.{cell_put, range_put}

abbrev pub value_put : Option Valued → ℕ → ℕ → List ℕ → List ℕ → FillAnswer
value_put (Some v) at limit h d = range_put v.from v.to at limit h d
value_put None at limit h d = fill_answer None d

-- an answer, and what is left in heap and answer storage
pub record OutLeft : Type 0 where
  pub answer : Option ℕ
  pub heap : List ℕ
  pub cells : List ℕ

abbrev pub out_left : Option ℕ → List ℕ → List ℕ → OutLeft
out_left a h d = record { answer = a; heap = h; cells = d }

abbrev pub beside : List ℕ → FillAnswer → OutLeft
beside h w = out_left w.answer h w.cells

abbrev pub name_put : ℕ → ℕ → List ℕ → ValueLeft → OutLeft
name_put at limit d v = beside v.heap (value_put v.answer at limit v.heap d)

-- on from an answer
abbrev pub onward : (ℕ → List ℕ → List ℕ → OutLeft) → Option ℕ → List ℕ → List ℕ → OutLeft
onward again (Some k) h d = again k h d
onward again None h d = out_left None h d

abbrev pub onward_from : (ℕ → List ℕ → List ℕ → OutLeft) → OutLeft → OutLeft
onward_from again w = onward again w.answer w.heap w.cells

module _ (code : List ℕ) (c : Configuration) (a : Asked) (limit : ℕ) (f : List ℕ) where
  -- the cells of a token
  unfoldable pub token_put : ℕ → ℕ → List ℕ → List ℕ → OutLeft
  token_put j at h d =
      let l = link_at code j in
      cond (eqb l.mark 1) (beside h (cell_put l.first at limit d)) (cond (eqb l.mark 2) (name_put at limit d (named_at code c a j h f)) (out_left (Some at) h d))

  -- those of `left` tokens from j on
  unfoldable pub tokens_put : ℕ → ℕ → ℕ → List ℕ → List ℕ → OutLeft
  tokens_put zero j at h d = out_left (Some at) h d
  tokens_put (suc left) j at h d = onward_from (tokens_put left (j + 1)) (token_put j at h d)

  -- those of the expression at i
  abbrev pub output_put : ℕ → List ℕ → List ℕ → OutLeft
  output_put i h d = tokens_put ((link_at code i).past - i) i 0 h d
