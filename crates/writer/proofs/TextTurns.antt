-- One turn of each loop over cells, as a step of the text.
use Prim.Native.Nat.{ℕ, zero, suc, ◌+◌, ◌-◌, ◌≤◌, ◌<◌, min}
use mathlib.Core.Path.{◌≡◌, refl, ap, ◌∙◌, sym}
use mathlib.Core.Bool.{Bool, true, false, cond}
use mathlib.Core.List.{List, [], ◌∷◌, ◌++◌, append_assoc}
use native.Mathlib.Omega.{arith}
use native.Mathlib.Numerals.{add-one}
use native.Mathlib.Decide.{dec_le}
use lib.Dec.{ltb}
use borrow.Author.Tests.{lt-ltb, le-ltb, ltb-true}
use lib.ListN.{length, get_or, drop, length-drop, drop_of_length-le}
use lib.Seq.{drop-cons, drop-drop, drop-length}
use Rattle.language.specs.Bytes.{txt}
use Rattle.listing.specs.Print.{digits}
use Rattle.listing.specs.Text.{print_refusal}
use Rattle.sets.specs.Twins.Copying.{part, tree_end, walk_trees, copied}
use Rattle.samples.specs.Twins.Filling.{sampled_cells}
use Rattle.window.specs.Twins.TreeText.{tree_text}
use Rattle.writer.specs.Twins.LineCells.{class_end, line_end}
use Rattle.writer.specs.Twins.SampleText.{filled_line, inputs_from, inputs_text, sample_if}
use Rattle.writer.specs.Twins.LineText.{past_at, binding_at, bindings_from, bindings_text, non_equality_text, restriction_text, line_text, lines_text}

pub bindings_start : (name : ℕ → List ℕ) (vars l : List ℕ) → bindings_text name vars l ≡ bindings_from name vars l (length vars - 0) 0 0
unfolding bindings_text
bindings_start name vars l = let n : length vars ≡ length vars - 0 = omega arith in ap (λ (k : ℕ). bindings_from name vars l k 0 0) n

module _ (name : ℕ → List ℕ) (vars l : List ℕ) (i k : ℕ) where
  pub bindings_end : length vars ≤ i → bindings_from name vars l (length vars - i) i k ≡ []
  unfolding bindings_from
  bindings_end h = let z : length vars - i ≡ 0 = omega arith in rw z

  pub bindings_step : i < length vars →
      bindings_from name vars l (length vars - i) i k
      ≡ binding_at name vars i l k (past_at (get_or vars i 0) l k) ++ bindings_from name vars l (length vars - (i + 1)) (i + 1) (past_at (get_or vars i 0) l k)
  unfolding bindings_from
  bindings_step h = let z : length vars - i ≡ suc (length vars - (i + 1)) = omega arith in rw z

module _ (name : ℕ → List ℕ) (q : List ℕ) (i : ℕ) where
  pub restriction_end : length q - i < 2 → restriction_text name (drop i q) ≡ []
  unfolding restriction_text
  restriction_end h = go (drop i q) (omega (arith, length-drop i q))
    where
      go : (l : List ℕ) → length l < 2 → restriction_text name l ≡ []
      go [] g = refl
      go (x ∷ []) g = refl
      go (x ∷ y ∷ l) g = absurd (omega arith)

  pub restriction_step : 2 ≤ length q - i → restriction_text name (drop i q) ≡ non_equality_text name (get_or q i 0) (get_or q (i + 1) 0) ++ restriction_text name (drop (i + 2) q)
  unfolding restriction_text
  restriction_step h =
      let a : i < length q = omega arith in
      let b : suc i < length q = omega arith in
      let n : suc (suc i) ≡ i + 2 = omega arith in
      rw (drop-cons q i 0 a, drop-cons q (suc i) 0 b, n, add-one i)

-- a line's inputs and output filled, by what each call left
pub filled_line_lem : (l d : List ℕ) (end n : ℕ) (class e g : List ℕ) → end ≡ class_end l → class ≡ part 4 end l → n ≡ min (length class) 4096 → e ≡ (copied class 0 n d 0).cells → g ≡ sampled_cells n e →
    (n ≡ (filled_line l d).size) × (g ≡ (filled_line l d).cells)
unfolding filled_line
filled_line_lem l d end n class e g a b m f h =
    let c : class ≡ part 4 (class_end l) l = b ∙ ap (λ (k : ℕ). part 4 k l) a in
    let k : n ≡ min (length (part 4 (class_end l) l)) 4096 = m ∙ ap (λ (x : List ℕ). min (length x) 4096) c in
    (k, h ∙ ap (sampled_cells n) (f ∙ ap (λ (x : List ℕ). (copied x 0 n d 0).cells) c) ∙ ap (λ (i : ℕ). sampled_cells i (copied (part 4 (class_end l) l) 0 i d 0).cells) k)

-- a tree has a cell
pub tree_further : (s : List ℕ) (at : ℕ) → at < length s → at < tree_end s at
unfolding tree_end walk_trees
tree_further s at h = rw (drop-cons s at 0 h) (omega arith)

module _ (name : ℕ → List ℕ) (s : List ℕ) where
  -- as many turns as there are cells are enough, and more do no harm
  inputs_turns : (n m at : ℕ) → length s - at ≤ n → length s - at ≤ m → inputs_from name s n at ≡ inputs_from name s m at
  unfolding inputs_from
  inputs_turns zero zero at a b = refl
  inputs_turns zero (suc m) at a b = rw (le-ltb at (length s) (omega arith))
  inputs_turns (suc n) zero at a b = rw (le-ltb at (length s) (omega arith))
  inputs_turns (suc n) (suc m) at a b = go (ltb at (length s)) refl (λ k. inputs_turns n m (tree_end s at) (omega arith) (omega arith))
    where
      go : (t : Bool) → ltb at (length s) ≡ t → (at < tree_end s at → inputs_from name s n (tree_end s at) ≡ inputs_from name s m (tree_end s at)) →
          cond t (((32 ∷ []) ++ tree_text name (part at (tree_end s at) s)) ++ inputs_from name s n (tree_end s at)) [] ≡ cond t (((32 ∷ []) ++ tree_text name (part at (tree_end s at) s)) ++ inputs_from name s m (tree_end s at)) []
      go true e more = ap (λ (l : List ℕ). ((32 ∷ []) ++ tree_text name (part at (tree_end s at) s)) ++ l) (more (tree_further s at (ltb-true at (length s) e)))
      go false e more = refl

  pub inputs_start : inputs_text name s ≡ inputs_from name s (length s - 0) 0
  unfolding inputs_text
  inputs_start = inputs_turns (length s) (length s - 0) 0 (omega arith) (omega arith)

  pub inputs_end : (at : ℕ) → length s ≤ at → inputs_from name s (length s - at) at ≡ []
  unfolding inputs_from
  inputs_end at h = let z : length s - at ≡ 0 = omega arith in rw z

  pub inputs_step : (at end : ℕ) → end ≡ tree_end s at → at < length s →
      inputs_from name s (length s - at) at ≡ ((32 ∷ []) ++ tree_text name (part at end s)) ++ inputs_from name s (length s - end) end
  unfolding inputs_from
  inputs_step at end e h =
      let z : length s - at ≡ suc (length s - (at + 1)) = omega arith in
      let g = tree_further s at h in
      rw (z, lt-ltb at (length s) h, ← e)
      (ap (λ (l : List ℕ). ((32 ∷ []) ++ tree_text name (part at end s)) ++ l) (inputs_turns (length s - (at + 1)) (length s - end) end (omega arith) (omega arith)))

pub lines_start : (name : ℕ → List ℕ) (vars : List ℕ) (samples : Bool) (lines : ℕ) (l : List ℕ) → lines_text name vars samples lines 0 l ≡ lines_text name vars samples (lines - 0) 0 (drop 0 l)
lines_start name vars samples lines l = let n : lines ≡ lines - 0 = omega arith in ap (λ (k : ℕ). lines_text name vars samples k 0 l) n

-- behind a line, but not behind the end
pub drop_ahead : (l : List ℕ) (at n : ℕ) → drop n (drop at l) ≡ drop (min (at + n) (length l)) l
drop_ahead l at n = drop-drop n at l ∙ go (dec_le (at + n) (length l))
  where
    go : Dec (at + n ≤ length l) → drop (at + n) l ≡ drop (min (at + n) (length l)) l
    go (yes h) = let m : at + n ≡ min (at + n) (length l) = omega arith in ap (λ (k : ℕ). drop k l) m
    go (no h) = let m : length l ≡ min (at + n) (length l) = omega arith in drop_of_length-le l {i = at + n} (omega arith) ∙ sym (drop-length l) ∙ ap (λ (k : ℕ). drop k l) m

module _ (name : ℕ → List ℕ) (vars : List ℕ) (samples : Bool) (lines i : ℕ) (l : List ℕ) where
  pub lines_end : lines ≤ i → lines_text name vars samples (lines - i) i l ≡ []
  unfolding lines_text
  lines_end h = let z : lines - i ≡ 0 = omega arith in rw z

  -- no cells are left
  pub lines_out : length l ≤ 0 → lines_text name vars samples (lines - i) i l ≡ []
  unfolding lines_text
  lines_out = go (lines - i) l
    where
      go : (n : ℕ) (s : List ℕ) → length s ≤ 0 → lines_text name vars samples n i s ≡ []
      go zero s g = refl
      go (suc n) [] g = refl
      go (suc n) (x ∷ s) g = absurd (omega arith)

  pub lines_step : i < lines → 0 < length l → lines_text name vars samples (lines - i) i l ≡ (line_text name vars (i + 1) l ++ sample_if name samples l) ++ lines_text name vars samples (lines - (i + 1)) (i + 1) (drop (line_end l) l)
  unfolding lines_text
  lines_step h = let z : lines - i ≡ suc (lines - (i + 1)) = omega arith in rw z (go l)
    where
      go : (s : List ℕ) → 0 < length s → lines_text name vars samples (suc (lines - (i + 1))) i s ≡ (line_text name vars (i + 1) s ++ sample_if name samples s) ++ lines_text name vars samples (lines - (i + 1)) (i + 1) (drop (line_end s) s)
      go [] g = absurd (omega arith)
      go (x ∷ s) g = refl

-- a refusal's text in the order in which it is written
pub refusal_text_lem : (letter number offset : ℕ) →
    txt "refused " ++ (letter ∷ []) ++ (32 ∷ []) ++ (digits number ++ (32 ∷ digits offset)) ++ (10 ∷ []) ≡ print_refusal letter number offset
refusal_text_lem letter number offset = ap (λ (l : List ℕ). l ++ (10 ∷ [])) (sym (append_assoc (txt "refused " ++ (letter ∷ 32 ∷ [])) (digits number) (32 ∷ digits offset)))
