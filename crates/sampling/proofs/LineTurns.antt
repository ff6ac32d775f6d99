-- One turn of the search for a line.
use Prim.Native.Nat.{ℕ, zero, suc, ◌+◌, ◌-◌, ◌≤◌, ◌<◌, min}
use mathlib.Core.Path.{◌≡◌, refl, ap, ap₂, ◌∙◌, sym as inv}
use mathlib.Core.Bool.{true, false}
use mathlib.Core.List.{List, []}
use native.Mathlib.Omega.{arith}
use lib.ListN.{length, drop, get_or, replicate, drop_of_length-le}
use borrow.Author.Tests.{lt-ltb, le-ltb, eq-eqb, ne_eqb}
use Rattle.writer.specs.Twins.LineCells.{line_end}
use Rattle.writer.proofs.TextTurns.{drop_ahead}
use Rattle.writer.specs.Twins.SampleText.{filled_line}
use Rattle.lent.specs.Storage.{zeros}
use Rattle.sets.specs.Twins.Copying.{copied}
use Rattle.std.specs.Prelude.{Result, Err}
use Rattle.sampling.specs.declared.line.Sampled.{Sampled}
use Rattle.sampling.specs.declared.line.Unsampled.{Unsampled}
use Rattle.sampling.specs.declared.line.Unsampled.TheVariants.{Absent, Short}
use Rattle.sampling.specs.Twins.Lines.{behind_lines, is_line, done, sample_cells, sample_of, sample_left}

behind_nothing : (k : ℕ) → behind_lines k [] ≡ []
unfolding behind_lines
behind_nothing zero = refl
behind_nothing (suc k) = behind_nothing k

pub behind_end_lem : (k : ℕ) (s : List ℕ) (at : ℕ) → length s ≤ at → drop at s ≡ behind_lines k (drop at s)
behind_end_lem k s at l = let e : drop at s ≡ [] = drop_of_length-le s l in e ∙ inv (behind_nothing k) ∙ ap (behind_lines k) (inv e)

pub behind_start : (before : ℕ) (s : List ℕ) → behind_lines before s ≡ behind_lines (before - 0) s
behind_start before s = let e : before ≡ before - 0 = omega arith in ap (λ (n : ℕ). behind_lines n s) e

pub behind_turn : (k left : ℕ) (s : List ℕ) (at : ℕ) → left ≡ suc k → behind_lines left (drop at s) ≡ behind_lines k (drop (min (at + line_end (drop at s)) (length s)) s)
unfolding behind_lines
behind_turn k left s at e = ap (λ (n : ℕ). behind_lines n (drop at s)) e ∙ ap (behind_lines k) (drop_ahead s at (line_end (drop at s)))

pub behind_none : (left : ℕ) (s : List ℕ) → left ≤ 0 → s ≡ behind_lines left s
unfolding behind_lines
behind_none zero s l = refl
behind_none (suc k) s l = absurd (omega arith)

-- what the functions leave, by what their calls did
pub sample_cells_lem : (l s x d : List ℕ) (n : ℕ) → n ≡ (filled_line l (replicate 4096 0)).size → x ≡ (filled_line l (replicate 4096 0)).cells → d ≡ zeros s → (copied x 0 n d 0).cells ≡ sample_cells l s
unfolding sample_cells
sample_cells_lem l s x d n a b e = let f : List ℕ → ℕ → List ℕ → List ℕ = λ y m z. (copied y 0 m z 0).cells in ap (λ (y : List ℕ). f y n d) b ∙ ap (λ (m : ℕ). f (filled_line l (replicate 4096 0)).cells m d) a ∙ ap (λ (z : List ℕ). f (filled_line l (replicate 4096 0)).cells (filled_line l (replicate 4096 0)).size z) e

module _ (l s : List ℕ) (i o : ℕ) (a : i ≡ get_or l 1 0) (b : o ≡ get_or l 2 0) where
  test : is_line (get_or l 1 0) (get_or l 2 0) ≡ is_line i o
  test = ap₂ is_line (inv a) (inv b)

  pub sample_some : is_line i o ≡ true → (done i o ≡ (sample_of l s).answer) × (sample_cells l s ≡ (sample_of l s).cells)
  sample_some e = rw (test ∙ e, ← a, ← b) (refl, refl)

  pub sample_none : is_line i o ≡ false → (Err Absent ≡ (sample_of l s).answer) × (s ≡ (sample_of l s).cells)
  sample_none e = rw (test ∙ e) (refl, refl)

-- by the number of the line and the room for its sample
module _ (number : ℕ) (answer s : List ℕ) where
  pub left_short : length s < 4096 → (Err Short ≡ (sample_left number answer s).answer) × (s ≡ (sample_left number answer s).cells)
  unfolding sample_left
  left_short h = rw (lt-ltb (length s) 4096 h) (refl, refl)

  pub left_none : 4096 ≤ length s → number ≡ 0 → (Err Absent ≡ (sample_left number answer s).answer) × (s ≡ (sample_left number answer s).cells)
  unfolding sample_left
  left_none h e = rw (le-ltb (length s) 4096 h, eq-eqb number 0 e) (refl, refl)

  pub left_some : 4096 ≤ length s → (number ≡ 0 → ⊥) → (l x : List ℕ) (r : Result Sampled Unsampled) → l ≡ behind_lines (number - 1) answer → (r ≡ (sample_of l s).answer) × (x ≡ (sample_of l s).cells) →
      (r ≡ (sample_left number answer s).answer) × (x ≡ (sample_left number answer s).cells)
  unfolding sample_left
  left_some h n l x r e w = rw (le-ltb (length s) 4096 h, ne_eqb number 0 n, ← e) w
