-- One turn of each loop, as a step of what its function is equated with.
use Prim.Native.Nat.{ℕ, zero, suc, ◌+◌, ◌*◌, ◌/◌, ◌<◌}
use mathlib.Core.Path.{◌≡◌, refl, ap, ap₂, ◌∙◌}
use mathlib.Core.Bool.{Bool, true, false, cond}
use mathlib.Core.List.{List, [], ◌∷◌}
use native.Mathlib.Omega.{arith}
use lib.ListN.{length, get_or, set, replicate}
use borrow.Author.Tests.{eq-eqb, ne_eqb}
use Rattle.lexer.specs.Twins.Table.{word_in}
use Rattle.sets.specs.Twins.Fill.{renamed}
use Rattle.samples.specs.Twins.Filling.{is_variable, new_code, sampled_from}
use Rattle.samples.specs.Twins.Numbers.{number_of}
use Rattle.samples.specs.Twins.Naming.{copied_from, marked_from, free_from, name_table}

module _ (n i k : ℕ) (s : List ℕ) where
  pub sampled_none : (left : ℕ) → left ≡ 0 → sampled_from n left i k s ≡ s
  unfolding sampled_from
  sampled_none left e = rw e

  pub sampled_variable : (left next : ℕ) → left ≡ suc next → is_variable (get_or s i 0) ≡ true →
      sampled_from n left i k s ≡ sampled_from n next (i + 1) (k + 1) (renamed n (get_or s i 0) (new_code k) s)
  unfolding sampled_from
  sampled_variable left next e t =
      rw e (ap (λ (b : Bool). cond b (sampled_from n next (i + 1) (k + 1) (renamed n (get_or s i 0) (new_code k) s)) (sampled_from n next (i + 1) k s)) t)

  pub sampled_other : (left next : ℕ) → left ≡ suc next → is_variable (get_or s i 0) ≡ false →
      sampled_from n left i k s ≡ sampled_from n next (i + 1) k s
  unfolding sampled_from
  sampled_other left next e t =
      rw e (ap (λ (b : Bool). cond b (sampled_from n next (i + 1) (k + 1) (renamed n (get_or s i 0) (new_code k) s)) (sampled_from n next (i + 1) k s)) t)

module _ (symbols : List ℕ) (i : ℕ) (table : List ℕ) where
  pub copied_none : (left : ℕ) → left ≡ 0 → copied_from symbols left i table ≡ table
  unfolding copied_from
  copied_none left e = rw e

  pub copied_more : (left next : ℕ) → left ≡ suc next → copied_from symbols left i table ≡ copied_from symbols next (i + 1) (set table i (get_or symbols i 65535))
  unfolding copied_from
  copied_more left next e = rw e

module _ (program job symbols : List ℕ) (k : ℕ) (taken : List ℕ) where
  pub marked_none : (left : ℕ) → left ≡ 0 → marked_from program job symbols left k taken ≡ taken
  unfolding marked_from
  marked_none left e = rw e

  pub marked_more : (left next : ℕ) → left ≡ suc next →
      marked_from program job symbols left k taken ≡ marked_from program job symbols next (k + 1) (set taken (number_of (word_in program job (get_or symbols (2 * k + 1) 0))) 1)
  unfolding marked_from
  marked_more left next e = rw e

module _ (taken : List ℕ) (n at : ℕ) (table : List ℕ) where
  pub free_none : (left : ℕ) → left ≡ 0 → free_from taken left n at table ≡ table
  unfolding free_from
  free_none left e = rw e

  pub free_one : (left next : ℕ) → left ≡ suc next → get_or taken n 0 ≡ 0 →
      free_from taken left n at table ≡ free_from taken next (n + 1) (at + 1) (set table at n)
  unfolding free_from
  free_one left next e t =
      rw e (ap (λ (b : Bool). cond b (free_from taken next (n + 1) (at + 1) (set table at n)) (free_from taken next (n + 1) at table)) (eq-eqb (get_or taken n 0) 0 t))

  pub free_other : (left next : ℕ) → left ≡ suc next → (get_or taken n 0 ≡ 0 → ⊥) →
      free_from taken left n at table ≡ free_from taken next (n + 1) at table
  unfolding free_from
  free_other left next e t =
      rw e (ap (λ (b : Bool). cond b (free_from taken next (n + 1) (at + 1) (set table at n)) (free_from taken next (n + 1) at table)) (ne_eqb (get_or taken n 0) 0 t))

-- where there is a cell, what stands for a missing one does not matter
pub get_d_any : (s : List ℕ) (i d e : ℕ) → i < length s → get_or s i d ≡ get_or s i e
get_d_any [] i d e h = absurd (omega arith)
get_d_any (c ∷ s) zero d e h = refl
get_d_any (c ∷ s) (suc i) d e h = get_d_any s i d e (omega arith)

-- the table, from its three steps
pub table_made : (program job symbols table taken copied made : List ℕ) → taken ≡ marked_from program job symbols (length symbols / 2) 0 (replicate 5121 0) →
    copied ≡ copied_from symbols 2048 0 table → made ≡ free_from taken 5120 1 2048 copied → made ≡ name_table program job symbols table
unfolding name_table
table_made program job symbols table taken copied made e f g = g ∙ ap₂ (λ t c. free_from t 5120 1 2048 c) e f
