-- One turn of each loop over tokens.
use Prim.Native.Nat.{ℕ, suc, ◌+◌, ◌-◌, ◌≤◌, ◌<◌}
use mathlib.Core.Path.{◌≡◌}
use mathlib.Core.Bool.{true, false}
use mathlib.Core.List.{List, [], ◌∷◌}
use native.Mathlib.Omega.{arith}
use borrow.Author.Tests.{eq-eqb, ne_eqb}
use Rattle.linking.specs.Twins.Code.{link_at}
use Rattle.constants.specs.Twins.Laying.{named_in, cells_of, laid_one, laid_from}
use Rattle.constants.specs.declared.lay.Laid.{Laid}

module _ (code : List ℕ) (j to : ℕ) where
  pub named_here : j < to → (link_at code j).mark ≡ 2 → named_in code (to - j) j ≡ true
  unfolding named_in
  named_here l e = let n : to - j ≡ suc (to - (j + 1)) = omega arith in rw (n, eq-eqb (link_at code j).mark 2 e)

  pub named_later : j < to → ((link_at code j).mark ≡ 2 → ⊥) → named_in code (to - j) j ≡ named_in code (to - (j + 1)) (j + 1)
  unfolding named_in
  named_later l e = let n : to - j ≡ suc (to - (j + 1)) = omega arith in rw (n, ne_eqb (link_at code j).mark 2 e)

  pub named_none : to ≤ j → named_in code (to - j) j ≡ false
  unfolding named_in
  named_none l = let n : to - j ≡ 0 = omega arith in rw n

  pub cells_here : j < to → (link_at code j).mark ≡ 1 → cells_of code (to - j) j ≡ (link_at code j).first ∷ cells_of code (to - (j + 1)) (j + 1)
  unfolding cells_of
  cells_here l e = let n : to - j ≡ suc (to - (j + 1)) = omega arith in rw (n, eq-eqb (link_at code j).mark 1 e)

  pub cells_later : j < to → ((link_at code j).mark ≡ 1 → ⊥) → cells_of code (to - j) j ≡ cells_of code (to - (j + 1)) (j + 1)
  unfolding cells_of
  cells_later l e = let n : to - j ≡ suc (to - (j + 1)) = omega arith in rw (n, ne_eqb (link_at code j).mark 1 e)

  pub cells_none : to ≤ j → cells_of code (to - j) j ≡ []
  unfolding cells_of
  cells_none l = let n : to - j ≡ 0 = omega arith in rw n

-- one token of `lay_constants`
pub laid_again : (limit end i : ℕ) (s : Laid) (code h : List ℕ) → i < end → laid_from limit (end - i) i s code h ≡ (let w = laid_one i s limit code h in laid_from limit (end - (i + 1)) (i + 1) w.now w.code w.heap)
unfolding laid_from
laid_again limit end i s code h l = let n : end - i ≡ suc (end - (i + 1)) = omega arith in rw n

pub laid_end : (limit end i : ℕ) (s : Laid) (code h : List ℕ) → end ≤ i → laid_from limit (end - i) i s code h ≡ record { now = s; code = code; heap = h }
unfolding laid_from
laid_end limit end i s code h l = let n : end - i ≡ 0 = omega arith in rw n
