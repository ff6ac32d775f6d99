-- The loop that forgets newer records: each turn takes one off the top, and fuel for as many cells as there are is enough.
use Prim.Native.Nat.{ℕ, zero, suc, ◌-◌, ◌≤◌, ◌<◌}
use mathlib.Core.Path.{◌≡◌, refl, ap, ◌∙◌}
use mathlib.Core.Bool.{Bool, true, false}
use mathlib.Core.List.{List}
use native.Mathlib.Omega.{arith}
use native.Mathlib.Decide.{dec_le}
use borrow.Author.Tests.{lt-ltb, le-ltb}
use Rattle.saving.specs.Twins.Heads.{begins_at}
use Rattle.saving.specs.Twins.Saving.{is_low, older_from, older_top}

pub begins_below : (s : List ℕ) (t : ℕ) → 0 < t → begins_at s t < t
unfolding begins_at
begins_below s t l = omega arith

module _ (s : List ℕ) (base size used : ℕ) where
  pub older_end : (n t : ℕ) → t ≤ base → older_from s base size used n t ≡ base
  unfolding older_from
  older_end zero t l = refl
  older_end (suc n) t l = rw (le-ltb base t l)

  pub older_here : (n t : ℕ) → base < t → t ≤ n → is_low s size used t ≡ true → older_from s base size used n t ≡ t
  unfolding older_from
  older_here zero t l m e = absurd (omega arith)
  older_here (suc n) t l m e = rw (lt-ltb base t l, e)

  older_on : (n t : ℕ) → base < t → is_low s size used t ≡ false → older_from s base size used (suc n) t ≡ older_from s base size used n (begins_at s t)
  unfolding older_from
  older_on n t l e = rw (lt-ltb base t l, e)

  abbrev Same : ℕ → ℕ → Type 0
  Same m n = (t : ℕ) → t ≤ m → t ≤ n → older_from s base size used m t ≡ older_from s base size used n t

  fuel_step : (m n : ℕ) → Same m n → Same (suc m) (suc n)
  fuel_step m n again t l k = pick (dec_le t base)
    where
      on : base < t → (b : Bool) → is_low s size used t ≡ b → older_from s base size used (suc m) t ≡ older_from s base size used (suc n) t
      on p true e = rw (older_here (suc m) t p l e, older_here (suc n) t p k e)
      on p false e =
          let z = begins_below s t (omega arith) in
          rw (older_on m t p e, older_on n t p e) (again (begins_at s t) (omega arith) (omega arith))

      pick : Dec (t ≤ base) → older_from s base size used (suc m) t ≡ older_from s base size used (suc n) t
      pick (yes p) = rw (older_end (suc m) t p, older_end (suc n) t p)
      pick (no p) = on (omega arith) (is_low s size used t) refl

  none_at_all : (n t : ℕ) → t ≤ 0 → older_from s base size used n t ≡ base
  none_at_all n t l = older_end n t (omega arith)

  older_fuel : (m n : ℕ) → Same m n
  older_fuel zero n t l k = rw (none_at_all 0 t l, none_at_all n t l)
  older_fuel (suc m) zero t l k = rw (none_at_all (suc m) t k, none_at_all 0 t k)
  older_fuel (suc m) (suc n) t l k = fuel_step m n (older_fuel m n) t l k

  pub older_turn : (t : ℕ) → base < t → is_low s size used t ≡ false → older_top s base size used t ≡ older_top s base size used (begins_at s t)
  older_turn t l e =
      let z = begins_below s t (omega arith) in
      let n : t ≡ suc (t - 1) = omega arith in
      ap (λ (k : ℕ). older_from s base size used k t) n ∙ older_on (t - 1) t l e ∙ older_fuel (t - 1) (begins_at s t) (begins_at s t) (omega arith) (omega arith)
