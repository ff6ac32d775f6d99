-- Entries moved down in the frame.
use Prim.Native.Nat.{ℕ, suc, ◌+◌, ◌≤◌, ◌<◌}
use mathlib.Core.Path.{◌≡◌, refl, ap₂, ◌∙◌, sym as inv}
use mathlib.Core.List.{List}
use native.Mathlib.Omega.{arith}
use lib.ListN.{get_or, set}
use lib.Seq.{sets, get_or-set_other}
use Rattle.runs.specs.Twins.Runs.{cells_at, run}
use Rattle.runs.proofs.RunLaws.{run_cons, run_end}

-- THE INVARIANT of `move_down`: i cells are moved; from the next one on the frame is as it was, and what is left makes what the whole makes
pub record Moving (g : List ℕ) (a b size : ℕ) (f : List ℕ) (i : ℕ) : Type 0 where
  pub down : b ≤ a
  pub same : (j : ℕ) → b + i ≤ j → get_or f j 0 ≡ get_or g j 0
  pub made : sets g b (cells_at size a g) ≡ sets f (b + i) (run (a + i) (a + size) g)

pub moving_start : (g : List ℕ) (a b size : ℕ) → b ≤ a → Moving g a b size g 0
moving_start g a b size l = record {
  down = l;
  same = λ j m. refl;
  made = ap₂ (λ (p : ℕ) (w : List ℕ). sets g p w) (omega arith) (ap₂ (λ (p q : ℕ). cells_at p q g) (omega arith) (omega arith));
}

module _ {g : List ℕ} {a b size : ℕ} {f : List ℕ} {i : ℕ} (m : Moving g a b size f i) where
  pub moving_next : i < size → Moving g a b size (set f (b + i) (get_or f (a + i) 0)) (i + 1)
  moving_next l = record {
    down = m.down;
    same = λ j p. get_or-set_other f (b + i) j (get_or f (a + i) 0) 0 (λ e. omega arith) ∙ m.same j (omega arith);
    made =
        let e : a + (i + 1) ≡ a + i + 1 = omega arith in
        let k : b + (i + 1) ≡ suc (b + i) = omega arith in
        m.made ∙ rw (run_cons (a + i) (a + size) g (omega arith), e, k, m.same (a + i) (omega (arith, m.down)));
  }

  pub moving_end : size ≤ i → f ≡ sets g b (cells_at size a g)
  moving_end l = inv (m.made ∙ rw (run_end (a + i) (a + size) g (omega arith)))
