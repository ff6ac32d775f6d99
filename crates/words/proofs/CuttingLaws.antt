-- Laws of scanning a text by index.
use Prim.Native.Nat.{ℕ, ◌+◌, ◌≤◌, ◌<◌, max}
use mathlib.Core.Path.{◌≡◌, refl, ◌∙◌, sym}
use mathlib.Core.Bool.{Bool, true, false}
use mathlib.Core.List.{List}
use native.Mathlib.Numerals.{add-one}
use native.Mathlib.Omega.{arith}
use lib.Dec.{leb}
use borrow.Author.Tests.{leb-true, leb-false}
use lib.ListN.{length, get_or, drop_of_length-le}
use lib.Seq.{drop-cons}
use Rattle.words.specs.Twins.Cutting.{scan, scan_at}

pub scan_on : (f : ℕ → Bool) (s : List ℕ) (i : ℕ) → i < length s → f (get_or s i 0) ≡ true → scan_at f s i ≡ scan_at f s (i + 1)
unfolding scan
scan_on f s i h z = rw (drop-cons s i 0, z, add-one i)

pub scan_stop : (f : ℕ → Bool) (s : List ℕ) (i : ℕ) → i < length s → f (get_or s i 0) ≡ false → scan_at f s i ≡ i
unfolding scan
scan_stop f s i h z = rw (drop-cons s i 0, z)

pub scan_end : (f : ℕ → Bool) (s : List ℕ) (i : ℕ) → length s ≤ i → scan_at f s i ≡ i
unfolding scan
scan_end f s i h = rw (drop_of_length-le s h)

-- a scan from a that has come to i, past which nothing stands
pub scan_past : (f : ℕ → Bool) (s : List ℕ) (a i : ℕ) → scan_at f s a ≡ scan_at f s i → (a ≤ length s → i ≤ length s) → length s ≤ i → max (length s) a ≡ scan_at f s a
scan_past f s a i e within h = go (leb a (length s)) refl
  where
    go : (t : Bool) → leb a (length s) ≡ t → max (length s) a ≡ scan_at f s a
    go true l = let k = within (leb-true a (length s) l) in let m : max (length s) a ≡ i = omega (arith, leb-true a (length s) l) in m ∙ sym (e ∙ scan_end f s i h)
    go false l =
        let k = leb-false a (length s) l in
        let m : max (length s) a ≡ a = omega arith in
        m ∙ sym (scan_end f s a (omega arith))
