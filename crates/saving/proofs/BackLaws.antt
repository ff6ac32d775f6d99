-- What a configuration that was brought back has: its entries hold the trees that they held, and its non-equalities stand at the front of q.
use Prim.Native.Nat.{ℕ, ◌+◌, ◌*◌, ◌≤◌}
use mathlib.Core.Path.{◌≡◌, ap, ◌∙◌}
use mathlib.Core.List.{List, [], ◌∷◌, ◌++◌}
use native.Mathlib.Omega.{arith}
use lib.ListN.{length, take, drop, get_or-append}
use lib.Seq.{length-take-le, take_at, get_or-take}
use Rattle.expressions.specs.Expression.{Exp}
use Rattle.expressions.specs.Restriction.{Restriction}
use Rattle.restrictions.proofs.RestrictionLaws.{Front, front_room}
use Rattle.runs.proofs.RunLaws.{Below, below_self}
use Rattle.heap.proofs.FrameLaws.{Held, held_front}
use Rattle.saving.specs.Twins.Saving.{loaded}
use Rattle.saving.specs.Twins.Records.{Record, Holding}
use Rattle.saving.proofs.HoldingLaws.{load_means}

-- cells that stood at the front, at the front again
front_below : (n : ℕ) (f d : List ℕ) → n ≤ length f → Below n (take n f ++ d) f
front_below n f d l = record { same = λ j m. get_or-append (take n f) d 0 j (omega (arith, length-take-le n f l)) ∙ get_or-take n f j 0 m }

entries_again : {h f : List ℕ} {used : ℕ} {ts : List Exp} → Held h used f 0 ts → 3 * length ts ≤ length f → (e d : List ℕ) → e ≡ take (3 * length ts) f → Held h used (e ++ d) 0 ts
entries_again {f = f} {ts = ts} x l e d is =
    let z : 0 + length ts ≡ length ts = omega arith in
    let b : Below (3 * (0 + length ts)) (take (3 * length ts) f ++ d) f = rw z (front_below (3 * length ts) f d l) in
    rw is (held_front x below_self (omega arith) b)

sides_again : (qs : Restriction) (q : List ℕ) → Front qs q → (e d : List ℕ) → e ≡ take (2 * length qs) q → Front qs (e ++ d)
sides_again qs q x e d is =
    let l : length e ≡ 2 * length qs = ap length is ∙ length-take-le (2 * length qs) q (front_room qs q x) in
    take_at e d (2 * length qs) l ∙ is ∙ x

module _ {s : List ℕ} {top : ℕ} (rs : List Record) (r : Record) (x : Holding s top (rs ++ (r ∷ []))) (f' q' : List ℕ) (frame : length f' ≡ 12360) (neqs : length q' ≡ 4096) where
  -- THE LAW of going back, for the heap: where the record has the cells of entries that hold trees, they hold them in any frame that it is brought back to
  pub record_held : {h f : List ℕ} {used : ℕ} {ts : List Exp} → Held h used f 0 ts → 3 * length ts ≤ length f → r.entries ≡ take (3 * length ts) f → Held h used (loaded s top f' q').frame 0 ts
  record_held y l is = rw (load_means rs r x f' q' frame neqs) (entries_again y l r.entries (drop (3 * r.at.entries) f') is)

  -- .. and for the non-equalities
  pub record_front : (qs : Restriction) (q : List ℕ) → Front qs q → r.sides ≡ take (2 * length qs) q → Front qs (loaded s top f' q').q
  record_front qs q y is = rw (load_means rs r x f' q' frame neqs) (sides_again qs q y r.sides (drop (2 * r.at.neqs) q') is)
