-- What contracting entries keeps, whatever the cells hold: all that lies below `used`, and the lengths.
use Prim.Native.Nat.{ℕ, zero, suc, ◌+◌, ◌-◌, ◌*◌, ◌%◌, ◌≤◌, min}
use mathlib.Core.Path.{◌≡◌, refl, ◌∙◌}
use mathlib.Core.Bool.{Bool, true, false, cond}
use mathlib.Core.List.{List}
use native.Mathlib.Omega.{arith}
use lib.Dec.{eqb, leb, ltb}
use lib.ListN.{length, get_or, length-set}
use lib.Seq.{sets, length-sets}
use Rattle.std.specs.Prelude.{Option, Some, None}
use Rattle.sets.specs.Twins.Fill.{fill_answer}
use Rattle.codes.specs.Twins.Knowing.{known_after, closed_as}
use Rattle.codes.specs.Twins.Outcomes.{unmoved}
use Rattle.runs.specs.Twins.Runs.{run, count_in, any_variable, written, appended_filled, replace_answer, moved_answer, replaced}
use Rattle.codes.specs.declared.outcome.Replaced.TheVariants.{Over as ReplacedOver}
use Rattle.heap.specs.Twins.Entries.{entry, entry_known, entry_from, entry_to}
use Rattle.heap.specs.Twins.Contracted.{Stores, stores, leaf_entered, entered_replaced, onward, onward_from, contracted_entry, contracted_from}
use Rattle.runs.proofs.RunLaws.{Below, below_self, below_sets}
use Rattle.heap.proofs.FrameLaws.{entry_length}

pub below_then : {k n : ℕ} {a b c : List ℕ} → Below k a b → Below n b c → n ≤ k → Below n a c
below_then x y l = record { same = λ j m. x.same j (omega arith) ∙ y.same j m }

pub record Keeps (used : ℕ) (h f : List ℕ) (w : Stores) : Type 0 where
  pub same : Below used w.heap h
  pub size : length w.heap ≡ length h
  pub entries : length w.frame ≡ length f
  pub grown : (k : ℕ) → w.answer ≡ Some k → used ≤ k

module _ (used : ℕ) (h f : List ℕ) where
  keeps_over : Keeps used h f (stores None h f)
  keeps_over = record { same = below_self; size = refl; entries = refl; grown = λ k e. let z : ◌≡◌ {A = ℕ} 0 1 = cc in absurd (omega arith) }

  keeps_done : Keeps used h f (stores (Some used) h f)
  keeps_done = record { same = below_self; size = refl; entries = refl; grown = λ k e. let z : used ≡ k = cc in omega arith }

  written_keeps : (i size n : ℕ) (w : List ℕ) → Keeps used h f (entered_replaced i size used f (moved_answer (written used n w h)))
  unfolding written
  written_keeps i size n w = pick (leb (used + n) 65535)
    where
      pick : (b : Bool) → Keeps used h f (entered_replaced i size used f (moved_answer (cond b (fill_answer (Some (used + n)) (sets h used w)) (fill_answer None h))))
      pick true = record {
        same = below_sets used w below_self (omega arith);
        size = length-sets h used w;
        entries = entry_length i (known_after (entry_known f i) size) used (used + n) f;
        grown = λ k e. let z : used + n ≡ k = cc in omega arith;
      }
      pick false = keeps_over

  unmoved_keeps : (i size : ℕ) (b : Bool) → Keeps used h f (entered_replaced i size used f (replace_answer (unmoved b) h))
  unmoved_keeps i size true = keeps_done
  unmoved_keeps i size false = record { same = below_self; size = refl; entries = length-set f (3 * i) (closed_as (entry_known f i)); grown = λ k e. let z : used ≡ k = cc in omega arith }

  replaced_keeps : (i size from to x vfrom vto : ℕ) → Keeps used h f (entered_replaced i size used f (replaced from to x vfrom vto used h))
  unfolding replaced
  replaced_keeps i size from to x vfrom vto = pick (ltb 65535 used) (eqb (count_in x (run from (min to used) h)) 0)
    where
      pick : (a b : Bool) → Keeps used h f (entered_replaced i size used f (cond a (replace_answer ReplacedOver h) (cond b (replace_answer (unmoved (any_variable (run from (min to used) h))) h) (moved_answer (appended_filled from to x vfrom vto used h)))))
      pick true b = keeps_over
      pick false true = unmoved_keeps i size (any_variable (run from (min to used) h))
      pick false false = written_keeps i size _ _

  leaf_keeps : (i c x vfrom vto : ℕ) → Keeps used h f (stores (Some used) h (leaf_entered i c x vfrom vto f))
  leaf_keeps i c x vfrom vto = pick (eqb c x)
    where
      pick : (b : Bool) → Keeps used h f (stores (Some used) h (cond b (entry i 0 vfrom vto f) f))
      pick true = record { same = below_self; size = refl; entries = entry_length i 0 vfrom vto f; grown = λ k e. let z : used ≡ k = cc in omega arith }
      pick false = keeps_done

  entry_keeps : (i x vfrom vto : ℕ) → Keeps used h f (contracted_entry i x vfrom vto used h f)
  unfolding contracted_entry
  entry_keeps i x vfrom vto = pick (eqb (entry_known f i % 2) 1) (eqb (entry_to f i - entry_from f i) 1)
    where
      pick : (a b : Bool) → Keeps used h f (cond a (stores (Some used) h f) (cond b (stores (Some used) h (leaf_entered i (get_or h (entry_from f i) 0) x vfrom vto f)) (entered_replaced i (vto - vfrom) used f (replaced (entry_from f i) (entry_to f i) x vfrom vto used h))))
      pick true b = keeps_done
      pick false true = leaf_keeps i (get_or h (entry_from f i) 0) x vfrom vto
      pick false false = replaced_keeps i (vto - vfrom) (entry_from f i) (entry_to f i) x vfrom vto

pub contract_keeps : (left i x vfrom vto used : ℕ) (h f : List ℕ) → Keeps used h f (contracted_from left i x vfrom vto used h f)
unfolding contracted_from
contract_keeps zero i x vfrom vto used h f = keeps_done used h f
contract_keeps (suc left) i x vfrom vto used h f = rest (contracted_entry i x vfrom vto used h f) (entry_keeps used h f i x vfrom vto) (contract_keeps left (i + 1) x vfrom vto)
  where
    rest : (w : Stores) → Keeps used h f w → ((k : ℕ) (g e : List ℕ) → Keeps k g e (contracted_from left (i + 1) x vfrom vto k g e)) →
        Keeps used h f (onward_from (contracted_from left (i + 1) x vfrom vto) w)
    rest w a again = pick w.answer refl
      where
        pick : (r : Option ℕ) → w.answer ≡ r → Keeps used h f (onward (contracted_from left (i + 1) x vfrom vto) r w.heap w.frame)
        pick (Some k) e =
            let b = again k w.heap w.frame in
            let l = a.grown k e in
            record {
              same = below_then b.same a.same l;
              size = b.size ∙ a.size;
              entries = b.entries ∙ a.entries;
              grown = λ j q. let m = b.grown j q in omega arith;
            }
        pick None e = record { same = a.same; size = a.size; entries = a.entries; grown = λ k q. let z : ◌≡◌ {A = ℕ} 0 1 = cc in absurd (omega arith) }
