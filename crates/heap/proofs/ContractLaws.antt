-- `contract_entry` and `contract_entries` by what their calls leave.
use Prim.Native.Nat.{ℕ, suc, ◌+◌, ◌-◌, ◌%◌, ◌≤◌, ◌<◌}
use mathlib.Core.Path.{◌≡◌, ap, ap₂, ◌∙◌, sym as inv}
use mathlib.Core.List.{List}
use native.Mathlib.Omega.{arith}
use lib.ListN.{get_or}
use borrow.Author.Tests.{eq-eqb, ne_eqb}
use Rattle.std.specs.Prelude.{Option, Some, None}
use Rattle.sets.specs.Twins.Fill.{fill_answer}
use Rattle.runs.specs.Twins.Runs.{replace_answer, replaced}
use Rattle.codes.specs.declared.outcome.Replaced.{Replaced}
use Rattle.heap.specs.Twins.Entries.{entry_known, entry_from, entry_to}
use Rattle.heap.specs.Twins.Contracted.{stores, entered_frame, leaf_entered, onward_from, contracted_entry, contracted_from}

module _ (i x vfrom vto used : ℕ) (h f : List ℕ) where
  pub entry_closed : entry_known f i % 2 ≡ 1 → stores (Some used) h f ≡ contracted_entry i x vfrom vto used h f
  unfolding contracted_entry
  entry_closed e = rw (eq-eqb (entry_known f i % 2) 1 e)

  module _ (unclosed : entry_known f i % 2 ≡ 1 → ⊥) (from to : ℕ) (is-from : from ≡ entry_from f i) (is-to : to ≡ entry_to f i) where
    pub entry_leaf : to - from ≡ 1 → (c : ℕ) → c ≡ get_or h from 0 → (f' : List ℕ) → f' ≡ leaf_entered i c x vfrom vto f → stores (Some used) h f' ≡ contracted_entry i x vfrom vto used h f
    unfolding contracted_entry
    entry_leaf e c is f' put =
        let z : entry_to f i - entry_from f i ≡ 1 = ap₂ ◌-◌ (inv is-to) (inv is-from) ∙ e in
        let w : get_or h (entry_from f i) 0 ≡ c = ap (λ (k : ℕ). get_or h k 0) (inv is-from) ∙ inv is in
        rw (ne_eqb (entry_known f i % 2) 1 unclosed, eq-eqb (entry_to f i - entry_from f i) 1 z, w, put)

    pub entry_made : (to - from ≡ 1 → ⊥) → (r : Replaced) (h' : List ℕ) → replace_answer r h' ≡ replaced from to x vfrom vto used h → (size : ℕ) → size ≡ vto - vfrom →
        (q : Option ℕ) (f' : List ℕ) → fill_answer q f' ≡ entered_frame i (entry_known f i) size used r f → stores q h' f' ≡ contracted_entry i x vfrom vto used h f
    unfolding contracted_entry
    entry_made e r h' made size is q f' put =
        let z : entry_to f i - entry_from f i ≡ to - from = ap₂ ◌-◌ (inv is-to) (inv is-from) in
        rw (ne_eqb (entry_known f i % 2) 1 unclosed, z, ne_eqb (to - from) 1 e, ← is-from, ← is-to, ← made, ← is, ← put)

-- one turn of `contract_entries`
module _ (i end x vfrom vto used : ℕ) (h f : List ℕ) where
  pub entries_end : end ≤ i → contracted_from (end - i) i x vfrom vto used h f ≡ stores (Some used) h f
  unfolding contracted_from
  entries_end l = let n : end - i ≡ 0 = omega arith in rw n

  module _ (more : i < end) (r : Option ℕ) (h' f' : List ℕ) (made : stores r h' f' ≡ contracted_entry i x vfrom vto used h f) where
    entries_next : contracted_from (end - i) i x vfrom vto used h f ≡ onward_from (contracted_from (end - (i + 1)) (i + 1) x vfrom vto) (stores r h' f')
    unfolding contracted_from
    entries_next = let n : end - i ≡ suc (end - (i + 1)) = omega arith in rw (n, ← made)

    pub entries_on : {k : ℕ} → r ≡ Some k → contracted_from (end - i) i x vfrom vto used h f ≡ contracted_from (end - (i + 1)) (i + 1) x vfrom vto k h' f'
    entries_on e = entries_next ∙ rw e

    pub entries_over : r ≡ None → contracted_from (end - i) i x vfrom vto used h f ≡ stores None h' f'
    entries_over e = entries_next ∙ rw e
