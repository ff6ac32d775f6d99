-- What is written behind a run, and what stays below it.
use Prim.Native.Nat.{ℕ, zero, suc, ◌+◌, ◌-◌, ◌*◌, ◌%◌, ◌≤◌, ◌<◌, min}
use mathlib.Core.Path.{◌≡◌, refl, ap, ap₂, subst, ◌∙◌, sym as inv}
use mathlib.Core.Bool.{Bool, true, false, cond, not}
use mathlib.Core.List.{List, [], ◌∷◌, ◌++◌}
use native.Mathlib.Omega.{arith}
use native.Mathlib.Decide.{dec_le}
use native.Mathlib.Nat.{zero-mul, suc-mul}
use native.Mathlib.Numerals.{add-one}
use lib.Dec.{eqb, ltb}
use lib.ListN.{length, take, drop, get_or, set, length-append}
use lib.Seq.{sets, sets-eq, paste, take_at, drop-cons, get_or-set_other}
use borrow.Author.Tests.{le-leb, lt-leb, lt-ltb, le-ltb, ltb-true, ltb-false, eq-eqb, ne_eqb, eqb-true, eqb-false}
use Rattle.std.specs.Prelude.{Option, Some, None}
use Rattle.sets.specs.Twins.Copying.{any_cell}
use Rattle.sets.specs.Twins.Fill.{FillAnswer, fill_answer, spread}
use Rattle.runs.specs.declared.run.Seen.{Seen}
use Rattle.codes.specs.Twins.Codes.{met_of, variable_met, one_if, renamed_cell}
use Rattle.codes.specs.Twins.Outcomes.{unmoved}
use Rattle.codes.specs.declared.outcome.Replaced.{Replaced}
use Rattle.codes.specs.declared.outcome.Replaced.TheVariants.{Over as ReplacedOver}
use Rattle.runs.specs.Twins.Runs.{cells_at, run, count_in, seen_in, first_in, further, lacks_next, any_variable, spread_size, written, appended, appended_filled, moved_by, replace_answer, moved_answer, replaced}

-- two heaps are the same below a place
pub record Below (used : ℕ) (h g : List ℕ) : Type 0 where
  pub same : (j : ℕ) → j < used → get_or h j 0 ≡ get_or g j 0

pub below_self : {used : ℕ} {h : List ℕ} → Below used h h
below_self = record { same = λ j m. refl }

pub below_set : {used : ℕ} {h g : List ℕ} (k c : ℕ) → Below used h g → used ≤ k → Below used (set h k c) g
below_set {used} {h} {g} k c b l = record { same = λ j m. get_or-set_other h k j c 0 (λ e. omega arith) ∙ b.same j m }

pub below_sets : {used : ℕ} {h g : List ℕ} (k : ℕ) (w : List ℕ) → Below used h g → used ≤ k → Below used (sets h k w) g
below_sets k [] b l = b
below_sets k (c ∷ w) b l = below_sets (suc k) w (below_set k c b l) (omega arith)

module _ (i to : ℕ) (h : List ℕ) where
  pub run_cons : i < to → run i to h ≡ get_or h i 0 ∷ run (i + 1) to h
  unfolding cells_at
  run_cons l = let n : to - i ≡ suc (to - (i + 1)) = omega arith in rw n

  pub run_end : to ≤ i → run i to h ≡ []
  unfolding cells_at
  run_end l = let n : to - i ≡ 0 = omega arith in rw n

pub length_cells_at : (n i : ℕ) (h : List ℕ) → length (cells_at n i h) ≡ n
unfolding cells_at
length_cells_at zero i h = refl
length_cells_at (suc n) i h = ap suc (length_cells_at n (i + 1) h)

-- a run is a part of the list, and two that follow each other are one
pub run_drop : (n i : ℕ) (h : List ℕ) → i + n ≤ length h → drop i h ≡ cells_at n i h ++ drop (i + n) h
unfolding cells_at
run_drop zero i h l = let e : i + 0 ≡ i = omega arith in rw e
run_drop (suc n) i h l =
    let e : i + suc n ≡ i + 1 + n = omega arith in
    let r : drop (i + 1) h ≡ cells_at n (i + 1) h ++ drop (i + 1 + n) h = run_drop n (i + 1) h (omega arith) in
    drop-cons h i 0 (omega arith) ∙ ap (λ (k : List ℕ). get_or h i 0 ∷ k) (ap (λ (k : ℕ). drop k h) (inv (add-one i)) ∙ r ∙ ap (λ (k : ℕ). cells_at n (i + 1) h ++ drop k h) (inv e))

pub cells_split : (m n i : ℕ) (h : List ℕ) → cells_at (m + n) i h ≡ cells_at m i h ++ cells_at n (i + m) h
unfolding cells_at
cells_split zero n i h = let e : i + 0 ≡ i = omega arith in let z : 0 + n ≡ n = omega arith in rw (e, z)
cells_split (suc m) n i h =
    let e : i + suc m ≡ i + 1 + m = omega arith in
    let s : suc m + n ≡ suc (m + n) = omega arith in
    rw (s, e) (ap (λ (k : List ℕ). get_or h i 0 ∷ k) (cells_split m n (i + 1) h))

-- a run that lies below is the same in both
pub cells_below : {used : ℕ} {h g : List ℕ} → Below used h g → (n i : ℕ) → i + n ≤ used → cells_at n i h ≡ cells_at n i g
unfolding cells_at
cells_below b zero i l = refl
cells_below b (suc n) i l = ap₂ {C = List ℕ} ◌∷◌ (b.same i (omega arith)) (cells_below b n (i + 1) (omega arith))

pub run_below : {used : ℕ} {h g : List ℕ} → Below used h g → (from to : ℕ) → to ≤ used → run from to h ≡ run from to g
unfolding cells_at
run_below {used} {h} {g} b from to l = pick (to - from) refl
  where
    pick : (n : ℕ) → to - from ≡ n → run from to h ≡ run from to g
    pick zero e = rw e
    pick (suc n) e = cells_below b (to - from) from (omega arith)

module _ (used n : ℕ) (w h : List ℕ) where
  pub written_over : 65535 < used + n → written used n w h ≡ fill_answer None h
  unfolding written
  written_over g = rw (lt-leb (used + n) 65535 g)

  pub written_done : used + n ≤ 65535 → written used n w h ≡ fill_answer (Some (used + n)) (sets h used w)
  unfolding written
  written_done g = rw (le-leb (used + n) 65535 g)

-- what is written behind v is written with it
pub sets_append : (h : List ℕ) (k : ℕ) (v w : List ℕ) → sets (sets h k v) (k + length v) w ≡ sets h k (v ++ w)
sets_append h k [] w = let e : k + 0 ≡ k = omega arith in rw e
sets_append h k (c ∷ v) w = let e : k + suc (length v) ≡ suc k + length v = omega arith in rw e (sets_append (set h k c) (suc k) v w)

-- one turn of `append`
module _ {used : ℕ} {h g : List ℕ} (same : Below used h g) where
  pub append_turn : (from end i : ℕ) → from + i < end → end ≤ used →
      sets h (used + i) (run (from + i) end g) ≡ sets (set h (used + i) (get_or h (from + i) 0)) (used + (i + 1)) (run (from + (i + 1)) end g)
  append_turn from end i l m =
      let e : from + (i + 1) ≡ from + i + 1 = omega arith in
      let f : used + (i + 1) ≡ suc (used + i) = omega arith in
      rw (run_cons (from + i) end g l, e, f, same.same (from + i) (omega arith))

-- turns of `append_filled`
module _ (x : ℕ) (v : List ℕ) (i end : ℕ) (g : List ℕ) (more : i < end) where
  pub spread_here : get_or g i 0 ≡ x → spread x v (run i end g) ≡ v ++ spread x v (run (i + 1) end g)
  spread_here e = rw (run_cons i end g more, eq-eqb (get_or g i 0) x e)

  pub spread_other : (get_or g i 0 ≡ x → ⊥) → spread x v (run i end g) ≡ get_or g i 0 ∷ spread x v (run (i + 1) end g)
  spread_other e = rw (run_cons i end g more, ne_eqb (get_or g i 0) x e)

-- turns of `filled_size`
module _ (x size i end : ℕ) (g : List ℕ) (more : i < end) where
  pub size_here : get_or g i 0 ≡ x → spread_size x size (run i end g) ≡ size + spread_size x size (run (i + 1) end g)
  unfolding spread_size
  size_here e = rw (run_cons i end g more, eq-eqb (get_or g i 0) x e)

  pub size_other : (get_or g i 0 ≡ x → ⊥) → spread_size x size (run i end g) ≡ 1 + spread_size x size (run (i + 1) end g)
  unfolding spread_size
  size_other e = rw (run_cons i end g more, ne_eqb (get_or g i 0) x e)

pub size_end : (x size i end : ℕ) (g : List ℕ) → end ≤ i → spread_size x size (run i end g) ≡ 0
unfolding spread_size
size_end x size i end g l = rw (run_end i end g l)

pub size_is : (x : ℕ) (v s : List ℕ) → length (spread x v s) ≡ spread_size x (length v) s
unfolding spread_size
size_is x v [] = refl
size_is x v (c ∷ s) = length-append (cond (eqb c x) v (c ∷ [])) (spread x v s) ∙ ap₂ ◌+◌ (pick (eqb c x)) (size_is x v s)
  where
    pick : (b : Bool) → length (cond b v (c ∷ [])) ≡ cond b (length v) 1
    pick true = refl
    pick false = refl

-- one cell further in a list
drop_next : (i : ℕ) (s : List ℕ) → i < length s → drop i s ≡ get_or s i 0 ∷ drop (i + 1) s
drop_next i s l = drop-cons s i 0 l ∙ ap (λ (k : ℕ). get_or s i 0 ∷ drop k s) (inv (add-one i))

drop_all : (i : ℕ) (s : List ℕ) → length s ≤ i → drop i s ≡ []
drop_all zero [] l = refl
drop_all zero (c ∷ s) l = absurd (omega arith)
drop_all (suc i) [] l = refl
drop_all (suc i) (c ∷ s) l = drop_all i s (omega arith)

-- turns of `stands`: x was met before, or stands in what is left
abbrev pub met_or : ℕ → Bool → Bool
met_or n b = cond (eqb n 1) true b

met_all : (t : Bool) → cond t true true ≡ true
met_all true = refl
met_all false = refl

met_none : (t : Bool) → cond t true false ≡ t
met_none true = refl
met_none false = refl

module _ (x i : ℕ) (s : List ℕ) (n : ℕ) where
  pub stands_next : i < length s → met_or n (any_cell x (drop i s)) ≡ met_or (met_of n (get_or s i 0) x) (any_cell x (drop (i + 1) s))
  unfolding any_cell
  stands_next l = rw (drop_next i s l) (pick (eqb (get_or s i 0) x))
    where
      pick : (b : Bool) → met_or n (cond b true (any_cell x (drop (i + 1) s))) ≡ met_or (cond b 1 n) (any_cell x (drop (i + 1) s))
      pick true = met_all (eqb n 1)
      pick false = refl

  pub stands_done : length s ≤ i → met_or n (any_cell x (drop i s)) ≡ eqb n 1
  unfolding any_cell
  stands_done l = rw (drop_all i s l) (met_none (eqb n 1))

pub append_start : (used from end : ℕ) (h : List ℕ) → sets h used (run from end h) ≡ sets h (used + 0) (run (from + 0) end h)
append_start used from end h = ap₂ (λ (a b : ℕ). sets h a (run b end h)) (omega arith) (omega arith)

pub pair_done : (used a b : ℕ) (h : List ℕ) → used + 3 ≤ 65535 →
    fill_answer (Some (used + 3)) (set (set (set h used 4) (used + 1) a) (used + 2) b) ≡ written used 3 (4 ∷ (a ∷ (b ∷ []))) h
pair_done used a b h l =
    let e : used + 1 ≡ suc used = omega arith in
    let f : used + 2 ≡ suc (suc used) = omega arith in
    rw (written_done used 3 (4 ∷ (a ∷ (b ∷ []))) h l, e, f)

pub clipped : (end used : ℕ) → end ≤ used → end ≡ min end used
clipped end used l = omega arith

-- `append_filled` by the numbers that its code has
module _ (from to x vfrom vto used : ℕ) (h : List ℕ) (end vend size all : ℕ)
    (is-end : end ≡ min to used) (is-vend : vend ≡ min vto used) (is-size : size ≡ vend - vfrom) (is_all : all ≡ spread_size x size (run from end h)) where
  counted : spread_size x (vend - vfrom) (run from end h) ≡ all
  counted = ap (λ (s : ℕ). spread_size x s (run from end h)) (inv is-size) ∙ inv is_all

  pub filled_over : 65535 < used + all → appended_filled from to x vfrom vto used h ≡ fill_answer None h
  filled_over l = rw (← is-end, ← is-vend, counted) (written_over used all (spread x (run vfrom vend h) (run from end h)) h l)

  pub filled_done : used + all ≤ 65535 → appended_filled from to x vfrom vto used h ≡ fill_answer (Some (used + all)) (sets h used (spread x (run vfrom vend h) (run from end h)))
  filled_done l = rw (← is-end, ← is-vend, counted) (written_done used all (spread x (run vfrom vend h) (run from end h)) h l)

module _ {used : ℕ} {h g : List ℕ} (same : Below used h g) (x vfrom vend i end k : ℕ) (more : i < end) (in-used : end ≤ used) where
  module _ (size : ℕ) (is-size : size ≡ vend - vfrom) (v-used : vend ≤ used) (at : used ≤ k) (fits : k + size ≤ 65535)
      (r : Option ℕ) (h' : List ℕ) (made : fill_answer r h' ≡ appended vfrom vend k h) where
    pub turn_made : h' ≡ sets h k (run vfrom vend g)
    turn_made =
        let m : min vend k ≡ vend = omega arith in
        let b : run vfrom vend h ≡ run vfrom vend g = run_below same vfrom vend v-used in
        let d : appended vfrom vend k h ≡ fill_answer (Some (k + (vend - vfrom))) (sets h k (run vfrom vend h)) = rw m (written_done k (vend - vfrom) (run vfrom vend h) h (omega arith)) in
        ap (λ (w : FillAnswer). w.cells) (made ∙ d) ∙ ap (sets h k) b

    pub turn_below : Below used h' g
    turn_below = rw turn_made (below_sets k (run vfrom vend g) same at)

    pub turn_here : get_or h i 0 ≡ x → sets h k (spread x (run vfrom vend g) (run i end g)) ≡ sets h' (k + size) (spread x (run vfrom vend g) (run (i + 1) end g))
    turn_here p =
        let n : size ≡ length (run vfrom vend g) = is-size ∙ inv (length_cells_at (vend - vfrom) vfrom g) in
        rw (turn_made, n, sets_append h k (run vfrom vend g) (spread x (run vfrom vend g) (run (i + 1) end g)), spread_here x (run vfrom vend g) i end g more (inv (same.same i (omega arith)) ∙ p))

-- turns of `look_through`
module _ (x i : ℕ) (s : List ℕ) where
  pub count_next : (n : ℕ) → i < length s → n + count_in x (drop i s) ≡ n + one_if (get_or s i 0) x + count_in x (drop (i + 1) s)
  unfolding count_in
  count_next n l = rw (drop_next i s l) (pick (eqb (get_or s i 0) x))
    where
      pick : (b : Bool) → n + (cond b 1 0 + count_in x (drop (i + 1) s)) ≡ n + cond b 1 0 + count_in x (drop (i + 1) s)
      pick true = omega arith
      pick false = omega arith

  pub count_end : length s ≤ i → count_in x (drop i s) ≡ 0
  unfolding count_in
  count_end l = rw (drop_all i s l)

pub one_least : (c x : ℕ) → one_if c x ≤ 1
one_least c x = pick (eqb c x)
  where
    pick : (b : Bool) → cond b 1 0 ≤ 1
    pick true = omega arith
    pick false = omega arith

-- turns of `look_through`: a variable was met before, or stands in what is left
pub variable_next : (n i : ℕ) (s : List ℕ) → i < length s → met_or n (any_variable (drop i s)) ≡ met_or (variable_met n (get_or s i 0)) (any_variable (drop (i + 1) s))
unfolding any_variable
variable_next n i s l = rw (drop_next i s l) (pick (ltb (get_or s i 0 % 4) 2))
  where
    pick : (b : Bool) → met_or n (cond b (any_variable (drop (i + 1) s)) true) ≡ met_or (cond b n 1) (any_variable (drop (i + 1) s))
    pick true = refl
    pick false = met_all (eqb n 1)

pub variable_done : (n i : ℕ) (s : List ℕ) → length s ≤ i → met_or n (any_variable (drop i s)) ≡ eqb n 1
unfolding any_variable
variable_done n i s l = rw (drop_all i s l) (met_none (eqb n 1))

-- where no variable stands, a code of one does not
pub none_stands : (x : ℕ) (s : List ℕ) → 2 ≤ x % 4 → any_variable s ≡ false → any_cell x s ≡ false
unfolding any_variable any_cell
none_stands x [] v e = refl
none_stands x (c ∷ s) v e = pick (ltb (c % 4) 2) refl e (none_stands x s v)
  where
    pick : (b : Bool) → ltb (c % 4) 2 ≡ b → cond b (any_variable s) true ≡ false → (any_variable s ≡ false → any_cell x s ≡ false) → cond (eqb c x) true (any_cell x s) ≡ false
    pick true l f again =
        let m : c % 4 < 2 = ltb-true (c % 4) 2 l in
        rw (ne_eqb c x (λ z. let w : c % 4 ≡ x % 4 = ap (λ (k : ℕ). k % 4) z in omega arith)) (again f)
    pick false l f again = let z : ◌≡◌ {A = ℕ} 0 1 = cc in absurd (omega arith)

-- x is counted where it stands
pub count_none : (x : ℕ) (s : List ℕ) → count_in x s ≡ 0 → any_cell x s ≡ false
unfolding count_in any_cell
count_none x [] e = refl
count_none x (c ∷ s) e = pick (eqb c x) e (count_none x s)
  where
    pick : (b : Bool) → cond b 1 0 + count_in x s ≡ 0 → (count_in x s ≡ 0 → any_cell x s ≡ false) → cond b true (any_cell x s) ≡ false
    pick true f again = let z : ⊥ = omega arith in absurd z
    pick false f again = again (omega arith)

-- `replace` by the numbers that its code has
module _ (from to x vfrom vto used : ℕ) (h : List ℕ) where
  pub replaced_none : 65535 < used → replaced from to x vfrom vto used h ≡ replace_answer ReplacedOver h
  unfolding replaced
  replaced_none l = rw (lt-ltb 65535 used l)

  module _ (in_heap_lem : used ≤ 65535) where
    pub replaced_lacks : count_in x (run from (min to used) h) ≡ 0 → replaced from to x vfrom vto used h ≡ replace_answer (unmoved (any_variable (run from (min to used) h))) h
    unfolding replaced
    replaced_lacks e = rw (le-ltb 65535 used in_heap_lem, e)

    pub replaced_has : (count_in x (run from (min to used) h) ≡ 0 → ⊥) → replaced from to x vfrom vto used h ≡ moved_answer (appended_filled from to x vfrom vto used h)
    unfolding replaced
    replaced_has e = rw (le-ltb 65535 used in_heap_lem, ne_eqb (count_in x (run from (min to used) h)) 0 e)

    module _ (end : ℕ) (is-end : end ≡ min to used) (s : Seen) (seen : s ≡ seen_in x (run from end h)) where
      count_is : count_in x (run from (min to used) h) ≡ s.count
      count_is = ap (λ (k : ℕ). count_in x (run from k h)) (inv is-end) ∙ inv (ap (λ (t : Seen). t.count) seen)

      variables_are : any_variable (run from (min to used) h) ≡ s.variables
      variables_are = ap (λ (k : ℕ). any_variable (run from k h)) (inv is-end) ∙ inv (ap (λ (t : Seen). t.variables) seen)

      pub replaced_unmoved : s.count ≡ 0 → (r : Replaced) → r ≡ unmoved s.variables → replace_answer r h ≡ replaced from to x vfrom vto used h
      replaced_unmoved e r is = ap (λ (q : Replaced). replace_answer q h) (is ∙ ap unmoved (inv variables_are)) ∙ inv (replaced_lacks (count_is ∙ e))

      pub replaced_moved : (s.count ≡ 0 → ⊥) → (w : Option ℕ) (g : List ℕ) → fill_answer w g ≡ appended_filled from end x vfrom vto used h → (r : Replaced) → r ≡ moved_by w →
          replace_answer r g ≡ replaced from to x vfrom vto used h
      replaced_moved e w g made r is =
          let m : min end used ≡ min to used = omega arith in
          let f : fill_answer w g ≡ appended_filled from to x vfrom vto used h = made ∙ rw m in
          ap (λ (q : Replaced). replace_answer q g) is ∙ ap moved_answer f ∙ inv (replaced_has (λ z. e (inv count_is ∙ z)))

-- a single cell that is not x
pub one_lacks : (c x : ℕ) → eqb c x ≡ false → any_cell x (c ∷ []) ≡ false
unfolding any_cell
one_lacks c x e = rw e

pub seen_count : (x from end : ℕ) (h : List ℕ) (s : Seen) → s ≡ seen_in x (run from end h) → s.count ≡ count_in x (run from end h)
seen_count x from end h s e = ap (λ (t : Seen). t.count) e

-- `filled_size` by the count
count_least : (x : ℕ) (s : List ℕ) → count_in x s ≤ length s
unfolding count_in
count_least x [] = omega arith
count_least x (c ∷ s) = pick (eqb c x) (count_least x s)
  where
    pick : (b : Bool) → count_in x s ≤ length s → cond b 1 0 + count_in x s ≤ suc (length s)
    pick true l = omega arith
    pick false l = omega arith

size_count : (x size : ℕ) (s : List ℕ) → spread_size x size s + count_in x s ≡ length s + count_in x s * size
unfolding spread_size count_in
size_count x size [] = omega arith
size_count x size (c ∷ s) = pick (eqb c x) (size_count x size s)
  where
    pick : (b : Bool) → spread_size x size s + count_in x s ≡ length s + count_in x s * size →
        (cond b size 1 + spread_size x size s) + (cond b 1 0 + count_in x s) ≡ suc (length s) + (cond b 1 0 + count_in x s) * size
    pick true e = let m = suc-mul (count_in x s) size in let n : 1 + count_in x s ≡ suc (count_in x s) = omega arith in rw n (omega (arith, m, e))
    pick false e = let n : 0 + count_in x s ≡ count_in x s = omega arith in rw n (omega (arith, e))

module _ (x size : ℕ) (s : List ℕ) (n : ℕ) (is : n ≡ count_in x s) where
  pub count_fits : n ≤ length s
  count_fits = omega (arith, is, count_least x s)

  pub size_by_count : length s + n * size - n ≡ spread_size x size s
  size_by_count =
      let m : n * size ≡ count_in x s * size = ap (λ (k : ℕ). k * size) is in
      omega (arith, is, m, size_count x size s)

pub product_least : (n size : ℕ) → size ≤ 65535 → n * size ≤ 65535 * n
product_least zero size l = omega (arith, zero-mul size)
product_least (suc n) size l = omega (arith, suc-mul n size, product_least n size l)

pub size_one : (x : ℕ) (s : List ℕ) → spread_size x 1 s ≡ length s
unfolding spread_size
size_one x [] = refl
size_one x (c ∷ s) = pick (eqb c x) (size_one x s)
  where
    pick : (b : Bool) → spread_size x 1 s ≡ length s → cond b 1 1 + spread_size x 1 s ≡ suc (length s)
    pick true again = omega (arith, again)
    pick false again = omega (arith, again)

-- turns of `find`: a place in what is left, in the whole
abbrev pub ahead : ℕ → Option ℕ → Option ℕ
ahead i (Some n) = Some (i + n)
ahead i None = None

pub ahead_none : (o : Option ℕ) → o ≡ ahead 0 o
ahead_none (Some n) = ap Some (omega arith)
ahead_none None = refl

further_ahead : (i : ℕ) (o : Option ℕ) → ahead i (further o) ≡ ahead (i + 1) o
further_ahead i (Some n) = ap Some (omega arith)
further_ahead i None = refl

module _ (x i : ℕ) (s : List ℕ) where
  pub first_here : i < length s → get_or s i 0 ≡ x → ahead i (first_in x (drop i s)) ≡ Some i
  unfolding first_in
  first_here l e = rw (drop_next i s l, eq-eqb (get_or s i 0) x e) (ap Some (omega arith))

  pub first_later : i < length s → (get_or s i 0 ≡ x → ⊥) → ahead i (first_in x (drop i s)) ≡ ahead (i + 1) (first_in x (drop (i + 1) s))
  unfolding first_in
  first_later l e = rw (drop_next i s l, ne_eqb (get_or s i 0) x e) (further_ahead i (first_in x (drop (i + 1) s)))

  pub first_none : length s ≤ i → ahead i (first_in x (drop i s)) ≡ None
  unfolding first_in
  first_none l = rw (drop_all i s l)

-- cells in which x does not stand
first_behind : (x m i : ℕ) (s : List ℕ) → i + m ≤ length s → any_cell x (take m (drop i s)) ≡ false →
    ahead i (first_in x (drop i s)) ≡ ahead (i + m) (first_in x (drop (i + m) s))
unfolding any_cell
first_behind x zero i s l e = let k : i + 0 ≡ i = omega arith in rw k
first_behind x (suc m) i s l e =
    let k : i + suc m ≡ i + 1 + m = omega arith in
    let n : any_cell x (take (suc m) (drop i s)) ≡ any_cell x (get_or s i 0 ∷ take m (drop (i + 1) s)) = rw (drop_next i s (omega arith)) in
    pick (eqb (get_or s i 0) x) refl (inv n ∙ e) (first_behind x m (i + 1) s (omega arith)) ∙ ap (λ (j : ℕ). ahead j (first_in x (drop j s))) (inv k)
  where
    pick : (b : Bool) → eqb (get_or s i 0) x ≡ b → cond b true (any_cell x (take m (drop (i + 1) s))) ≡ false → (any_cell x (take m (drop (i + 1) s)) ≡ false → ahead (i + 1) (first_in x (drop (i + 1) s)) ≡ ahead (i + 1 + m) (first_in x (drop (i + 1 + m) s))) →
        ahead i (first_in x (drop i s)) ≡ ahead (i + 1 + m) (first_in x (drop (i + 1 + m) s))
    pick true u f again = let z : ◌≡◌ {A = ℕ} 0 1 = cc in absurd (omega arith)
    pick false u f again = first_later x i s (omega arith) (eqb-false (get_or s i 0) x u) ∙ again f

pub passes : (n x i : ℕ) (s : List ℕ) → i ≤ length s → lacks_next n i x s ≡ true →
    (i + n ≤ length s) × (ahead i (first_in x (drop i s)) ≡ ahead (i + n) (first_in x (drop (i + n) s)))
passes n x i s in-list e = pick (ltb (length s - i) n) (any_cell x (take n (drop i s))) refl refl e
  where
    pick : (a b : Bool) → ltb (length s - i) n ≡ a → any_cell x (take n (drop i s)) ≡ b → cond a false (not b) ≡ true →
        (i + n ≤ length s) × (ahead i (first_in x (drop i s)) ≡ ahead (i + n) (first_in x (drop (i + n) s)))
    pick true b u v w = let z : ◌≡◌ {A = ℕ} 0 1 = cc in absurd (omega arith)
    pick false true u v w = let z : ◌≡◌ {A = ℕ} 0 1 = cc in absurd (omega arith)
    pick false false u v w = let l : n ≤ length s - i = ltb-false (length s - i) n u in (omega arith, first_behind x n i s (omega arith) v)

-- what stands before the first x is kept as it is, and where there is none, all is
pub record First (x : ℕ) (v : List ℕ) (size i end j : ℕ) (h : List ℕ) : Type 0 where
  pub least : i ≤ j
  pub most : j < end
  pub is : get_or h j 0 ≡ x
  pub kept : spread x v (run i end h) ≡ run i j h ++ spread x v (run j end h)
  pub sized : spread_size x size (run i end h) ≡ (j - i) + spread_size x size (run j end h)

pub record Lacking (x : ℕ) (v : List ℕ) (size i end : ℕ) (h : List ℕ) : Type 0 where
  pub kept : spread x v (run i end h) ≡ run i end h
  pub sized : spread_size x size (run i end h) ≡ end - i

abbrev Found : ℕ → List ℕ → ℕ → ℕ → ℕ → List ℕ → Option ℕ → Type 0
Found x v size i end h (Some n) = First x v size i end (i + n) h
Found x v size i end h None = Lacking x v size i end h

first_from : (x : ℕ) (v : List ℕ) (size n i end : ℕ) (h : List ℕ) → i + n ≡ end → Found x v size i end h (first_in x (cells_at n i h))
unfolding first_in cells_at
first_from x v size zero i end h e = record {
  kept = rw (run_end i end h (omega arith));
  sized = omega (arith, size_end x size i end h (omega arith));
}
first_from x v size (suc n) i end h e = pick (eqb (get_or h i 0) x) refl (first_in x (cells_at n (i + 1) h)) (first_from x v size n (i + 1) end h (omega arith))
  where
    pick : (b : Bool) → eqb (get_or h i 0) x ≡ b → (o : Option ℕ) → Found x v size (i + 1) end h o → Found x v size i end h (cond b (Some 0) (further o))
    pick true u o f =
        let z : i + 0 ≡ i = omega arith in
        record {
          least = omega arith;
          most = omega arith;
          is = rw z (eqb-true (get_or h i 0) x u);
          kept = rw (z, run_end i i h (omega arith));
          sized = rw z (omega arith);
        }
    pick false u None f =
        let l : i < end = omega arith in
        let a = eqb-false (get_or h i 0) x u in
        record {
          kept = spread_other x v i end h l a ∙ ap (λ (s : List ℕ). get_or h i 0 ∷ s) f.kept ∙ inv (run_cons i end h l);
          sized = omega (arith, size_other x size i end h l a, f.sized);
        }
    pick false u (Some k) f =
        let l : i < end = omega arith in
        let j = i + 1 + k in
        let z : i + suc k ≡ j = omega arith in
        let a = eqb-false (get_or h i 0) x u in
        subst (λ (j : ℕ). First x v size i end j h) (inv z) (record {
          least = omega arith;
          most = f.most;
          is = f.is;
          kept = spread_other x v i end h l a ∙ ap (λ (s : List ℕ). get_or h i 0 ∷ s) f.kept ∙ ap (λ (s : List ℕ). s ++ spread x v (run j end h)) (inv (run_cons i j h (omega arith)));
          sized = omega (arith, size_other x size i end h l a, f.sized);
        })

found_none : (x : ℕ) (v : List ℕ) (size i end : ℕ) (h : List ℕ) → end ≤ i → Found x v size i end h (first_in x [])
unfolding first_in
found_none x v size i end h l = record {
  kept = rw (run_end i end h l);
  sized = omega (arith, size_end x size i end h l);
}

found_so : (x : ℕ) (v : List ℕ) (size i end : ℕ) (h : List ℕ) (o : Option ℕ) → o ≡ first_in x (run i end h) → Found x v size i end h o
found_so x v size i end h o e = subst (Found x v size i end h) (inv e) (pick (dec_le i end))
  where
    pick : Dec (i ≤ end) → Found x v size i end h (first_in x (run i end h))
    pick (yes l) = first_from x v size (end - i) i end h (omega arith)
    pick (no l) = subst (λ (s : List ℕ). Found x v size i end h (first_in x s)) (inv (run_end i end h (omega arith))) (found_none x v size i end h (omega arith))

-- one turn of `rename`
pub spread_cell : (x y i end : ℕ) (g : List ℕ) → i < end → spread x (y ∷ []) (run i end g) ≡ renamed_cell (get_or g i 0) x y ∷ spread x (y ∷ []) (run (i + 1) end g)
spread_cell x y i end g l = rw (run_cons i end g l) (pick (eqb (get_or g i 0) x))
  where
    pick : (b : Bool) → cond b (y ∷ []) (get_or g i 0 ∷ []) ++ spread x (y ∷ []) (run (i + 1) end g) ≡ cond b y (get_or g i 0) ∷ spread x (y ∷ []) (run (i + 1) end g)
    pick true = refl
    pick false = refl

pub rename_turn : {used : ℕ} {h g : List ℕ} → Below used h g → (x y from end i c : ℕ) → from + i < end → end ≤ used → c ≡ renamed_cell (get_or h (from + i) 0) x y →
    sets h (used + i) (spread x (y ∷ []) (run (from + i) end g)) ≡ sets (set h (used + i) c) (used + (i + 1)) (spread x (y ∷ []) (run (from + (i + 1)) end g))
rename_turn {used} same x y from end i c l m is =
    let e : from + (i + 1) ≡ from + i + 1 = omega arith in
    let f : used + (i + 1) ≡ suc (used + i) = omega arith in
    rw (spread_cell x y (from + i) end _ l, e, f, is, same.same (from + i) (omega arith))

pub rename_start : (x y from end used : ℕ) (h : List ℕ) → sets h used (spread x (y ∷ []) (run from end h)) ≡ sets h (used + 0) (spread x (y ∷ []) (run (from + 0) end h))
rename_start x y from end used h = ap₂ (λ (a b : ℕ). sets h a (spread x (y ∷ []) (run b end h))) (omega arith) (omega arith)

-- the value that is filled in, from where the code takes it
pub value_run : (vfrom vend start : ℕ) (h : List ℕ) → start ≡ min vfrom vend → run start vend h ≡ run vfrom vend h
value_run vfrom vend start h e = pick (dec_le vfrom vend)
  where
    pick : Dec (vfrom ≤ vend) → run start vend h ≡ run vfrom vend h
    pick (yes l) = let s : start ≡ vfrom = omega arith in rw s
    pick (no l) = let s : start ≡ vend = omega arith in rw (s, run_end vend vend h (omega arith), run_end vfrom vend h (omega arith))

pub value_size : (vfrom vend start : ℕ) → start ≡ min vfrom vend → vend - start ≡ vend - vfrom
value_size vfrom vend start e = omega arith

pub value_one : (vfrom vend start : ℕ) (h : List ℕ) → start ≡ min vfrom vend → vend - start ≡ 1 → run vfrom vend h ≡ get_or h start 0 ∷ []
value_one vfrom vend start h e one =
    inv (value_run vfrom vend start h e) ∙ run_cons start vend h (omega arith) ∙ ap (λ (s : List ℕ). get_or h start 0 ∷ s) (run_end (start + 1) vend h (omega arith))

pub size_ones : (x size from to : ℕ) (h : List ℕ) → size ≡ 1 → spread_size x size (run from to h) ≡ to - from
size_ones x size from to h e = ap (λ (k : ℕ). spread_size x k (run from to h)) e ∙ size_one x (run from to h) ∙ length_cells_at (to - from) from h

-- THE INVARIANT of `append_filled`: from i on is left to fill, from k on to write; it fits, and makes what the whole makes of the heap at the start
pub record Filling (g : List ℕ) (from x vfrom used end vend size all : ℕ) (h : List ℕ) (k i : ℕ) : Type 0 where
  pub ends : end ≤ used
  pub vends : vend ≤ used
  pub sized : size ≡ vend - vfrom
  pub fits : used + all ≤ 65535
  pub here : used ≤ k
  pub same : Below used h g
  pub left : k + spread_size x size (run i end g) ≡ used + all
  pub made : sets g used (spread x (run vfrom vend g) (run from end g)) ≡ sets h k (spread x (run vfrom vend g) (run i end g))

module _ {g : List ℕ} {from x vfrom used end vend size all : ℕ} {h : List ℕ} {k i : ℕ} (f : Filling g from x vfrom used end vend size all h k i) where
  module _ (more : i < end) where
    module _ (is : get_or h i 0 ≡ x) where
      tree_less : spread_size x size (run i end g) ≡ size + spread_size x size (run (i + 1) end g)
      tree_less = size_here x size i end g more (inv (f.same.same i (omega (arith, f.ends))) ∙ is)

      pub filling_fits : k + size ≤ 65535
      filling_fits = omega (arith, tree_less, f.left, f.fits)

      pub filling_tree : (r : Option ℕ) (h' : List ℕ) → fill_answer r h' ≡ appended vfrom vend k h → Filling g from x vfrom used end vend size all h' (k + size) (i + 1)
      filling_tree r h' made = record {
        ends = f.ends;
        vends = f.vends;
        sized = f.sized;
        fits = f.fits;
        here = omega (arith, f.here);
        same = turn_below f.same x vfrom vend i end k more f.ends size f.sized f.vends f.here filling_fits r h' made;
        left = omega (arith, tree_less, f.left);
        made = f.made ∙ turn_here f.same x vfrom vend i end k more f.ends size f.sized f.vends f.here filling_fits r h' made is;
      }

-- one turn of `fill`: what stands before the first x, copied; or all that is left
module _ {g : List ℕ} {from x vfrom used end vend size all : ℕ} {h : List ℕ} {k i : ℕ} (f : Filling g from x vfrom used end vend size all h k i) where
  same_run : run i end h ≡ run i end g
  same_run = run_below f.same i end f.ends

  module _ (n : ℕ) (found : Some n ≡ first_in x (run i end h)) where
    pub first_at : First x (run vfrom vend g) size i end (i + n) h
    first_at = found_so x (run vfrom vend g) size i end h (Some n) found

    behind_same : run (i + n) end h ≡ run (i + n) end g
    behind_same = run_below f.same (i + n) end f.ends

    sized_so : spread_size x size (run i end g) ≡ n + spread_size x size (run (i + n) end g)
    sized_so =
        let d : i + n - i ≡ n = omega arith in
        ap (spread_size x size) (inv same_run) ∙ first_at.sized ∙ ap₂ (λ (m : ℕ) (s : List ℕ). m + spread_size x size s) d behind_same

    pub first_fits : k + n ≤ 65535
    first_fits = omega (arith, sized_so, f.left, f.fits)

    module _ (r : Option ℕ) (h' : List ℕ) (made : fill_answer r h' ≡ appended i (i + n) k h) where
      copied_run : h' ≡ sets h k (run i (i + n) h)
      copied_run =
          let d : i + n - i ≡ n = omega arith in
          let m : min (i + n) k ≡ i + n = omega (arith, first_at.most, f.ends, f.here) in
          let e : appended i (i + n) k h ≡ fill_answer (Some (k + (i + n - i))) (sets h k (run i (i + n) h)) =
          rw m (written_done k (i + n - i) (run i (i + n) h) h (omega (arith, first_fits))) in
          ap (λ (w : FillAnswer). w.cells) (made ∙ e)

      pub filling_run : Filling g from x vfrom used end vend size all h' (k + n) (i + n)
      filling_run = record {
        ends = f.ends;
        vends = f.vends;
        sized = f.sized;
        fits = f.fits;
        here = omega (arith, f.here);
        same = rw copied_run (below_sets k (run i (i + n) h) f.same f.here);
        left = omega (arith, sized_so, f.left);
        made =
            let j = i + n in
            let v = run vfrom vend g in
            let e : spread x v (run i end g) ≡ run i j h ++ spread x v (run j end g) = ap (spread x v) (inv same_run) ∙ first_at.kept ∙ ap (λ (s : List ℕ). run i j h ++ spread x v s) behind_same in
            f.made ∙ ap (sets h k) e ∙ inv (sets_append h k (run i j h) (spread x v (run j end g))) ∙ ap₂ (λ (s : List ℕ) (n : ℕ). sets s n (spread x v (run j end g))) (inv copied_run) (omega (arith, length_cells_at (j - i) i h));
      }

      pub first_is : get_or h' (i + n) 0 ≡ x
      first_is = filling_run.same.same (i + n) (omega (arith, first_at.most, f.ends)) ∙ inv (f.same.same (i + n) (omega (arith, first_at.most, f.ends))) ∙ first_at.is

      pub filling_turn : (r' : Option ℕ) (h'' : List ℕ) → fill_answer r' h'' ≡ appended vfrom vend (k + n) h' → Filling g from x vfrom used end vend size all h'' (k + n + size) (i + (n + 1))
      filling_turn r' h'' put =
          let e : i + (n + 1) ≡ i + n + 1 = omega arith in
          rw e (filling_tree filling_run first_at.most first_is r' h'' put)

  pub filling_end : None ≡ first_in x (run i end h) → (r : Option ℕ) (h' : List ℕ) → fill_answer r h' ≡ appended i end k h → h' ≡ sets g used (spread x (run vfrom vend g) (run from end g))
  filling_end found r h' made =
      let v = run vfrom vend g in
      let l : Lacking x v size i end h = found_so x v size i end h None found in
      let m : min end k ≡ end = omega (arith, f.ends, f.here) in
      let s : spread_size x size (run i end g) ≡ end - i = ap (spread_size x size) (inv same_run) ∙ l.sized in
      let e : appended i end k h ≡ fill_answer (Some (k + (end - i))) (sets h k (run i end h)) = rw m (written_done k (end - i) (run i end h) h (omega (arith, s, f.left, f.fits))) in
      let t : spread x v (run i end g) ≡ run i end h = ap (spread x v) (inv same_run) ∙ l.kept in
      ap (λ (w : FillAnswer). w.cells) (made ∙ e) ∙ inv (f.made ∙ ap (sets h k) t)

pub run_part : (n i : ℕ) (h : List ℕ) → i + n ≤ length h → take n (drop i h) ≡ cells_at n i h
run_part n i h l = rw (run_drop n i h l) (take_at (cells_at n i h) (drop (i + n) h) n (length_cells_at n i h))

-- what `copy_within` leaves: the cells from a on again at b
pub moved_within : (g : List ℕ) (a b n : ℕ) → a + n ≤ length g → b + n ≤ length g → paste g b (drop a g) n ≡ sets g b (cells_at n a g)
moved_within g a b n l m =
    let s : length (cells_at n a g) ≡ n = length_cells_at n a g in
    let t : take n (drop a g) ≡ cells_at n a g = run_part n a g l in
    let e : sets g b (cells_at n a g) ≡ take b g ++ cells_at n a g ++ drop (b + length (cells_at n a g)) g = sets-eq (cells_at n a g) g b (omega (arith, s)) in
    rw (e, t, s)

-- what the answer of `append_pair` tells
module _ (used a b : ℕ) (h g : List ℕ) where
  pub pair_over : fill_answer None g ≡ written used 3 (4 ∷ (a ∷ (b ∷ []))) h → (65532 < used) × (g ≡ h)
  pair_over e = pick (dec_le (used + 3) 65535)
    where
      pick : Dec (used + 3 ≤ 65535) → (65532 < used) × (g ≡ h)
      pick (yes l) =
          let n : None ≡ Some (used + 3) = ap (λ (w : FillAnswer). w.answer) (e ∙ written_done used 3 (4 ∷ (a ∷ (b ∷ []))) h l) in
          let z : ◌≡◌ {A = ℕ} 0 1 = cc in absurd (omega arith)
      pick (no l) = (omega arith, ap (λ (w : FillAnswer). w.cells) (e ∙ written_over used 3 (4 ∷ (a ∷ (b ∷ []))) h (omega arith)))

  pub pair_made : {k : ℕ} → fill_answer (Some k) g ≡ written used 3 (4 ∷ (a ∷ (b ∷ []))) h → (used ≤ 65532) × (k ≡ used + 3)
  pair_made {k} e = pick (dec_le (used + 3) 65535)
    where
      pick : Dec (used + 3 ≤ 65535) → (used ≤ 65532) × (k ≡ used + 3)
      pick (yes l) =
          let n : Some k ≡ Some (used + 3) = ap (λ (w : FillAnswer). w.answer) (e ∙ written_done used 3 (4 ∷ (a ∷ (b ∷ []))) h l) in
          (omega arith, cc)
      pick (no l) =
          let n : Some k ≡ None = ap (λ (w : FillAnswer). w.answer) (e ∙ written_over used 3 (4 ∷ (a ∷ (b ∷ []))) h (omega arith)) in
          let z : ◌≡◌ {A = ℕ} 0 1 = cc in absurd (omega arith)
