-- What the restrictions in cells mean: judging, adding, simplifying and binding are those of restrictions.
use Prim.Native.Nat.{ℕ, suc, ◌+◌, ◌-◌, ◌*◌, ◌/◌, ◌%◌, ◌≤◌, ◌<◌, min}
use mathlib.Core.Path.{◌≡◌, refl, ap, ◌∙◌, sym as inv}
use mathlib.Core.Bool.{Bool, true, false, cond, ◌&&◌, ◌||◌}
use mathlib.Core.List.{List, [], ◌∷◌, ◌++◌, map, append_assoc}
use mathlib.Core.Logic.{◌↔◌}
use mathlib.Core.Option.{Option, none, some, bind}
use native.Mathlib.Omega.{arith}
use native.Mathlib.Numerals.{add-one}
use lib.Dec.{eqb, leb}
use lib.ListN.{length, take, drop, get_or, set, length-append, length-take, length-drop, length-set, length-map, take-append-drop}
use lib.Seq.{take-suc-set, drop-set-lt, take_at, drop_at}
use borrow.Author.Tests.{lt-leb, leb-true}
use Rattle.std.specs.Prelude.{Ok, Err}
use Rattle.expressions.specs.Expression.{AtomicExp, sym, avar}
use Rattle.expressions.specs.Substitution.{apply_atomic, subst_a}
use Rattle.expressions.specs.Restriction.{NonEquality, Restriction, same_atomic, same_non_equality, stands, is_symbol, Kind, contradiction, redundant, kept, kind, keep_or_drop, simplify_after, simplify, add, apply_non_equality, subst_restriction}
use Rattle.sets.specs.Twins.Copying.{any_cell}
use Rattle.sets.specs.Cells.{avar_code, atomic_code, restriction_cells}
use Rattle.sets.specs.Twins.Fill.{renamed}
use Rattle.restrictions.specs.Twins.Restricting.{RestrictAnswer, restrict_answer, either_order, stands_cells, kind_cells, append_cells, add_kind, add_cells, simplify_kind, simplify_from, simplify_cells, bind_cells}
use Rattle.restrictions.specs.declared.restriction.Kind.{Kind as CodedKind}
use Rattle.restrictions.specs.declared.restriction.Kind.TheVariants.{Contradiction as Contradictory, Redundant, Kept as Keep}
use Rattle.restrictions.specs.declared.failure.Failure.TheVariants.{Contradiction, Over}
use Rattle.expressions.proofs.Combination.{simplify_append}
use Rattle.sets.proofs.CellLaws.{code_test, restriction_cells_nodes}
use Rattle.sets.proofs.FillLaws.{renamed_restriction}
use Rattle.sets.proofs.ContractionLaws.{code_tag, atomic_code_same}
use Rattle.restrictions.proofs.RestrictionTurns.{two_cells}

-- the restriction stands at the front
abbrev pub Front : Restriction → List ℕ → Type 0
Front qs q = take (2 * length qs) q ≡ restriction_cells qs

-- .. and from the i-th non-equality on
abbrev From : ℕ → Restriction → List ℕ → Type 0
From i qs q = take (2 * length qs) (drop (2 * i) q) ≡ restriction_cells qs

two_more : (n : ℕ) → 2 * suc n ≡ suc (suc (2 * n))
two_more n = omega arith

-- a restriction that stands somewhere has its room there
from_room : (i : ℕ) (qs : Restriction) (q : List ℕ) → From i qs q → 2 * length qs ≤ length q - 2 * i
from_room i qs q f = omega (arith, ap length f, length-take (2 * length qs) (drop (2 * i) q), length-drop (2 * i) q, restriction_cells_nodes qs)

pub front_room : (qs : Restriction) (q : List ℕ) → Front qs q → 2 * length qs ≤ length q
front_room qs q f = omega (arith, from_room 0 qs q f)

pub symbol_tag : (x : AtomicExp) → eqb (atomic_code x % 4) 1 ≡ is_symbol x
symbol_tag (sym z) = rw (code_tag z 1 (omega arith))
symbol_tag (avar n) = rw (code_tag n 3 (omega arith))

-- "repeats (in either order of sides)"
same_either : (p r : NonEquality) → either_order (atomic_code r.left) (atomic_code r.right) (atomic_code p.left) (atomic_code p.right) ≡ same_non_equality p r
same_either p r =
    rw (atomic_code_same p.left r.left, atomic_code_same p.right r.right, atomic_code_same p.left r.right, atomic_code_same p.right r.left)
    (pick (same_atomic p.left r.left) (same_atomic p.right r.right) (same_atomic p.left r.right) (same_atomic p.right r.left))
  where
    pick : (s t u v : Bool) → cond s (cond t true (cond u v false)) (cond u v false) ≡ ((s && t) || (u && v))
    pick true true u v = refl
    pick true false true v = refl
    pick true false false v = refl
    pick false t true v = refl
    pick false t false v = refl

or_cond : (s t : Bool) → cond s true t ≡ (s || t)
or_cond true t = refl
or_cond false t = refl

module _ (r : NonEquality) where
  pub stands_cells_means : (ps : Restriction) (q : List ℕ) → Front ps q → stands_cells (length ps) (atomic_code r.left) (atomic_code r.right) q ≡ stands r ps
  unfolding stands_cells
  stands_cells_means [] q f = refl
  stands_cells_means (p ∷ ps) q f = go q (rw two_more at f) (stands_cells_means ps)
    where
      go : (s : List ℕ) → take (suc (suc (2 * length ps))) s ≡ restriction_cells (p ∷ ps) →
          ((t : List ℕ) → Front ps t → stands_cells (length ps) (atomic_code r.left) (atomic_code r.right) t ≡ stands r ps) →
          stands_cells (suc (length ps)) (atomic_code r.left) (atomic_code r.right) s ≡ (same_non_equality p r || stands r ps)
      go [] g ih = cc
      go (a ∷ []) g ih = cc
      go (a ∷ (b ∷ s)) g ih =
          let l : a ≡ atomic_code p.left = cc in
          let m : b ≡ atomic_code p.right = cc in
          rw (l, m, same_either p r, ih s (cc)) (or_cond (same_non_equality p r) (stands r ps))

-- the kinds are those of restrictions
abbrev pub kind_code : Kind → CodedKind
kind_code contradiction = Contradictory
kind_code redundant = Redundant
kind_code kept = Keep

pub kind_cells_means : (done : Restriction) (r : NonEquality) (q : List ℕ) → Front done q →
    kind_cells (length done) (atomic_code r.left) (atomic_code r.right) q ≡ kind_code (kind done r)
kind_cells_means done r q f =
    rw (atomic_code_same r.left r.right, symbol_tag r.left, symbol_tag r.right, stands_cells_means r done q f)
    (pick (same_atomic r.left r.right) (is_symbol r.left) (is_symbol r.right) (stands r done))
  where
    pick : (s t u v : Bool) → cond s Contradictory (cond t (cond u Redundant (cond v Redundant Keep)) (cond v Redundant Keep)) ≡
        kind_code (cond s contradiction (cond ((t && u) || v) redundant kept))
    pick true t u v = refl
    pick false true true v = refl
    pick false true false true = refl
    pick false true false false = refl
    pick false false u true = refl
    pick false false u false = refl

-- What an answer and its storage say: the contradiction, or the restriction that stands at the front. Behind the first n
-- non-equalities the storage q is as it was.
abbrev pub Answers : ℕ → List ℕ → Option Restriction → RestrictAnswer → Type 0
Answers n q none w = (w.answer ≡ Err Contradiction) × (drop (2 * n) w.cells ≡ drop (2 * n) q) × (length w.cells ≡ length q)
Answers n q (some out) w =
    (w.answer ≡ Ok (length out)) × Front out w.cells × (length out ≤ n) × (drop (2 * n) w.cells ≡ drop (2 * n) q) × (length w.cells ≡ length q)

-- .. and back: which answer says what
module _ (n : ℕ) (q : List ℕ) (w : RestrictAnswer) where
  pub answered_contradiction : (o : Option Restriction) → Answers n q o w → (w.answer ≡ Err Contradiction) ↔ (o ≡ none)
  answered_contradiction none a = ((λ e. refl), λ e. a.0)
  answered_contradiction (some out) a = ((λ e. cc), λ e. cc)

  pub answered_kept : (o : Option Restriction) → Answers n q o w → (k : ℕ) → w.answer ≡ Ok k → (out : Restriction) × (o ≡ some out) × (k ≡ length out)
  answered_kept none a k e = let z : ◌≡◌ {A = ℕ} 0 1 = cc in absurd (omega arith)
  answered_kept (some out) a k e = (out, refl, cc)

-- one non-equality more behind those that are kept
module _ (q : List ℕ) (k x y : ℕ) (room : 2 * k + 2 ≤ length q) where
  append_take : take (2 * (k + 1)) (append_cells k x y q) ≡ take (2 * k) q ++ (x ∷ y ∷ [])
  append_take =
      let e : 2 * (k + 1) ≡ suc (2 * k + 1) = omega arith in
      let a : 2 * k < length q = omega arith in
      let b : 2 * k + 1 < length (set q (2 * k) x) = omega (arith, length-set q (2 * k) x) in
      rw (e, take-suc-set (set q (2 * k) x) (2 * k + 1) y b, add-one (2 * k), take-suc-set q (2 * k) x a, append_assoc)

  append_behind : (n : ℕ) → k < n → drop (2 * n) (append_cells k x y q) ≡ drop (2 * n) q
  append_behind n h =
      drop-set-lt (2 * n) (set q (2 * k) x) (2 * k + 1) y (omega arith) ∙ drop-set-lt (2 * n) q (2 * k) x (omega arith)

  append_length : length (append_cells k x y q) ≡ length q
  append_length = simp length-set

restriction_snoc : (qs : Restriction) (r : NonEquality) → restriction_cells (qs ++ (r ∷ [])) ≡ restriction_cells qs ++ (atomic_code r.left ∷ atomic_code r.right ∷ [])
restriction_snoc [] r = refl
restriction_snoc (q ∷ qs) r = rw (restriction_snoc qs r)

append_front : (done : Restriction) (r : NonEquality) (q : List ℕ) → 2 * length done + 2 ≤ length q → Front done q →
    Front (done ++ (r ∷ [])) (append_cells (length done) (atomic_code r.left) (atomic_code r.right) q)
append_front done r q room f = rw (length-append done (r ∷ []), append_take q (length done) (atomic_code r.left) (atomic_code r.right) room, f) (inv (restriction_snoc done r))

answers_same : (n : ℕ) (s q : List ℕ) → drop (2 * n) s ≡ drop (2 * n) q → length s ≡ length q → (o : Option Restriction) (w : RestrictAnswer) → Answers n s o w → Answers n q o w
answers_same n s q d l none w a = (a.0, a.1 ∙ d, a.2 ∙ l)
answers_same n s q d l (some out) w a = (a.0, a.1, a.2, a.3 ∙ d, a.4 ∙ l)

-- the loop of `simplify`, in the place where `done` is kept and `todo` is left
after_means : (done todo : Restriction) (i n : ℕ) (q : List ℕ) → length done ≤ i → n ≡ i + length todo → Front done q → From i todo q →
    Answers n q (simplify_after done todo) (simplify_from (length todo) i (length done) q)
unfolding simplify_from
after_means done [] i n q le e f g = (refl, f, omega arith, refl, refl)
after_means done (r ∷ todo) i n q le e f g =
    let room = from_room i (r ∷ todo) q g in
    let c : get_or q (2 * i) 0 ∷ get_or q (2 * i + 1) 0 ∷ take (2 * length todo) (drop (2 * (i + 1)) q) ≡ restriction_cells (r ∷ todo) =
    rw (two_more (length todo), two_cells q i (omega arith)) at g in
    let x : get_or q (2 * i) 0 ≡ atomic_code r.left = cc in
    let y : get_or q (2 * i + 1) 0 ≡ atomic_code r.right = cc in
    let t : From (i + 1) todo q = cc in
    rw (x, y, kind_cells_means done r q f) (pick (omega arith) t (kind done r) (λ d s h. after_means d todo (i + 1) n s h (omega arith)))
  where
    pick : 2 * i + 2 ≤ length q → From (i + 1) todo q → (k : Kind) →
        ((d : Restriction) (s : List ℕ) → length d ≤ i + 1 → Front d s → From (i + 1) todo s → Answers n s (simplify_after d todo) (simplify_from (length todo) (i + 1) (length d) s)) →
        Answers n q (keep_or_drop (λ d. simplify_after d todo) done r k)
        (simplify_kind (simplify_from (length todo) (i + 1)) (length done) (atomic_code r.left) (atomic_code r.right) q (kind_code k))
    pick room t contradiction ih = (refl, refl, refl)
    pick room t redundant ih = ih done q (omega arith) f t
    pick room t kept ih =
        let d = done ++ (r ∷ []) in
        let x = atomic_code r.left in
        let y = atomic_code r.right in
        let s = append_cells (length done) x y q in
        let space : 2 * length done + 2 ≤ length q = omega arith in
        let m : length d ≡ length done + 1 = length-append done (r ∷ []) in
        let g : From (i + 1) todo s = rw (append_behind q (length done) x y space (i + 1) (omega arith)) t in
        rw (← m) (answers_same n s q (append_behind q (length done) x y space n (omega arith)) (append_length q (length done) x y space)
        (simplify_after d todo) (simplify_from (length todo) (i + 1) (length d) s) (ih d s (omega arith) (append_front done r q space f) g))

-- simplification
pub simplify_cells_means : (qs : Restriction) (q : List ℕ) → Front qs q → Answers (length qs) q (simplify qs) (simplify_cells (length qs) q)
simplify_cells_means qs q f =
    let e : min (length qs) (length q / 2) ≡ length qs = omega (arith, front_room qs q f) in
    rw e (after_means [] qs 0 (length qs) q (omega arith) (omega arith) refl f)

-- Addition to a simplified restriction. What `simplify` and `add` leave is simplified: `simplify-idempotent`.
pub add_cells_means : (qs : Restriction) (r : NonEquality) (q : List ℕ) → simplify qs ≡ some qs → Front qs q → 2 * length qs + 2 ≤ length q →
    Answers (length qs + 1) q (add qs (r ∷ [])) (add_cells (length qs) (atomic_code r.left) (atomic_code r.right) q)
unfolding bind
add_cells_means qs r q e f room = rw (kind_cells_means qs r q f, simplify_append [] qs (r ∷ []), e) (pick (kind qs r))
  where
    pick : (k : Kind) → Answers (length qs + 1) q (keep_or_drop (λ d. some d) qs r k) (add_kind (length qs) (atomic_code r.left) (atomic_code r.right) q (kind_code k))
    pick contradiction = (refl, refl, refl)
    pick redundant = (refl, f, omega arith, refl, refl)
    pick kept =
        let x = atomic_code r.left in
        let y = atomic_code r.right in
        let m : length (qs ++ (r ∷ [])) ≡ length qs + 1 = length-append qs (r ∷ []) in
        rw (lt-leb (length q / 2) (length qs) (omega arith)) (
          ap Ok (inv m),
          append_front qs r q room f,
          omega arith,
          append_behind q (length qs) x y room (length qs + 1) (omega arith),
          append_length q (length qs) x y room,
        )

-- "Over" is said of a storage without room only
pub add_cells_full : (n x y : ℕ) (q : List ℕ) → (add_cells n x y q).answer ≡ Err Over → length q < 2 * n + 2
add_cells_full n x y q e = pick (kind_cells n x y q) e
  where
    pick : (k : CodedKind) → (add_kind n x y q k).answer ≡ Err Over → length q < 2 * n + 2
    pick Contradictory f = let z : ◌≡◌ {A = ℕ} 0 1 = cc in absurd (omega arith)
    pick Redundant f = let z : ◌≡◌ {A = ℕ} 0 1 = cc in absurd (omega arith)
    pick Keep f = room (leb (length q / 2) n) refl f
      where
        room : (t : Bool) → leb (length q / 2) n ≡ t → (cond t (restrict_answer (Err Over) q) (restrict_answer (Ok (n + 1)) (append_cells n x y q))).answer ≡ Err Over → length q < 2 * n + 2
        room true l g = omega (arith, leb-true (length q / 2) n l)
        room false l g = let z : ◌≡◌ {A = ℕ} 0 1 = cc in absurd (omega arith)

-- where the variable stands nowhere the substitution changes nothing
module _ (m : ℕ) (x : AtomicExp) where
  not_filled : (a : AtomicExp) → eqb (atomic_code a) (avar_code m) ≡ false → apply_atomic (subst_a m x) a ≡ a
  not_filled (sym z) e = refl
  not_filled (avar k) e = let t : eqb k m ≡ false = inv (code_test 3 k m) ∙ e in rw t

  stands_nowhere : (qs : Restriction) → any_cell (avar_code m) (restriction_cells qs) ≡ false → map (apply_non_equality (subst_a m x)) qs ≡ qs
  unfolding any_cell
  stands_nowhere [] e = refl
  stands_nowhere (r ∷ qs) e = pick (eqb (atomic_code r.left) (avar_code m)) (eqb (atomic_code r.right) (avar_code m)) refl refl (stands_nowhere qs) e
    where
      pick : (a b : Bool) → eqb (atomic_code r.left) (avar_code m) ≡ a → eqb (atomic_code r.right) (avar_code m) ≡ b →
          (any_cell (avar_code m) (restriction_cells qs) ≡ false → map (apply_non_equality (subst_a m x)) qs ≡ qs) → cond a true (cond b true (any_cell (avar_code m) (restriction_cells qs))) ≡ false →
          apply_non_equality (subst_a m x) r ∷ map (apply_non_equality (subst_a m x)) qs ≡ r ∷ qs
      pick true b u v rest w = let z : ◌≡◌ {A = ℕ} 0 1 = cc in absurd (omega arith)
      pick false true u v rest w = let z : ◌≡◌ {A = ℕ} 0 1 = cc in absurd (omega arith)
      pick false false u v rest w = rw (not_filled r.left u, not_filled r.right v, rest w)

-- substitution for a variable that stands for an atom
module _ (m : ℕ) (x : AtomicExp) (qs : Restriction) (q : List ℕ) (f : Front qs q) where
  renamed_means : Answers (length qs) q (subst_restriction (subst_a m x) qs) (simplify_cells (length qs) (renamed (2 * length qs) (avar_code m) (atomic_code x) q))
  renamed_means =
      let ps = map (apply_non_equality (subst_a m x)) qs in
      let rest = drop (2 * length qs) q in
      let s = restriction_cells ps ++ rest in
      let n : length ps ≡ length qs = length-map qs (apply_non_equality (subst_a m x)) in
      let whole : restriction_cells qs ++ rest ≡ q = rw (← f) (take-append-drop (2 * length qs) q) in
      let filled : renamed (2 * length qs) (avar_code m) (atomic_code x) q ≡ s = rw whole at (renamed_restriction m x qs rest) in
      let sized : length (restriction_cells ps) ≡ 2 * length qs = restriction_cells_nodes ps ∙ ap (λ (k : ℕ). 2 * k) n in
      let size : length s ≡ length q =
      omega (arith, length-append (restriction_cells ps) rest, ap length whole, length-append (restriction_cells qs) rest, restriction_cells_nodes qs, sized) in
      rw filled (answers_same (length qs) s q (drop_at (restriction_cells ps) rest (2 * length qs) sized) size
      (simplify ps) (simplify_cells (length qs) s) (rw n at (simplify_cells_means ps s (take_at (restriction_cells ps) rest (2 * length ps) (restriction_cells_nodes ps)))))

  pub bind_cells_means : simplify qs ≡ some qs → Answers (length qs) q (subst_restriction (subst_a m x) qs) (bind_cells (length qs) (avar_code m) (atomic_code x) q)
  bind_cells_means simple =
      let e : min (length qs) (length q / 2) ≡ length qs = omega (arith, front_room qs q f) in
      let n : 2 * length qs - 0 ≡ 2 * length qs = omega arith in
      rw (e, n, f) (pick (any_cell (avar_code m) (restriction_cells qs)) refl)
    where
      pick : (t : Bool) → any_cell (avar_code m) (restriction_cells qs) ≡ t → Answers (length qs) q (subst_restriction (subst_a m x) qs)
          (cond t (simplify_cells (length qs) (renamed (2 * length qs) (avar_code m) (atomic_code x) q)) (restrict_answer (Ok (length qs)) q))
      pick true e = renamed_means
      pick false e = rw (stands_nowhere m x qs e, simple) (refl, f, omega arith, refl, refl)
