-- Where the cells hold a tree, its text is what `print` prints.
use Prim.Native.Nat.{ℕ, zero, suc, ◌+◌, ◌-◌, ◌*◌, ◌/◌, ◌%◌, ◌≤◌, ◌<◌}
use mathlib.Core.Path.{◌≡◌, refl, ap, ap₂, subst, ◌∙◌, sym as inv}
use mathlib.Core.Bool.{Bool, cond}
use mathlib.Core.List.{List, [], ◌∷◌, ◌++◌, append_assoc, append-nil}
use native.Mathlib.Omega.{arith}
use borrow.Author.Tests.{lt-ltb, le-ltb, eq-eqb, ne_eqb}
use lib.ListN.{length, get_or, drop, replicate, length-drop}
use lib.Seq.{get_or-drop}
use Rattle.expressions.specs.Expression.{AtomicExp, sym, avar, Exp, atm, evar, pair, nodes}
use Rattle.language.specs.Bytes.{txt}
use Rattle.language.specs.Words.{Word}
use Rattle.listing.specs.Print.{print_atomic, print}
use Rattle.sets.specs.Cells.{pair_code, evar_code, atomic_code, cells}
use Rattle.sets.proofs.CellLaws.{atomic_not_pair, cells_nodes, Stands, stands_end, head_stands, tail_stands}
use Rattle.window.specs.Twins.TreeText.{leaf_text, closings, behind_leaf, node_text, tree_from, tree_text}
use Rattle.window.proofs.TreeTurns.{closings_end, closings_leaf, closings_waits, closings_ends, closings_joins}

-- the first cell of a tree
abbrev pub first_cell : Exp → ℕ
first_cell (atm x) = atomic_code x
first_cell (evar n) = evar_code n
first_cell (pair c d) = pair_code

pub cell_at : (s : List ℕ) (at x : ℕ) (l : List ℕ) → drop at s ≡ x ∷ l → get_or s at 0 ≡ x
cell_at s at x l e =
    let n : at + 0 ≡ at = omega arith in
    ap (λ (k : ℕ). get_or s k 0) (inv n) ∙ inv (get_or-drop at s 0 0) ∙ ap (λ (r : List ℕ). get_or r 0 0) e

pub below_at : (s : List ℕ) (at x : ℕ) (l : List ℕ) → drop at s ≡ x ∷ l → at < length s
below_at s at x l e = omega (arith, length-drop at s, ap length e)

-- the tree's cells behind its first
rest_cells : Exp → List ℕ
rest_cells (atm x) = []
rest_cells (evar n) = []
rest_cells (pair c d) = cells c ++ cells d

cells_cons : (e : Exp) → cells e ≡ first_cell e ∷ rest_cells e
unfolding rest_cells
cells_cons (atm x) = refl
cells_cons (evar n) = refl
cells_cons (pair c d) = refl

module _ {s : List ℕ} {at : ℕ} {e : Exp} {rest : List ℕ} (t : Stands s at e rest) where
  here : drop at s ≡ first_cell e ∷ (rest_cells e ++ rest)
  here = t.here ∙ ap (λ (l : List ℕ). l ++ rest) (cells_cons e)

  pub stands_first : get_or s at 0 ≡ first_cell e
  stands_first = cell_at s at (first_cell e) (rest_cells e ++ rest) here

  pub stands_below : at < length s
  stands_below = below_at s at (first_cell e) (rest_cells e ++ rest) here

-- the head of a pair is one cell on, the tail behind it
module _ {s : List ℕ} {at : ℕ} {c d : Exp} {rest : List ℕ} (t : Stands s at (pair c d) rest) where
  pub tail_behind : Stands s (at + 1 + nodes c) d rest
  tail_behind = subst (λ (k : ℕ). Stands s k d rest) (stands_end (head_stands t)) (tail_stands t)

-- how many pairs end where the tree does: itself, and those on the way of its tails
own : Exp → ℕ
own (atm x) = 0
own (evar n) = 0
own (pair c d) = suc (own d)

module _ (s : List ℕ) where
  -- going back over a whole tree
  closings_over : (e : Exp) (at : ℕ) (rest : List ℕ) (t : ℕ) → Stands s at e rest → closings s (at + nodes e) (suc t) ≡ closings s at (suc (suc t))
  closings_over (atm x) at rest t w =
      let n : suc t + 1 ≡ suc (suc t) = omega arith in
      closings_leaf s (at + 1) at (suc t) (omega arith) (λ z. atomic_not_pair x (inv (stands_first w) ∙ z)) ∙ ap (closings s at) n
  closings_over (evar m) at rest t w =
      let n : suc t + 1 ≡ suc (suc t) = omega arith in
      closings_leaf s (at + 1) at (suc t) (omega arith) (λ z. let q : evar_code m ≡ 4 = inv (stands_first w) ∙ z in omega arith) ∙ ap (closings s at) n
  closings_over (pair c d) at rest t w =
      let n : at + suc (nodes c + nodes d) ≡ (at + 1 + nodes c) + nodes d = omega arith in
      let m : suc (suc (suc t)) - 1 ≡ suc (suc t) = omega arith in
      ap (λ (k : ℕ). closings s k (suc t)) n
      ∙ closings_over d (at + 1 + nodes c) rest t (tail_behind w)
      ∙ closings_over c (at + 1) (cells d ++ rest) (suc t) (head_stands w)
      ∙ closings_joins s (at + 1) at (suc (suc (suc t))) (omega arith) (stands_first w) (omega arith) (λ z. omega arith)
      ∙ ap (closings s at) m

  closings_own : (e : Exp) (at : ℕ) (rest : List ℕ) → Stands s at e rest → closings s (at + nodes e) 0 ≡ own e + closings s at 1
  unfolding own
  closings_own (atm x) at rest w = omega (arith, closings_leaf s (at + 1) at 0 (omega arith) (λ z. atomic_not_pair x (inv (stands_first w) ∙ z)))
  closings_own (evar m) at rest w = omega (arith, closings_leaf s (at + 1) at 0 (omega arith) (λ z. let q : evar_code m ≡ 4 = inv (stands_first w) ∙ z in omega arith))
  closings_own (pair c d) at rest w =
      let n : at + suc (nodes c + nodes d) ≡ (at + 1 + nodes c) + nodes d = omega arith in
      let a : closings s (at + suc (nodes c + nodes d)) 0 ≡ own d + closings s (at + 1 + nodes c) 1 = ap (λ (k : ℕ). closings s k 0) n ∙ closings_own d (at + 1 + nodes c) rest (tail_behind w) in
      let b : closings s (at + 1 + nodes c) 1 ≡ closings s (at + 1) 2 = closings_over c (at + 1) (cells d ++ rest) 0 (head_stands w) in
      let g : closings s (at + 1) 2 ≡ 1 + closings s at 1 = closings_ends s (at + 1) at 2 (omega arith) (stands_first w) (omega arith) (omega arith) in
      omega arith

  -- a pair that has only its head waits
  closings_head : (c d : Exp) (at : ℕ) (rest : List ℕ) → Stands s at (pair c d) rest → closings s (at + 1 + nodes c) 0 ≡ own c
  closings_head c d at rest w =
      let a : closings s (at + 1 + nodes c) 0 ≡ own c + closings s (at + 1) 1 = closings_own c (at + 1) (cells d ++ rest) (head_stands w) in
      let b : closings s (at + 1) 1 ≡ 0 = closings_waits s (at + 1) at 1 (omega arith) (stands_first w) (omega arith) in
      omega arith

abbrev brackets : ℕ → List ℕ
brackets n = replicate n 41

bracket_last : (n : ℕ) → brackets n ++ (41 ∷ []) ≡ brackets (suc n)
bracket_last zero = refl
bracket_last (suc n) = ap (λ (l : List ℕ). 41 ∷ l) (bracket_last n)

-- ns are the symbols' names
module _ (ns : List Word) (name : ℕ → List ℕ) (named : (z : ℕ) → name z ≡ 39 ∷ get_or ns z []) where
  pub leaf_atomic : (x : AtomicExp) → leaf_text name (atomic_code x) ≡ print_atomic ns x
  unfolding leaf_text
  leaf_atomic (sym z) =
      let r : (4 * z + 1) % 4 ≡ 1 = omega arith in
      let q : (4 * z + 1) / 4 ≡ z = omega arith in
      rw (eq-eqb ((4 * z + 1) % 4) 1 r, q) (named z)
  leaf_atomic (avar n) =
      let r : (4 * n + 3) % 4 ≡ 3 = omega arith in
      let q : (4 * n + 3) / 4 ≡ n = omega arith in
      rw (ne_eqb ((4 * n + 3) % 4) 1 (λ z. omega arith), ne_eqb ((4 * n + 3) % 4) 2 (λ z. omega arith), q)

  pub leaf_evar : (n : ℕ) → leaf_text name (evar_code n) ≡ print ns (evar n)
  unfolding leaf_text
  leaf_evar n =
      let r : (4 * n + 2) % 4 ≡ 2 = omega arith in
      let q : (4 * n + 2) / 4 ≡ n = omega arith in
      rw (ne_eqb ((4 * n + 2) % 4) 1 (λ z. omega arith), eq-eqb ((4 * n + 2) % 4) 2 r, q)

  -- a tree's text up to the brackets that end with it
  bare : Exp → List ℕ
  bare (atm x) = print_atomic ns x
  bare (evar n) = print ns (evar n)
  bare (pair c d) = txt "(cons " ++ (print ns c ++ (32 ∷ bare d))

  print_bare : (e : Exp) → bare e ++ brackets (own e) ≡ print ns e
  unfolding bare own
  print_bare (atm x) = append-nil (print_atomic ns x)
  print_bare (evar n) = append-nil (print ns (evar n))
  print_bare (pair c d) =
      let b : bare d ++ brackets (suc (own d)) ≡ print ns d ++ (41 ∷ []) =
      ap (λ (l : List ℕ). bare d ++ l) (inv (bracket_last (own d))) ∙ inv (append_assoc (bare d) (brackets (own d)) (41 ∷ [])) ∙ ap (λ (l : List ℕ). l ++ (41 ∷ [])) (print_bare d) in
      ap (λ (l : List ℕ). txt "(cons " ++ l) (append_assoc (print ns c) (32 ∷ bare d) (brackets (suc (own d))) ∙ ap (λ (l : List ℕ). print ns c ++ (32 ∷ l)) b ∙ inv (append_assoc (print ns c) (32 ∷ print ns d) (41 ∷ [])))

  module _ (s : List ℕ) where
    node_pair : (at : ℕ) → get_or s at 0 ≡ 4 → node_text name s at ≡ txt "(cons "
    unfolding node_text
    node_pair at e = rw (eq-eqb (get_or s at 0) 4 e)

    node_leaf : (at x : ℕ) → get_or s at 0 ≡ x → (x ≡ 4 → ⊥) → node_text name s at ≡ leaf_text name x ++ behind_leaf s (at + 1)
    unfolding node_text
    node_leaf at x e h = rw (e, ne_eqb x 4 h)

    -- behind a head: the brackets that end with it, and a blank
    behind_head : (c d : Exp) (at : ℕ) (rest : List ℕ) → Stands s at (pair c d) rest → behind_leaf s (at + 1 + nodes c) ≡ brackets (own c) ++ (32 ∷ [])
    unfolding behind_leaf
    behind_head c d at rest w = rw (closings_head s c d at rest w, lt-ltb (at + 1 + nodes c) (length s) (stands_below (tail_behind w)))

    from_leaf : (at n k : ℕ) (x : ℕ) → n ≡ suc k → get_or s at 0 ≡ x → (x ≡ 4 → ⊥) → tree_from name s n at ≡ leaf_text name x ++ (behind_leaf s (at + 1) ++ tree_from name s k (at + 1))
    unfolding tree_from
    from_leaf at n k x e f h = rw (e, node_leaf at x f h) (append_assoc (leaf_text name x) (behind_leaf s (at + 1)) (tree_from name s k (at + 1)))

    from_pair : (at n k : ℕ) → n ≡ suc k → get_or s at 0 ≡ 4 → tree_from name s n at ≡ txt "(cons " ++ tree_from name s k (at + 1)
    unfolding tree_from
    from_pair at n k e f = rw (e, node_pair at f)

    -- a pair from its parts
    module _ (c d : Exp) (at : ℕ) (rest : List ℕ) (k n : ℕ) (size : n ≡ nodes (pair c d) + k) (w : Stands s at (pair c d) rest) where
      abbrev tail_at : ℕ
      tail_at = at + 1 + nodes c

      abbrev Behind : ℕ → List ℕ
      Behind i = behind_leaf s i ++ tree_from name s k i

      pair_cells_lem : tree_from name s (nodes c + (nodes d + k)) (at + 1) ≡ bare c ++ (behind_leaf s tail_at ++ tree_from name s (nodes d + k) tail_at) →
          tree_from name s (nodes d + k) tail_at ≡ bare d ++ Behind (tail_at + nodes d) →
          tree_from name s n at ≡ bare (pair c d) ++ Behind (at + nodes (pair c d))
      unfolding bare
      pair_cells_lem one two =
          let e : tail_at + nodes d ≡ at + nodes (pair c d) = omega arith in
          let head : bare c ++ (behind_leaf s tail_at ++ (bare d ++ Behind (tail_at + nodes d))) ≡ print ns c ++ ((32 ∷ bare d) ++ Behind (tail_at + nodes d)) =
          ap (λ (l : List ℕ). bare c ++ (l ++ (bare d ++ Behind (tail_at + nodes d)))) (behind_head c d at rest w)
          ∙ ap (λ (l : List ℕ). bare c ++ l) (append_assoc (brackets (own c)) (32 ∷ []) (bare d ++ Behind (tail_at + nodes d)))
          ∙ inv (append_assoc (bare c) (brackets (own c)) ((32 ∷ bare d) ++ Behind (tail_at + nodes d)))
          ∙ ap (λ (l : List ℕ). l ++ ((32 ∷ bare d) ++ Behind (tail_at + nodes d))) (print_bare c) in
          from_pair at n (nodes c + (nodes d + k)) (omega arith) (stands_first w)
          ∙ ap (λ (l : List ℕ). txt "(cons " ++ l) (one ∙ ap (λ (l : List ℕ). bare c ++ (behind_leaf s tail_at ++ l)) two ∙ head
          ∙ inv (append_assoc (print ns c) (32 ∷ bare d) (Behind (tail_at + nodes d)))
          ∙ ap (λ (i : ℕ). (print ns c ++ (32 ∷ bare d)) ++ Behind i) e)

    -- the cells of a tree, and what is behind it
    tree_cells : (e : Exp) (at : ℕ) (rest : List ℕ) (k n : ℕ) → n ≡ nodes e + k → Stands s at e rest →
        tree_from name s n at ≡ bare e ++ (behind_leaf s (at + nodes e) ++ tree_from name s k (at + nodes e))
    unfolding bare
    tree_cells (atm x) at rest k n e w =
        from_leaf at n k (atomic_code x) (omega arith) (stands_first w) (atomic_not_pair x)
        ∙ ap (λ (l : List ℕ). l ++ (behind_leaf s (at + 1) ++ tree_from name s k (at + 1))) (leaf_atomic x)
    tree_cells (evar m) at rest k n e w =
        from_leaf at n k (evar_code m) (omega arith) (stands_first w) (λ z. omega arith)
        ∙ ap (λ (l : List ℕ). l ++ (behind_leaf s (at + 1) ++ tree_from name s k (at + 1))) (leaf_evar m)
    tree_cells (pair c d) at rest k n e w =
        pair_cells_lem c d at rest k n e w
        (tree_cells c (at + 1) (cells d ++ rest) (nodes d + k) (nodes c + (nodes d + k)) refl (head_stands w))
        (tree_cells d (at + 1 + nodes c) rest k (nodes d + k) refl (tail_behind w))

  -- behind the last leaf of a storage that holds one tree
  behind_last : (e : Exp) → behind_leaf (cells e) (0 + nodes e) ≡ brackets (own e)
  unfolding behind_leaf
  behind_last e =
      let w : Stands (cells e) 0 e [] = record { here = inv (append-nil (cells e)) } in
      let l : length (cells e) ≤ 0 + nodes e = omega (arith, cells_nodes e) in
      let o : closings (cells e) (0 + nodes e) 0 ≡ own e = omega (arith, closings_own (cells e) e 0 [] w, closings_end (cells e) 0 1 (omega arith)) in
      ap₂ (λ (n : ℕ) (t : Bool). brackets n ++ cond t (32 ∷ []) []) o (le-ltb (0 + nodes e) (length (cells e)) l) ∙ append-nil (brackets (own e))

  pub tree_printed : (e : Exp) → tree_text name (cells e) ≡ print ns e
  unfolding tree_text tree_from
  tree_printed e =
      let w : Stands (cells e) 0 e [] = record { here = inv (append-nil (cells e)) } in
      let n : length (cells e) ≡ nodes e + 0 = omega (arith, cells_nodes e) in
      tree_cells (cells e) e 0 [] 0 (length (cells e)) n w
      ∙ ap (λ (l : List ℕ). bare e ++ l) (append-nil (behind_leaf (cells e) (0 + nodes e)) ∙ behind_last e)
      ∙ print_bare e
