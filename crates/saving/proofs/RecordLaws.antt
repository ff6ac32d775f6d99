-- A record in cells: how long it is, what its head says, what is stored and what comes back.
use Prim.Native.Nat.{ℕ, ◌+◌, ◌-◌, ◌*◌, ◌≤◌, ◌<◌, min}
use mathlib.Core.Path.{◌≡◌, refl, ap, ◌∙◌, sym as inv}
use mathlib.Core.List.{List, ◌++◌, append_assoc}
use native.Mathlib.Omega.{arith}
use lib.ListN.{length, take, drop, get_or, length-append, length-take, length-drop}
use lib.Seq.{take_at, drop_at, drop-append-add, drop-drop, get_or-append-add}
use Rattle.sets.specs.Twins.Copying.{CopyAnswer, copied}
use Rattle.sets.proofs.CellLaws.{copied_done}
use Rattle.saving.specs.Twins.Heads.{entry_cells, side_cells, head_cells, head_start, number_at, node_at, used_at, begins_at}
use Rattle.saving.specs.Twins.Saving.{size_of, stored, load_left, loaded}
use Rattle.saving.specs.Twins.Records.{Record, node_of, record_of, numbers_of, record_cells, Fits}
use Rattle.saving.specs.declared.head.Node.{Node}

-- a block written behind a beginning
copied_behind : (src p b r : List ℕ) (n at : ℕ) → take n src ≡ b → length b ≡ n → length p ≡ at → n ≤ length r → (copied src 0 n (p ++ r) at).cells ≡ p ++ (b ++ drop n r)
copied_behind src p b r n at t l here room =
    let z : 0 + n ≤ length src = omega (arith, ap length t, length-take n src) in
    let d : at + n ≤ length (p ++ r) = omega (arith, length-append p r) in
    let k : at + n ≡ length p + n = omega arith in
    let v : drop (at + n) (p ++ r) ≡ drop n r = rw k (drop-append-add p r n) in
    ap (λ (w : CopyAnswer). w.cells) (copied_done src 0 n (p ++ r) at z d) ∙ rw (take_at p r at here, t, v) (append_assoc p b (drop n r))

-- .. and brought to the front of another storage
copied_from_lem : (src dst p b r : List ℕ) (n i : ℕ) → src ≡ p ++ (b ++ r) → length p ≡ i → length b ≡ n → n ≤ length dst → (copied src i n dst 0).cells ≡ b ++ drop n dst
copied_from_lem src dst p b r n i is here l room =
    let z : i + n ≤ length src = omega (arith, ap length is, length-append p (b ++ r), length-append b r) in
    let d : 0 + n ≤ length dst = omega arith in
    let k : 0 + n ≡ n = omega arith in
    let u : drop i src ≡ b ++ r = ap (drop i) is ∙ drop_at p (b ++ r) i here in
    ap (λ (w : CopyAnswer). w.cells) (copied_done src i n dst 0 z d) ∙ rw (u, take_at b r n l, k)

module _ (r : Record) (ok : Fits r) where
  pub record_length : length (record_cells r) ≡ 3 * r.at.entries + 2 * r.at.neqs + 9
  unfolding record_cells
  record_length = omega (arith, length-append r.entries (r.sides ++ numbers_of r), length-append r.sides (numbers_of r), ok.entries, ok.sides)

  entries_counted : entry_cells r.at.entries ≡ 3 * r.at.entries
  entries_counted = omega (arith, ok.in_frame)

  sides_counted : side_cells r.at.neqs ≡ 2 * r.at.neqs
  sides_counted = omega (arith, ok.in_q)

  pub record_size : size_of (node_of r) ≡ length (record_cells r)
  record_size = omega (arith, record_length, entries_counted, sides_counted)

  small : (k : ℕ) → k < 65536 → min k 65535 ≡ k
  small k l = omega arith

  head_is : head_cells (node_of r) ≡ numbers_of r
  head_is =
      rw (
        small r.steps ok.steps,
        small r.depth ok.depth,
        small r.at.inputs ok.inputs,
        small r.at.outputs ok.outputs,
        small r.at.entries (omega (arith, ok.in_frame)),
        small r.at.used ok.used,
        small r.at.neqs (omega (arith, ok.in_q)),
        small r.at.place ok.place,
      )

-- What `store` leaves behind the beginning p.
module _ (f q : List ℕ) (n : Node) (ok : Fits (record_of f q n)) (p rest : List ℕ) (at : ℕ) (here : length p ≡ at) (low : at ≤ 16384) (room : size_of n ≤ length rest) where
  abbrev r : Record
  r = record_of f q n

  abbrev entries : ℕ
  entries = entry_cells n.at.entries

  abbrev sides : ℕ
  sides = side_cells n.at.neqs

  one : (copied f 0 entries (p ++ rest) (min at 16384)).cells ≡ p ++ (r.entries ++ drop entries rest)
  one =
      let e = entries_counted r ok in
      copied_behind f p r.entries rest entries (min at 16384) (ap (λ (k : ℕ). take k f) e) (ok.entries ∙ inv e) (omega arith) (omega arith)

  two : (copied q 0 sides (p ++ (r.entries ++ drop entries rest)) (min at 16384 + entries)).cells ≡ (p ++ r.entries) ++ (r.sides ++ drop sides (drop entries rest))
  two =
      let e = sides_counted r ok in
      let d = length-drop entries rest in
      rw (← (append_assoc p r.entries (drop entries rest)))
      (copied_behind q (p ++ r.entries) r.sides (drop entries rest) sides (min at 16384 + entries) (ap (λ (k : ℕ). take k q) e) (ok.sides ∙ inv e)
      (omega (arith, length-append p r.entries, ok.entries, entries_counted r ok)) (omega arith))

  abbrev left : List ℕ
  left = drop sides (drop entries rest)

  three : (copied (head_cells n) 0 9 ((p ++ r.entries) ++ (r.sides ++ left)) (min at 16384 + entries + sides)).cells ≡ ((p ++ r.entries) ++ r.sides) ++ (numbers_of r ++ drop 9 left)
  three =
      let d = length-drop sides (drop entries rest) in
      let c = length-drop entries rest in
      rw (← (append_assoc (p ++ r.entries) r.sides left), head_is r ok)
      (copied_behind (numbers_of r) ((p ++ r.entries) ++ r.sides) (numbers_of r) left 9 (min at 16384 + entries + sides) refl refl
      (omega (arith, length-append (p ++ r.entries) r.sides, length-append p r.entries, ok.entries, ok.sides, entries_counted r ok, sides_counted r ok)) (omega arith))

  left_is : drop 9 left ≡ drop (size_of n) rest
  left_is = ap (drop 9) (drop-drop sides entries rest) ∙ drop-drop 9 (entries + sides) rest

  pub store_is : stored f q n at (p ++ rest) ≡ p ++ (record_cells r ++ drop (size_of n) rest)
  unfolding stored record_cells
  store_is =
      rw (
        one,
        two,
        three,
        left_is,
        append_assoc (p ++ r.entries) r.sides (numbers_of r ++ drop (size_of n) rest),
        append_assoc p r.entries (r.sides ++ (numbers_of r ++ drop (size_of n) rest)),
        append_assoc r.entries (r.sides ++ numbers_of r) (drop (size_of n) rest),
        append_assoc r.sides (numbers_of r) (drop (size_of n) rest),
      )

-- What is read of the record that stands behind p and ends at `top`.
module _ (s p rest : List ℕ) (r : Record) (ok : Fits r) (is : s ≡ p ++ (record_cells r ++ rest)) (top : ℕ) (ends : top ≡ length p + length (record_cells r)) (low : top ≤ 16384) where
  behind : s ≡ p ++ (r.entries ++ (r.sides ++ (numbers_of r ++ rest)))
  unfolding record_cells
  behind = is ∙ rw (append_assoc r.entries (r.sides ++ numbers_of r) rest, append_assoc r.sides (numbers_of r) rest)

  between : s ≡ (p ++ r.entries) ++ (r.sides ++ (numbers_of r ++ rest))
  between = behind ∙ inv (append_assoc p r.entries (r.sides ++ (numbers_of r ++ rest)))

  before : s ≡ ((p ++ r.entries) ++ r.sides) ++ (numbers_of r ++ rest)
  before = between ∙ inv (append_assoc (p ++ r.entries) r.sides (numbers_of r ++ rest))

  entries_end : length (p ++ r.entries) ≡ length p + 3 * r.at.entries
  entries_end = omega (arith, length-append p r.entries, ok.entries)

  sides_end : length ((p ++ r.entries) ++ r.sides) ≡ length p + 3 * r.at.entries + 2 * r.at.neqs
  sides_end = omega (arith, length-append (p ++ r.entries) r.sides, entries_end, ok.sides)

  head_place : head_start top ≡ length ((p ++ r.entries) ++ r.sides)
  head_place = omega (arith, sides_end, record_length r ok)

  number : (k : ℕ) → number_at s (head_start top) k ≡ get_or (numbers_of r ++ rest) k 0
  number k =
      let e : min (head_start top) 16384 + k ≡ length ((p ++ r.entries) ++ r.sides) + k = omega (arith, head_place) in
      ap (λ (i : ℕ). get_or s i 0) e ∙ ap (λ (l : List ℕ). get_or l (length ((p ++ r.entries) ++ r.sides) + k) 0) before ∙ get_or-append-add ((p ++ r.entries) ++ r.sides) (numbers_of r ++ rest) k 0

  pub used_is : used_at s top ≡ r.at.used
  used_is = number 5

  pub node_is : node_at s (head_start top) ≡ node_of r
  unfolding node_at
  node_is = rw (number 0, number 1, number 2, number 3, number 4, number 5, number 6, number 7, number 8)

  pub begins_is : begins_at s top ≡ length p
  unfolding begins_at
  begins_is = rw (number 4, number 6) (omega (arith, head_place, sides_end, entries_counted r ok, sides_counted r ok))

  module _ (f q : List ℕ) (frame : length f ≡ 12360) (qs : length q ≡ 4096) where
    entries_back : (copied s (length p) (entry_cells r.at.entries) f 0).cells ≡ r.entries ++ drop (3 * r.at.entries) f
    entries_back =
        let e = entries_counted r ok in
        rw e (copied_from_lem s f p r.entries (r.sides ++ (numbers_of r ++ rest)) (3 * r.at.entries) (length p) behind refl ok.entries (omega (arith, ok.in_frame)))

    sides_back : (copied s (head_start top - side_cells r.at.neqs) (side_cells r.at.neqs) q 0).cells ≡ r.sides ++ drop (2 * r.at.neqs) q
    sides_back =
        let e = sides_counted r ok in
        let h : head_start top - 2 * r.at.neqs ≡ length (p ++ r.entries) = omega (arith, head_place, sides_end, entries_end) in
        rw (e, h) (copied_from_lem s q (p ++ r.entries) r.sides (numbers_of r ++ rest) (2 * r.at.neqs) (length (p ++ r.entries)) between refl ok.sides (omega (arith, ok.in_q)))

    pub loaded_is : loaded s top f q ≡ load_left (record { node = node_of r; top = length p }) (r.entries ++ drop (3 * r.at.entries) f) (r.sides ++ drop (2 * r.at.neqs) q)
    unfolding loaded
    loaded_is = rw (node_is, begins_is, entries_back, sides_back)
