-- A storage that holds records: those up to one of them, the last one, and one more.
use Prim.Native.Nat.{ℕ, zero, suc, ◌+◌, ◌-◌, ◌*◌, ◌≤◌, ◌<◌}
use mathlib.Core.Path.{◌≡◌, refl, ap, ◌∙◌, sym as inv}
use mathlib.Core.List.{List, [], ◌∷◌, ◌++◌, append_assoc, append-nil}
use native.Mathlib.Omega.{arith}
use lib.ListN.{length, take, drop, get_or, length-append, length-drop, take-append-drop}
use lib.Seq.{take-suc, split_at, take_all}
use Rattle.saving.specs.Twins.Heads.{used_at, begins_at}
use Rattle.saving.specs.Twins.Saving.{size_of, stored, load_left, loaded}
use Rattle.saving.specs.Twins.Records.{Record, node_of, record_of, record_cells, records_cells, Fits, AllFit, fit_none, fit_more, Holding}
use Rattle.saving.specs.declared.head.Node.{Node}
use Rattle.saving.proofs.RecordLaws.{record_length, record_size, store_is, used_is, begins_is, loaded_is}

records_append : (ps qs : List Record) → records_cells (ps ++ qs) ≡ records_cells ps ++ records_cells qs
unfolding records_cells
records_append [] qs = refl
records_append (p ∷ ps) qs = ap (λ (l : List ℕ). record_cells p ++ l) (records_append ps qs) ∙ inv (append_assoc (record_cells p) (records_cells ps) (records_cells qs))

pub records_more : (r : Record) (rs : List Record) → records_cells (r ∷ rs) ≡ record_cells r ++ records_cells rs
unfolding records_cells
records_more r rs = refl

pub records_one : (r : Record) → records_cells (r ∷ []) ≡ record_cells r
unfolding records_cells
records_one r = append-nil (record_cells r)

pub records_snoc : (rs : List Record) (r : Record) → records_cells (rs ++ (r ∷ [])) ≡ records_cells rs ++ record_cells r
records_snoc rs r = records_append rs (r ∷ []) ∙ ap (λ (l : List ℕ). records_cells rs ++ l) (records_one r)

fit_snoc : {rs : List Record} {r : Record} → AllFit rs → Fits r → AllFit (rs ++ (r ∷ []))
fit_snoc fit_none y = fit_more y fit_none
fit_snoc (fit_more x a) y = fit_more x (fit_snoc a y)

pub fit_last : (rs : List Record) (r : Record) → AllFit (rs ++ (r ∷ [])) → Fits r
fit_last [] r (fit_more x a) = x
fit_last (y ∷ rs) r (fit_more x a) = fit_last rs r a

fit_front : (rs : List Record) (r : Record) → AllFit (rs ++ (r ∷ [])) → AllFit rs
fit_front [] r a = fit_none
fit_front (y ∷ rs) r (fit_more x a) = fit_more x (fit_front rs r a)

fit_take : (k : ℕ) {rs : List Record} → AllFit rs → AllFit (take k rs)
fit_take zero a = fit_none
fit_take (suc k) fit_none = fit_none
fit_take (suc k) (fit_more x a) = fit_more x (fit_take k a)

fit_at : (k : ℕ) (d : Record) {rs : List Record} → AllFit rs → k < length rs → Fits (get_or rs k d)
fit_at k d fit_none l = absurd (omega arith)
fit_at zero d (fit_more x a) l = x
fit_at (suc k) d (fit_more x a) l = fit_at k d a (omega arith)

-- where the first k records end
abbrev pub top_of : List Record → ℕ → ℕ
top_of rs k = length (records_cells (take k rs))

module _ {s : List ℕ} {top : ℕ} {rs : List Record} (x : Holding s top rs) where
  pub holding_low : top ≤ 16384
  holding_low = omega (arith, x.size, x.whole, ap length x.is, length-append (records_cells rs) x.rest)

  pub holding_all : top_of rs (length rs) ≡ top
  holding_all = ap (λ (l : List Record). length (records_cells l)) (take_all (length rs) rs (omega arith)) ∙ inv x.size

  -- the record k, with those before it and behind it
  module _ (k : ℕ) (d : Record) (in-rs : k < length rs) where
    abbrev others : List ℕ
    others = records_cells (drop (suc k) rs) ++ x.rest

    stands_at : s ≡ records_cells (take k rs) ++ (record_cells (get_or rs k d) ++ others)
    stands_at =
        x.is ∙ ap (λ (l : List ℕ). l ++ x.rest) (ap records_cells (split_at rs k d in-rs) ∙ records_append (take k rs) (get_or rs k d ∷ drop (suc k) rs))
        ∙ rw (
          append_assoc (records_cells (take k rs)) (records_cells (get_or rs k d ∷ drop (suc k) rs)) x.rest,
          records_more (get_or rs k d) (drop (suc k) rs),
          append_assoc (record_cells (get_or rs k d)) (records_cells (drop (suc k) rs)) x.rest,
        )

    next_top : top_of rs (suc k) ≡ top_of rs k + length (record_cells (get_or rs k d))
    next_top =
        ap length (ap records_cells (take-suc rs k d in-rs) ∙ records_snoc (take k rs) (get_or rs k d)) ∙ length-append (records_cells (take k rs)) (record_cells (get_or rs k d))

    next_low : top_of rs (suc k) ≤ 16384
    next_low =
        omega (arith, next_top, ap length stands_at, x.whole, length-append (records_cells (take k rs)) (record_cells (get_or rs k d) ++ others), length-append (record_cells (get_or rs k d)) others)

    pub top_grows : top_of rs k < top_of rs (suc k)
    top_grows = omega (arith, next_top, record_length (get_or rs k d) (fit_at k d x.fits in-rs))

    pub top_begins : begins_at s (top_of rs (suc k)) ≡ top_of rs k
    top_begins = begins_is s (records_cells (take k rs)) others (get_or rs k d) (fit_at k d x.fits in-rs) stands_at (top_of rs (suc k)) next_top next_low

  -- the first k of them
  pub holding_take : (k : ℕ) → Holding s (top_of rs k) (take k rs)
  holding_take k = record {
    rest = records_cells (drop k rs) ++ x.rest;
    is = x.is ∙ ap (λ (l : List Record). records_cells l ++ x.rest) (inv (take-append-drop k rs))
        ∙ ap (λ (l : List ℕ). l ++ x.rest) (records_append (take k rs) (drop k rs)) ∙ append_assoc (records_cells (take k rs)) (records_cells (drop k rs)) x.rest;
    size = refl;
    whole = x.whole;
    fits = fit_take k x.fits;
  }

-- none is held at the start
pub holding_none : {s : List ℕ} → length s ≡ 16384 → Holding s 0 []
unfolding records_cells
holding_none {s} l = record { rest = s; is = refl; size = refl; whole = l; fits = fit_none }

-- THE LAW of storing: one record more
pub store_means : {s : List ℕ} {top : ℕ} {rs : List Record} → Holding s top rs → (f q : List ℕ) (n : Node) → Fits (record_of f q n) → size_of n ≤ 16384 - top →
    Holding (stored f q n top s) (top + size_of n) (rs ++ (record_of f q n ∷ []))
store_means {s} {top} {rs} x f q n ok room =
    let r = record_of f q n in
    let left = drop (size_of n) x.rest in
    let l = length-append (records_cells rs) x.rest in
    let fits_in : size_of n ≤ length x.rest = omega (arith, x.size, x.whole, ap length x.is) in
    let e : stored f q n top s ≡ records_cells rs ++ (record_cells r ++ left) =
    ap (stored f q n top) x.is ∙ store_is f q n ok (records_cells rs) x.rest top (inv x.size) (holding_low x) fits_in in
    record {
      rest = left;
      is = e ∙ inv (append_assoc (records_cells rs) (record_cells r) left) ∙ ap (λ (l : List ℕ). l ++ left) (inv (records_snoc rs r));
      size = omega (arith, x.size, record_size r ok, ap length (records_snoc rs r), length-append (records_cells rs) (record_cells r));
      whole =
          omega (
            arith,
            ap length e,
            length-append (records_cells rs) (record_cells r ++ left),
            length-append (record_cells r) left,
            record_size r ok,
            x.whole,
            ap length x.is,
            fits_in,
            length-drop (size_of n) x.rest,
          );
      fits = fit_snoc x.fits ok;
    }

-- the last one
module _ {s : List ℕ} {top : ℕ} (rs : List Record) (r : Record) (x : Holding s top (rs ++ (r ∷ []))) where
  last_is : s ≡ records_cells rs ++ (record_cells r ++ x.rest)
  last_is = x.is ∙ ap (λ (l : List ℕ). l ++ x.rest) (records_snoc rs r) ∙ append_assoc (records_cells rs) (record_cells r) x.rest

  last_ends : top ≡ length (records_cells rs) + length (record_cells r)
  last_ends = x.size ∙ ap length (records_snoc rs r) ∙ length-append (records_cells rs) (record_cells r)

  pub used_means : used_at s top ≡ r.at.used
  used_means = used_is s (records_cells rs) x.rest r (fit_last rs r x.fits) last_is top last_ends (holding_low x)

  -- THE LAW of going back: the node of the last record, its cells at the fronts of frame and q, and where it begins
  pub load_means : (f q : List ℕ) → length f ≡ 12360 → length q ≡ 4096 → loaded s top f q ≡
      load_left (record { node = node_of r; top = length (records_cells rs) }) (r.entries ++ drop (3 * r.at.entries) f) (r.sides ++ drop (2 * r.at.neqs) q)
  load_means f q frame qs = loaded_is s (records_cells rs) x.rest r (fit_last rs r x.fits) last_is top last_ends (holding_low x) f q frame qs

  -- .. which keep their lengths
  pub load_frame : (f q : List ℕ) → length f ≡ 12360 → length q ≡ 4096 → length (loaded s top f q).frame ≡ 12360
  load_frame f q frame qs =
      let y = fit_last rs r x.fits in
      rw (load_means f q frame qs) (omega (arith, length-append r.entries (drop (3 * r.at.entries) f), length-drop (3 * r.at.entries) f, y.entries, y.in_frame))

  pub load_sides : (f q : List ℕ) → length f ≡ 12360 → length q ≡ 4096 → length (loaded s top f q).q ≡ 4096
  load_sides f q frame qs =
      let y = fit_last rs r x.fits in
      rw (load_means f q frame qs) (omega (arith, length-append r.sides (drop (2 * r.at.neqs) q), length-drop (2 * r.at.neqs) q, y.sides, y.in_q))

  -- .. and what is held without it
  pub load_holding : Holding s (length (records_cells rs)) rs
  load_holding = record { rest = record_cells r ++ x.rest; is = last_is; size = refl; whole = x.whole; fits = fit_front rs r x.fits }
