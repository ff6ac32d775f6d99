-- A token stored in cells and read back is the same token.
use Prim.Native.Nat.{ℕ, ◌+◌, ◌*◌, ◌/◌, ◌%◌, ◌≤◌, ◌<◌}
use mathlib.Core.Path.{◌≡◌, refl, ap, ◌∙◌}
use mathlib.Core.Bool.{Bool, true, false, cond}
use native.Mathlib.Omega.{arith}
use native.Mathlib.Nat.{div-add-mod, mod-lt}
use lib.Dec.{leb, ltb}
use borrow.Author.Tests.{le-leb, lt-leb, ltb-false}
use Rattle.language.specs.Words.{Fit, fits, broken, long, many}
use Rattle.language.specs.Tokens.{Kind, symbol, ename, aname, evariable, avariable, plain, tag, Token}
use Rattle.words.specs.Twins.Marks.{fit_number, over_number, mark_of, kind_at, fit_at, fit_tag, over_mark, kind_tag, decode}

pub kind_back : (k : Kind) → kind_at (tag k) ≡ k
kind_back symbol = refl
kind_back ename = refl
kind_back aname = refl
kind_back evariable = refl
kind_back avariable = refl
kind_back plain = refl

fit_back : (f : Fit) → fit_at (fit_number f) ≡ f
fit_back fits = refl
fit_back broken = refl
fit_back long = refl
fit_back many = refl

pub tag_most : (k : Kind) → tag k ≤ 5
tag_most symbol = omega arith
tag_most ename = omega arith
tag_most aname = omega arith
tag_most evariable = omega arith
tag_most avariable = omega arith
tag_most plain = omega arith

pub fit_most : (f : Fit) → fit_number f ≤ 3
fit_most fits = omega arith
fit_most broken = omega arith
fit_most long = omega arith
fit_most many = omega arith

over_most : (b : Bool) → over_number b ≤ 1
over_most true = omega arith
over_most false = omega arith

-- the parts of a sum of digits to the bases 32, 8, 4
module _ (a b c d : ℕ) (p : a < 32) (q : b < 8) (r : c < 4) where
  abbrev sum : ℕ
  sum = a + 32 * b + 256 * c + 1024 * d

  low : sum % 32 ≡ a
  low = let x = div-add-mod sum 32 in let y = mod-lt sum {m = 32} (omega arith) in omega arith

  middle : sum / 32 % 8 ≡ b
  middle =
      let x = div-add-mod sum 32 in
      let y = mod-lt sum {m = 32} (omega arith) in
      let z = div-add-mod (sum / 32) 8 in
      let w = mod-lt (sum / 32) {m = 8} (omega arith) in
      omega arith

  high : sum / 256 % 4 ≡ c
  high =
      let x = div-add-mod sum 256 in
      let y = mod-lt sum {m = 256} (omega arith) in
      let z = div-add-mod (sum / 256) 4 in
      let w = mod-lt (sum / 256) {m = 4} (omega arith) in
      omega arith

tag_known : (k : ℕ) → k ≤ 5 → cond (ltb k 5) k 5 ≡ k
tag_known k h = go (ltb k 5) refl
  where
    go : (t : Bool) → ltb k 5 ≡ t → cond t k 5 ≡ k
    go true e = refl
    go false e = let z = ltb-false k 5 e in omega arith

over_back : (n : ℕ) (b : Bool) → n < 1024 → leb 1024 (n + 1024 * over_number b) ≡ b
over_back n true h = le-leb 1024 (n + 1024) (omega arith)
over_back n false h = lt-leb 1024 (n + 1024 * 0) (omega arith)

pub decoded : (t : Token) → t.key < 32 → decode (mark_of t) t.num t.at ≡ t
unfolding mark_of
decoded t h =
    let q = tag_most t.kind in
    let r = fit_most t.fit in
    let k : mark_of t % 32 ≡ t.key = low t.key (tag t.kind) (fit_number t.fit) (over_number t.over) h (omega arith) (omega arith) in
    let m : mark_of t / 32 % 8 ≡ tag t.kind = middle t.key (tag t.kind) (fit_number t.fit) (over_number t.over) h (omega arith) (omega arith) in
    let f : mark_of t / 256 % 4 ≡ fit_number t.fit = high t.key (tag t.kind) (fit_number t.fit) (over_number t.over) h (omega arith) (omega arith) in
    let o : leb 1024 (mark_of t) ≡ t.over = over_back (t.key + 32 * tag t.kind + 256 * fit_number t.fit) t.over (omega arith) in
    made t (mark_of t) k (ap (λ n. kind_at (cond (ltb n 5) n 5)) m ∙ ap kind_at (tag_known (tag t.kind) q) ∙ kind_back t.kind) (ap fit_at f ∙ fit_back t.fit) o
  where
    made : (t : Token) (m : ℕ) → m % 32 ≡ t.key → kind_at (kind_tag m) ≡ t.kind → fit_at (fit_tag m) ≡ t.fit → over_mark m ≡ t.over → decode m t.num t.at ≡ t
    made t m a b c d = rw (a, b, c, d)

-- so that a mark tells the key and the kind
pub marked : (t : Token) → t.key < 32 → (mark_of t % 32 ≡ t.key) × (mark_of t / 32 % 8 ≡ tag t.kind)
unfolding mark_of
marked t h =
    let q = tag_most t.kind in
    let r = fit_most t.fit in
    (low t.key (tag t.kind) (fit_number t.fit) (over_number t.over) h (omega arith) (omega arith), middle t.key (tag t.kind) (fit_number t.fit) (over_number t.over) h (omega arith) (omega arith))
