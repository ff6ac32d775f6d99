-- Texts written one behind the other are written as one, and what the window shows in the end.
use Prim.Native.Nat.{ℕ, zero, suc, ◌+◌, ◌-◌, ◌≤◌, ◌<◌, min}
use mathlib.Core.Path.{◌≡◌, refl, ap, ap₂, ◌∙◌, sym}
use mathlib.Core.Bool.{Bool, true, false, cond}
use mathlib.Core.List.{List, [], ◌∷◌, ◌++◌, append_assoc}
use native.Mathlib.Omega.{arith}
use borrow.Author.Tests.{lt-ltb, le-ltb, leb-true}
use lib.Dec.{leb, ltb}
use lib.ListN.{length, take, drop, replicate, set, length-append, length-replicate, length-drop}
use lib.Seq.{take-nil, drop-nil, set-append_seam}
use Rattle.window.specs.declared.sink.Place.{Place}
use Rattle.window.specs.Windows.{windowed, Printed}
use Rattle.window.specs.Twins.Sink.{Sink, sink, opening, pushed, full, puts}

pub puts_append : (s : Sink) (a b : List ℕ) → puts s (a ++ b) ≡ puts (puts s a) b
unfolding puts
puts_append s [] b = refl
puts_append s (x ∷ a) b = puts_append (pushed s x) a b

-- nothing, a byte, and one text behind another
pub puts_none : (s : Sink) → puts s [] ≡ s
unfolding puts
puts_none s = refl

pub puts_more : (s : Sink) (b : ℕ) (bs : List ℕ) → puts s (b ∷ bs) ≡ puts (puts s (b ∷ [])) bs
unfolding puts
puts_more s b bs = refl

pub behind : (s : Sink) {t u : Sink} (a b : List ℕ) → t ≡ puts s a → u ≡ puts t b → u ≡ puts s (a ++ b)
behind s a b e f = f ∙ ap (λ (x : Sink). puts x b) e ∙ sym (puts_append s a b)

-- what is left to write from here on is what was to be written from the start
pub onward : (s t : Sink) {u : Sink} (a b whole : List ℕ) → puts s whole ≡ puts t (a ++ b) → u ≡ puts t a → puts s whole ≡ puts u b
onward s t a b whole e f = e ∙ puts_append t a b ∙ ap (λ (x : Sink). puts x b) (sym f)

-- a full window takes nothing more
open_test : (x y : Bool) → cond x false y ≡ true → (x ≡ false) × (y ≡ true)
open_test true y e = let z : ◌≡◌ {A = ℕ} 0 1 = cc in absurd (omega arith)
open_test false y e = (refl, e)

drops : (p : Place) (o : List ℕ) (b : ℕ) → full p (length o) ≡ true → pushed (sink p o) b ≡ sink p o
unfolding pushed full
drops p o b e =
    let t = open_test (ltb 0 p.skip) (leb (length o) p.at) e in
    rw (t.0, le-ltb p.at (length o) (leb-true _ _ t.1))

pub puts_full : (p : Place) (o text : List ℕ) → full p (length o) ≡ true → puts (sink p o) text ≡ sink p o
unfolding puts
puts_full p o [] e = refl
puts_full p o (b ∷ text) e = ap (λ (s : Sink). puts s text) (drops p o b e) ∙ puts_full p o text e

abbrev place : ℕ → ℕ → Place
place k n = record { skip = k; at = n }

-- from a place in the window on
written : (p q text : List ℕ) (n : ℕ) → n ≡ length p →
    puts (sink (place 0 n) (p ++ q)) text ≡ sink (place 0 (n + min (length text) (length q))) (p ++ (take (length q) text ++ drop (length text) q))
unfolding puts pushed
written p q [] n e = let m : n + min 0 (length q) ≡ n = omega arith in rw (m, take-nil)
written p [] (b ∷ t) n e =
    let l : length (p ++ []) ≤ n = omega (arith, length-append p []) in
    let m : n + min (length t) 0 ≡ n + min (suc (length t)) 0 = omega arith in
    rw (le-ltb n (length (p ++ [])) l) (written p [] t n e ∙ ap₂ (λ (k : ℕ) (o : List ℕ). sink (place 0 k) (p ++ o)) m (drop-nil (length t)))
written p (y ∷ q) (b ∷ t) n e =
    let l : n < length (p ++ (y ∷ q)) = omega (arith, length-append p (y ∷ q)) in
    let m : n + 1 ≡ length (p ++ (b ∷ [])) = omega (arith, length-append p (b ∷ [])) in
    let c : (n + 1) + min (length t) (length q) ≡ n + min (suc (length t)) (suc (length q)) = omega arith in
    let stored : set (p ++ (y ∷ q)) n b ≡ (p ++ (b ∷ [])) ++ q = ap (λ (k : ℕ). set (p ++ (y ∷ q)) k b) e ∙ set-append_seam p y q b ∙ sym (append_assoc p (b ∷ []) q) in
    rw (lt-ltb n (length (p ++ (y ∷ q))) l, stored)
    (written (p ++ (b ∷ [])) q t (n + 1) m ∙ ap₂ (λ (k : ℕ) (o : List ℕ). sink (place 0 k) o) c (append_assoc p (b ∷ []) (take (length q) t ++ drop (length t) q)))

-- the bytes that are passed over
module _ (n : ℕ) (o : List ℕ) where
  pass : (k b : ℕ) → pushed (sink (place (suc k) n) o) b ≡ sink (place k n) o
  unfolding pushed
  pass k b =
      let z : suc k - 1 ≡ k = omega arith in
      let h : 0 < suc k = omega arith in
      rw (lt-ltb 0 (suc k) h) (ap (λ (m : ℕ). sink (place m n) o) z)

  passed_at : (k : ℕ) (text : List ℕ) → (puts (sink (place k n) o) text).place.at ≡ (puts (sink (place 0 n) o) (drop k text)).place.at
  unfolding puts
  passed_at zero text = refl
  passed_at (suc k) [] = refl
  passed_at (suc k) (b ∷ text) = ap (λ (s : Sink). (puts s text).place.at) (pass k b) ∙ passed_at k text

  passed_out : (k : ℕ) (text : List ℕ) → (puts (sink (place k n) o) text).out ≡ (puts (sink (place 0 n) o) (drop k text)).out
  unfolding puts
  passed_out zero text = refl
  passed_out (suc k) [] = refl
  passed_out (suc k) (b ∷ text) = ap (λ (s : Sink). (puts s text).out) (pass k b) ∙ passed_out k text

abbrev zeros : ℕ → List ℕ
zeros n = replicate n 0

drop_replicate : (m n : ℕ) → drop m (zeros n) ≡ zeros (n - m)
drop_replicate zero n = let z : n ≡ n - 0 = omega arith in ap zeros z
drop_replicate (suc m) zero = let z : 0 ≡ 0 - suc m = omega arith in ap zeros z
drop_replicate (suc m) (suc n) = let z : n - m ≡ suc n - suc m = omega arith in drop_replicate m n ∙ ap zeros z

-- a window of zeros, written from the byte `from` of the text on
module _ (size from : ℕ) (text : List ℕ) where
  whole : puts (sink (place 0 0) (zeros size)) (drop from text) ≡ sink (place 0 (min size (length text - from))) (windowed size from text)
  unfolding windowed
  whole =
      let n : length (drop from text) ≡ length text - from = length-drop from text in
      let z : length (zeros size) ≡ size = length-replicate size 0 in
      let m : 0 + min (length (drop from text)) (length (zeros size)) ≡ min size (length text - from) = omega arith in
      written [] (zeros size) (drop from text) 0 refl
      ∙ ap₂ (λ (k : ℕ) (o : List ℕ). sink (place 0 k) o) m
      (ap₂ (λ (k : ℕ) (o : List ℕ). take k (drop from text) ++ o) z (ap (λ (k : ℕ). drop k (zeros size)) n ∙ drop_replicate (length text - from) size))

  shown : (r : Place) (x : List ℕ) → sink r x ≡ puts (sink (opening from) (zeros size)) text → Printed size from text r.at x
  shown r x e = (
    ap (λ (s : Sink). s.place.at) e ∙ passed_at 0 (zeros size) from text ∙ ap (λ (s : Sink). s.place.at) whole,
    ap (λ (s : Sink). s.out) e ∙ passed_out 0 (zeros size) from text ∙ ap (λ (s : Sink). s.out) whole,
  )

  -- an entry: the window cleared and opened, the text written, the bytes counted
  pub printed : (start : Place) (o : List ℕ) (r : Place) (x : List ℕ) (n : ℕ) →
      start ≡ opening from → o ≡ zeros size → sink r x ≡ puts (sink start o) text → n ≡ r.at → Printed size from text n x
  printed start o r x n p q e m =
      let w = shown r x (e ∙ ap₂ (λ (u : Place) (v : List ℕ). puts (sink u v) text) p q) in
      (m ∙ w.0, w.1)
