-- How much of a text was taken, and how much its first page has, by the answer and the cells that it is printed from.
use Prim.Native.Nat.{ℕ, ◌<◌, min}
use mathlib.Core.Path.{◌≡◌, ◌∙◌, ap, subst, sym}
use mathlib.Core.List.{List}
use lib.ListN.{length}

-- as many bytes as a text has where it ended well, by the answer and the cells that it is printed from
pub taken_text : {A : Type 0} (text : List ℕ → A → List ℕ) {a b : A} {c d : List ℕ} {Ended : Type 0} {n : ℕ} → a ≡ b → c ≡ d → (Ended → n ≡ length (text c a)) → Ended → n ≡ length (text d b)
taken_text {A} text {a} {b} {c} {d} e f h g = h g ∙ ap (λ (x : A). length (text c x)) e ∙ ap (λ (x : List ℕ). length (text x b)) f

-- what follows where fewer bytes were taken than a text has
pub why_text : {A : Type 0} (text : List ℕ → A → List ℕ) {a b : A} {c d : List ℕ} {Why : Type 0} {n : ℕ} → a ≡ b → c ≡ d → (n < length (text c a) → Why) → n < length (text d b) → Why
why_text {A} text {a} {b} {c} {d} {n = n} e f h l =
    h (subst (λ (k : ℕ). n < k) (ap (λ (x : List ℕ). length (text x b)) (sym f) ∙ ap (λ (x : A). length (text c x)) (sym e)) l)

-- the first page of a text, by the answer and the cells that it is printed from
pub first_bytes : {A : Type 0} (text : List ℕ → A → List ℕ) {a b : A} {c d : List ℕ} {n : ℕ} → a ≡ b → c ≡ d → n ≡ min 65536 (length (text d b)) → n ≡ min 65536 (length (text c a))
first_bytes {A} text {a} {b} {c} {d} e f h =
    h ∙ ap (λ (x : List ℕ). min 65536 (length (text x b))) (sym f) ∙ ap (λ (x : A). min 65536 (length (text c x))) (sym e)
