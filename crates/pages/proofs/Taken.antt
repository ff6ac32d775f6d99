-- What a writer took, part after part and page after page.
use Rattle.std.proofs.Common.{◌≡◌, ℕ, ◌+◌, ◌-◌, ◌*◌, ◌≤◌, min, List, length, take, drop, replicate, sym, ap, ◌∙◌, subst, arith, length-drop}
use Rattle.std.proofs.lemmas.List.{take_rest}
use Rattle.std.proofs.KnownBytes.{Appends-trans}
use Rattle.std.specs.Io.KnownBytes.{Appends}
use Rattle.std.specs.declared.option.Option.{Option}
use lib.Seq.{take-add, take-append-le, take-take}
use lib.ListN.{length-take}
use Rattle.window.specs.Windows.{windowed}

-- behind the first bytes of a text, n more of what is left
pub taken_on : (a b c : Option (List ℕ)) (done n : ℕ) (xs : List ℕ) → Appends a b (take done xs) → Appends b c (take n (drop done xs)) → Appends a c (take (done + n) xs)
taken_on a b c done n xs p q = subst (Appends a c) (sym (take-add done n xs)) (Appends-trans a b c _ _ p q)

-- the same where what is left is lent as a slice
pub taken_rest : (a b c : Option (List ℕ)) (done n : ℕ) (xs : List ℕ) → Appends a b (take done xs) → Appends b c (take n (take (length xs - done) (drop done xs)))
    → Appends a c (take (done + n) xs)
taken_rest a b c done n xs p q = taken_on a b c done n xs p (subst (λ ys. Appends b c (take n ys)) (take_rest xs done) q)

-- the front of a page is the front of what is left of its text
page_front : (from r : ℕ) (text x : List ℕ) → x ≡ windowed 65536 from text → r ≤ min 65536 (length text - from) → take r x ≡ take r (drop from text)
unfolding windowed
page_front from r text x e h =
    let left = drop from text in
    let within : r ≤ length (take 65536 left) = omega (arith, h, length-take 65536 left, length-drop from text) in
    let small : r ≤ 65536 = omega (arith, h) in
    ap (take r) e ∙ take-append-le r (take 65536 left) (replicate (65536 - (length text - from)) 0) within ∙ take-take r 65536 left small

-- behind the full pages before it, which have m bytes, r bytes of page k
pub page_on : (a b c : Option (List ℕ)) (k m r n : ℕ) (text x : List ℕ) → m ≡ k * 65536 → x ≡ windowed 65536 (k * 65536) text → r ≤ n → n ≡ min 65536 (length text - k * 65536)
    → Appends a b (take (k * 65536) text) → Appends b c (take r x) → Appends a c (take (m + r) text)
page_on a b c k m r n text x f e h l p q =
    let front = page_front (k * 65536) r text x e (subst (λ z. r ≤ z) l h) in
    subst (λ z. Appends a c (take (z + r) text)) (sym f) (taken_on a b c (k * 65536) r text p (subst (Appends b c) front q))

-- the same of a full page, all of which was taken
pub page_over : (a b c : Option (List ℕ)) (k m r n : ℕ) (text x : List ℕ) → m ≡ k * 65536 → x ≡ windowed 65536 (k * 65536) text → r ≤ n → n ≤ r → 65536 ≤ n
    → n ≡ min 65536 (length text - k * 65536) → Appends a b (take (k * 65536) text) → Appends b c (take r x) → Appends a c (take ((k + 1) * 65536) text)
page_over a b c k m r n text x f e h o full l p q =
    let most : m + r ≡ (k + 1) * 65536 = omega (arith, f, h, o, full, l) in
    subst (λ z. Appends a c (take z text)) most (page_on a b c k m r n text x f e h l p q)

-- the first page of a text, which is all that is taken of it
pub page_alone : (a b : Option (List ℕ)) (r n : ℕ) (text x : List ℕ) → x ≡ windowed 65536 0 text → r ≤ n → n ≡ min 65536 (length text - 0) → Appends a b (take r x) → Appends a b (take r text)
page_alone a b r n text x e h l q = subst (Appends a b) (page_front 0 r text x e (subst (λ z. r ≤ z) l h)) q

-- what was taken of a text, by the answer and the cells that it is printed from
pub taken_of : {A : Type 0} (text : List ℕ → A → List ℕ) {x y : A} {d e : List ℕ} (a b : Option (List ℕ)) (n : ℕ) → x ≡ y → d ≡ e
    → Appends a b (take n (text d x)) → Appends a b (take n (text e y))
taken_of {A} text {x} {y} {d} {e} a b n f h p =
    subst (λ (z : A). Appends a b (take n (text e z))) f (subst (λ (z : List ℕ). Appends a b (take n (text z x))) h p)

-- the first page of a text, by the answer and the cells that it is printed from
pub first_shown : {A : Type 0} (text : List ℕ → A → List ℕ) {x y : A} {d e p : List ℕ} → x ≡ y → d ≡ e → p ≡ windowed 65536 0 (text e y) → p ≡ windowed 65536 0 (text d x)
first_shown {A} text {x} {y} {d} {e} f h w =
    w ∙ ap (λ (z : A). windowed 65536 0 (text e z)) (sym f) ∙ ap (λ (z : List ℕ). windowed 65536 0 (text z x)) (sym h)
