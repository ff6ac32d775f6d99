-- The answer of `list` that was told is the one that its numbers give back.
use Prim.Native.Nat.{ℕ, ◌≤◌}
use mathlib.Core.Path.{◌≡◌, refl, ap, ◌∙◌}
use mathlib.Core.Bool.{Bool, cond}
use Rattle.std.specs.Prelude.{Ok, Err}
use mathlib.Core.List.{List, ◌++◌}
use native.Mathlib.Omega.{arith}
use lib.ListN.{length, get_or}
use borrow.Author.Tests.{ne_eqb}
use Rattle.telling.specs.Numbers.{padded, said_after}
use Rattle.refusals.specs.declared.refusal.Refused.TheVariants.{Program, Job, Short}
use Rattle.answers.specs.ListNumbers.{Answer, word_number, number_of, said_of, answer_from, Numbered}
use Rattle.answers.specs.declared.list.Word.{Word}
use Rattle.answers.specs.declared.list.Word.TheVariants.{Whole, Cut, Stop21, Stop22, Stop23}
use Rattle.telling.proofs.NumberLaws.{padded_at}

-- only the first five numbers are looked at
from_alike : (n : ℕ) (s t : List ℕ) → get_or s 0 0 ≡ get_or t 0 0 → get_or s 1 0 ≡ get_or t 1 0 → get_or s 2 0 ≡ get_or t 2 0 → get_or s 3 0 ≡ get_or t 3 0 → get_or s 4 0 ≡ get_or t 4 0 → answer_from n s ≡ answer_from n t
from_alike n s t a b c d e = rw (a, b, c, d, e) refl

padded_back : (n : ℕ) (v s : List ℕ) → 5 ≤ length s → answer_from n (padded v (length s)) ≡ answer_from n v
padded_back n v s h =
    from_alike n (padded v (length s)) v (padded_at v (length s) 0 (omega (arith, h))) (padded_at v (length s) 1 (omega (arith, h))) (padded_at v (length s) 2 (omega (arith, h))) (padded_at v (length s) 3 (omega (arith, h))) (padded_at v (length s) 4 (omega (arith, h)))

abbrev told : ℕ → List ℕ → List ℕ → Answer → Answer
told n rest s a = answer_from n (said_after n (said_of a ++ rest) s)

abbrev of_word : Word → ℕ → ℕ → Answer
of_word w l c = Ok (record { word = w; lines = l; count = c })

listed_back : (w : Word) (l c : ℕ) (rest s : List ℕ) → 5 ≤ length s → told (word_number w) rest s (of_word w l c) ≡ of_word w l c
listed_back Whole l c rest s h = padded_back 0 (said_of (of_word Whole l c) ++ rest) s h
listed_back Cut l c rest s h = padded_back 0 (said_of (of_word Cut l c) ++ rest) s h
listed_back Stop21 l c rest s h = padded_back 21 (said_of (of_word Stop21 l c) ++ rest) s h
listed_back Stop22 l c rest s h = padded_back 22 (said_of (of_word Stop22 l c) ++ rest) s h
listed_back Stop23 l c rest s h = padded_back 23 (said_of (of_word Stop23 l c) ++ rest) s h

-- whatever stands behind the answer's own numbers
pub list_back : (a : Answer) (rest s : List ℕ) → Numbered a → 5 ≤ length s → answer_from (number_of a) (said_after (number_of a) (said_of a ++ rest) s) ≡ a
list_back (Ok a) rest s m h = listed_back a.word a.lines a.count rest s h
list_back (Err (Program r)) rest s m h =
    let e = ne_eqb r.number 20 (λ i. omega (arith, i, m.1)) in
    ap (λ (b : Bool). answer_from r.number (cond b s (padded (said_of (Err (Program r)) ++ rest) (length s)))) e ∙ padded_back r.number (said_of (Err (Program r)) ++ rest) s h ∙ rw (e) refl
list_back (Err (Job r)) rest s m h =
    let e = ne_eqb r.number 20 (λ i. omega (arith, i, m.1)) in
    ap (λ (b : Bool). answer_from r.number (cond b s (padded (said_of (Err (Job r)) ++ rest) (length s)))) e ∙ padded_back r.number (said_of (Err (Job r)) ++ rest) s h ∙ rw (e) refl
list_back (Err Short) rest s m h = refl
