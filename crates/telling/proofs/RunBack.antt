-- The answer of `run` that was told is the one that its numbers give back.
use Prim.Native.Nat.{ℕ, ◌≤◌}
use mathlib.Core.Path.{◌≡◌, refl, ap, ◌∙◌}
use mathlib.Core.Bool.{Bool, cond}
use Rattle.std.specs.Prelude.{Ok, Err}
use mathlib.Core.List.{List}
use native.Mathlib.Omega.{arith}
use lib.ListN.{length, get_or}
use borrow.Author.Tests.{ne_eqb}
use Rattle.telling.specs.Numbers.{padded, said_after}
use Rattle.refusals.specs.declared.refusal.Refused.TheVariants.{Program, Job, Short}
use Rattle.run_answers.specs.RunNumbers.{Answer, number_of, said_of, answer_from, Numbered}
use Rattle.run_answers.specs.declared.run.Ran.TheVariants.{Value, Over, NotWithin}
use Rattle.telling.proofs.NumberLaws.{padded_at}

-- only the first four numbers are looked at
from_alike : (n : ℕ) (s t : List ℕ) → get_or s 0 0 ≡ get_or t 0 0 → get_or s 1 0 ≡ get_or t 1 0 → get_or s 2 0 ≡ get_or t 2 0 → get_or s 3 0 ≡ get_or t 3 0 → answer_from n s ≡ answer_from n t
from_alike n s t a b c d = rw (a, b, c, d) refl

padded_back : (n : ℕ) (v s : List ℕ) → 4 ≤ length s → answer_from n (padded v (length s)) ≡ answer_from n v
padded_back n v s h =
    from_alike n (padded v (length s)) v (padded_at v (length s) 0 (omega (arith, h))) (padded_at v (length s) 1 (omega (arith, h))) (padded_at v (length s) 2 (omega (arith, h))) (padded_at v (length s) 3 (omega (arith, h)))

pub run_back : (a : Answer) (s : List ℕ) → Numbered a → 4 ≤ length s → answer_from (number_of a) (said_after (number_of a) (said_of a) s) ≡ a
run_back (Ok (Value k n)) s m h =
    let e = ne_eqb n 0 (λ i. omega (arith, i, m)) in
    padded_back 0 (said_of (Ok (Value k n))) s h ∙ rw (e) refl
run_back (Ok Over) s m h = padded_back 21 (said_of (Ok Over)) s h
run_back (Ok NotWithin) s m h = padded_back 0 (said_of (Ok NotWithin)) s h
run_back (Err (Program r)) s m h =
    let e = ne_eqb r.number 20 (λ i. omega (arith, i, m.1)) in
    ap (λ (b : Bool). answer_from r.number (cond b s (padded (said_of (Err (Program r))) (length s)))) e ∙ padded_back r.number (said_of (Err (Program r))) s h ∙ rw (e) refl
run_back (Err (Job r)) s m h =
    let e = ne_eqb r.number 20 (λ i. omega (arith, i, m.1)) in
    ap (λ (b : Bool). answer_from r.number (cond b s (padded (said_of (Err (Job r))) (length s)))) e ∙ padded_back r.number (said_of (Err (Job r))) s h ∙ rw (e) refl
run_back (Err Short) s m h = refl
