-- A job that was read stands in its tokens as specs/Twins/Standing.antt says.
use Prim.Native.Nat.{ℕ, ◌+◌}
use Prim.Native.String.{String}
use mathlib.Core.Path.{◌≡◌, refl}
use mathlib.Core.List.{List, ◌∷◌}
use native.Mathlib.Omega.{arith}
use native.Mathlib.Nat.{add_assoc}
use lib.ListN.{length}
use Rattle.language.specs.Tokens.{plain, of_job, Token}
use Rattle.language.specs.Reader.{ok, Reader}
use Rattle.language.specs.Source.{Stand, SExp, SJob}
use Rattle.language.specs.Grammar as grammar
use Rattle.language.specs.Grammar.{standing}
use Rattle.syntax.specs.Twins.Standing.{WordAt, NameAt, ExpAt, ExpsAt, SidesAt, NumeralAt, JobAt, job_at}
use Rattle.syntax.specs.Twins.Standing as at
use Rattle.syntax.proofs.Tracks.{token_at}
use Rattle.syntax.proofs.ReadParts.{Part, Given, given_as, Both, both, Either, left, right, Items, done, item, Wrong, never, Reads, give_reads, bind_reads, then_reads, wrong_reads, choose_reads, up_to_reads}
use Rattle.syntax.proofs.Standing.{Word, word, Standing, stand, Exp, the_reads, word_reads, datum_reads, items_at}

-- `(w ..)`
abbrev Section : {A : Type 0} → List Token → String → Part A → Part (ℕ × A)
Section ts w R = Both (Word ts "(") (λ o. Both (Word ts w) (λ t. Both R (λ a. Both (Word ts ")") (λ v. Given (t.at, a)))))

part_reads : {A : Type 0} {ts : List Token} {m : Reader A} {R : Part A} (w : String) → Reads ts m R → Reads ts (grammar.part w m) (Section ts w R)
part_reads w h = then_reads (the_reads "(") (bind_reads (the_reads w) (λ t. bind_reads h (λ a. then_reads (the_reads ")") (give_reads (t.at, a)))))

abbrev Sides : List Token → Part (SExp × SExp)
Sides ts = Both (Word ts "[") (λ w. Both (Exp ts of_job 61) (λ c. Both (Exp ts of_job 61) (λ d. Both (Word ts "]") (λ v. Given (c, d)))))

sides_reads : {ts : List Token} → Reads ts grammar.sides (Sides ts)
sides_reads = then_reads (the_reads "[") (bind_reads (datum_reads 61) (λ c. bind_reads (datum_reads 61) (λ d. then_reads (the_reads "]") (give_reads (c, d)))))

sides_at_lem : {ts : List Token} {i : ℕ} {qs : List (SExp × SExp)} {k : ℕ} → Items ts ")" (Sides ts) i qs k → SidesAt (token_at ts) (length ts) i qs k
sides_at_lem (done l e) = at.SidesAt.none_at (record { below = l; key = e })
sides_at_lem {ts = ts} {i = i} {k = k} (item {rest = rest} b (both w j (word o) (both c g x (both d h y (both v m (word z) gv)))) qs) =
    given_as (λ q j. SidesAt (token_at ts) (length ts) j rest k → SidesAt (token_at ts) (length ts) i (q ∷ rest) k) gv (λ r. at.SidesAt.more_at b o x y z r) (sides_at_lem qs)

abbrev Numeral : List Token → String → Part (ℕ × Stand)
Numeral ts w = Section ts w (Standing ts plain)

-- the whole
abbrev Job : List Token → Part SJob
Job ts = Both (Word ts "(") (λ u. Both (Word ts "job") (λ v. Both (Section ts "in" (Items ts ")" (Exp ts of_job 62))) (λ i. Both (Section ts "out" (Exp ts of_job 62)) (λ o.
    Both (Section ts "neq" (Items ts ")" (Sides ts))) (λ q. Both (Numeral ts "steps") (λ n. Both (Numeral ts "walk") (λ w. Both (Numeral ts "table") (λ t. Both (Word ts ")") (λ x.
    Either ts grammar.is_end (Given (record { in_at = i.0; ins = i.1; out = o.1; neqs = q.1; steps = n.1; walk = w.1; table = t.1 })) Wrong)))))))))

job_reads : {ts : List Token} → Reads ts grammar.job_text (Job ts)
unfolding grammar.job_text
job_reads = then_reads (the_reads "(") (then_reads (the_reads "job") (bind_reads (part_reads "in" (up_to_reads ")" refl (datum_reads 62))) (λ i. bind_reads (part_reads "out" (datum_reads 62)) (λ o.
    bind_reads (part_reads "neq" (up_to_reads ")" refl sides_reads)) (λ q. bind_reads (part_reads "steps" (word_reads plain)) (λ n. bind_reads (part_reads "walk" (word_reads plain)) (λ w.
    bind_reads (part_reads "table" (word_reads plain)) (λ t. then_reads (the_reads ")") (choose_reads grammar.is_end refl
    (give_reads (record { in_at = i.0; ins = i.1; out = o.1; neqs = q.1; steps = n.1; walk = w.1; table = t.1 })) wrong_reads)))))))))

-- a part of a text, and what stands behind it
section_split : {A B : Type 0} {ts : List Token} {w : String} {R : Part A} {S : ℕ × A → Part B} {i : ℕ} {b : B} {k : ℕ} (T : Type 0) → Both (Section ts w R) S i b k →
    ((m : ℕ) (a : A) → WordAt (token_at ts) (length ts) "(" i → WordAt (token_at ts) (length ts) w (i + 1) → R (i + 1 + 1) a m → WordAt (token_at ts) (length ts) ")" m →
    S ((token_at ts (i + 1)).at, a) (m + 1) b k → T) → T
section_split {S = S} {b = b} {k = k} T (both a j (both u p (word x) (both v q (word y) (both c m r (both w z (word o) g)))) s) f =
    given_as (λ a j. S a j b k → T) g (f m c x y r o) s

numeral_split : {B : Type 0} {ts : List Token} {w : String} {S : ℕ × Stand → Part B} {i : ℕ} {b : B} {k : ℕ} (T : Type 0) → Both (Numeral ts w) S i b k →
    (NumeralAt (token_at ts) (length ts) w i → S ((token_at ts (i + 1)).at, standing (token_at ts (i + 2))) (i + 4) b k → T) → T
numeral_split {S = S} {b = b} {k = k} T (both a j (both u p (word x) (both v q (word y) (both c m (stand r) (both w z (word o) g)))) s) f =
    given_as (λ a j. S a j b k → T) g (simp add_assoc (f (record { opens = x; word = y; numeral = simp add_assoc at r; closes = simp add_assoc at o }))) s

pub job_stands : (ts : List Token) (j : SJob) (rest : List Token) → grammar.job_text ts ≡ ok (j, rest) → JobAt (token_at ts) (length ts) j
job_stands ts j rest e = on (job_reads.reads 0 (omega arith) j rest e).stands
  where
    last : {j h : SJob} {i k : ℕ} → Both (Word ts ")") (λ x. Either ts grammar.is_end (Given h) Wrong) i j k → (WordAt (token_at ts) (length ts) ")" i → JobAt (token_at ts) (length ts) h) →
        JobAt (token_at ts) (length ts) j
    last (both u p (word x) (left l e g)) f = given_as (λ j k. JobAt (token_at ts) (length ts) j) g (f x)
    last (both u p (word x) (right e z)) f = never (λ i j k. JobAt (token_at ts) (length ts) j) _ _ _ z

    on : {j : SJob} {k : ℕ} → Job ts 0 j k → JobAt (token_at ts) (length ts) j
    on {j} {k} (both _ _ (word a) (both _ _ (word b) r)) =
        let T = JobAt (token_at ts) (length ts) j in
        section_split T r (λ m ins c d xs e r. section_split T r (λ m' out f g y h r. section_split T r (λ m'' neqs i o qs p r.
        numeral_split T r (λ steps r. numeral_split T r (λ walk r. numeral_split T r (λ table r. last r (λ x. simp add_assoc (job_at a b c d (items_at xs) f (simp add_assoc at g) (simp add_assoc at y) h
        i (simp add_assoc at o) (simp add_assoc at (sides_at_lem qs)) steps (simp add_assoc at walk) (simp add_assoc at table) (simp add_assoc at x)))))))))
