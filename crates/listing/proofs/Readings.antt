-- Readings of docs/DECISIONS.md whose texts are accepted, and those about 13, each by texts that tell it from another reading, from bytes to
-- bytes.
use Prim.Native.Nat.{ℕ, zero, suc}
use Prim.Native.String.{String}
use mathlib.Core.Path.{◌≡◌, refl}
use mathlib.Core.List.{List, [], ◌∷◌, ◌++◌, map}
use Rattle.language.specs.Bytes.{txt}
use Rattle.listing.specs.Text.{list_text, run_text}

-- a text that stands k times
abbrev times : ℕ → String → List ℕ
times zero s = []
times (suc k) s = txt s ++ times k s

-- a tree of 2 ^ k leaves
abbrev tree : ℕ → List ℕ
tree zero = txt "'K"
tree (suc k) = txt "(cons " ++ tree k ++ txt " " ++ tree k ++ txt ")"

abbrev any_program : List ℕ
any_program = txt "(define f [e.x] e.x)"

abbrev any_job : List ℕ
any_job = txt "(job (in) (out 'A) (neq) (steps 9) (walk 9) (table 9))"

-- the reading's number, the two texts, and what is printed
record Reading : Type 0 where
  number : ℕ
  program : List ℕ
  job : List ℕ
  printed : String

abbrev reading : ℕ → List ℕ → List ℕ → String → Reading
reading n p j s = record { number = n; program = p; job = j; printed = s }

abbrev listings : List Reading
listings =
    reading 8 (txt "(define 12 [] 'A)")
    any_job "whole 1 1\n1 1\n" ∷
    reading 9 (txt "(define 12345678 [] 'A)")
    any_job "whole 1 1\n1 1\n" ∷
    reading 10 (txt "(define call [] (call call []))")
    any_job "cut 0 9\n" ∷
    reading 15 (txt "(define f [] '" ++ times 16 "A" ++ txt ")")
    any_job "whole 0 1\n" ∷
    reading 38 (txt "(define f [e.x] (if (cons? e.x e.h e.t a.h) 'A 'A))")
    (txt "(job (in 'B) (out 'A) (neq) (steps 9) (walk 9) (table 9))") "whole 1 2\n1 2\n" ∷
    reading 39 (txt "(define f [e.x a.x] 'A)")
    (txt "(job (in 'B 'B) (out 'A) (neq) (steps 9) (walk 9) (table 9))") "whole 1 1\n1 1\n" ∷
    reading 48 (txt "(define f [e.x e.y] (cons e.x e.y))")
    (txt "(job (in ?e1 ?a1) (out (cons 'A 'B)) (neq) (steps 9) (walk 9) (table 9))") "whole 1 1\n1 1 ?e1='A ?a1='B\n" ∷
    reading 50 any_program
    (txt "(job (in ?a1) (out 'A) (neq) (steps 9) (walk 9) (table 9))") "whole 1 1\n1 1 ?a1='A\n" ∷
    reading 62 (txt "(define f [e.x e.n] (if (cons? e.n e.h e.m a.p) (call f [(cons e.x e.x) e.m]) (if (cons? (cons e.x e.x) e.h e.t a.q) 'A 'B)))")
    (txt "(job (in 'A " ++ times 10 "(cons 'I " ++ txt "'O" ++ times 10 ")" ++ txt ") (out 'A) (neq) (steps 99) (walk 99) (table 9))") "stop21 0 23\n" ∷
    reading 63 (txt "(define m [] (call f ['A]))(define f [e.x] (call f [(cons e.x e.x)]))")
    (txt "(job (in) (out 'A) (neq) (steps 99) (walk 99) (table 9))") "stop21 0 14\n" ∷
    reading 64 (txt "(define m [] (call f ['A]))(define f [e.x] (call f [(cons e.x e.x)]))")
    (txt "(job (in) (out 'A) (neq) (steps 99) (walk 13) (table 9))") "stop23 0 13\n" ∷
    reading 65 any_program
    (txt "(job (in 'A) (out 'A) (neq) (steps 1) (walk 1) (table 9))") "whole 1 1\n1 1\n" ∷
    reading 66 any_program
    (txt "(job (in 'A) (out 'A) (neq ['B 'B]) (steps 0) (walk 0) (table 0))") "whole 0 0\n" ∷
    reading 67 (txt "(define f [e.x] (if (cons? e.x e.h e.t a.p) 'A 'A))")
    (txt "(job (in ?e1) (out 'A) (neq) (steps 9) (walk 9) (table 1))") "stop22 1 3\n1 2 ?e1=(cons ?e2 ?e3)\n" ∷
    reading 68 (txt "(define f [a.x] (if (eqa? 'B a.x) 'A 'C))")
    (txt "(job (in ?a1) (out 'C) (neq) (steps 9) (walk 9) (table 9))") "whole 1 3\n1 2 # 'B ?a1\n" ∷
    reading 69 (txt "(define f [a.x a.y] (if (eqa? a.y a.x) 'A 'C))")
    (txt "(job (in ?a1 ?a2) (out 'C) (neq [?a1 ?a2]) (steps 9) (walk 9) (table 9))") "whole 1 2\n1 2 # ?a1 ?a2\n" ∷
    reading 70 (txt "(define f [a.x a.y a.z] (if (eqa? a.x a.y) 'A 'C))")
    (txt "(job (in ?a1 ?a2 ?a3) (out 'A) (neq [?a1 ?a3] ['B ?a3] [?a2 ?a3]) (steps 9) (walk 9) (table 9))") "whole 1 3\n1 2 ?a1=?a2 # ?a2 ?a3 # 'B ?a3\n" ∷
    reading 71 (txt "(define f [a.x] 'A)")
    (txt "(job (in ?a1) (out 'A) (neq ['B 'C] [?a1 'B] ['B ?a1]) (steps 9) (walk 9) (table 9))") "whole 1 1\n1 1 # ?a1 'B\n" ∷
    reading 72 (txt "(define f [e.x] (if (cons? e.x e.h e.t a.p) 'A 'B))")
    (txt "(job (in ?e1) (out ?e7) (neq) (steps 9) (walk 9) (table 9))") "whole 2 3\n1 2 ?e1=(cons ?e8 ?e9) ?e7='A\n2 2 ?e1=?a10 ?e7='B\n" ∷
    reading 73 (txt "(define f [e.x] (if (cons? 'A e.h e.t a.p) 'B (if (cons? e.x e.h e.t a.q) 'A 'B)))")
    (txt "(job (in ?e1) (out 'A) (neq) (steps 9) (walk 9) (table 9))") "whole 1 4\n1 3 ?e1=(cons ?e2 ?e3)\n" ∷
    reading 74 (txt "(define m [] (call f [(cons 'A 'A) 'A]))(define f [e.y e.x] (call f [e.y (cons e.x e.x)]))")
    (txt "(job (in) (out 'A) (neq) (steps 99) (walk 99) (table 9))") "stop21 0 13\n" ∷
    reading 75 (txt "(define f [e.x e.n] (if (cons? e.n e.h e.m a.p) (call f [(cons e.x e.x) e.m]) e.x))")
    (txt "(job (in 'A " ++ times 10 "(cons 'I " ++ txt "'O" ++ times 10 ")" ++ txt ") (out ?e1) (neq) (steps 99) (walk 99) (table 9))") "stop21 0 22\n" ∷
    reading 76 (txt "(define f [e.x e.n] (if (cons? e.n e.h e.m a.p) (call f [(cons e.x e.x) e.m]) (cons e.x 'B)))")
    (txt "(job (in 'A " ++ times 10 "(cons 'I " ++ txt "'O" ++ times 10 ")" ++ txt ") (out (cons ?e1 'A)) (neq) (steps 99) (walk 99) (table 9))") "stop21 0 22\n" ∷
    reading 78 (txt "(define f [a.z e.x e.n] (if (cons? e.n e.h e.m a.p) (call f [a.z (cons e.x e.x) e.m]) (call g [a.z e.x])))" ++
    txt "(define g [a.z e.x] (if (eqa? a.z 'Z1) e.x (if (eqa? a.z 'Z2) e.x (if (eqa? a.z 'Z3) e.x (if (eqa? a.z 'Z4) e.x (if (eqa? a.z 'Z5) e.x (if (eqa? a.z 'Z6) e.x (if (eqa? a.z 'Z7) e.x (if (eqa? a.z 'Z8) e.x (if (eqa? a.z 'Z9) e.x e.x" ++ times 9 ")" ++ txt ")")
    (txt "(job (in ?a1 'K " ++ times 9 "(cons 'N " ++ txt "'N" ++ times 9 ")" ++ txt ") (out " ++ tree 9 ++ txt ") (neq) (steps 99) (walk 99) (table 99))")
    "whole 10 39\n1 22 ?a1='Z1\n2 23 ?a1='Z2\n3 24 ?a1='Z3\n4 25 ?a1='Z4\n5 26 ?a1='Z5\n6 27 ?a1='Z6\n7 28 ?a1='Z7\n8 29 ?a1='Z8\n9 30 ?a1='Z9\n10 30 # ?a1 'Z1 # ?a1 'Z2 # ?a1 'Z3 # ?a1 'Z4 # ?a1 'Z5 # ?a1 'Z6 # ?a1 'Z7 # ?a1 'Z8 # ?a1 'Z9\n" ∷
    reading 79 (txt "(define f [e.x e.y] (cons e.y e.x))")
    (txt "(job (in ?e1 ?e2) (out (cons 'B 'A)) (neq) (steps 9) (walk 9) (table 9))") "whole 1 1\n1 1 ?e1='A ?e2='B\n" ∷
    reading 80 (txt "(define f [e.x] (cons e.x 'K))")
    (txt "(job (in ?e1) (out ?e1) (neq) (steps 1) (walk 1) (table 1))") "whole 0 1\n" ∷
    reading 81 any_program
    (txt "(job (in 'A) (out 'B) (neq) (steps 1) (walk 9) (table 9))") "whole 0 1\n" ∷
    reading 82 (txt "(define f [a.x] (if (eqa? a.x 'A) 'B 'C))")
    (txt "(job (in ?a1) (out 'C) (neq [?a1 'A]) (steps 9) (walk 2) (table 9))") "whole 1 2\n1 2 # ?a1 'A\n" ∷
    reading 84 (txt "(define m [] (call f ['A]))(define f [e.x] (call f [(cons e.x e.x)]))")
    (txt "(job (in) (out 'A) (neq) (steps 14) (walk 99) (table 9))") "stop21 0 14\n" ∷
    reading 88 (txt "(define m [] (call f ['A]))(define f [e.x] (call g [(cons e.x e.x)]))(define g [e.x] (call f [(cons e.x e.x)]))")
    (txt "(job (in) (out 'A) (neq) (steps 13) (walk 99) (table 9))") "cut 0 13\n" ∷
    reading 89 (txt "(define f [e.x] (if (cons? e.x e.h e.t a.p) 'A 'B))")
    (txt "(job (in ?e1) (out 'A) (neq) (steps 9) (walk 9) (table 1))") "whole 1 3\n1 2 ?e1=(cons ?e2 ?e3)\n" ∷
    []

-- 02, request 1: a name bound twice in reach
abbrev rebound : List Reading
rebound =
    reading 1 (txt "(define f [e.x a.h] (if (cons? e.x e.h e.t a.p) 'A 'B))")
    (txt "(job (in 'A 'A) (out 'B) (neq) (steps 9) (walk 9) (table 9))") "whole 1 2\n1 2\n" ∷
    reading 2 (txt "(define f [e.x a.p] (if (cons? e.x e.h e.t a.p) 'A 'B))")
    (txt "(job (in 'A 'A) (out 'B) (neq) (steps 9) (walk 9) (table 9))") "refused p 13 43\n" ∷
    reading 3 (txt "(define f [e.x] (if (cons? e.x e.h e.t a.p) (if (cons? e.h e.u e.v a.p) 'A 'B) 'C))")
    (txt "(job (in (cons 'A 'A)) (out 'B) (neq) (steps 9) (walk 9) (table 9))") "whole 1 3\n1 3\n" ∷
    reading 4 (txt "(define f [e.x] (if (cons? e.x e.x e.t a.p) 'A 'B))")
    (txt "(job (in 'A) (out 'A) (neq) (steps 9) (walk 9) (table 9))") "refused p 13 31\n" ∷
    reading 5 (txt "(define f [e.x] e.q)(define g [e.x] (if (cons? e.x e.x e.t a.p) 'A 'B))")
    (txt "(job (in 'A) (out 'A) (neq) (steps 9) (walk 9) (table 9))") "refused p 13 51\n" ∷
    reading 6 (txt "(define f [e.x] (if (cons? e.x e.x e.x a.p) 'A 'B))")
    (txt "(job (in 'A) (out 'A) (neq) (steps 9) (walk 9) (table 9))") "refused p 6 35\n" ∷
    reading 7 (txt "(define f [e.x] e.x)(define g [e.x] (if (cons? e.x e.x e.t a.p) 'A 'B))")
    (txt "(job (in 'A) (out 'A) (neq) (steps 9) (walk 9) (table 9))") "refused p 13 51\n" ∷
    reading 8 (txt "(define f [e.x] (if (cons? e.x e.h e.t a.p) (if (cons? e.h e.h e.u a.q) 'A 'B) (if (cons? e.x e.x e.t a.q) 'A 'B)))")
    (txt "(job (in 'A) (out 'A) (neq) (steps 9) (walk 9) (table 9))") "refused p 13 59\n" ∷
    []

abbrev runs : List Reading
runs =
    reading 58 (txt "(define f [e.x e.n] (if (cons? e.n e.h e.m a.p) (call f [(cons e.x e.x) e.m]) (if (cons? (cons e.x e.x) e.h e.t a.q) 'A 'B)))")
    (txt "(job (in 'A " ++ times 10 "(cons 'I " ++ txt "'O" ++ times 10 ")" ++ txt ") (out 'A) (neq) (steps 99) (walk 99) (table 9))") "value 23 'A\n" ∷
    reading 59 (txt "(define m [e.z] (call f [e.z e.z]))(define f [e.x e.y] (call f [(cons e.x e.x) e.y]))")
    (txt "(job (in 'A) (out 'A) (neq) (steps 13) (walk 9) (table 9))") "stop21\n" ∷
    reading 60 any_program
    (txt "(job (in 'A) (out 'A) (neq ['B 'B]) (steps 9) (walk 0) (table 0))") "value 1 'A\n" ∷
    reading 61 any_program
    (txt "(job (in 'A) (out 'A) (neq) (steps 0) (walk 9) (table 9))") "notwithin\n" ∷
    []

computed : (List ℕ → List ℕ → List ℕ) → List Reading → List (List ℕ)
computed f rs = map (λ r. f r.program r.job) rs

stated : List Reading → List (List ℕ)
stated rs = map (λ r. txt r.printed) rs

listings_read : computed list_text (listings ++ rebound) ≡ stated (listings ++ rebound)
unfolding computed stated list_text
listings_read = refl

runs_read : computed run_text runs ≡ stated runs
unfolding computed stated run_text
runs_read = refl
