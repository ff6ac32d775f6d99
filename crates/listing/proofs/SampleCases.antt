-- Listings with samples (02, request 2), from the bytes of the texts to the bytes that are printed: the cases of 01, and the readings of
-- docs/DECISIONS.md, each by a text that tells it from another reading.
use Prim.Native.Nat.{ℕ}
use Prim.Native.String.{String}
use mathlib.Core.Path.{◌≡◌, refl}
use mathlib.Core.List.{List, [], ◌∷◌, map}
use Rattle.language.specs.Bytes.{txt}
use Rattle.listing.specs.Text.{sampled_text}

abbrev same : String
same = "(define same [e.x e.y] (if (cons? e.x e.h e.t a.p) 'No (if (cons? e.y e.h e.t a.q) 'No (if (eqa? a.p a.q) 'Yes 'No))))"

abbrev dub : String
dub = "(define dub [e.x] (cons e.x 'K))"

abbrev identity : String
identity = "(define f [e.x] e.x)"

abbrev split : String
split = "(define f [e.x] (if (cons? e.x e.h e.t a.p) 'A 'A))"

-- a program, a job and what is printed
record Case : Type 0 where
  program : String
  job : String
  printed : String

abbrev case : String → String → String → Case
case p j o = record { program = p; job = j; printed = o }

abbrev cases : List Case
cases =
    -- P1 to P9 of 01, with samples
    case same
    "(job (in ?e1 ?e2) (out 'No) (neq) (steps 4) (walk 7) (table 3))"
    "whole 3 7\n1 2 ?e1=(cons ?e3 ?e4)\n(in (cons 'Q1 'Q2) 'Q3) (out 'No)\n2 3 ?e1=?a5 ?e2=(cons ?e6 ?e7)\n(in 'Q1 (cons 'Q2 'Q3)) (out 'No)\n3 4 ?e1=?a5 ?e2=?a8 # ?a5 ?a8\n(in 'Q1 'Q2) (out 'No)\n" ∷
    case same
    "(job (in ?e1 ?e2) (out 'Yes) (neq) (steps 4) (walk 7) (table 3))"
    "whole 1 7\n1 4 ?e1=?a8 ?e2=?a8\n(in 'Q1 'Q1) (out 'Yes)\n" ∷
    case same
    "(job (in ?e1 ?e2) (out 'No) (neq) (steps 0) (walk 7) (table 3))"
    "cut 0 0\n" ∷
    case same
    "(job (in ?e1 ?e2) (out 'No) (neq) (steps 4) (walk 6) (table 3))"
    "stop23 2 6\n1 2 ?e1=(cons ?e3 ?e4)\n(in (cons 'Q1 'Q2) 'Q3) (out 'No)\n2 3 ?e1=?a5 ?e2=(cons ?e6 ?e7)\n(in 'Q1 (cons 'Q2 'Q3)) (out 'No)\n" ∷
    case same
    "(job (in ?e1 ?e2) (out 'No) (neq) (steps 4) (walk 7) (table 2))"
    "stop22 2 7\n1 2 ?e1=(cons ?e3 ?e4)\n(in (cons 'Q1 'Q2) 'Q3) (out 'No)\n2 3 ?e1=?a5 ?e2=(cons ?e6 ?e7)\n(in 'Q1 (cons 'Q2 'Q3)) (out 'No)\n" ∷
    case same
    "(job (in ?e1 ?e1) (out 'Yes) (neq) (steps 4) (walk 7) (table 3))"
    "whole 1 5\n1 4 ?e1=?a4\n(in 'Q1 'Q1) (out 'Yes)\n" ∷
    case dub
    "(job (in ?e1) (out ?e1) (neq) (steps 1) (walk 1) (table 1))"
    "whole 0 1\n" ∷
    case dub
    "(job (in ?e1) (out ?e2) (neq) (steps 1) (walk 1) (table 1))"
    "whole 1 1\n1 1 ?e2=(cons ?e1 'K)\n(in 'Q1) (out (cons 'Q1 'K))\n" ∷
    -- an atom prints with its quote, as a d
    case identity
    "(job (in ?e1) (out ?e2) (neq) (steps 9) (walk 9) (table 9))"
    "whole 1 1\n1 1 ?e2=?e1\n(in 'Q1) (out 'Q1)\n" ∷
    -- numbers begin anew for each line
    case split
    "(job (in ?e1) (out 'A) (neq) (steps 9) (walk 9) (table 9))"
    "whole 2 3\n1 2 ?e1=(cons ?e2 ?e3)\n(in (cons 'Q1 'Q2)) (out 'A)\n2 2 ?e1=?a4\n(in 'Q1) (out 'A)\n" ∷
    -- "leaving out symbols of program or job": a number whose name is a symbol is passed over
    case "(define f [e.x e.y] 'Q1)"
    "(job (in ?e1 ?e2) (out 'Q1) (neq) (steps 9) (walk 9) (table 9))"
    "whole 1 1\n1 1\n(in 'Q2 'Q3) (out 'Q1)\n" ∷
    -- symbols of a definition that nobody calls, and of a non-equality that is dropped
    case "(define f [e.x] 'A)(define g [] 'Q1)"
    "(job (in ?e1) (out 'A) (neq ['Q2 'B]) (steps 9) (walk 9) (table 9))"
    "whole 1 1\n1 1\n(in 'Q3) (out 'A)\n" ∷
    -- `'Q01` is no Q and number
    case "(define f [e.x] 'Q01)"
    "(job (in ?e1) (out 'Q01) (neq) (steps 9) (walk 9) (table 9))"
    "whole 1 1\n1 1\n(in 'Q1) (out 'Q01)\n" ∷
    -- "one blank between parts": without inputs `(in)`
    case "(define f [] 'A)"
    "(job (in) (out 'A) (neq) (steps 9) (walk 9) (table 9))"
    "whole 1 1\n1 1\n(in) (out 'A)\n" ∷
    -- by first standing, not by the variable's number
    case "(define f [e.x e.y] 'A)"
    "(job (in ?e7 ?e2) (out 'A) (neq) (steps 9) (walk 9) (table 9))"
    "whole 1 1\n1 1\n(in 'Q1 'Q2) (out 'A)\n" ∷
    -- lines of a stopped listing have samples
    case split
    "(job (in ?e1) (out 'A) (neq) (steps 9) (walk 2) (table 9))"
    "stop23 1 2\n1 2 ?e1=(cons ?e2 ?e3)\n(in (cons 'Q1 'Q2)) (out 'A)\n" ∷
    -- `?e1` and `?a1` are two variables
    case "(define f [e.x a.x] (cons a.x e.x))"
    "(job (in ?e1 ?a1) (out ?e2) (neq) (steps 9) (walk 9) (table 9))"
    "whole 1 1\n1 1 ?e2=(cons ?a1 ?e1)\n(in 'Q1 'Q2) (out (cons 'Q2 'Q1))\n" ∷
    -- a number left out between two that are taken; a variable that stands twice
    case "(define f [e.x e.y e.z] 'Q2)"
    "(job (in ?e1 ?e2 (cons ?e1 ?e3)) (out 'Q2) (neq) (steps 9) (walk 9) (table 9))"
    "whole 1 1\n1 1\n(in 'Q1 'Q3 (cons 'Q1 'Q4)) (out 'Q2)\n" ∷
    -- a symbol of a non-equality of the line, and one of the program's that the line does not have
    case "(define f [a.x] (if (eqa? a.x 'Q1) 'A 'B))"
    "(job (in ?a1) (out 'B) (neq ['Q3 ?a1]) (steps 9) (walk 9) (table 9))"
    "whole 1 3\n1 2 # 'Q3 ?a1 # ?a1 'Q1\n(in 'Q2) (out 'B)\n" ∷
    -- texts without a symbol
    case identity
    "(job (in (cons ?e1 ?e2)) (out ?e3) (neq) (steps 9) (walk 9) (table 9))"
    "whole 1 1\n1 1 ?e3=(cons ?e1 ?e2)\n(in (cons 'Q1 'Q2)) (out (cons 'Q1 'Q2))\n" ∷
    -- a refusal prints as it does without samples
    case "(define f [e.x] e.y)"
    "(job (in ?e1) (out ?e3) (neq) (steps 9) (walk 9) (table 9))"
    "refused p 9 16\n" ∷
    -- a number of two digits
    case "(define f [e.x] 'A)"
    "(job (in (cons ?e1 (cons ?e2 (cons ?e3 (cons ?e4 (cons ?e5 (cons ?e6 (cons ?e7 (cons ?e8 (cons ?e9 ?e10)))))))))) (out 'A) (neq) (steps 9) (walk 9) (table 9))"
    "whole 1 1\n1 1\n(in (cons 'Q1 (cons 'Q2 (cons 'Q3 (cons 'Q4 (cons 'Q5 (cons 'Q6 (cons 'Q7 (cons 'Q8 (cons 'Q9 'Q10)))))))))) (out 'A)\n" ∷
    []

printed : List Case → List (List ℕ)
printed rs = map (λ r. sampled_text (txt r.program) (txt r.job)) rs

wanted : List Case → List (List ℕ)
wanted rs = map (λ r. txt r.printed) rs

table : printed cases ≡ wanted cases
unfolding printed wanted sampled_text
table = refl
