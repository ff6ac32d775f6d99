-- Readings of docs/DECISIONS.md whose texts are refused, each by texts that tell it from another reading: the text, the number, the offset.
use Prim.Native.Nat.{ℕ, zero, suc}
use Prim.Native.String.{String}
use mathlib.Core.Path.{◌≡◌, refl}
use mathlib.Core.Bool.{Bool, true, false}
use mathlib.Core.List.{List, [], ◌∷◌, ◌++◌, map}
use Rattle.language.specs.Bytes.{txt, Refusal}
use Rattle.language.specs.Tokens.{Text, of_program, of_job}
use Rattle.language.specs.JobCheck.{Tool, lister, runner}
use Rattle.language.specs.Reading.{Reading, accepted, rejected, reading}

-- a text that stands k times
abbrev times : ℕ → String → List ℕ
times zero s = []
times (suc k) s = txt s ++ times k s

abbrev any_program : List ℕ
any_program = txt "(define f [e.x] e.x)"

abbrev any_job : List ℕ
any_job = txt "(job (in) (out 'A) (neq) (steps 9) (walk 9) (table 9))"

-- the reading's number, the tool, the two texts, and the refusal
record Case : Type 0 where
  number : ℕ
  tool : Tool
  program : List ℕ
  job : List ℕ
  text : Text
  refusal : Refusal

abbrev case : ℕ → Tool → List ℕ → List ℕ → Text → ℕ → ℕ → Case
case k tool p j t n o = record { number = k; tool = tool; program = p; job = j; text = t; refusal = record { number = n; at = o } }

abbrev cases : List Case
cases =
    case 1 lister (txt "(define f [] 'A'B)")
    any_job of_program 3 13 ∷
    case 2 lister (txt "(define f [e.x,e.y] 'A)")
    any_job of_program 3 11 ∷
    case 3 lister (txt "(defin")
    any_job of_program 3 1 ∷
    case 4 lister (txt "(define f []  \n")
    any_job of_program 3 15 ∷
    case 5 lister []
    any_job of_program 3 0 ∷
    case 6 lister (txt "(define f [] 'A)" ++ (13 ∷ []) ++ txt "\n")
    any_job of_program 2 16 ∷
    case 7 lister (txt "(define f [] (call F []))")
    any_job of_program 7 19 ∷
    case 11 lister (txt "(define f [] '" ++ times 17 "A" ++ txt "-)")
    any_job of_program 3 13 ∷
    case 12 lister (txt "(define '" ++ times 17 "A" ++ txt " [] 'A)")
    any_job of_program 3 8 ∷
    case 13 lister (txt "(define f [] " ++ times 17 "A" ++ txt ")")
    any_job of_program 3 13 ∷
    case 14 lister (txt "(define f [] e.)")
    any_job of_program 3 13 ∷
    case 16 lister any_program
    (txt "(job (in ?e0) (out 'A) (neq) (steps 9) (walk 9) (table 9))") of_job 4 9 ∷
    case 17 lister any_program
    (txt "(job (in ?e01) (out 'A) (neq) (steps 9) (walk 9) (table 9))") of_job 3 9 ∷
    case 18 lister any_program
    (txt "(job (in ?e) (out 'A) (neq) (steps 9) (walk 9) (table 9))") of_job 3 9 ∷
    case 19 lister any_program
    (txt "(job (in ?e00000001) (out 'A) (neq) (steps 9) (walk 9) (table 9))") of_job 3 9 ∷
    case 20 lister any_program
    (txt "(job (in 'A) (out 'A) (neq) (steps 00000001) (walk 9) (table 9))") of_job 3 35 ∷
    case 21 lister any_program
    (txt "(job (in 'A) (out 'A) (neq) (steps 10000000) (walk 9) (table 9))") of_job 4 35 ∷
    case 22 lister any_program
    (txt "(job (in 'A) (out 'A) (neq) (steps 12345678a) (walk 9) (table 9))") of_job 3 35 ∷
    case 23 lister (txt "(define f [] (foo 'A))")
    any_job of_program 3 14 ∷
    case 24 lister (txt "(define f [e.x] (if (cons? e.x e.h e.t e.p) 'A 'A))")
    any_job of_program 3 39 ∷
    case 25 lister (txt "(define f [] (if (eqa? (call f []) 'A) 'A 'A))")
    any_job of_program 3 24 ∷
    case 26 lister any_program
    (txt "(job (in 'A) (out 'A) (neq) (steps 9) (walk 9) (table 9)) x") of_job 3 58 ∷
    case 27 lister any_program
    (txt "(job (out 'A) (in 'A) (neq) (steps 9) (walk 9) (table 9))") of_job 3 6 ∷
    case 28 lister any_program
    (txt "(job (in ?e1) (out 'A) (neq [?e1 'A]) (steps 9) (walk 9) (table 9))") of_job 11 29 ∷
    case 29 lister (txt "(define f [] (call f [" ++ times 4087 "'A " ++ txt "x")
    any_job of_program 3 12283 ∷
    case 30 lister (txt "x " ++ times 4095 "'A " ++ txt "'A")
    any_job of_program 3 0 ∷
    case 31 lister (txt "(define f [] (call f [" ++ times 4087 "'A ")
    any_job of_program 3 12283 ∷
    case 32 lister (txt "(define f [e.x] (call f [" ++ times 61 "(cons 'A " ++ txt "(cons 'A 'A)" ++ times 61 ")" ++ txt "]))")
    (txt "(job (in 'A) (out 'A) (neq) (steps 1) (walk 9) (table 9))") of_program 5 574 ∷
    case 33 lister (times 64 "(define f [] 'A)" ++ txt "(x")
    any_job of_program 5 1024 ∷
    case 34 lister (txt "(define f [] (call f [" ++ times 17 "'A " ++ txt "]))")
    any_job of_program 7 19 ∷
    case 35 lister (txt "(define f [e.x e.x e.a e.b e.c e.d e.e e.f e.g e.h e.i e.j e.k e.l e.m e.n e.o] 'A)")
    any_job of_program 5 75 ∷
    case 36 lister (txt "(define f [e.p e.q e.a e.b e.c e.d e.e e.f e.g e.h e.i e.j e.k e.l e.m e.n e." ++ times 17 "o" ++ txt "] 'A)")
    any_job of_program 4 75 ∷
    case 40 lister (txt "(define f [e.x e.y e.y e.x] 'A)")
    any_job of_program 6 19 ∷
    case 41 lister (txt "(define f [] 'A)(define f [] 'A)")
    any_job of_program 6 24 ∷
    case 42 lister (txt "(define f [] (if (eqa? e.q 'A) 'A 'A))")
    any_job of_program 8 23 ∷
    case 43 lister (txt "(define f [] (if (eqa? (cons 'A 'A) 'A) 'A 'A))")
    any_job of_program 8 23 ∷
    case 44 lister (txt "(define f [a.x] (call f [(cons 'A 'A)]))")
    any_job of_program 8 25 ∷
    case 45 lister (txt "(define f [] 'A)(define g [] e.x)")
    any_job of_program 9 29 ∷
    case 47 lister (txt "(define f [] (if (cons? e.h e.h e.t a.p) 'A 'A))")
    any_job of_program 9 24 ∷
    case 49 lister any_program
    any_job of_job 10 6 ∷
    case 51 runner (txt "(define f [e.x a.y] e.x)")
    (txt "(job (in (cons 'A ?e1) ?e2) (out ?e3) (neq) (steps 9) (walk 9) (table 9))") of_job 10 18 ∷
    case 52 lister any_program
    (txt "(job (in ?e1) (out 'A) (neq [?a1 'A]) (steps 9) (walk 9) (table 9))") of_job 11 29 ∷
    case 53 lister any_program
    (txt "(job (in ?e1) (out 'A) (neq [?a7 ?e1]) (steps 9) (walk 9) (table 9))") of_job 11 29 ∷
    case 54 lister any_program
    (txt "(job (in ?e1) (out 'A) (neq ['A (cons ?a7 'A)]) (steps 9) (walk 9) (table 9))") of_job 11 32 ∷
    case 56 lister any_program
    (txt "(job (in 'A) (out 'A) (neq) (steps 1001) (walk 9) (table 9))") of_job 12 35 ∷
    case 83 lister any_program
    [] of_job 3 0 ∷
    case 85 lister (txt "x" ++ (13 ∷ []))
    any_job of_program 2 1 ∷
    case 86 lister any_program
    (txt "(job (in) (out 'A) (neq) (steps 9) (walk 9) (table 10000000))") of_job 4 51 ∷
    case 90 lister (txt "(define f [] (call g [e.x]))")
    any_job of_program 7 19 ∷
    []

-- 02, request 1: the readings about a name bound twice in reach that refuse
abbrev rebound : List Case
rebound =
    case 2 lister (txt "(define f [e.x a.p] (if (cons? e.x e.h e.t a.p) 'A 'B))")
    any_job of_program 13 43 ∷
    case 2 lister (txt "(define f [e.x e.t] (if (cons? e.x e.h e.t a.p) 'A 'B))")
    any_job of_program 13 39 ∷
    case 2 lister (txt "(define f [e.x] (if (cons? e.x e.h e.t a.p) 'A (if (eqa? a.p 'A) 'A (if (cons? e.x e.h e.t a.p) 'A 'B))))")
    any_job of_program 13 91 ∷
    case 4 lister (txt "(define f [e.x] (if (cons? e.x e.x e.t a.p) 'A 'B))")
    any_job of_program 13 31 ∷
    case 5 lister (txt "(define f [e.x] e.q)(define g [e.x] (if (cons? e.x e.x e.t a.p) 'A 'B))")
    any_job of_program 13 51 ∷
    case 6 lister (txt "(define f [e.x] (if (cons? e.x e.x e.x a.p) 'A 'B))")
    any_job of_program 6 35 ∷
    case 7 lister (txt "(define f [e.x] e.x)(define g [e.x] (if (cons? e.x e.x e.t a.p) 'A 'B))")
    any_job of_program 13 51 ∷
    case 8 lister (txt "(define f [e.x] (if (cons? e.x e.h e.t a.p) (if (cons? e.h e.h e.u a.q) 'A 'B) (if (cons? e.x e.x e.t a.q) 'A 'B)))")
    any_job of_program 13 59 ∷
    []

computed : List Case → List Reading
computed cs = map (λ c. reading c.tool c.program c.job) cs

stated : List Case → List Reading
stated cs = map (λ c. rejected c.text c.refusal) cs

refused_so : computed (cases ++ rebound) ≡ stated (cases ++ rebound)
unfolding computed stated reading
refused_so = refl

-- and those that accept: `e.h` beside `a.h`; a name of the other branch; "Branches that can't see each other may share a name, as "same" does."
abbrev shared : List (List ℕ × List ℕ)
shared =
    (txt "(define f [e.x a.h] (if (cons? e.x e.h e.t a.p) 'A 'B))", txt "(job (in 'A 'A) (out 'B) (neq) (steps 9) (walk 9) (table 9))") ∷
    (txt "(define f [e.x] (if (cons? e.x e.h e.t a.p) (if (cons? e.h e.u e.v a.p) 'A 'B) 'C))", txt "(job (in (cons 'A 'A)) (out 'B) (neq) (steps 9) (walk 9) (table 9))") ∷ (
      txt "(define same [e.x e.y] (if (cons? e.x e.h e.t a.p) 'No (if (cons? e.y e.h e.t a.q) 'No (if (eqa? a.p a.q) 'Yes 'No))))",
      txt "(job (in ?e1 ?e2) (out 'No) (neq) (steps 4) (walk 7) (table 3))",
    ) ∷
    []

is_accepted : Reading → Bool
is_accepted (accepted s t) = true
is_accepted (rejected x r) = false

accepted_so : map (λ t. is_accepted (reading lister t.0 t.1)) shared ≡ true ∷ true ∷ true ∷ []
unfolding is_accepted reading
accepted_so = refl
