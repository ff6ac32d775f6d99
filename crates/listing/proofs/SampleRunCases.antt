-- Samples in the forward runner (02, request 2): each line's sample as a job text, and what the runner prints.
use Prim.Native.Nat.{ℕ, zero, suc}
use Prim.Native.String.{String}
use mathlib.Core.Path.{◌≡◌, refl}
use mathlib.Core.List.{List, [], ◌∷◌, ◌++◌, map}
use Rattle.language.specs.Bytes.{txt}
use Rattle.language.specs.Tokens.{symbols_of}
use Rattle.language.specs.JobCheck.{lister}
use Rattle.language.specs.Reading.{Reading, accepted, rejected, reading, symbol_names}
use Rattle.semantics.specs.Walk.{lines_of, resolve}
use Rattle.semantics.specs.Answer.{walked}
use Rattle.listing.specs.SampleDemand.{sample_job}
use Rattle.listing.specs.Text.{run_text}

-- what the runner prints for each line's sample; nothing for refused texts
abbrev ran_samples : List ℕ → List ℕ → Reading → List (List ℕ)
ran_samples p j (accepted s t) = map (λ L. run_text p (sample_job (symbol_names p j) t.steps.num L.class.con)) (lines_of (walked s t))
ran_samples p j (rejected x r) = []

-- a text that stands k times
abbrev times : ℕ → String → List ℕ
times zero s = []
times (suc k) s = txt s ++ times k s

-- a program, a job, and what the runner prints for each line's sample
record Case : Type 0 where
  program : List ℕ
  job : List ℕ
  printed : List String

abbrev case : List ℕ → List ℕ → List String → Case
case p j os = record { program = p; job = j; printed = os }

abbrev cases : List Case
cases =
    -- P1 of 01
    case (txt "(define same [e.x e.y] (if (cons? e.x e.h e.t a.p) 'No (if (cons? e.y e.h e.t a.q) 'No (if (eqa? a.p a.q) 'Yes 'No))))")
    (txt "(job (in ?e1 ?e2) (out 'No) (neq) (steps 4) (walk 7) (table 3))")
    ("value 2 'No\n" ∷ "value 3 'No\n" ∷ "value 4 'No\n" ∷ []) ∷
    -- P9 of 01
    case (txt "(define dub [e.x] (cons e.x 'K))")
    (txt "(job (in ?e1) (out ?e2) (neq) (steps 1) (walk 1) (table 1))")
    ("value 1 (cons 'Q1 'K)\n" ∷ []) ∷
    -- a symbol with the name of a new atom
    case (txt "(define f [e.x e.y] (cons 'Q1 (cons e.y e.x)))")
    (txt "(job (in ?e1 ?e2) (out ?e9) (neq) (steps 9) (walk 9) (table 9))")
    ("value 1 (cons 'Q1 (cons 'Q3 'Q2))\n" ∷ []) ∷
    -- texts without a symbol
    case (txt "(define f [e.x] e.x)")
    (txt "(job (in (cons ?e1 ?e2)) (out ?e3) (neq) (steps 9) (walk 9) (table 9))")
    ("value 1 (cons 'Q1 'Q2)\n" ∷ []) ∷
    -- the sample has its symbols in another order than the job
    case (txt "(define f [e.x] (if (cons? e.x e.h e.t a.p) (cons e.t 'B) 'C))")
    (txt "(job (in (cons 'D ?a1)) (out ?e2) (neq ['E ?a1]) (steps 9) (walk 9) (table 9))")
    ("value 2 (cons 'Q1 'B)\n" ∷ []) ∷
    -- a sample that is too deep for a text: 5
    case (txt "(define f [e.x] (if (cons? e.x e.h e.t a.p) (call f [e.t]) 'A))")
    (txt "(job (in " ++ times 61 "(cons 'I " ++ txt "?e1" ++ times 61 ")" ++ txt ") (out 'A) (neq) (steps 128) (walk 999) (table 3))")
    ("refused j 5 568\n" ∷ "value 126 'A\n" ∷ "value 124 'A\n" ∷ []) ∷
    []

ran : List Case → List (List (List ℕ))
unfolding reading symbols_of resolve
ran rs = map (λ r. ran_samples r.program r.job (reading lister r.program r.job)) rs

wanted : List Case → List (List (List ℕ))
wanted rs = map (λ r. map txt r.printed) rs

table : ran cases ≡ wanted cases
unfolding ran wanted run_text
table = refl
