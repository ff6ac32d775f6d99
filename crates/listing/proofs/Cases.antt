-- P1 to P11 (01, "Printing, and cases"), from the bytes of the texts to the bytes that are printed.
use Prim.Native.Nat.{ℕ}
use Prim.Native.String.{String}
use mathlib.Core.Path.{◌≡◌, refl}
use mathlib.Core.List.{List, [], ◌∷◌, map}
use Rattle.language.specs.Bytes.{txt}
use Rattle.listing.specs.Text.{list_text}

abbrev same : String
same = "(define same [e.x e.y] (if (cons? e.x e.h e.t a.p) 'No (if (cons? e.y e.h e.t a.q) 'No (if (eqa? a.p a.q) 'Yes 'No))))"

abbrev dub : String
dub = "(define dub [e.x] (cons e.x 'K))"

-- a program, a job and what is printed
abbrev cases : List (String × String × String)
cases = (
  same,
  "(job (in ?e1 ?e2) (out 'No) (neq) (steps 4) (walk 7) (table 3))",
  "whole 3 7\n1 2 ?e1=(cons ?e3 ?e4)\n2 3 ?e1=?a5 ?e2=(cons ?e6 ?e7)\n3 4 ?e1=?a5 ?e2=?a8 # ?a5 ?a8\n",
) ∷
    (same, "(job (in ?e1 ?e2) (out 'Yes) (neq) (steps 4) (walk 7) (table 3))", "whole 1 7\n1 4 ?e1=?a8 ?e2=?a8\n") ∷ (
      same,
      "(job (in ?e1 ?e2) (out 'No) (neq) (steps 3) (walk 7) (table 3))",
      "cut 2 5\n1 2 ?e1=(cons ?e3 ?e4)\n2 3 ?e1=?a5 ?e2=(cons ?e6 ?e7)\n",
    ) ∷
    (same, "(job (in ?e1 ?e2) (out 'No) (neq) (steps 0) (walk 7) (table 3))", "cut 0 0\n") ∷ (
      same,
      "(job (in ?e1 ?e2) (out 'No) (neq) (steps 4) (walk 6) (table 3))",
      "stop23 2 6\n1 2 ?e1=(cons ?e3 ?e4)\n2 3 ?e1=?a5 ?e2=(cons ?e6 ?e7)\n",
    ) ∷ (
      same,
      "(job (in ?e1 ?e2) (out 'No) (neq) (steps 4) (walk 7) (table 2))",
      "stop22 2 7\n1 2 ?e1=(cons ?e3 ?e4)\n2 3 ?e1=?a5 ?e2=(cons ?e6 ?e7)\n",
    ) ∷
    (same, "(job (in ?e1 ?e1) (out 'Yes) (neq) (steps 4) (walk 7) (table 3))", "whole 1 5\n1 4 ?e1=?a4\n") ∷
    (dub, "(job (in ?e1) (out ?e1) (neq) (steps 1) (walk 1) (table 1))", "whole 0 1\n") ∷
    (dub, "(job (in ?e1) (out ?e2) (neq) (steps 1) (walk 1) (table 1))", "whole 1 1\n1 1 ?e2=(cons ?e1 'K)\n") ∷
    (dub, "(job (in ?a1) (out (cons 'B 'K)) (neq ['B ?a1]) (steps 1) (walk 1) (table 1))", "whole 0 1\n") ∷
    (dub, "(job (in ?a1) (out (cons 'B 'K)) (neq [?a1 ?a1]) (steps 1) (walk 1) (table 1))", "whole 0 0\n") ∷ []

printed : List (String × String × String) → List (List ℕ)
printed rs = map (λ r. list_text (txt r.0) (txt r.1)) rs

wanted : List (String × String × String) → List (List ℕ)
wanted rs = map (λ r. txt r.2) rs

table : printed cases ≡ wanted cases
unfolding printed wanted list_text
table = refl
