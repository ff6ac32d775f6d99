-- The limits of 01, "From the state", on both sides, from the bytes of the texts on: configurations of exactly 4,096 and of 4,097 nodes, once for
-- each part that counts, and lines of exactly 16,384 and of 16,385 nodes.
use Prim.Native.Nat.{ℕ}
use Prim.Native.String.{String}
use mathlib.Core.Path.{◌≡◌, refl}
use mathlib.Core.List.{List, [], ◌∷◌, map}
use mathlib.Core.Option.{Option, none, some}
use lib.ListN.{length}
use Rattle.language.specs.Bytes.{txt}
use Rattle.semantics.specs.Walk.{Word, whole, stop, stop21, stop22, word_of, lines_of, count_of}
use Rattle.semantics.specs.Answer.{Answer, answered, refused, Listed, list}

-- a program, a job, and the word, the number of lines and the transitions of their listing
pub record Case : Type 0 where
  pub program : String
  pub job : String
  pub word : Word
  pub lines : ℕ
  pub count : ℕ

abbrev case : String → String → Word → ℕ → ℕ → Case
case p j w l c = record { program = p; job = j; word = w; lines = l; count = c }

-- Each program builds a tree of 2,047 nodes (or a smaller one) by doubling and hands it to g with what the case is about.
abbrev pub cases : List Case
cases =
    -- the last node is an `e.` value's
    case "(define m [] (call f ['A (cons 'I (cons 'I (cons 'I (cons 'I (cons 'I (cons 'I (cons 'I (cons 'I (cons 'I (cons 'I 'O))))))))))]))(define f [e.x e.n] (if (cons? e.n e.h e.t a.p) (call f [(cons e.x e.x) e.t]) (call g [e.x e.x 'A])))(define g [e.x e.y e.z] 'B)"
    "(job (in) (out 'B) (neq) (steps 99) (walk 999) (table 99))" whole 1 24 ∷
    case "(define m [] (call f ['A (cons 'I (cons 'I (cons 'I (cons 'I (cons 'I (cons 'I (cons 'I (cons 'I (cons 'I (cons 'I 'O))))))))))]))(define f [e.x e.n] (if (cons? e.n e.h e.t a.p) (call f [(cons e.x e.x) e.t]) (call g [e.x e.x 'A 'A])))(define g [e.x e.y e.z e.u] 'B)"
    "(job (in) (out 'B) (neq) (steps 99) (walk 999) (table 99))" (stop stop21) 0 24 ∷
    -- the last node is an `a.` value's
    case "(define m [] (call f ['A (cons 'I (cons 'I (cons 'I (cons 'I (cons 'I (cons 'I (cons 'I (cons 'I (cons 'I (cons 'I 'O))))))))))]))(define f [e.x e.n] (if (cons? e.n e.h e.t a.p) (call f [(cons e.x e.x) e.t]) (call g [e.x e.x 'A])))(define g [e.x e.y a.q] 'B)"
    "(job (in) (out 'B) (neq) (steps 99) (walk 999) (table 99))" whole 1 24 ∷
    case "(define m [] (call f ['A (cons 'I (cons 'I (cons 'I (cons 'I (cons 'I (cons 'I (cons 'I (cons 'I (cons 'I (cons 'I 'O))))))))))]))(define f [e.x e.n] (if (cons? e.n e.h e.t a.p) (call f [(cons e.x e.x) e.t]) (call g [e.x e.x 'A 'A])))(define g [e.x e.y a.q a.r] 'B)"
    "(job (in) (out 'B) (neq) (steps 99) (walk 999) (table 99))" (stop stop21) 0 24 ∷
    -- the last node is an input's
    case "(define m [e.i] (call f ['A (cons 'I (cons 'I (cons 'I (cons 'I (cons 'I (cons 'I (cons 'I (cons 'I (cons 'I (cons 'I 'O))))))))))]))(define f [e.x e.n] (if (cons? e.n e.h e.t a.p) (call f [(cons e.x e.x) e.t]) (call g [e.x e.x])))(define g [e.x e.y] 'B)"
    "(job (in 'A) (out 'B) (neq) (steps 99) (walk 999) (table 99))" whole 1 24 ∷
    case "(define m [e.i e.j] (call f ['A (cons 'I (cons 'I (cons 'I (cons 'I (cons 'I (cons 'I (cons 'I (cons 'I (cons 'I (cons 'I 'O))))))))))]))(define f [e.x e.n] (if (cons? e.n e.h e.t a.p) (call f [(cons e.x e.x) e.t]) (call g [e.x e.x])))(define g [e.x e.y] 'B)"
    "(job (in 'A 'A) (out 'B) (neq) (steps 99) (walk 999) (table 99))" (stop stop21) 0 24 ∷
    -- the last node is the wanted output's
    case "(define m [] (call f ['A (cons 'I (cons 'I (cons 'I (cons 'I (cons 'I (cons 'I (cons 'I (cons 'I (cons 'I 'O)))))))))]))(define f [e.x e.n] (if (cons? e.n e.h e.t a.p) (call f [(cons e.x e.x) e.t]) (call g [(cons e.x e.x) e.x e.x])))(define g [e.x e.y e.z] (cons 'A 'A))"
    "(job (in) (out (cons 'A 'A)) (neq) (steps 99) (walk 999) (table 99))" whole 1 22 ∷
    case "(define m [] (call f ['A (cons 'I (cons 'I (cons 'I (cons 'I (cons 'I (cons 'I (cons 'I (cons 'I (cons 'I 'O)))))))))]))(define f [e.x e.n] (if (cons? e.n e.h e.t a.p) (call f [(cons e.x e.x) e.t]) (call g [(cons e.x e.x) e.x e.x 'A])))(define g [e.x e.y e.z e.u] (cons 'A 'A))"
    "(job (in) (out (cons 'A 'A)) (neq) (steps 99) (walk 999) (table 99))" (stop stop21) 0 22 ∷
    -- the last node is a non-equality's
    case "(define m [a.i] (call f ['A (cons 'I (cons 'I (cons 'I (cons 'I (cons 'I (cons 'I (cons 'I (cons 'I 'O))))))))]))(define f [e.x e.n] (if (cons? e.n e.h e.t a.p) (call f [(cons e.x e.x) e.t]) (call g [(cons (cons e.x e.x) (cons e.x e.x)) (cons e.x e.x) e.x e.x])))(define g [e.x e.y e.z e.u] 'B)"
    "(job (in ?a1) (out 'B) (neq [?a1 'C]) (steps 99) (walk 999) (table 99))" whole 1 20 ∷
    case "(define m [a.i] (call f ['A (cons 'I (cons 'I (cons 'I (cons 'I (cons 'I (cons 'I (cons 'I (cons 'I 'O))))))))]))(define f [e.x e.n] (if (cons? e.n e.h e.t a.p) (call f [(cons e.x e.x) e.t]) (call g [(cons (cons e.x e.x) (cons e.x e.x)) (cons e.x e.x) e.x e.x 'A])))(define g [e.x e.y e.z e.u e.v] 'B)"
    "(job (in ?a1) (out 'B) (neq [?a1 'C]) (steps 99) (walk 999) (table 99))" (stop stop21) 0 20 ∷
    -- the last node is the output's at an end
    case "(define m [] (call f ['A (cons 'I (cons 'I (cons 'I (cons 'I (cons 'I (cons 'I (cons 'I (cons 'I (cons 'I (cons 'I 'O))))))))))]))(define f [e.x e.n] (if (cons? e.n e.h e.t a.p) (call f [(cons e.x e.x) e.t]) (call g [e.x e.x])))(define g [e.x e.y] (cons e.x e.y))"
    "(job (in) (out 'B) (neq) (steps 99) (walk 999) (table 99))" whole 0 24 ∷
    case "(define m [e.i] (call f ['A (cons 'I (cons 'I (cons 'I (cons 'I (cons 'I (cons 'I (cons 'I (cons 'I (cons 'I (cons 'I 'O))))))))))]))(define f [e.x e.n] (if (cons? e.n e.h e.t a.p) (call f [(cons e.x e.x) e.t]) (call g [e.x e.x])))(define g [e.x e.y] (cons e.x e.y))"
    "(job (in 'A) (out 'B) (neq) (steps 99) (walk 999) (table 99))" (stop stop21) 0 24 ∷
    -- the last node is a binding's
    case "(define m [e.i e.j] (call f ['A (cons 'I (cons 'I (cons 'I (cons 'I (cons 'I (cons 'I (cons 'I (cons 'I (cons 'I (cons 'I 'O))))))))))]))(define f [e.x e.n] (if (cons? e.n e.h e.t a.p) (call f [(cons e.x e.x) e.t]) (call g [e.x])))(define g [e.x] e.x)"
    "(job (in 'A 'A) (out ?e1) (neq) (steps 99) (walk 999) (table 99))" whole 1 24 ∷
    case "(define m [e.i e.j e.k] (call f ['A (cons 'I (cons 'I (cons 'I (cons 'I (cons 'I (cons 'I (cons 'I (cons 'I (cons 'I (cons 'I 'O))))))))))]))(define f [e.x e.n] (if (cons? e.n e.h e.t a.p) (call f [(cons e.x e.x) e.t]) (call g [e.x])))(define g [e.x] e.x)"
    "(job (in 'A 'A 'A) (out ?e1) (neq) (steps 99) (walk 999) (table 99))" (stop stop21) 0 24 ∷
    -- lines of 16,384 nodes: a tree ends in lines on its way from 3 to 2,047 nodes
    case "(define m [a.s e.z] (call g3 [(cons 'A 'A) a.s]))(define g3 [e.x a.s] (if (eqa? a.s 'S1) e.x (if (eqa? a.s 'S2) e.x (call g7 [(cons e.x e.x) a.s]))))(define g7 [e.x a.s] (if (eqa? a.s 'S3) e.x (call g31 [(cons (cons e.x e.x) (cons e.x e.x)) a.s])))(define g31 [e.x a.s] (if (eqa? a.s 'S4) e.x (call g63 [(cons e.x e.x) a.s])))(define g63 [e.x a.s] (if (eqa? a.s 'S5) e.x (call g127 [(cons e.x e.x) a.s])))(define g127 [e.x a.s] (if (eqa? a.s 'S6) e.x (call g255 [(cons e.x e.x) a.s])))(define g255 [e.x a.s] (if (eqa? a.s 'S7) e.x (call g511 [(cons e.x e.x) a.s])))(define g511 [e.x a.s] (if (eqa? a.s 'S8) e.x (call g1023 [(cons e.x e.x) a.s])))(define g1023 [e.x a.s] (if (eqa? a.s 'S9) e.x (call g2047 [(cons e.x e.x) a.s])))(define g2047 [e.x a.s] (if (eqa? a.s 'S10) e.x (if (eqa? a.s 'S11) e.x (if (eqa? a.s 'S12) e.x (if (eqa? a.s 'S13) e.x (if (eqa? a.s 'S14) e.x (if (eqa? a.s 'S15) e.x (if (eqa? a.s 'S16) e.x 'B))))))))"
    "(job (in ?a1 'A) (out (cons ?e8 ?e9)) (neq) (steps 99) (walk 999) (table 99))" whole 16 42 ∷
    -- lines of 16,385 nodes
    case "(define m [a.s e.z] (call g3 [(cons 'A 'A) a.s]))(define g3 [e.x a.s] (if (eqa? a.s 'S1) e.x (if (eqa? a.s 'S2) e.x (if (eqa? a.s 'S3) e.x (if (eqa? a.s 'S4) e.x (call g7 [(cons e.x e.x) a.s]))))))(define g7 [e.x a.s] (call g31 [(cons (cons e.x e.x) (cons e.x e.x)) a.s]))(define g31 [e.x a.s] (if (eqa? a.s 'S5) e.x (call g63 [(cons e.x e.x) a.s])))(define g63 [e.x a.s] (if (eqa? a.s 'S6) e.x (call g127 [(cons e.x e.x) a.s])))(define g127 [e.x a.s] (if (eqa? a.s 'S7) e.x (call g255 [(cons e.x e.x) a.s])))(define g255 [e.x a.s] (if (eqa? a.s 'S8) e.x (call g511 [(cons e.x e.x) a.s])))(define g511 [e.x a.s] (if (eqa? a.s 'S9) e.x (call g1023 [(cons e.x e.x) a.s])))(define g1023 [e.x a.s] (if (eqa? a.s 'S10) e.x (call g2047 [(cons e.x e.x) a.s])))(define g2047 [e.x a.s] (if (eqa? a.s 'S11) e.x (if (eqa? a.s 'S12) e.x (if (eqa? a.s 'S13) e.x (if (eqa? a.s 'S14) e.x (if (eqa? a.s 'S15) e.x (if (eqa? a.s 'S16) e.x (if (eqa? a.s 'S17) e.x 'B))))))))"
    "(job (in ?a1 'A) (out (cons ?e8 ?e9)) (neq) (steps 99) (walk 999) (table 99))" (stop stop22) 16 43 ∷
    []

abbrev pub First : Type 0
First = Option (Word × ℕ × ℕ)

abbrev pub first_line : Answer Listed → First
first_line (answered a) = some (word_of a.walked, length (lines_of a.walked), count_of a.walked)
first_line (refused t r) = none

abbrev pub computed : List Case → List First
computed cs = map (λ c. first_line (list (txt c.program) (txt c.job))) cs

abbrev pub stated : List Case → List First
stated cs = map (λ c. some (c.word, c.lines, c.count)) cs

pub boundaries : computed cases ≡ stated cases
unfolding list
boundaries = refl
