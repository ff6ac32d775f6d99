-- The printed text of a listing (01, "Printing, and cases").
use Rattle.std.specs.Prelude.{ℕ, zero, suc, ◌+◌, ◌/◌, ◌%◌, true, false, cond, List, [], ◌∷◌, ◌++◌, ltb, length, get_or}
use Rattle.expressions.specs.Expression.{Value, atom, cons, AtomicExp, sym, avar, Exp, atm, evar, pair}
use Rattle.expressions.specs.Restriction.{Restriction}
use Rattle.expressions.specs.Class.{IOPair, GroundPair}
use Rattle.language.specs.Bytes.{txt}
use Rattle.language.specs.Words.{Word}
use Rattle.semantics.specs.Tree.{Line}
use Rattle.semantics.specs.Walk.{stop21, stop22, stop23, Word as EndingWord, whole, cut, stop, Walked, word_of, lines_of, count_of}
use Rattle.listing.specs.Bindings.{Binding, same, bindings}

-- a number in base ten; it has no more digits than it counts and one
abbrev pub digits_within : ℕ → ℕ → List ℕ
digits_within zero n = []
digits_within (suc k) n = elim (ltb n 10) [ true ↦ (48 + n) ∷ [] | false ↦ digits_within k (n / 10) ++ ((48 + n % 10) ∷ []) ]

abbrev pub digits : ℕ → List ℕ
digits n = digits_within (suc n) n

-- ns are the symbols' names
abbrev pub print_atomic : List Word → AtomicExp → List ℕ
print_atomic ns (sym z) = 39 ∷ get_or ns z []
print_atomic ns (avar n) = 63 ∷ 97 ∷ digits n

abbrev pub print : List Word → Exp → List ℕ
print ns (atm x) = print_atomic ns x
print ns (evar n) = 63 ∷ 101 ∷ digits n
print ns (pair c d) = txt "(cons " ++ print ns c ++ (32 ∷ print ns d) ++ (41 ∷ [])

abbrev pub print_value : List Word → Value → List ℕ
print_value ns (atom z) = 39 ∷ get_or ns z []
print_value ns (cons u v) = txt "(cons " ++ print_value ns u ++ (32 ∷ print_value ns v) ++ (41 ∷ [])

-- "then ` VAR=EXPR` for each job variable that was bound"
abbrev pub print_bindings : List Word → List Binding → List ℕ
print_bindings ns [] = []
print_bindings ns (b ∷ bs) = cond (same b.var b.exp) [] (32 ∷ print ns b.var ++ (61 ∷ print ns b.exp)) ++ print_bindings ns bs

-- "then ` # L R` for each non-equality, oldest first"
abbrev pub print_restriction : List Word → Restriction → List ℕ
print_restriction ns [] = []
print_restriction ns (q ∷ qs) = txt " # " ++ print_atomic ns q.left ++ (32 ∷ print_atomic ns q.right) ++ print_restriction ns qs

-- "Each line: its number, its steps"; j is the job's
abbrev pub print_line : List Word → IOPair → ℕ → Line → List ℕ
print_line ns j i L =
    digits i ++ (32 ∷ digits L.steps) ++ print_bindings ns (bindings j L.class.con) ++ print_restriction ns L.class.neqs ++ (10 ∷ [])

abbrev pub print_lines : List Word → IOPair → ℕ → List Line → List ℕ
print_lines ns j i [] = []
print_lines ns j i (L ∷ Ls) = print_line ns j i L ++ print_lines ns j (suc i) Ls

abbrev pub print_word : EndingWord → List ℕ
print_word whole = txt "whole"
print_word cut = txt "cut"
print_word (stop stop21) = txt "stop21"
print_word (stop stop22) = txt "stop22"
print_word (stop stop23) = txt "stop23"

-- "First line: `whole`, `cut` or `stop21` to `stop23`, the lines, the transitions." "Every line ends in a line feed." `rest` is what follows it.
abbrev pub print_first : Walked → List ℕ → List ℕ
print_first w rest = print_word (word_of w) ++ (32 ∷ digits (length (lines_of w))) ++ (32 ∷ digits (count_of w)) ++ (10 ∷ []) ++ rest

unfoldable pub print_listing : List Word → IOPair → Walked → List ℕ
print_listing ns j w = print_first w (print_lines ns j 1 (lines_of w))

-- "`(in D ..) (out D)`, one blank between parts" (02, request 2): D is a d of a job text; `rest` is what follows
abbrev pub print_inputs : List Word → List Value → List ℕ
print_inputs ns [] = []
print_inputs ns (v ∷ vs) = 32 ∷ print_value ns v ++ print_inputs ns vs

abbrev pub print_pair : List Word → GroundPair → List ℕ → List ℕ
print_pair ns c rest = txt "(in" ++ print_inputs ns c.ins ++ txt ") (out " ++ print_value ns c.out ++ (41 ∷ rest)

-- "each prints under its line"; "Every line ends in a line feed."
abbrev pub print_sample : List Word → GroundPair → List ℕ
print_sample ns c = print_pair ns c (10 ∷ [])
