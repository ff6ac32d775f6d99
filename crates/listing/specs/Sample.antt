-- The sample of a line: "one known input, with its output, giving every variable left in the line an atom of its own, none a symbol of
-- program or job" (02, request 2).
use Rattle.std.specs.Prelude.{ℕ, zero, suc, ◌+◌, ◌*◌, cond, List, [], ◌∷◌, ◌++◌, map, length}
use Rattle.expressions.specs.Expression.{atom, sym, avar, Exp, atm, evar, pair}
use Rattle.expressions.specs.Substitution.{GroundSubst}
use Rattle.expressions.specs.Class.{IOPair, GroundPair, ground_io}
use Rattle.language.specs.Words.{Word}
use Rattle.language.specs.Tokens.{is_among}
use Rattle.semantics.specs.Tree.{Line}
use Rattle.semantics.specs.Walk.{Walked, lines_of}
use Rattle.listing.specs.Bindings.{same, variables}
use Rattle.listing.specs.Print.{digits, print_line, print_first, print_sample}

-- a number of its own for each variable
abbrev pub own_number : Exp → ℕ
own_number (evar n) = 2 * n
own_number (atm (avar n)) = 2 * n + 1
own_number (atm (sym z)) = 0
own_number (pair c d) = 0

-- the place of a variable among vs; one that is not there, which no line has, comes behind them, by its own number
abbrev pub place_of : Exp → List Exp → ℕ
place_of v [] = own_number v
place_of v (w ∷ ws) = cond (same w v) 0 (suc (place_of v ws))

-- "none a symbol of program or job": those of accepted texts are below 1,024
abbrev pub new_atom : ℕ → ℕ
new_atom k = 1024 + k

-- "giving every variable left in the line an atom of its own": to the variable number k of vs the new atom number k
abbrev pub sampling : List Exp → GroundSubst
sampling vs = record { e = λ n. atom (new_atom (place_of (evar n) vs)); a = λ n. new_atom (place_of (atm (avar n)) vs) }

-- "by first standing in inputs, then output": of the line, not of the job
abbrev pub sample : IOPair → GroundPair
sample c = ground_io (sampling (variables c)) c

-- "New atoms are named Q and a number"
abbrev pub name_q : ℕ → Word
name_q n = 81 ∷ digits n

-- "from 1 up .., leaving out symbols of program or job", whose names are ns: of the k numbers from n on those that are free
abbrev pub free_numbers : List Word → ℕ → ℕ → List ℕ
free_numbers ns zero n = []
free_numbers ns (suc k) n = let later = free_numbers ns k (suc n) in cond (is_among (name_q n) ns) later (n ∷ later)

abbrev pub free_names : List Word → ℕ → ℕ → List Word
free_names ns k n = map name_q (free_numbers ns k n)

-- the first n words, empty ones where there are fewer
abbrev pub padded : ℕ → List Word → List Word
padded zero ns = []
padded (suc n) [] = [] ∷ padded n []
padded (suc n) (w ∷ ns) = w ∷ padded n ns

-- The names of the atoms of a sample with m new ones, by number: the symbols' names ns, and from 1,024 on the new ones. No more numbers are
-- left out than there are symbols, so that m names are left.
abbrev pub sample_names : List Word → ℕ → List Word
sample_names ns m = padded 1024 ns ++ free_names ns (m + length ns) 1

-- the names for the sample of one line: "every variable left in the line"
abbrev pub line_names : List Word → IOPair → List Word
line_names ns c = sample_names ns (length (variables c))

-- "Where called for, each prints under its line"
abbrev pub print_line_sample : List Word → Line → List ℕ
print_line_sample ns L = print_sample (line_names ns L.class.con) (sample L.class.con)

abbrev pub print_sampled_lines : List Word → IOPair → ℕ → List Line → List ℕ
print_sampled_lines ns j i [] = []
print_sampled_lines ns j i (L ∷ Ls) = print_line ns j i L ++ print_line_sample ns L ++ print_sampled_lines ns j (suc i) Ls

unfoldable pub print_sampled_listing : List Word → IOPair → Walked → List ℕ
print_sampled_listing ns j w = print_first w (print_sampled_lines ns j 1 (lines_of w))
