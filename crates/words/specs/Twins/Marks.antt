-- A token in cells: a mark holds its key, its kind, how it fits and whether it is one too many; its number and its offset have a
-- cell each. (A numeral of a job may be larger than a cell: its number is kept modulo 65,536, and who needs it reads it again from the
-- text.)
use Rattle.std.specs.Prelude.{ℕ, ◌+◌, ◌*◌, ◌/◌, ◌%◌, Bool, true, false, cond, eqb, leb, ltb}
use Rattle.language.specs.Words.{Fit, fits, broken, long, many}
use Rattle.language.specs.Tokens.{Kind, symbol, ename, aname, evariable, avariable, plain, tag, Token}

abbrev pub fit_number : Fit → ℕ
fit_number fits = 0
fit_number broken = 1
fit_number long = 2
fit_number many = 3

abbrev pub over_number : Bool → ℕ
over_number false = 0
over_number true = 1

unfoldable pub mark_of : Token → ℕ
mark_of t = t.key + 32 * tag t.kind + 256 * fit_number t.fit + 1024 * over_number t.over

abbrev pub cell_of : ℕ → ℕ
cell_of n = n % 65536

abbrev pub kind_at : ℕ → Kind
kind_at n =
    cond (eqb n 0) symbol
    (cond (eqb n 1) ename
    (cond (eqb n 2) aname
    (cond (eqb n 3) evariable
    (cond (eqb n 4) avariable plain))))

abbrev pub fit_at : ℕ → Fit
fit_at n = cond (eqb n 1) broken (cond (eqb n 2) long (cond (leb 3 n) many fits))

abbrev pub fit_tag : ℕ → ℕ
fit_tag m = m / 256 % 4

abbrev pub over_mark : ℕ → Bool
over_mark m = leb 1024 m

-- the tag of the kind in a mark
abbrev pub kind_tag : ℕ → ℕ
kind_tag m = cond (ltb (m / 32 % 8) 5) (m / 32 % 8) 5

abbrev pub decode : ℕ → ℕ → ℕ → Token
decode m n o = record { key = m % 32; kind = kind_at (kind_tag m); fit = fit_at (fit_tag m); num = n; at = o; over = over_mark m }
