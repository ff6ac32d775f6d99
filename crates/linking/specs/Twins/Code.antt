-- A linked token: a mark and three numbers, in four cells.
use Rattle.std.specs.Prelude.{ℕ, ◌+◌, ◌*◌, cond, List, ltb, get_or, set}
use Rattle.linking.specs.declared.code.Link.{Link}

abbrev pub link : ℕ → ℕ → ℕ → ℕ → Link
link m a b p = record { mark = m; first = a; second = b; past = p }

-- the token i; nothing past the last one
unfoldable pub link_at : List ℕ → ℕ → Link
link_at code i = cond (ltb i 4097) (link (get_or code (4 * i) 0) (get_or code (4 * i + 1) 0) (get_or code (4 * i + 2) 0) (get_or code (4 * i + 3) 0)) (link 0 0 0 0)

-- the token i set, where there is one
unfoldable pub with_link : ℕ → Link → List ℕ → List ℕ
with_link i l code =
    cond (ltb i 4097) (set (set (set (set code (4 * i) l.mark) (4 * i + 1) l.first) (4 * i + 2) l.second) (4 * i + 3) l.past) code
