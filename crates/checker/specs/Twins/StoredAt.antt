-- What a stored token holds, by its index: of n tokens, and past them what no reader passes.
use Rattle.std.specs.Prelude.{ℕ, ◌%◌, cond, List, ltb, get_or}
use Rattle.words.specs.Twins.Marks.{kind_tag}
use Rattle.grammar.specs.Twins.Stored.{mark_at, offset_at}

abbrev pub key_at : List ℕ → ℕ → ℕ → ℕ
key_at marks n i = cond (ltb i n) (mark_at marks i % 32) 18

-- the kind, by its tag
abbrev pub tag_at : List ℕ → ℕ → ℕ → ℕ
tag_at marks n i = cond (ltb i n) (kind_tag (mark_at marks i)) 5

abbrev pub num_at : List ℕ → ℕ → ℕ → ℕ
num_at nums n i = cond (ltb i n) (get_or nums i 0) 0

abbrev pub at_at : List ℕ → ℕ → ℕ → ℕ
at_at ats n i = cond (ltb i n) (offset_at ats i) 0
