-- A text cut into tokens in storage, token by token. proofs/: these are the tokens of language/specs/Tokens.antt up to the first that no reader passes.
use Rattle.std.specs.Prelude.{ℕ, zero, suc, ◌+◌, ◌*◌, ◌%◌, Bool, true, false, cond, ◌&&◌, not, ◌≡◌, List, eqb, leb, ltb, drop, set}
use Rattle.language.specs.Words.{Word}
use Rattle.language.specs.Tokens.{tag, kind_of, key_of, fit_of, Token as Spec}
use Rattle.words.specs.Twins.Marks.{fit_number, kind_at}
use Rattle.words.specs.Twins.Cutting.{start_at, piece_end, part_of}
use Rattle.words.specs.Twins.Judged.{value_cell, text_of, hash_of}
use Rattle.lexer.specs.Twins.Table.{find_at, entered}
use Rattle.lexer.specs.declared.lexer.Token.{Token}
use Rattle.lexer.specs.declared.lexer.Cut.{Cut}

-- of a token, from the tags of its kind and fit
abbrev pub mark_sum : Bool → ℕ → ℕ
mark_sum true n = (n + 1024) % 65536
mark_sum false n = n % 65536

abbrev pub mark_cell : ℕ → ℕ → ℕ → Bool → ℕ
mark_cell key kind fit over = mark_sum over (key + 32 * kind + 256 * fit)

abbrev pub plain_number : Bool → ℕ → Word → ℕ
plain_number true place w = value_cell (drop 0 w)
plain_number false place w = place

abbrev pub number_at : Bool → ℕ → ℕ → ℕ → Word → ℕ
number_at job kind fit place w =
    cond (eqb fit 0)
    (cond (eqb kind 3) (value_cell (drop 2 w)) (cond (eqb kind 4) (value_cell (drop 2 w)) (cond (eqb kind 5) (plain_number job place w) place)))
    0

abbrev pub over_at : ℕ → ℕ → ℕ → Bool
over_at i kind num = cond (leb 4096 i) true (cond (eqb kind 0) (leb 1024 num) false)

-- no reader passes it: one too many, or a word that fits nowhere, or the end
abbrev pub shut_at : Bool → ℕ → ℕ → Bool
shut_at over fit key = cond over true (cond (eqb fit 0) false (cond (eqb key 18) true (eqb key 0)))

abbrev pub count_of : ℕ → ℕ → ℕ → ℕ
count_of kind found known = cond (eqb kind 0) found known

abbrev pub place_of : List ℕ → List ℕ → List ℕ → ℕ → List ℕ → ℕ → ℕ → ℕ → Word → ℕ
place_of first text symbols found names known kind hash w =
    cond (eqb kind 0) (find_at first text symbols hash w found 0) (find_at text text names hash w known 0)

-- "one more" stops at the largest cell, which no text reaches
abbrev pub counted : Bool → ℕ → ℕ
counted more n = cond more (cond (ltb n 65535) (n + 1) n) n

abbrev pub shifted : Bool → ℕ → ℕ
shifted job at = cond job ((at + 32769) % 65536) at

abbrev pub entered_if : Bool → List ℕ → ℕ → ℕ → ℕ → List ℕ
entered_if more table k hash offset = cond more (entered table k hash offset) table

-- The token number i, the first from `from` on, made as the code makes it: each line knows those above it.
module _ (job : Bool) (first text symbols : List ℕ) (found : ℕ) (names : List ℕ) (known i : ℕ) where
  abbrev pub token_cells : ℕ → ℕ → ℕ → ℕ → ℕ → ℕ → ℕ → Bool → Bool → Bool → Token
  token_cells at next key kind fit hash num over new symbol = record {
    mark = mark_cell key kind fit over;
    num = num;
    at = at % 65536;
    hash = hash;
    next = next;
    symbol = new && symbol;
    name = new && not symbol;
    shut = shut_at over fit key;
  }

  unfoldable pub placed_token : ℕ → ℕ → ℕ → ℕ → ℕ → ℕ → ℕ → Word → Token
  placed_token at next key kind fit hash place w =
      let num = number_at job kind fit place w in
      token_cells at next key kind fit hash num (over_at i kind num) (eqb place (count_of kind found known)) (eqb kind 0)

  unfoldable pub fitted_token : ℕ → ℕ → ℕ → ℕ → ℕ → ℕ → Word → Token
  unfolding placed_token
  fitted_token at next key kind fit hash w = placed_token at next key kind fit hash (place_of first text symbols found names known kind hash w) w

  unfoldable pub word_token : ℕ → ℕ → Word → Token
  unfolding fitted_token
  word_token at next w =
      let kind = tag (kind_of w) in
      fitted_token at next (key_of w) kind (fit_number (fit_of (text_of job) (kind_at kind) w)) (hash_of w) w

  unfoldable pub piece_token : ℕ → ℕ → Token
  unfolding word_token
  piece_token at next = word_token at next (part_of text at next)

  unfoldable pub token_from : ℕ → Token
  unfolding piece_token
  token_from from = piece_token (start_at text from) (piece_end text (start_at text from))

-- the storages, the counts, the token's number and where the text is to be read on
pub record State : Type 0 where
  pub marks : List ℕ
  pub nums : List ℕ
  pub ats : List ℕ
  pub symbols : List ℕ
  pub names : List ℕ
  pub found : ℕ
  pub known : ℕ
  pub i : ℕ
  pub from : ℕ

abbrev pub starting : List ℕ → List ℕ → List ℕ → List ℕ → List ℕ → ℕ → State
starting marks nums ats symbols names before =
    record { marks = marks; nums = nums; ats = ats; symbols = symbols; names = names; found = before; known = 0; i = 0; from = 0 }

abbrev pub stored : Token → State → State
stored t s = record {
  marks = set s.marks s.i t.mark;
  nums = set s.nums s.i t.num;
  ats = set s.ats s.i t.at;
  symbols = s.symbols;
  names = s.names;
  found = s.found;
  known = s.known;
  i = s.i + 1;
  from = s.from;
}

abbrev pub passed : Bool → Token → State → State
passed job t s = record {
  marks = s.marks;
  nums = s.nums;
  ats = s.ats;
  symbols = entered_if t.symbol s.symbols s.found t.hash (shifted job t.at);
  names = entered_if t.name s.names s.known t.hash t.at;
  found = counted t.symbol s.found;
  known = counted t.name s.known;
  i = s.i;
  from = t.next;
}

abbrev pub on_shut : Bool → State → State → (State → State) → State
on_shut true s u again = s
on_shut false s u again = again u

abbrev pub step_from : Bool → Token → State → (State → State) → State
step_from job t s again = on_shut t.shut (stored t s) (passed job t (stored t s)) again

-- token by token, n at most
unfoldable pub cut_from : Bool → List ℕ → List ℕ → ℕ → State → State
unfolding token_from
cut_from job first text zero s = s
cut_from job first text (suc n) s =
    step_from job (token_from job first text s.symbols s.found s.names s.known s.i s.from) s (λ u. cut_from job first text n u)

-- what the code answers and leaves in its storages
pub record Out (r : Cut) (marks nums ats symbols names : List ℕ) (s : State) : Type 0 where
  pub tokens : r.tokens ≡ s.i
  pub found : r.symbols ≡ s.found
  pub marks_out : marks ≡ s.marks
  pub nums_out : nums ≡ s.nums
  pub ats_out : ats ≡ s.ats
  pub symbols_out : symbols ≡ s.symbols
  pub names_out : names ≡ s.names

-- No reader passes the token: one too many, a word that fits nowhere, or the end.
abbrev pub shuts : Spec → Bool
shuts t = shut_at t.over (fit_number t.fit) t.key
