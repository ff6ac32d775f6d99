-- What stands where in a text: each part of what the grammar reads, with the index of its first token and the index past its last.
-- `tok i` is the token at i, of n. `room` is how many more brackets may stand open, as in the grammar.
-- proofs/Standing.antt: what the grammar reads stands so.
use Rattle.std.specs.Prelude.{ℕ, suc, ◌+◌, ◌<◌, ◌≤◌, ◌≡◌, true, false, List, [], ◌∷◌, length, get_or}
use Prim.Native.String.{String}
use Rattle.language.specs.Words.{fits}
use Rattle.language.specs.Tokens.{Kind, symbol, ename, aname, evariable, avariable, plain, Text, of_program, of_job, Token}
use Rattle.language.specs.Reader.{is, is_a}
use Rattle.language.specs.Program.{pe, pa}
use Rattle.language.specs.Source.{SExp, sym_s, evar_s, avar_s, pair_s, SCondition, eqa_s, consp_s, STerm, call_s, conditional_s, result_s, SParam, SDef, SProg, SJob}
use Rattle.language.specs.Grammar.{standing}

-- the fixed word w
pub record WordAt (tok : ℕ → Token) (n : ℕ) (w : String) (i : ℕ) : Type 0 where
  pub below : i < n
  pub key : is w (tok i) ≡ true

-- a word of kind k
pub record NameAt (tok : ℕ → Token) (n : ℕ) (k : Kind) (i : ℕ) : Type 0 where
  pub below : i < n
  pub kind : is_a k (tok i) ≡ true
  pub fit : (tok i).fit ≡ fits

-- `e.NAME` and `a.NAME` in a program, `?eK` and `?aK` in a job
abbrev pub e_kind : Text → Kind
e_kind of_program = ename
e_kind of_job = evariable

abbrev pub a_kind : Text → Kind
a_kind of_program = aname
a_kind of_job = avariable

-- "e: `(cons e e)`, xe or ea"; "d: `(cons d d)`, `'Z`, `?eK` or `?aK`"
pub data ExpAt (tok : ℕ → Token) (n : ℕ) (text : Text) : ℕ → ℕ → SExp → ℕ → Type 0 where
  symbol_at : {room i : ℕ} → is "(" (tok i) ≡ false → NameAt tok n symbol i → ExpAt tok n text room i (sym_s (standing (tok i))) (i + 1)
  e_at : {room i : ℕ} → is "(" (tok i) ≡ false → NameAt tok n (e_kind text) i → ExpAt tok n text room i (evar_s (standing (tok i))) (i + 1)
  a_at : {room i : ℕ} → is "(" (tok i) ≡ false → NameAt tok n (a_kind text) i → ExpAt tok n text room i (avar_s (standing (tok i))) (i + 1)
  cons_at : {room i j k : ℕ} {c d : SExp} → WordAt tok n "(" i → WordAt tok n "cons" (i + 1) →
      ExpAt tok n text room (i + 2) c j → ExpAt tok n text room j d k → WordAt tok n ")" k → ExpAt tok n text (suc room) i (pair_s (tok i).at c d) (k + 1)

-- items up to the closing bracket w, which stands at the last index
pub data ExpsAt (tok : ℕ → Token) (n : ℕ) (text : Text) (w : String) (room : ℕ) : ℕ → List SExp → ℕ → Type 0 where
  none_at : {i : ℕ} → WordAt tok n w i → ExpsAt tok n text w room i [] i
  more_at : {i j k : ℕ} {c : SExp} {cs : List SExp} → is w (tok i) ≡ false → ExpAt tok n text room i c j → ExpsAt tok n text w room j cs k →
      ExpsAt tok n text w room i (c ∷ cs) k

-- "k: `(eqa? ea ea)` or `(cons? e xe xe xa)`"
pub data ConditionAt (tok : ℕ → Token) (n : ℕ) (room : ℕ) : ℕ → SCondition → ℕ → Type 0 where
  eqa_at : {i j k : ℕ} {c d : SExp} → WordAt tok n "(" i → WordAt tok n "eqa?" (i + 1) →
      ExpAt tok n of_program room (i + 2) c j → ExpAt tok n of_program room j d k → WordAt tok n ")" k → ConditionAt tok n room i (eqa_s c d) (k + 1)
  consp_at : {i j : ℕ} {c : SExp} → WordAt tok n "(" i → WordAt tok n "cons?" (i + 1) → ExpAt tok n of_program room (i + 2) c j →
      NameAt tok n ename j → NameAt tok n ename (j + 1) → NameAt tok n aname (j + 2) → WordAt tok n ")" (j + 3) →
      ConditionAt tok n room i (consp_s c (standing (tok j)) (standing (tok (j + 1))) (standing (tok (j + 2)))) (j + 4)

-- "t: `(call F [e ..])`, `(if k t t)` or e"
pub data TermAt (tok : ℕ → Token) (n : ℕ) : ℕ → ℕ → STerm → ℕ → Type 0 where
  call_at : {room i k : ℕ} {cs : List SExp} → WordAt tok n "(" i → WordAt tok n "call" (i + 1) → NameAt tok n plain (i + 2) →
      WordAt tok n "[" (i + 3) → ExpsAt tok n of_program "]" room (i + 4) cs k → WordAt tok n ")" (k + 1) →
      TermAt tok n (suc room) i (call_s (standing (tok (i + 2))) cs) (k + 2)
  if_at : {room i j k m : ℕ} {q : SCondition} {s u : STerm} → WordAt tok n "(" i → WordAt tok n "if" (i + 1) → ConditionAt tok n room (i + 2) q j →
      TermAt tok n room j s k → TermAt tok n room k u m → WordAt tok n ")" m → TermAt tok n (suc room) i (conditional_s q s u) (m + 1)
  result_at : {room i k : ℕ} {c : SExp} → ExpAt tok n of_program room i c k → TermAt tok n room i (result_s c) k

-- parameters up to `]`
pub data ParamsAt (tok : ℕ → Token) (n : ℕ) : ℕ → List SParam → ℕ → Type 0 where
  none_at : {i : ℕ} → WordAt tok n "]" i → ParamsAt tok n i [] i
  e_at : {i k : ℕ} {xs : List SParam} → is "]" (tok i) ≡ false → NameAt tok n ename i → ParamsAt tok n (i + 1) xs k →
      ParamsAt tok n i (record { at = (tok i).at; param = pe (tok i).num } ∷ xs) k
  a_at : {i k : ℕ} {xs : List SParam} → is "]" (tok i) ≡ false → NameAt tok n aname i → ParamsAt tok n (i + 1) xs k →
      ParamsAt tok n i (record { at = (tok i).at; param = pa (tok i).num } ∷ xs) k

-- "`(define F [x ..] t)`"; F stands at i + 2, its parameters from i + 4 on
pub data DefAt (tok : ℕ → Token) (n : ℕ) : ℕ → SDef → ℕ → Type 0 where
  define_at : {i j k : ℕ} {xs : List SParam} {t : STerm} → WordAt tok n "(" i → WordAt tok n "define" (i + 1) → NameAt tok n plain (i + 2) →
      WordAt tok n "[" (i + 3) → ParamsAt tok n (i + 4) xs j → length xs ≤ 16 → TermAt tok n 63 (j + 1) t k → WordAt tok n ")" k →
      DefAt tok n i (record { name = standing (tok (i + 2)); params = xs; body = t }) (k + 1)

-- definitions up to the end
pub data DefsAt (tok : ℕ → Token) (n : ℕ) : ℕ → List SDef → ℕ → Type 0 where
  none_at : {i : ℕ} → WordAt tok n "" i → DefsAt tok n i [] i
  more_at : {i j k : ℕ} {d : SDef} {ds : List SDef} → is "" (tok i) ≡ false → DefAt tok n i d j → DefsAt tok n j ds k → DefsAt tok n i (d ∷ ds) k

-- a table of definitions: from number j on, the indices of their names
pub data HeadsAt (tok : ℕ → Token) (n : ℕ) (heads : List ℕ) : ℕ → List SDef → Type 0 where
  none_at : {j : ℕ} → HeadsAt tok n heads j []
  more_at : {i j k : ℕ} {d : SDef} {ds : List SDef} → DefAt tok n i d k → get_or heads j 0 ≡ i + 2 → HeadsAt tok n heads (j + 1) ds →
      HeadsAt tok n heads j (d ∷ ds)

-- the same with their order: one behind the other, from the token a to before b
pub data DefsFrom (tok : ℕ → Token) (n : ℕ) (heads : List ℕ) : ℕ → ℕ → List SDef → ℕ → Type 0 where
  none_from : {j a b : ℕ} → a ≤ b → DefsFrom tok n heads j a [] b
  more_from : {a b i j k : ℕ} {d : SDef} {ds : List SDef} → a ≤ i → DefAt tok n i d k → get_or heads j 0 ≡ i + 2 → DefsFrom tok n heads (j + 1) k ds b →
      DefsFrom tok n heads j a (d ∷ ds) b

-- "program: one or more of `(define F [x ..] t)`"
pub record ProgramAt (tok : ℕ → Token) (n : ℕ) (s : SProg) : Type 0 where
  pub second : ℕ
  pub end : ℕ
  pub main : DefAt tok n 0 s.main second
  pub others : DefsAt tok n second s.others end
  pub few : length s.others ≤ 63

-- "`[d d] ..`" up to `)`
pub data SidesAt (tok : ℕ → Token) (n : ℕ) : ℕ → List (SExp × SExp) → ℕ → Type 0 where
  none_at : {i : ℕ} → WordAt tok n ")" i → SidesAt tok n i [] i
  more_at : {i j k m : ℕ} {c d : SExp} {qs : List (SExp × SExp)} → is ")" (tok i) ≡ false → WordAt tok n "[" i →
      ExpAt tok n of_job 61 (i + 1) c j → ExpAt tok n of_job 61 j d k → WordAt tok n "]" k → SidesAt tok n (k + 1) qs m →
      SidesAt tok n i ((c, d) ∷ qs) m

-- a numeral in its part, `(w N)`
pub record NumeralAt (tok : ℕ → Token) (n : ℕ) (w : String) (i : ℕ) : Type 0 where
  pub opens : WordAt tok n "(" i
  pub word : WordAt tok n w (i + 1)
  pub numeral : NameAt tok n plain (i + 2)
  pub closes : WordAt tok n ")" (i + 3)

-- "job: `(job (in d ..) (out d) (neq [d d] ..) (steps N) (walk W) (table T))`": the inputs end at a, the output before b, the non-equalities at c
pub data JobAt (tok : ℕ → Token) (n : ℕ) : SJob → Type 0 where
  job_at : {a b c : ℕ} {ins : List SExp} {out : SExp} {neqs : List (SExp × SExp)} →
      WordAt tok n "(" 0 → WordAt tok n "job" 1 →
      WordAt tok n "(" 2 → WordAt tok n "in" 3 → ExpsAt tok n of_job ")" 62 4 ins a →
      WordAt tok n "(" (a + 1) → WordAt tok n "out" (a + 2) → ExpAt tok n of_job 62 (a + 3) out b → WordAt tok n ")" b →
      WordAt tok n "(" (b + 1) → WordAt tok n "neq" (b + 2) → SidesAt tok n (b + 3) neqs c →
      NumeralAt tok n "steps" (c + 1) → NumeralAt tok n "walk" (c + 5) → NumeralAt tok n "table" (c + 9) → WordAt tok n ")" (c + 13) →
      JobAt tok n (record {
        in_at = (tok 3).at;
        ins = ins;
        out = out;
        neqs = neqs;
        steps = standing (tok (c + 3));
        walk = standing (tok (c + 7));
        table = standing (tok (c + 11));
      })
