-- Where the parts of an accepted program stand in its tokens, without offsets: for who evaluates a program by its tokens.
-- `tok i` is the token at i, of n; fs are the names of the functions, in the order of their definitions.
-- proofs/Placed.antt: the program that a text was read as is placed so.
use Rattle.std.specs.Prelude.{ℕ, ◌+◌, ◌≡◌, Bool, true, false, List, [], ◌∷◌, get_or}
use Rattle.expressions.specs.Expression.{sym, avar, Exp, atm, evar, pair}
use Rattle.language.specs.Program.{Condition, eqa, consp, Term, call, conditional, result, Param, pe, pa, Def, Prog}
use Rattle.language.specs.Tokens.{symbol, ename, aname, plain, Text, of_program, Token}
use Rattle.language.specs.Reader.{is}
use Rattle.language.specs.Source.{place_of}
use Rattle.syntax.specs.Twins.Standing.{WordAt, NameAt, e_kind, a_kind}

-- an expression from i to before the last index
pub data ExpIn (tok : ℕ → Token) (n : ℕ) (text : Text) : ℕ → Exp → ℕ → Type 0 where
  symbol_in : {i : ℕ} → is "(" (tok i) ≡ false → NameAt tok n symbol i → ExpIn tok n text i (atm (sym (tok i).num)) (i + 1)
  e_in : {i : ℕ} → is "(" (tok i) ≡ false → NameAt tok n (e_kind text) i → ExpIn tok n text i (evar (tok i).num) (i + 1)
  a_in : {i : ℕ} → is "(" (tok i) ≡ false → NameAt tok n (a_kind text) i → ExpIn tok n text i (atm (avar (tok i).num)) (i + 1)
  cons_in : {i j k : ℕ} {c d : Exp} → WordAt tok n "(" i → WordAt tok n "cons" (i + 1) →
      ExpIn tok n text (i + 2) c j → ExpIn tok n text j d k → WordAt tok n ")" k → ExpIn tok n text i (pair c d) (k + 1)

-- the arguments of a call, up to `]` at the last index
pub data ExpsIn (tok : ℕ → Token) (n : ℕ) : ℕ → List Exp → ℕ → Type 0 where
  none_in : {i : ℕ} → WordAt tok n "]" i → ExpsIn tok n i [] i
  more_in : {i j k : ℕ} {c : Exp} {cs : List Exp} → is "]" (tok i) ≡ false → ExpIn tok n of_program i c j → ExpsIn tok n j cs k → ExpsIn tok n i (c ∷ cs) k

-- a condition; the first expression in it starts at i + 2
pub data ConditionIn (tok : ℕ → Token) (n : ℕ) : ℕ → Condition → ℕ → Type 0 where
  eqa_in : {i j k : ℕ} {c d : Exp} → WordAt tok n "(" i → WordAt tok n "eqa?" (i + 1) →
      ExpIn tok n of_program (i + 2) c j → ExpIn tok n of_program j d k → WordAt tok n ")" k → ConditionIn tok n i (eqa c d) (k + 1)
  consp_in : {i j : ℕ} {c : Exp} → WordAt tok n "(" i → WordAt tok n "cons?" (i + 1) → ExpIn tok n of_program (i + 2) c j →
      NameAt tok n ename j → NameAt tok n ename (j + 1) → NameAt tok n aname (j + 2) → WordAt tok n ")" (j + 3) →
      ConditionIn tok n i (consp c (tok j).num (tok (j + 1)).num (tok (j + 2)).num) (j + 4)

-- a term: the name of a call's function stands at i + 2 and its arguments start at i + 4; a condition starts at i + 2, and the branches follow it
pub data TermIn (tok : ℕ → Token) (n : ℕ) (fs : List ℕ) : ℕ → Term → ℕ → Type 0 where
  call_in : {i k : ℕ} {cs : List Exp} → WordAt tok n "(" i → WordAt tok n "call" (i + 1) → NameAt tok n plain (i + 2) →
      WordAt tok n "[" (i + 3) → ExpsIn tok n (i + 4) cs k → WordAt tok n ")" (k + 1) →
      TermIn tok n fs i (call (place_of (tok (i + 2)).num fs) cs) (k + 2)
  if_in : {i j k m : ℕ} {q : Condition} {s u : Term} → WordAt tok n "(" i → WordAt tok n "if" (i + 1) → ConditionIn tok n (i + 2) q j →
      TermIn tok n fs j s k → TermIn tok n fs k u m → WordAt tok n ")" m → TermIn tok n fs i (conditional q s u) (m + 1)
  result_in : {i k : ℕ} {c : Exp} → ExpIn tok n of_program i c k → TermIn tok n fs i (result c) k

-- parameters up to `]` at the last index
pub data ParamsIn (tok : ℕ → Token) (n : ℕ) : ℕ → List Param → ℕ → Type 0 where
  none_in : {i : ℕ} → WordAt tok n "]" i → ParamsIn tok n i [] i
  e_in : {i k : ℕ} {xs : List Param} → is "]" (tok i) ≡ false → NameAt tok n ename i → ParamsIn tok n (i + 1) xs k →
      ParamsIn tok n i (pe (tok i).num ∷ xs) k
  a_in : {i k : ℕ} {xs : List Param} → is "]" (tok i) ≡ false → NameAt tok n aname i → ParamsIn tok n (i + 1) xs k →
      ParamsIn tok n i (pa (tok i).num ∷ xs) k

-- the definition whose name stands at h: its parameters start at h + 2, its body behind them
pub record DefIn (tok : ℕ → Token) (n : ℕ) (fs : List ℕ) (h : ℕ) (d : Def) : Type 0 where
  pub close : ℕ
  pub past : ℕ
  pub name : NameAt tok n plain h
  pub params : ParamsIn tok n (h + 2) d.params close
  pub body : TermIn tok n fs (close + 1) d.body past

-- a table of the definitions, from number j on, by the indices of their names
pub data DefsIn (tok : ℕ → Token) (n : ℕ) (fs : List ℕ) (heads : List ℕ) : ℕ → Prog → Type 0 where
  none_in : {j : ℕ} → DefsIn tok n fs heads j []
  more_in : {j : ℕ} {d : Def} {ds : Prog} → DefIn tok n fs (get_or heads j 0) d → DefsIn tok n fs heads (j + 1) ds → DefsIn tok n fs heads j (d ∷ ds)

-- What the first two tokens say of a term: the tests are whether `(` stands at i, and `call` and `if` at i + 1.
pub data View (tok : ℕ → Token) (n : ℕ) (fs : List ℕ) : Bool → Bool → Bool → ℕ → Term → ℕ → Type 0 where
  leaf_view : {c f : Bool} {i k : ℕ} {e : Exp} → ExpIn tok n of_program i e k → View tok n fs false c f i (result e) k
  call_view : {f : Bool} {i k : ℕ} {cs : List Exp} → ExpsIn tok n (i + 4) cs k → View tok n fs true true f i (call (place_of (tok (i + 2)).num fs) cs) (k + 2)
  if_view : {i j k m : ℕ} {q : Condition} {s u : Term} → ConditionIn tok n (i + 2) q j → TermIn tok n fs j s k → TermIn tok n fs k u m →
      View tok n fs true false true i (conditional q s u) (m + 1)
  cons_view : {i k : ℕ} {e : Exp} → ExpIn tok n of_program i e k → View tok n fs true false false i (result e) k

-- and what the token at i + 1 says of a condition at i: whether it is `eqa?`
pub data ConditionView (tok : ℕ → Token) (n : ℕ) : Bool → ℕ → Condition → ℕ → Type 0 where
  eqa_view : {i j k : ℕ} {c d : Exp} → ExpIn tok n of_program (i + 2) c j → ExpIn tok n of_program j d k → ConditionView tok n true i (eqa c d) (k + 1)
  consp_view : {i j : ℕ} {c : Exp} → ExpIn tok n of_program (i + 2) c j →
      ConditionView tok n false i (consp c (tok j).num (tok (j + 1)).num (tok (j + 2)).num) (j + 4)
