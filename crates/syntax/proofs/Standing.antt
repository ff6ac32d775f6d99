-- What the grammar reads stands in the tokens as specs/Twins/Standing.antt says: `program_stands` for a program.
use Prim.Native.Nat.{ℕ, zero, suc, ◌+◌, ◌≤◌}
use Prim.Native.String.{String}
use mathlib.Core.Path.{◌≡◌, refl}
use mathlib.Core.Bool.{Bool, true, false, cond}
use mathlib.Core.List.{List, [], ◌∷◌}
use native.Mathlib.Omega.{arith}
use native.Mathlib.Nat.{add_assoc}
use lib.ListN.{length}
use Rattle.language.specs.Words.{Fit, fits, broken, long, many}
use Rattle.language.specs.Tokens.{Kind, symbol, ename, aname, evariable, avariable, plain, Text, of_program, of_job, Token}
use Rattle.language.specs.Reader.{ok, Reader, is, is_a, fit_if, roomed, one_fit, one_of, the, the_in}
use Rattle.grammar.specs.Twins.Positions.{nothing}
use Rattle.language.specs.Program.{pe, pa}
use Rattle.language.specs.Source.{Stand, SExp, sym_s, evar_s, avar_s, pair_s, SCondition, eqa_s, consp_s, STerm, call_s, conditional_s, result_s, SParam, SDef, SProg}
use Rattle.language.specs.Grammar as grammar
use Rattle.language.specs.Grammar.{standing}
use Rattle.syntax.specs.Twins.Standing.{WordAt, NameAt, e_kind, a_kind, ExpAt, symbol_at, cons_at, ExpsAt, ConditionAt, eqa_at, consp_at, TermAt, call_at, if_at, result_at, ParamsAt, DefAt, define_at, DefsAt, ProgramAt}
use Rattle.syntax.specs.Twins.Standing as at
use Rattle.syntax.proofs.Tracks.{token_at}
use Rattle.syntax.proofs.ReadParts.{Part, Given, given, given_as, Taken, taken, Both, both, Either, left, right, Items, done, item, Wrong, never, Reads, read_as, give_reads, take_reads, bind_reads, then_reads, wrong_reads, choose_reads, up_to_reads}

-- what the tests of a taken token say
fit_is : (b : Bool) → fit_if b ≡ fits → b ≡ true
fit_is true e = refl
fit_is false e = let z : ◌≡◌ {A = ℕ} 0 1 = cc in let y : ⊥ = omega arith in absurd y

pub roomed_fits : (room : ℕ) (f : Fit) → roomed room f ≡ fits → f ≡ fits
roomed_fits zero fits e = refl
roomed_fits zero broken e = e
roomed_fits zero long e = e
roomed_fits zero many e = let z : ◌≡◌ {A = ℕ} 0 1 = cc in let y : ⊥ = omega arith in absurd y
roomed_fits (suc room) f e = e

named : (b : Bool) (f : Fit) → cond b f broken ≡ fits → (b ≡ true) × (f ≡ fits)
named true f e = (refl, e)
named false f e = let z : ◌≡◌ {A = ℕ} 0 1 = cc in let y : ⊥ = omega arith in absurd y

-- more room does no harm
pub exp_roomier : {tok : ℕ → Token} {n : ℕ} {text : Text} {room i : ℕ} {c : SExp} {k : ℕ} → ExpAt tok n text room i c k → ExpAt tok n text (suc room) i c k
exp_roomier (symbol_at b s) = symbol_at b s
exp_roomier (at.ExpAt.e_at b s) = at.ExpAt.e_at b s
exp_roomier (at.ExpAt.a_at b s) = at.ExpAt.a_at b s
exp_roomier (cons_at o w c d e) = cons_at o w (exp_roomier c) (exp_roomier d) e

-- a fixed word, and a word of a kind
pub data Word (ts : List Token) (w : String) (i : ℕ) : Token → ℕ → Type 0 where
  word : WordAt (token_at ts) (length ts) w i → Word ts w i (token_at ts i) (i + 1)

-- what holds behind a closing word
closed_as : {ts : List Token} {w : String} {A : Type 0} {a b : A} {m k : ℕ} (P : A → ℕ → Type 0) → Both (Word ts w) (λ v. Given a) m b k →
    (WordAt (token_at ts) (length ts) w m → P a (m + 1)) → P b k
closed_as P (both v r (word z) g) f = given_as P g (f z)

data Name (ts : List Token) (kind : Kind) (i : ℕ) : Token → ℕ → Type 0 where
  name : NameAt (token_at ts) (length ts) kind i → Name ts kind i (token_at ts i) (i + 1)

pub data Standing (ts : List Token) (kind : Kind) (i : ℕ) : Stand → ℕ → Type 0 where
  stand : NameAt (token_at ts) (length ts) kind i → Standing ts kind i (standing (token_at ts i)) (i + 1)

the_in_reads : {ts : List Token} (room : ℕ) (w : String) → Reads ts (the_in room w) (Word ts w)
the_in_reads {ts} room w = read_as on (take_reads (λ t. roomed room (fit_if (is w t))))
  where
    on : (i : ℕ) (t : Token) (k : ℕ) → Taken ts (λ t. roomed room (fit_if (is w t))) i t k → Word ts w i t k
    on i t k (taken l e) = word (record { below = l; key = fit_is _ (roomed_fits room _ e) })

pub the_reads : {ts : List Token} (w : String) → Reads ts (the w) (Word ts w)
the_reads w = the_in_reads 1 w

one_of_reads : {ts : List Token} (room : ℕ) (kind : Kind) → Reads ts (one_of room kind) (Name ts kind)
one_of_reads {ts} room kind = read_as on (take_reads (one_fit room kind))
  where
    on : (i : ℕ) (t : Token) (k : ℕ) → Taken ts (one_fit room kind) i t k → Name ts kind i t k
    on i t k (taken l e) = let w = named _ _ (roomed_fits room _ e) in name (record { below = l; kind = w.0; fit = w.1 })

pub word_reads : {ts : List Token} (kind : Kind) → Reads ts (grammar.word kind) (Standing ts kind)
word_reads {ts} kind = read_as on (bind_reads (one_of_reads 1 kind) (λ t. give_reads (standing t)))
  where
    on : (i : ℕ) (s : Stand) (k : ℕ) → Both (Name ts kind) (λ t. Given (standing t)) i s k → Standing ts kind i s k
    on i s k (both t j (name x) given) = stand x

-- an e or d of one token
data Leaf (ts : List Token) (text : Text) (i : ℕ) : SExp → ℕ → Type 0 where
  symbol_leaf : NameAt (token_at ts) (length ts) symbol i → Leaf ts text i (sym_s (standing (token_at ts i))) (i + 1)
  e_leaf : NameAt (token_at ts) (length ts) (e_kind text) i → Leaf ts text i (evar_s (standing (token_at ts i))) (i + 1)
  a_leaf : NameAt (token_at ts) (length ts) (a_kind text) i → Leaf ts text i (avar_s (standing (token_at ts i))) (i + 1)

leaf_at_lem : {ts : List Token} {text : Text} {room i : ℕ} {c : SExp} {k : ℕ} → is "(" (token_at ts i) ≡ false → Leaf ts text i c k → ExpAt (token_at ts) (length ts) text room i c k
leaf_at_lem b (symbol_leaf x) = symbol_at b x
leaf_at_lem b (e_leaf x) = at.ExpAt.e_at b x
leaf_at_lem b (a_leaf x) = at.ExpAt.a_at b x

abbrev pub Exp : List Token → Text → ℕ → Part SExp
Exp ts text room i c k = ExpAt (token_at ts) (length ts) text room i c k

-- what stands behind the bracket, whose offset is o, of a `(cons e e)`
abbrev Cons : List Token → Text → ℕ → ℕ → Part SExp
Cons ts text o room = Both (Word ts "cons") (λ w. Both (Exp ts text room) (λ c. Both (Exp ts text room) (λ d. Both (Word ts ")") (λ v. Given (pair_s o c d)))))

module _ {ts : List Token} where
  or_word_reads : {R : Part SExp} {m : Reader SExp} (kind : Kind) → is_a kind nothing ≡ false → (f : Stand → SExp) → Reads ts m R →
      Reads ts (grammar.or_word kind f m) (Either ts (is_a kind) (Both (Standing ts kind) (λ x. Given (f x))) R)
  or_word_reads kind z f h = choose_reads (is_a kind) z (bind_reads (word_reads kind) (λ x. give_reads (f x))) h

  leaf_reads : Reads ts grammar.leaf (Leaf ts of_program)
  leaf_reads = read_as on (or_word_reads symbol refl sym_s (or_word_reads ename refl evar_s (or_word_reads aname refl avar_s wrong_reads)))
    where
      on : (i : ℕ) (c : SExp) (k : ℕ) → Either ts (is_a symbol) (Both (Standing ts symbol) (λ x. Given (sym_s x))) (Either ts (is_a ename) (Both (Standing ts ename) (λ x. Given (evar_s x)))
          (Either ts (is_a aname) (Both (Standing ts aname) (λ x. Given (avar_s x))) Wrong)) i c k → Leaf ts of_program i c k
      on i c k (left l b (both x j (stand y) given)) = symbol_leaf y
      on i c k (right b (left l d (both x j (stand y) given))) = e_leaf y
      on i c k (right b (right d (left l e (both x j (stand y) given)))) = a_leaf y
      on i c k (right b (right d (right e w))) = never (Leaf ts of_program) i c k w

  leaf_d_reads : Reads ts grammar.leaf_d (Leaf ts of_job)
  leaf_d_reads = read_as on (or_word_reads symbol refl sym_s (or_word_reads evariable refl evar_s (or_word_reads avariable refl avar_s wrong_reads)))
    where
      on : (i : ℕ) (c : SExp) (k : ℕ) → Either ts (is_a symbol) (Both (Standing ts symbol) (λ x. Given (sym_s x))) (Either ts (is_a evariable) (Both (Standing ts evariable) (λ x. Given (evar_s x)))
          (Either ts (is_a avariable) (Both (Standing ts avariable) (λ x. Given (avar_s x))) Wrong)) i c k → Leaf ts of_job i c k
      on i c k (left l b (both x j (stand y) given)) = symbol_leaf y
      on i c k (right b (left l d (both x j (stand y) given))) = e_leaf y
      on i c k (right b (right d (left l e (both x j (stand y) given)))) = a_leaf y
      on i c k (right b (right d (right e w))) = never (Leaf ts of_job) i c k w

  cons_reads : (text : Text) (o room : ℕ) (m : Reader SExp) → Reads ts m (Exp ts text room) → Reads ts (grammar.cons_at o m) (Cons ts text o room)
  cons_reads text o room m h = then_reads (the_reads "cons") (bind_reads h (λ c. bind_reads h (λ d. then_reads (the_reads ")") (give_reads (pair_s o c d)))))

  cons_at_lem : {text : Text} {room i : ℕ} {c : SExp} {k : ℕ} → WordAt (token_at ts) (length ts) "(" i → Cons ts text (token_at ts i).at room (i + 1) c k →
      Exp ts text (suc room) i c k
  cons_at_lem {text = text} {room = room} {i = i} o (both w j (word x) (both c k p (both d m q (both v r (word y) g)))) = given_as (Exp ts text (suc room) i) g (cons_at o x (simp add_assoc at p) q y)

  tree_reads : {m : Reader SExp} (text : Text) → Reads ts m (Leaf ts text) → (room : ℕ) → Reads ts (grammar.tree m room) (Exp ts text room)
  unfolding grammar.tree
  tree_reads {m} text h zero = read_as on (choose_reads (is "(") refl (then_reads (the_in_reads 0 "(") wrong_reads) h)
    where
      on : (i : ℕ) (c : SExp) (k : ℕ) → Either ts (is "(") (Both (Word ts "(") (λ w. Wrong)) (Leaf ts text) i c k → Exp ts text zero i c k
      on i c k (left l b (both w j x y)) = never (λ j c k. Exp ts text zero i c k) j c k y
      on i c k (right b x) = leaf_at_lem b x
  tree_reads {m} text h (suc room) = read_as on (choose_reads (is "(") refl
      (bind_reads (the_reads "(") (λ o. cons_reads text o.at room _ (tree_reads text h room))) h)
    where
      on : (i : ℕ) (c : SExp) (k : ℕ) → Either ts (is "(") (Both (Word ts "(") (λ o. Cons ts text o.at room)) (Leaf ts text) i c k → Exp ts text (suc room) i c k
      on i c k (left l b (both w j (word o) x)) = cons_at_lem o x
      on i c k (right b x) = leaf_at_lem b x

  pub expr_reads : (room : ℕ) → Reads ts (grammar.expr room) (Exp ts of_program room)
  unfolding grammar.expr
  expr_reads room = tree_reads of_program leaf_reads room

  pub datum_reads : (room : ℕ) → Reads ts (grammar.datum room) (Exp ts of_job room)
  unfolding grammar.datum
  datum_reads room = tree_reads of_job leaf_d_reads room

abbrev Exps : List Token → Text → String → ℕ → Part (List SExp)
Exps ts text w room i cs k = ExpsAt (token_at ts) (length ts) text w room i cs k

pub items_at : {ts : List Token} {text : Text} {w : String} {room i : ℕ} {cs : List SExp} {k : ℕ} → Items ts w (Exp ts text room) i cs k → Exps ts text w room i cs k
items_at (done l e) = at.ExpsAt.none_at (record { below = l; key = e })
items_at (item b x xs) = at.ExpsAt.more_at b x (items_at xs)

pub exps_roomier : {tok : ℕ → Token} {n : ℕ} {text : Text} {w : String} {room i : ℕ} {cs : List SExp} {k : ℕ} → ExpsAt tok n text w room i cs k → ExpsAt tok n text w (suc room) i cs k
exps_roomier (at.ExpsAt.none_at x) = at.ExpsAt.none_at x
exps_roomier (at.ExpsAt.more_at b x xs) = at.ExpsAt.more_at b (exp_roomier x) (exps_roomier xs)

-- `[e ..]`
data Args (ts : List Token) (room i : ℕ) : List SExp → ℕ → Type 0 where
  args : {cs : List SExp} {k : ℕ} → WordAt (token_at ts) (length ts) "[" i → Exps ts of_program "]" room (i + 1) cs k → Args ts room i cs (k + 1)

args_as : {ts : List Token} {room i : ℕ} {cs : List SExp} {k : ℕ} (P : List SExp → ℕ → Type 0) → Args ts room i cs k →
    ((m : ℕ) → WordAt (token_at ts) (length ts) "[" i → Exps ts of_program "]" room (i + 1) cs m → P cs (m + 1)) → P cs k
args_as P (args {k = m} x y) f = f m x y

-- the two conditions, behind the bracket
abbrev Eqa : List Token → ℕ → Part SCondition
Eqa ts room = Both (Word ts "eqa?") (λ w. Both (Exp ts of_program room) (λ c. Both (Exp ts of_program room) (λ d. Given (eqa_s c d))))

abbrev Consp : List Token → ℕ → Part SCondition
Consp ts room = Both (Word ts "cons?") (λ w. Both (Exp ts of_program room) (λ c. Both (Standing ts ename) (λ h. Both (Standing ts ename) (λ t. Both (Standing ts aname) (λ x. Given (consp_s c h t x))))))

abbrev Condition : List Token → ℕ → Part SCondition
Condition ts room i q k = ConditionAt (token_at ts) (length ts) room i q k

abbrev Term : List Token → ℕ → Part STerm
Term ts room i t k = TermAt (token_at ts) (length ts) room i t k

module _ {ts : List Token} where
  args_reads : (room : ℕ) → Reads ts (grammar.args room) (Args ts room)
  args_reads zero = read_as (λ i cs k x. elim x [ both w j y z ↦ never (λ j cs k. Args ts zero i cs k) j cs k z ]) (then_reads (the_in_reads 0 "[") wrong_reads)
  args_reads (suc room) = read_as on (then_reads (the_reads "[") (bind_reads (up_to_reads "]" refl (expr_reads room)) (λ cs. then_reads (the_reads "]") (give_reads cs))))
    where
      on : (i : ℕ) (cs : List SExp) (k : ℕ) → Both (Word ts "[") (λ w. Both (Items ts "]" (Exp ts of_program room)) (λ cs. Both (Word ts "]") (λ v. Given cs))) i cs k → Args ts (suc room) i cs k
      on i cs k (both w j (word x) (both ds m y (both v p (word z) g))) = given_as (Args ts (suc room) i) g (args x (exps_roomier (items_at y)))

  condition_reads : (room : ℕ) → Reads ts (grammar.condition room) (Condition ts room)
  condition_reads zero = read_as (λ i q k x. elim x [ both w j y z ↦ never (λ j q k. Condition ts zero i q k) j q k z ]) (then_reads (the_in_reads 0 "(") wrong_reads)
  condition_reads (suc room) = read_as on (then_reads (the_reads "(") (bind_reads (choose_reads (is "eqa?") refl
      (then_reads (the_reads "eqa?") (bind_reads (expr_reads room) (λ c. bind_reads (expr_reads room) (λ d. give_reads (eqa_s c d)))))
      (then_reads (the_reads "cons?") (bind_reads (expr_reads room) (λ c. bind_reads (word_reads ename) (λ h. bind_reads (word_reads ename) (λ t.
      bind_reads (word_reads aname) (λ x. give_reads (consp_s c h t x)))))))) (λ q. then_reads (the_reads ")") (give_reads q))))
    where
      on : (i : ℕ) (q : SCondition) (k : ℕ) → Both (Word ts "(") (λ w. Both (Either ts (is "eqa?") (Eqa ts room) (Consp ts room)) (λ q. Both (Word ts ")") (λ v. Given q))) i q k → Condition ts (suc room) i q k
      on i q k (both w j (word o) (both r m (left l b (both v p (word e) (both c g x (both d h y gv)))) rest)) =
          given_as (λ r m. Both (Word ts ")") (λ v. Given r) m q k → Condition ts (suc room) i q k) gv (λ s. closed_as (Condition ts (suc room) i) s (λ z. eqa_at o e (simp add_assoc at (exp_roomier x)) (exp_roomier y) z)) rest
      on i q k (both w j (word o) (both r m (right b (both v p (word e) (both c g x (both d h (stand hd) (both f f' (stand tl) (both a a' (stand av) gv)))))) rest)) =
          given_as (λ r m. Both (Word ts ")") (λ v. Given r) m q k → Condition ts (suc room) i q k) gv (λ s. closed_as (Condition ts (suc room) i) s
          (λ z. simp add_assoc (consp_at o e (simp add_assoc at (exp_roomier x)) hd tl (simp add_assoc at av) (simp add_assoc at z)))) rest

-- the three forms of a term behind its bracket
abbrev Call : List Token → ℕ → Part STerm
Call ts room = Both (Word ts "call") (λ w. Both (Standing ts plain) (λ f. Both (Args ts room) (λ cs. Both (Word ts ")") (λ v. Given (call_s f cs)))))

abbrev If : List Token → ℕ → Part STerm
If ts room = Both (Word ts "if") (λ w. Both (Condition ts room) (λ q. Both (Term ts room) (λ s. Both (Term ts room) (λ u. Both (Word ts ")") (λ v. Given (conditional_s q s u))))))

abbrev Result : List Token → ℕ → ℕ → Part STerm
Result ts o room = Both (Cons ts of_program o room) (λ c. Given (result_s c))

module _ {ts : List Token} where
  form_reads : (room : ℕ) (m : Reader STerm) → Reads ts m (Term ts room) → (o : Token) →
      Reads ts (grammar.form room m o) (Either ts (is "call") (Call ts room) (Either ts (is "if") (If ts room) (Result ts o.at room)))
  form_reads room m h o = choose_reads (is "call") refl
      (then_reads (the_reads "call") (bind_reads (word_reads plain) (λ f. bind_reads (args_reads room) (λ cs. then_reads (the_reads ")") (give_reads (call_s f cs))))))
      (choose_reads (is "if") refl
      (then_reads (the_reads "if") (bind_reads (condition_reads room) (λ q. bind_reads h (λ s. bind_reads h (λ u. then_reads (the_reads ")") (give_reads (conditional_s q s u)))))))
      (bind_reads (cons_reads of_program o.at room _ (expr_reads room)) (λ c. give_reads (result_s c))))

  pub term_reads : (room : ℕ) → Reads ts (grammar.term room) (Term ts room)
  unfolding grammar.term
  term_reads zero = read_as (λ i t k x. elim x [ both c j y g ↦ given_as (Term ts zero i) g (result_at y) ]) (bind_reads (expr_reads zero) (λ c. give_reads (result_s c)))
  term_reads (suc room) = read_as on (choose_reads (is "(") refl (bind_reads (the_reads "(") (form_reads room (λ us. grammar.term room us) (term_reads room)))
      (bind_reads leaf_reads (λ c. give_reads (result_s c))))
    where
      on : (i : ℕ) (t : STerm) (k : ℕ) → Either ts (is "(") (Both (Word ts "(") (λ o. Either ts (is "call") (Call ts room) (Either ts (is "if") (If ts room) (Result ts o.at room))))
          (Both (Leaf ts of_program) (λ c. Given (result_s c))) i t k → Term ts (suc room) i t k
      on i t k (left l b (both o j (word p) (left m d (both w g (word q) (both f h (stand x) (both cs y a rest)))))) =
          args_as (λ cs y. Both (Word ts ")") (λ v. Given (call_s f cs)) y t k → Term ts (suc room) i t k) a (λ n z e s. closed_as (Term ts (suc room) i) s
          (λ u. simp add_assoc (call_at p q (simp add_assoc at x) (simp add_assoc at z) (simp add_assoc at e) u))) rest
      on i t k (left l b (both o j (word p) (right d (left m e (both w g (word q) (both c h x (both s y sx (both u z ux (both v r (word a) gv))))))))) =
          given_as (Term ts (suc room) i) gv (if_at p q (simp add_assoc at x) sx ux a)
      on i t k (left l b (both o j (word p) (right d (right e (both c g x gv))))) = given_as (Term ts (suc room) i) gv (result_at (cons_at_lem p x))
      on i t k (right b (both c j x gv)) = given_as (Term ts (suc room) i) gv (result_at (leaf_at_lem b x))

-- one parameter
data Parameter (ts : List Token) (i : ℕ) : SParam → ℕ → Type 0 where
  e_parameter : NameAt (token_at ts) (length ts) ename i → Parameter ts i (record { at = (token_at ts i).at; param = pe (token_at ts i).num }) (i + 1)
  a_parameter : NameAt (token_at ts) (length ts) aname i → Parameter ts i (record { at = (token_at ts i).at; param = pa (token_at ts i).num }) (i + 1)

-- parameters, no more than there is room for
data Params (ts : List Token) (room i : ℕ) (xs : List SParam) (k : ℕ) : Type 0 where
  params : ParamsAt (token_at ts) (length ts) i xs k → length xs ≤ room → Params ts room i xs k

module _ {ts : List Token} where
  parameter_reads : (room : ℕ) → Reads ts (grammar.parameter room) (Parameter ts)
  parameter_reads room = read_as on (choose_reads (is_a ename) refl
      (bind_reads (one_of_reads room ename) (λ t. give_reads (record { at = t.at; param = pe t.num })))
      (bind_reads (one_of_reads room aname) (λ t. give_reads (record { at = t.at; param = pa t.num }))))
    where
      on : (i : ℕ) (x : SParam) (k : ℕ) → Either ts (is_a ename) (Both (Name ts ename) (λ t. Given (record { at = t.at; param = pe t.num })))
          (Both (Name ts aname) (λ t. Given (record { at = t.at; param = pa t.num }))) i x k → Parameter ts i x k
      on i x k (left l b (both t j (name y) given)) = e_parameter y
      on i x k (right b (both t j (name y) given)) = a_parameter y

  parameters_reads : (room : ℕ) → Reads ts (grammar.parameters room) (Params ts room)
  unfolding grammar.parameters
  parameters_reads zero = read_as on (choose_reads (is "]") refl (give_reads []) (then_reads (parameter_reads 0) wrong_reads))
    where
      on : (i : ℕ) (xs : List SParam) (k : ℕ) → Either ts (is "]") (Given []) (Both (Parameter ts) (λ x. Wrong)) i xs k → Params ts zero i xs k
      on i xs k (left l b given) = params (at.ParamsAt.none_at (record { below = l; key = b })) (omega arith)
      on i xs k (right b (both x j y z)) = never (λ j xs k. Params ts zero i xs k) j xs k z
  parameters_reads (suc room) = read_as on (choose_reads (is "]") refl (give_reads []) (bind_reads (parameter_reads 1) (λ x. bind_reads (parameters_reads room) (λ xs. give_reads (x ∷ xs)))))
    where
      on : (i : ℕ) (xs : List SParam) (k : ℕ) → Either ts (is "]") (Given []) (Both (Parameter ts) (λ x. Both (Params ts room) (λ xs. Given (x ∷ xs)))) i xs k → Params ts (suc room) i xs k
      on i xs k (left l b given) = params (at.ParamsAt.none_at (record { below = l; key = b })) (omega arith)
      on i xs k (right b (both x j (e_parameter y) (both ys m (params z l) given))) = params (at.ParamsAt.e_at b y z) (omega arith)
      on i xs k (right b (both x j (a_parameter y) (both ys m (params z l) given))) = params (at.ParamsAt.a_at b y z) (omega arith)

abbrev Definition : List Token → Part SDef
Definition ts i d k = DefAt (token_at ts) (length ts) i d k

-- definitions, no more than there is room for
data Definitions (ts : List Token) (room i : ℕ) (ds : List SDef) (k : ℕ) : Type 0 where
  definitions : DefsAt (token_at ts) (length ts) i ds k → length ds ≤ room → Definitions ts room i ds k

module _ {ts : List Token} where
  definition_reads : (room : ℕ) → Reads ts (grammar.definition room) (Definition ts)
  unfolding grammar.definition
  definition_reads room = read_as on (then_reads (the_in_reads room "(") (then_reads (the_reads "define") (bind_reads (word_reads plain) (λ f. then_reads (the_reads "[")
      (bind_reads (parameters_reads 16) (λ xs. then_reads (the_reads "]") (bind_reads (term_reads 63) (λ t. then_reads (the_reads ")")
      (give_reads (record { name = f; params = xs; body = t }))))))))))
    where
      on : (i : ℕ) (d : SDef) (k : ℕ) → Both (Word ts "(") (λ w. Both (Word ts "define") (λ v. Both (Standing ts plain) (λ f. Both (Word ts "[") (λ u. Both (Params ts 16) (λ xs. Both (Word ts "]")
          (λ w'. Both (Term ts 63) (λ t. Both (Word ts ")") (λ v'. Given (record { name = f; params = xs; body = t }))))))))) i d k → Definition ts i d k
      on i d k (both w a (word x) (both v b (word y) (both f c (stand z) (both u e (word o) (both xs g (params ps l) (both w' h (word q) (both t m r (both v' s (word last) gv)))))))) =
          given_as (Definition ts i) gv (simp add_assoc (define_at x y (simp add_assoc at z) (simp add_assoc at o) (simp add_assoc at ps) l r last))

  definitions_reads : (room : ℕ) → Reads ts (grammar.definitions room) (Definitions ts room)
  unfolding grammar.definitions
  definitions_reads zero = read_as on (choose_reads grammar.is_end refl (give_reads []) (then_reads (definition_reads 0) wrong_reads))
    where
      on : (i : ℕ) (ds : List SDef) (k : ℕ) → Either ts grammar.is_end (Given []) (Both (Definition ts) (λ d. Wrong)) i ds k → Definitions ts zero i ds k
      on i ds k (left l b given) = definitions (at.DefsAt.none_at (record { below = l; key = b })) (omega arith)
      on i ds k (right b (both x j y z)) = never (λ j ds k. Definitions ts zero i ds k) j ds k z
  definitions_reads (suc room) = read_as on (choose_reads grammar.is_end refl (give_reads []) (bind_reads (definition_reads 1) (λ d. bind_reads (definitions_reads room) (λ ds. give_reads (d ∷ ds)))))
    where
      on : (i : ℕ) (ds : List SDef) (k : ℕ) → Either ts grammar.is_end (Given []) (Both (Definition ts) (λ d. Both (Definitions ts room) (λ ds. Given (d ∷ ds)))) i ds k → Definitions ts (suc room) i ds k
      on i ds k (left l b given) = definitions (at.DefsAt.none_at (record { below = l; key = b })) (omega arith)
      on i ds k (right b (both x j y (both ys m (definitions z l) gv))) = given_as (Definitions ts (suc room) i) gv (definitions (at.DefsAt.more_at b y z) (omega arith))

-- a program that was read stands in its tokens
pub program_stands : (ts : List Token) (s : SProg) (rest : List Token) → grammar.program ts ≡ ok (s, rest) → ProgramAt (token_at ts) (length ts) s
unfolding grammar.program
program_stands ts s rest e = on (whole.reads 0 (omega arith) s rest e).stands
  where
    whole : Reads ts grammar.program (Both (Definition ts) (λ d. Both (Definitions ts 63) (λ ds. Given (record { main = d; others = ds }))))
    whole = bind_reads (definition_reads 1) (λ d. bind_reads (definitions_reads 63) (λ ds. give_reads (record { main = d; others = ds })))

    on : {s : SProg} {k : ℕ} → Both (Definition ts) (λ d. Both (Definitions ts 63) (λ ds. Given (record { main = d; others = ds }))) 0 s k → ProgramAt (token_at ts) (length ts) s
    on (both d j x (both ds k (definitions y l) gv)) = given_as (λ s k. ProgramAt (token_at ts) (length ts) s) gv (record { second = j; end = k; main = x; others = y; few = l })
