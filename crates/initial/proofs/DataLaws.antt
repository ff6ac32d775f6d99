-- What is read off the tokens of a job's data are the cells of the data, if there is room for them.
use Prim.Native.Nat.{ℕ, zero, suc, ◌+◌, ◌-◌, ◌*◌, ◌%◌, ◌≤◌, ◌<◌}
use mathlib.Core.Path.{◌≡◌, refl, ap, ◌∙◌, sym as inv}
use mathlib.Core.Bool.{Bool, true, false, cond, false≢true}
use mathlib.Core.List.{List, [], ◌∷◌, ◌++◌, map, append_assoc, append-nil}
use native.Mathlib.Omega.{arith}
use lib.Dec.{eqb, ltb}
use lib.ListN.{length, get_or, length-append}
use lib.Seq.{sets}
use borrow.Author.Tests.{eqb-true, eq-eqb, ne_eqb, lt-ltb, ltb-false}
use Rattle.std.specs.Prelude.{Some}
use Rattle.expressions.proofs.Predicates.{All}
use Rattle.expressions.proofs.Numbers.{AtomicNumbers, ExpNumbers, NeqNumbers}
use Rattle.sets.specs.Cells.{evar_code, symbol_code, avar_code, atomic_code, cells, cells_all, restriction_cells}
use Rattle.sets.specs.Twins.Fill.{fill_answer}
use Rattle.language.specs.Tokens.{tag, of_job, Token}
use Rattle.language.specs.Reader.{is}
use Rattle.language.specs.Program.{atom_of}
use Rattle.language.specs.Scope.{is_atomic}
use Rattle.language.specs.Source.{SExp, exp, exps, neq_of}
use Rattle.language.proofs.TokenNumbers.{SymbolNumber, VariableNumber}
use Rattle.words.specs.Twins.Marks as mark
use Rattle.grammar.specs.Twins.Stored as stored
use Rattle.grammar.specs.Twins.Stored.{mark_at}
use Rattle.checker.specs.Twins.StoredAt.{key_at, tag_at, num_at}
use Rattle.syntax.specs.Twins.Standing.{ExpAt, symbol_at, e_at, a_at, cons_at, ExpsAt, SidesAt}
use Rattle.syntax.specs.Twins.Standing as at
use Rattle.syntax.proofs.JobLaws.{Fixed}
use Rattle.syntax.proofs.StoredCheck.{key_of_lem, kind_of_lem, num_of}
use Rattle.runs.specs.Twins.Runs.{written}
use Rattle.runs.proofs.RunLaws.{written_done, sets_append}
use Rattle.linking.specs.Twins.Linking.{key_of, kind_of}
use Rattle.layout.specs.Twins.Data.{datum_cell, datum_written, data_written}

-- the cells that the token i gives
abbrev pub datum_cells : List ℕ → List ℕ → ℕ → List ℕ
datum_cells marks nums i = cond (eqb (datum_cell marks nums i) 0) [] (datum_cell marks nums i ∷ [])

-- what f gives for `left` numbers from i on
abbrev pub run_of : (ℕ → List ℕ) → ℕ → ℕ → List ℕ
run_of f zero i = []
run_of f (suc left) i = f i ++ run_of f left (i + 1)

-- from i up to k f gives l
pub record Run (f : ℕ → List ℕ) (i k : ℕ) (l : List ℕ) : Type 0 where
  pub left : ℕ
  pub end : k ≡ i + left
  pub cells : run_of f left i ≡ l

module _ (f : ℕ → List ℕ) where
  run_append : (a b i : ℕ) → run_of f (a + b) i ≡ run_of f a i ++ run_of f b (i + a)
  run_append zero b i = let z : 0 + b ≡ b = omega arith in let y : i + 0 ≡ i = omega arith in rw (z, y)
  run_append (suc a) b i =
      let z : suc a + b ≡ suc (a + b) = omega arith in
      let y : i + 1 + a ≡ i + suc a = omega arith in
      rw z (ap (λ (l : List ℕ). f i ++ l) (run_append a b (i + 1) ∙ rw y) ∙ inv (append_assoc (f i) (run_of f a (i + 1)) (run_of f b (i + suc a))))

  pub run_none : (i : ℕ) → Run f i i []
  run_none i = record { left = 0; end = omega arith; cells = refl }

  pub run_one : {i k : ℕ} {l : List ℕ} → k ≡ i + 1 → f i ≡ l → Run f i k l
  run_one {i} e h = record { left = 1; end = e; cells = append-nil (f i) ∙ h }

  pub run_then : {i j k : ℕ} {l m : List ℕ} → Run f i j l → Run f j k m → Run f i k (l ++ m)
  run_then {i} {j} u v =
      let x = u.end in
      let y = v.end in
      let e : i + u.left ≡ j = inv x in
      record { left = u.left + v.left; end = omega arith; cells = run_append u.left v.left i ∙ rw (e, u.cells, v.cells) }

  -- a cell a number at most
  pub run_short : ((i : ℕ) → length (f i) ≤ 1) → {i k : ℕ} {l : List ℕ} → Run f i k l → length l ≤ k - i
  run_short h {i} {k} {l} u = let e = u.end in let z = ap length u.cells in omega (arith, go u.left i)
    where
      go : (left i : ℕ) → length (run_of f left i) ≤ left
      go zero i = omega arith
      go (suc left) i = omega (arith, length-append (f i) (run_of f left (i + 1)), h i, go left (i + 1))

-- what is laid from `at` on
module _ (marks nums : List ℕ) where
  abbrev given : ℕ → List ℕ
  given = datum_cells marks nums

  one_laid : (i k : ℕ) (h : List ℕ) → k + length (given i) ≤ 65535 → datum_written marks nums i k h ≡ fill_answer (Some (k + length (given i))) (sets h k (given i))
  unfolding datum_written
  one_laid i k h = pick (datum_cell marks nums i) (eqb (datum_cell marks nums i) 0)
    where
      pick : (x : ℕ) (b : Bool) → k + length (cond b [] (x ∷ [])) ≤ 65535 → cond b (fill_answer (Some k) h) (written k 1 (x ∷ []) h) ≡ fill_answer (Some (k + length (cond b [] (x ∷ [])))) (sets h k (cond b [] (x ∷ [])))
      pick x true l = let z : k + 0 ≡ k = omega arith in rw z
      pick x false l = written_done k 1 (x ∷ []) h l

  all_laid : (left i k : ℕ) (h : List ℕ) → k + length (run_of given left i) ≤ 65535 → data_written marks nums left i k h ≡ fill_answer (Some (k + length (run_of given left i))) (sets h k (run_of given left i))
  unfolding data_written
  all_laid zero i k h l = let z : k + 0 ≡ k = omega arith in rw z
  all_laid (suc left) i k h l =
      let v = given i in
      let w = run_of given left (i + 1) in
      let n = length-append v w in
      let again = all_laid left (i + 1) (k + length v) (sets h k v) (omega arith) in
      let s : k + length v + length w ≡ k + length (v ++ w) = omega arith in
      rw (one_laid i k h (omega arith), again, sets_append h k v w, s)

  pub run_laid : {i k : ℕ} {l : List ℕ} → Run given i k l → (at : ℕ) (h : List ℕ) → at + length l ≤ 65535 → data_written marks nums (k - i) i at h ≡ fill_answer (Some (at + length l)) (sets h at l)
  run_laid {i} {k} {l} u at h fits =
      let e = u.end in
      let m : k - i ≡ u.left = omega arith in
      let n : length (run_of given u.left i) ≡ length l = ap length u.cells in
      rw (m, all_laid u.left i at h (omega arith), u.cells)

-- The token t in storage: its key, its kind (those above 5 count as plain) and its number.
pub record TokenHeld (marks nums : List ℕ) (i : ℕ) (t : Token) : Type 0 where
  pub key : key_of marks i ≡ t.key
  pub kind : cond (ltb (kind_of marks i) 5) (kind_of marks i) 5 ≡ tag t.kind
  pub num : get_or nums i 0 ≡ t.num

get_d_any : (l : List ℕ) (i x y : ℕ) → i < length l → get_or l i x ≡ get_or l i y
get_d_any [] i x y h = let z : ⊥ = omega arith in absurd z
get_d_any (a ∷ l) zero x y h = refl
get_d_any (a ∷ l) (suc i) x y h = get_d_any l i x y (omega arith)

-- the tokens of a text that was cut stand so
pub tokens_held : (marks nums ats : List ℕ) (n : ℕ) → n ≤ length marks → (i : ℕ) → i < n → TokenHeld marks nums i (stored.token_at marks nums ats n i)
tokens_held marks nums ats n room i b =
    let m : get_or marks i 0 ≡ mark_at marks i = get_d_any marks i 0 1458 (omega arith) in
    let k : mark_at marks i % 32 ≡ key_at marks n i = rw (lt-ltb i n b) in
    let t : mark.kind_tag (mark_at marks i) ≡ tag_at marks n i = rw (lt-ltb i n b) in
    let u : get_or nums i 0 ≡ num_at nums n i = rw (lt-ltb i n b) in
    record { key = ap (λ (x : ℕ). x % 32) m ∙ k ∙ key_of_lem marks nums ats n i; kind = ap mark.kind_tag m ∙ t ∙ kind_of_lem marks nums ats n i; num = u ∙ num_of marks nums ats n i }

module _ {marks nums : List ℕ} {i : ℕ} {t : Token} (here : TokenHeld marks nums i t) where
  pub kind_low : (g : ℕ) → tag t.kind ≡ g → g < 5 → kind_of marks i ≡ g
  kind_low g e l = pick (ltb (kind_of marks i) 5) refl here.kind
    where
      pick : (b : Bool) → ltb (kind_of marks i) 5 ≡ b → cond b (kind_of marks i) 5 ≡ tag t.kind → kind_of marks i ≡ g
      pick true q h = h ∙ e
      pick false q h = let z : ⊥ = omega (arith, h, e) in absurd z

  pub kind_plain : tag t.kind ≡ 5 → 5 ≤ kind_of marks i
  kind_plain e = pick (ltb (kind_of marks i) 5) refl here.kind
    where
      pick : (b : Bool) → ltb (kind_of marks i) 5 ≡ b → cond b (kind_of marks i) 5 ≡ tag t.kind → 5 ≤ kind_of marks i
      pick true q h = omega (arith, h, e)
      pick false q h = omega (arith, ltb-false (kind_of marks i) 5 q)

  abbrev gives : List ℕ
  gives = datum_cells marks nums i

  given_cell : (v : ℕ) → datum_cell marks nums i ≡ v → (v ≡ 0 → ⊥) → gives ≡ v ∷ []
  given_cell v e h = rw (e, ne_eqb v 0 h)

  given_none : datum_cell marks nums i ≡ 0 → gives ≡ []
  given_none e = rw e

  module _ (fixed : t.key < 18 → tag t.kind ≡ 5) where
    -- a fixed word gives nothing, but for `cons`
    word_none : (w : ℕ) → t.key ≡ w → w < 18 → (w ≡ 8 → ⊥) → gives ≡ []
    unfolding datum_cell
    word_none w is low other = given_none cell
      where
        cell : datum_cell marks nums i ≡ 0
        cell =
            let p = kind_plain (fixed (omega arith)) in
            rw (
              ne_eqb (key_of marks i) 8 (λ q. other (inv is ∙ inv here.key ∙ q)),
              ne_eqb (kind_of marks i) 0 (λ q. omega arith),
              ne_eqb (kind_of marks i) 3 (λ q. omega arith),
              ne_eqb (kind_of marks i) 4 (λ q. omega arith),
            )

    cons_pair : t.key ≡ 8 → gives ≡ 4 ∷ []
    unfolding datum_cell
    cons_pair is = given_cell 4 cell (λ q. omega arith)
      where
        cell : datum_cell marks nums i ≡ 4
        cell = rw (eq-eqb (key_of marks i) 8 (here.key ∙ is))

    not_cons : (g : ℕ) → tag t.kind ≡ g → (g ≡ 5 → ⊥) → key_of marks i ≡ 8 → ⊥
    not_cons g is other q = other (inv is ∙ fixed (omega (arith, here.key)))

    symbol_given : tag t.kind ≡ 0 → t.num < 16384 → gives ≡ symbol_code t.num ∷ []
    unfolding datum_cell
    symbol_given is small = given_cell (symbol_code t.num) cell (λ q. omega arith)
      where
        cell : datum_cell marks nums i ≡ symbol_code t.num
        cell =
            let k = kind_low 0 is (omega arith) in
            let c : 4 * (t.num % 16384) + 1 ≡ 4 * t.num + 1 = omega arith in
            rw (ne_eqb (key_of marks i) 8 (not_cons 0 is (λ q. omega arith)), k, here.num, c)

    evar_given : tag t.kind ≡ 3 → t.num < 16384 → gives ≡ evar_code t.num ∷ []
    unfolding datum_cell
    evar_given is small = given_cell (evar_code t.num) cell (λ q. omega arith)
      where
        cell : datum_cell marks nums i ≡ evar_code t.num
        cell =
            let k = kind_low 3 is (omega arith) in
            let c : 4 * (t.num % 16384) + 2 ≡ 4 * t.num + 2 = omega arith in
            rw (ne_eqb (key_of marks i) 8 (not_cons 3 is (λ q. omega arith)), k, here.num, c)

    avar_given : tag t.kind ≡ 4 → t.num < 16384 → gives ≡ avar_code t.num ∷ []
    unfolding datum_cell
    avar_given is small = given_cell (avar_code t.num) cell (λ q. omega arith)
      where
        cell : datum_cell marks nums i ≡ avar_code t.num
        cell =
            let k = kind_low 4 is (omega arith) in
            let c : 4 * (t.num % 16384) + 3 ≡ 4 * t.num + 3 = omega arith in
            rw (ne_eqb (key_of marks i) 8 (not_cons 4 is (λ q. omega arith)), k, here.num, c)

-- a token gives one cell at most
pub given_short : (marks nums : List ℕ) (i : ℕ) → length (datum_cells marks nums i) ≤ 1
given_short marks nums i = pick (eqb (datum_cell marks nums i) 0)
  where
    pick : (b : Bool) → length (cond b [] (datum_cell marks nums i ∷ [])) ≤ 1
    pick true = omega arith
    pick false = omega arith

-- the sides are atomic
abbrev pub AtomicSides : List (SExp × SExp) → Type 0
AtomicSides [] = Unit {0}
AtomicSides (q ∷ qs) = (is_atomic (exp q.0) ≡ true) × (is_atomic (exp q.1) ≡ true) × AtomicSides qs

module _ (tok : ℕ → Token) (n : ℕ) (marks nums : List ℕ) (tokens : (i : ℕ) → i < n → TokenHeld marks nums i (tok i)) (fixed : Fixed tok) where
  abbrev f : ℕ → List ℕ
  f = datum_cells marks nums

  plain_word : (i : ℕ) → (tok i).key < 18 → tag (tok i).kind ≡ 5
  plain_word i l = eqb-true _ _ (fixed i l)

  word_run : {i k w : ℕ} → i < n → (tok i).key ≡ w → w < 18 → (w ≡ 8 → ⊥) → k ≡ i + 1 → Run f i k []
  word_run {i} {w = w} b is low other e = run_one f e (word_none (tokens i b) (plain_word i) w is low other)

  pub exp_run : {room i k : ℕ} {c : SExp} → ExpAt tok n of_job room i c k → ExpNumbers SymbolNumber VariableNumber (exp c) → Run f i k (cells (exp c))
  exp_run {room} {i} (symbol_at o a) h = run_one f refl (symbol_given (tokens i a.below) (plain_word i) (eqb-true _ _ a.kind) (omega (arith, h)))
  exp_run {room} {i} (e_at o a) h = run_one f refl (evar_given (tokens i a.below) (plain_word i) (eqb-true _ _ a.kind) (omega (arith, h.1)))
  exp_run {room} {i} (a_at o a) h = run_one f refl (avar_given (tokens i a.below) (plain_word i) (eqb-true _ _ a.kind) (omega (arith, h.1)))
  exp_run {room} {i} (cons_at {j} {k} {c} {d} o w x y z) h =
      let opens : Run f i (i + 1) [] = word_run o.below (eqb-true _ _ o.key) (omega arith) (λ q. omega arith) refl in
      let word : Run f (i + 1) (i + 2) (4 ∷ []) = run_one f (omega arith) (cons_pair (tokens (i + 1) w.below) (plain_word (i + 1)) (eqb-true _ _ w.key)) in
      let closes : Run f k (k + 1) [] = word_run z.below (eqb-true _ _ z.key) (omega arith) (λ q. omega arith) refl in
      let u = run_then f (exp_run x h.0) (exp_run y h.1) in
      let r = run_then f opens (run_then f word (run_then f u closes)) in
      rw append-nil at r

  pub exps_run : {room i k : ℕ} {cs : List SExp} → ExpsAt tok n of_job ")" room i cs k → All (ExpNumbers SymbolNumber VariableNumber) (exps cs) → Run f i k (cells_all (exps cs))
  exps_run {room} {i} (at.ExpsAt.none_at w) h = run_none f i
  exps_run {room} {i} (at.ExpsAt.more_at b x xs) h = run_then f (exp_run x h.0) (exps_run xs h.1)

  -- an atomic side
  side_run : {room i k : ℕ} {c : SExp} → ExpAt tok n of_job room i c k → is_atomic (exp c) ≡ true → AtomicNumbers SymbolNumber VariableNumber (atom_of (exp c)) → Run f i k (atomic_code (atom_of (exp c)) ∷ [])
  side_run {room} (symbol_at o a) e h = exp_run {room = room} (symbol_at o a) h
  side_run (e_at o a) e h = absurd (false≢true e)
  side_run {room} (a_at o a) e h = exp_run {room = room} (a_at o a) h
  side_run (cons_at o w x y z) e h = absurd (false≢true e)

  pub sides_run : {i k : ℕ} {qs : List (SExp × SExp)} → SidesAt tok n i qs k → AtomicSides qs → All (NeqNumbers SymbolNumber VariableNumber) (map neq_of qs) → Run f i k (restriction_cells (map neq_of qs))
  sides_run {i} (at.SidesAt.none_at w) t h = run_none f i
  sides_run {i} (at.SidesAt.more_at {k = k} b o x y z qs) t h =
      let opens : Run f i (i + 1) [] = word_run o.below (eqb-true _ _ o.key) (omega arith) (λ q. omega arith) refl in
      let closes : Run f k (k + 1) [] = word_run z.below (eqb-true _ _ z.key) (omega arith) (λ q. omega arith) refl in
      run_then f opens (run_then f (side_run x t.0 h.0.0) (run_then f (side_run y t.1 h.0.1) (run_then f closes (sides_run qs t.2 h.1))))
