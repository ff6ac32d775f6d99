-- The parts of a job that was read stand in its cells: inputs, output and non-equalities as in its tokens, the numerals by their values.
use Prim.Native.Nat.{ℕ, suc, ◌+◌, ◌<◌}
use Prim.Native.String.{String}
use mathlib.Core.Path.{◌≡◌, ap, subst, ◌∙◌}
use mathlib.Core.Bool.{false}
use mathlib.Core.List.{List}
use native.Mathlib.Omega.{arith}
use native.Mathlib.Nat.{add_assoc}
use lib.Dec.{eqb}
use Rattle.language.specs.Bytes.{txt}
use Rattle.language.specs.Words.{Word}
use Rattle.language.specs.Tokens.{Kind, symbol, evariable, avariable, plain, same_kind, key_of, of_job, Token, tokens}
use Rattle.language.specs.Reader.{is, is_a}
use Rattle.language.specs.Source.{SExp, sym_s, evar_s, avar_s, pair_s, SJob}
use Rattle.language.specs.Grammar.{standing}
use Rattle.grammar.specs.Twins.Stored as stored
use Rattle.job_checker.specs.Twins.JobStored.{val_at}
use Rattle.lexer.specs.Twins.Lexed.{State}
use Rattle.checker.specs.Twins.StoredAt.{key_at}
use Rattle.syntax.specs.Twins.PartEnds.{part_ends, job_numerals}
use Rattle.syntax.specs.Twins.Standing.{WordAt, NameAt, ExpAt, symbol_at, cons_at, ExpsAt, SidesAt, JobAt, job_at}
use Rattle.syntax.specs.Twins.Standing as at
use Rattle.syntax.proofs.Tracks.{token_at}
use Rattle.syntax.proofs.Shut.{Alike}
use Rattle.syntax.proofs.CheckLaws.{is_a_other, ahead_in}
use Rattle.syntax.proofs.EndsLaws.{Unbracketed}
use Rattle.syntax.proofs.StoredCheck as storedCheck
use Rattle.syntax.proofs.PartLaws.{parts_at, parts_end}
use Rattle.syntax.proofs.JobRead.{JobStored, job_stands_in}

-- the inputs end at a, the output before b, the non-equalities at c; val gives the value of a numeral
pub record Parts (tok : ℕ → Token) (n : ℕ) (val : ℕ → ℕ) (j : SJob) : Type 0 where
  pub a : ℕ
  pub b : ℕ
  pub c : ℕ
  pub ins : ExpsAt tok n of_job ")" 62 4 j.ins a
  pub out : ExpAt tok n of_job 62 (a + 3) j.out b
  pub neqs : SidesAt tok n (b + 3) j.neqs c
  pub last : c + 13 < n
  pub ends : part_ends (λ i. (tok i).key) n ≡ parts_at a b c
  pub steps : val (c + 3) ≡ j.steps.num
  pub walk : val (c + 7) ≡ j.walk.num
  pub table : val (c + 11) ≡ j.table.num

-- the tokens of tok' are those of tok but for the numbers of plain words
module _ (tok tok' : ℕ → Token) (n : ℕ) (alike : (i : ℕ) → Alike (tok' i) (tok i)) (same : (i : ℕ) → is_a plain (tok i) ≡ false → tok' i ≡ tok i)
    (names : Unbracketed tok') where
  is_held : (w : String) (i : ℕ) → is w (tok' i) ≡ is w (tok i)
  is_held w i = ap (λ k. eqb k (key_of (txt w))) (alike i).key

  word_held : (w : String) (i : ℕ) → WordAt tok n w i → WordAt tok' n w i
  word_held w i x = record { below = x.below; key = is_held w i ∙ x.key }

  name_held : (k : Kind) (i : ℕ) → NameAt tok n k i → NameAt tok' n k i
  name_held k i x = record { below = x.below; kind = ap (λ d. same_kind d k) (alike i).kind ∙ x.kind; fit = (alike i).fit ∙ x.fit }

  exp_held : {room i : ℕ} {c : SExp} {k : ℕ} → ExpAt tok n of_job room i c k → ExpAt tok' n of_job room i c k
  exp_held {room} {i} (symbol_at b x) = subst (λ (t : Token). ExpAt tok' n of_job room i (sym_s (standing t)) (i + 1)) (same i (is_a_other symbol plain (tok i) x.kind))
      (symbol_at (is_held "(" i ∙ b) (name_held symbol i x))
  exp_held {room} {i} (at.ExpAt.e_at b x) = subst (λ (t : Token). ExpAt tok' n of_job room i (evar_s (standing t)) (i + 1)) (same i (is_a_other evariable plain (tok i) x.kind))
      (at.ExpAt.e_at (is_held "(" i ∙ b) (name_held evariable i x))
  exp_held {room} {i} (at.ExpAt.a_at b x) = subst (λ (t : Token). ExpAt tok' n of_job room i (avar_s (standing t)) (i + 1)) (same i (is_a_other avariable plain (tok i) x.kind))
      (at.ExpAt.a_at (is_held "(" i ∙ b) (name_held avariable i x))
  exp_held (cons_at {room = room} {i = i} {j = j} {k = k} {c = p} {d = q} o w c d e) = subst (λ (a : ℕ). ExpAt tok' n of_job (suc room) i (pair_s a p q) (k + 1)) (alike i).at
      (cons_at (word_held "(" i o) (word_held "cons" (i + 1) w) (exp_held c) (exp_held d) (word_held ")" k e))

  exps_held : {i : ℕ} {cs : List SExp} {k : ℕ} → ExpsAt tok n of_job ")" 62 i cs k → ExpsAt tok' n of_job ")" 62 i cs k
  exps_held {i} (at.ExpsAt.none_at x) = at.ExpsAt.none_at (word_held ")" i x)
  exps_held {i} (at.ExpsAt.more_at b x xs) = at.ExpsAt.more_at (is_held ")" i ∙ b) (exp_held x) (exps_held xs)

  sides_held : {i : ℕ} {qs : List (SExp × SExp)} {k : ℕ} → SidesAt tok n i qs k → SidesAt tok' n i qs k
  sides_held {i} (at.SidesAt.none_at x) = at.SidesAt.none_at (word_held ")" i x)
  sides_held {i} (at.SidesAt.more_at {k = k} b o x y z qs) = at.SidesAt.more_at (is_held ")" i ∙ b) (word_held "[" i o) (exp_held x) (exp_held y) (word_held "]" k z) (sides_held qs)

  parts_held : (val : ℕ → ℕ) (j : SJob) → ((i : ℕ) → NameAt tok n plain i → val i ≡ (tok i).num) → JobAt tok n j → Parts tok' n val j
  parts_held val j values (job_at {a = a} {b = b} {c = c} o1 o2 o3 o4 is o5 o6 y o7 o8 o9 qs steps walk table last) = record {
    a = a;
    b = b;
    c = c;
    ins = exps_held is;
    out = exp_held y;
    neqs = sides_held qs;
    last = last.below;
    ends = parts_end tok' n names (word_held "(" 2 o3) (word_held "in" 3 o4) (exps_held is) (word_held "(" (a + 1) o5) (word_held "out" (a + 2) o6) (exp_held y) (word_held ")" b o7)
        (word_held "(" (b + 1) o8) (word_held "neq" (b + 2) o9) (sides_held qs);
    steps = values (c + 3) (simp add_assoc at steps.numeral);
    walk = values (c + 7) (simp add_assoc at walk.numeral);
    table = values (c + 11) (simp add_assoc at table.numeral);
  }

pub job_parts : (first text : List ℕ) (zs : List Word) (s : State) (j : SJob) → JobStored first text zs s j →
    Parts (λ i. stored.token_at s.marks s.nums s.ats s.i i) s.i (val_at text s.ats s.i) j
job_parts first text zs s j h = parts_held (λ i. token_at (tokens of_job zs text) i) (λ i. stored.token_at s.marks s.nums s.ats s.i i) s.i h.alike h.same h.unbracketed
    (val_at text s.ats s.i) j (λ i x. h.values i x.kind x.fit) (job_stands_in first text zs s j h)

-- What `job_ends` and `job_numerals` answer for it.
module _ (first text : List ℕ) (zs : List Word) (s : State) (j : SJob) (h : JobStored first text zs s j) where
  abbrev parts : Parts (λ i. stored.token_at s.marks s.nums s.ats s.i i) s.i (val_at text s.ats s.i) j
  parts = job_parts first text zs s j h

  pub job_ends_lem : part_ends (key_at s.marks s.i) s.i ≡ parts_at parts.a parts.b parts.c
  job_ends_lem = (λ i. part_ends (λ k. storedCheck.key_of_lem s.marks s.nums s.ats s.i k i) s.i) ∙ parts.ends

  pub job_numerals_lem : job_numerals text s.ats s.i parts.c ≡ record { steps = j.steps.num; walk = j.walk.num; table = j.table.num }
  job_numerals_lem =
      let l = parts.last in
      rw (ahead_in s.i 3 parts.c (omega arith), ahead_in s.i 7 parts.c (omega arith), ahead_in s.i 11 parts.c (omega arith), parts.steps, parts.walk, parts.table)
