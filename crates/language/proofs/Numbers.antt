-- The numbers in accepted texts: those of symbols, names and variables are bounded. And the number of a refusal.
use Prim.Native.Nat.{ℕ, zero, suc, ◌≤◌}
use Prim.Native.String.{String}
use mathlib.Core.Path.{◌≡◌, subst}
use mathlib.Core.List.{List, [], ◌∷◌, map}
use mathlib.Core.Option.{none, some}
use native.Mathlib.Omega.{arith}
use Rattle.expressions.specs.Expression.{sym, avar, Exp, atm, evar, pair}
use Rattle.expressions.specs.Restriction.{Restriction}
use Rattle.expressions.specs.Split.{largest, largest_all, largest_restriction, first_fresh}
use Rattle.expressions.proofs.Predicates.{All}
use Rattle.expressions.proofs.Numbers.{AtomicNumbers, ExpNumbers, NeqNumbers, ClassNumbers}
use Rattle.language.specs.Program.{Condition, eqa, consp, Term, call, conditional, result, Param, pe, pa, Def, Prog, atom_of}
use Rattle.language.specs.Bytes.{Refusal, Verdict, bytes_verdict}
use Rattle.language.specs.Words.{Word}
use Rattle.language.specs.ProgramCheck.{program_verdict}
use Rattle.language.specs.JobCheck.{Tool, job_verdict}
use Rattle.language.specs.Tokens.{Kind, symbol, ename, aname, evariable, avariable, plain, Text, of_program, of_job, Token, tokens, symbols_of}
use Rattle.language.specs.Reader.{Res, ok, refused, and_then, unless_fault, Reader, up_to}
use Rattle.language.specs.Source.{Stand, SExp, sym_s, evar_s, avar_s, pair_s, eqa_s, consp_s, STerm, call_s, conditional_s, result_s, SParam, SDef, SProg, SJob, exp, exps, condition, term, params, functions, prog_of, prog, neq_of, class}
use Rattle.language.specs.Grammar
use Rattle.language.specs.Reading.{read_text, read_program, read_job, Reading, accepted, rejected, with_job, with_program, reading}
use Rattle.language.proofs.VerdictNumbers.{Stated, OfVerdict, bytes_stated, program_stated, job_stated}
use Rattle.language.proofs.ReaderLaws.{Result, Reads, give_reads, take_reads, wrong_reads, bind_reads, then_reads, choose_reads, up_to_reads}
use Rattle.language.proofs.TokenNumbers.{SymbolNumber, NameNumber, VariableNumber, KindNumberOf, TokenNumberOf, text_numbered, one_reads}

-- S holds of the number of each symbol, N of that of each variable
module _ (S N : ℕ → Type 0) where
  abbrev pub ConditionNumbers : Condition → Type 0
  ConditionNumbers (eqa c d) = ExpNumbers S N c × ExpNumbers S N d
  ConditionNumbers (consp c h t x) = ExpNumbers S N c × N h × N t × N x

  abbrev pub TermNumbers : Term → Type 0
  TermNumbers (call f ds) = All (ExpNumbers S N) ds
  TermNumbers (conditional k s t) = ConditionNumbers k × TermNumbers s × TermNumbers t
  TermNumbers (result c) = ExpNumbers S N c

  abbrev pub ParamNumbers : Param → Type 0
  ParamNumbers (pe x) = N x
  ParamNumbers (pa x) = N x

  abbrev pub DefNumbers : Def → Type 0
  DefNumbers d = All ParamNumbers d.params × TermNumbers d.body

  abbrev pub ProgNumbers : Prog → Type 0
  ProgNumbers p = All DefNumbers p

-- S holds of the symbols' tokens
module _ (S : ℕ → Type 0) where
  -- what the readers make of tokens with such numbers
  abbrev Bounds : Text → {A : Type 0} → (A → Type 0) → Reader A → Type 0
  Bounds text Q m = Reads (TokenNumberOf S text) Q m

  word_reads : (text : Text) (k : Kind) → Bounds text (λ x. KindNumberOf S text k x.num) (Grammar.word k)
  word_reads text k = bind_reads (one_reads S text 1 k) (λ t h. give_reads _ h)

  module _ (text : Text) (N : ℕ → Type 0) where
    abbrev E : SExp → Type 0
    E c = ExpNumbers S N (exp c)

    or_word_reads : (k : Kind) (f : Stand → SExp) (m : Reader SExp) → ((x : Stand) → KindNumberOf S text k x.num → E (f x)) → Bounds text E m → Bounds text E (Grammar.or_word k f m)
    or_word_reads k f m g h = choose_reads (bind_reads (word_reads text k) (λ x n. give_reads (f x) (g x n))) h

    cons_reads : (o : ℕ) (item : Reader SExp) → Bounds text E item → Bounds text E (Grammar.cons_at o item)
    cons_reads o item h = then_reads (take_reads _) (bind_reads h (λ c x. bind_reads h (λ d y. then_reads (take_reads _) (give_reads (pair_s o c d) (x, y)))))

    tree_reads : (one : Reader SExp) → Bounds text E one → (room : ℕ) → Bounds text E (Grammar.tree one room)
    unfolding Grammar.tree
    tree_reads one h zero = choose_reads (then_reads (take_reads _) wrong_reads) h
    tree_reads one h (suc room) = choose_reads (bind_reads (take_reads _) (λ o t. cons_reads o.at _ (tree_reads one h room))) h

    exps_reads : (w : String) (item : Reader SExp) → Bounds text E item → Bounds text (λ cs. All (ExpNumbers S N) (exps cs)) (up_to w item)
    exps_reads w item h = up_to_reads tt (λ c cs x xs. (x, xs)) w item h

  -- of a program: the predicates of what is read, whatever the functions' places
  abbrev ProgramE : SExp → Type 0
  ProgramE c = ExpNumbers S NameNumber (exp c)

  abbrev ProgramT : STerm → Type 0
  ProgramT t = (fs : List ℕ) → TermNumbers S NameNumber (term fs t)

  abbrev ProgramP : List SParam → Type 0
  ProgramP xs = All (ParamNumbers S NameNumber) (params xs)

  abbrev ProgramD : List SDef → Type 0
  ProgramD ds = (fs : List ℕ) → ProgNumbers S NameNumber (prog_of fs ds)

  leaf_reads : Bounds of_program ProgramE Grammar.leaf
  leaf_reads = or_word_reads of_program NameNumber symbol sym_s _ (λ x n. n)
      (or_word_reads of_program NameNumber ename evar_s _ (λ x n. n) (or_word_reads of_program NameNumber aname avar_s _ (λ x n. n) wrong_reads))

  expr_reads : (room : ℕ) → Bounds of_program ProgramE (Grammar.expr room)
  unfolding Grammar.expr
  expr_reads room = tree_reads of_program NameNumber Grammar.leaf leaf_reads room

  args_reads : (room : ℕ) → Bounds of_program (λ cs. All (ExpNumbers S NameNumber) (exps cs)) (Grammar.args room)
  args_reads zero = then_reads (take_reads _) wrong_reads
  args_reads (suc room) = then_reads (take_reads _) (bind_reads (exps_reads of_program NameNumber "]" _ (expr_reads room)) (λ cs h. then_reads (take_reads _) (give_reads cs h)))

  condition_reads : (room : ℕ) → Bounds of_program (λ k. ConditionNumbers S NameNumber (condition k)) (Grammar.condition room)
  condition_reads zero = then_reads (take_reads _) wrong_reads
  condition_reads (suc room) = then_reads (take_reads _) (bind_reads
      (choose_reads
      (then_reads (take_reads _) (bind_reads (expr_reads room) (λ c x. bind_reads (expr_reads room) (λ d y. give_reads (eqa_s c d) (x, y)))))
      (then_reads (take_reads _) (bind_reads (expr_reads room) (λ c x. bind_reads (word_reads of_program ename) (λ h y.
      bind_reads (word_reads of_program ename) (λ t z. bind_reads (word_reads of_program aname) (λ a u. give_reads (consp_s c h t a) (x, y, z, u))))))))
      (λ k h. then_reads (take_reads _) (give_reads k h)))

  form_reads : (room : ℕ) (again : Reader STerm) → Bounds of_program ProgramT again → (o : Token) → Bounds of_program ProgramT (Grammar.form room again o)
  form_reads room again h o = choose_reads
      (then_reads (take_reads _) (bind_reads (word_reads of_program plain) (λ f n. bind_reads (args_reads room) (λ cs x. then_reads (take_reads _) (give_reads (call_s f cs) (λ fs. x))))))
      (choose_reads
      (then_reads (take_reads _) (bind_reads (condition_reads room) (λ k x. bind_reads h (λ s y. bind_reads h (λ t z. then_reads (take_reads _) (give_reads (conditional_s k s t) (λ fs. (x, y fs, z fs))))))))
      (bind_reads (cons_reads of_program NameNumber o.at _ (expr_reads room)) (λ c x. give_reads (result_s c) (λ fs. x))))

  term_reads : (room : ℕ) → Bounds of_program ProgramT (Grammar.term room)
  unfolding Grammar.term
  term_reads zero = bind_reads (expr_reads zero) (λ c x. give_reads (result_s c) (λ fs. x))
  term_reads (suc room) = choose_reads (bind_reads (take_reads _) (λ o t. form_reads room _ (term_reads room) o)) (bind_reads leaf_reads (λ c x. give_reads (result_s c) (λ fs. x)))

  parameter_reads : (room : ℕ) → Bounds of_program (λ x. ParamNumbers S NameNumber x.param) (Grammar.parameter room)
  parameter_reads room = choose_reads (bind_reads (one_reads S of_program room ename) (λ t n. give_reads _ n)) (bind_reads (one_reads S of_program room aname) (λ t n. give_reads _ n))

  parameters_reads : (room : ℕ) → Bounds of_program ProgramP (Grammar.parameters room)
  unfolding Grammar.parameters
  parameters_reads zero = choose_reads (give_reads [] tt) (then_reads (parameter_reads 0) wrong_reads)
  parameters_reads (suc room) = choose_reads (give_reads [] tt) (bind_reads (parameter_reads 1) (λ x n. bind_reads (parameters_reads room) (λ xs h. give_reads (x ∷ xs) (n, h))))

  definition_reads : (room : ℕ) → Bounds of_program (λ d. ProgramD (d ∷ [])) (Grammar.definition room)
  unfolding Grammar.definition
  definition_reads room = then_reads (take_reads _) (then_reads (take_reads _) (bind_reads (word_reads of_program plain) (λ f n.
      then_reads (take_reads _) (bind_reads (parameters_reads 16) (λ xs x.
      then_reads (take_reads _) (bind_reads (term_reads 63) (λ t y.
      then_reads (take_reads _) (give_reads _ (λ fs. ((x, y fs), tt))))))))))

  definitions_reads : (room : ℕ) → Bounds of_program ProgramD (Grammar.definitions room)
  unfolding Grammar.definitions
  definitions_reads zero = choose_reads (give_reads [] (λ fs. tt)) (then_reads (definition_reads 0) wrong_reads)
  definitions_reads (suc room) = choose_reads (give_reads [] (λ fs. tt)) (bind_reads (definition_reads 1) (λ d x. bind_reads (definitions_reads room) (λ ds h. give_reads (d ∷ ds) (λ fs. ((x fs).0, h fs)))))

  pub program_reads : Bounds of_program (λ s. ProgNumbers S NameNumber (prog s)) Grammar.program
  unfolding Grammar.program
  program_reads = bind_reads (definition_reads 1) (λ d x. bind_reads (definitions_reads 63) (λ ds h. give_reads _ ((x (functions (d ∷ ds))).0, h (functions (d ∷ ds)))))

  -- of a job
  abbrev JobE : SExp → Type 0
  JobE c = ExpNumbers S VariableNumber (exp c)

  leaf_d_reads : Bounds of_job JobE Grammar.leaf_d
  leaf_d_reads = or_word_reads of_job VariableNumber symbol sym_s _ (λ x n. n)
      (or_word_reads of_job VariableNumber evariable evar_s _ (λ x n. n) (or_word_reads of_job VariableNumber avariable avar_s _ (λ x n. n) wrong_reads))

  datum_reads : (room : ℕ) → Bounds of_job JobE (Grammar.datum room)
  unfolding Grammar.datum
  datum_reads room = tree_reads of_job VariableNumber Grammar.leaf_d leaf_d_reads room

  -- a side need not be atomic yet
  abbrev pub SidesNumbers : SExp × SExp → Type 0
  SidesNumbers q = JobE q.0 × JobE q.1

  abbrev pub JobNumbers : SJob → Type 0
  JobNumbers j = All (ExpNumbers S VariableNumber) (exps j.ins) × JobE j.out × All SidesNumbers j.neqs

  sides_reads : Bounds of_job SidesNumbers Grammar.sides
  sides_reads = then_reads (take_reads _) (bind_reads (datum_reads 61) (λ c x. bind_reads (datum_reads 61) (λ d y.
      then_reads (take_reads _) (give_reads (c, d) (x, y)))))

  part_reads : {A : Type 0} {Q : A → Type 0} (w : String) (m : Reader A) → Bounds of_job Q m → Bounds of_job (λ r. Q r.1) (Grammar.part w m)
  part_reads w m h = then_reads (take_reads _) (bind_reads (take_reads _) (λ t x. bind_reads h (λ a q. then_reads (take_reads _) (give_reads (t.at, a) q))))

  pub job_reads : Bounds of_job JobNumbers Grammar.job_text
  unfolding Grammar.job_text
  job_reads = then_reads (take_reads _) (then_reads (take_reads _)
      (bind_reads (part_reads "in" _ (exps_reads of_job VariableNumber ")" _ (datum_reads 62))) (λ i x.
      bind_reads (part_reads "out" _ (datum_reads 62)) (λ o y.
      bind_reads (part_reads "neq" _ (up_to_reads {R = All SidesNumbers} tt (λ q qs z zs. (z, zs)) ")" _ sides_reads)) (λ q z.
      bind_reads (part_reads "steps" _ (word_reads of_job plain)) (λ n u.
      bind_reads (part_reads "walk" _ (word_reads of_job plain)) (λ w v.
      bind_reads (part_reads "table" _ (word_reads of_job plain)) (λ t k.
      then_reads (take_reads _) (choose_reads (give_reads _ (x, y, z)) wrong_reads)))))))))

-- the job's class; a side that is not atomic, which 11 refuses, counts as the symbol 0
atomic_numbers : (c : Exp) → ExpNumbers SymbolNumber VariableNumber c → AtomicNumbers SymbolNumber VariableNumber (atom_of c)
atomic_numbers (atm x) h = h
atomic_numbers (evar n) h = omega arith
atomic_numbers (pair c d) h = omega arith

neqs_numbers : (qs : List (SExp × SExp)) → All (SidesNumbers SymbolNumber) qs → All (NeqNumbers SymbolNumber VariableNumber) (map neq_of qs)
neqs_numbers [] h = tt
neqs_numbers (q ∷ qs) h = ((atomic_numbers (exp q.0) h.0.0, atomic_numbers (exp q.1) h.0.1), neqs_numbers qs h.1)

class_numbers : (j : SJob) → JobNumbers SymbolNumber j → ClassNumbers SymbolNumber VariableNumber (class j)
class_numbers j h = (h.0, h.1, neqs_numbers j.neqs h.2)

-- of a text that was read, of two that were accepted; a refusal has one of the stated numbers
abbrev pub OfRes : {A : Type 0} → (A → Type 0) → Res A → Type 0
OfRes Q (ok a) = Q a
OfRes Q (refused r) = Stated r.number

abbrev OfReading : (SProg → SJob → Type 0) → Reading → Type 0
OfReading Q (accepted s t) = Q s t
OfReading Q (rejected x r) = Stated r.number

pub text_reads : {A : Type 0} {Q : A → Type 0} (text : Text) (limit : ℕ) (m : Reader A) (check : A → Verdict) (before : List Word) (bs : List ℕ) (S : ℕ → Type 0) → All (TokenNumberOf S text) (tokens text before bs) → Bounds S text Q m → ((a : A) → OfVerdict (check a)) →
    OfRes Q (read_text text limit m check before bs)
text_reads {A} {Q} text limit m check before bs S n h k = bytes (bytes_verdict limit bs) (bytes_stated limit bs)
  where
    pass : (a : A) → Q a → (v : Verdict) → OfVerdict v → OfRes Q (unless_fault v a)
    pass a q none o = q
    pass a q (some r) o = o

    parsed : (x : Res (A × List Token)) → Result (TokenNumberOf S text) Q x → OfRes Q (and_then x (λ r. unless_fault (check r.0) r.0))
    parsed (ok r) q = pass r.0 q.0 (check r.0) (k r.0)
    parsed (refused r) q = q

    bytes : (v : Verdict) → OfVerdict v → OfRes Q (and_then (unless_fault v bs) (λ bs. and_then (m (tokens text before bs)) (λ r. unless_fault (check r.0) r.0)))
    bytes none o = parsed (m (tokens text before bs)) (h.result (tokens text before bs) n)
    bytes (some r) o = o

-- the largest K
largest_le : (c : Exp) → ExpNumbers SymbolNumber VariableNumber c → largest c ≤ 999
largest_le (atm (sym z)) h = omega arith
largest_le (atm (avar n)) h = omega arith
largest_le (evar n) h = omega arith
largest_le (pair c d) h = omega (arith, largest_le c h.0, largest_le d h.1)

largest_all_le : (cs : List Exp) → All (ExpNumbers SymbolNumber VariableNumber) cs → largest_all cs ≤ 999
largest_all_le [] h = omega arith
largest_all_le (c ∷ cs) h = omega (arith, largest_le c h.0, largest_all_le cs h.1)

largest_restriction_le : (qs : Restriction) → All (NeqNumbers SymbolNumber VariableNumber) qs → largest_restriction qs ≤ 999
largest_restriction_le [] h = omega arith
largest_restriction_le (q ∷ qs) h = omega (arith, largest_le (atm q.left) h.0.0, largest_le (atm q.right) h.0.1, largest_restriction_le qs h.1)

pub record Numbers (s : SProg) (t : SJob) : Type 0 where
  pub program : ProgNumbers SymbolNumber NameNumber (prog s)
  pub job : ClassNumbers SymbolNumber VariableNumber (class t)
  pub largest : largest_all (exp t.out ∷ exps t.ins) ≤ 999
  pub largest_neqs : largest_restriction (class t).neqs ≤ 999
  pub fresh : first_fresh (class t) ≤ 1000

numbers_from : (s : SProg) (t : SJob) → ProgNumbers SymbolNumber NameNumber (prog s) → ClassNumbers SymbolNumber VariableNumber (class t) → Numbers s t
numbers_from s t h k =
    let l = largest_all_le (exp t.out ∷ exps t.ins) (k.1, k.0) in
    let m = largest_restriction_le (class t).neqs k.2 in
    record { program = h; job = k; largest = l; largest_neqs = m; fresh = omega arith }

reading_numbers : (tool : Tool) (p j : List ℕ) → OfReading Numbers (reading tool p j)
unfolding reading read_program read_job
reading_numbers tool p j = both (read_program p) (text_reads of_program 32768 Grammar.program program_verdict [] p SymbolNumber (text_numbered of_program [] p) (program_reads SymbolNumber) program_stated)
  where
    job : (s : SProg) → ProgNumbers SymbolNumber NameNumber (prog s) → (x : Res SJob) → OfRes (JobNumbers SymbolNumber) x → OfReading Numbers (with_job s x)
    job s h (ok t) k = numbers_from s t h (class_numbers t k)
    job s h (refused r) k = k

    both : (x : Res SProg) → OfRes (λ s. ProgNumbers SymbolNumber NameNumber (prog s)) x → OfReading Numbers (with_program (λ s. read_job tool s (symbols_of [] p) j) x)
    both (ok s) h =
        let xs = params s.main.params in
        job s h (read_job tool s (symbols_of [] p) j) (text_reads of_job 8192 Grammar.job_text (job_verdict tool xs) (symbols_of [] p) j SymbolNumber (text_numbered of_job (symbols_of [] p) j) (job_reads SymbolNumber) (job_stated tool xs))
    both (refused r) h = h

pub accepted_numbers : (tool : Tool) (p j : List ℕ) (s : SProg) (t : SJob) → reading tool p j ≡ accepted s t → Numbers s t
accepted_numbers tool p j s t e = subst (OfReading Numbers) e (reading_numbers tool p j)

-- "texts .. outside the rules are refused by the stated number"
pub rejected_number : (tool : Tool) (p j : List ℕ) (x : Text) (r : Refusal) → reading tool p j ≡ rejected x r → Stated r.number
rejected_number tool p j x r e = subst (OfReading Numbers) e (reading_numbers tool p j)
