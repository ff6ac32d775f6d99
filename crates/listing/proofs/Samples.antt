-- The sample of a line of a listing lies in it and runs to its output in its steps (02, request 2).
use Prim.Native.Nat.{ℕ, suc, ◌≤◌}
use mathlib.Core.Path.{◌≡◌, refl, ap, ap₂, ◌∙◌, sym as inv}
use mathlib.Core.Bool.{Bool, true, false, cond, ◌||◌, false≢true}
use mathlib.Core.List.{List, [], ◌∷◌}
use native.Mathlib.Omega.{arith}
use borrow.Author.Tests.{eqb-false, eqb-true, ne_eqb}
use Rattle.expressions.specs.Expression.{AtomicExp, sym, avar, Exp, atm, evar, pair}
use Rattle.expressions.specs.Substitution.{ground_atomic}
use Rattle.expressions.specs.Restriction.{Restriction, Satisfies, same_atomic}
use Rattle.expressions.specs.Class.{IOClass, InClass}
use Rattle.expressions.proofs.Predicates.{All as Each}
use Rattle.expressions.proofs.Tests.{and_both}
use Rattle.expressions.proofs.Numbers.{AtomicNumbers, ExpNumbers, NeqNumbers, ClassNumbers}
use Rattle.expressions.proofs.Simplification.{same_atomic_eq, Consistent}
use Rattle.language.specs.Program.{eqa, consp, Term, call, conditional, result, Prog, find}
use Rattle.language.specs.Source.{SProg, SJob, prog, class}
use Rattle.language.specs.JobCheck.{lister}
use Rattle.language.specs.Reading.{accepted, reading}
use Rattle.language.proofs.Acceptance.{accepted_passed}
use Rattle.language.proofs.Numbers.{TermNumbers, ProgNumbers, accepted_numbers}
use Rattle.language.proofs.TokenNumbers.{SymbolNumber, NameNumber, VariableNumber}
use Rattle.semantics.specs.Lists.{All}
use Rattle.semantics.specs.Tree.{Line}
use Rattle.semantics.specs.Walk.{lines_of}
use Rattle.semantics.specs.Answer.{walked}
use Rattle.semantics.proofs.Environments.{class_fits}
use Rattle.semantics.proofs.RunnerCorrectness.{runner_correct}
use Rattle.semantics.proofs.SymbolNumbers.{AnyNumber}
use Rattle.semantics.proofs.AcceptedTexts.{LineSound, listed_sound, listed_symbols}
use Rattle.listing.specs.Bindings.{same, has_variable, variables}
use Rattle.listing.specs.Sample.{place_of, sampling, sample}
use Rattle.listing.specs.SampleDemand.{in_exp, in_exps, in_term, in_program, in_restriction, in_job, atom_for, SampleCorrect, SampleRun}

pub same_is : (c d : Exp) → same c d ≡ true → c ≡ d
same_is (atm x) (atm y) q = ap atm (same_atomic_eq x y q)
same_is (atm x) (evar n) q = absurd (false≢true q)
same_is (atm x) (pair c d) q = absurd (false≢true q)
same_is (evar m) (atm y) q = absurd (false≢true q)
same_is (evar m) (evar n) q = ap evar (eqb-true m n q)
same_is (evar m) (pair c d) q = absurd (false≢true q)
same_is (pair a b) (atm y) q = absurd (false≢true q)
same_is (pair a b) (evar n) q = absurd (false≢true q)
same_is (pair a b) (pair c d) q = let w = and_both (same a c) (same b d) q in ap₂ pair (same_is a c w.0) (same_is b d w.1)

-- the variables that may stand in a non-equality: of each the place is its own, whether it stands in the line or not
abbrev va : ℕ → Exp
va n = atm (avar n)

number : Exp → ℕ
number (atm (avar k)) = k
number (atm (sym z)) = 0
number (evar k) = 0
number (pair c d) = 0

place_apart : (m n : ℕ) (vs : List Exp) → place_of (va m) vs ≡ place_of (va n) vs → m ≡ n
unfolding number
place_apart m n [] e = omega arith
place_apart m n (v ∷ vs) e = pick (same v (va m)) refl (same v (va n)) refl (place_apart m n vs) e
  where
    pick : (s : Bool) → same v (va m) ≡ s → (t : Bool) → same v (va n) ≡ t → (place_of (va m) vs ≡ place_of (va n) vs → m ≡ n) → cond s 0 (suc (place_of (va m) vs)) ≡ cond t 0 (suc (place_of (va n) vs)) → m ≡ n
    pick true q true r ih f = ap number (inv (same_is v (va m) q) ∙ same_is v (va n) r)
    pick true q false r ih f = absurd (omega arith)
    pick false q true r ih f = absurd (omega arith)
    pick false q false r ih f = ih (omega arith)

apart : (vs : List Exp) (x y : AtomicExp) → same_atomic x y ≡ false → AtomicNumbers SymbolNumber AnyNumber x → AtomicNumbers SymbolNumber AnyNumber y → ground_atomic (sampling vs) x ≡ ground_atomic (sampling vs) y → ⊥
apart vs (sym y) (sym z) e h k f = eqb-false y z e f
apart vs (sym y) (avar n) e h k f = omega arith
apart vs (avar m) (sym z) e h k f = omega arith
apart vs (avar m) (avar n) e h k f = eqb-false m n e (place_apart m n vs (omega arith))

sampling_satisfies : (vs : List Exp) (qs : Restriction) → Consistent qs → Each (NeqNumbers SymbolNumber AnyNumber) qs → Satisfies (sampling vs) qs
sampling_satisfies vs [] c h = tt
sampling_satisfies vs (q ∷ qs) c h = (apart vs q.left q.right c.0 h.0.0 h.0.1, sampling_satisfies vs qs c.1 h.1)

-- "The sample lies in its line."
pub sample_lies : (P : IOClass) → Consistent P.neqs → Each (NeqNumbers SymbolNumber AnyNumber) P.neqs → InClass P (sample P.con).ins (sample P.con).out
sample_lies P c h = record { θ = sampling (variables P.con); sat = sampling_satisfies (variables P.con) P.neqs c h; is = refl }

-- "giving every variable left in the line an atom of its own"
place_own : (v w : Exp) (vs : List Exp) → has_variable v vs ≡ true → has_variable w vs ≡ true → place_of v vs ≡ place_of w vs → v ≡ w
place_own v w [] h k e = absurd (false≢true h)
place_own v w (u ∷ us) h k e = pick (same u v) refl (same u w) refl (place_own v w us) h k e
  where
    pick : (s : Bool) → same u v ≡ s → (t : Bool) → same u w ≡ t → (has_variable v us ≡ true → has_variable w us ≡ true → place_of v us ≡ place_of w us → v ≡ w) →
        (s || has_variable v us) ≡ true → (t || has_variable w us) ≡ true → cond s 0 (suc (place_of v us)) ≡ cond t 0 (suc (place_of w us)) → v ≡ w
    pick true q true r ih h k f = inv (same_is u v q) ∙ same_is u w r
    pick true q false r ih h k f = absurd (omega arith)
    pick false q true r ih h k f = absurd (omega arith)
    pick false q false r ih h k f = ih h k (omega arith)

-- "none a symbol of program or job": what is 1,024 or more is none
module _ (z : ℕ) (high : 1024 ≤ z) where
  exp_free : (N : ℕ → Type 0) (c : Exp) → ExpNumbers SymbolNumber N c → in_exp z c ≡ false
  exp_free N (atm (sym y)) h = ne_eqb y z (λ e. omega arith)
  exp_free N (atm (avar n)) h = refl
  exp_free N (evar n) h = refl
  exp_free N (pair c d) h = ap₂ ◌||◌ (exp_free N c h.0) (exp_free N d h.1)

  exps_free : (N : ℕ → Type 0) (cs : List Exp) → Each (ExpNumbers SymbolNumber N) cs → in_exps z cs ≡ false
  exps_free N [] h = refl
  exps_free N (c ∷ cs) h = ap₂ ◌||◌ (exp_free N c h.0) (exps_free N cs h.1)

  term_free : (N : ℕ → Type 0) (t : Term) → TermNumbers SymbolNumber N t → in_term z t ≡ false
  term_free N (call f ds) h = exps_free N ds h
  term_free N (conditional (eqa x y) s t) h = ap₂ ◌||◌ (ap₂ ◌||◌ (ap₂ ◌||◌ (exp_free N x h.0.0) (exp_free N y h.0.1)) (term_free N s h.1)) (term_free N t h.2)
  term_free N (conditional (consp c m n x) s t) h = ap₂ ◌||◌ (ap₂ ◌||◌ (exp_free N c h.0.0) (term_free N s h.1)) (term_free N t h.2)
  term_free N (result c) h = exp_free N c h

  program_free : (N : ℕ → Type 0) (p : Prog) → ProgNumbers SymbolNumber N p → in_program z p ≡ false
  program_free N [] h = refl
  program_free N (d ∷ p) h = ap₂ ◌||◌ (term_free N d.body h.0.1) (program_free N p h.1)

  restriction_free : (N : ℕ → Type 0) (qs : Restriction) → Each (NeqNumbers SymbolNumber N) qs → in_restriction z qs ≡ false
  restriction_free N [] h = refl
  restriction_free N (q ∷ qs) h = ap₂ ◌||◌ (ap₂ ◌||◌ (exp_free N (atm q.left) h.0.0) (exp_free N (atm q.right) h.0.1)) (restriction_free N qs h.1)

  job_free : (N : ℕ → Type 0) (j : IOClass) → ClassNumbers SymbolNumber N j → in_job z j ≡ false
  job_free N j h = ap₂ ◌||◌ (ap₂ ◌||◌ (exps_free N j.con.ins h.0) (exp_free N j.con.out h.1)) (restriction_free N j.neqs h.2)

pub all_two : {A : Type 0} (P Q R : A → Type 0) → ((x : A) → P x → Q x → R x) → (xs : List A) → All P xs → All Q xs → All R xs
all_two P Q R f [] h k = tt
all_two P Q R f (x ∷ xs) h k = (f x h.0 k.0, all_two P Q R f xs h.1 k.1)

all_of : {A : Type 0} (P Q : A → Type 0) → ((x : A) → P x → Q x) → (xs : List A) → All P xs → All Q xs
all_of P Q f [] h = tt
all_of P Q f (x ∷ xs) h = (f x h.0, all_of P Q f xs h.1)

module _ (p j : List ℕ) (s : SProg) (t : SJob) (e : reading lister p j ≡ accepted s t) where
  abbrev Correct : Line → Type 0
  Correct L = SampleCorrect (prog s) (class t) t.steps.num L

  abbrev Sound : Line → Type 0
  Sound L = Consistent L.class.neqs × LineSound p j s t e L

  abbrev Symbols : Line → Type 0
  Symbols L = ClassNumbers SymbolNumber AnyNumber L.class

  sample_correct : (L : Line) → Sound L → Symbols L → Correct L
  sample_correct L h k =
      let c = sample L.class.con in
      let vs = variables L.class.con in
      let l = sample_lies L.class h.0 k.2 in
      let r = h.1 c.ins c.out l in
      let n = accepted_numbers lister p j s t e in
      record {
        lies = l;
        of_job = r.0;
        within = r.1;
        outputs = r.2;
        own = λ v w a b f. place_own v w vs a b (omega arith);
        new = λ v. (program_free (atom_for L.class.con v) (omega arith) NameNumber (prog s) n.program, job_free (atom_for L.class.con v) (omega arith) VariableNumber (class t) n.job);
      }

  -- "For each line", stopped or not
  pub sampled_correct : All (SampleCorrect (prog s) (class t) t.steps.num) (lines_of (walked s t))
  sampled_correct =
      let n = accepted_numbers lister p j s t e in
      all_two Sound Symbols Correct sample_correct (lines_of (walked s t)) (listed_sound p j s t e) (listed_symbols p j s t e SymbolNumber NameNumber VariableNumber n.program n.job)

  -- "and so does the forward runner unless the sample passes a limit of .. 21"
  pub sample_runs : All (SampleRun (prog s) t.steps.num) (lines_of (walked s t))
  sample_runs =
      let a = accepted_passed lister p j s t e in
      all_of Correct (SampleRun (prog s) t.steps.num) (λ L h.
      let c = sample L.class.con in
      let f = class_fits (find (prog s) 0).params (class t) c.ins c.out a.fits h.of_job in
      (runner_correct (prog s) t.steps.num c.ins a.admitted f).complete L.steps c.out h.within h.outputs)
      (lines_of (walked s t)) sampled_correct
