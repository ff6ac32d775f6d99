-- What is promised of samples (02, request 2), as statements with the evaluation rules of figure 4 and with the forward runner.
use Rattle.std.specs.Prelude.{ℕ, ◌≤◌, ◌<◌, ◌≡◌, Bool, true, false, ◌||◌, List, [], ◌∷◌, ◌++◌, ◌⊎◌, eqb, get_or}
use Rattle.expressions.specs.Expression.{sym, avar, Exp, atm, evar, pair}
use Rattle.expressions.specs.Restriction.{Restriction}
use Rattle.expressions.specs.Class.{IOPair, IOClass, InClass}
use Rattle.language.specs.Program.{eqa, consp, Term, call, conditional, result, Prog}
use Rattle.language.specs.Bytes.{txt}
use Rattle.language.specs.Words.{Word}
use Rattle.language.specs.Tokens.{is_among, of_program, of_job}
use Rattle.language.specs.Reading.{symbol_names}
use Rattle.semantics.specs.Figure4.{Outputs}
use Rattle.semantics.specs.Runner.{Ran, value, ran_over, not_within, runner}
use Rattle.semantics.specs.Answer.{Answer, answered, refused, run}
use Rattle.semantics.specs.Tree.{Line}
use Rattle.listing.specs.Bindings.{has_variable, variables}
use Rattle.listing.specs.Print.{digits, print_value, print_pair}
use Rattle.listing.specs.Sample.{place_of, new_atom, sample, name_q, line_names}

-- the symbol z stands in an expression, in expressions, in a term, in a program, in a job
abbrev pub in_exp : ℕ → Exp → Bool
in_exp z (atm (sym y)) = eqb y z
in_exp z (atm (avar n)) = false
in_exp z (evar n) = false
in_exp z (pair c d) = in_exp z c || in_exp z d

abbrev pub in_exps : ℕ → List Exp → Bool
in_exps z [] = false
in_exps z (c ∷ cs) = in_exp z c || in_exps z cs

abbrev pub in_term : ℕ → Term → Bool
in_term z (call f ds) = in_exps z ds
in_term z (conditional (eqa x y) s t) = in_exp z x || in_exp z y || in_term z s || in_term z t
in_term z (conditional (consp c m n x) s t) = in_exp z c || in_term z s || in_term z t
in_term z (result c) = in_exp z c

abbrev pub in_program : ℕ → Prog → Bool
in_program z [] = false
in_program z (d ∷ p) = in_term z d.body || in_program z p

abbrev pub in_restriction : ℕ → Restriction → Bool
in_restriction z [] = false
in_restriction z (q ∷ qs) = in_exp z (atm q.left) || in_exp z (atm q.right) || in_restriction z qs

abbrev pub in_job : ℕ → IOClass → Bool
in_job z j = in_exps z j.con.ins || in_exp z j.con.out || in_restriction z j.neqs

-- the atom that a line's variable gets
abbrev pub atom_for : IOPair → Exp → ℕ
atom_for c v = new_atom (place_of v (variables c))

-- the sample of a line of the listing of p and j, in n steps
pub record SampleCorrect (p : Prog) (j : IOClass) (n : ℕ) (L : Line) : Type 0 where
  -- "The sample lies in its line."
  pub lies : InClass L.class (sample L.class.con).ins (sample L.class.con).out
  -- "For each line it wants one known input": one of the job's
  pub of_job : InClass j (sample L.class.con).ins (sample L.class.con).out
  -- "The published evaluation gives the wanted output on it, in the line's number of steps"
  pub within : L.steps ≤ n
  pub outputs : Outputs p (sample L.class.con).ins L.steps (sample L.class.con).out
  -- "giving every variable left in the line an atom of its own"
  pub own : (v w : Exp) → has_variable v (variables L.class.con) ≡ true → has_variable w (variables L.class.con) ≡ true → atom_for L.class.con v ≡ atom_for L.class.con w → v ≡ w
  -- "none a symbol of program or job"
  pub new : (v : Exp) → (in_program (atom_for L.class.con v) p ≡ false) × (in_job (atom_for L.class.con v) j ≡ false)

-- the name that the atom of a line's variable is printed by
abbrev pub name_for : List Word → IOPair → Exp → Word
name_for ns c v = get_or (line_names ns c) (atom_for c v) []

-- the names of a line's sample, where ns are those of the symbols of program and job
pub record SampleNamed (ns : List Word) (c : IOPair) : Type 0 where
  -- "New atoms are named Q and a number from 1 up": every variable has such a name
  pub named : (v : Exp) → has_variable v (variables c) ≡ true → (k : ℕ) × (1 ≤ k) × (name_for ns c v ≡ name_q k)
  -- "by first standing in inputs, then output": a later variable has a larger number
  pub rising : (v w : Exp) (k l : ℕ) → has_variable v (variables c) ≡ true → has_variable w (variables c) ≡ true → name_for ns c v ≡ name_q k → name_for ns c w ≡ name_q l → place_of v (variables c) < place_of w (variables c) → k < l
  -- "from 1 up": a smaller number whose name is no symbol's is that of an earlier new atom
  pub least : (v : Exp) (k i : ℕ) → has_variable v (variables c) ≡ true → name_for ns c v ≡ name_q k → 1 ≤ i → i < k → is_among (name_q i) ns ≡ false → (h : ℕ) × (h < place_of v (variables c)) × (get_or (line_names ns c) (new_atom h) [] ≡ name_q i)
  -- "leaving out symbols of program or job"
  pub new : (v : Exp) → has_variable v (variables c) ≡ true → is_among (name_for ns c v) ns ≡ false
  -- symbols keep their names
  pub symbols : (z : ℕ) → z < 1024 → get_or (line_names ns c) z [] ≡ get_or ns z []

-- "and so does the forward runner unless the sample passes a limit of .. 21"; 1 and 5 are limits of texts
abbrev pub SampleRun : Prog → ℕ → Line → Type 0
SampleRun p n L = let c = sample L.class.con in (runner p n c.ins ≡ value L.steps c.out) ⊎ (runner p n c.ins ≡ ran_over)

-- The sample as a job text with the line's job's steps: D as it is printed under the line.
abbrev pub sample_job : List Word → ℕ → IOPair → List ℕ
sample_job ns n c = txt "(job " ++ print_pair (line_names ns c) (sample c) (txt " (neq) (steps " ++ digits n ++ txt ") (walk 0) (table 0))")

-- "and so does the forward runner unless the sample passes a limit of 1, 5 or 21": m are the line's steps, d is the printed output
abbrev pub RunsTo : List Word → ℕ → List ℕ → Answer Ran → Type 0
RunsTo ns m d (answered (value k v)) = (k ≡ m) × (print_value ns v ≡ d)
RunsTo ns m d (answered ran_over) = Unit {0}
RunsTo ns m d (answered not_within) = ⊥
RunsTo ns m d (refused of_program r) = ⊥
RunsTo ns m d (refused of_job r) = (r.number ≡ 1) ⊎ (r.number ≡ 5)

-- the runner on the sample of a line of the listing of p and j, whose steps are n
abbrev pub SampleTextRuns : List ℕ → List ℕ → ℕ → Line → Type 0
SampleTextRuns p j n L =
    let c = L.class.con in
    let ns = symbol_names p j in
    let k = sample_job ns n c in
    RunsTo (symbol_names p k) L.steps (print_value (line_names ns c) (sample c).out) (run p k)
