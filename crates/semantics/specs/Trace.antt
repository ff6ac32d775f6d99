-- Tracing as a function, for accepted programs that of figure 10 (proofs/Tracing.antt). Total as evaluation is.
use Rattle.std.specs.Prelude.{ℕ}
use Rattle.std.proofs.Math.Option.{Option, none, some}
use Rattle.expressions.specs.Expression.{avar, Exp, atm, evar, pair}
use Rattle.expressions.specs.Substitution.{apply, apply_atomic}
use Rattle.expressions.specs.Contraction.{CRPair, contract}
use Rattle.expressions.specs.Split.{Split, take_numbers, split_atomic, split_exp}
use Rattle.language.specs.Program.{eqa, consp, Term, call, conditional, result, Prog, find, atom_of}
use Rattle.semantics.specs.Environment.{update_e, update_a, bind_params}
use Rattle.semantics.specs.Configuration.{subst_of_env, state, Configuration, with_env}

-- what a configuration leads to: an end with its output, the configuration behind a call, or the true and the false branch
-- of a condition, where a branch that contradicts is `none`
pub data Successors : Type 0 where
  terminal : Exp → Successors
  called : Configuration → Successors
  branches : Option Configuration → Option Configuration → Successors

abbrev pub configuration : Term → ℕ → Option (CRPair state) → Option Configuration
configuration t k none = none
configuration t k (some P) = some (record { cr = P; term = t; fresh = k })

-- a `cons?` on an expression with its variables' values in
abbrev pub trace_pair : ℕ → ℕ → ℕ → Term → Term → CRPair state → ℕ → Exp → Successors
trace_pair h t x s u P k (atm y) = branches none (configuration u k (some (with_env (update_a x y P.con.env) P)))
trace_pair h t x s u P k (pair c d) = branches (configuration s k (some (with_env (update_e t d (update_e h c P.con.env)) P))) none
trace_pair h t x s u P k (evar n) =
    let f = take_numbers k in
    branches (configuration s f.next (contract (split_exp n f).yes (with_env (update_e t (evar f.tail) (update_e h (evar f.head) P.con.env)) P)))
    (configuration u f.next (contract (split_exp n f).no (with_env (update_a x (avar f.atom) P.con.env) P)))

-- an `eqa?` on two atomic expressions
abbrev pub trace_atomic : Term → Term → CRPair state → ℕ → Split → Successors
trace_atomic s t P k sp = branches (configuration s k (contract sp.yes P)) (configuration t k (contract sp.no P))

unfoldable pub successors_of : Prog → CRPair state → Term → ℕ → Successors
successors_of p P (result c) k = terminal (apply (subst_of_env P.con.env) c)
successors_of p P (call f ds) k = called (record {
  cr = with_env (bind_params (apply (subst_of_env P.con.env)) (apply_atomic (subst_of_env P.con.env)) (find p f).params ds) P;
  term = (find p f).body;
  fresh = k;
})
successors_of p P (conditional (eqa x y) s t) k =
    trace_atomic s t P k (split_atomic (apply_atomic (subst_of_env P.con.env) (atom_of x)) (apply_atomic (subst_of_env P.con.env) (atom_of y)))
successors_of p P (conditional (consp c h t x) s u) k = trace_pair h t x s u P k (apply (subst_of_env P.con.env) c)

abbrev pub successors : Prog → Configuration → Successors
successors p c = successors_of p c.cr c.term c.fresh
