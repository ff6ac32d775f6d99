-- Numbers at an end: those of the output, so those of all that its intersection with the wanted output makes.
use Prim.Native.Nat.{ℕ, ◌<◌}
use mathlib.Core.Path.{◌≡◌, refl, subst}
use mathlib.Core.List.{List, [], ◌∷◌}
use native.Mathlib.Omega.{arith}
use Rattle.expressions.specs.Expression.{AtomicExp, sym, avar, Exp, atm, evar, pair}
use Rattle.expressions.specs.Substitution.{apply}
use Rattle.expressions.specs.Restriction.{Restriction}
use Rattle.expressions.specs.Contraction.{CRPair}
use Rattle.expressions.specs.Split.{largest_atomic, largest, largest_all, largest_restriction}
use Rattle.expressions.specs.Intersection.{NodeLimit, intersect}
use Rattle.expressions.proofs.Predicates.{All}
use Rattle.expressions.proofs.Numbers.{AtomicNumbers, ExpNumbers, NeqNumbers, MeetingNumbers, IntersectedNumbers, intersect_numbers}
use Rattle.language.specs.Program.{eqa, consp, Term, call, conditional, result, Prog}
use Rattle.language.proofs.Numbers.{TermNumbers}
use Rattle.semantics.specs.Configuration.{subst_of_env, state}
use Rattle.semantics.specs.Trace.{Successors, terminal, called, branches, trace_pair, successors_of, successors}
use Rattle.semantics.specs.Tree.{Node, meeting_at}
use Rattle.semantics.proofs.FreshNumbers.{Numbered, value_below}
use Rattle.semantics.proofs.SymbolNumbers.{AnyNumber, Symbols, value_symbols}

-- of the output at an end, which is that of a result
abbrev OfTerminal : (Exp → Type 0) → Successors → Type 0
OfTerminal Q (terminal u) = Q u
OfTerminal Q (called c) = Unit {0}
OfTerminal Q (branches a b) = Unit {0}

terminal_holds : (Q : Exp → Type 0) (p : Prog) (P : CRPair state) (t : Term) (k : ℕ) → ((c : Exp) → t ≡ result c → Q (apply (subst_of_env P.con.env) c)) →
    OfTerminal Q (successors_of p P t k)
unfolding successors_of
terminal_holds Q p P (result c) k h = h c refl
terminal_holds Q p P (call f ds) k h = tt
terminal_holds Q p P (conditional (eqa x y) s t) k h = tt
terminal_holds Q p P (conditional (consp c m t x) s u) k h = opened (apply (subst_of_env P.con.env) c)
  where
    opened : (v : Exp) → OfTerminal Q (trace_pair m t x s u P k v)
    opened (atm y) = tt
    opened (evar n) = tt
    opened (pair c d) = tt

-- the two properties of numbers at once
module _ (S : ℕ → Type 0) (k : ℕ) where
  abbrev Lower : ℕ → Type 0
  Lower n = n < k

  atomic_numbers : (x : AtomicExp) → AtomicNumbers S AnyNumber x → largest_atomic x < k → AtomicNumbers S Lower x
  atomic_numbers (sym z) h l = h
  atomic_numbers (avar n) h l = l

  exp_numbers : (c : Exp) → ExpNumbers S AnyNumber c → largest c < k → ExpNumbers S Lower c
  exp_numbers (atm x) h l = atomic_numbers x h l
  exp_numbers (evar n) h l = l
  exp_numbers (pair c d) h l = (exp_numbers c h.0 (omega arith), exp_numbers d h.1 (omega arith))

  exps_numbers : (cs : List Exp) → All (ExpNumbers S AnyNumber) cs → largest_all cs < k → All (ExpNumbers S Lower) cs
  exps_numbers [] h l = tt
  exps_numbers (c ∷ cs) h l = (exp_numbers c h.0 (omega arith), exps_numbers cs h.1 (omega arith))

  neqs_numbers : (qs : Restriction) → All (NeqNumbers S AnyNumber) qs → largest_restriction qs < k → All (NeqNumbers S Lower) qs
  neqs_numbers [] h l = tt
  neqs_numbers (q ∷ qs) h l = ((atomic_numbers q.left h.0.0 (omega arith), atomic_numbers q.right h.0.1 (omega arith)), neqs_numbers qs h.1 (omega arith))

module _ (S N : ℕ → Type 0) (nought : S 0) (b : ℕ) (p : Prog) where
  pub meeting_numbers : (x : Node) (u : Exp) → Numbered b x.conf → Symbols S N x.conf → successors p x.conf ≡ terminal u →
      MeetingNumbers S (λ n. n < x.conf.fresh) (meeting_at x u)
  meeting_numbers x u H G e = (
    exps_numbers S k P.con.io.ins G.0.ins H.ins,
    exp_numbers S k P.con.io.out G.0.out H.out,
    subst (OfTerminal (ExpNumbers S (λ n. n < k))) e (terminal_holds (ExpNumbers S (λ n. n < k)) p P x.conf.term k (λ c q.
        exp_numbers S k (apply (subst_of_env P.con.env) c) (value_symbols S N nought P k G.0 c (subst (TermNumbers S N) q G.1)) (value_below b k P H c).0)),
    neqs_numbers S k P.neqs G.0.neqs H.neqs,
  )
    where
      P : CRPair state
      P = x.conf.cr

      k : ℕ
      k = x.conf.fresh

  pub end_numbers : (over : NodeLimit) (x : Node) (u : Exp) → Numbered b x.conf → Symbols S N x.conf → successors p x.conf ≡ terminal u →
      IntersectedNumbers S (λ n. n < x.conf.fresh) (intersect over (meeting_at x u))
  end_numbers over x u H G e = intersect_numbers S (λ n. n < x.conf.fresh) over (meeting_at x u) (meeting_numbers x u H G e)
