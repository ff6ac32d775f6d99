-- Numbers on the paths of accepted texts: symbols below 1,024, variables below 13,291, whatever the length of a path.
use Prim.Native.Nat.{ℕ, ◌≤◌}
use mathlib.Core.Path.{◌≡◌}
use mathlib.Core.Bool.{false}
use mathlib.Core.List.{List}
use native.Mathlib.Omega.{arith}
use Rattle.language.specs.Source.{SProg, SJob, prog, class}
use Rattle.language.specs.JobCheck.{Tool}
use Rattle.language.specs.Reading.{accepted, reading}
use Rattle.language.proofs.TokenNumbers.{SymbolNumber, NameNumber, VariableNumber}
use Rattle.language.proofs.Numbers.{accepted_numbers}
use Rattle.expressions.specs.Split.{first_fresh}
use Rattle.semantics.specs.Configuration.{Configuration, start}
use Rattle.semantics.specs.Tree.{tree_of}
use Rattle.semantics.specs.Walk.{state_over, Limits, walk_from, state_of}
use Rattle.semantics.proofs.Invariants.{OfTree, OfWalk}
use Rattle.semantics.proofs.FreshNumbers.{Numbered, fresh_bounded}
use Rattle.semantics.proofs.SymbolNumbers.{Symbols, tree_symbols, walk_symbols}

module _ (tool : Tool) (p j : List ℕ) (s : SProg) (t : SJob) (e : reading tool p j ≡ accepted s t) where
  -- a configuration that 21 does not stop; a transition from it takes three numbers more at most (successors-fresh)
  pub accepted_fresh : (c : Configuration) → Numbered (first_fresh (class t)) c → state_over c.cr ≡ false → c.fresh ≤ 13288
  accepted_fresh c H o = omega (arith, fresh_bounded (first_fresh (class t)) c H o, (accepted_numbers tool p j s t e).fresh)

  pub accepted_tree_symbols : (n : ℕ) → OfTree (Symbols SymbolNumber NameNumber) (tree_of (prog s) n (start (prog s) (class t)))
  accepted_tree_symbols n = let r = accepted_numbers tool p j s t e in tree_symbols SymbolNumber NameNumber (omega arith) VariableNumber (prog s) (class t) n r.program r.job

  pub accepted_walk_symbols : (lim : Limits) (n : ℕ) → OfWalk (Symbols SymbolNumber NameNumber) (state_of (walk_from (prog s) lim n (start (prog s) (class t))))
  accepted_walk_symbols lim n = let r = accepted_numbers tool p j s t e in walk_symbols SymbolNumber NameNumber (omega arith) VariableNumber (prog s) (class t) lim n r.program r.job
