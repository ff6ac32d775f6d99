-- The branches of a `cons?` by what it tests, over cells of any content.
use Rattle.std.specs.Prelude.{ℕ, true, false, List, Err}
use Rattle.restrictions.specs.declared.failure.Failure.TheVariants.{Over}
use Rattle.heap.specs.Twins.Moving.{Move, moved}
use Rattle.heap.specs.declared.configuration.Configuration.{Configuration}
use Rattle.looking.specs.Twins.Taking.{pair_taken, atom_taken}
use Rattle.pairs.specs.Twins.Splitting.{pair_split, atom_split}
use Rattle.looking.specs.declared.look.Tested.{Tested}
use Rattle.looking.specs.declared.look.Tested.TheVariants.{Atom, Pair, Variable, Large}
use Rattle.heap.specs.declared.configuration.Branches.{Branches}

abbrev pub branches_of : Tested → Branches
branches_of (Atom from to used) = record { yes = false; no = true }
branches_of (Pair from mid to used) = record { yes = true; no = false }
branches_of (Variable x) = record { yes = true; no = true }
branches_of Large = record { yes = true; no = false }

unfoldable pub true_taken : List ℕ → Configuration → Tested → List ℕ → List ℕ → Move
true_taken code c (Atom from to used) h f = moved (Err Over) h f
true_taken code c (Pair from mid to used) h f = let w = pair_taken code c from mid to used f in moved w.answer h w.frame
true_taken code c (Variable x) h f = pair_split code c x h f
true_taken code c Large h f = moved (Err Over) h f

unfoldable pub false_taken : List ℕ → Configuration → Tested → List ℕ → List ℕ → Move
false_taken code c (Atom from to used) h f = let w = atom_taken code c from to used f in moved w.answer h w.frame
false_taken code c (Pair from mid to used) h f = moved (Err Over) h f
false_taken code c (Variable x) h f = atom_split code c x h f
false_taken code c Large h f = moved (Err Over) h f
