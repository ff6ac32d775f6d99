use borrow.Author.Rules.{rules}
use Rattle.pairs.specs.Twins.Branching.{false_taken}
use Rattle.pairs.proofs.branch.take_false.Goals as goal

pub returns-in-Atom : goal.returns-in-Atom
unfolding false_taken
returns-in-Atom c = rw (c.in-Atom.is, ← c.take_atom.ensures)

pub returns-in-Pair : goal.returns-in-Pair
unfolding false_taken
returns-in-Pair c = search rules

pub returns-in-Variable : goal.returns-in-Variable
unfolding false_taken
returns-in-Variable c = rw c.in-Variable.is c.split_atom.ensures
