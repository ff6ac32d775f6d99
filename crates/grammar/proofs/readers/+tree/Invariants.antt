use Rattle.grammar.proofs.readers.+tree.Given as goal

abbrev pub decreases-tree : goal.decreases-tree
decreases-tree l = l.room
