use mathlib.Core.Path.{◌≡◌}
use lib.ListN.{drop}
use Rattle.language.specs.Words.{begins}
use Rattle.words.proofs.fit.begins.Given as goal

abbrev pub invariant-loop-i : goal.invariant-loop-i
invariant-loop-i l =
    begins l.start l.word ≡ begins (drop l.i l.start) (drop l.i l.word)
