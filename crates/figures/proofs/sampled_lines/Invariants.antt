use lib.ListN.{length}
use Rattle.figures.proofs.sampled_lines.Given as goal

abbrev pub decreases-loop-rest : goal.decreases-loop-rest
decreases-loop-rest g l = length l.rest
