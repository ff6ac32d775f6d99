use Rattle.meet.proofs.reader.+expression.Given as goal

abbrev pub decreases-expression : goal.decreases-expression
decreases-expression l = l.open
