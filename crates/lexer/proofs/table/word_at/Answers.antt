use Rattle.words.specs.Twins.Cutting.{word_at}
use Rattle.lexer.proofs.table.word_at.Goals as goal

pub returns : goal.returns
unfolding word_at
returns c =
    rw (← c.piece_end-end.ensures) c.part.ensures
