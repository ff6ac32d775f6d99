use Rattle.saving.specs.Twins.Heads.{node_at}
use Rattle.saving.proofs.head.read_head.Goals as goal

pub returns : goal.returns
unfolding node_at
returns c =
    rw (← c.number.ensures, ← c.number-2.ensures, ← c.number-3.ensures, ← c.number-4.ensures, ← c.number-5.ensures, ← c.number-6.ensures, ← c.cell_at.ensures, ← c.number-7.ensures, ← c.number-8.ensures)
