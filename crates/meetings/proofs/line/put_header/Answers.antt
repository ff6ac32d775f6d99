use Rattle.meetings.specs.Twins.LineCells.{header_put}
use Rattle.meetings.proofs.line.put_header.Goals as goal

pub returns : goal.returns
unfolding header_put
returns c =
    rw (
      ← c.min-at.ensures,
      ← c.narrow.ensures,
      ← c.put.ensures,
      ← c.narrow-2.ensures,
      ← c.put-2.ensures,
      ← c.narrow-3.ensures,
      ← c.put-3.ensures,
      ← c.narrow-4.ensures,
      ← c.put-4.ensures,
    )
