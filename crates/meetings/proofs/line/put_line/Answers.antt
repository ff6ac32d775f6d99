use Rattle.meetings.specs.Twins.LineCells.{line_put}
use Rattle.meetings.proofs.line.put_line.Goals as goal

pub returns : goal.returns
unfolding line_put
returns c =
    rw (
      ← c.wanted_entry-w.ensures,
      ← c.nodes-ins.ensures,
      ← c.entry_size-out.ensures.0,
      ← c.put_header-at.ensures,
      ← c.output_entry.ensures,
      ← c.put_entries.ensures,
      ← c.min-end.ensures,
      ← c.min-sides.ensures,
      ← c.copy.ensures.1,
    )
