use Rattle.samples.proofs.Turns.{table_made}
use Rattle.samples.proofs.names.name_table.Goals as goal

pub returns : goal.returns
returns c =
    let a = c.args in
    table_made a.program.now a.job.now a.symbols.now a.table.now _ _ _ c.mark_taken.ensures c.copy_entries.ensures c.put_free.ensures
