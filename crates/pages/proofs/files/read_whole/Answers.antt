use Rattle.std.proofs.Common.{◌≤◌, length, rules, sym}
use Rattle.pages.proofs.Whole.{whole_read}
use Rattle.pages.proofs.files.read_whole.Goals as goal

pub returns-in-Ok-clause-bytes : goal.returns-in-Ok-clause-bytes
returns-in-Ok-clause-bytes g c =
    let e = c.in-Ok.ensures in
    let within : c.in-Ok.n ≤ length c.args.buf.now = search rules in
    whole_read _ _ c.in-Ok.n (length c.args.buf.now) c.read_full.new.buf within (sym e.bound.1) e.bytes e.end
