use Rattle.print.proofs.ListTurns.{same_text, named_read}
use Rattle.print.proofs.list.print_named.Goals as goal

pub returns : goal.returns
returns c = let e = c.read-both.ensures in same_text _ _ (named_read _ _ _ _ _ _ _ e.0 e.5 e.6 e.7 c.job_terms-sizes.ensures) c.print_listing.ensures
