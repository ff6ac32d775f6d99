use Rattle.pages.proofs.Taken.{page_alone}
use Rattle.pages.proofs.output.write_run.Goals as goal

pub returns-then-taken-n-clause-taken : goal.returns-then-taken-n-clause-taken
returns-then-taken-n-clause-taken g c = page_alone _ _ _ _ _ _ c.run_page-n.ensures.1 c.write_page-taken.ensures.bound c.run_page-n.ensures.0 c.write_page-taken.ensures.taken

pub returns-clause-taken : goal.returns-clause-taken
returns-clause-taken g c = page_alone _ _ _ _ _ _ c.run_page-n.ensures.1 c.write_page-taken.ensures.bound c.run_page-n.ensures.0 c.write_page-taken.ensures.taken
