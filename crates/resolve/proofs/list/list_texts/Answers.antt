use Rattle.resolve.proofs.ListMeaning.{list_left}
use Rattle.resolve.proofs.list.list_texts.Goals as goal

pub returns : goal.returns
returns c = let a = c.args in list_left a.program.now a.job.now a.work.now a.answer.now c.read-both.ensures c.list_read.ensures
