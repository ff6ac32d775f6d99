use Rattle.std.proofs.Common.{rules}
use Rattle.pages.proofs.Taken.{page_on, page_over}
use Rattle.pages.proofs.output.write_list.Goals as goal

pub returns-then-taken-n-clause-taken : goal.returns-then-taken-n-clause-taken
returns-then-taken-n-clause-taken g c = λ h.
    let i = c.loop-k.invariant in
    let e = c.write_page-taken.ensures in
    page_on _ _ _ _ _ _ _ _ _ i.1 (i.4 h).0 e.bound i.2 (i.4 h).1 e.taken

pub loop-k-preserved : goal.loop-k-preserved
loop-k-preserved g c =
    let i = c.loop-k.invariant in
    let e = c.write_page-taken.ensures in (
      search rules,
      search rules,
      search rules,
      search rules,
      λ h. (search rules, page_over _ _ _ _ _ _ _ _ _ i.1 (i.4 h).0 e.bound (search rules) (search rules) i.2 (i.4 h).1 e.taken),
    )
