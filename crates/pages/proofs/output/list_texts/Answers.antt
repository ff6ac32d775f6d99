-- The text is printed from what `first_page` answered and left.
use Rattle.pages.proofs.Shown.{first_bytes, taken_text, why_text}
use Rattle.pages.proofs.Taken.{taken_of, first_shown}
use Rattle.print.specs.Twins.ListedText.{listed_with}
use Rattle.pages.specs.Written.{listed, listed_bytes, written_listing}
use Rattle.pages.proofs.output.list_texts.Goals as goal

pub write_list-written-requires : goal.write_list-written-requires
write_list-written-requires g c =
    let a = c.args in
    let e = c.first_page-answer.ensures in
    first_bytes (λ cells answer. listed_with a.samples a.program.now a.job.now cells answer) e.0 e.1 e.2

pub returns-clause-whole : goal.returns-clause-whole
unfolding listed listed_bytes
returns-clause-whole g c =
    let a = c.args in
    let w = c.first_page-answer.ensures in
    (w.0, taken_text (λ cells answer. listed_with a.samples a.program.now a.job.now cells answer) w.0 w.1 c.write_list-written.ensures.whole)

pub returns-clause-why : goal.returns-clause-why
unfolding listed_bytes
returns-clause-why g c =
    let a = c.args in
    let w = c.first_page-answer.ensures in
    why_text (λ cells answer. listed_with a.samples a.program.now a.job.now cells answer) w.0 w.1 c.write_list-written.ensures.why

pub returns-clause-taken : goal.returns-clause-taken
unfolding written_listing
returns-clause-taken g c =
    let a = c.args in
    let w = c.first_page-answer.ensures in
    let shown = first_shown (λ cells answer. listed_with a.samples a.program.now a.job.now cells answer) w.0 w.1 w.3 in
    taken_of (λ cells answer. listed_with a.samples a.program.now a.job.now cells answer) _ _ _ w.0 w.1 (c.write_list-written.ensures.taken shown)
