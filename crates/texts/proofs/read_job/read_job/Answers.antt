use mathlib.Core.Path.{refl, sym, ◌∙◌}
use Rattle.texts.proofs.ReadLaws.{job_short, job_found}
use Rattle.texts.proofs.Reading.{job_out}
use Rattle.texts.proofs.read_job.read_job.Goals as goal

pub returns-then-not-long_enough : goal.returns-then-not-long_enough
returns-then-not-long_enough c =
    let b = c.args.before in
    job_out c.args.runs b.text.now b.marks.now b.tokens c.args.text.now c.args.marks.now c.args.nums.now c.args.ats.now c.args.symbols.now b.symbols c.args.names.now (
    rw (job_short c.args.marks.now c.args.nums.now c.args.ats.now c.args.symbols.now c.args.names.now c.args.runs b.text.now b.marks.now b.tokens c.args.text.now b.symbols (sym c.long_enough.ensures ∙ c.if-not-long_enough.true))
    (record { answer = refl; marks_out = refl; nums_out = refl; ats_out = refl; symbols_out = refl; names_out = refl }))

pub returns : goal.returns
returns c =
    let b = c.args.before in
    let f = c.find_job-found in
    job_out c.args.runs b.text.now b.marks.now b.tokens c.args.text.now c.args.marks.now c.args.nums.now c.args.ats.now c.args.symbols.now b.symbols c.args.names.now (
    rw (sym (job_found c.args.marks.now c.args.nums.now c.args.ats.now c.args.symbols.now c.args.names.now c.args.runs b.text.now b.marks.now b.tokens c.args.text.now b.symbols (sym c.long_enough.ensures ∙ c.if-not-long_enough.false) _ _ _ _ _ f.auto.marks f.auto.nums f.auto.ats f.auto.symbols f.auto.names _ f.ensures))
    c.settle.ensures)
