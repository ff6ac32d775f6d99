use mathlib.Core.Path.{refl, sym, ◌∙◌}
use Rattle.texts.proofs.ReadLaws.{program_short, program_found}
use Rattle.texts.proofs.Reading.{program_out}
use Rattle.texts.proofs.read_program.read_program.Goals as goal

pub returns-then-not-long_enough : goal.returns-then-not-long_enough
returns-then-not-long_enough c =
    program_out c.args.text.now c.args.marks.now c.args.nums.now c.args.ats.now c.args.symbols.now c.args.names.now (
    rw (program_short c.args.marks.now c.args.nums.now c.args.ats.now c.args.symbols.now c.args.names.now c.args.text.now (sym c.long_enough.ensures ∙ c.if-not-long_enough.true))
    (record { answer = refl; marks_out = refl; nums_out = refl; ats_out = refl; symbols_out = refl; names_out = refl }))

pub returns : goal.returns
returns c =
    let f = c.find_program-found in
    program_out c.args.text.now c.args.marks.now c.args.nums.now c.args.ats.now c.args.symbols.now c.args.names.now (
    rw (sym (program_found c.args.marks.now c.args.nums.now c.args.ats.now c.args.symbols.now c.args.names.now c.args.text.now (sym c.long_enough.ensures ∙ c.if-not-long_enough.false) _ _ _ _ _ f.auto.marks f.auto.nums f.auto.ats f.auto.symbols f.auto.names _ f.ensures))
    c.settle.ensures)
