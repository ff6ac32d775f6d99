use Prim.Native.Nat.{ℕ, ◌*◌}
use mathlib.Core.Path.{ap}
use mathlib.Core.List.{List}
use lib.ListN.{take}
use Rattle.print.specs.Twins.ListedText.{terms_left, table_listing}
use Rattle.print.proofs.ListTurns.{same_text, names_made, names_kept}
use Rattle.print.proofs.list.print_listing.Goals as goal

pub returns-then-sizes : goal.returns-then-sizes
returns-then-sizes c =
    let a = c.args in
    let cut = take (2 * a.sizes.symbols) a.symbols.now in
    let t = terms_left a.sizes a.terms.now in
    same_text _ _ (ap (λ (x : List ℕ). table_listing a.program.now a.job.now x t a.answer.now a.first.word a.first.lines a.first.count) (names_made a.program.now a.job.now cut _ a.sizes.samples c.front-table.ensures _ c.if-sizes.true c.name_table.ensures)) c.print_by_names.ensures

pub returns : goal.returns
returns c =
    let a = c.args in
    let cut = take (2 * a.sizes.symbols) a.symbols.now in
    let t = terms_left a.sizes a.terms.now in
    same_text _ _ (ap (λ (x : List ℕ). table_listing a.program.now a.job.now x t a.answer.now a.first.word a.first.lines a.first.count) (names_kept a.program.now a.job.now cut _ a.sizes.samples c.front-table.ensures c.if-sizes.false)) c.print_by_names-2.ensures
