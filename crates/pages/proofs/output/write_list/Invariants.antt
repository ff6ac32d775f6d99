-- Before page k, which is there, all bytes of the full pages before it were taken, and the text has that many; the first page that is not full ends it.
use Rattle.std.proofs.Common.{◌≡◌, ◌≤◌, ◌-◌, ◌*◌, min, length, take}
use Rattle.std.specs.Io.KnownBytes.{Appends}
use Rattle.window.specs.Windows.{windowed}
use Rattle.print.specs.Twins.ListedText.{listed_with}
use Rattle.pages.proofs.output.write_list.Given as goal

abbrev pub invariant-loop-k : goal.invariant-loop-k
invariant-loop-k g l =
    let text = listed_with l.samples l.program l.job l.cells l.answer in
    (l.k ≤ 128) × (l.bytes ≡ l.k * 65536) × (l.n ≡ min 65536 (length text - l.k * 65536)) × (l.k * 65536 ≤ length text)
    × (l.initial.page ≡ windowed 65536 0 text → (l.page ≡ windowed 65536 (l.k * 65536) text) × Appends (g.W.Write.contents l.initial.out) (g.W.Write.contents l.out) (take (l.k * 65536) text))
