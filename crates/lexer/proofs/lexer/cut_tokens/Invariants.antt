use mathlib.Core.Path.{◌≡◌}
use Prim.Native.Nat.{◌-◌, ◌≤◌}
use lib.ListN.{length}
use Rattle.lexer.specs.Twins.Chains.{Linked}
use Rattle.lexer.specs.Twins.Lexed.{starting, cut_from}
use Rattle.lexer.proofs.LexedLaws.{state}
use Rattle.lexer.proofs.lexer.cut_tokens.Given as goal

abbrev pub invariant-loop-i : goal.invariant-loop-i
invariant-loop-i l =
    (cut_from l.job l.first l.text 4097 (starting l.initial.marks l.initial.nums l.initial.ats l.initial.symbols l.initial.names l.before) ≡ cut_from l.job l.first l.text (4097 - l.i) (state l.marks l.nums l.ats l.symbols l.names l.found l.known l.i l.from))
    × (l.i ≤ 4097)
    × (length l.marks ≡ length l.initial.marks)
    × (length l.nums ≡ length l.initial.nums)
    × (length l.ats ≡ length l.initial.ats)
    × (length l.symbols ≡ length l.initial.symbols)
    × (length l.names ≡ length l.initial.names)
    × Linked l.symbols l.found l.names l.known l.chains
    × (l.known ≤ l.i)
    × (length l.chains ≡ 5634)
