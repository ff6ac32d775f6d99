use mathlib.Core.Path.{◌≡◌}
use Prim.Native.Nat.{◌-◌}
use Rattle.linking.specs.Twins.Linking.{range_linked}
use Rattle.linking.proofs.expression.link_range.Given as goal

abbrev pub invariant-loop-i : goal.invariant-loop-i
invariant-loop-i l =
    range_linked l.p.marks.now l.p.nums.now l.p.ends.now l.names l.used (l.to - l.from) l.from l.initial.code ≡ range_linked l.p.marks.now l.p.nums.now l.p.ends.now l.names l.used (l.to - l.i) l.i l.code
