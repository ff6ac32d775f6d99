use mathlib.Core.Path.{◌≡◌}
use Prim.Native.Nat.{◌-◌}
use Rattle.linking.specs.Twins.Linking.{linked, program_linked, definitions_linked}
use Rattle.linking.proofs.program.link_program.Given as goal

abbrev pub invariant-loop-j : goal.invariant-loop-j
invariant-loop-j l =
    program_linked l.marks l.nums l.ends l.heads l.count l.initial.code ≡ (definitions_linked l.marks l.nums l.ends l.heads l.count (l.n - l.j) l.j (linked l.names l.code)).code
