use Prim.Native.Nat.{◌-◌}
use mathlib.Core.Path.{◌≡◌}
use Rattle.replay.specs.Twins.Replaying.{follow_from}
use Rattle.replay.proofs.replay.follow.Given as goal

abbrev pub invariant-loop : goal.invariant-loop
invariant-loop l =
    follow_from l.code l.path l.b.base l.last l.end l.initial.p l.initial.heap l.initial.frame l.initial.q l.initial.saved ≡ follow_from l.code l.path l.b.base l.last (l.end - l.counter) l.p l.heap l.frame l.q l.saved
