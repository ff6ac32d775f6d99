-- Positions by value: what each function of position.rt answers.
use Rattle.std.specs.Prelude.{ℕ, ◌+◌, min, Bool, true, false, cond, leb, Result, Ok, Err}
use Rattle.restrictions.specs.declared.failure.Failure.{Failure}
use Rattle.heap.specs.declared.configuration.Configuration.{Configuration}
use Rattle.saving.specs.declared.head.Node.{Node}
use Rattle.saving.specs.declared.saved.Back.{Back}
use Rattle.positions.specs.declared.position.Position.{Position}

abbrev pub node_of : Configuration → ℕ → ℕ → Node
node_of c steps depth = record { at = c; steps = steps; depth = depth }

abbrev pub positioned : Node → Configuration → ℕ → Position
positioned n c top = record { node = node_of c n.steps n.depth; top = top }

abbrev pub at_depth : Node → ℕ → ℕ → Position
at_depth n depth top = record { node = node_of n.at n.steps depth; top = top }

abbrev pub moved_from : Position → Configuration → Bool → Position
moved_from p c true = record { node = node_of c (min p.node.steps 65535 + 1) (min p.node.depth 65535 + 1); top = p.top }
moved_from p c false = record { node = node_of c (min p.node.steps 65535 + 1) p.node.depth; top = p.top }

abbrev pub after_step : Position → Result Configuration Failure → Bool → Position
after_step p (Ok c) decided = moved_from p c decided
after_step p (Err e) decided = p

abbrev pub kept_top : ℕ → ℕ → ℕ → ℕ
kept_top from top base = cond (leb top base) base from

abbrev pub taken_up : Back → ℕ → ℕ → Position
taken_up b top base = record { node = b.node; top = kept_top b.top top base }
