-- The decisions of a turn by value: what each function of choice.rt answers.
use Rattle.std.specs.Prelude.{ℕ, Bool, true, false, cond, leb, ltb, eqb}
use Rattle.heap.specs.declared.configuration.Branches.{Branches}
use Rattle.saving.specs.declared.head.Node.{Node}
use Rattle.positions.specs.declared.position.Bounds.{Bounds}
use Rattle.turns.specs.declared.choice.Way.{Way}
use Rattle.turns.specs.declared.choice.Way.TheVariants.{Call, Choice, Leaf}
use Rattle.turns.specs.declared.found.Found.{Found}

abbrev pub is_both : Branches → Bool
is_both b = cond b.yes b.no false

abbrev pub first_branch : Branches → Bool
first_branch b = b.yes

abbrev pub is_result : ℕ → Bool
is_result m = cond (eqb m 3) false (cond (eqb m 4) false (cond (eqb m 5) false true))

abbrev pub is_deep : Bounds → Node → Bool
is_deep b n = leb b.steps n.steps

abbrev pub is_over : ℕ → Bool
is_over nodes = ltb 4096 nodes

abbrev pub is_spent : ℕ → Found → Bool
is_spent walk f = leb walk f.count

abbrev pub way_on : ℕ → Bounds → Node → Way
way_on m b n = cond (is_result m) Leaf (cond (is_deep b n) Leaf (cond (eqb m 3) Call Choice))
