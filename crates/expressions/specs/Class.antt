-- Sequences and io-classes (001, figure 8 and definition 32).
use Rattle.std.specs.Prelude.{ℕ, ◌+◌, List}
use Rattle.expressions.specs.Expression.{Value, Exp, nodes, nodes_all}
use Rattle.expressions.specs.Substitution.{GroundSubst, ground_exp, ground_all, Substitution, apply, apply_all}
use Rattle.expressions.specs.Restriction.{nodes_restriction}
use Rattle.expressions.specs.Contraction.{Construction, CRPair, InConcretization}

-- c-sequences
abbrev pub sequence : Construction
sequence = record { Con = List Exp; Ground = List Value; apply = apply_all; ground_exp = ground_all }

-- c-pairs: inputs and an output
pub record IOPair : Type 0 where
  pub ins : List Exp
  pub out : Exp

pub record GroundPair : Type 0 where
  pub ins : List Value
  pub out : Value

abbrev pub apply_io : Substitution → IOPair → IOPair
apply_io s c = record { ins = apply_all s c.ins; out = apply s c.out }

abbrev pub ground_io : GroundSubst → IOPair → GroundPair
ground_io θ c = record { ins = ground_all θ c.ins; out = ground_exp θ c.out }

abbrev pub io_pair : Construction
io_pair = record { Con = IOPair; Ground = GroundPair; apply = apply_io; ground_exp = ground_io }

-- an io-class: the job's class, and a line's
abbrev pub IOClass : Type 0
IOClass = CRPair io_pair

-- "The job's class is every pair of ground_exp inputs and ground_exp output that a filling which satisfies its `neq` makes of its
-- `in` and `out`"; "A pair lies in a line if a filling in its set makes that pair of the line's inputs and output"
abbrev pub InClass : IOClass → List Value → Value → Type 0
InClass P is o = InConcretization P (record { ins = is; out = o })

abbrev pub nodes_io : IOPair → ℕ
nodes_io c = nodes_all c.ins + nodes c.out

-- "inputs, output, 2 for each non-equality"
abbrev pub nodes_class : IOClass → ℕ
nodes_class P = nodes_io P.con + nodes_restriction P.neqs
