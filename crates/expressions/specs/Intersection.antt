-- The intersection of a class with an output (001, definition 36): "At an end, the output u meets the wanted w".
use Rattle.std.specs.Prelude.{ℕ, zero, suc, ◌+◌, Bool, true, false, cond, ◌||◌, eqb}
use Rattle.std.proofs.Math.Option.{Option, none, some}
use Rattle.expressions.specs.Expression.{Value, Exp, atm, evar, pair, nodes}
use Rattle.expressions.specs.Substitution.{ground_exp, apply}
use Rattle.expressions.specs.Restriction.{nodes_restriction}
use Rattle.expressions.specs.Contraction.{Construction, CRPair, Contraction, identity, contra, bind_e, bind_a, non_equal, contract, equality_contraction}
use Rattle.expressions.specs.Class.{IOPair, GroundPair, apply_io, ground_io, IOClass, nodes_io}

-- What is met: a class, whose output is the wanted one, and the output that was reached.
pub record Meeting : Type 0 where
  pub io : IOPair
  pub output : Exp

pub record GroundMeeting : Type 0 where
  pub io : GroundPair
  pub output : Value

abbrev pub meeting : Construction
meeting = record {
  Con = Meeting;
  Ground = GroundMeeting;
  apply = λ s m. record { io = apply_io s m.io; output = apply s m.output };
  ground_exp = λ θ m. record { io = ground_io θ m.io; output = ground_exp θ m.output };
}

-- a `?e` stands in an expression
abbrev pub occurs : ℕ → Exp → Bool
occurs n (atm x) = false
occurs n (evar m) = eqb m n
occurs n (pair c d) = occurs n c || occurs n d

-- "(each fails if the variable occurs inside the other side)"
abbrev pub bind_unless_occurs : ℕ → Exp → Contraction
bind_unless_occurs n d = cond (occurs n d) contra (bind_e n d)

-- "Head before tail"
abbrev pub first : Contraction → Contraction → Contraction
first identity κ = κ
first contra κ = contra
first (bind_e n d) κ = bind_e n d
first (bind_a n x) κ = bind_a n x
first (non_equal x y) κ = non_equal x y

-- The leftmost disagreement of w and u, as the contraction that removes it: the identity where there is none, the
-- contradiction where nothing does. "the same item, nothing; else w a `?e`, bind it to u; else u a `?e`, bind it to w ..;
-- else w a `?a` and u atomic, bind w; else u a `?a` and w an atom, bind u; two pairs, go inside; the rest fail."
unfoldable pub disagreement : Exp → Exp → Contraction
disagreement (evar m) (evar n) = cond (eqb m n) identity (bind_e m (evar n))
disagreement (evar m) (atm y) = bind_e m (atm y)
disagreement (evar m) (pair c d) = bind_unless_occurs m (pair c d)
disagreement (atm x) (evar n) = bind_e n (atm x)
disagreement (atm x) (atm y) = equality_contraction x y
disagreement (atm x) (pair c d) = contra
disagreement (pair a b) (evar n) = bind_unless_occurs n (pair a b)
disagreement (pair a b) (atm y) = contra
disagreement (pair a b) (pair c d) = first (disagreement a c) (disagreement b d)

-- "Nodes of a configuration: .. In the intersection the output u stands for the environment."
abbrev pub nodes_meeting : CRPair meeting → ℕ
nodes_meeting P = nodes_io P.con.io + nodes P.con.output + nodes_restriction P.neqs

-- the class that is left, or nothing, or over the limit of nodes
pub data Intersected : Type 0 where
  common : IOClass → Intersected
  disjoint too_large : Intersected

-- the limit of nodes is a test: no limit is the test that nothing passes
abbrev pub NodeLimit : Type 0
NodeLimit = CRPair meeting → Bool

abbrev pub unless_over : (CRPair meeting → Intersected) → CRPair meeting → Bool → Intersected
unless_over f P true = too_large
unless_over f P false = f P

-- "a binding is tested for contradiction before 21"
abbrev pub after_binding : NodeLimit → (CRPair meeting → Intersected) → Option (CRPair meeting) → Intersected
after_binding over f none = disjoint
after_binding over f (some P) = unless_over f P (over P)

-- "Each binding is applied to all that remains. Failure or contradiction gives no line"
abbrev pub unify_step : NodeLimit → (CRPair meeting → Intersected) → CRPair meeting → Contraction → Intersected
unify_step over f P identity = common (record { con = P.con.io; neqs = P.neqs })
unify_step over f P contra = disjoint
unify_step over f P (bind_e n d) = after_binding over f (contract (bind_e n d) P)
unify_step over f P (bind_a n x) = after_binding over f (contract (bind_a n x) P)
unify_step over f P (non_equal x y) = disjoint

-- at most the given number of bindings and one
unfoldable pub unify : NodeLimit → ℕ → CRPair meeting → Intersected
unfolding disagreement
unify over zero P = disjoint
unify over (suc n) P = unify_step over (unify over n) P (disagreement P.con.io.out P.con.output)

-- Each binding removes a variable from w and u, and these have no more variables than nodes.
abbrev pub bindings_enough : Meeting → ℕ
bindings_enough m = suc (nodes m.io.out + nodes m.output)

-- "21 .. at the start of an intersection or after a binding"
abbrev pub intersect : NodeLimit → CRPair meeting → Intersected
intersect over P = unless_over (unify over (bindings_enough P.con)) P (over P)

abbrev pub no_limit : NodeLimit
no_limit P = false
