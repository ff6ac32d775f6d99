-- An environment by the places of its names: what the names in reach and their values, in order, come to.
use Rattle.std.specs.Prelude.{List}
use Rattle.expressions.specs.Expression.{AtomicExp, Exp}
use Rattle.language.specs.Program.{Param}
use Rattle.semantics.specs.Environment.{bind_params}
use Rattle.semantics.specs.Configuration.{ExpEnv}

-- "a value for each variable in reach"
abbrev pub env_of : List Param → List Exp → ExpEnv
env_of sc vs = bind_params {E = Exp} {A = AtomicExp} (λ c. c) (λ a. a) sc vs
