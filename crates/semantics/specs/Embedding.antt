-- Values as expressions.
use Rattle.expressions.specs.Expression.{Value, atom, cons, sym, Exp, atm, pair}

abbrev pub embed : Value → Exp
embed (atom z) = atm (sym z)
embed (cons u v) = pair (embed u) (embed v)
