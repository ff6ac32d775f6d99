use Prim.Native.Nat.{◌-◌}
use mathlib.Core.Path.{◌∙◌}
use native.Mathlib.Omega.{arith}
use lib.ListN.{length, drop, length-drop}
use lib.Seq.{take_all}
use borrow.Author.Tests.{eq-eqb, ne_eqb}
use Rattle.samples.specs.Twins.Numbers.{number_of}
use Rattle.samples.proofs.number.number_of.Goals as goal

pub returns-then-byte-eq81 : goal.returns-then-byte-eq81
unfolding number_of
returns-then-byte-eq81 c =
    let w = c.args.word.now in
    let e = c.part.ensures ∙ take_all (length w - 2) (drop 2 w) (omega (arith, length-drop 2 w)) in
    rw (← c.byte.ensures, eq-eqb _ _ c.if-byte-eq81.true, ← e) c.numeral_of.ensures

pub returns : goal.returns
unfolding number_of
returns c = rw (← c.byte.ensures, ne_eqb _ _ c.if-byte-eq81.false)
