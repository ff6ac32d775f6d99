use Prim.Native.Nat.{◌+◌, ◌<◌}
use mathlib.Core.Path.{◌≡◌, refl}
use native.Mathlib.Omega.{arith}
use native.Mathlib.Numerals.{add-one}
use lib.ListN.{length, drop, length-drop}
use lib.Seq.{paste-zero, paste-suc, get_or-drop}
use borrow.Author.Tests.{le-leb}
use borrow.Author.Rules.{rules}
use Rattle.sets.proofs.tree.copy.Goals as goal

pub loop-i-init : goal.loop-i-init
loop-i-init c =
    let a = c.args in
    (search rules, search rules, paste-zero a.dst.now a.at (drop a.from a.src.now))

pub loop-i-preserved : goal.loop-i-preserved
loop-i-preserved c =
    let a = c.args in
    let hd : a.at + c.loop-i.i < length a.dst.now = omega arith in
    let hs : c.loop-i.i < length (drop a.from a.src.now) = rw length-drop (omega arith) in (
      search rules,
      search rules,
      rw (c.loop-i.invariant.2, ← (get_or-drop a.from a.src.now c.loop-i.i 0), add-one, paste-suc a.dst.now a.at (drop a.from a.src.now) c.loop-i.i 0 hd hs),
    )

pub returns : goal.returns
returns c =
    let a = c.args in
    let e : c.loop-i.i ≡ a.n = omega arith in
    rw (le-leb (a.from + a.n) (length a.src.now) (omega arith), le-leb (a.at + a.n) (length a.dst.now) (omega arith))
    (refl, rw (← e) c.loop-i.invariant.2)
