use native.Mathlib.Nat.{le_refl}
use borrow.Author.Tests.{eq-eqb, ne_eqb}
use Rattle.checker.proofs.CheckOpenings.{term_more, term_none}
use Rattle.checker.proofs.ReachLaws.{at_most, kept_all, kept_on, put_kept, put_more, term_kept, consp_found, by_way}
use Rattle.programs.proofs.check_terms.+consp_eqa_term.Goals as goal

pub consp-returns : goal.consp-returns
consp-returns t c =
    let one = c.put-one.ensures in
    let two = c.put-two.ensures in
    let other = c.put-other.ensures in
    let more = put_more one in
    let first = kept_on more (put_kept one) (put_kept two) in
    let much = put_more two in
    let k = kept_on (at_most more much) first c.term-s.ensures.1 in
    let found = consp_found _ _ _ _ _ _ _ _ _ c.ahead.ensures c.exp-c.ensures c.ahead-t.ensures c.ahead-x.ensures one two c.ahead-start.ensures c.term-s.ensures.0 k other c.term-u.ensures.0 in (
      by_way found (rw (← c.binding-asked.ensures, ← c.ahead-2.ensures, ← c.branched.ensures)),
      kept_on (put_more other) (kept_on (le_refl _) k (put_kept other)) c.term-u.ensures.1,
    )

pub eqa-returns : goal.eqa-returns
eqa-returns t c =
    let k = c.term-s.ensures.1 in (
      rw (← c.ahead.ensures, ← c.ea-c.ensures, ← c.ea-d.ensures, ← c.and.ensures, ← c.uses_only-asked.ensures, ← c.ahead-start.ensures, ← c.term-s.ensures.0, ← (term_kept _ _ _ _ _ _ _ _ _ k), ← c.term-u.ensures.0, ← c.ahead-2.ensures, ← c.branched.ensures),
      kept_on (le_refl _) k c.term-u.ensures.1,
    )

pub term-returns-then-room-eq0 : goal.term-returns-then-room-eq0
term-returns-then-room-eq0 t c =
    (rw (term_none c.if-room-eq0.true, ← c.leaf.ensures), kept_all _ _)

pub term-returns-then-form-eq-CALL : goal.term-returns-then-form-eq-CALL
term-returns-then-form-eq-CALL t c =
    (rw (term_more c.if-room-eq0.false, ← c.key.ensures, eq-eqb _ _ c.if-key-eq-OPEN.true, ← c.ahead.ensures, ← c.key-form.ensures, eq-eqb _ _ c.if-form-eq-CALL.true, ← c.call.ensures), kept_all _ _)

pub term-returns-then-key-eq-EQA : goal.term-returns-then-key-eq-EQA
term-returns-then-key-eq-EQA t c =
    (rw (term_more c.if-room-eq0.false, ← c.key.ensures, eq-eqb _ _ c.if-key-eq-OPEN.true, ← c.ahead.ensures, ← c.key-form.ensures, ne_eqb _ _ c.if-form-eq-CALL.false, eq-eqb _ _ c.if-form-eq-IF.true, ← c.ahead-then-form-eq-IF.ensures, ← c.key-then-form-eq-IF.ensures, eq-eqb _ _ c.if-key-eq-EQA.true, ← c.eqa.ensures.0), c.eqa.ensures.1)

pub term-returns-then-form-eq-IF : goal.term-returns-then-form-eq-IF
term-returns-then-form-eq-IF t c =
    (rw (term_more c.if-room-eq0.false, ← c.key.ensures, eq-eqb _ _ c.if-key-eq-OPEN.true, ← c.ahead.ensures, ← c.key-form.ensures, ne_eqb _ _ c.if-form-eq-CALL.false, eq-eqb _ _ c.if-form-eq-IF.true, ← c.ahead-then-form-eq-IF.ensures, ← c.key-then-form-eq-IF.ensures, ne_eqb _ _ c.if-key-eq-EQA.false, ← c.consp.ensures.0), c.consp.ensures.1)

pub term-returns-then-key-eq-OPEN : goal.term-returns-then-key-eq-OPEN
term-returns-then-key-eq-OPEN t c =
    (rw (term_more c.if-room-eq0.false, ← c.key.ensures, eq-eqb _ _ c.if-key-eq-OPEN.true, ← c.ahead.ensures, ← c.key-form.ensures, ne_eqb _ _ c.if-form-eq-CALL.false, ne_eqb _ _ c.if-form-eq-IF.false, ← c.pair.ensures), kept_all _ _)

pub term-returns : goal.term-returns
term-returns t c =
    (rw (term_more c.if-room-eq0.false, ← c.key.ensures, ne_eqb _ _ c.if-key-eq-OPEN.false, ← c.leaf-2.ensures), kept_all _ _)
