use borrow.Author.Tests.{eq-eqb, ne_eqb}
use Rattle.linking.proofs.LinkTurns.{term_none, term_more, if_by}
use Rattle.linking.proofs.terms.+link_if_link_term.Goals as goal

pub link_if-returns : goal.link_if-returns
link_if-returns t c =
    if_by _ _ _ _ _ _ _ _ _ _ c.if_link-l.ensures c.from-yes.ensures c.from-no.ensures c.on-tested.ensures c.past-h.ensures c.set_link.ensures
    c.link_range.ensures c.true_names-one.ensures c.link_term.ensures c.false_names-two.ensures c.link_term-2.ensures

pub link_term-returns-then-room-eq0 : goal.link_term-returns-then-room-eq0
link_term-returns-then-room-eq0 t c =
    rw (term_none c.if-room-eq0.true, ← c.past-end.ensures, ← c.link_range.ensures)

pub link_term-returns-then-form-eq-IF : goal.link_term-returns-then-form-eq-IF
link_term-returns-then-form-eq-IF t c =
    rw (term_more c.if-room-eq0.false, ← c.form_of-form.ensures, eq-eqb _ _ c.if-form-eq-IF.true, ← c.link_if.ensures)

pub link_term-returns-then-form-eq-CALL : goal.link_term-returns-then-form-eq-CALL
link_term-returns-then-form-eq-CALL t c =
    rw (term_more c.if-room-eq0.false, ← c.form_of-form.ensures, ne_eqb _ _ c.if-form-eq-IF.false, eq-eqb _ _ c.if-form-eq-CALL.true, ← c.past-end.ensures, ← c.call_link-l.ensures, ← c.link_range-then-form-eq-CALL.ensures, ← c.set_link.ensures)

pub link_term-returns : goal.link_term-returns
link_term-returns t c =
    rw (term_more c.if-room-eq0.false, ← c.form_of-form.ensures, ne_eqb _ _ c.if-form-eq-IF.false, ne_eqb _ _ c.if-form-eq-CALL.false, ← c.past-end.ensures, ← c.link_range-2.ensures)
