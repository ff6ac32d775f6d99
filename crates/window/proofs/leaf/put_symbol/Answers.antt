use Prim.Native.Nat.{ℕ}
use mathlib.Core.Path.{ap, ◌∙◌}
use mathlib.Core.List.{List, [], ◌∷◌}
use lib.ListN.{drop}
use Rattle.listing.specs.Sample.{name_q}
use Rattle.lexer.specs.Twins.Table.{word_in}
use Rattle.window.specs.Twins.Sink.{puts}
use Rattle.window.proofs.SinkLaws.{behind}
use Rattle.window.proofs.SymbolLaws.{text_name, no_name, new_name_lem, no_new_name}
use Rattle.window.proofs.leaf.put_symbol.Goals as goal

pub returns-in-Some : goal.returns-in-Some
returns-in-Some c =
    let a = c.args in
    let at = c.in-Some.ensures.lookup.3 in
    behind _ (39 ∷ []) _ c.put_byte-p.ensures (c.put_name.ensures ∙ ap (puts _) (ap (λ (x : ℕ). drop 1 (word_in a.program.now a.job.now x)) (at.1 0) ∙ text_name a.program.now a.job.now a.symbols.now a.n c.if-n-lt1024.true at.0))

pub returns-in-None : goal.returns-in-None
returns-in-None c = let a = c.args in c.put_byte-p.ensures ∙ ap (puts _) (ap (λ (t : List ℕ). 39 ∷ t) (no_name a.program.now a.job.now a.symbols.now a.n c.if-n-lt1024.true c.in-None.ensures.lookup.3))

pub returns-in-Some-get : goal.returns-in-Some-get
returns-in-Some-get c =
    let a = c.args in
    let at = c.in-Some-get.ensures.lookup.3 in
    behind _ (39 ∷ []) _ c.put_byte-p.ensures (c.put_new.ensures ∙ ap (puts _) (ap name_q (at.1 0) ∙ new_name_lem a.program.now a.job.now a.symbols.now a.n c.if-n-lt1024.false at.0))

pub returns-in-None-get : goal.returns-in-None-get
returns-in-None-get c = let a = c.args in c.put_byte-p.ensures ∙ ap (puts _) (ap (λ (t : List ℕ). 39 ∷ t) (no_new_name a.program.now a.job.now a.symbols.now a.n c.if-n-lt1024.false c.in-None-get.ensures.lookup.3))
