use mathlib.Core.Path.{ap, refl}
use lib.Dec.{eqb}
use Rattle.lexer.proofs.LexedLaws.{token_made}
use Rattle.lexer.proofs.lexer.token_from.Goals as goal

pub returns : goal.returns
returns c =
    rw (c.mark_of.ensures, c.low.ensures, c.new_symbol.ensures, c.new_name.ensures, c.shut_at.ensures) (token_made c.args.job c.args.first.now c.args.text.now c.args.symbols.now c.args.counts.found c.args.names.now c.args.counts.known c.args.i c.args.from c.word_start-at.result c.piece_end-next.result c.part-word.result.now c.key_of-key.result c.kind_of-kind.result c.fit_of-fit.result c.hash_of-hash.result c.place_of-place.result c.number-num.result c.over_at-over.result (eqb c.place_of-place.result c.count_of.result) (eqb c.kind_of-kind.result 0) c.word_start-at.ensures c.piece_end-next.ensures c.part-word.ensures c.key_of-key.ensures c.kind_of-kind.ensures c.fit_of-fit.ensures c.hash_of-hash.ensures c.place_of-place.ensures c.number-num.ensures c.over_at-over.ensures (ap (λ n. eqb c.place_of-place.result n) c.count_of.ensures) refl)
