-- Where there are fewer than two edges.
use Rattle.std.proofs.Common.{sym, ◌∙◌, arith}
use Rattle.std.proofs.lemmas.Bool.{le-ltb}
use Rattle.span_fill.proofs.PairLemmas.{no_pair_at}
use Rattle.span_fill.proofs.sweep.has_pair.Goals as goal

pub returns-else-place-edges-clause-pair : goal.returns-else-place-edges-clause-pair
returns-else-place-edges-clause-pair c =
    let fewer = c.if-place-edges.false in
    le-ltb _ _ fewer ∙ sym (no_pair_at c.args.rule c.args.edges.now c.args.place (omega (arith, fewer)))
