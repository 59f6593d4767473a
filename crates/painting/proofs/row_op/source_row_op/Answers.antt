use Rattle.std.proofs.Common.{sym, ◌∙◌}
use Rattle.painting.proofs.row_op.source_row_op.Goals as goal

pub returns-clause-row_op : goal.returns-clause-row_op
returns-clause-row_op c = λ x old low high i.
    c.mix_given.ensures.row_op x old i ∙ c.gather_mixes.ensures x old low high (sym (c.mix_given.ensures.test x) ∙ i)
