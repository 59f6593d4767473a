use Rattle.std.proofs.Common.{◌*◌, ◌∙◌, arith, refl}
use Rattle.std.proofs.lemmas.List.{with_items_is}
use Rattle.span_fill.proofs.BitRowLemmas.{none_is_set}
use Rattle.span_fill.proofs.bit_rows.BitRows.begin.Goals as goal

pub returns-clause-none : goal.returns-clause-none
returns-clause-none c =
    let kept = with_items_is c.self.inside.words c.fill_words.new.words (c.fill_words.auto.words ∙ c.deref_mut.ensures.len) in
    rw kept
    (none_is_set record { rows = c.args.rows; columns = c.args.columns; stride = c.div_ceil-self-inside.result; words = c.fill_words.new.words } (c.args.rows * c.div_ceil-self-inside.result)
    (omega (arith, c.div_ceil-self-inside.ensures)) refl c.fill_words.ensures.filled)
