use Rattle.std.proofs.Common.{◌≡◌, refl, Option, slice_index_or, subst, sym}
use Rattle.mapping.specs.Colours.{black_colour}
use Rattle.mapping.specs.Mixes.{mixed_by}
use Rattle.canvas.specs.MixRows.{mix_at}
use Rattle.mapping.specs.declared.geometry.Colour.{Colour}
use Rattle.painting.specs.Joined.{joined_if}
use Rattle.painting.proofs.row_op.tile_row_op.Goals as goal

pub returns-then-copies_pattern-clause-row_op : goal.returns-then-copies_pattern-clause-row_op
returns-then-copies_pattern-clause-row_op c = λ x old low high t.
    let colour = slice_index_or c.gather_pattern.new.out x old in
    let given = c.gather_pattern.ensures.colours x old low high (c.requires.tiled x) in
    let parts = c.gather_pattern.ensures.parts x old low high (c.requires.tiled x) in
    subst (λ (paint : Option Colour). colour ≡ joined_if c.args.operation.op.table black_colour paint old) given
    (sym (c.copies_pattern.ensures c.if-copies_pattern.true colour black_colour old parts))

pub returns-clause-row_op : goal.returns-clause-row_op
returns-clause-row_op c = λ x old low high t.
    subst (λ (paint : Option Colour). mixed_by (mix_at c.mix_patterns.new.keeps c.mix_patterns.new.flips x) old ≡ joined_if c.args.operation.op.table black_colour paint old)
    (c.gather_pattern.ensures.colours x black_colour low high (c.requires.tiled x))
    (c.mix_patterns.ensures x old low high refl)
