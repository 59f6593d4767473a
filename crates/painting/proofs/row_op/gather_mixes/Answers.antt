use Rattle.std.proofs.Common.{Option, ap, slice_index_or, ◌∙◌}
use Rattle.mapping.specs.Colours.{black_colour, white_colour}
use Rattle.mapping.specs.declared.geometry.Colour.{Colour}
use Rattle.painting.specs.Joined.{joined_if}
use Rattle.painting.proofs.row_op.gather_mixes.Goals as goal

pub returns : goal.returns
returns c = λ x old low high some.
    let table = c.args.operation.op.table in
    let source = slice_index_or c.args.sources.now x black_colour in
    c.gather.ensures.mixes x white_colour black_colour old low high
    ∙ ap (λ (p : Option Colour). joined_if table source p old) (c.gather_pattern.ensures.colours x black_colour low high some)
