use Rattle.std.proofs.Common.{◌∙◌}
use Rattle.mapping.specs.Colours.{black_colour}
use Rattle.dib_views.specs.Pixels.{colour_in_row}
use Rattle.dib_views.proofs.PictureLemmas.{item_at}
use Rattle.dib_views.proofs.row.DibRow.colour.Goals as goal

pub returns : goal.returns
returns c =
    let self = c.args.self.now in
    c.colour_in_row.ensures ∙ item_at (colour_in_row self.bits self.table.now self.bytes.now) self.width c.args.x black_colour c.requires
