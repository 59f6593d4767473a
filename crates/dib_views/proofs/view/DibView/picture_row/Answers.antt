use Rattle.std.proofs.Common.{[], ap, ◌∙◌}
use Rattle.dib_views.specs.Pixels.{colours_in_row, row_colours}
use Rattle.dib_views.specs.PictureOf.{stored_of}
use Rattle.dib_views.proofs.PictureLemmas.{item_at}
use Rattle.dib_views.proofs.view.DibView.picture_row.Goals as goal

pub returns-clause-row : goal.returns-clause-row
returns-clause-row c =
    let self = c.args.self.now in
    let shape = self.shape in
    ap (colours_in_row shape.bits self.table.now shape.width) c.row.ensures.bytes ∙ item_at (row_colours (stored_of self)) shape.height c.args.y [] c.requires
