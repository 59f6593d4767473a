-- The picture of a bitmap's view.
use Rattle.dib_views.specs.declared.shape.RowOrder.{RowOrder}
use Rattle.dib_views.specs.declared.view.DibView.{DibView}
use Rattle.dib_views.specs.Dibs.{stored_dib}
use Rattle.dib_views.specs.Pictures.{Dib, Picture}
use Rattle.dib_views.specs.Pixels.{StoredDib, stored_picture}

-- the bitmap of a view, as it is stored
abbrev pub stored_of : DibView → StoredDib
stored_of view = record { shape = view.shape; table = view.table.now; rows = view.rows.now }

-- the value of a view
abbrev pub dib_of : DibView → Dib
dib_of view = stored_dib (stored_of view)

-- the picture of a view
abbrev pub picture_of : DibView → Picture
picture_of view = stored_picture (stored_of view)

-- which row of a view is stored first
abbrev pub row_order_of : DibView → RowOrder
row_order_of view = view.shape.order
