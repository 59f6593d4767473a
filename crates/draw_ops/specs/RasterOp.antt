-- The codes of the binary raster operations.
use Rattle.std.specs.Prelude.{ℕ, ◌==◌, List, [], ◌∷◌, Option, find}
use Rattle.draw_ops.specs.declared.raster_op.RasterOp.{RasterOp}
use Rattle.draw_ops.specs.declared.raster_op.RasterOp.TheVariants.{Black, NotMergePen, MaskNotPen, NotCopyPen, MaskPenNot, Not, XorPen, NotMaskPen, MaskPen, NotXorPen, Nop, MergeNotPen, CopyPen, MergePenNot, MergePen, White}

-- an operation's code
abbrev pub raster_op_code : RasterOp → ℕ
raster_op_code Black = 1
raster_op_code NotMergePen = 2
raster_op_code MaskNotPen = 3
raster_op_code NotCopyPen = 4
raster_op_code MaskPenNot = 5
raster_op_code Not = 6
raster_op_code XorPen = 7
raster_op_code NotMaskPen = 8
raster_op_code MaskPen = 9
raster_op_code NotXorPen = 10
raster_op_code Nop = 11
raster_op_code MergeNotPen = 12
raster_op_code CopyPen = 13
raster_op_code MergePenNot = 14
raster_op_code MergePen = 15
raster_op_code White = 16

-- every operation
abbrev pub all_raster_ops : List RasterOp
all_raster_ops = Black ∷ NotMergePen ∷ MaskNotPen ∷ NotCopyPen ∷ MaskPenNot ∷ Not ∷ XorPen ∷ NotMaskPen ∷ MaskPen ∷ NotXorPen ∷ Nop ∷ MergeNotPen ∷ CopyPen ∷ MergePenNot ∷ MergePen ∷ White ∷ []

-- the operation with this code
abbrev pub raster_op_of : ℕ → Option RasterOp
raster_op_of code = find (λ op. raster_op_code op == code) all_raster_ops
