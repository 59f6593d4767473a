use Rattle.std.proofs.Common.{◌≡◌, ◌<◌, ℕ, get_or, length}
use Rattle.painting.specs.FillStyles.{fill_style_paint}
use Rattle.painting.specs.declared.row_op.RowOp.TheVariants.{Nothing}
use Rattle.painting.proofs.HatchLemmas.{IsRowOpOf}
use Rattle.painting.proofs.fill_style.FillStyle.hatch_rows.Given as goal

-- the row operations so far are those of the hatch's rows
abbrev pub invariant-loop-y : goal.invariant-loop-y
invariant-loop-y l = record {
  eight : length l.row_ops ≡ 8;
  made : (k : ℕ) → k < l.y → IsRowOpOf (fill_style_paint l.self) k (get_or l.row_ops k Nothing);
}
