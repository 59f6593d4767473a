use Rattle.std.proofs.Common.{◌&&◌, ◌∙◌, ap, arith, not}
use Rattle.span_fill.specs.Spans.{in_span}
use Rattle.span_fill.specs.StrokeMasks.{in_row_span, to_come}
use Rattle.span_fill.proofs.CutLemmas.{row_more}
use Rattle.span_fill.proofs.stroke_mask.StrokeMask.cut_rows.Goals as goal

pub loop-y-preserved : goal.loop-y-preserved
loop-y-preserved c =
    let part = c.args.part in
    record {
      region = c.cut_span.ensures.region ∙ c.loop-y.invariant.region;
      rest = λ x i.
          c.cut_span.ensures.rest x i
          ∙ ap (λ t. t && not (in_row_span record { y = c.loop-y.y; columns = part.columns } x i)) (c.loop-y.invariant.rest x i)
          ∙ row_more (to_come c.args.self.now x i) (in_span part.columns x) part.rows.from c.loop-y.y i (omega arith);
    }
