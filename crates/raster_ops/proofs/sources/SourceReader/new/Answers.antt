use Rattle.std.proofs.Common.{◌∙◌, sym, ap, refl, rules, FitsSigned}
use Rattle.std.specs.Int.{w64}
use Rattle.std.proofs.lemmas.Int.{to_z-of_z}
use Rattle.draw_ops.specs.Blits.{bottom, source_of, source_value_of, top}
use Rattle.raster_ops.proofs.SourceLemmas.{inside_by, near_of, reads_by, side_of}
use Rattle.raster_ops.specs.Sources.{is_readable, least_end}
use Rattle.raster_ops.proofs.sources.SourceReader.new.Goals as goal

pub returns-in-FromTop-clause-some : goal.returns-in-FromTop-clause-some
returns-in-FromTop-clause-some c =
    let fits : FitsSigned w64 c.row_from_top.result = search rules in
    let there = simp to_z-of_z at c.of_rectangle.ensures.some in
    there
    ∙ inside_by (source_value_of top c.in-FromTop.rectangle) c.row_from_top.result c.row_from_top.ensures
    ∙ ap (λ s. is_readable (source_of s)) (sym c.in-FromTop.is)

pub returns-in-FromTop-clause-reads : goal.returns-in-FromTop-clause-reads
returns-in-FromTop-clause-reads c =
    let fits : FitsSigned w64 c.row_from_top.result = search rules in
    let r = c.in-FromTop.rectangle in
    let rows = simp to_z-of_z at c.of_rectangle.ensures.rows in
    rw c.in-FromTop.is (reads_by c.of_rectangle.result r.picture (source_value_of top r) c.args.first c.args.second refl c.of_rectangle.ensures.picture c.row_from_top.result c.row_from_top.ensures c.of_rectangle.ensures.columns rows)

pub returns-in-FromTop-clause-near_column : goal.returns-in-FromTop-clause-near_column
returns-in-FromTop-clause-near_column c =
    let r = c.in-FromTop.rectangle in
    near_of c.of_rectangle.result (λ reader. reader.columns) (least_end r.corner.x r.extent.x) r.extent.x c.args.first.x c.args.second.x c.of_rectangle.ensures.columns

pub returns-in-FromTop-clause-column_count : goal.returns-in-FromTop-clause-column_count
returns-in-FromTop-clause-column_count c =
    let r = c.in-FromTop.rectangle in
    side_of c.of_rectangle.result (λ reader. reader.columns) (least_end r.corner.x r.extent.x) r.extent.x c.args.first.x c.args.second.x c.of_rectangle.ensures.columns

pub returns-in-FromTop-clause-near_row : goal.returns-in-FromTop-clause-near_row
returns-in-FromTop-clause-near_row c =
    let fits : FitsSigned w64 c.row_from_top.result = search rules in
    let rows = simp to_z-of_z at c.of_rectangle.ensures.rows in
    near_of c.of_rectangle.result (λ reader. reader.rows) c.row_from_top.result c.in-FromTop.rectangle.extent.y c.args.first.y c.args.second.y rows

pub returns-in-FromTop-clause-row_count : goal.returns-in-FromTop-clause-row_count
returns-in-FromTop-clause-row_count c =
    let fits : FitsSigned w64 c.row_from_top.result = search rules in
    let rows = simp to_z-of_z at c.of_rectangle.ensures.rows in
    side_of c.of_rectangle.result (λ reader. reader.rows) c.row_from_top.result c.in-FromTop.rectangle.extent.y c.args.first.y c.args.second.y rows

pub returns-in-FromBottom-clause-some : goal.returns-in-FromBottom-clause-some
returns-in-FromBottom-clause-some c =
    let fits : FitsSigned w64 c.row_from_bottom.result = search rules in
    let there = simp to_z-of_z at c.of_rectangle-in-FromBottom.ensures.some in
    there
    ∙ inside_by (source_value_of bottom c.in-FromBottom.rectangle) c.row_from_bottom.result c.row_from_bottom.ensures
    ∙ ap (λ s. is_readable (source_of s)) (sym c.in-FromBottom.is)

pub returns-in-FromBottom-clause-reads : goal.returns-in-FromBottom-clause-reads
returns-in-FromBottom-clause-reads c =
    let fits : FitsSigned w64 c.row_from_bottom.result = search rules in
    let r = c.in-FromBottom.rectangle in
    let rows = simp to_z-of_z at c.of_rectangle-in-FromBottom.ensures.rows in
    rw c.in-FromBottom.is (reads_by c.of_rectangle-in-FromBottom.result r.picture (source_value_of bottom r) c.args.first c.args.second refl c.of_rectangle-in-FromBottom.ensures.picture c.row_from_bottom.result c.row_from_bottom.ensures c.of_rectangle-in-FromBottom.ensures.columns rows)

pub returns-in-FromBottom-clause-near_column : goal.returns-in-FromBottom-clause-near_column
returns-in-FromBottom-clause-near_column c =
    let r = c.in-FromBottom.rectangle in
    near_of c.of_rectangle-in-FromBottom.result (λ reader. reader.columns) (least_end r.corner.x r.extent.x) r.extent.x c.args.first.x c.args.second.x c.of_rectangle-in-FromBottom.ensures.columns

pub returns-in-FromBottom-clause-column_count : goal.returns-in-FromBottom-clause-column_count
returns-in-FromBottom-clause-column_count c =
    let r = c.in-FromBottom.rectangle in
    side_of c.of_rectangle-in-FromBottom.result (λ reader. reader.columns) (least_end r.corner.x r.extent.x) r.extent.x c.args.first.x c.args.second.x c.of_rectangle-in-FromBottom.ensures.columns

pub returns-in-FromBottom-clause-near_row : goal.returns-in-FromBottom-clause-near_row
returns-in-FromBottom-clause-near_row c =
    let fits : FitsSigned w64 c.row_from_bottom.result = search rules in
    let rows = simp to_z-of_z at c.of_rectangle-in-FromBottom.ensures.rows in
    near_of c.of_rectangle-in-FromBottom.result (λ reader. reader.rows) c.row_from_bottom.result c.in-FromBottom.rectangle.extent.y c.args.first.y c.args.second.y rows

pub returns-in-FromBottom-clause-row_count : goal.returns-in-FromBottom-clause-row_count
returns-in-FromBottom-clause-row_count c =
    let fits : FitsSigned w64 c.row_from_bottom.result = search rules in
    let rows = simp to_z-of_z at c.of_rectangle-in-FromBottom.ensures.rows in
    side_of c.of_rectangle-in-FromBottom.result (λ reader. reader.rows) c.row_from_bottom.result c.in-FromBottom.rectangle.extent.y c.args.first.y c.args.second.y rows
