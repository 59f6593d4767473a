use Rattle.std.proofs.Common.{◌≡◌, false, true, sym, ◌∙◌}
use Rattle.mapping.specs.Colours.{black_colour}
use Rattle.raster_ops.specs.Sources.{source_colour}
use Rattle.raster_ops.specs.TernaryOps.{uses_source}
use Rattle.draw_ops.specs.Blits.{source_of}
use Rattle.painting.proofs.SourceLemmas.{box_read, read_seen}
use Rattle.painting.proofs.blits.reader_of.Goals as goal

pub returns-then-uses_source-clause-reads : goal.returns-then-uses_source-clause-reads
returns-then-uses_source-clause-reads c =
    let made = c.new.ensures in
    box_read c.new.result c.args.first c.args.second made.near_column made.column_count made.near_row made.row_count

pub returns-then-uses_source-clause-seen : goal.returns-then-uses_source-clause-seen
returns-then-uses_source-clause-seen c = λ x y paint old.
    let table = c.args.asked.now.operation.table in
    let used : uses_source table ≡ true = sym c.if-uses_source.ensures in
    read_seen c.new.result (source_of c.args.asked.now.source) c.args.first c.args.second c.new.ensures.reads (c.new.ensures.some ∙ c.requires.readable used) table x y paint old

pub returns-else-uses_source-clause-seen : goal.returns-else-uses_source-clause-seen
returns-else-uses_source-clause-seen c = λ x y paint old.
    let table = c.args.asked.now.operation.table in
    let none : uses_source table ≡ false = sym c.if-uses_source.ensures in
    c.dependence_law.ensures.source table paint black_colour (source_colour (source_of c.args.asked.now.source) c.args.first c.args.second x y) old none
