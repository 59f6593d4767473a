use Rattle.std.proofs.Common.{get_or, rules}
use Rattle.mapping.specs.Colours.{black_colour}
use Rattle.painting.proofs.MixLemmas.{mix_there, no_cells_yet, one_cell_more}
use Rattle.painting.proofs.strips.put_cells.Goals as goal

pub loop-x-init : goal.loop-x-init
loop-x-init c = no_cells_yet c.writing_law.ensures c.args.keeps.now c.args.flips.now c.args.cells c.args.part.y c.args.part.columns.from c.args.canvas.now c.requires.whole c.requires.row

pub loop-x-preserved : goal.loop-x-preserved
loop-x-preserved c =
    let keeps = c.args.keeps.now in
    let flips = c.args.flips.now in
    let x = c.loop-x.x in
    one_cell_more c.writing_law.ensures keeps flips c.args.cells c.args.part.y c.args.part.columns.from x (record { keep = get_or keeps x black_colour; flip = get_or flips x black_colour }) c.args.canvas.now c.loop-x.canvas c.mix_cells.new.self c.requires.whole (mix_there keeps flips x black_colour (search rules) (search rules)) c.loop-x.invariant c.mix_cells.ensures.pixels c.mix_cells.ensures.count
