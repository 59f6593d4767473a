use Rattle.std.proofs.Common.{◌≡◌, ap, arith, ◌∙◌}
use Rattle.mapping.specs.PlaceOf.{surface_of}
use Rattle.dc_stack.specs.Figures.{all_figures}
use Rattle.dc_stack.specs.Pieces.{figures_of}
use Rattle.painting.specs.FigureEnds.{lines_of_figures}
use Rattle.preflight_cert.specs.FigureLines.{placed_figures}
use Rattle.painting.specs.Moves.{lines_of_moves, nothing}
use Rattle.painting.specs.MovesToCome.{path_moves_left}
use Rattle.painting.proofs.FigureLemmas.{figure_lines_few}
use Rattle.painting.proofs.MoveLemmas.{pieces_drawn}
use Rattle.painting.proofs.piece_lines.PieceLines.new.Goals as goal

lines_are : (c : goal.After-new) → lines_of_moves c.args.ends nothing (path_moves_left c.new.result) ≡ lines_of_figures c.args.ends (placed_figures (surface_of c.args.place) (all_figures (figures_of c.args.pieces.now)))
lines_are c = ap (lines_of_moves c.args.ends nothing) c.new.ensures ∙ pieces_drawn c.args.ends (surface_of c.args.place) c.args.pieces.now

pub invariant_of-result : goal.invariant_of-result
invariant_of-result c =
    let lines = lines_are c in
    let few = figure_lines_few (surface_of c.args.place) c.args.ends (all_figures (figures_of c.args.pieces.now)) in
    let scratch = c.requires.few in
    record { few = rw lines (omega (arith, few, scratch)) }

pub returns : goal.returns
returns c = ap (lines_of_moves c.args.ends nothing) c.new.ensures ∙ pieces_drawn c.args.ends (surface_of c.args.place) c.args.pieces.now
