use Rattle.std.proofs.Common.{◌≢◌, List, [], ap, subst, sym, ◌∙◌}
use Rattle.dc_stack.specs.Extents.{IsExtent}
use Rattle.dc_stack.specs.Figures.{Figures, all_figures, points_of_figures}
use Rattle.dc_stack.specs.Pieces.{AllLandOn, LandsOn, figures_of, with_end}
use Rattle.dc_stack.specs.declared.piece.Piece.{Piece}
use Rattle.dc_stack.proofs.FigureLemmas.{end_keeps_points, ended_piece, last_ends, last_exchanged}
use Rattle.dc_stack.proofs.path.GatheredPath.end_with.Goals as goal

pub returns-clause-figures : goal.returns-clause-figures
returns-clause-figures c =
    let before = c.in-Some.ensures.items in
    let begun = subst (λ (ps : List Piece). (figures_of ps).current ≢ []) before (c.requires.gathered.within c.requires.open) in
    ap figures_of c.push_reserved.ensures.items
    ∙ last_ends c.pop.new.self.items c.in-Some.last c.args.end begun
    ∙ ap (λ (ps : List Piece). with_end c.args.end (figures_of ps)) (sym before)

pub returns-clause-lands : goal.returns-clause-lands
returns-clause-lands c = λ s h.
    let last = c.in-Some.last in
    let figures = returns-clause-figures c in
    let before = subst (AllLandOn s) c.in-Some.ensures.items h.pieces in
    let after = last_exchanged (LandsOn s) c.pop.new.self.items last (ended_piece c.args.end last) (λ lands. lands) before in
    let points = end_keeps_points c.args.end (figures_of c.args.self.now.pieces.items) in
    let same = ap (λ (f : Figures). points_of_figures (all_figures f)) figures ∙ points in
    record {
      pieces = subst (AllLandOn s) (sym c.push_reserved.ensures.items) after;
      least = subst (IsExtent c.args.self.now.bounds) (sym same) h.least;
    }
