use Rattle.std.proofs.Common.{refl, sym}
use Rattle.mapping.specs.Mixes.{mixed_by}
use Rattle.canvas.specs.Writing.{in_cells}
use Rattle.canvas.proofs.WritingLawLemmas.{writing_laws}
use Rattle.canvas.proofs.surface.Canvas.mix_cells.Goals as goal

pub returns-in-Some-clause-pixels : goal.returns-in-Some-clause-pixels
returns-in-Some-clause-pixels c =
    let test = in_cells c.args.y c.args.x_from c.args.x_to c.args.cells in
    writing_laws.same test test (λ x y old. c.in-Some.colour) (λ x y old. mixed_by c.args.mix old) c.args.self.now c.change_cells.new.self c.width.ensures.whole
    (λ x y held. refl)
    (λ x y old held t. sym (c.in-Some.ensures.colour old))
    c.change_cells.ensures.pixels
