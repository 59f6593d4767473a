use Rattle.std.proofs.Common.{refl, sym}
use Rattle.mapping.specs.Mixes.{mixed_by}
use Rattle.canvas.proofs.WritingLawLemmas.{writing_laws}
use Rattle.canvas.proofs.surface.Canvas.mix_each_span.Goals as goal

pub returns-in-Some-clause-pixels : goal.returns-in-Some-clause-pixels
returns-in-Some-clause-pixels g c =
    let to_come = g.S.SpanSource.to_come c.args.spans.now in
    writing_laws.same to_come to_come (λ x y old. c.in-Some.colour) (λ x y old. mixed_by c.args.mix old) c.args.self.now c.put_each_span.new.self c.width.ensures.whole
    (λ x y held. refl)
    (λ x y old held t. sym (c.in-Some.ensures.colour old))
    c.put_each_span.ensures.pixels
