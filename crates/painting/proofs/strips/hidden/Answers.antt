use Rattle.std.proofs.Common.{◌≡◌, ◌∙◌, ◌&&◌, Bool, ap, arith, of_z, sym, to_z, w32, w64}
use Rattle.std.proofs.Math.Bool.{and-true}
use Rattle.std.proofs.lemmas.Int.{ints}
use Rattle.mapping.specs.PixelBoxes.{is_from_to}
use Rattle.span_fill.specs.Spans.{in_span}
use Rattle.painting.proofs.strips.hidden.Goals as goal

pub returns-clause-hidden : goal.returns-clause-hidden
returns-clause-hidden c = λ x.
    let l : to_z w64 (of_z w64 (to_z w32 (of_z w32 c.args.cut.l))) ≡ c.args.cut.l = omega (arith, ints) in
    let r : to_z w64 (of_z w64 (to_z w32 (of_z w32 c.args.cut.r))) ≡ c.args.cut.r = omega (arith, ints) in
    let row = sym c.has_row.ensures ∙ c.if-not-has_row.false in
    let part = rw (c.from.ensures, c.from-2.ensures, l, r) at c.between.ensures.numbers x in
    let inside = is_from_to c.args.cut.l c.args.cut.r x in
    ap (λ (b : Bool). in_span c.args.columns x && (inside && b)) row ∙ ap (λ (b : Bool). in_span c.args.columns x && b) (and-true inside) ∙ sym part
