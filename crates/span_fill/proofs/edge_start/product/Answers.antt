-- A product within bounds is what it is.
use Rattle.std.proofs.Common.{FitsSigned, w64, ◌^◌, ◌*ℤ◌, lit<, refl}
use Rattle.std.proofs.lemmas.Int.{to_z-of_z}
use Rattle.span_fill.proofs.EdgeLemmas.{product_within, within_fits}
use Rattle.span_fill.proofs.edge_start.product.Goals as goal

pub returns-clause-value : goal.returns-clause-value
returns-clause-value c =
    let a : FitsSigned w64 c.args.a = c.ranges.a in
    let b : FitsSigned w64 c.args.b = c.ranges.b in
    let near = product_within (2 ^ 31) (2 ^ 30) c.args.a c.args.b c.requires.a c.requires.b in
    let fits : FitsSigned w64 (c.args.a *ℤ c.args.b) = within_fits (2 ^ 61) _ (lit< tt) near in
    simp to_z-of_z refl

pub returns-clause-near : goal.returns-clause-near
returns-clause-near c =
    let a : FitsSigned w64 c.args.a = c.ranges.a in
    let b : FitsSigned w64 c.args.b = c.ranges.b in
    let near = product_within (2 ^ 31) (2 ^ 30) c.args.a c.args.b c.requires.a c.requires.b in
    let fits : FitsSigned w64 (c.args.a *ℤ c.args.b) = within_fits (2 ^ 61) _ (lit< tt) near in
    simp to_z-of_z near
