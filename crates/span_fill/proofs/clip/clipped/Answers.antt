-- If both ends lie within the spans, so do all pixels.
use Rattle.std.proofs.Common.{FitsSigned, arith, refl, rules}
use Rattle.std.specs.Int.{w32}
use Rattle.std.proofs.lemmas.Int.{to_z-of_z}
use Rattle.span_fill.proofs.ClipLemmas.{across_contained, along_contained}
use Rattle.span_fill.proofs.StepLemmas.{along_within}
use Rattle.span_fill.proofs.clip.clipped.Goals as goal

pub returns-then-contains_both-2-clause-exact : goal.returns-then-contains_both-2-clause-exact
returns-then-contains_both-2-clause-exact c = λ a b on.
    let m = c.args.major in
    let within = along_within m.from_u m.from_v m.to_u m.to_v a b on in
    let from_u : FitsSigned w32 m.from_u = search rules in
    let to_u : FitsSigned w32 m.to_u = search rules in
    let from_v : FitsSigned w32 m.from_v = search rules in
    let to_v : FitsSigned w32 m.to_v = search rules in
    let columns = simp to_z-of_z at (c.if-contains_both.ensures.0 refl) in
    let rows = simp to_z-of_z at (c.if-contains_both-2.ensures.0 refl) in
    let long = c.length.ensures.value in (
      λ h. (
        along_contained m.from_u m.from_v m.to_u m.to_v a b c.args.u.from c.args.u.to on columns,
        across_contained m.from_u m.from_v m.to_u m.to_v a b c.args.v.from c.args.v.to on rows,
      ),
      λ h. (omega arith, omega (arith, within, long)),
    )
