-- One point behind the other; numbers of 32 bits stay what they are.
use Rattle.std.proofs.Common.{◌≡◌, ◌++◌, codes, arith, w32, to_z, of_z}
use Rattle.std.proofs.lemmas.Int.{ints}
use Rattle.mapping.specs.declared.geometry.Point.{Point}
use Rattle.listing.specs.Parts.{point_text}
use Rattle.listing.proofs.TextLemmas.{joined}
use Rattle.listing.proofs.field_texts.put_rect.Goals as goal

pub returns-clause-text : goal.returns-clause-text
returns-clause-text c =
    let rect = c.args.rect in
    let of_l : to_z w32 (of_z w32 rect.l) ≡ rect.l = omega (arith, ints) in
    let of_t : to_z w32 (of_z w32 rect.t) ≡ rect.t = omega (arith, ints) in
    let of_r : to_z w32 (of_z w32 rect.r) ≡ rect.r = omega (arith, ints) in
    let of_b : to_z w32 (of_z w32 rect.b) ≡ rect.b = omega (arith, ints) in
    let upper : Point = record { x = rect.l; y = rect.t } in
    let lower : Point = record { x = rect.r; y = rect.b } in
    let first = rw (of_l, of_t) at c.put_point.ensures.text in
    let second = rw (of_r, of_b) at c.put_point-2.ensures.text in
    joined c.args.buffer.now (point_text upper ++ codes ",") (point_text lower) (joined c.args.buffer.now (point_text upper) (codes ",") first c.put.ensures) second
