-- Where a page coordinate lands, by what is scaled and what that moves on by.
use Rattle.std.proofs.Common.{◌≡◌, ℤ, pos, ap, refl, sym, arith, ◌∙◌}
use Rattle.std.specs.Prelude.{◌+ℤ◌, ◌-ℤ◌, ◌*ℤ◌}
use Rattle.std.proofs.lemmas.Int.{ints}
use Rattle.mapping.specs.Floor.{floor_div}
use Rattle.mapping.specs.Plane.{AxisNumbers, plane_coordinate}
use Rattle.mapping.specs.PageMap.{axis_coordinate, axis_numbers}
use Rattle.mapping.specs.declared.page_axis.PageAxis.{PageAxis}
use Rattle.mapping.proofs.FloorLemmas.{floor_of_multiple}
use Rattle.mapping.proofs.PartLemmas.{one_part}

-- what is scaled moves on to the viewport's origin, and back by the corner
regrouped : (q v k : ℤ) → q +ℤ (v -ℤ k) ≡ q +ℤ v -ℤ k
regrouped q v k = omega (arith, ints)

-- what is scaled and moved on is the definition, where a unit is one part
pub scaled_and_moved : (n : AxisNumbers) (x scaled shift : ℤ) → n.parts ≡ 1 → scaled ≡ floor_div ((x -ℤ n.window_origin) *ℤ n.viewport_extent) n.window_extent → shift ≡ n.viewport_origin -ℤ n.corner → scaled +ℤ shift ≡ plane_coordinate n x
scaled_and_moved n x scaled shift one s m = rw (s, m) (regrouped _ n.viewport_origin n.corner) ∙ sym (one_part n x one)

-- and where it may have several
pub moved_in_parts : (n : AxisNumbers) (x scaled shift : ℤ) → scaled ≡ floor_div ((x -ℤ n.window_origin) *ℤ pos n.parts *ℤ n.viewport_extent) n.window_extent → shift ≡ (n.viewport_origin -ℤ n.corner) *ℤ pos n.parts → scaled +ℤ shift ≡ plane_coordinate n x
moved_in_parts n x scaled shift s m = rw (s, m) refl

-- what isn't scaled, since the extents are the same, and is moved on
pub moved_alone : (axis : PageAxis) (x distance shift : ℤ) → axis.viewport_extent ≡ axis.window_extent → distance ≡ x -ℤ axis.window_origin → shift ≡ axis.viewport_origin -ℤ axis.corner → distance +ℤ shift ≡ axis_coordinate axis x
moved_alone axis x distance shift same d m =
    let whole = sym (ap (λ v. floor_div ((x -ℤ axis.window_origin) *ℤ v) axis.window_extent) same ∙ floor_of_multiple (x -ℤ axis.window_origin) axis.window_extent axis.window_has_extent) in
    scaled_and_moved (axis_numbers 1 axis) x distance shift refl (d ∙ whole) m
