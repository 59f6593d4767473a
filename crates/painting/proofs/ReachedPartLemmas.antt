-- What a nib reaches along a line, and parts of a region.
use Rattle.std.proofs.Common.{◌≡◌, ℕ, ℤ, pos, ◌+ℤ◌, ◌-ℤ◌, ◌≤ℤ◌, Bool, true, false, [], ◌∷◌, arith}
use Rattle.std.proofs.lemmas.Bool.{or_left}
use Rattle.std.proofs.lemmas.Int.{ints}
use Rattle.std.proofs.lemmas.List.Elements.{All-cons, All-nil}
use Rattle.mapping.specs.Nibs.{reach_after, reach_before}
use Rattle.mapping.specs.declared.geometry.Rect.{Rect}
use Rattle.mapping.specs.declared.nib.Nib.{Nib}
use Rattle.canvas.specs.CanvasState.{CanvasState}
use Rattle.dc_stack.specs.Clip.{ClipValue}
use Rattle.span_fill.specs.LineBoxes.{HasLine}
use Rattle.span_fill.specs.Spans.{in_region}
use Rattle.span_fill.specs.WideStrokes.{WideStrokeLaws, on_wide_line}
use Rattle.span_fill.specs.declared.line.Line.{Line}
use Rattle.span_fill.specs.declared.span.Region.{Region}
use Rattle.painting.specs.ReachedParts.{IsPartOf}
use Rattle.painting.specs.Regions.{HasVisible}

-- each pixel that the nib covers along a line lies between its ends, as far as the nib reaches
pub reached_pixel :
    WideStrokeLaws → (line : Line) (nib : Nib) (left right top bottom : ℤ) (x y : ℕ)
    → left ≤ℤ (line.from.x -ℤ pos (reach_before nib.x)) → left ≤ℤ (line.to.x -ℤ pos (reach_before nib.x)) → (line.from.x +ℤ pos (reach_after nib.x)) ≤ℤ right → (line.to.x +ℤ pos (reach_after nib.x)) ≤ℤ right
    → top ≤ℤ (line.from.y -ℤ pos (reach_before nib.y)) → top ≤ℤ (line.to.y -ℤ pos (reach_before nib.y)) → (line.from.y +ℤ pos (reach_after nib.y)) ≤ℤ bottom → (line.to.y +ℤ pos (reach_after nib.y)) ≤ℤ bottom
    → on_wide_line nib line (pos x) (pos y) ≡ true → ((left ≤ℤ pos x) × (pos x ≤ℤ right)) × ((top ≤ℤ pos y) × (pos y ≤ℤ bottom))
reached_pixel laws line nib left right top bottom x y a b c d e f g h covered =
    let box : Rect = record { l = left +ℤ pos (reach_before nib.x); t = top +ℤ pos (reach_before nib.y); r = right -ℤ pos (reach_after nib.x); b = bottom -ℤ pos (reach_after nib.y) } in
    let has : HasLine box line = record {
      from = record { left = omega (arith, ints, a); top = omega (arith, ints, e); right = omega (arith, ints, c); bottom = omega (arith, ints, g) };
      to = record { left = omega (arith, ints, b); top = omega (arith, ints, f); right = omega (arith, ints, d); bottom = omega (arith, ints, h) };
    } in
    let there = laws.box nib box (line ∷ []) x y (All-cons (HasLine box) line [] has (All-nil (HasLine box))) (or_left (on_wide_line nib line (pos x) (pos y)) false covered) in
    let l = there.left in
    let t = there.top in
    let r = there.right in
    let u = there.bottom in
    ((omega (arith, ints, l), omega (arith, ints, r)), (omega (arith, ints, t), omega (arith, ints, u)))

-- a part of what is visible that contains all of the shape has everything visible of it
pub visible_part : (clip : ClipValue) (shape : ℕ → ℕ → Bool) (canvas : CanvasState) (region part : Region) → HasVisible clip shape canvas region → IsPartOf region part
    → ((x y : ℕ) → in_region region x y ≡ true → shape x y ≡ true → in_region part x y ≡ true) → HasVisible clip shape canvas part
visible_part clip shape canvas region part visible is all =
    let right = visible.held.right in
    let top = visible.held.top in
    let bottom = visible.held.bottom in
    let a = is.right in
    let b = is.top in
    let c = is.bottom in
    record {
      held = record { right = omega (arith, right, a); top = omega (arith, top, b); bottom = omega (arith, bottom, c) };
      kept = λ x y held h. visible.kept x y held (is.all x y h);
      all = λ x y held kept h. all x y (visible.all x y held kept h) h;
    }
