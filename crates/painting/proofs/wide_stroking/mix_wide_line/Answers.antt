-- The remaining rows of the line are what the region has of it.
use Rattle.std.proofs.Common.{◌≡◌, ◌&&◌, ◌≤◌, ℕ, pos, to_z, w32, [], ◌∷◌, arith, refl, ◌∙◌}
use Rattle.std.proofs.lemmas.Int.{to_z_pos}
use Rattle.mapping.specs.Mixes.{mixed_by}
use Rattle.span_fill.specs.Spans.{in_region}
use Rattle.span_fill.specs.WideLines.{HasAllRows, WideLineState}
use Rattle.span_fill.specs.WideStrokes.{in_wide_stroke}
use Rattle.span_fill.specs.declared.span.Region.{Region}
use Rattle.painting.specs.Regions.{IsOfSide}
use Rattle.painting.specs.WideSpans.{is_wide_to_come}
use Rattle.painting.proofs.VisibleLemmas.{region_pixel}
use Rattle.painting.proofs.WideSpanLemmas.{wide_inside, wide_to_come}
use Rattle.painting.proofs.wide_stroking.mix_wide_line.Goals as goal

small : (n : ℕ) → n ≤ 8192 → to_z w32 n ≡ pos n
small n h = to_z_pos w32 n (omega (arith, h))

all_rows : (region : Region) (wide : WideLineState) → IsOfSide region.rows → HasAllRows (to_z w32 region.rows.from) (to_z w32 region.rows.to) wide → HasAllRows (pos region.rows.from) (pos region.rows.to) wide
all_rows region wide side h = rw (small region.rows.from side.from, small region.rows.to side.to) at h

pub mix_each_span-requires-clause-held : goal.mix_each_span-requires-clause-held
mix_each_span-requires-clause-held c = λ x y h.
    region_pixel c.args.canvas.now c.args.drawn c.requires.held x y (wide_inside c.new-wide.result c.args.drawn (all_rows c.args.drawn c.new-wide.result c.requires.rows c.new-wide.ensures.all) x y h)

pub returns : goal.returns
returns c =
    c.writing_law.ensures.same (is_wide_to_come c.new-wide.result c.args.drawn.columns) (λ x y. in_region c.args.drawn x y && in_wide_stroke c.args.nib (c.args.line ∷ []) x y) (λ x y old. mixed_by c.args.mix old) (λ x y old. mixed_by c.args.mix old) c.args.canvas.now c.mix_each_span.new.self c.whole_law.ensures.whole
    (λ x y pixel. wide_to_come c.new-wide.result c.args.drawn (all_rows c.args.drawn c.new-wide.result c.requires.rows c.new-wide.ensures.all) x y ∙ rw (c.new-wide.ensures.nib, c.new-wide.ensures.line) refl)
    (λ x y old pixel t. refl)
    c.mix_each_span.ensures.pixels
