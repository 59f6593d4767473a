-- The next row of the hatch is put, and the eight repeat.
use Rattle.std.proofs.Common.{◌≡◌, ◌%◌, ℕ, Bool, Option, Some, cond, get_or, is_some, inl, inr, ap, sym, subst, ◌∙◌, arith}
use Rattle.std.proofs.Math.ListN.{set}
use Rattle.std.proofs.lemmas.Bool.{cases_eq}
use Rattle.std.proofs.lemmas.List.{get_or-set_other, get_or-set_same, length-set}
use Rattle.mapping.specs.Colours.{black_colour}
use Rattle.mapping.specs.declared.geometry.Colour.{Colour}
use Rattle.raster_ops.specs.BrushRows.{row_paint}
use Rattle.raster_ops.specs.Hatches.{has_cell}
use Rattle.raster_ops.specs.declared.rows.BrushRow.TheVariants.{Hatched}
use Rattle.painting.specs.FillStyles.{colour_of, colour_seen, fill_style_paint}
use Rattle.painting.specs.Joined.{joined_if}
use Rattle.painting.specs.declared.row_op.RowOp.TheVariants.{Nothing}
use Rattle.painting.proofs.HatchLemmas.{IsRowOpOf, hatch_repeats}
use Rattle.painting.proofs.fill_style.FillStyle.hatch_rows.Goals as goal

pub loop-y-preserved : goal.loop-y-preserved
loop-y-preserved c =
    let self = c.args.self.now in
    let paint = fill_style_paint self in
    let table = self.operation.op.table in
    let colour = c.in-Hatched-None.colour in
    let y = c.loop-y.y in
    let ops = c.loop-y.row_ops in
    let inv = c.loop-y.invariant in
    let eight = inv.eight in
    let below = c.loop-y-test.true in
    let row_op = c.hatched_row_op.result in
    let joined = c.hatched_row_op.ensures in
    let given : (x : ℕ) → row_paint (Hatched c.hatch_cells-cells.result colour c.gap_colour-gaps.result) x ≡ colour_of self x y =
    λ x. rw c.in-Hatched-None.is-0 (ap (λ (b : Bool). cond b (Some colour) c.gap_colour-gaps.result) (c.hatch_cells-cells.ensures x)
    ∙ ap (λ (gaps : Option Colour). cond (has_cell c.in-Hatched-None.hatch x y) (Some colour) gaps) c.gap_colour-gaps.ensures) in
    let here : IsRowOpOf paint y row_op = record {
      test = λ x. joined.test x ∙ ap is_some (given x);
      colour = λ x old has.
          joined.colour x old (ap is_some (given x) ∙ has)
          ∙ ap (λ (p : Option Colour). joined_if table black_colour p old) (given x)
          ∙ ap (λ source. joined_if table (colour_seen source x y) (colour_of self x y) old) (sym c.in-Hatched-None.is-1);
    } in
    record {
      eight = length-set ops y row_op ∙ eight;
      made = λ k h. elim (cases_eq k y) [
        | inl e ↦ subst (λ (n : ℕ). IsRowOpOf paint n (get_or (set ops y row_op) n Nothing)) (sym e) (subst (IsRowOpOf paint y) (sym (get_or-set_same ops y row_op Nothing (omega (arith, eight, below)))) here)
        | inr ne ↦ subst (IsRowOpOf paint k) (sym (get_or-set_other ops y k row_op Nothing ne)) (inv.made k (omega (arith, h, ne)))
      ];
    }

pub returns-clause-repeated : goal.returns-clause-repeated
returns-clause-repeated c =
    let self = c.args.self.now in
    let hatch = c.in-Hatched-None.hatch in
    let colour = c.in-Hatched-None.colour in
    let mode = self.modes.background_mode in
    let background = self.modes.background_colour in
    let over = c.loop-y-test.false in
    let high = c.loop-y.auto.y-end in
    record {
      test = λ x y. (c.loop-y.invariant.made (y % 8) (omega (arith, over, high))).test x
          ∙ rw c.in-Hatched-None.is-0 (ap is_some (hatch_repeats hatch colour mode background x y));
      colour = λ x y old has.
          let same = hatch_repeats hatch colour mode background x y in
          (c.loop-y.invariant.made (y % 8) (omega (arith, over, high))).colour x old (rw c.in-Hatched-None.is-0 (ap is_some same ∙ (rw c.in-Hatched-None.is-0 at has)))
          ∙ rw (c.in-Hatched-None.is-0, c.in-Hatched-None.is-1) (ap (λ (p : Option Colour). joined_if self.operation.op.table black_colour p old) same);
    }
