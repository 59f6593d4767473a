-- Cells and gaps are joined alike, each with its colour.
use Rattle.std.proofs.Common.{◌≡◌, ℕ, Bool, Some, true, false, cond, is_some, refl, ◌∙◌}
use Rattle.mapping.specs.Colours.{black_colour}
use Rattle.mapping.specs.Mixes.{mixed_by}
use Rattle.mapping.specs.Pixels.{is_cell}
use Rattle.mapping.specs.declared.geometry.Colour.{Colour}
use Rattle.mapping.specs.declared.mix.Mix.{Mix}
use Rattle.painting.specs.Joined.{joined_if}
use Rattle.painting.proofs.row_op.hatched_row_op.Goals as goal

either_some : (cell : Bool) (colour gap : Colour) → true ≡ is_some (cond cell (Some colour) (Some gap))
either_some true colour gap = refl
either_some false colour gap = refl

either_joined : (cell : Bool) (table : ℕ) (mix gaps : Mix) (colour gap old : Colour) → mixed_by mix old ≡ joined_if table black_colour (Some colour) old → mixed_by gaps old ≡ joined_if table black_colour (Some gap) old → cond cell (mixed_by mix old) (mixed_by gaps old) ≡ joined_if table black_colour (cond cell (Some colour) (Some gap)) old
either_joined true table mix gaps colour gap old one other = one
either_joined false table mix gaps colour gap old one other = other

pub returns-in-Some : goal.returns-in-Some
returns-in-Some c = record {
  test = λ x. c.two.ensures.test x ∙ rw c.in-Some.is (either_some (is_cell c.args.cells x) c.args.colour c.in-Some.gaps);
  colour = λ x old has. c.two.ensures.row_op x old
      ∙ rw c.in-Some.is (either_joined (is_cell c.args.cells x) c.args.operation.op.table c.mix-mix.result c.mix.result c.args.colour c.in-Some.gaps old (c.mix-mix.ensures old) (c.mix.ensures old));
}
