use Rattle.std.proofs.Common.{ℕ, true, Option, Some, None, ◌≡◌, ◌∙◌, sym, refl}
use Rattle.std.specs.Prelude.{IfSome}
use Rattle.mapping.specs.Mixes.{mixed_by}
use Rattle.mapping.specs.declared.geometry.Colour.{Colour}
use Rattle.mapping.specs.declared.mix.Mix.{Mix}
use Rattle.painting.specs.FillStyles.{fill_style_paint}
use Rattle.painting.specs.Painted.{PaintValue}
use Rattle.painting.specs.RowsPainted.{IsSameColour}
use Rattle.painting.proofs.fill_style.FillStyle.same_colour.Goals as goal

-- what a mix makes of every old colour is what the paint makes
same_of : (paint : PaintValue) (mix : Mix) (found : Option Colour) → ((x y : ℕ) → paint.has x y ≡ true) → ((x y : ℕ) (old : Colour) → mixed_by mix old ≡ paint.makes x y old) → IfSome found (λ colour. (old : Colour) → mixed_by mix old ≡ colour) → IfSome found (IsSameColour paint)
same_of paint mix None has makes constant = tt
same_of paint mix (Some colour) has makes constant = record { test = has; makes = λ x y old. sym (makes x y old) ∙ constant old }

pub returns-in-Solid-None : goal.returns-in-Solid-None
returns-in-Solid-None c =
    same_of (fill_style_paint c.args.self.now) c.mix.result c.constant.result
    (λ x y. rw c.in-Solid-None.is-0 refl)
    (λ x y old. c.mix.ensures old ∙ rw (c.in-Solid-None.is-0, c.in-Solid-None.is-1) refl)
    c.constant.ensures.colour
