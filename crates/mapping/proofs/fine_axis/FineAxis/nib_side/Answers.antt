-- A map that scales nothing divides by the frame's side alone.
use Rattle.std.proofs.Common.{◌≡◌, ℕ, ◌*◌, SomeIff, ap, is_some, subst, sym, ◌∙◌}
use Rattle.mapping.specs.Nibs.{IsNibSide, is_nib_side}
use Rattle.mapping.specs.PageMap.{fine_numbers}
use Rattle.mapping.proofs.NibLemmas.{unscaled_side}
use Rattle.mapping.proofs.fine_axis.FineAxis.nib_side.Goals as goal

pub returns-then-viewport-window-clause-side : goal.returns-then-viewport-window-clause-side
returns-then-viewport-window-clause-side c =
    let is =
    unscaled_side c.times.result c.args.width c.args.surface_side c.args.frame_side.number (fine_numbers c.args.self.now) (c.times.ensures ∙ ap (λ (n : ℕ). c.args.width * n) c.side_in_parts-fine_side.ensures)
    (sym c.viewport_length-viewport.ensures ∙ c.if-viewport-window.true ∙ c.window_length-window.ensures.length) c.args.self.now.axis.window_has_extent in
    subst (λ (side : ℕ). SomeIff c.unscaled_side.result (IsNibSide side) side) is c.unscaled_side.ensures.side

pub returns-then-viewport-window-clause-test : goal.returns-then-viewport-window-clause-test
returns-then-viewport-window-clause-test c =
    let is =
    unscaled_side c.times.result c.args.width c.args.surface_side c.args.frame_side.number (fine_numbers c.args.self.now) (c.times.ensures ∙ ap (λ (n : ℕ). c.args.width * n) c.side_in_parts-fine_side.ensures)
    (sym c.viewport_length-viewport.ensures ∙ c.if-viewport-window.true ∙ c.window_length-window.ensures.length) c.args.self.now.axis.window_has_extent in
    subst (λ (side : ℕ). is_some c.unscaled_side.result ≡ is_nib_side side) is c.unscaled_side.ensures.test
