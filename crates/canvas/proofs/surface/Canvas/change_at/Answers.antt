use Rattle.std.proofs.Common.{◌≡◌, ℕ, ◌+◌, ◌-◌, ◌*◌, ◌<◌, ap, arith, length, refl, sym, vec_len, ◌∙◌}
use Rattle.std.proofs.lemmas.List.{get_or_read}
use Rattle.canvas.specs.Canvas.{IsCanvas}
use Rattle.canvas.specs.CanvasState.{CanvasState, HasPixel, place_in}
use Rattle.canvas.specs.declared.pixel_source.PixelAt.{PixelAt}
use Rattle.canvas.specs.declared.surface.Canvas.TheInside.{Inside}
use Rattle.canvas.proofs.CallLemmas.{place_within, wrote_pixel}
use Rattle.canvas.proofs.FieldLemmas.{lies_inside, shown_by}
use Rattle.canvas.proofs.surface.Canvas.change_at.Goals as goal

module _ (inside : Inside) (now : CanvasState) (view_is : shown_by inside ≡ now) (is : IsCanvas inside) (pixel : PixelAt) (held : HasPixel now pixel.x pixel.y) (place : pixel.place ≡ place_in now pixel.x pixel.y) where
  -- the pixel's place, from what the canvas stores
  stored_at : pixel.place ≡ (pixel.y - inside.first) * inside.stride + pixel.x
  stored_at = place ∙ ap (λ (s : CanvasState). place_in s pixel.x pixel.y) (sym view_is) ∙ ap (λ (n : ℕ). (pixel.y - inside.first) * n + pixel.x) (sym is.apart)

  stored_within : pixel.place < length inside.colours.items
  stored_within =
      let within = place_within pixel.x pixel.y inside.stride (shown_by inside) now inside.colours.items view_is held (lies_inside inside inside.colours.items is refl) in
      rw stored_at within

  vec_within : pixel.place < vec_len inside.colours
  vec_within =
      let long : vec_len inside.colours ≡ length inside.colours.items = inside.colours.ok.0 in
      let within = stored_within in
      omega (arith, long, within)

pub index-requires : goal.index-requires
index-requires g c = vec_within c.self.inside c.args.self.now c.self.view_is c.self.invariant c.args.pixel c.requires.held c.requires.place

pub index_mut-requires : goal.index_mut-requires
index_mut-requires g c = vec_within c.self.inside c.args.self.now c.self.view_is c.self.invariant c.args.pixel c.requires.held c.requires.place

pub returns-clause-repaints : goal.returns-clause-repaints
returns-clause-repaints g c =
    let inside = c.self.inside in
    let items = inside.colours.items in
    let pixel = c.args.pixel in
    let at = stored_at inside c.args.self.now c.self.view_is c.self.invariant pixel c.requires.held c.requires.place in
    let within = stored_within inside c.args.self.now c.self.view_is c.self.invariant pixel c.requires.held c.requires.place in
    wrote_pixel pixel.x pixel.y pixel.place inside.stride _ c.args.self.now items c.self.view_is c.requires.held
    (lies_inside inside items c.self.invariant refl)
    at
    _ _ c.of.result
    (λ d. c.of.ensures ∙ ap (g.C.PixelChange.made c.args.change) (get_or_read items pixel.place c.index.result.now within c.index.ensures d))
    refl refl refl refl refl refl
