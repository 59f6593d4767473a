-- Pieces of a raster.
use Rattle.std.proofs.Common.{◌≡◌, ◌+◌, ◌-◌, ◌≤◌, ◌++◌, List, ℕ, ap, arith, drop, sym, take, ◌∙◌}
use Rattle.std.proofs.lemmas.List.{append_assoc, drop-drop, drop-take, take-append-drop, take-take}
use Rattle.std.proofs.lemmas.List.Concat.{flat_map-append}
use Rattle.mapping.specs.declared.geometry.Colour.{Colour}
use Rattle.canvas.specs.Ppm.{raster, pixel_bytes}

-- a piece takes the samples of the front of the rest, and what is to be sent stays the same
pub cut : (bytes piece : List ℕ) (prefix after rest : List Colour) → rest ≡ prefix ++ after → piece ≡ bytes ++ raster prefix → bytes ++ raster rest ≡ piece ++ raster after
cut bytes piece prefix after rest e p =
    rw (e, p, flat_map-append pixel_bytes prefix after) (sym (append_assoc bytes (raster prefix) (raster after)))

-- a piece takes the samples of so many pixels from one on
pub cut_at : (bytes piece : List ℕ) (from count : ℕ) (colours : List Colour) → piece ≡ bytes ++ raster (take (from + count - from) (drop from colours)) → bytes ++ raster (drop from colours) ≡ piece ++ raster (drop (from + count) colours)
cut_at bytes piece from count colours made =
    let n : from + count - from ≡ count = omega arith in
    cut bytes piece (take count (drop from colours)) (drop (from + count) colours) (drop from colours)
    (sym (take-append-drop count (drop from colours)) ∙ ap (λ (cs : List Colour). take count (drop from colours) ++ cs) (drop-drop count from colours))
    (made ∙ ap (λ i. bytes ++ raster (take i (drop from colours))) n)

-- so many pixels more, behind those from one on
pub more_samples : (from done count next : ℕ) (colours : List Colour) → from ≤ done → next ≡ done + count → raster (take (next - from) (drop from colours)) ≡ raster (take (done - from) (drop from colours)) ++ raster (take count (drop done colours))
more_samples from done count next colours order step =
    let rest = drop from colours in
    let n = done - from in
    let all : next - from ≡ n + count = omega (arith, step) in
    let after : from + n ≡ done = omega arith in
    let cut_here : take (n + count) rest ≡ take n rest ++ take count (drop n rest) = sym (take-append-drop n (take (n + count) rest)) ∙ ap (λ (cs : List Colour). cs ++ drop n (take (n + count) rest)) (take-take n (n + count) rest (omega arith)) ∙ ap (λ (cs : List Colour). take n rest ++ cs) (drop-take n count rest) in
    ap (λ i. raster (take i rest)) all
    ∙ ap raster (cut_here ∙ ap (λ (cs : List Colour). take n rest ++ take count cs) (drop-drop n from colours ∙ ap (λ i. drop i colours) after))
    ∙ flat_map-append pixel_bytes (take n rest) (take count (drop done colours))
