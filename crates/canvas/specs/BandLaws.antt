-- How consecutive bands make up a surface.
use Rattle.std.specs.Prelude.{◌≡◌, ℕ, ◌+◌, ◌*◌, ◌≤◌, Bool, List, ◌++◌, flat_map, length}
use Rattle.mapping.specs.declared.geometry.Colour.{Colour}
use Rattle.mapping.specs.Pixels.{count_pixels, repainted}
use Rattle.canvas.specs.Ppm.{header, ppm_text, raster}

-- the colours of bands, from the top one down
abbrev pub laid_together : List (List Colour) → List Colour
laid_together bands = flat_map (λ band. band) bands

-- the rasters of bands, one after another
abbrev pub rasters : List (List Colour) → List ℕ
rasters bands = flat_map raster bands

-- The raster of some colours after others is their rasters in that order, and the P6 text of an image is its header
-- followed by the rasters of the bands that make it up. Painting two consecutive parts of some rows separately gives
-- the same colours and the same number of writes as painting all of these rows at once.
pub record BandLaws : Type 0 where
  pub after : (prefix rest : List Colour) → raster (prefix ++ rest) ≡ raster prefix ++ raster rest
  pub text :
      (width height : ℕ) (bands : List (List Colour))
      → ppm_text record { width = width; height = height; colours = laid_together bands } ≡ header width height ++ rasters bands
  pub painted :
      (test : ℕ → ℕ → Bool) (f : ℕ → ℕ → Colour → Colour) (width first rows : ℕ) (upper lower : List Colour) → 1 ≤ width
      → length upper ≡ rows * width
      → repainted test f width first (upper ++ lower) ≡ repainted test f width first upper ++ repainted test f width (first + rows) lower
  pub counted :
      (test : ℕ → ℕ → Bool) (width first upper lower : ℕ) → 1 ≤ width
      → count_pixels test width first (upper + lower) ≡ count_pixels test width first upper + count_pixels test width (first + upper) lower
