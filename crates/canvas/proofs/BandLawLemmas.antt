-- Bands, one below the other.
use Rattle.std.proofs.Common.{◌≡◌, List, [], ◌∷◌, ◌++◌, refl, ap, ◌∙◌}
use Rattle.std.proofs.lemmas.List.Concat.{flat_map-append}
use Rattle.mapping.specs.IndexLaws.{count_pixels_laid, repainted_laid}
use Rattle.mapping.specs.declared.geometry.Colour.{Colour}
use Rattle.canvas.specs.Ppm.{header, pixel_bytes, raster}
use Rattle.canvas.specs.BandLaws.{BandLaws, laid_together, rasters}

raster_of_bands : (bands : List (List Colour)) → raster (laid_together bands) ≡ rasters bands
raster_of_bands [] = refl
raster_of_bands (band ∷ bands) = flat_map-append pixel_bytes band (laid_together bands) ∙ ap (λ rest. raster band ++ rest) (raster_of_bands bands)

pub band_laws : BandLaws
band_laws = record {
  after = flat_map-append pixel_bytes;
  text = λ width height bands. ap (λ samples. header width height ++ samples) (raster_of_bands bands);
  painted = λ test f width first rows upper lower wide. repainted_laid width first rows wide test f upper lower;
  counted = λ test width first upper lower wide. count_pixels_laid width first upper wide test lower;
}
