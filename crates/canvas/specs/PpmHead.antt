-- The parts of a P6 header, as the code reads them.
use Rattle.std.specs.Prelude.{◌≡◌, ℕ, ◌≤◌, true, List, length, drop, min}
use Rattle.canvas.specs.PpmReading.{after_digits, has_head, height_text, prefix_number, space_text, width_text}
use Rattle.canvas.specs.declared.reading.PpmHead.{PpmHead}
use Rattle.canvas.specs.declared.reading.NumberRead.{NumberRead}

-- the number at the start of the text `at`, which is a part of the text
pub record IsNumberAt (text at : List ℕ) (number : NumberRead) : Type 0 where
  pub value : number.value ≡ min (prefix_number at) 9999
  pub after : drop number.end text ≡ after_digits at
  pub within : number.end ≤ length text

-- the text has a header with this size, and its raster begins at this offset
pub record IsHeadOf (text : List ℕ) (head : PpmHead) : Type 0 where
  pub there : has_head text ≡ true
  pub wide : head.width ≡ prefix_number (width_text text)
  pub high : head.height ≡ prefix_number (height_text text)
  pub raster : drop head.start text ≡ drop 1 (space_text text)
  pub within : head.start ≤ length text
