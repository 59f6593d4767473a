-- Reading an image from a P6 text, as ppm(5) describes it.
use Rattle.std.specs.Prelude.{◌≡◌, ◌==◌, ℕ, zero, suc, ◌+◌, ◌-◌, ◌*◌, ◌≤◌, Bool, true, false, not, ◌&&◌, ◌||◌, nat_le, if◌then◌else◌, List, [], ◌∷◌, ◌++◌, length, drop, fold, slice_index, take_while, codes, Option, Some, None}
use Rattle.std.specs.List.{AllByRecursion, prefix_len}
use Rattle.std.specs.Char.{is_ascii_digit}
use Rattle.mapping.specs.declared.geometry.Colour.{Colour}
use Rattle.mapping.specs.Image.{Image}
use Rattle.mapping.specs.Limits.{IsSurfaceSide, is_surface_side}
use Rattle.canvas.specs.Ppm.{raster}

-- a space, a TAB, a carriage return or a line feed
abbrev pub is_white : ℕ → Bool
is_white byte = byte == 32 || byte == 9 || byte == 13 || byte == 10

-- a carriage return or a line feed, which ends a comment
abbrev pub ends_line : ℕ → Bool
ends_line byte = byte == 13 || byte == 10

-- `#`, which begins a comment
abbrev pub begins_comment : ℕ → Bool
begins_comment byte = byte == 35

-- items of a gap: white space bytes, and comments, each from its `#` to the end of its line, inclusive
pub data AreItems : List ℕ → Type 0 where
  no_item : AreItems []
  white_item : (byte : ℕ) (items : List ℕ) → is_white byte ≡ true → AreItems items → AreItems (byte ∷ items)
  comment_item :
      (words : List ℕ) (end : ℕ) (items : List ℕ) → AllByRecursion (λ byte. ends_line byte ≡ false) words
      → ends_line end ≡ true → AreItems items → AreItems (35 ∷ (words ++ (end ∷ items)))

-- one or more items
pub record IsGap (gap : List ℕ) : Type 0 where
  pub items : AreItems gap
  pub some : 1 ≤ length gap

-- the number of decimal digits, the first of them the highest
abbrev pub number_of_digits : List ℕ → ℕ
number_of_digits digits = fold (λ number digit. number * 10 + (digit - 48)) 0 digits

-- one or more decimal digits of a number, possibly with leading zeros
pub record WritesNumber (digits : List ℕ) (number : ℕ) : Type 0 where
  pub each : AllByRecursion (λ byte. is_ascii_digit byte ≡ true) digits
  pub some : 1 ≤ length digits
  pub value : number ≡ number_of_digits digits

-- the text is that of this image: the magic number, the width, the height and the greatest sample value, which is 255,
-- with gaps between them, one white space byte, the raster, and then anything
pub record IsPpm (text : List ℕ) (image : Image) : Type 0 where
  pub first_gap : List ℕ
  pub width : List ℕ
  pub second_gap : List ℕ
  pub height : List ℕ
  pub third_gap : List ℕ
  pub most : List ℕ
  pub space : ℕ
  pub after : List ℕ
  pub is :
      text ≡ codes "P6" ++ (first_gap ++ (width ++ (second_gap ++ (height ++ (third_gap ++ (most ++ (space ∷ (raster image.colours ++ after))))))))
  pub gap_first : IsGap first_gap
  pub gap_second : IsGap second_gap
  pub gap_third : IsGap third_gap
  pub wide : WritesNumber width image.width
  pub high : WritesNumber height image.height
  pub greatest : WritesNumber most 255
  pub white : is_white space ≡ true
  pub wide_side : IsSurfaceSide image.width
  pub high_side : IsSurfaceSide image.height
  pub whole : length image.colours ≡ image.height * image.width

-- a byte belongs to a gap, which may be in a comment there
abbrev pub is_in_gap : Bool → ℕ → Bool
is_in_gap in_comment byte = in_comment || begins_comment byte || is_white byte

-- the gap is in a comment after this byte
abbrev pub is_in_comment : Bool → ℕ → Bool
is_in_comment in_comment byte = (in_comment || begins_comment byte) && not (ends_line byte)

-- the text after a gap
abbrev pub after_gap : Bool → List ℕ → List ℕ
after_gap in_comment [] = []
after_gap in_comment (byte ∷ rest) = if is_in_gap in_comment byte then after_gap (is_in_comment in_comment byte) rest else byte ∷ rest

-- the text after the leading digits
abbrev pub after_digits : List ℕ → List ℕ
after_digits text = drop (prefix_len is_ascii_digit text) text

-- the number of the leading digits; 0 if there are none
abbrev pub prefix_number : List ℕ → ℕ
prefix_number text = number_of_digits (take_while is_ascii_digit text)

-- the text from the width on, from the height on, from the greatest sample value on, and after it
abbrev pub width_text : List ℕ → List ℕ
width_text text = after_gap false (drop 2 text)

abbrev pub height_text : List ℕ → List ℕ
height_text text = after_gap false (after_digits (width_text text))

abbrev pub most_text : List ℕ → List ℕ
most_text text = after_gap false (after_digits (height_text text))

abbrev pub space_text : List ℕ → List ℕ
space_text text = after_digits (most_text text)

-- the text begins with the magic number, followed by a gap
abbrev pub begins_ppm : List ℕ → Bool
begins_ppm text = slice_index text 0 == 80 && slice_index text 1 == 54 && is_in_gap false (slice_index text 2)

-- a surface may have this size, the greatest sample value is 255, and a white space byte follows it
abbrev pub ends_head : ℕ → ℕ → ℕ → List ℕ → Bool
ends_head width height most after = is_surface_side width && is_surface_side height && most == 255 && is_white (slice_index after 0)

-- the text begins with the header of an image
abbrev pub has_head : List ℕ → Bool
has_head text =
    begins_ppm text && ends_head (prefix_number (width_text text)) (prefix_number (height_text text)) (prefix_number (most_text text)) (space_text text)

-- the number of pixels of the image's size
abbrev pub pixels_of : List ℕ → ℕ
pixels_of text = prefix_number (height_text text) * prefix_number (width_text text)

-- there is a header, followed by three samples for each pixel
abbrev pub has_image : List ℕ → Bool
has_image text = has_head text && nat_le (3 * pixels_of text) (length (drop 1 (space_text text)))

-- this many colours, with three samples each, from the start of the text on
abbrev pub colours_at : ℕ → List ℕ → List Colour
colours_at zero text = []
colours_at (suc count) text = record { r = slice_index text 0; g = slice_index text 1; b = slice_index text 2 } ∷ colours_at count (drop 3 text)

-- the image of a P6 text, if it is one
abbrev pub read_ppm : List ℕ → Option Image
read_ppm text =
    if has_image text then Some record {
      width = prefix_number (width_text text);
      height = prefix_number (height_text text);
      colours = colours_at (pixels_of text) (drop 1 (space_text text));
    } else None
