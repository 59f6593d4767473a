-- The parts of a line: points, boxes, colours and numbers.
use Rattle.std.specs.Prelude.{ℕ, ◌+◌, ◌/◌, ◌%◌, nat_lt, if◌then◌else◌, List, [], ◌∷◌, ◌++◌, codes, decimal}
use Rattle.std.specs.Fmt.{signed_decimal}
use Rattle.mapping.specs.declared.geometry.Colour.{Colour}
use Rattle.mapping.specs.declared.geometry.Point.{Point}
use Rattle.mapping.specs.declared.geometry.Rect.{Rect}

-- the character of a digit below sixteen
abbrev pub digit : ℕ → ℕ
digit n = if nat_lt n 10 then 48 + n else 87 + n

-- the last two hexadecimal digits of a number
abbrev pub two_digits : ℕ → List ℕ
two_digits n = digit (n / 16 % 16) ∷ digit (n % 16) ∷ []

-- the last four hexadecimal digits of a number
abbrev pub four_digits : ℕ → List ℕ
four_digits n = two_digits (n / 256) ++ two_digits n

-- x and y
unfoldable pub point_text : Point → List ℕ
point_text point = signed_decimal point.x ++ codes "," ++ signed_decimal point.y

-- left, top, right and bottom
abbrev pub rect_text : Rect → List ℕ
rect_text rect = point_text (record { x = rect.l; y = rect.t }) ++ codes "," ++ point_text (record { x = rect.r; y = rect.b })

-- red, green and blue, with two hexadecimal digits each
unfoldable pub colour_text : Colour → List ℕ
colour_text colour = codes "#" ++ two_digits colour.r ++ two_digits colour.g ++ two_digits colour.b

-- a width and a height
abbrev pub dimensions_text : ℕ → ℕ → List ℕ
dimensions_text width height = decimal width ++ codes "x" ++ decimal height
