-- What a line tells has no line feed in it: numbers and the parts of a text.
use Rattle.std.proofs.Common.{◌≡◌, ◌≢◌, ℕ, zero, suc, ◌+◌, ◌/◌, ◌%◌, ◌≤◌, ◌==◌, nat_lt, Bool, true, false, ◌&&◌, not, if◌then◌else◌, List, [], ◌∷◌, ◌++◌, codes, decimal, Option, Some, ℤ, pos, negsuc, refl, ap, ◌∙◌, arith}
use Rattle.std.specs.Fmt.{digit_glyph, digits, digits_onto, signed_decimal}
use Rattle.std.specs.List.{find}
use Rattle.std.specs.Option.{option_map}
use Rattle.std.proofs.lemmas.Bool.{eqb-false, ne_eqb}
use Rattle.std.proofs.lemmas.List.Elements.{All-cons, All-nil}
use Rattle.mapping.specs.declared.geometry.Colour.{Colour}
use Rattle.mapping.specs.declared.geometry.Point.{Point}
use Rattle.mapping.specs.declared.geometry.Rect.{Rect}
use Rattle.draw_ops.specs.KindTable.{row_with}
use Rattle.listing.specs.Line.{text_or_hyphen}
use Rattle.listing.specs.ListingLaws.{IsOneLine}
use Rattle.listing.specs.Parts.{colour_text, digit, four_digits, point_text, rect_text, dimensions_text, two_digits}

-- a test for it
abbrev pub is_plain : List ℕ → Bool
is_plain [] = true
is_plain (byte ∷ bytes) = not (byte == 10) && is_plain bytes

abbrev pub Plain : List ℕ → Type 0
Plain bytes = is_plain bytes ≡ true

by_byte : (byte : ℕ) (bytes : List ℕ) (b : Bool) → (byte == 10) ≡ b → (Plain bytes → IsOneLine bytes) → (not b && is_plain bytes) ≡ true → IsOneLine (byte ∷ bytes)
by_byte byte bytes true e onward h = cc
by_byte byte bytes false e onward h = All-cons (λ it. it ≢ 10) byte bytes (eqb-false byte 10 e) (onward h)

pub one_line : (bytes : List ℕ) → Plain bytes → IsOneLine bytes
one_line [] h = All-nil (λ it. it ≢ 10)
one_line (byte ∷ bytes) h = by_byte byte bytes (byte == 10) refl (one_line bytes) h

-- one text behind another, and one of two
by_leading : (b : Bool) (one other more : Bool) → (one ≡ true → more ≡ true) → (b && one) ≡ true → (b && more) ≡ true
by_leading true one other more onward h = onward h
by_leading false one other more onward h = cc

pub plain_append : (xs ys : List ℕ) → Plain xs → Plain ys → Plain (xs ++ ys)
plain_append [] ys p q = q
plain_append (x ∷ xs) ys p q = by_leading (not (x == 10)) (is_plain xs) true (is_plain (xs ++ ys)) (λ h. plain_append xs ys h q) p

pub plain_between : (xs between ys : List ℕ) → Plain xs → Plain between → Plain ys → Plain (xs ++ between ++ ys)
plain_between xs between ys p b q = plain_append (xs ++ between) ys (plain_append xs between p b) q

pub plain_either : (b : Bool) (xs ys : List ℕ) → Plain xs → Plain ys → Plain (if b then xs else ys)
plain_either true xs ys p q = p
plain_either false xs ys p q = q

-- a byte above that of a line feed, in front of a text
pub plain_cons : (byte : ℕ) (bytes : List ℕ) → 48 ≤ byte → Plain bytes → Plain (byte ∷ bytes)
plain_cons byte bytes high h =
    let other : byte ≢ 10 = λ e. omega (arith, high, e) in
    ap (λ (b : Bool). not b && is_plain bytes) (ne_eqb byte 10 other) ∙ h

-- digits
glyph_high : (d : ℕ) (b : Bool) → 48 ≤ (if b then 48 + d else (if false then 55 + d else 87 + d))
glyph_high d true = omega arith
glyph_high d false = omega arith

onto_plain : (capacity n : ℕ) (bytes : List ℕ) → Plain bytes → Plain (digits_onto capacity 10 false n bytes)
onto_plain zero n bytes h = h
onto_plain (suc capacity) n bytes h =
    let more = plain_cons (digit_glyph false (n % 10)) bytes (glyph_high (n % 10) (nat_lt (n % 10) 10)) h in
    plain_either (n / 10 == 0) (digit_glyph false (n % 10) ∷ bytes) (digits_onto capacity 10 false (n / 10) (digit_glyph false (n % 10) ∷ bytes)) more
    (onto_plain capacity (n / 10) (digit_glyph false (n % 10) ∷ bytes) more)

pub decimal_plain : (n : ℕ) → Plain (decimal n)
unfolding digits
decimal_plain n = onto_plain 64 n [] refl

pub signed_plain : (z : ℤ) → Plain (signed_decimal z)
signed_plain (pos n) = decimal_plain n
signed_plain (negsuc n) = decimal_plain (suc n)

digit_high : (n : ℕ) (b : Bool) → 48 ≤ (if b then 48 + n else 87 + n)
digit_high n true = omega arith
digit_high n false = omega arith

two_plain : (n : ℕ) → Plain (two_digits n)
two_plain n =
    plain_cons (digit (n / 16 % 16)) (digit (n % 16) ∷ []) (digit_high (n / 16 % 16) (nat_lt (n / 16 % 16) 10))
    (plain_cons (digit (n % 16)) [] (digit_high (n % 16) (nat_lt (n % 16) 10)) refl)

pub four_plain : (n : ℕ) → Plain (four_digits n)
four_plain n = plain_append (two_digits (n / 256)) (two_digits n) (two_plain (n / 256)) (two_plain n)

-- points, boxes, colours and sides
pub point_plain : (point : Point) → Plain (point_text point)
unfolding point_text
point_plain point = plain_between (signed_decimal point.x) (codes ",") (signed_decimal point.y) (signed_plain point.x) refl (signed_plain point.y)

pub rect_plain : (rect : Rect) → Plain (rect_text rect)
rect_plain rect =
    let upper : Point = record { x = rect.l; y = rect.t } in
    let lower : Point = record { x = rect.r; y = rect.b } in
    plain_between (point_text upper) (codes ",") (point_text lower) (point_plain upper) refl (point_plain lower)

pub colour_plain : (colour : Colour) → Plain (colour_text colour)
unfolding colour_text
colour_plain colour =
    plain_between (two_digits colour.r) (two_digits colour.g) (two_digits colour.b) (two_plain colour.r) (two_plain colour.g) (two_plain colour.b)

pub dimensions_plain : (width height : ℕ) → Plain (dimensions_text width height)
dimensions_plain width height = plain_between (decimal width) (codes "x") (decimal height) (decimal_plain width) refl (decimal_plain height)

-- the names in a table
abbrev pub are_plain : List (ℕ × List ℕ) → Bool
are_plain [] = true
are_plain (row ∷ rows) = is_plain row.1 && are_plain rows

both : (one other : Bool) → (one && other) ≡ true → (one ≡ true) × (other ≡ true)
both true true h = (refl, refl)
both true false h = cc
both false other h = cc

by_row : (row : ℕ × List ℕ) (found : Option (ℕ × List ℕ)) (b : Bool) → Plain row.1 → Plain (text_or_hyphen (option_map (λ (it : ℕ × List ℕ). it.1) found)) → Plain (text_or_hyphen (option_map (λ (it : ℕ × List ℕ). it.1) (if b then Some row else found)))
by_row row found true here later = here
by_row row found false here later = later

pub named_plain : (rows : List (ℕ × List ℕ)) (kind : ℕ) → are_plain rows ≡ true → Plain (text_or_hyphen (row_with rows kind))
named_plain [] kind h = refl
named_plain (row ∷ rows) kind h =
    let parts = both (is_plain row.1) (are_plain rows) h in
    by_row row (find (λ (it : ℕ × List ℕ). it.0 == kind) rows) (row.0 == kind) parts.0 (named_plain rows kind parts.1)
