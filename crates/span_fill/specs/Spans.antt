-- The spans of a row.
use Rattle.std.specs.Prelude.{◌≡◌, ℕ, suc, ◌<◌, ◌≤◌, Bool, false, ◌&&◌, ◌||◌, nat_le, nat_lt, List, [], ◌∷◌}
use Rattle.span_fill.specs.declared.span.Span.{Span}
use Rattle.span_fill.specs.declared.span.Region.{Region}

-- the span contains n
abbrev pub in_span : Span → ℕ → Bool
in_span span n = nat_le span.from n && nat_lt n span.to

-- the region contains the pixel (x, y)
abbrev pub in_region : Region → ℕ → ℕ → Bool
in_region region x y = in_span region.columns x && in_span region.rows y

-- one of the spans contains x
abbrev pub in_spans : List Span → ℕ → Bool
in_spans [] x = false
in_spans (span ∷ spans) x = in_span span x || in_spans spans x

-- each span has a pixel, and the next one begins after a pixel that no span has; all are between the two numbers
abbrev pub AreApart : ℕ → ℕ → List Span → Type 0
AreApart first last [] = Unit
AreApart first last (span ∷ spans) = (first ≤ span.from) × (span.from < span.to) × (span.to ≤ last) × AreApart (suc span.to) last spans

-- the spans are sorted and at least one pixel apart within the interval, and they contain what the test accepts of it
pub record AreRow (test : ℕ → Bool) (interval : Span) (spans : List Span) : Type 0 where
  pub apart : AreApart interval.from interval.to spans
  pub exact : (x : ℕ) → interval.from ≤ x → x < interval.to → in_spans spans x ≡ test x
