-- The nib of a pen: how many columns and rows of a surface it covers.
use Rattle.std.specs.Prelude.{◌≡◌, ℕ, ◌-◌, ◌*◌, ◌/◌, ◌≤◌, unsigned_abs, max, Bool, true, ◌&&◌, nat_le}
use Rattle.std.proofs.lemmas.Bool.{and_from, and_parts, le-leb, leb-true}
use Rattle.mapping.specs.Plane.{AxisNumbers, MapNumbers}
use Rattle.mapping.specs.PlacingLaws.{IsNoLarger, ShowsFrame}
use Rattle.mapping.specs.Surface.{Surface}
use Rattle.mapping.specs.declared.nib.Nib.{Nib}

-- the greatest width or height of a nib, in pixels
abbrev pub nib_limit : ℕ
nib_limit = 4096

-- a nib may have this width or height
pub record IsNibSide (n : ℕ) : Type 0 where
  pub not_empty : 1 ≤ n
  pub within : n ≤ nib_limit

-- a nib may have this size
pub record IsNib (nib : Nib) : Type 0 where
  pub x : IsNibSide nib.x
  pub y : IsNibSide nib.y

-- whether a nib may have this width or height, or this size
abbrev pub is_nib_side : ℕ → Bool
is_nib_side n = nat_le 1 n && nat_le n nib_limit

abbrev pub is_nib : Nib → Bool
is_nib nib = is_nib_side nib.x && is_nib_side nib.y

nib_side_true : (n : ℕ) → is_nib_side n ≡ true → IsNibSide n
nib_side_true n test =
    let parts = and_parts (nat_le 1 n) (nat_le n nib_limit) test in record { not_empty = leb-true _ _ parts.0; within = leb-true _ _ parts.1 }

nib_side_from : (n : ℕ) → IsNibSide n → is_nib_side n ≡ true
nib_side_from n h = and_from (nat_le 1 n) (nat_le n nib_limit) (le-leb _ _ h.not_empty) (le-leb _ _ h.within)

pub nib_true : (nib : Nib) → is_nib nib ≡ true → IsNib nib
nib_true nib test =
    let parts = and_parts (is_nib_side nib.x) (is_nib_side nib.y) test in record { x = nib_side_true nib.x parts.0; y = nib_side_true nib.y parts.1 }

pub nib_from : (nib : Nib) → IsNib nib → is_nib nib ≡ true
nib_from nib h = and_from (is_nib_side nib.x) (is_nib_side nib.y) (nib_side_from nib.x h.x) (nib_side_from nib.y h.y)

-- of the n columns, or rows, of a nib, how many lie before the one that follows the line
abbrev pub reach_before : ℕ → ℕ
reach_before n = (n - 1) / 2

-- of the n columns, or rows, of a nib, how many lie after the one that follows the line
abbrev pub reach_after : ℕ → ℕ
reach_after n = n - 1 - reach_before n

-- a width in page units, scaled to a surface and rounded down. The frame's side is counted in parts
abbrev pub scaled_width : ℕ → AxisNumbers → ℕ → ℕ → ℕ
scaled_width width axis surface_side frame_side =
    width * unsigned_abs axis.viewport_extent * (axis.parts * surface_side) / (unsigned_abs axis.window_extent * frame_side)

-- how many columns, or rows, of the surface a pen of this width covers: at least one
abbrev pub nib_side : ℕ → AxisNumbers → ℕ → ℕ → ℕ
nib_side width axis surface_side frame_side = max 1 (scaled_width width axis surface_side frame_side)

-- the nib of a pen of this width under a page map, on a surface
abbrev pub nib_of : ℕ → MapNumbers → Surface → Nib
nib_of width map s = record { x = nib_side width map.x s.width s.frame_width; y = nib_side width map.y s.height s.frame_height }

-- a nib is at least as large as another, on both axes
pub record CoversNib (nib other : Nib) : Type 0 where
  pub x : other.x ≤ nib.x
  pub y : other.y ≤ nib.y

-- On a larger surface a pen covers at least as many pixels, and a pen of width 0 covers one.
pub record NibLaws : Type 0 where
  pub grows :
      (width : ℕ) (map : MapNumbers) (smaller larger : Surface) → ShowsFrame larger → IsNoLarger smaller larger
      → CoversNib (nib_of width map larger) (nib_of width map smaller)
  pub one_without_width : (map : MapNumbers) (s : Surface) → nib_of 0 map s ≡ record { x = 1; y = 1 }
