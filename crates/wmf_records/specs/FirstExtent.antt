-- The extent that gives the size of a plain WMF file: [MS-WMF] 2.3.5.30.
use Rattle.std.specs.Prelude.{ℕ, ℤ, Bool, ◌&&◌, not, ◌==◌, nat_le, unsigned_abs, if◌then◌else◌, List, [], ◌∷◌, length, Option, Some, None}
use Rattle.std.specs.Option.{option_or}
use Rattle.point_views.specs.Numbers.{i16_at}
use Rattle.draw_ops.specs.Framed.{framed_of}
use Rattle.draw_ops.specs.Records.{Record}
use Rattle.wmf_records.specs.Framing.{wmf_framing}

-- META_SETWINDOWEXT with both its numbers, neither of them 0
abbrev pub has_extent : Record → Bool
has_extent r = r.kind == 0x020c && nat_le 10 (length r.bytes) && not (unsigned_abs (i16_at r.bytes 6) == 0) && not (unsigned_abs (i16_at r.bytes 8) == 0)

-- the x and y of META_SETWINDOWEXT, stored with y first
abbrev pub extent_in : Record → Option (ℤ × ℤ)
extent_in r = if has_extent r then Some (i16_at r.bytes 8, i16_at r.bytes 6) else None

-- the first usable extent in some records
abbrev pub first_extent_in : List Record → Option (ℤ × ℤ)
first_extent_in [] = None
first_extent_in (r ∷ rs) = option_or (extent_in r) (first_extent_in rs)

-- the first usable extent in the records that some bytes form, before the end record or a framing fault
abbrev pub first_extent : List ℕ → Option (ℤ × ℤ)
first_extent bytes = first_extent_in (framed_of wmf_framing bytes).records
