-- Which records of WMF are supported, which are skipped, and which are rejected, by their functions ([MS-WMF] 2.1.1.1).
use Rattle.std.specs.Prelude.{ℕ, List, [], ◌∷◌, ◌++◌, map, Option}
use Rattle.draw_ops.specs.KindTable.{row_with}
use Rattle.wmf_records.specs.declared.entry.WmfEntry.{WmfEntry}
use Rattle.wmf_records.specs.declared.entry.WmfEntry.TheVariants.{DibBitBlt, DibStretchBlt, StretchDib, Eof, LineTo, PatBlt, Polyline, Polygon, PolyPolygon, Rectangle, SetPixel, CreateBrushIndirect, CreateFontIndirect, CreatePalette, CreatePenIndirect, DeleteObject, DibCreatePatternBrush, SelectObject, SelectPalette, ExcludeClipRect, IntersectClipRect, MoveTo, OffsetViewportOrg, OffsetWindowOrg, RestoreDc, SaveDc, SetBkColor, SetBkMode, SetLayout, SetMapMode, SetPolyFillMode, SetRop2, SetViewportExt, SetViewportOrg, SetWindowExt, SetWindowOrg, Skipped, Rejected}

-- the record that has no effect under a condition
abbrev pub wmf_conditional : List (ℕ × WmfEntry)
wmf_conditional = (0x0149, SetLayout) ∷ []

-- the supported records
abbrev pub wmf_played : List (ℕ × WmfEntry)
wmf_played =
    (0x0940, DibBitBlt) ∷ (0x0b41, DibStretchBlt) ∷ (0x0f43, StretchDib) ∷
    (0x0000, Eof) ∷
    (0x0213, LineTo) ∷ (0x061d, PatBlt) ∷ (0x0325, Polyline) ∷ (0x0324, Polygon) ∷ (0x0538, PolyPolygon) ∷ (0x041b, Rectangle) ∷ (0x041f, SetPixel) ∷
    (0x02fc, CreateBrushIndirect) ∷ (0x02fb, CreateFontIndirect) ∷ (0x00f7, CreatePalette) ∷ (0x02fa, CreatePenIndirect) ∷ (0x01f0, DeleteObject) ∷ (0x0142, DibCreatePatternBrush) ∷ (0x012d, SelectObject) ∷ (0x0234, SelectPalette) ∷
    (0x0415, ExcludeClipRect) ∷ (0x0416, IntersectClipRect) ∷ (0x0214, MoveTo) ∷ (0x0211, OffsetViewportOrg) ∷ (0x020f, OffsetWindowOrg) ∷ (0x0127, RestoreDc) ∷ (0x001e, SaveDc) ∷ (0x0201, SetBkColor) ∷ (0x0102, SetBkMode) ∷ (0x0103, SetMapMode) ∷ (0x0106, SetPolyFillMode) ∷ (0x0104, SetRop2) ∷ (0x020e, SetViewportExt) ∷ (0x020d, SetViewportOrg) ∷ (0x020c, SetWindowExt) ∷ (0x020b, SetWindowOrg) ∷ []

-- the records without effect
abbrev pub wmf_skipped : List ℕ
wmf_skipped = 0x0035 ∷ 0x0037 ∷ 0x0105 ∷ 0x0107 ∷ 0x0108 ∷ 0x0139 ∷ 0x0209 ∷ 0x020a ∷ 0x012e ∷ 0x0231 ∷ 0x0436 ∷ 0x0626 ∷ []

-- the records that aren't supported
abbrev pub wmf_rejected : List ℕ
wmf_rejected = 0x0220 ∷ 0x0228 ∷ 0x0410 ∷ 0x0412 ∷ 0x0418 ∷ 0x0419 ∷ 0x0429 ∷ 0x0521 ∷ 0x0548 ∷ 0x061c ∷ 0x0817 ∷ 0x081a ∷ 0x0830 ∷ 0x0922 ∷ 0x0a32 ∷ 0x0b23 ∷ 0x0d33 ∷ 0x012a ∷ 0x012b ∷ 0x012c ∷ 0x01f9 ∷ 0x06ff ∷ []

-- how the records of each function are treated
abbrev pub wmf_kinds : List (ℕ × WmfEntry)
wmf_kinds =
    wmf_played ++ wmf_conditional ++ map (λ function. (function, Skipped)) wmf_skipped
    ++ map (λ function. (function, Rejected)) wmf_rejected

-- every function of the table
abbrev pub wmf_functions : List ℕ
wmf_functions = map (λ row. row.0) wmf_kinds

-- how a record with this function is treated
abbrev pub wmf_entry_of : ℕ → Option WmfEntry
wmf_entry_of function = row_with wmf_kinds function
