-- Which records of EMF are supported, which are skipped, and which are rejected, by their types ([MS-EMF] 2.1.1).
use Rattle.std.specs.Prelude.{ℕ, List, [], ◌∷◌, ◌++◌, map, Option}
use Rattle.draw_ops.specs.KindTable.{row_with}
use Rattle.emf_records.specs.declared.entry.EmfEntry.{EmfEntry}
use Rattle.emf_records.specs.declared.entry.EmfEntry.TheVariants.{BitBlt, StretchBlt, StretchDiBits, ExcludeClipRect, IntersectClipRect, ExtSelectClipRgn, Comment, Header, Eof, Polygon, Polyline, PolylineTo, PolyPolyline, PolyPolygon, SetPixelV, Rectangle, LineTo, FillPath, StrokeAndFillPath, StrokePath, Polygon16, Polyline16, PolylineTo16, PolyPolyline16, PolyPolygon16, SelectObject, CreatePen, CreateBrushIndirect, DeleteObject, SelectPalette, CreateDibPatternBrushPt, CreatePalette, ExtCreateFontIndirectW, ExtCreatePen, BeginPath, EndPath, CloseFigure, AbortPath, SetWindowExtEx, SetWindowOrgEx, SetViewportExtEx, SetViewportOrgEx, SetMapMode, SetBkMode, SetPolyFillMode, SetRop2, SetBkColor, MoveToEx, SaveDc, RestoreDc, SetLayout, SetWorldTransform, ModifyWorldTransform, Skipped, Rejected}

-- the records that have no effect under a condition
abbrev pub emf_conditional : List (ℕ × EmfEntry)
emf_conditional =
    (115, SetLayout) ∷ (35, SetWorldTransform) ∷ (36, ModifyWorldTransform) ∷ []

-- the supported records; a comment is read only for its notes
abbrev pub emf_played : List (ℕ × EmfEntry)
emf_played =
    (76, BitBlt) ∷ (77, StretchBlt) ∷ (81, StretchDiBits) ∷
    (29, ExcludeClipRect) ∷ (30, IntersectClipRect) ∷ (75, ExtSelectClipRgn) ∷
    (70, Comment) ∷
    (1, Header) ∷ (14, Eof) ∷
    (3, Polygon) ∷ (4, Polyline) ∷ (6, PolylineTo) ∷ (7, PolyPolyline) ∷ (8, PolyPolygon) ∷ (15, SetPixelV) ∷ (43, Rectangle) ∷
    (54, LineTo) ∷ (62, FillPath) ∷ (63, StrokeAndFillPath) ∷ (64, StrokePath) ∷ (86, Polygon16) ∷ (87, Polyline16) ∷ (89, PolylineTo16) ∷
    (90, PolyPolyline16) ∷ (91, PolyPolygon16) ∷
    (37, SelectObject) ∷ (38, CreatePen) ∷ (39, CreateBrushIndirect) ∷ (40, DeleteObject) ∷ (48, SelectPalette) ∷ (94, CreateDibPatternBrushPt) ∷ (49, CreatePalette) ∷ (82, ExtCreateFontIndirectW) ∷
    (95, ExtCreatePen) ∷
    (59, BeginPath) ∷ (60, EndPath) ∷ (61, CloseFigure) ∷ (68, AbortPath) ∷
    (9, SetWindowExtEx) ∷ (10, SetWindowOrgEx) ∷ (11, SetViewportExtEx) ∷ (12, SetViewportOrgEx) ∷ (17, SetMapMode) ∷ (18, SetBkMode) ∷ (19, SetPolyFillMode) ∷
    (20, SetRop2) ∷ (25, SetBkColor) ∷ (27, MoveToEx) ∷ (33, SaveDc) ∷ (34, RestoreDc) ∷ []

-- the records without effect
abbrev pub emf_skipped : List ℕ
emf_skipped =
    13 ∷ 16 ∷ 21 ∷ 22 ∷ 23 ∷ 24 ∷ 50 ∷ 51 ∷ 52 ∷ 57 ∷ 58 ∷ 98 ∷ 105 ∷ 106 ∷ 109 ∷ 110 ∷ 119 ∷ 120 ∷ []

-- the records that aren't supported
abbrev pub emf_rejected : List ℕ
emf_rejected =
    2 ∷ 5 ∷ 26 ∷ 28 ∷ 31 ∷ 32 ∷ 41 ∷ 42 ∷ 44 ∷ 45 ∷ 46 ∷ 47 ∷ 53 ∷ 55 ∷ 56 ∷ 65 ∷ 66 ∷ 67 ∷ 71 ∷ 72 ∷ 73 ∷ 74 ∷ 78 ∷ 79 ∷ 80 ∷ 83 ∷ 84 ∷ 85 ∷ 88 ∷ 92 ∷ 93 ∷ 96 ∷ 97 ∷ 99 ∷ 100 ∷ 101 ∷ 102 ∷ 103 ∷ 104 ∷ 108 ∷ 111 ∷ 112 ∷ 113 ∷ 114 ∷ 116 ∷ 118 ∷ 121 ∷ 122 ∷ []

-- how the records of each type are treated
abbrev pub emf_kinds : List (ℕ × EmfEntry)
emf_kinds =
    emf_played ++ emf_conditional ++ map (λ record_type. (record_type, Skipped)) emf_skipped
    ++ map (λ record_type. (record_type, Rejected)) emf_rejected

-- every type of the table
abbrev pub emf_types : List ℕ
emf_types = map (λ row. row.0) emf_kinds

-- how a record with this type is treated
abbrev pub emf_entry_of : ℕ → Option EmfEntry
emf_entry_of record_type = row_with emf_kinds record_type
