-- The names of the functions of WMF ([MS-WMF] 2.1.1.1).
use Rattle.std.specs.Prelude.{◌≡◌, ℕ, List, [], ◌∷◌, map, codes, Option}
use Rattle.draw_ops.specs.KindTable.{row_with}
use Rattle.wmf_records.specs.Kinds.{wmf_functions}

-- each function with its name
abbrev pub wmf_names : List (ℕ × List ℕ)
wmf_names =
    (0x0940, codes "META_DIBBITBLT") ∷ (0x0b41, codes "META_DIBSTRETCHBLT") ∷ (0x0f43, codes "META_STRETCHDIB") ∷ (0x0000, codes "META_EOF") ∷
    (0x0213, codes "META_LINETO") ∷ (0x061d, codes "META_PATBLT") ∷ (0x0325, codes "META_POLYLINE") ∷ (0x0324, codes "META_POLYGON") ∷
    (0x0538, codes "META_POLYPOLYGON") ∷ (0x041b, codes "META_RECTANGLE") ∷ (0x041f, codes "META_SETPIXEL") ∷
    (0x02fc, codes "META_CREATEBRUSHINDIRECT") ∷ (0x02fb, codes "META_CREATEFONTINDIRECT") ∷ (0x00f7, codes "META_CREATEPALETTE") ∷
    (0x02fa, codes "META_CREATEPENINDIRECT") ∷ (0x01f0, codes "META_DELETEOBJECT") ∷ (0x0142, codes "META_DIBCREATEPATTERNBRUSH") ∷
    (0x012d, codes "META_SELECTOBJECT") ∷ (0x0234, codes "META_SELECTPALETTE") ∷ (0x0415, codes "META_EXCLUDECLIPRECT") ∷
    (0x0416, codes "META_INTERSECTCLIPRECT") ∷ (0x0214, codes "META_MOVETO") ∷ (0x0211, codes "META_OFFSETVIEWPORTORG") ∷
    (0x020f, codes "META_OFFSETWINDOWORG") ∷ (0x0127, codes "META_RESTOREDC") ∷ (0x001e, codes "META_SAVEDC") ∷ (0x0201, codes "META_SETBKCOLOR") ∷
    (0x0102, codes "META_SETBKMODE") ∷ (0x0103, codes "META_SETMAPMODE") ∷ (0x0106, codes "META_SETPOLYFILLMODE") ∷ (0x0104, codes "META_SETROP2") ∷
    (0x020e, codes "META_SETVIEWPORTEXT") ∷ (0x020d, codes "META_SETVIEWPORTORG") ∷ (0x020c, codes "META_SETWINDOWEXT") ∷
    (0x020b, codes "META_SETWINDOWORG") ∷ (0x0149, codes "META_SETLAYOUT") ∷ (0x0035, codes "META_REALIZEPALETTE") ∷
    (0x0037, codes "META_SETPALENTRIES") ∷ (0x0105, codes "META_SETRELABS") ∷ (0x0107, codes "META_SETSTRETCHBLTMODE") ∷
    (0x0108, codes "META_SETTEXTCHAREXTRA") ∷ (0x0139, codes "META_RESIZEPALETTE") ∷ (0x0209, codes "META_SETTEXTCOLOR") ∷
    (0x020a, codes "META_SETTEXTJUSTIFICATION") ∷ (0x012e, codes "META_SETTEXTALIGN") ∷ (0x0231, codes "META_SETMAPPERFLAGS") ∷
    (0x0436, codes "META_ANIMATEPALETTE") ∷ (0x0626, codes "META_ESCAPE") ∷ (0x0220, codes "META_OFFSETCLIPRGN") ∷ (0x0228, codes "META_FILLREGION") ∷
    (0x0410, codes "META_SCALEWINDOWEXT") ∷ (0x0412, codes "META_SCALEVIEWPORTEXT") ∷ (0x0418, codes "META_ELLIPSE") ∷
    (0x0419, codes "META_FLOODFILL") ∷ (0x0429, codes "META_FRAMEREGION") ∷ (0x0521, codes "META_TEXTOUT") ∷ (0x0548, codes "META_EXTFLOODFILL") ∷
    (0x061c, codes "META_ROUNDRECT") ∷ (0x0817, codes "META_ARC") ∷ (0x081a, codes "META_PIE") ∷ (0x0830, codes "META_CHORD") ∷
    (0x0922, codes "META_BITBLT") ∷ (0x0a32, codes "META_EXTTEXTOUT") ∷ (0x0b23, codes "META_STRETCHBLT") ∷ (0x0d33, codes "META_SETDIBTODEV") ∷
    (0x012a, codes "META_INVERTREGION") ∷ (0x012b, codes "META_PAINTREGION") ∷ (0x012c, codes "META_SELECTCLIPREGION") ∷
    (0x01f9, codes "META_CREATEPATTERNBRUSH") ∷ (0x06ff, codes "META_CREATEREGION") ∷ []

-- the name of a function
abbrev pub wmf_name_of : ℕ → Option (List ℕ)
wmf_name_of function = row_with wmf_names function

-- the functions in the table of kinds have names, and no others have
abbrev pub EachFunctionHasAName : Type 0
EachFunctionHasAName = map (λ row. row.0) wmf_names ≡ wmf_functions
