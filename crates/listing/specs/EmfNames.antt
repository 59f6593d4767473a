-- The names of the types of EMF ([MS-EMF] 2.1.1).
use Rattle.std.specs.Prelude.{◌≡◌, ℕ, List, [], ◌∷◌, map, codes, Option}
use Rattle.draw_ops.specs.KindTable.{row_with}
use Rattle.emf_records.specs.Kinds.{emf_types}

-- each type with its name
abbrev pub emf_names : List (ℕ × List ℕ)
emf_names =
    (76, codes "EMR_BITBLT") ∷ (77, codes "EMR_STRETCHBLT") ∷ (81, codes "EMR_STRETCHDIBITS") ∷ (29, codes "EMR_EXCLUDECLIPRECT") ∷
    (30, codes "EMR_INTERSECTCLIPRECT") ∷ (75, codes "EMR_EXTSELECTCLIPRGN") ∷ (70, codes "EMR_COMMENT") ∷ (1, codes "EMR_HEADER") ∷
    (14, codes "EMR_EOF") ∷ (3, codes "EMR_POLYGON") ∷ (4, codes "EMR_POLYLINE") ∷ (6, codes "EMR_POLYLINETO") ∷ (7, codes "EMR_POLYPOLYLINE") ∷
    (8, codes "EMR_POLYPOLYGON") ∷ (15, codes "EMR_SETPIXELV") ∷ (43, codes "EMR_RECTANGLE") ∷ (54, codes "EMR_LINETO") ∷ (62, codes "EMR_FILLPATH") ∷
    (63, codes "EMR_STROKEANDFILLPATH") ∷ (64, codes "EMR_STROKEPATH") ∷ (86, codes "EMR_POLYGON16") ∷ (87, codes "EMR_POLYLINE16") ∷
    (89, codes "EMR_POLYLINETO16") ∷ (90, codes "EMR_POLYPOLYLINE16") ∷ (91, codes "EMR_POLYPOLYGON16") ∷ (37, codes "EMR_SELECTOBJECT") ∷
    (38, codes "EMR_CREATEPEN") ∷ (39, codes "EMR_CREATEBRUSHINDIRECT") ∷ (40, codes "EMR_DELETEOBJECT") ∷ (48, codes "EMR_SELECTPALETTE") ∷
    (94, codes "EMR_CREATEDIBPATTERNBRUSHPT") ∷ (49, codes "EMR_CREATEPALETTE") ∷ (82, codes "EMR_EXTCREATEFONTINDIRECTW") ∷
    (95, codes "EMR_EXTCREATEPEN") ∷ (59, codes "EMR_BEGINPATH") ∷ (60, codes "EMR_ENDPATH") ∷ (61, codes "EMR_CLOSEFIGURE") ∷
    (68, codes "EMR_ABORTPATH") ∷ (9, codes "EMR_SETWINDOWEXTEX") ∷ (10, codes "EMR_SETWINDOWORGEX") ∷ (11, codes "EMR_SETVIEWPORTEXTEX") ∷
    (12, codes "EMR_SETVIEWPORTORGEX") ∷ (17, codes "EMR_SETMAPMODE") ∷ (18, codes "EMR_SETBKMODE") ∷ (19, codes "EMR_SETPOLYFILLMODE") ∷
    (20, codes "EMR_SETROP2") ∷ (25, codes "EMR_SETBKCOLOR") ∷ (27, codes "EMR_MOVETOEX") ∷ (33, codes "EMR_SAVEDC") ∷ (34, codes "EMR_RESTOREDC") ∷
    (115, codes "EMR_SETLAYOUT") ∷ (35, codes "EMR_SETWORLDTRANSFORM") ∷ (36, codes "EMR_MODIFYWORLDTRANSFORM") ∷ (13, codes "EMR_SETBRUSHORGEX") ∷
    (16, codes "EMR_SETMAPPERFLAGS") ∷ (21, codes "EMR_SETSTRETCHBLTMODE") ∷ (22, codes "EMR_SETTEXTALIGN") ∷ (23, codes "EMR_SETCOLORADJUSTMENT") ∷
    (24, codes "EMR_SETTEXTCOLOR") ∷ (50, codes "EMR_SETPALETTEENTRIES") ∷ (51, codes "EMR_RESIZEPALETTE") ∷ (52, codes "EMR_REALIZEPALETTE") ∷
    (57, codes "EMR_SETARCDIRECTION") ∷ (58, codes "EMR_SETMITERLIMIT") ∷ (98, codes "EMR_SETICMMODE") ∷ (105, codes "EMR_DRAWESCAPE") ∷
    (106, codes "EMR_EXTESCAPE") ∷ (109, codes "EMR_FORCEUFIMAPPING") ∷ (110, codes "EMR_NAMEDESCAPE") ∷ (119, codes "EMR_SETLINKEDUFIS") ∷
    (120, codes "EMR_SETTEXTJUSTIFICATION") ∷ (2, codes "EMR_POLYBEZIER") ∷ (5, codes "EMR_POLYBEZIERTO") ∷ (26, codes "EMR_OFFSETCLIPRGN") ∷
    (28, codes "EMR_SETMETARGN") ∷ (31, codes "EMR_SCALEVIEWPORTEXTEX") ∷ (32, codes "EMR_SCALEWINDOWEXTEX") ∷ (41, codes "EMR_ANGLEARC") ∷
    (42, codes "EMR_ELLIPSE") ∷ (44, codes "EMR_ROUNDRECT") ∷ (45, codes "EMR_ARC") ∷ (46, codes "EMR_CHORD") ∷ (47, codes "EMR_PIE") ∷
    (53, codes "EMR_EXTFLOODFILL") ∷ (55, codes "EMR_ARCTO") ∷ (56, codes "EMR_POLYDRAW") ∷ (65, codes "EMR_FLATTENPATH") ∷
    (66, codes "EMR_WIDENPATH") ∷ (67, codes "EMR_SELECTCLIPPATH") ∷ (71, codes "EMR_FILLRGN") ∷ (72, codes "EMR_FRAMERGN") ∷
    (73, codes "EMR_INVERTRGN") ∷ (74, codes "EMR_PAINTRGN") ∷ (78, codes "EMR_MASKBLT") ∷ (79, codes "EMR_PLGBLT") ∷
    (80, codes "EMR_SETDIBITSTODEVICE") ∷ (83, codes "EMR_EXTTEXTOUTA") ∷ (84, codes "EMR_EXTTEXTOUTW") ∷ (85, codes "EMR_POLYBEZIER16") ∷
    (88, codes "EMR_POLYBEZIERTO16") ∷ (92, codes "EMR_POLYDRAW16") ∷ (93, codes "EMR_CREATEMONOBRUSH") ∷ (96, codes "EMR_POLYTEXTOUTA") ∷
    (97, codes "EMR_POLYTEXTOUTW") ∷ (99, codes "EMR_CREATECOLORSPACE") ∷ (100, codes "EMR_SETCOLORSPACE") ∷ (101, codes "EMR_DELETECOLORSPACE") ∷
    (102, codes "EMR_GLSRECORD") ∷ (103, codes "EMR_GLSBOUNDEDRECORD") ∷ (104, codes "EMR_PIXELFORMAT") ∷ (108, codes "EMR_SMALLTEXTOUT") ∷
    (111, codes "EMR_COLORCORRECTPALETTE") ∷ (112, codes "EMR_SETICMPROFILEA") ∷ (113, codes "EMR_SETICMPROFILEW") ∷ (114, codes "EMR_ALPHABLEND") ∷
    (116, codes "EMR_TRANSPARENTBLT") ∷ (118, codes "EMR_GRADIENTFILL") ∷ (121, codes "EMR_COLORMATCHTOTARGETW") ∷
    (122, codes "EMR_CREATECOLORSPACEW") ∷ []

-- the name of a type
abbrev pub emf_name_of : ℕ → Option (List ℕ)
emf_name_of record_type = row_with emf_names record_type

-- the types in the table of kinds have names, and no others have
abbrev pub EachTypeHasAName : Type 0
EachTypeHasAName = map (λ row. row.0) emf_names ≡ emf_types
