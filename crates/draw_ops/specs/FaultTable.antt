-- The table of faults: the code and name of each.
use Rattle.std.specs.Prelude.{ℕ, List, codes}
use Rattle.draw_ops.specs.declared.fault.Fault.{Fault}
use Rattle.draw_ops.specs.declared.fault.Fault.TheVariants.{TooLong, NotMetafile, ShortHeader, BadHeader, NoFrame, NotCertificate, ShortCertificate, BadBound, TrailingBytes, Record, NeedTooSmall, BudgetTooSmall, SurfaceTooLarge, BadImage, WriteFault, OutOfMemory}
use Rattle.draw_ops.specs.declared.record_fault.RecordFault.TheVariants.{NoEnd, ShortRecord, PastEnd, TooManyRecords, UnknownRecord, Unsupported, BadParams, BadValue, PaletteColour, MetricMode, BadDib, CompressedDib, ShortDib, TableFull, HandleTaken, NoSuchHandle, WrongKind, HeldObject, NoSavedState, DepthLimit, TooManyCuts, ZeroExtent, OffPlane, SourceMissing, SourceOutside, PathState, TooManyEdges, TooManyPieces, WrongEntry, BoxTooSmall, NibTooWide, NibTooSmall, EmfPlusAlone}

-- a fault's code and name
pub record FaultRow : Type 0 where
  pub code : ℕ
  pub name : List ℕ

abbrev row : ℕ → List ℕ → FaultRow
row code name = record { code = code; name = name }

-- a fault's row in the table
abbrev pub fault_row : Fault → FaultRow
fault_row TooLong = row 1 (codes "TooLong")
fault_row NotMetafile = row 2 (codes "NotMetafile")
fault_row ShortHeader = row 3 (codes "ShortHeader")
fault_row BadHeader = row 4 (codes "BadHeader")
fault_row NoFrame = row 5 (codes "NoFrame")
fault_row NotCertificate = row 6 (codes "NotCertificate")
fault_row ShortCertificate = row 7 (codes "ShortCertificate")
fault_row BadBound = row 8 (codes "BadBound")
fault_row TrailingBytes = row 9 (codes "TrailingBytes")
fault_row (Record NoEnd) = row 10 (codes "NoEnd")
fault_row (Record ShortRecord) = row 11 (codes "ShortRecord")
fault_row (Record PastEnd) = row 12 (codes "PastEnd")
fault_row (Record TooManyRecords) = row 13 (codes "TooManyRecords")
fault_row (Record (UnknownRecord kind)) = row 14 (codes "UnknownRecord")
fault_row (Record (Unsupported kind)) = row 15 (codes "Unsupported")
fault_row (Record BadParams) = row 16 (codes "BadParams")
fault_row (Record BadValue) = row 17 (codes "BadValue")
fault_row (Record PaletteColour) = row 18 (codes "PaletteColour")
fault_row (Record MetricMode) = row 19 (codes "MetricMode")
fault_row (Record BadDib) = row 20 (codes "BadDib")
fault_row (Record CompressedDib) = row 21 (codes "CompressedDib")
fault_row (Record ShortDib) = row 22 (codes "ShortDib")
fault_row (Record TableFull) = row 23 (codes "TableFull")
fault_row (Record HandleTaken) = row 24 (codes "HandleTaken")
fault_row (Record NoSuchHandle) = row 25 (codes "NoSuchHandle")
fault_row (Record WrongKind) = row 26 (codes "WrongKind")
fault_row (Record HeldObject) = row 27 (codes "HeldObject")
fault_row (Record NoSavedState) = row 28 (codes "NoSavedState")
fault_row (Record DepthLimit) = row 29 (codes "DepthLimit")
fault_row (Record TooManyCuts) = row 30 (codes "TooManyCuts")
fault_row (Record ZeroExtent) = row 31 (codes "ZeroExtent")
fault_row (Record OffPlane) = row 32 (codes "OffPlane")
fault_row (Record SourceMissing) = row 33 (codes "SourceMissing")
fault_row (Record SourceOutside) = row 34 (codes "SourceOutside")
fault_row (Record PathState) = row 35 (codes "PathState")
fault_row (Record TooManyEdges) = row 36 (codes "TooManyEdges")
fault_row (Record TooManyPieces) = row 37 (codes "TooManyPieces")
fault_row (Record WrongEntry) = row 38 (codes "WrongEntry")
fault_row (Record BoxTooSmall) = row 39 (codes "BoxTooSmall")
fault_row NeedTooSmall = row 40 (codes "NeedTooSmall")
fault_row BudgetTooSmall = row 41 (codes "BudgetTooSmall")
fault_row SurfaceTooLarge = row 42 (codes "SurfaceTooLarge")
fault_row BadImage = row 43 (codes "BadImage")
fault_row WriteFault = row 44 (codes "WriteFault")
fault_row OutOfMemory = row 45 (codes "OutOfMemory")
fault_row (Record NibTooWide) = row 46 (codes "NibTooWide")
fault_row (Record NibTooSmall) = row 47 (codes "NibTooSmall")
fault_row (Record EmfPlusAlone) = row 48 (codes "EmfPlusAlone")
