-- The framing of EMF records ([MS-EMF] 2.3).
use Rattle.draw_ops.specs.Records.{Framing}

-- a head of eight bytes: the type, and the size in bytes, a multiple of four; 14 ends the file
abbrev pub emf_framing : Framing
emf_framing = record { head_length = 8; size_place = 4; unit = 1; multiple = 4; kind_place = 0; kind_length = 4; end_kind = 14 }
