-- The framing of WMF records ([MS-WMF] 2.3).
use Rattle.draw_ops.specs.Records.{Framing}

-- a head of six bytes: the size in words of two bytes, and the function; 0 ends the file
abbrev pub wmf_framing : Framing
wmf_framing = record { head_length = 6; size_place = 0; unit = 2; multiple = 2; kind_place = 4; kind_length = 2; end_kind = 0 }
