-- The definitions on worked values.
use Rattle.std.proofs.Common.{◌≡◌, ℕ, pos, negsuc, List, [], ◌∷◌, ◌++◌, replicate, Some, Ok, Err, refl}
use Rattle.mapping.specs.declared.geometry.Point.{Point}
use Rattle.draw_ops.specs.Meaning.{noting, unnoted}
use Rattle.draw_ops.specs.Objects.{pen_object}
use Rattle.draw_ops.specs.Operation.{create, exclude_clip, no_effect, polygon, polyline_to, remove_clip}
use Rattle.draw_ops.specs.Records.{Record}
use Rattle.draw_ops.specs.declared.record_fault.RecordFault.TheVariants.{BadParams, PaletteColour, UnknownRecord, Unsupported}
use Rattle.draw_ops.specs.declared.note.Note.TheVariants.{DashedPen, EmfPlus, Skipped as NoteSkipped}
use Rattle.draw_ops.specs.declared.objects.Pen.TheVariants.{Null as NullPen}
use Rattle.emf_records.specs.Emf.{emf_meaning, emf_record}
use Rattle.emf_records.specs.TransformRecords.{is_identity_at}

abbrev at : ℕ → ℕ → Point
at x y = record { x = pos x; y = pos y }

-- a record of a type, the head's eight bytes being any
abbrev emf : ℕ → List ℕ → Record
emf kind params = record { kind = kind; bytes = replicate 8 0 ++ params }

-- a number of four bytes below 256
abbrev long : ℕ → List ℕ
long n = n ∷ 0 ∷ 0 ∷ 0 ∷ []

-- a header is without effect as record 0 alone
header_first : emf_meaning 0 (emf 1 []) ≡ Ok (unnoted no_effect)
unfolding emf_record
header_first = refl

header_later : emf_meaning 1 (emf 1 []) ≡ Err (Unsupported 1)
unfolding emf_record
header_later = refl

-- EMR_POLYGON16 and EMR_POLYLINETO of (1, 2) and (3, 4)
polygon_16 : emf_meaning 1 (emf 86 (replicate 16 0 ++ long 2 ++ 1 ∷ 0 ∷ 2 ∷ 0 ∷ 3 ∷ 0 ∷ 4 ∷ 0 ∷ [])) ≡ Ok (unnoted (polygon ((at 1 2 ∷ at 3 4 ∷ []) ∷ [])))
unfolding emf_record
polygon_16 = refl

polyline_to_32 : emf_meaning 1 (emf 6 (replicate 16 0 ++ long 2 ++ long 1 ++ long 2 ++ long 3 ++ long 4)) ≡ Ok (unnoted (polyline_to (at 1 2 ∷ at 3 4 ∷ [])))
unfolding emf_record
polyline_to_32 = refl

-- EMR_POLYPOLYGON16 of lists of one and of two points, and with counts that add up to one more
two_lists : emf_meaning 1 (emf 91 (replicate 16 0 ++ long 2 ++ long 3 ++ long 1 ++ long 2 ++ 1 ∷ 0 ∷ 2 ∷ 0 ∷ 3 ∷ 0 ∷ 4 ∷ 0 ∷ 5 ∷ 0 ∷ 6 ∷ 0 ∷ [])) ≡ Ok (unnoted (polygon ((at 1 2 ∷ []) ∷ (at 3 4 ∷ at 5 6 ∷ []) ∷ [])))
unfolding emf_record
two_lists = refl

one_more : emf_meaning 1 (emf 91 (replicate 16 0 ++ long 2 ++ long 3 ++ long 2 ++ long 2 ++ 1 ∷ 0 ∷ 2 ∷ 0 ∷ 3 ∷ 0 ∷ 4 ∷ 0 ∷ 5 ∷ 0 ∷ 6 ∷ 0 ∷ [])) ≡ Err BadParams
unfolding emf_record
one_more = refl

-- EMR_EXCLUDECLIPRECT has left, top, right and bottom
excluded : emf_meaning 1 (emf 29 (long 1 ++ long 2 ++ long 3 ++ 252 ∷ 255 ∷ 255 ∷ 255 ∷ [])) ≡ Ok (unnoted (exclude_clip (record { l = pos 1; t = pos 2; r = pos 3; b = negsuc 3 })))
unfolding emf_record
excluded = refl

-- EMR_EXTSELECTCLIPRGN without a region, with the mode that copies, and with another
all_clip : emf_meaning 1 (emf 75 (long 0 ++ long 5)) ≡ Ok (unnoted remove_clip)
unfolding emf_record
all_clip = refl

other_clip : emf_meaning 1 (emf 75 (long 0 ++ long 1)) ≡ Err (Unsupported 75)
unfolding emf_record
other_clip = refl

-- EMR_EXTCREATEPEN: dashed, with a brush that draws nothing, its colour one of a palette
no_brush : emf_meaning 1 (emf 95 (long 1 ++ replicate 16 0 ++ long 1 ++ long 5 ++ long 1 ++ 9 ∷ 9 ∷ 9 ∷ 9 ∷ [] ++ replicate 8 0)) ≡ Ok (noting DashedPen (create (Some 1) (pen_object NullPen)))
unfolding emf_record
no_brush = refl

palette_pen : emf_meaning 1 (emf 95 (long 1 ++ replicate 16 0 ++ long 1 ++ long 5 ++ long 0 ++ 9 ∷ 9 ∷ 9 ∷ 9 ∷ [] ++ replicate 8 0)) ≡ Err PaletteColour
unfolding emf_record
palette_pen = refl

-- EMR_COMMENT of EMF+, and one that is too short for it
plus : emf_meaning 1 (emf 70 (long 4 ++ 0x45 ∷ 0x4d ∷ 0x46 ∷ 0x2b ∷ [])) ≡ Ok (noting EmfPlus no_effect)
unfolding emf_record
plus = refl

short_comment : emf_meaning 1 (emf 70 (long 0)) ≡ Ok (noting NoteSkipped no_effect)
unfolding emf_record
short_comment = refl

-- EMR_SETWORLDTRANSFORM of the identity, and of all zeros
identity : emf_meaning 1 (emf 35 (0 ∷ 0 ∷ 0x80 ∷ 0x3f ∷ [] ++ long 0 ++ long 0 ++ 0 ∷ 0 ∷ 0x80 ∷ 0x3f ∷ [] ++ long 0 ++ long 0)) ≡ Ok (unnoted no_effect)
unfolding emf_record is_identity_at
identity = refl

zeros : emf_meaning 1 (emf 35 (replicate 24 0)) ≡ Err (Unsupported 35)
unfolding emf_record is_identity_at
zeros = refl

-- a type that is none
no_type : emf_meaning 1 (emf 69 []) ≡ Err (UnknownRecord 69)
unfolding emf_record
no_type = refl
