-- The definitions on worked values.
use Rattle.std.proofs.Common.{◌≡◌, ℕ, pos, negsuc, List, [], ◌∷◌, ◌++◌, replicate, Some, None, Ok, Err, true, false, refl}
use Rattle.mapping.specs.PageMap.{map_in_parts, placeable_map, plain_map, unscaled_map}
use Rattle.draw_ops.specs.NoteCounts.{no_notes}
use Rattle.draw_ops.specs.NoteKinds.{noted}
use Rattle.draw_ops.specs.Results.{result_map}
use Rattle.draw_ops.specs.RuleSets.{core_rules}
use Rattle.draw_ops.specs.declared.fault.Fault.TheVariants.{NoFrame, NotMetafile, ShortHeader}
use Rattle.draw_ops.specs.declared.note.Note.TheVariants.{PlaceableChecksum, SizeField}
use Rattle.draw_ops.specs.declared.rules.Profile.TheVariants.{Core, Print}
use Rattle.draw_ops.specs.declared.rules.Rules.{Rules}
use Rattle.meta_headers.specs.OpeningRules.{reopened}
use Rattle.meta_headers.specs.EmfHeader.{bounds_side, emf_file, has_other_bytes}
use Rattle.meta_headers.specs.Headers.{file_limit, reports_other_size}
use Rattle.meta_headers.specs.Opening.{opened}
use Rattle.meta_headers.specs.PlaceableHeader.{has_other_fields, placeable_file}
use Rattle.meta_headers.specs.PlainHeader.{plain_with}
use Rattle.meta_headers.specs.declared.opened.FileFormat.TheVariants.{Placeable, Plain, Emf}

-- a placeable file of a box, a checksum and a size in words, and an end record alone
abbrev placeable : List ℕ → List ℕ → ℕ → List ℕ
placeable box checksum words =
    0xd7 ∷ 0xcd ∷ 0xc6 ∷ 0x9a ∷ 0 ∷ 0 ∷ [] ++ box ++ 0x60 ∷ 0 ∷ 0 ∷ 0 ∷ 0 ∷ 0 ∷ [] ++ checksum
    ++ 1 ∷ 0 ∷ 9 ∷ 0 ∷ 0 ∷ 3 ∷ words ∷ 0 ∷ 0 ∷ 0 ∷ 0 ∷ 0 ∷ 0 ∷ 0 ∷ 0 ∷ 0 ∷ 0 ∷ 0 ∷ []
    ++ 3 ∷ 0 ∷ 0 ∷ 0 ∷ 0 ∷ 0 ∷ []

abbrev box_0_0_4_4 : List ℕ
box_0_0_4_4 = 0 ∷ 0 ∷ 0 ∷ 0 ∷ 4 ∷ 0 ∷ 4 ∷ 0 ∷ []

-- the header's 18 bytes and the end's 6 are 12 words
four_by_four : placeable_file (placeable box_0_0_4_4 (0x71 ∷ 0x57 ∷ []) 12) ≡ Ok (record {
  format = Placeable;
  rules = core_rules;
  frame_width = 4;
  frame_height = 4;
  fine_width = 4;
  fine_height = 4;
  map = placeable_map (record { x = pos 0; y = pos 0 }) (record { x = pos 4; y = pos 4 });
  handles = None;
  notes = no_notes;
})
four_by_four = refl

-- another checksum and another size are noted
noted_twice : placeable_file (placeable box_0_0_4_4 (0x70 ∷ 0x57 ∷ []) 13) ≡ Ok (record {
  format = Placeable;
  rules = core_rules;
  frame_width = 4;
  frame_height = 4;
  fine_width = 4;
  fine_height = 4;
  map = placeable_map (record { x = pos 0; y = pos 0 }) (record { x = pos 4; y = pos 4 });
  handles = None;
  notes = noted (noted no_notes PlaceableChecksum) SizeField;
})
noted_twice = refl

-- a box without a side
no_side : placeable_file (placeable (0 ∷ 0 ∷ 4 ∷ 0 ∷ 4 ∷ 0 ∷ 4 ∷ 0 ∷ []) (0x71 ∷ 0x57 ∷ []) 12) ≡ Err NoFrame
no_side = refl

-- an extent that is turned, and none
flipped_extent : plain_with [] (Some (negsuc 3, pos 3)) ≡ Ok (record {
  format = Plain;
  rules = core_rules;
  frame_width = 4;
  frame_height = 3;
  fine_width = 4;
  fine_height = 3;
  map = plain_map (record { x = negsuc 3; y = pos 3 });
  handles = None;
  notes = no_notes;
})
flipped_extent = refl

no_extent : plain_with [] None ≡ Err NoFrame
no_extent = refl

-- bounds of one pixel, turned ones, and the widest
one_pixel : bounds_side (pos 5) (pos 5) ≡ 1
one_pixel = refl

flipped_bounds : bounds_side (pos 0) (negsuc 0) ≡ 1
flipped_bounds = refl

widest_bounds : bounds_side (negsuc 2147483647) (pos 2147483647) ≡ 4294967296
widest_bounds = refl

-- the smallest EMF file: bounds of (0, 0, -1, -1), 108 bytes, one handle
abbrev nil_emf : List ℕ
nil_emf =
    1 ∷ 0 ∷ 0 ∷ 0 ∷ 88 ∷ 0 ∷ 0 ∷ 0 ∷ [] ++ replicate 8 0 ++ replicate 8 255 ++ replicate 16 0
    ++ 0x20 ∷ 0x45 ∷ 0x4d ∷ 0x46 ∷ 0 ∷ 0 ∷ 1 ∷ 0 ∷ 108 ∷ 0 ∷ 0 ∷ 0 ∷ 2 ∷ 0 ∷ 0 ∷ 0 ∷ 1 ∷ 0 ∷ 0 ∷ 0 ∷ [] ++ replicate 28 0
    ++ 14 ∷ 0 ∷ 0 ∷ 0 ∷ 20 ∷ 0 ∷ 0 ∷ 0 ∷ 0 ∷ 0 ∷ 0 ∷ 0 ∷ 16 ∷ 0 ∷ 0 ∷ 0 ∷ 20 ∷ 0 ∷ 0 ∷ 0 ∷ []

one_by_one : emf_file nil_emf ≡ Ok (record {
  format = Emf;
  rules = core_rules;
  frame_width = 1;
  frame_height = 1;
  fine_width = 1;
  fine_height = 1;
  map = unscaled_map (record { x = pos 0; y = pos 0 });
  handles = Some 1;
  notes = no_notes;
})
one_by_one = refl

abbrev print_rules : Rules
print_rules = record { profile = Print; allowed = record { held_deletion = false; emf_plus = false } }

-- by the print profile a unit of the smallest file has 4,096 parts
by_print : result_map (reopened print_rules) (emf_file nil_emf) ≡ Ok (record {
  format = Emf;
  rules = print_rules;
  frame_width = 1;
  frame_height = 1;
  fine_width = 4096;
  fine_height = 4096;
  map = map_in_parts 4096 (unscaled_map (record { x = pos 0; y = pos 0 }));
  handles = Some 1;
  notes = no_notes;
})
by_print = refl

-- under the core profile nothing is allowed
abbrev all_allowed : Rules
all_allowed = record { profile = Core; allowed = record { held_deletion = true; emf_plus = true } }

by_core : result_map (reopened all_allowed) (emf_file nil_emf) ≡ emf_file nil_emf
by_core = refl

-- an empty file, and the key of META_PLACEABLE alone
empty : opened [] ≡ Err NotMetafile
unfolding opened file_limit
empty = refl

key_alone : opened (0xd7 ∷ 0xcd ∷ 0xc6 ∷ 0x9a ∷ []) ≡ Err ShortHeader
unfolding opened file_limit
key_alone = refl

-- a header of 18 bytes and an end of 6 are 12 words
abbrev plain_header : ℕ → List ℕ
plain_header words = 1 ∷ 0 ∷ 9 ∷ 0 ∷ 0 ∷ 3 ∷ words ∷ 0 ∷ 0 ∷ 0 ∷ 0 ∷ 0 ∷ 0 ∷ 0 ∷ 0 ∷ 0 ∷ 0 ∷ 0 ∷ 3 ∷ 0 ∷ 0 ∷ 0 ∷ 0 ∷ 0 ∷ []

same_size : reports_other_size (plain_header 12) 0 ≡ false
same_size = refl

other_size : reports_other_size (plain_header 24) 0 ≡ true
other_size = refl

-- the smallest EMF file has its size, and not with a byte more
same_bytes : has_other_bytes nil_emf ≡ false
same_bytes = refl

other_bytes : has_other_bytes (nil_emf ++ 0 ∷ []) ≡ true
other_bytes = refl

-- a handle that isn't 0, and a reserved field that isn't
handle : has_other_fields (replicate 4 0 ++ 1 ∷ 0 ∷ [] ++ replicate 14 0) ≡ true
handle = refl

reserved : has_other_fields (replicate 19 0 ++ 1 ∷ []) ≡ true
reserved = refl

neither : has_other_fields (replicate 20 0) ≡ false
neither = refl

-- the start of a plain file of 4 by 3 whose x grows to the left, and of an EMF file whose bounds begin at (5, 6)
left_extents : (plain_map (record { x = negsuc 3; y = pos 3 })).x ≡ record { parts = 1; window_origin = pos 0; window_extent = negsuc 3; viewport_origin = pos 0; viewport_extent = pos 4; corner = pos 0 }
left_extents = refl

corner_6 : (unscaled_map (record { x = pos 5; y = pos 6 })).y ≡ record { parts = 1; window_origin = pos 0; window_extent = pos 1; viewport_origin = pos 0; viewport_extent = pos 1; corner = pos 6 }
corner_6 = refl
