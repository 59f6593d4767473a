-- What transform records mean ([MS-EMF] 2.3.12): only the identity is supported, and it has no effect.
use Rattle.std.specs.Prelude.{ℕ, ◌+◌, Bool, ◌&&◌, ◌||◌, ◌==◌, nat_le, if◌then◌else◌, List, Result, Ok, Err}
use Rattle.point_views.specs.Numbers.{number_at}
use Rattle.draw_ops.specs.Fields.{needs_bytes}
use Rattle.draw_ops.specs.Meaning.{DecodedValue, unnoted}
use Rattle.draw_ops.specs.Operation.{no_effect}
use Rattle.draw_ops.specs.declared.record_fault.RecordFault.{RecordFault}
use Rattle.draw_ops.specs.declared.record_fault.RecordFault.TheVariants.{Unsupported}

-- an XForm ([MS-EMF] 2.2.28) with the factors 1, 0, 0 and 1 and the offsets 0 and 0, compared as the bytes of
-- floating-point numbers
unfoldable pub is_identity_at : List ℕ → ℕ → Bool
is_identity_at bytes place =
    number_at bytes place 4 == 0x3f800000 && number_at bytes (place + 4) 4 == 0 && number_at bytes (place + 8) 4 == 0
    && number_at bytes (place + 12) 4 == 0x3f800000 && number_at bytes (place + 16) 4 == 0 && number_at bytes (place + 20) 4 == 0

-- EMR_SETWORLDTRANSFORM: the transform
abbrev pub set_world_transform : List ℕ → Result DecodedValue RecordFault
set_world_transform bytes = needs_bytes 32 bytes (if is_identity_at bytes 8 then Ok (unnoted no_effect) else Err (Unsupported 35))

-- a mode leaves everything unchanged: the mode 1, which sets the identity, and the modes 2, 3 and 4 with the identity
-- ([MS-EMF] 2.1.24)
abbrev pub keeps_transform : ℕ → Bool → Bool
keeps_transform mode is_identity = mode == 1 || (nat_le 2 mode && nat_le mode 4 && is_identity)

-- EMR_MODIFYWORLDTRANSFORM: the transform, and the mode
abbrev pub modify_world_transform : List ℕ → Result DecodedValue RecordFault
modify_world_transform bytes =
    needs_bytes 36 bytes
    (if keeps_transform (number_at bytes 32 4) (is_identity_at bytes 8) then Ok (unnoted no_effect) else Err (Unsupported 36))
