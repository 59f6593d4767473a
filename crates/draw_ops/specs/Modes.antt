-- Decoding records that set a mode.
use Rattle.std.specs.Prelude.{ℕ, ◌&&◌, nat_le, if◌then◌else◌, Result, Err}
use Rattle.std.specs.Option.{ok_or}
use Rattle.mapping.specs.MapMode.{map_mode_of}
use Rattle.mapping.specs.declared.map_mode.MapMode.{MapMode}
use Rattle.mapping.specs.declared.map_mode.MapMode.TheVariants.{Text, Isotropic, Anisotropic}
use Rattle.draw_ops.specs.Meaning.{DecodedValue, noting, plain, unnoted}
use Rattle.draw_ops.specs.Operation.{set_background_mode, set_fill_mode, set_map_mode, set_raster_op}
use Rattle.draw_ops.specs.RasterOp.{raster_op_of}
use Rattle.draw_ops.specs.Results.{result_map}
use Rattle.draw_ops.specs.Settings.{background_mode_of, fill_mode_of}
use Rattle.draw_ops.specs.declared.record_fault.RecordFault.{RecordFault}
use Rattle.draw_ops.specs.declared.record_fault.RecordFault.TheVariants.{BadValue, MetricMode}
use Rattle.draw_ops.specs.declared.note.Note.TheVariants.{Isotropic as NoteIsotropic}

-- a background mode of the standard, or a bad value
abbrev pub background_mode_decoded : ℕ → Result DecodedValue RecordFault
background_mode_decoded code = plain set_background_mode (ok_or (background_mode_of code) BadValue)

-- a fill mode of the standard, or a bad value
abbrev pub fill_mode_decoded : ℕ → Result DecodedValue RecordFault
fill_mode_decoded code = plain set_fill_mode (ok_or (fill_mode_of code) BadValue)

-- a binary raster operation of the standard, or a bad value
abbrev pub raster_op_decoded : ℕ → Result DecodedValue RecordFault
raster_op_decoded code = plain set_raster_op (ok_or (raster_op_of code) BadValue)

-- a map mode is set; the one that scales both axes by the same factor adds a note
abbrev map_mode_set : MapMode → DecodedValue
map_mode_set Text = unnoted (set_map_mode Text)
map_mode_set Isotropic = noting NoteIsotropic (set_map_mode Isotropic)
map_mode_set Anisotropic = unnoted (set_map_mode Anisotropic)

-- a map mode of the standard, or a bad value; the modes 2 to 6 use units of length and aren't supported
abbrev pub map_mode_meant : ℕ → Result DecodedValue RecordFault
map_mode_meant code =
    if nat_le 2 code && nat_le code 6 then Err MetricMode else result_map map_mode_set (ok_or (map_mode_of code) BadValue)
