-- The values of the parts of a state.
use Rattle.std.specs.Prelude.{◌≡◌, List, map, take}
use Rattle.std.specs.List.{All}
use Rattle.std.specs.Option.{option_map}
use Rattle.mapping.specs.PageMap.{map_numbers}
use Rattle.mapping.specs.Surface.{Surface}
use Rattle.draw_ops.specs.Objects.{brush_value_of, index_of}
use Rattle.dc_stack.specs.Clip.{ClipValue, placed_clip}
use Rattle.dc_stack.specs.State.{DcValue, Selections}
use Rattle.dc_stack.specs.declared.clip.Clip.{Clip}
use Rattle.dc_stack.specs.declared.clip.ClipBox.{ClipBox}
use Rattle.dc_stack.specs.declared.dc.Dc.{Dc}
use Rattle.dc_stack.specs.declared.selected.Selected.{Selected}

-- the boxes that are cut out
abbrev pub cuts_of : Clip → List ClipBox
cuts_of clip = take clip.count clip.cuts

-- the clip, with its boxes on the plane
abbrev pub clip_value : Clip → ClipValue
clip_value clip = record {
  kept = option_map (λ (box : ClipBox). box.plane) clip.kept;
  cuts = map (λ (box : ClipBox). box.plane) (cuts_of clip);
}

-- the clip, with its boxes on the surface
abbrev pub placed_value : Clip → ClipValue
placed_value clip = record {
  kept = option_map (λ (box : ClipBox). box.placed) clip.kept;
  cuts = map (λ (box : ClipBox). box.placed) (cuts_of clip);
}

-- the boxes of the clip are placed on the surface
abbrev pub IsPlacedOn : Surface → Clip → Type 0
IsPlacedOn s clip = placed_value clip ≡ placed_clip s (clip_value clip)

-- the selected objects
abbrev pub selections_value : Selected → Selections
selections_value s = record {
  pen = record { object = s.pen; index = index_of s.pen_handle };
  brush = record { object = brush_value_of s.brush; index = index_of s.brush_handle };
  font = index_of s.font;
  palette = index_of s.palette;
}

-- what drawings depend on
abbrev pub dc_value : Dc → DcValue
dc_value dc = record {
  selected = selections_value dc.selected;
  modes = dc.modes;
  map = map_numbers dc.map;
  position = dc.position;
  clip = clip_value dc.clip;
}

-- the current clip, and that of each saved state, are placed on the surface
pub record ArePlacedOn (s : Surface) (dc : Dc) (before : List Dc) : Type 0 where
  pub now : IsPlacedOn s dc.clip
  pub saved : All (λ (d : Dc). IsPlacedOn s d.clip) before
