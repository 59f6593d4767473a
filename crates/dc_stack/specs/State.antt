-- The playing state ([MS-WMF] 3.1.5, [MS-EMF] 3.1.1).
use Rattle.std.specs.Prelude.{ℕ, pos, List, [], Option, None}
use Rattle.mapping.specs.declared.geometry.Point.{Point}
use Rattle.mapping.specs.Colours.{black_colour, white_colour}
use Rattle.mapping.specs.Plane.{MapNumbers}
use Rattle.draw_ops.specs.declared.objects.Pen.{Pen}
use Rattle.draw_ops.specs.declared.objects.Pen.TheVariants.{Solid}
use Rattle.draw_ops.specs.declared.raster_op.RasterOp.TheVariants.{CopyPen}
use Rattle.draw_ops.specs.declared.settings.BackgroundMode.TheVariants.{Opaque}
use Rattle.draw_ops.specs.declared.settings.FillMode.TheVariants.{Alternate}
use Rattle.draw_ops.specs.Objects.{BrushValue, solid_brush}
use Rattle.draw_ops.specs.declared.rules.Rules.{Rules}
use Rattle.meta_headers.specs.Headers.{OpenedValue}
use Rattle.object_tables.specs.Slots.{Slots}
use Rattle.object_tables.specs.Table.{TableKind, table_kind_of}
use Rattle.dc_stack.specs.Clip.{ClipValue, unclipped}
use Rattle.dc_stack.specs.Path.{Path, no_path}
use Rattle.dc_stack.specs.declared.modes.Modes.{Modes}

-- a selected object, and its index, unless it is a stock object or was deleted while it was selected
pub record Selection (A : Type 0) : Type 0 where
  pub object : A
  pub index : Option ℕ

-- the selected objects; for font and palette only the index, since nothing is drawn with them
pub record Selections : Type 0 where
  pub pen : Selection Pen
  pub brush : Selection BrushValue
  pub font : Option ℕ
  pub palette : Option ℕ

-- What drawings depend on, and what saving copies: the selected objects, modes and colours, the page map, the current
-- position in page units, and the clip.
pub record DcValue : Type 0 where
  pub selected : Selections
  pub modes : Modes
  pub map : MapNumbers
  pub position : Point
  pub clip : ClipValue

-- The whole state: what saving copies, the objects by their indexes, how new ones get theirs, the saved states, the
-- oldest first, the path, the rules, and how often a selected object was deleted, up to 2^32 - 1.
pub record State : Type 0 where
  pub dc : DcValue
  pub slots : Slots
  pub table_kind : TableKind
  pub saved : List DcValue
  pub path : Path
  pub rules : Rules
  pub held_deletions : ℕ

-- the initial selection: a black pen, a white brush, the stock font and the default palette
abbrev pub stock_selections : Selections
stock_selections = record {
  pen = record { object = Solid 0 black_colour; index = None };
  brush = record { object = solid_brush white_colour; index = None };
  font = None;
  palette = None;
}

-- the initial modes: gaps are painted white, pens and brushes replace the old colour, and alternate filling
abbrev pub start_modes : Modes
start_modes = record {
  background_mode = Opaque;
  background_colour = white_colour;
  raster_op = CopyPen;
  fill_mode = Alternate;
}

-- what drawings depend on before the first record of a file with this initial map
abbrev pub start_dc : MapNumbers → DcValue
start_dc map = record {
  selected = stock_selections;
  modes = start_modes;
  map = map;
  position = record { x = pos 0; y = pos 0 };
  clip = unclipped;
}

-- the state before the first record of a file with this initial map and this kind of table, under these rules
abbrev pub start_state : Rules → MapNumbers → TableKind → State
start_state rules map kind = record {
  dc = start_dc map;
  slots = [];
  table_kind = kind;
  saved = [];
  path = no_path;
  rules = rules;
  held_deletions = 0;
}

-- the state before the first record of an opened file
abbrev pub start_of : OpenedValue → State
start_of o = start_state o.rules o.map (table_kind_of o.handles)

-- the state with another state for drawings
abbrev pub with_dc : DcValue → State → State
with_dc dc state = record {
  dc = dc;
  slots = state.slots;
  table_kind = state.table_kind;
  saved = state.saved;
  path = state.path;
  rules = state.rules;
  held_deletions = state.held_deletions;
}

-- the state with other objects in its table
abbrev pub with_slots : Slots → State → State
with_slots slots state = record {
  dc = state.dc;
  slots = slots;
  table_kind = state.table_kind;
  saved = state.saved;
  path = state.path;
  rules = state.rules;
  held_deletions = state.held_deletions;
}

-- the state with another path
abbrev pub with_path : Path → State → State
with_path path state = record {
  dc = state.dc;
  slots = state.slots;
  table_kind = state.table_kind;
  saved = state.saved;
  path = path;
  rules = state.rules;
  held_deletions = state.held_deletions;
}

-- the state with other selected objects
abbrev pub with_selected : Selections → State → State
with_selected selected state = with_dc (record {
  selected = selected;
  modes = state.dc.modes;
  map = state.dc.map;
  position = state.dc.position;
  clip = state.dc.clip;
}) state

-- the state with other modes
abbrev pub with_modes : Modes → State → State
with_modes modes state = with_dc (record {
  selected = state.dc.selected;
  modes = modes;
  map = state.dc.map;
  position = state.dc.position;
  clip = state.dc.clip;
}) state

-- the state with another page map
abbrev pub with_map : MapNumbers → State → State
with_map map state = with_dc (record {
  selected = state.dc.selected;
  modes = state.dc.modes;
  map = map;
  position = state.dc.position;
  clip = state.dc.clip;
}) state

-- the state with the position at this point
abbrev pub with_position : Point → State → State
with_position position state = with_dc (record {
  selected = state.dc.selected;
  modes = state.dc.modes;
  map = state.dc.map;
  position = position;
  clip = state.dc.clip;
}) state

-- the state with another clip
abbrev pub with_clip : ClipValue → State → State
with_clip clip state = with_dc (record {
  selected = state.dc.selected;
  modes = state.dc.modes;
  map = state.dc.map;
  position = state.dc.position;
  clip = clip;
}) state
