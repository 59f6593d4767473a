-- What an operation without a pen tells of the same with one.
use Rattle.std.proofs.Common.{◌≡◌, ◌⊎◌, inl, inr, ℕ, Bool, true, false, if◌then◌else◌, List, Option, Some, None, refl, ap, subst, sym, ◌∙◌}
use Rattle.std.specs.Option.{option_map, option_or}
use Rattle.mapping.specs.Nibs.{NibLaws, is_nib, nib_of}
use Rattle.mapping.specs.PlacingLaws.{IsNoLarger, ShowsFrame}
use Rattle.mapping.specs.Surface.{Surface}
use Rattle.mapping.specs.declared.geometry.Point.{Point}
use Rattle.draw_ops.specs.Operation.{Operation, delete, fill_path, line_to, polygon, polyline, polyline_to, rectangle, stroke_and_fill_path, stroke_path}
use Rattle.draw_ops.specs.declared.fault.Fault.{Fault}
use Rattle.draw_ops.specs.declared.fault.Fault.TheVariants.{Record}
use Rattle.draw_ops.specs.declared.record_fault.RecordFault.{RecordFault}
use Rattle.draw_ops.specs.declared.record_fault.RecordFault.TheVariants.{NibTooWide, OffPlane}
use Rattle.draw_ops.specs.declared.rules.Rules.{Rules}
use Rattle.object_tables.specs.Slots.{Slots}
use Rattle.object_tables.specs.Table.{TableKind}
use Rattle.dc_stack.specs.Drawing.{Drawing, drawing_nib, drawing_of, stroke_width}
use Rattle.dc_stack.specs.FaultLaws.{FaultLaws}
use Rattle.dc_stack.specs.OperationFault.{all_land_within, fault_of, nib_fault, place_fault, plain_fault, plane_points, wide_fault}
use Rattle.dc_stack.specs.Path.{Path, no_path}
use Rattle.dc_stack.specs.State.{DcValue, State}
use Rattle.listing.specs.DryRunState.{without_pen}

-- a state by its parts
abbrev state_of : DcValue → Slots → TableKind → List DcValue → Path → Rules → ℕ → State
state_of dc slots kind saved path rules held = record {
  dc = dc;
  slots = slots;
  table_kind = kind;
  saved = saved;
  path = path;
  rules = rules;
  held_deletions = held;
}

-- the width of a drawing's stroke, if there is one
abbrev width_drawn : Option Drawing → ℕ
width_drawn None = 0
width_drawn (Some drawing) = stroke_width drawing

-- Without a pen an operation places the same points and strokes nothing, and what it meets in the state is the same, unless it places nothing.
record IsBare (operation : Operation) (state : State) : Type 0 where
  points : plane_points operation (without_pen state) ≡ plane_points operation state
  width : width_drawn (drawing_of operation (without_pen state)) ≡ 0
  plain :
      (plain_fault operation (without_pen state) ≡ plain_fault operation state) ⊎ ((s : Surface) → place_fault operation state s ≡ None)

kept : (operation : Operation) (path : Path) (dc : DcValue) (slots : Slots) (kind : TableKind) (saved : List DcValue) (rules : Rules) (held : ℕ) → IsBare operation (state_of dc slots kind saved path rules held)
kept (delete index) path dc slots kind saved rules held = record { points = refl; width = refl; plain = inr (λ s. refl) }
kept (line_to point) no_path dc slots kind saved rules held = record { points = refl; width = refl; plain = inl refl }
kept (rectangle corners edges) no_path dc slots kind saved rules held = record { points = refl; width = refl; plain = inl refl }
kept (polyline lists) no_path dc slots kind saved rules held = record { points = refl; width = refl; plain = inl refl }
kept (polygon lists) no_path dc slots kind saved rules held = record { points = refl; width = refl; plain = inl refl }
kept (polyline_to points) no_path dc slots kind saved rules held = record { points = refl; width = refl; plain = inl refl }
kept fill_path no_path dc slots kind saved rules held = record { points = refl; width = refl; plain = inl refl }
kept stroke_path no_path dc slots kind saved rules held = record { points = refl; width = refl; plain = inl refl }
kept stroke_and_fill_path no_path dc slots kind saved rules held = record { points = refl; width = refl; plain = inl refl }
kept operation path dc slots kind saved rules held = record { points = refl; width = refl; plain = inl refl }

bare : (operation : Operation) (state : State) → IsBare operation state
bare operation state = kept operation state.path state.dc state.slots state.table_kind state.saved state.rules state.held_deletions

pub same_points : (operation : Operation) (state : State) → plane_points operation (without_pen state) ≡ plane_points operation state
same_points operation state = (bare operation state).points

-- so there is no nib that is too wide
narrow_drawing : NibLaws → (drawing : Option Drawing) (s : Surface) → width_drawn drawing ≡ 0 → nib_fault drawing s ≡ None
narrow_drawing nibs None s h = refl
narrow_drawing nibs (Some drawing) s h =
    ap (λ (width : ℕ). wide_fault (nib_of width drawing.tools.map s)) h ∙ ap wide_fault (nibs.one_without_width drawing.tools.map s)

-- the fault of points that land or not, and else of a nib
abbrev placed_by : Bool → Option RecordFault → Option RecordFault
placed_by lands nib = option_or (if lands then None else Some OffPlane) nib

abbrev wide_unless : Bool → Option RecordFault
wide_unless narrow = if narrow then None else Some NibTooWide

abbrev is_narrow : Option Drawing → Surface → Bool
is_narrow None s = true
is_narrow (Some drawing) s = is_nib (drawing_nib drawing s)

nib_fault_is : (drawing : Option Drawing) (s : Surface) → nib_fault drawing s ≡ wide_unless (is_narrow drawing s)
nib_fault_is None s = refl
nib_fault_is (Some drawing) s = refl

-- where a fault is left without a nib, the one that is met with it comes before any of places, and is met everywhere
rejected_by : (plain nib there : Option RecordFault) (lands : Bool) (g : RecordFault) → option_or plain (placed_by lands nib) ≡ Some NibTooWide → option_or plain (placed_by lands None) ≡ Some g → option_or plain there ≡ Some NibTooWide
rejected_by (Some f) nib there lands g h e = h
rejected_by None nib there true g h e = cc
rejected_by None nib there false g h e = cc

-- and where it is met by the nib alone, points decide on a larger surface
played_by : (plain nib : Option RecordFault) (lands there narrow : Bool) → option_or plain (placed_by lands nib) ≡ Some NibTooWide → option_or plain (placed_by lands None) ≡ None → (option_or plain (placed_by there (wide_unless narrow)) ≡ Some NibTooWide) ⊎ (option_or plain (placed_by there (wide_unless narrow)) ≡ Some OffPlane) → option_or plain (placed_by there (wide_unless narrow)) ≡ Some (if there then NibTooWide else OffPlane)
played_by (Some f) nib lands there narrow h e larger = cc
played_by None nib lands false narrow h e larger = refl
played_by None nib lands true false h e larger = refl
played_by None nib lands true true h e (inl wide) = cc
played_by None nib lands true true h e (inr off) = cc

-- as they do for what places nothing
nowhere : (plain nib : Option RecordFault) (there : Bool) → placed_by there nib ≡ None → option_or plain None ≡ Some NibTooWide → option_or plain (placed_by there nib) ≡ Some (if there then NibTooWide else OffPlane)
nowhere plain nib true none h = ap (option_or plain) none ∙ h
nowhere plain nib false none h = cc

module _ (laws : FaultLaws) (nibs : NibLaws) (operation : Operation) (state : State) (s largest : Surface) (wide : fault_of operation state s ≡ Some NibTooWide) where
  abbrev lands_on : Surface → Bool
  lands_on there = all_land_within (plane_points operation state) there

  -- the fault without a pen, by that of the state
  bare_fault : plain_fault operation (without_pen state) ≡ plain_fault operation state → fault_of operation (without_pen state) s ≡ option_or (plain_fault operation state) (placed_by (lands_on s) None)
  bare_fault same =
      ap (λ (plain : Option RecordFault). option_or plain (place_fault operation (without_pen state) s)) same
      ∙ ap (λ (nib : Option RecordFault). option_or (plain_fault operation state) (placed_by (all_land_within (plane_points operation (without_pen state)) s) nib))
      (narrow_drawing nibs (drawing_of operation (without_pen state)) s (bare operation state).width)
      ∙ ap (λ (points : List Point). option_or (plain_fault operation state) (placed_by (all_land_within points s) None)) (bare operation state).points

  -- what places nothing has the same fault on each surface
  plain_alone : ((there : Surface) → place_fault operation state there ≡ None) → option_or (plain_fault operation state) None ≡ Some NibTooWide
  plain_alone none = ap (option_or (plain_fault operation state)) (sym (none s)) ∙ wide

  -- so refused without a pen it has too wide a nib on a larger surface
  rejected_bare : (g : RecordFault) → fault_of operation (without_pen state) s ≡ Some g → fault_of operation state largest ≡ Some NibTooWide
  rejected_bare g rejected = by_plain (bare operation state).plain
    where
      by_plain : (plain_fault operation (without_pen state) ≡ plain_fault operation state) ⊎ ((there : Surface) → place_fault operation state there ≡ None) → fault_of operation state largest ≡ Some NibTooWide
      by_plain (inl same) =
          rejected_by (plain_fault operation state) (nib_fault (drawing_of operation state) s) (place_fault operation state largest) (lands_on s) g wide
          (sym (bare_fault same) ∙ rejected)
      by_plain (inr none) = ap (option_or (plain_fault operation state)) (none largest) ∙ plain_alone none

  -- the same by the fault of the machine
  pub rejected_there : (found : Option RecordFault) (fault : Fault) → fault_of operation (without_pen state) s ≡ found → option_map Record found ≡ Some fault → fault_of operation state largest ≡ Some NibTooWide
  rejected_there None fault is h = cc
  rejected_there (Some g) fault is h = rejected_bare g is

  -- and played without a pen it is off the plane there, or has too wide a nib
  pub played_bare : ShowsFrame largest → IsNoLarger s largest → fault_of operation (without_pen state) s ≡ None → fault_of operation state largest ≡ Some (if lands_on largest then NibTooWide else OffPlane)
  played_bare shows down played = by_plain (bare operation state).plain
    where
      there_is : fault_of operation state largest ≡ option_or (plain_fault operation state) (placed_by (lands_on largest) (wide_unless (is_narrow (drawing_of operation state) largest)))
      there_is =
          ap (λ (nib : Option RecordFault). option_or (plain_fault operation state) (placed_by (lands_on largest) nib))
          (nib_fault_is (drawing_of operation state) largest)

      by_plain : (plain_fault operation (without_pen state) ≡ plain_fault operation state) ⊎ ((there : Surface) → place_fault operation state there ≡ None) → fault_of operation state largest ≡ Some (if lands_on largest then NibTooWide else OffPlane)
      by_plain (inl same) =
          there_is
          ∙ played_by (plain_fault operation state) (nib_fault (drawing_of operation state) s) (lands_on s) (lands_on largest)
          (is_narrow (drawing_of operation state) largest) wide (sym (bare_fault same) ∙ played)
          (subst (λ (found : Option RecordFault). (found ≡ Some NibTooWide) ⊎ (found ≡ Some OffPlane)) there_is
          (laws.too_wide_on_larger operation state s largest shows down wide))
      by_plain (inr none) =
          nowhere (plain_fault operation state) (nib_fault (drawing_of operation state) largest) (lands_on largest) (none largest) (plain_alone none)
