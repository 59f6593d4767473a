-- What runs make of a path's painting, on a surface and on a larger one.
use Rattle.std.proofs.Common.{◌≡◌, ◌≢◌, inl, ℕ, Bool, true, false, ◌&&◌, not, nat_le, if◌then◌else◌, List, Option, Some, None, refl, sym, ◌∙◌, arith}
use Rattle.std.specs.Option.{option_map, option_or}
use Rattle.mapping.specs.Nibs.{CoversNib, NibLaws, is_nib, nib_from, nib_of, nib_true}
use Rattle.mapping.specs.Plane.{MapNumbers}
use Rattle.mapping.specs.PlacingLaws.{IsNoLarger, ShowsFrame}
use Rattle.mapping.specs.Surface.{Surface}
use Rattle.draw_ops.specs.Operation.{Operation, fill_path, stroke_and_fill_path, stroke_path}
use Rattle.draw_ops.specs.declared.fault.Fault.{Fault}
use Rattle.draw_ops.specs.declared.fault.Fault.TheVariants.{Record}
use Rattle.draw_ops.specs.RuleSets.{allows_emf_plus}
use Rattle.draw_ops.specs.declared.record_fault.RecordFault.{RecordFault}
use Rattle.draw_ops.specs.declared.record_fault.RecordFault.TheVariants.{EmfPlusAlone, NibTooWide, OffPlane, PathState, TooManyEdges}
use Rattle.dc_stack.specs.Drawing.{Drawing, Tools, drawing_edges, drawing_nib, drawing_of, edge_limit, figures_painted, stroke_width, tools_of}
use Rattle.dc_stack.specs.FaultLaws.{FaultLaws}
use Rattle.dc_stack.specs.Figures.{Figure}
use Rattle.dc_stack.specs.OperationFault.{all_land_within, fault_of, nib_fault, plain_fault, plane_points, points_drawn}
use Rattle.dc_stack.specs.Path.{Path, figures_to_paint, finished_path, is_finished, no_path, open_path}
use Rattle.dc_stack.specs.State.{State}
use Rattle.dc_stack.specs.declared.draw.Painting.{Painting}
use Rattle.dc_stack.specs.declared.draw.Painting.TheVariants.{Fill, Stroke, StrokeAndFill}
use Rattle.preflight_cert.specs.EmfPlus.{is_emf_plus_alone}
use Rattle.listing.specs.DryRunState.{PathLands, fault_met, is_painting, met_in_painting}
use Rattle.listing.specs.ListingLaws.{MeetsFaults, NoPaintingIsOffPlane}
use Rattle.listing.proofs.PathLemmas.{lands_after}
use Rattle.listing.proofs.DryRunStateLemmas.{OnLarger, on_larger_surface}

-- where points land, none is off the plane
by_landing : (plain nib : Option RecordFault) (lands : Bool) → lands ≡ true → option_or plain (option_or (if lands then None else Some OffPlane) nib) ≡ option_or plain nib
by_landing plain nib true h = refl
by_landing plain nib false h = cc

-- the points of a painting are those of the path
painted_land : (painting : Painting) (tools : Tools) (path : Path) (s : Surface) → PathLands path s → all_land_within (points_drawn (option_map (λ (figures : List Figure). record { mark = figures_painted painting figures; tools = tools }) (figures_to_paint path))) s ≡ true
painted_land painting tools no_path s h = refl
painted_land painting tools (open_path figures pieces) s h = refl
painted_land painting tools (finished_path figures) s h = h

-- so a painting's fault is the one that runs meet
pub met_where_landed : (operation : Operation) (state : State) (s : Surface) → is_painting operation ≡ true → PathLands state.path s → fault_of operation state s ≡ met_in_painting operation state s
met_where_landed fill_path state s h lands =
    by_landing (plain_fault fill_path state) (nib_fault (drawing_of fill_path state) s) (all_land_within (plane_points fill_path state) s)
    (painted_land Fill (tools_of state.dc) state.path s lands)
met_where_landed stroke_path state s h lands =
    by_landing (plain_fault stroke_path state) (nib_fault (drawing_of stroke_path state) s) (all_land_within (plane_points stroke_path state) s)
    (painted_land Stroke (tools_of state.dc) state.path s lands)
met_where_landed stroke_and_fill_path state s h lands =
    by_landing (plain_fault stroke_and_fill_path state) (nib_fault (drawing_of stroke_and_fill_path state) s) (all_land_within (plane_points stroke_and_fill_path state) s)
    (painted_land StrokeAndFill (tools_of state.dc) state.path s lands)
met_where_landed operation state s h lands = cc

-- a nib that is too wide is so on a larger surface
narrower : (width : ℕ) (map : MapNumbers) (smaller larger : Surface) → CoversNib (nib_of width map larger) (nib_of width map smaller) → is_nib (nib_of width map larger) ≡ true → is_nib (nib_of width map smaller) ≡ true
narrower width map smaller larger covers narrow =
    let there = nib_true (nib_of width map larger) narrow in
    let x = covers.x in
    let y = covers.y in
    let x_within = there.x.within in
    let y_within = there.y.within in
    nib_from (nib_of width map smaller) (record {
      x = record { not_empty = omega arith; within = omega (arith, x, x_within) };
      y = record { not_empty = omega arith; within = omega (arith, y, y_within) };
    })

by_nibs : (fault : RecordFault) (here there : Bool) → (there ≡ true → here ≡ true) → (if here then None else Some NibTooWide) ≡ Some fault → (if there then None else Some NibTooWide) ≡ Some fault
by_nibs fault true there narrow h = cc
by_nibs fault false false narrow h = h
by_nibs fault false true narrow h = let same = narrow refl in cc

wide_there : NibLaws → (drawing : Option Drawing) (s largest : Surface) → ShowsFrame largest → IsNoLarger s largest → (fault : RecordFault) → nib_fault drawing s ≡ Some fault → nib_fault drawing largest ≡ Some fault
wide_there nibs None s largest shows down fault h = h
wide_there nibs (Some drawing) s largest shows down fault h =
    let width = stroke_width drawing in
    let map = drawing.tools.map in
    by_nibs fault (is_nib (drawing_nib drawing s)) (is_nib (drawing_nib drawing largest))
    (narrower width map s largest (nibs.grows width map s largest shows down)) h

by_plain : (plain here there : Option RecordFault) (fault : RecordFault) → (here ≡ Some fault → there ≡ Some fault) → option_or plain here ≡ Some fault → option_or plain there ≡ Some fault
by_plain (Some f) here there fault onward h = h
by_plain None here there fault onward h = onward h

-- a fault in a run is the one that is met on a larger surface
module _ (laws : FaultLaws) (nibs : NibLaws) (operation : Operation) (state : State) (s largest : Surface) (shows : ShowsFrame largest) (down : IsNoLarger s largest) (lands : PathLands state.path s) where
  pub painting_there : (fault : RecordFault) → is_painting operation ≡ true → fault_of operation state s ≡ Some fault → met_in_painting operation state largest ≡ Some fault
  painting_there fault paints h =
      by_plain (plain_fault operation state) (nib_fault (drawing_of operation state) s) (nib_fault (drawing_of operation state) largest) fault
      (wide_there nibs (drawing_of operation state) s largest shows down fault) (sym (met_where_landed operation state s paints lands) ∙ h)

  by_painting : (b : Bool) → is_painting operation ≡ b → (fault : RecordFault) → fault_of operation state s ≡ Some fault → OnLarger fault (if b then met_in_painting operation state largest else fault_of operation state largest)
  by_painting true paints fault h = inl (painting_there fault paints h)
  by_painting false paints fault h = on_larger_surface laws operation state s largest shows down fault h

  pub met_on_larger : (fault : RecordFault) → fault_of operation state s ≡ Some fault → OnLarger fault (fault_met operation state largest)
  met_on_larger fault h = by_painting (is_painting operation) refl fault h

  -- the same by a fault that lies in a record
  pub painting_found : (found : Option RecordFault) (fault : Fault) → is_painting operation ≡ true → found ≡ fault_of operation state s → option_map Record found ≡ Some fault → found ≡ met_in_painting operation state largest
  painting_found None fault paints is h = cc
  painting_found (Some here) fault paints is h = sym (painting_there here paints (sym is))

-- a painting is met by a fault of the state or by too wide a nib, and never by being off the plane
by_parts : (finished few : Bool) (nib : Option RecordFault) → nib ≢ Some OffPlane → option_or (option_or (if finished then None else Some PathState) (if few then None else Some TooManyEdges)) nib ≢ Some OffPlane
by_parts true true nib other = other
by_parts true false nib other = λ h. cc
by_parts false few nib other = λ h. cc

by_nib : (narrow : Bool) → (if narrow then None else Some NibTooWide) ≢ Some OffPlane
by_nib true = λ h. cc
by_nib false = λ h. cc

no_nib_off : (drawing : Option Drawing) (s : Surface) → nib_fault drawing s ≢ Some OffPlane
no_nib_off None s = λ h. cc
no_nib_off (Some drawing) s = by_nib (is_nib (drawing_nib drawing s))

never_off : (operation : Operation) (state : State) (s : Surface) → is_painting operation ≡ true → fault_met operation state s ≢ Some OffPlane
never_off fill_path state s h =
    by_parts (is_finished state.path) (nat_le (drawing_edges (drawing_of fill_path state)) edge_limit) (nib_fault (drawing_of fill_path state) s)
    (no_nib_off (drawing_of fill_path state) s)
never_off stroke_path state s h =
    by_parts (is_finished state.path) (nat_le (drawing_edges (drawing_of stroke_path state)) edge_limit) (nib_fault (drawing_of stroke_path state) s)
    (no_nib_off (drawing_of stroke_path state) s)
never_off stroke_and_fill_path state s h =
    by_parts (is_finished state.path) (nat_le (drawing_edges (drawing_of stroke_and_fill_path state)) edge_limit)
    (nib_fault (drawing_of stroke_and_fill_path state) s) (no_nib_off (drawing_of stroke_and_fill_path state) s)
never_off operation state s h = cc

pub no_painting_off : NoPaintingIsOffPlane
no_painting_off is_end None step h = λ e. cc
no_painting_off is_end (Some dry_run_state) step h =
    by_two (fault_met step.operation dry_run_state.state dry_run_state.largest)
    (is_end && (is_emf_plus_alone dry_run_state.state.rules dry_run_state.found && not (allows_emf_plus dry_run_state.state.rules)))
    (never_off step.operation dry_run_state.state dry_run_state.largest h)
  where
    by_two : (met : Option RecordFault) (alone : Bool) → met ≢ Some OffPlane → option_or met (if alone then Some EmfPlusAlone else None) ≢ Some OffPlane
    by_two None true off = λ e. cc
    by_two None false off = λ e. cc
    by_two (Some fault) alone off = off

-- in a run the fault that is met is the operation's
by_kind : (operation : Operation) (state : State) (s : Surface) (b : Bool) → is_painting operation ≡ b → PathLands state.path s → (if b then met_in_painting operation state s else fault_of operation state s) ≡ fault_of operation state s
by_kind operation state s true h lands = sym (met_where_landed operation state s h lands)
by_kind operation state s false h lands = refl

pub meets_faults : MeetsFaults
meets_faults = record {
  at_start = λ o s. refl;
  onward = λ operation state s lands none. lands_after s operation state lands none;
  met = λ operation state s lands. by_kind operation state s (is_painting operation) refl lands;
}
