-- A unit has one part after any operation, if it has one before.
use Rattle.std.proofs.Common.{◌≡◌, ℕ, zero, suc, Bool, true, false, if◌then◌else◌, List, [], ◌∷◌, ◌++◌, map, length, take, refl, Option, Some, None, Result, Ok, Err, subst}
use Rattle.std.specs.Prelude.{slice_index_or}
use Rattle.mapping.specs.MapSettings.{may_set_extents, with_mode, with_viewport_extent, with_window_extent}
use Rattle.mapping.specs.Plane.{MapNumbers}
use Rattle.mapping.specs.declared.geometry.Point.{Point}
use Rattle.mapping.specs.declared.map_mode.MapMode.{MapMode}
use Rattle.mapping.specs.declared.map_mode.MapMode.TheVariants.{Anisotropic, Isotropic, Text}
use Rattle.draw_ops.specs.Content.{StepValue}
use Rattle.draw_ops.specs.RuleSets.{is_print}
use Rattle.draw_ops.specs.Results.{result_map}
use Rattle.draw_ops.specs.declared.fault.Fault.{Fault}
use Rattle.draw_ops.specs.declared.rules.Rules.{Rules}
use Rattle.draw_ops.specs.Operation.{Operation, delete, offset_viewport_origin, offset_window_origin, restore, save, set_map_mode, set_viewport_extent, set_viewport_origin, set_window_extent, set_window_origin}
use Rattle.meta_headers.specs.Headers.{OpenedValue}
use Rattle.meta_headers.specs.Opening.{opened}
use Rattle.meta_headers.specs.OpeningRules.{opened_by, parts_of_unit, reopened}
use Rattle.dc_stack.specs.Deleting.{dc_without}
use Rattle.dc_stack.specs.Next.{next}
use Rattle.dc_stack.specs.SavedStates.{after_restoring, saved_place}
use Rattle.dc_stack.specs.State.{DcValue, State}
use Rattle.preflight_cert.specs.After.{state_after}
use Rattle.preflight_cert.specs.CoreLaws.{HasOnePart}

-- a unit has one part in a file that is opened under the core profile
in_one_part : (rules : Rules) (o : OpenedValue) → is_print rules ≡ false → HasOnePart (reopened rules o).map
in_one_part rules o core =
    let parts : parts_of_unit rules o.frame_width o.frame_height ≡ 1 = rw core refl in record { x = parts; y = parts }

by_result : (rules : Rules) (result : Result OpenedValue Fault) (o : OpenedValue) → is_print rules ≡ false → result_map (reopened rules) result ≡ Ok o → HasOnePart o.map
by_result rules (Ok it) o core same =
    let e : reopened rules it ≡ o = cc in subst (λ (headers : OpenedValue). HasOnePart headers.map) e (in_one_part rules it core)
by_result rules (Err fault) o core same = absurd (cc)

pub part_of_opened : (rules : Rules) (file : List ℕ) (o : OpenedValue) → is_print rules ≡ false → opened_by rules file ≡ Ok o → HasOnePart o.map
part_of_opened rules file o core opens = by_result rules (opened file) o core opens

-- a unit has one part in each of these
abbrev AllInOnePart : List DcValue → Type 0
AllInOnePart [] = Unit {0}
AllInOnePart (dc ∷ dcs) = HasOnePart dc.map × AllInOnePart dcs

-- and in the saved states too
record IsInOnePart (state : State) : Type 0 where
  now : HasOnePart state.dc.map
  saved : AllInOnePart state.saved

with_more : (dcs : List DcValue) (dc : DcValue) → AllInOnePart dcs → HasOnePart dc.map → AllInOnePart (dcs ++ dc ∷ [])
with_more [] dc all one = (one, tt)
with_more (first ∷ dcs) dc all one = (all.0, with_more dcs dc all.1 one)

of_first : (n : ℕ) (dcs : List DcValue) → AllInOnePart dcs → AllInOnePart (take n dcs)
of_first zero dcs all = tt
of_first (suc n) [] all = tt
of_first (suc n) (first ∷ dcs) all = (all.0, of_first n dcs all.1)

at_place : (dcs : List DcValue) (place : ℕ) (dc : DcValue) → AllInOnePart dcs → HasOnePart dc.map → HasOnePart (slice_index_or dcs place dc).map
at_place [] place dc all one = one
at_place (first ∷ dcs) zero dc all one = all.0
at_place (first ∷ dcs) (suc place) dc all one = at_place dcs place dc all.1 one

all_without : (index : ℕ) (dcs : List DcValue) → AllInOnePart dcs → AllInOnePart (map (dc_without index) dcs)
all_without index [] all = tt
all_without index (first ∷ dcs) all = (record { x = all.0.x; y = all.0.y }, all_without index dcs all.1)

-- a mode and extents leave the parts
by_mode : (mode : MapMode) (map : MapNumbers) → HasOnePart map → HasOnePart (with_mode mode map)
by_mode Text map one = record { x = one.x; y = one.y }
by_mode Isotropic map one = record { x = one.x; y = one.y }
by_mode Anisotropic map one = record { x = one.x; y = one.y }

by_test : (test : Bool) (there here : MapNumbers) → HasOnePart there → HasOnePart here → HasOnePart (if test then there else here)
by_test true there here one other = one
by_test false there here one other = other

by_window : (extent : Point) (map : MapNumbers) → HasOnePart map → HasOnePart (with_window_extent extent map)
by_window extent map one = by_test (may_set_extents map.mode) _ _ (record { x = one.x; y = one.y }) one

by_viewport : (extent : Point) (map : MapNumbers) → HasOnePart map → HasOnePart (with_viewport_extent extent map)
by_viewport extent map one = by_test (may_set_extents map.mode) _ _ (record { x = one.x; y = one.y }) one

restored : (place : Option ℕ) (state : State) → IsInOnePart state → IsInOnePart (after_restoring place state)
restored None state one = one
restored (Some place) state one = record {
  now = at_place state.saved place state.dc one.saved one.now;
  saved = of_first place state.saved one.saved;
}

-- an operation leaves the parts
part_next : (operation : Operation) (state : State) → IsInOnePart state → IsInOnePart (next operation state)
part_next save state one = record { now = one.now; saved = with_more state.saved state.dc one.saved one.now }
part_next (restore which) state one = restored (saved_place which (length state.saved)) state one
part_next (set_map_mode mode) state one = record { now = by_mode mode state.dc.map one.now; saved = one.saved }
part_next (set_window_extent extent) state one = record { now = by_window extent state.dc.map one.now; saved = one.saved }
part_next (set_viewport_extent extent) state one = record { now = by_viewport extent state.dc.map one.now; saved = one.saved }
part_next (set_window_origin origin) state one = record { now = record { x = one.now.x; y = one.now.y }; saved = one.saved }
part_next (set_viewport_origin origin) state one = record { now = record { x = one.now.x; y = one.now.y }; saved = one.saved }
part_next (offset_window_origin offset) state one = record { now = record { x = one.now.x; y = one.now.y }; saved = one.saved }
part_next (offset_viewport_origin offset) state one = record { now = record { x = one.now.x; y = one.now.y }; saved = one.saved }
part_next (delete index) state one = record { now = record { x = one.now.x; y = one.now.y }; saved = all_without index state.saved one.saved }
part_next operation state one = record { now = record { x = one.now.x; y = one.now.y }; saved = one.saved }

all_next : (steps : List StepValue) (state : State) → IsInOnePart state → HasOnePart (state_after steps state).dc.map
all_next [] state one = one.now
all_next (step ∷ steps) state one = all_next steps (next step.operation state) (part_next step.operation state one)

-- after any steps, if no state is saved before them
pub part_after : (steps : List StepValue) (state : State) → HasOnePart state.dc.map → state.saved ≡ [] → HasOnePart (state_after steps state).dc.map
part_after steps state one none = all_next steps state (record { now = one; saved = rw none tt })
