-- Letting go of an index, and where nothing has it selected.
use Rattle.std.proofs.Common.{◌≡◌, ◌≢◌, ◌==◌, ℕ, ◌+◌, ◌-◌, ◌^◌, ◌<◌, Bool, true, false, ◌&&◌, ◌||◌, not, if◌then◌else◌, List, [], ◌∷◌, length, get_or, map, Option, Some, None, refl, subst, sym, ap, ◌∙◌, arith}
use Rattle.std.specs.List.{All, list_any}
use Rattle.std.proofs.lemmas.Bool.{eqb-true, ne_eqb}
use Rattle.std.specs.Option.{option_or}
use Rattle.std.proofs.lemmas.List.{get_or-map, length-map}
use Rattle.mapping.specs.Surface.{Surface}
use Rattle.draw_ops.specs.RuleSets.{allows_held_deletion}
use Rattle.draw_ops.specs.declared.record_fault.RecordFault.{RecordFault}
use Rattle.draw_ops.specs.declared.record_fault.RecordFault.TheVariants.{HeldObject, NoSuchHandle}
use Rattle.dc_stack.specs.Deleting.{after_deleting, dc_without, other_index, without_index}
use Rattle.dc_stack.specs.DeletionLaws.{DeletionLaws, values_of}
use Rattle.dc_stack.specs.Selecting.{is_in_use, is_index_of, selects}
use Rattle.dc_stack.specs.declared.clip.Clip.{Clip}
use Rattle.dc_stack.specs.declared.dc.Dc.{Dc}
use Rattle.dc_stack.specs.State.{DcValue, Selections, State, with_slots}
use Rattle.dc_stack.specs.Values.{IsPlacedOn}
use Rattle.object_tables.specs.Slots.{is_taken, without_object}

-- nothing changes where the index isn't selected
same_index : (index : ℕ) (kept : Option ℕ) → is_index_of index kept ≡ false → other_index index kept ≡ kept
same_index index None e = refl
same_index index (Some kept) e = rw e refl

neither : (a b : Bool) → (a || b) ≡ false → (a ≡ false) × (b ≡ false)
neither true b e = absurd (cc e)
neither false b e = (refl, e)

same_selected : (index : ℕ) (s : Selections) → selects index s ≡ false → without_index index s ≡ s
same_selected index s e =
    let palettes = neither (is_index_of index s.pen.index || is_index_of index s.brush.index || is_index_of index s.font) (is_index_of index s.palette) e in
    let fonts = neither (is_index_of index s.pen.index || is_index_of index s.brush.index) (is_index_of index s.font) palettes.0 in
    let tools = neither (is_index_of index s.pen.index) (is_index_of index s.brush.index) fonts.0 in
    rw (same_index index s.pen.index tools.0, same_index index s.brush.index tools.1, same_index index s.font fonts.1, same_index index s.palette palettes.1) refl

pub same_dc : (index : ℕ) (dc : DcValue) → selects index dc.selected ≡ false → dc_without index dc ≡ dc
same_dc index dc e = rw (same_selected index dc.selected e) refl

pub same_saved : (index : ℕ) (saved : List DcValue) → list_any (λ (dc : DcValue). selects index dc.selected) saved ≡ false → map (dc_without index) saved ≡ saved
same_saved index [] e = refl
same_saved index (dc ∷ saved) e =
    let both = neither (selects index dc.selected) _ e in
    ap (λ (d : DcValue). d ∷ map (dc_without index) saved) (same_dc index dc both.0) ∙ ap (λ (ds : List DcValue). dc ∷ ds) (same_saved index saved both.1)

-- an object that isn't selected is only taken from the table
pub not_held : (index : ℕ) (state : State) → is_in_use index state ≡ false → after_deleting index state ≡ with_slots (without_object index state.slots) state
not_held index state e =
    let both = neither (selects index state.dc.selected) _ e in
    rw (same_dc index state.dc both.0, same_saved index state.saved both.1, e) refl

-- a deletion has no fault by the surface, and one of a selected object needs leave
held : (taken use_ allowed : Bool) → allowed ≡ false → taken ≡ true → use_ ≡ true → option_or (if taken then (if use_ && not allowed then Some HeldObject else None) else Some NoSuchHandle) None ≡ Some HeldObject
held taken use_ allowed leave there selected = rw (leave, there, selected) refl

permitted : (taken use_ allowed : Bool) → allowed ≡ true → taken ≡ true → option_or (if taken then (if use_ && not allowed then Some HeldObject else None) else Some NoSuchHandle) None ≡ None
permitted taken true allowed leave there = rw (leave, there) refl
permitted taken false allowed leave there = rw there refl

-- what lets go of an index doesn't have it
other : (index : ℕ) (kept : Option ℕ) → is_index_of index (other_index index kept) ≡ false
other index kept = by_test (is_index_of index kept) refl
  where
    by_test : (same : Bool) → is_index_of index kept ≡ same → is_index_of index (if same then None else kept) ≡ false
    by_test true e = refl
    by_test false e = e

unselected : (index : ℕ) (s : Selections) → selects index (without_index index s) ≡ false
unselected index s = rw (other index s.pen.index, other index s.brush.index, other index s.font, other index s.palette) refl

unsaved : (index : ℕ) (saved : List DcValue) → list_any (λ (dc : DcValue). selects index dc.selected) (map (dc_without index) saved) ≡ false
unsaved index [] = refl
unsaved index (dc ∷ saved) = rw (unselected index dc.selected) (unsaved index saved)

let_go : (index : ℕ) (state : State) → is_in_use index (after_deleting index state) ≡ false
let_go index state = rw (unselected index state.dc.selected) (unsaved index state.saved)

-- no other index is let go
other_stays : (index other : ℕ) (kept : Option ℕ) → other ≢ index → is_index_of other (other_index index kept) ≡ is_index_of other kept
other_stays index other None apart = refl
other_stays index other (Some kept) apart = by_test (kept == index) refl
  where
    by_test : (same : Bool) → (kept == index) ≡ same → is_index_of other (if same then None else Some kept) ≡ (kept == other)
    by_test true e = sym (ne_eqb kept other (λ (f : kept ≡ other). apart (sym f ∙ eqb-true kept index e)))
    by_test false e = refl

selects_others : (index other : ℕ) (s : Selections) → other ≢ index → selects other (without_index index s) ≡ selects other s
selects_others index other s apart =
    rw (other_stays index other s.pen.index apart, other_stays index other s.brush.index apart, other_stays index other s.font apart, other_stays index other s.palette apart) refl

saved_stay : (index other : ℕ) (saved : List DcValue) → other ≢ index
    → list_any (λ (dc : DcValue). selects other dc.selected) (map (dc_without index) saved) ≡ list_any (λ (dc : DcValue). selects other dc.selected) saved
saved_stay index other [] apart = refl
saved_stay index other (dc ∷ saved) apart = rw (selects_others index other dc.selected apart, saved_stay index other saved apart) refl

others_stay : (index other : ℕ) (state : State) → other ≢ index → is_in_use other (after_deleting index state) ≡ is_in_use other state
others_stay index other state apart = rw (selects_others index other state.dc.selected apart, saved_stay index other state.saved apart) refl

-- values are kept
saved_values : (index : ℕ) (saved : List DcValue) → map values_of (map (dc_without index) saved) ≡ map values_of saved
saved_values index [] = refl
saved_values index (dc ∷ saved) = ap (λ (ds : List DcValue). values_of dc ∷ ds) (saved_values index saved)

-- the deletion is counted
one_more_counted : (index : ℕ) (state : State) → is_in_use index state ≡ true → state.held_deletions < 2 ^ 32 - 1 → (after_deleting index state).held_deletions ≡ state.held_deletions + 1
one_more_counted index state e few = rw e (omega (arith, few))

pub deletion_laws : DeletionLaws
deletion_laws = record {
  held = λ index state s leave taken selected. held (is_taken index state.slots) (is_in_use index state) (allows_held_deletion state.rules) leave taken selected;
  allowed = λ index state s leave taken. permitted (is_taken index state.slots) (is_in_use index state) (allows_held_deletion state.rules) leave taken;
  let_go = let_go;
  others_stay = others_stay;
  keeps_values = λ index state. refl;
  keeps_saved = λ index state. saved_values index state.saved;
  removed = λ index state. refl;
  counted = one_more_counted;
  others = not_held;
}

-- states whose clips are the same as before are placed on the surface as before
pub placed_same : (s : Surface) (before after : List Dc) → map (λ (d : Dc). d.clip) after ≡ map (λ (d : Dc). d.clip) before → All (λ (d : Dc). IsPlacedOn s d.clip) before → All (λ (d : Dc). IsPlacedOn s d.clip) after
placed_same s before after same all i d within =
    let clip : Dc → Clip = λ (dc : Dc). dc.clip in
    let long : length after ≡ length before = sym (length-map after clip) ∙ ap length same ∙ length-map before clip in
    let inside : i < length before = omega (arith, within, long) in
    let e : (get_or after i d).clip ≡ (get_or before i d).clip =
    sym (get_or-map clip after i d d.clip within) ∙ ap (λ (cs : List Clip). get_or cs i d.clip) same ∙ get_or-map clip before i d d.clip inside
    in
    subst (λ (c : Clip). IsPlacedOn s c) (sym e) (all i d inside)
