-- A file that opens has a frame and a handle count within their limits.
use Rattle.std.proofs.Common.{◌≡◌, ◌⊎◌, ℕ, zero, suc, ℤ, pos, negsuc, ◌-◌, ◌-ℤ◌, ◌≤◌, Bool, true, false, ◌&&◌, ◌||◌, ◌==◌, not, cond, List, [], ◌∷◌, drop, length, Option, Some, None, Result, Ok, Err, ap, inl, refl, subst, sym, ◌∙◌, arith}
use Rattle.std.specs.Prelude.{◌*◌, ◌^◌, ◌<◌, IfSome, if◌then◌else◌, max, nat_lt, slice_index, unsigned_abs}
use Rattle.std.specs.List.{All}
use Rattle.std.proofs.lemmas.List.Elements.{All-head, All-tail}
use Rattle.std.specs.Option.{option_or}
use Rattle.std.proofs.lemmas.Bool.{and_parts, ltb-false, ltb-true}
use Rattle.std.proofs.lemmas.Int.{ints}
use Rattle.mapping.specs.Limits.{IsFrameSide, frame_side_true, is_frame_side}
use Rattle.mapping.specs.PageMap.{map_in_parts}
use Rattle.mapping.specs.Parts.{PartLaws, fine_parts, first_fine, part_counts}
use Rattle.mapping.specs.PlacingLaws.{ShowsFrame}
use Rattle.mapping.specs.Plane.{MapNumbers}
use Rattle.mapping.specs.declared.geometry.Frame.{Frame}
use Rattle.draw_ops.specs.Framed.{framed_of}
use Rattle.draw_ops.specs.Results.{result_map}
use Rattle.draw_ops.specs.RuleSets.{core_rules, in_force, is_print}
use Rattle.draw_ops.specs.Records.{Record}
use Rattle.draw_ops.specs.declared.fault.Fault.{Fault}
use Rattle.draw_ops.specs.declared.rules.Rules.{Rules}
use Rattle.meta_headers.specs.OpeningRules.{divided, parts_of_unit, reopened}
use Rattle.meta_headers.specs.EmfHeader.{bounds_height, bounds_width, emf_file, is_emf, is_emf_header_size, opened_emf}
use Rattle.meta_headers.specs.OpeningLaws.{OpeningLaws}
use Rattle.meta_headers.specs.Headers.{OpenedValue, has_version, is_header, is_too_long}
use Rattle.meta_headers.specs.Opening.{opened, surface_for}
use Rattle.meta_headers.specs.PlaceableHeader.{box_dimensions, boxed_file, is_placeable, opened_placeable, placeable_file}
use Rattle.meta_headers.specs.PlainHeader.{is_plain, opened_plain, plain_file, plain_with}
use Rattle.point_views.specs.Numbers.{i16_at, number_at}
use Rattle.wmf_records.specs.FirstExtent.{extent_in, first_extent, first_extent_in, has_extent}
use Rattle.wmf_records.specs.Framing.{wmf_framing}

is_true : (test : Bool) → not test ≡ false → test ≡ true
is_true true e = refl
is_true false e = absurd (cc)

-- this holds of a file that opens
abbrev HoldsIfOk : (OpenedValue → Type 0) → Result OpenedValue Fault → Type 0
HoldsIfOk holds result = (o : OpenedValue) → result ≡ Ok o → holds o

module _ (holds : OpenedValue → Type 0) where
  by_test : (test : Bool) (then_it else_it : Result OpenedValue Fault) → (test ≡ true → HoldsIfOk holds then_it) → (test ≡ false → HoldsIfOk holds else_it) → HoldsIfOk holds (cond test then_it else_it)
  by_test true then_it else_it f g = f refl
  by_test false then_it else_it f g = g refl

  no_fault : (fault : Fault) → HoldsIfOk holds (Err fault)
  no_fault fault o h = absurd (cc)

  is_it : (it : OpenedValue) → holds it → HoldsIfOk holds (Ok it)
  is_it it h o same = let e : it ≡ o = cc in subst holds e h

  -- what opening answers, by the three formats
  by_format : (file : List ℕ) → HoldsIfOk holds (placeable_file file) → HoldsIfOk holds (emf_file file) → HoldsIfOk holds (plain_file file) → HoldsIfOk holds (opened file)
  unfolding opened
  by_format file placeable emf plain =
      by_test (is_too_long file) _ _ (λ e. no_fault _)
      (λ e. by_test (is_placeable file) _ _ (λ e. placeable)
      (λ e. by_test (is_emf file) _ _ (λ e. emf) (λ e. by_test (is_plain file) _ _ (λ e. plain) (λ e. no_fault _))))

  by_placeable : (file : List ℕ) → HoldsIfOk holds (boxed_file file) → HoldsIfOk holds (placeable_file file)
  by_placeable file boxed =
      by_test (nat_lt (length file) 40) _ _ (λ e. no_fault _)
      (λ e. by_test (not (is_header file 22)) _ _ (λ e. no_fault _) (λ e. boxed))

  by_plain : (file : List ℕ) → HoldsIfOk holds (plain_with file (first_extent (drop 18 file))) → HoldsIfOk holds (plain_file file)
  by_plain file found =
      by_test (nat_lt (length file) 18) _ _ (λ e. no_fault _)
      (λ e. by_test (not (has_version file 0)) _ _ (λ e. no_fault _) (λ e. found))

  by_emf : (file : List ℕ) → ((is_frame_side (bounds_width file) && is_frame_side (bounds_height file)) ≡ true → holds (opened_emf file)) → HoldsIfOk holds (emf_file file)
  by_emf file f =
      by_test (nat_lt (length file) 88) _ _ (λ e. no_fault _)
      (λ e. by_test (not (is_emf_header_size (number_at file 4 4))) _ _ (λ e. no_fault _)
      (λ e. by_test (nat_lt (length file) (number_at file 4 4)) _ _ (λ e. no_fault _)
      (λ e. by_test (not (is_frame_side (bounds_width file) && is_frame_side (bounds_height file))) _ _ (λ e. no_fault _)
      (λ e. is_it (opened_emf file) (f (is_true _ e))))))

-- the sides of an opened file's frame; a unit is one part of the plane
record HasDimensions (o : OpenedValue) : Type 0 where
  wide : IsFrameSide o.frame_width
  high : IsFrameSide o.frame_height
  core : o.rules ≡ core_rules
  fine_width : o.fine_width ≡ o.frame_width
  fine_height : o.fine_height ≡ o.frame_height
  units : map_in_parts 1 o.map ≡ o.map

-- a number of 16 bits
small : (n : ℕ) (test : Bool) → nat_lt n 32768 ≡ test → unsigned_abs (cond test (pos n) (negsuc (65536 - suc n))) ≤ 32768
small n true e = let l = ltb-true n 32768 e in omega (arith, l)
small n false e = let l = ltb-false n 32768 e in omega (arith, l)

small_at : (file : List ℕ) (place : ℕ) → unsigned_abs (i16_at file place) ≤ 32768
small_at file place = small (number_at file place 2) (nat_lt (number_at file place 2) 32768) refl

-- a number of a test
not_zero : (n : ℕ) → (n == 0) ≡ false → 1 ≤ n
not_zero zero e = absurd (cc)
not_zero (suc n) e = omega arith

is_not : (test : Bool) → not test ≡ true → test ≡ false
is_not true e = absurd (cc)
is_not false e = refl

neither : (one other : Bool) → (one || other) ≡ false → (one ≡ false) × (other ≡ false)
neither true other e = absurd (cc)
neither false other e = (refl, e)

-- a side between two numbers of 16 bits, and one of such a number
side_between : (last first : ℤ) → unsigned_abs last ≤ 32768 → unsigned_abs first ≤ 32768 → 1 ≤ unsigned_abs (last -ℤ first) → IsFrameSide (unsigned_abs (last -ℤ first))
side_between last first few most some = record { not_empty = some; within = omega (arith, ints, few, most) }

side_of : (extent : ℤ) → unsigned_abs extent ≤ 32768 → 1 ≤ unsigned_abs extent → IsFrameSide (unsigned_abs extent)
side_of extent few some = record { not_empty = some; within = omega (arith, few) }

boxed : (file : List ℕ) → HoldsIfOk HasDimensions (boxed_file file)
boxed file =
    let dimensions = box_dimensions file in
    by_test HasDimensions (unsigned_abs dimensions.x == 0 || unsigned_abs dimensions.y == 0) _ _ (λ e. no_fault HasDimensions _)
    (λ e.
    let some = neither _ _ e in
    is_it HasDimensions (opened_placeable file) (record {
      wide = side_between (i16_at file 10) (i16_at file 6) (small_at file 10) (small_at file 6) (not_zero _ some.0);
      high = side_between (i16_at file 12) (i16_at file 8) (small_at file 12) (small_at file 8) (not_zero _ some.1);
      core = refl;
      fine_width = refl;
      fine_height = refl;
      units = refl;
    }))

-- an extent that a record has
record IsExtent (extent : ℤ × ℤ) : Type 0 where
  wide : IsFrameSide (unsigned_abs extent.0)
  high : IsFrameSide (unsigned_abs extent.1)

same_extent : (extent other : ℤ × ℤ) → ◌≡◌ {A = Option (ℤ × ℤ)} (Some extent) (Some other) → extent ≡ other
same_extent extent other h = cc

extent_of : (r : Record) (test : Bool) → has_extent r ≡ test → (extent : ℤ × ℤ) → cond test (Some (i16_at r.bytes 8, i16_at r.bytes 6)) None ≡ Some extent → IsExtent extent
extent_of r true e extent h =
    let all = and_parts _ _ e in
    let rest = and_parts _ _ all.0 in
    subst IsExtent (same_extent _ extent h) (record {
      wide = side_of (i16_at r.bytes 8) (small_at r.bytes 8) (not_zero _ (is_not _ all.1));
      high = side_of (i16_at r.bytes 6) (small_at r.bytes 6) (not_zero _ (is_not _ rest.1));
    })
extent_of r false e extent h = absurd (cc)

first_or : (first rest : Option (ℤ × ℤ)) → ((extent : ℤ × ℤ) → first ≡ Some extent → IsExtent extent) → ((extent : ℤ × ℤ) → rest ≡ Some extent → IsExtent extent) → (extent : ℤ × ℤ) → option_or first rest ≡ Some extent → IsExtent extent
first_or None rest f g extent h = g extent h
first_or (Some it) rest f g extent h = f extent h

first_in : (records : List Record) (extent : ℤ × ℤ) → first_extent_in records ≡ Some extent → IsExtent extent
first_in [] extent h = absurd (cc)
first_in (r ∷ rs) extent h = first_or (extent_in r) (first_extent_in rs) (extent_of r (has_extent r) refl) (first_in rs) extent h

with_extent : (file : List ℕ) (found : Option (ℤ × ℤ)) → ((extent : ℤ × ℤ) → found ≡ Some extent → IsExtent extent) → HoldsIfOk HasDimensions (plain_with file found)
with_extent file None f = no_fault HasDimensions _
with_extent file (Some extent) f = is_it HasDimensions (opened_plain file extent) (
    let it = f extent refl in
    record { wide = it.wide; high = it.high; core = refl; fine_width = refl; fine_height = refl; units = refl }
    )

frame : (file : List ℕ) → HoldsIfOk HasDimensions (opened file)
frame file =
    by_format HasDimensions file (by_placeable HasDimensions file (boxed file))
    (by_emf HasDimensions file (λ e. let both = and_parts _ _ e in record { wide = frame_side_true _ both.0; high = frame_side_true _ both.1; core = refl; fine_width = refl; fine_height = refl; units = refl }))
    (by_plain HasDimensions file (with_extent file (first_extent (drop 18 file)) (first_in (framed_of wmf_framing (drop 18 file)).records)))

-- how many object indexes an opened file may use, where the format says so
abbrev HasShortHandles : OpenedValue → Type 0
HasShortHandles o = IfSome o.handles (λ n. n < 2 ^ 16)

abbrev AreBytes : List ℕ → Type 0
AreBytes bytes = All (λ byte. byte < 2 ^ 8) bytes

byte_at : (bytes : List ℕ) → AreBytes bytes → (k : ℕ) → slice_index bytes k < 256
byte_at [] all zero = omega arith
byte_at [] all (suc k) = omega arith
byte_at (byte ∷ bytes) all zero = All-head (λ byte. byte < 2 ^ 8) byte bytes all
byte_at (byte ∷ bytes) all (suc k) = byte_at bytes (All-tail (λ byte. byte < 2 ^ 8) byte bytes all) k

dropped : (n : ℕ) (bytes : List ℕ) → AreBytes bytes → AreBytes (drop n bytes)
dropped zero bytes all = all
dropped (suc n) [] all = all
dropped (suc n) (byte ∷ bytes) all = dropped n bytes (All-tail (λ byte. byte < 2 ^ 8) byte bytes all)

short_handles : (file : List ℕ) → AreBytes file → HasShortHandles (opened_emf file)
short_handles file all =
    let bytes = byte_at (drop 56 file) (dropped 56 file all) in
    let low = bytes 0 in let high = bytes 1 in omega (arith, low, high)

no_handles : (file : List ℕ) (found : Option (ℤ × ℤ)) → HoldsIfOk HasShortHandles (plain_with file found)
no_handles file None = no_fault HasShortHandles _
no_handles file (Some extent) = is_it HasShortHandles (opened_plain file extent) tt

handles : (file : List ℕ) → AreBytes file → HoldsIfOk HasShortHandles (opened file)
handles file all =
    by_format HasShortHandles file
    (by_placeable HasShortHandles file
    (by_test HasShortHandles (unsigned_abs (box_dimensions file).x == 0 || unsigned_abs (box_dimensions file).y == 0) _ _ (λ e. no_fault HasShortHandles _) (λ e. is_it HasShortHandles (opened_placeable file) tt)))
    (by_emf HasShortHandles file (λ e. short_handles file all))
    (by_plain HasShortHandles file (no_handles file (first_extent (drop 18 file))))

-- what is opened by rules is what is opened, in parts
by_them : (rules : Rules) (result : Result OpenedValue Fault) (holds : OpenedValue → Type 0) → HoldsIfOk HasDimensions result
    → ((it : OpenedValue) → HasDimensions it → holds (reopened rules it)) → HoldsIfOk holds (result_map (reopened rules) result)
by_them rules (Ok it) holds is f = is_it holds (reopened rules it) (f it (is it refl))
by_them rules (Err fault) holds is f = no_fault holds fault

abbrev HasFewParts : OpenedValue → Type 0
HasFewParts o = (o.map.x.parts ≡ 1) ⊎ (o.map.x.parts * max o.frame_width o.frame_height ≤ 2 ^ 20)

module _ (laws : PartLaws) where
  abbrev framed : (width height : ℕ) → IsFrameSide width → IsFrameSide height → Frame
  framed width height wide high = record { width = width; height = height; wide = wide; high = high }

  -- a side times its parts
  fine_side : (fine : Bool) (side most : ℕ) → IsFrameSide side → IsFrameSide (side * first_fine most part_counts) → IsFrameSide (side * (if fine then first_fine most part_counts else 1))
  fine_side true side most plain many = many
  fine_side false side most plain many = record { not_empty = let some = plain.not_empty in omega (arith, some); within = let few = plain.within in omega (arith, few) }

  shows : (rules : Rules) (width height : ℕ) (it : OpenedValue) → HasDimensions it → ShowsFrame (surface_for (reopened rules it) width height)
  shows rules width height it is =
      let frame = framed it.frame_width it.frame_height is.wide is.high in
      record {
        wide = fine_side (is_print rules) it.frame_width (max it.frame_width it.frame_height) is.wide (laws.wide frame);
        high = fine_side (is_print rules) it.frame_height (max it.frame_width it.frame_height) is.high (laws.high frame);
      }

  -- a unit has one part, or the longer side has at most 2^20
  few_parts : (print : Bool) (width height : ℕ) → (fine_parts width height ≡ 1) ⊎ (fine_parts width height * max width height ≤ 2 ^ 20)
      → ((if print then fine_parts width height else 1) ≡ 1) ⊎ ((if print then fine_parts width height else 1) * max width height ≤ 2 ^ 20)
  few_parts true width height few = few
  few_parts false width height few = inl refl

  in_few_parts : (rules : Rules) (it : OpenedValue) → HasDimensions it → HasFewParts (reopened rules it)
  in_few_parts rules it is =
      few_parts (is_print rules) it.frame_width it.frame_height (laws.short (framed it.frame_width it.frame_height is.wide is.high))

-- by the core profile, a file opens as it does without rules
abbrev sides_of : OpenedValue → ℕ → ℕ → MapNumbers → Rules → OpenedValue
sides_of o width height map rules = record {
  format = o.format;
  rules = rules;
  frame_width = o.frame_width;
  frame_height = o.frame_height;
  fine_width = width;
  fine_height = height;
  map = map;
  handles = o.handles;
  notes = o.notes;
}

same_core : (rules : Rules) → is_print rules ≡ false → (o : OpenedValue) → HasDimensions o → reopened rules o ≡ o
same_core rules plain o is =
    let wide : o.frame_width * 1 ≡ o.fine_width = let e = is.fine_width in omega (arith, e) in
    let high : o.frame_height * 1 ≡ o.fine_height = let e = is.fine_height in omega (arith, e) in
    let parts : parts_of_unit rules o.frame_width o.frame_height ≡ 1 = rw plain refl in
    let force : in_force rules ≡ core_rules = rw plain refl in
    ap (λ (n : ℕ). divided (in_force rules) n o) parts
    ∙ ap (λ (r : Rules). divided r 1 o) force
    ∙ ap (λ (w : ℕ). sides_of o w (o.frame_height * 1) (map_in_parts 1 o.map) core_rules) wide
    ∙ ap (λ (h : ℕ). sides_of o o.fine_width h (map_in_parts 1 o.map) core_rules) high
    ∙ ap (λ (m : MapNumbers). sides_of o o.fine_width o.fine_height m core_rules) is.units
    ∙ ap (λ (r : Rules). sides_of o o.fine_width o.fine_height o.map r) (sym is.core)

core_result : (rules : Rules) → is_print rules ≡ false → (result : Result OpenedValue Fault) → HoldsIfOk HasDimensions result → result_map (reopened rules) result ≡ result
core_result rules plain (Ok o) is = ap (λ (it : OpenedValue). Ok it) (same_core rules plain o (is o refl))
core_result rules plain (Err fault) is = refl

-- the rules in force are in force, and a unit has as many parts under them
reopened_again : (rules : Rules) (fine : Bool) → is_print rules ≡ fine → (o : OpenedValue) → reopened (in_force rules) o ≡ reopened rules o
reopened_again rules true e o = let force : in_force rules ≡ rules = rw e refl in ap (λ (r : Rules). reopened r o) force
reopened_again rules false e o =
    let parts : parts_of_unit rules o.frame_width o.frame_height ≡ 1 = rw e refl in
    let force : in_force rules ≡ core_rules = rw e refl in
    ap (λ (r : Rules). reopened r o) force ∙ sym (ap (λ (n : ℕ). divided (in_force rules) n o) parts ∙ ap (λ (r : Rules). divided r 1 o) force)

again_result : (rules : Rules) (result : Result OpenedValue Fault) → result_map (reopened (in_force rules)) result ≡ result_map (reopened rules) result
again_result rules (Ok o) = ap (λ (it : OpenedValue). Ok it) (reopened_again rules (is_print rules) refl o)
again_result rules (Err fault) = refl

rules_result : (rules : Rules) (result : Result OpenedValue Fault) → HoldsIfOk (λ o. o.rules ≡ in_force rules) (result_map (reopened rules) result)
rules_result rules (Ok it) = is_it (λ o. o.rules ≡ in_force rules) (reopened rules it) refl
rules_result rules (Err fault) = no_fault (λ o. o.rules ≡ in_force rules) fault

-- a file has as many handles under any rules
handles_by : (rules : Rules) (result : Result OpenedValue Fault) → HoldsIfOk HasShortHandles result → HoldsIfOk HasShortHandles (result_map (reopened rules) result)
handles_by rules (Ok it) is = is_it HasShortHandles (reopened rules it) (is it refl)
handles_by rules (Err fault) is = no_fault HasShortHandles fault

pub opening_laws : PartLaws → OpeningLaws
opening_laws laws = record {
  handles = λ rules file o all opens. handles_by rules (opened file) (handles file all) o opens;
  frame = λ rules file o width height opens.
      by_them rules (opened file) (λ it. ShowsFrame (surface_for it width height)) (frame file) (shows laws rules width height) o opens;
  parts = λ rules file o opens. by_them rules (opened file) HasFewParts (frame file) (in_few_parts laws rules) o opens;
  core = λ rules file plain. core_result rules plain (opened file) (frame file);
  again = λ rules file. again_result rules (opened file);
  in_force = λ rules file o opens. rules_result rules (opened file) o opens;
}
