-- The text of a report in pieces: the first members, the faults, and the last members.
use Rattle.std.proofs.Common.{◌≡◌, ◌∙◌, ◌||◌, if◌then◌else◌, ℕ, Bool, true, false, List, [], ◌∷◌, ◌++◌, Option, Some, None, ℤ, pos, negsuc, drop, codes, option_map, string_bytes, refl, sym, ap}
use Rattle.std.proofs.lemmas.Bool.{or_from}
use Rattle.std.proofs.lemmas.List.{append_assoc}
use Rattle.serde_json.specs.Data.{Items, Members, array, boolean, member, no_members, null, object, put, string}
use Rattle.serde_json.specs.Written.{comma_if, compact_text, has_float, items_text, members_have_float, members_text}
use Rattle.mapping.specs.declared.geometry.Rect.{Rect}
use Rattle.draw_ops.specs.Fault.{record_kind_of}
use Rattle.draw_ops.specs.RuleSets.{is_print}
use Rattle.meta_headers.specs.declared.opened.FileFormat.{FileFormat}
use Rattle.report_parts.specs.Parts.{notes_data, text_if, whole_if}
use Rattle.report_parts.specs.Whole.{allowed_whole, if_whole, notes_whole, profile_whole, put_whole, text_whole, uses_whole}
use Rattle.file_info.specs.Info.{is_playing}
use Rattle.file_info.specs.InfoReport.{axes_data, box_data, counted_data, counted_items, dots_if, drawings_if, emf_frame_if, fault_if, first_members, format_data, frame_data, info_line, joined, kind_if, last_members, name_if, objects_if, paper_if, record_if, records_data, signed, uses_if}
use Rattle.file_info.specs.JoinedText.{PutsFaults}
use Rattle.file_info.specs.declared.fault_count.FaultCount.{FaultCount}
use Rattle.file_info.specs.declared.info.FileInfo.{FileInfo}
use Rattle.file_info.specs.declared.paper.Axes.{Axes}
use Rattle.file_info.specs.declared.paper.Sizes.{Sizes}
use Rattle.file_info.specs.declared.playing.Playing.{Playing}
use Rattle.file_info.specs.declared.playing.Playing.TheVariants.{Plays, Stops}

-- the first and the last members of the core profile
abbrev plain_first : FileInfo → Members
plain_first info =
    put (codes "description") (text_if (option_map string_bytes info.description))
    (put (codes "dots_per_inch") (axes_data (dots_if info.sizes))
    (put (codes "drawings") (whole_if (drawings_if info.playing))
    (put (codes "emf_frame") (box_data (emf_frame_if info.sizes))
    (put (codes "error") null
    (put (codes "fault") (text_if (fault_if info.playing)) no_members)))))

abbrev plain_last : List ℕ → FileInfo → Members
plain_last name info =
    put (codes "file") (string name)
    (put (codes "format") (format_data info.format)
    (put (codes "frame") (frame_data info.sizes)
    (put (codes "notes") (notes_data info.totals.notes.counts)
    (put (codes "number") (whole_if (kind_if info.playing))
    (put (codes "objects") (whole_if (objects_if info.playing))
    (put (codes "plays") (boolean (is_playing info.playing))
    (put (codes "record") (whole_if (record_if info.playing))
    (put (codes "record_name") (text_if (name_if info.format (kind_if info.playing)))
    (put (codes "records") (records_data info.format info.totals.records)
    (put (codes "size") (axes_data (paper_if info.sizes)) no_members))))))))))

-- whether there is a member
abbrev starts : Members → Bool
starts no_members = false
starts (member name value more) = true

-- the text of members without the brace after them
abbrev open_text : Bool → Members → List ℕ
open_text later no_members = []
open_text later (member name value members) = comma_if later ++ (compact_text (string name) ++ 58 ∷ (compact_text value ++ open_text true members))

-- the text of members is the open one and a brace
pub closed : (later : Bool) (members : Members) → members_text later members ≡ open_text later members ++ 125 ∷ []
closed later no_members = refl
closed later (member name value members) = let e = closed true members in simp (e, append_assoc)

-- the text of members that are followed by others
pub joined_text : (later : Bool) (members others : Members) → members_text later (joined members others) ≡ open_text later members ++ members_text (later || starts members) others
joined_text false no_members others = refl
joined_text true no_members others = refl
joined_text false (member name value members) others = let e = joined_text true members others in simp (e, append_assoc)
joined_text true (member name value members) others = let e = joined_text true members others in simp (e, append_assoc)

-- a comma goes before members that come later
later_text : (members : Members) → starts members ≡ true → members_text true members ≡ 44 ∷ members_text false members
later_text no_members is = let bad : false ≡ true = is in cc
later_text (member name value more) is = refl

-- pieces of a text in another order of joining
pieces : (begun name items last : List ℕ) → ((123 ∷ begun) ++ (44 ∷ (name ++ 58 ∷ 91 ∷ (items ++ 44 ∷ [])))) ++ last
    ≡ 123 ∷ (begun ++ (44 ∷ (name ++ 58 ∷ 91 ∷ (items ++ 44 ∷ last))))
pieces begun name items last = simp append_assoc

module _ (first last : Members) (items : Items) (starts_last : starts last ≡ true) (starts_first : starts first ≡ true) where
  -- the text of all members
  whole_text : compact_text (object (joined first (member (codes "faults") (array items) last)))
      ≡ 123 ∷ (open_text false first ++ (44 ∷ (compact_text (string (codes "faults")) ++ 58 ∷ 91 ∷ (items_text false items ++ 44 ∷ members_text false last))))
  whole_text =
      let there = joined_text false first (member (codes "faults") (array items) last) in
      let there_first : members_text false (joined first (member (codes "faults") (array items) last))
      ≡ open_text false first ++ members_text true (member (codes "faults") (array items) last) = rw starts_first at there in
      ap (λ (t : List ℕ). 123 ∷ t) there_first
      ∙ ap (λ (t : List ℕ). 123 ∷ (open_text false first ++ (44 ∷ (compact_text (string (codes "faults")) ++ 58 ∷ 91 ∷ (items_text false items ++ t)))))
      (later_text last starts_last)

  -- all members from their pieces
  all_pieces : (text with_faults : List ℕ) → text ≡ compact_text (object first) → PutsFaults items text with_faults
      → with_faults ++ drop 1 (compact_text (object last)) ≡ compact_text (object (joined first (member (codes "faults") (array items) last)))
  all_pieces text with_faults is puts =
      let ends : text ≡ (123 ∷ open_text false first) ++ 125 ∷ [] = is ∙ ap (λ (t : List ℕ). 123 ∷ t) (closed false first) in
      ap (λ (t : List ℕ). t ++ members_text false last) (puts (123 ∷ open_text false first) ends)
      ∙ (pieces (open_text false first) (compact_text (string (codes "faults"))) (items_text false items) (members_text false last) ∙ sym whole_text)

-- there are first and last members under each profile
starts_first : (info : FileInfo) → starts (first_members info) ≡ true
starts_first info = by_profile (is_print info.rules)
  where
    by_profile : (fine : Bool) → starts (if fine then put (codes "allowed") (uses_if info.playing) (plain_first info) else plain_first info) ≡ true
    by_profile true = refl
    by_profile false = refl

starts_last : (name : List ℕ) (info : FileInfo) → starts (last_members name info) ≡ true
starts_last name info = by_profile (is_print info.rules)
  where
    by_profile : (fine : Bool) → starts (if fine then put (codes "profile") (string (codes "print")) (plain_last name info) else plain_last name info) ≡ true
    by_profile true = refl
    by_profile false = refl

-- the line of a file from its pieces
pub in_pieces : (name : List ℕ) (info : FileInfo) (text with_faults : List ℕ) → text ≡ compact_text (object (first_members info))
    → PutsFaults (counted_items info.format info.totals.faults) text with_faults
    → (with_faults ++ drop 1 (compact_text (object (last_members name info)))) ++ 10 ∷ [] ≡ info_line name info
in_pieces name info text with_faults is puts =
    ap (λ (t : List ℕ). t ++ 10 ∷ []) (all_pieces (first_members info) (last_members name info) (counted_items info.format info.totals.faults) (starts_last name info) (starts_first info) text with_faults is puts)

-- all numbers of the last members are integers
format_whole : (format : Option FileFormat) → has_float (format_data format) ≡ false
format_whole None = refl
format_whole (Some format) = refl

records_whole : (format : Option FileFormat) (records : ℕ) → has_float (records_data format records) ≡ false
records_whole None records = refl
records_whole (Some format) records = refl

frame_whole : (sizes : Option Sizes) → has_float (frame_data sizes) ≡ false
frame_whole None = refl
frame_whole (Some sizes) = refl

axes_whole : (axes : Option Axes) → has_float (axes_data axes) ≡ false
axes_whole None = refl
axes_whole (Some axes) = refl

pub last_whole : (name : List ℕ) (info : FileInfo) → has_float (object (last_members name info)) ≡ false
last_whole name info =
    let m0 = put (codes "size") (axes_data (paper_if info.sizes)) no_members in
    let e0 : members_have_float m0 ≡ false = put_whole (codes "size") (axes_data (paper_if info.sizes)) no_members (axes_whole (paper_if info.sizes)) refl in
    let m1 = put (codes "records") (records_data info.format info.totals.records) m0 in
    let e1 : members_have_float m1 ≡ false = put_whole (codes "records") (records_data info.format info.totals.records) m0 (records_whole info.format info.totals.records) e0 in
    let named = text_if (name_if info.format (kind_if info.playing)) in
    let mn = put (codes "record_name") named m1 in
    let en : members_have_float mn ≡ false = put_whole (codes "record_name") named m1 (text_whole (name_if info.format (kind_if info.playing))) e1 in
    let m2 = put (codes "record") (whole_if (record_if info.playing)) mn in
    let e2 : members_have_float m2 ≡ false = put_whole (codes "record") (whole_if (record_if info.playing)) mn (if_whole (record_if info.playing)) en in
    let m3 = put (codes "plays") (boolean (is_playing info.playing)) m2 in
    let e3 : members_have_float m3 ≡ false = put_whole (codes "plays") (boolean (is_playing info.playing)) m2 refl e2 in
    let m4 = put (codes "objects") (whole_if (objects_if info.playing)) m3 in
    let e4 : members_have_float m4 ≡ false = put_whole (codes "objects") (whole_if (objects_if info.playing)) m3 (if_whole (objects_if info.playing)) e3 in
    let m5 = put (codes "number") (whole_if (kind_if info.playing)) m4 in
    let e5 : members_have_float m5 ≡ false = put_whole (codes "number") (whole_if (kind_if info.playing)) m4 (if_whole (kind_if info.playing)) e4 in
    let m6 = put (codes "notes") (notes_data info.totals.notes.counts) m5 in
    let e6 : members_have_float m6 ≡ false = put_whole (codes "notes") (notes_data info.totals.notes.counts) m5 (notes_whole info.totals.notes.counts) e5 in
    let m7 = put (codes "frame") (frame_data info.sizes) m6 in
    let e7 : members_have_float m7 ≡ false = put_whole (codes "frame") (frame_data info.sizes) m6 (frame_whole info.sizes) e6 in
    let m8 = put (codes "format") (format_data info.format) m7 in
    let e8 : members_have_float m8 ≡ false = put_whole (codes "format") (format_data info.format) m7 (format_whole info.format) e7 in
    let m9 = put (codes "file") (string name) m8 in
    let e9 : members_have_float m9 ≡ false = put_whole (codes "file") (string name) m8 refl e8 in
    profile_whole info.rules m9 e9

-- and those of a counted fault
pub counted_whole : (format : Option FileFormat) (counted : FaultCount) → has_float (counted_data format counted) ≡ false
counted_whole format counted =
    or_from _ _ refl (or_from _ _ refl (or_from _ _ (if_whole (record_kind_of counted.fault)) (or_from _ _ (text_whole (name_if format (record_kind_of counted.fault))) refl)))

-- and those of the first members
signed_whole : (n : ℤ) → has_float (signed n) ≡ false
signed_whole (pos n) = refl
signed_whole (negsuc n) = refl

box_whole : (box : Option Rect) → has_float (box_data box) ≡ false
box_whole None = refl
box_whole (Some box) = or_from _ _ (signed_whole box.l) (or_from _ _ (signed_whole box.t) (or_from _ _ (signed_whole box.r) (or_from _ _ (signed_whole box.b) refl)))

uses_if_whole : (playing : Playing) → has_float (uses_if playing) ≡ false
uses_if_whole (Plays drawings objects uses) = uses_whole uses.held_deletion uses.emf_plus
uses_if_whole (Stops r) = refl

pub first_whole : (info : FileInfo) → has_float (object (first_members info)) ≡ false
first_whole info =
    let m0 = put (codes "fault") (text_if (fault_if info.playing)) no_members in
    let e0 : members_have_float m0 ≡ false = put_whole (codes "fault") (text_if (fault_if info.playing)) no_members (text_whole (fault_if info.playing)) refl in
    let m1 = put (codes "error") null m0 in
    let e1 : members_have_float m1 ≡ false = put_whole (codes "error") null m0 refl e0 in
    let m2 = put (codes "emf_frame") (box_data (emf_frame_if info.sizes)) m1 in
    let e2 : members_have_float m2 ≡ false = put_whole (codes "emf_frame") (box_data (emf_frame_if info.sizes)) m1 (box_whole (emf_frame_if info.sizes)) e1 in
    let m3 = put (codes "drawings") (whole_if (drawings_if info.playing)) m2 in
    let e3 : members_have_float m3 ≡ false = put_whole (codes "drawings") (whole_if (drawings_if info.playing)) m2 (if_whole (drawings_if info.playing)) e2 in
    let m4 = put (codes "dots_per_inch") (axes_data (dots_if info.sizes)) m3 in
    let e4 : members_have_float m4 ≡ false = put_whole (codes "dots_per_inch") (axes_data (dots_if info.sizes)) m3 (axes_whole (dots_if info.sizes)) e3 in
    let text = option_map string_bytes info.description in
    let m5 = put (codes "description") (text_if text) m4 in
    let e5 : members_have_float m5 ≡ false = put_whole (codes "description") (text_if text) m4 (text_whole text) e4 in
    allowed_whole info.rules (uses_if info.playing) m5 (uses_if_whole info.playing) e5
