-- The law of listings, of a file.
use Rattle.std.proofs.Common.{◌≡◌, ◌≢◌, ℕ, ℤ, unsigned_abs, ◌+◌, ◌==◌, nat_lt, Bool, true, false, ◌&&◌, ◌||◌, not, if◌then◌else◌, List, [], ◌∷◌, length, drop, Option, Some, None, Result, Ok, Err, arith, refl, sym, ap, subst, ◌∙◌}
use Rattle.std.proofs.lemmas.List.Elements.{All-nil}
use Rattle.std.specs.Option.{option_or}
use Rattle.mapping.specs.Image.{Image}
use Rattle.mapping.specs.Limits.{IsSurfaceSide, is_frame_side, surface_side_limit}
use Rattle.mapping.specs.Nibs.{NibLaws}
use Rattle.mapping.specs.PlacingLaws.{IsNoLarger}
use Rattle.mapping.specs.Surface.{Surface}
use Rattle.draw_ops.specs.Content.{Content, StepValue}
use Rattle.draw_ops.specs.Framed.{FramedByFunction, framed_of}
use Rattle.draw_ops.specs.RecordContent.{content_of}
use Rattle.draw_ops.specs.Records.{Framed, FramedInOneWay, Framing, IsFramed, IsSpelledOrBroken, Record, Spells}
use Rattle.draw_ops.specs.Results.{result_map}
use Rattle.draw_ops.specs.declared.fault.Fault.{Fault}
use Rattle.draw_ops.specs.declared.fault.Fault.TheVariants.{BadHeader, NoFrame, NotMetafile, Record as InRecord, ShortHeader, TooLong}
use Rattle.draw_ops.specs.declared.rules.Rules.{Rules}
use Rattle.draw_ops.specs.declared.record_fault.RecordFault.{RecordFault}
use Rattle.draw_ops.specs.declared.record_fault.RecordFault.TheVariants.{BoxTooSmall, NibTooSmall, WrongEntry}
use Rattle.point_views.specs.Numbers.{number_at}
use Rattle.wmf_records.specs.FirstExtent.{first_extent}
use Rattle.meta_headers.specs.EmfHeader.{bounds_height, bounds_width, emf_file, is_emf, is_emf_header_size, opened_emf}
use Rattle.meta_headers.specs.Headers.{OpenedValue, has_version, is_header, is_too_long}
use Rattle.meta_headers.specs.Opening.{HasContentOf, framing_of, meaning_of, opened, record_bytes, surface_for}
use Rattle.meta_headers.specs.OpeningLaws.{OpeningLaws}
use Rattle.meta_headers.specs.OpeningRules.{opened_by, reopened}
use Rattle.meta_headers.specs.PlaceableHeader.{box_dimensions, is_placeable, opened_placeable, placeable_file}
use Rattle.meta_headers.specs.PlainHeader.{is_plain, opened_plain, plain_file, plain_with}
use Rattle.meta_headers.specs.declared.opened.FileFormat.TheVariants.{Emf, Placeable, Plain}
use Rattle.dc_stack.specs.Drawing.{Drawing, drawing_nib, drawing_of, drawing_points}
use Rattle.dc_stack.specs.FaultLaws.{FaultLaws}
use Rattle.dc_stack.specs.Next.{next}
use Rattle.dc_stack.specs.OperationFault.{fault_of}
use Rattle.dc_stack.specs.State.{State, start_of}
use Rattle.preflight_cert.specs.Answer.{AnswersOpened, AnswersRead, answer_from, bound_of, rejects}
use Rattle.preflight_cert.specs.CertificateReading.{CertificateValue, read_certificate, rules_in}
use Rattle.preflight_cert.specs.Checked.{check_of, checked, left_over}
use Rattle.preflight_cert.specs.Entries.{covers, covers_nib, drawing_fault, entries_after, entry_fault}
use Rattle.preflight_cert.specs.Run.{Run, rejected}
use Rattle.preflight_cert.specs.Stop.{Stop, end_of, stop_at, stop_of, stopped, stopped_or}
use Rattle.preflight_cert.specs.TextLaws.{AreBytes, TextLaws}
use Rattle.preflight_cert.specs.declared.certificate_entry.Entry.{Entry}
use Rattle.preflight_cert.specs.declared.emf_plus.EmfPlus.{EmfPlus}
use Rattle.meta_headers.specs.Formats.{format_of}
use Rattle.listing.specs.Formats.{first_place}
use Rattle.listing.specs.DryRunState.{dry_run_state_if, dry_run_state_of, start_dry_run}
use Rattle.listing.specs.Listing.{framed_records, lines_of_framed, listing_of}
use Rattle.listing.specs.ListingLaws.{IsOneLine, ListingLaws, ReportsStop}
use Rattle.listing.proofs.FileLemmas.{IsReached}
use Rattle.listing.proofs.PaintingLemmas.{meets_faults, no_painting_off}
use Rattle.listing.proofs.StopLemmas.{same_fault, reported}

abbrev opens_so : OpenedValue → Result OpenedValue Fault
opens_so o = Ok o

same_ok : {one other : OpenedValue} → opens_so one ≡ opens_so other → one ≡ other
same_ok e = cc

module _ (file : List ℕ) (o : OpenedValue) where
  format_if : (value : OpenedValue) → opens_so value ≡ opens_so o → Some value.format ≡ Some o.format
  format_if value h = ap (λ (it : OpenedValue). Some it.format) (same_ok h)

  -- headers that have no fault
  by_placeable : (short bad flat : Bool) → (if short then Err ShortHeader else (if bad then Err BadHeader else (if flat then Err NoFrame else opens_so (opened_placeable file)))) ≡ opens_so o → Some Placeable ≡ Some o.format
  by_placeable true bad flat h = cc
  by_placeable false true flat h = cc
  by_placeable false false true h = cc
  by_placeable false false false h = format_if (opened_placeable file) h

  placeable_format : placeable_file file ≡ Ok o → Some Placeable ≡ Some o.format
  placeable_format h = by_placeable (nat_lt (length file) 40) (not (is_header file 22)) (unsigned_abs (box_dimensions file).x == 0 || unsigned_abs (box_dimensions file).y == 0) h

  by_emf : (short bad cut large : Bool) → (if short then Err ShortHeader else (if bad then Err BadHeader else (if cut then Err ShortHeader else (if large then Err NoFrame else opens_so (opened_emf file))))) ≡ opens_so o → Some Emf ≡ Some o.format
  by_emf true bad cut large h = cc
  by_emf false true cut large h = cc
  by_emf false false true large h = cc
  by_emf false false false true h = cc
  by_emf false false false false h = format_if (opened_emf file) h

  emf_format : emf_file file ≡ Ok o → Some Emf ≡ Some o.format
  emf_format h =
      by_emf (nat_lt (length file) 88) (not (is_emf_header_size (number_at file 4 4))) (nat_lt (length file) (number_at file 4 4))
      (not (is_frame_side (bounds_width file) && is_frame_side (bounds_height file))) h

  by_plain : (short bad : Bool) (extent : Option (ℤ × ℤ)) → (if short then Err ShortHeader else (if bad then Err BadHeader else plain_with file extent)) ≡ opens_so o → Some Plain ≡ Some o.format
  by_plain true bad extent h = cc
  by_plain false true extent h = cc
  by_plain false false None h = cc
  by_plain false false (Some extent) h = format_if (opened_plain file extent) h

  plain_format : plain_file file ≡ Ok o → Some Plain ≡ Some o.format
  plain_format h = by_plain (nat_lt (length file) 18) (not (has_version file 0)) (first_extent (drop 18 file)) h

  by_beginning : (long placeable emf plain : Bool) → (if long then Err TooLong else (if placeable then placeable_file file else (if emf then emf_file file else (if plain then plain_file file else Err NotMetafile)))) ≡ Ok o → (if placeable then Some Placeable else (if emf then Some Emf else (if plain then Some Plain else None))) ≡ Some o.format
  by_beginning true placeable emf plain h = cc
  by_beginning false true emf plain h = placeable_format h
  by_beginning false false true plain h = emf_format h
  by_beginning false false false true h = plain_format h
  by_beginning false false false false h = cc

  -- a file that opens begins as its format does
  opened_format : opened file ≡ Ok o → format_of file ≡ Some o.format
  unfolding opened
  opened_format h = by_beginning (is_too_long file) (is_placeable file) (is_emf file) (is_plain file) h

-- records are framed in one way
only_framed : FramedInOneWay → FramedByFunction → (f : Framing) (bytes : List ℕ) (framed : Framed) → IsFramed f 0 bytes framed → framed ≡ framed_of f bytes
only_framed one by_function f bytes framed is =
    let all = one f bytes in
    all.only framed is ∙ sym (all.only (framed_of f bytes) (by_function f bytes))

same_record : {one other : RecordFault} → InRecord one ≡ InRecord other → one ≡ other
same_record e = cc

-- a surface of allowed sides is no smaller than the smallest, and no larger than the largest
up_from_smallest : (o : OpenedValue) (width height : ℕ) → IsSurfaceSide width → IsSurfaceSide height → IsNoLarger (surface_for o 1 1) (surface_for o width height)
up_from_smallest o width height wide high = record { width = wide.not_empty; height = high.not_empty; frame_width = refl; frame_height = refl }

up_to_largest : (o : OpenedValue) (width height : ℕ) → IsSurfaceSide width → IsSurfaceSide height → IsNoLarger (surface_for o width height) (surface_for o surface_side_limit surface_side_limit)
up_to_largest o width height wide high = record { width = wide.within; height = high.within; frame_width = refl; frame_height = refl }

-- nothing is found before the first record
abbrev none_found : EmfPlus
none_found = record { is_contained = false; is_drawn = false }

-- under rules a file has the format that it has without them
same_format : (rules : Rules) (file : List ℕ) (found : Result OpenedValue Fault) (o : OpenedValue) → opened file ≡ found → result_map (reopened rules) found ≡ Ok o → format_of file ≡ Some o.format
same_format rules file (Err fault) o opens e = cc
same_format rules file (Ok first) o opens e =
    opened_format file first opens ∙ ap (λ (it : OpenedValue). Some it.format) (same_ok e)

-- the listing of a file that opens
listing_opened : (rules : Rules) (file : List ℕ) (o : OpenedValue) → opened_by rules file ≡ Ok o → listing_of rules file ≡ lines_of_framed o.format (Some (start_dry_run o)) 0 (first_place o.format) (framed_records o.format file)
listing_opened rules file o opens =
    let at_start : dry_run_state_of rules file ≡ Some (start_dry_run o) = ap dry_run_state_if opens in
    let format : format_of file ≡ Some o.format = same_format rules file (opened file) o refl opens in
    rw (format, at_start) refl

-- so its first record is reached
reached_first : (rules : Rules) (file : List ℕ) (o : OpenedValue) → opened_by rules file ≡ Ok o → IsReached rules file o.format 0 (first_place o.format) (framed_records o.format file).records (framed_records o.format file).fault (lines_of_framed o.format (Some (start_dry_run o)) 0 (first_place o.format) (framed_records o.format file))
reached_first rules file o opens = record {
  of_format = same_format rules file (opened file) o refl opens;
  lines = [];
  earlier = [];
  reported = refl;
  plain = All-nil IsOneLine;
  counted = refl;
  begins = omega arith;
  among = refl;
  ends = refl;
  text = listing_opened rules file o opens;
}

-- framed records aren't none without a fault
some_record : (f : Framing) (bytes : List ℕ) (framed : Framed) → IsFramed f 0 bytes framed → framed.records ≡ [] → framed.fault ≡ None → ⊥
some_record f bytes framed is none whole =
    let spells : Spells f 0 bytes framed.records framed.after = subst (λ (fault : Option RecordFault). IsSpelledOrBroken f 0 bytes framed.records fault framed.after) whole is in
    subst (λ (rs : List Record). Spells f 0 bytes rs framed.after) none spells

-- a fault of no record isn't one of a record
in_a_record : {number : ℕ} {one other : Fault} → rejects (Some number) one ≡ rejects None other → ⊥
in_a_record e = cc

-- what is refused in a record stops there
rejected_number : {one other : ℕ} {fault here : RecordFault} → rejects (Some one) (InRecord fault) ≡ rejects (Some other) (InRecord here) → one ≡ other
rejected_number e = cc

rejected_fault : {one other : ℕ} {fault here : RecordFault} → rejects (Some one) (InRecord fault) ≡ rejects (Some other) (InRecord here) → fault ≡ here
rejected_fault e = cc

stop_of_parts : (stop : Stop) (number : ℕ) (fault : RecordFault) → stop.number ≡ number → stop.fault ≡ fault → Some stop ≡ Some (stop_at number fault)
stop_of_parts stop number fault p q = rw (← p, ← q) refl

rejected_at : (number : ℕ) (fault : RecordFault) (stop : Option Stop) (total : Option Fault) → answer_from stop total ≡ rejects (Some number) (InRecord fault) → stop ≡ Some (stop_at number fault)
rejected_at number fault None None h = cc
rejected_at number fault None (Some e) h = cc
rejected_at number fault (Some stop) total h = stop_of_parts stop number fault (rejected_number h) (rejected_fault h)

-- the faults of entries are three
by_extent : (same fits narrow : Bool) (fault : RecordFault) → fault ≢ WrongEntry → fault ≢ BoxTooSmall → fault ≢ NibTooSmall → (if same then (if fits then (if narrow then None else Some NibTooSmall) else Some BoxTooSmall) else Some WrongEntry) ≡ Some fault → ⊥
by_extent true true true fault not_entry not_box not_nib h = cc
by_extent true true false fault not_entry not_box not_nib h = not_nib cc
by_extent true false narrow fault not_entry not_box not_nib h = not_box cc
by_extent false fits narrow fault not_entry not_box not_nib h = not_entry cc

by_entries : (n : ℕ) (drawing : Drawing) (entries : List Entry) (s : Surface) (fault : RecordFault) → fault ≢ WrongEntry → fault ≢ BoxTooSmall → fault ≢ NibTooSmall → drawing_fault n drawing entries s ≡ Some fault → ⊥
by_entries n drawing [] s fault not_entry not_box not_nib h = not_entry cc
by_entries n drawing (entry ∷ entries) s fault not_entry not_box not_nib h =
    by_extent (entry.number == n) (covers entry.bounds (drawing_points drawing)) (covers_nib entry.nib (drawing_nib drawing s)) fault not_entry not_box not_nib h

no_entry_fault : (n : ℕ) (drawing : Option Drawing) (entries : List Entry) (s : Surface) (fault : RecordFault) → fault ≢ WrongEntry → fault ≢ BoxTooSmall → fault ≢ NibTooSmall → entry_fault n drawing entries s ≡ Some fault → ⊥
no_entry_fault n None entries s fault not_entry not_box not_nib h = cc
no_entry_fault n (Some drawing) entries s fault not_entry not_box not_nib h = by_entries n drawing entries s fault not_entry not_box not_nib h

-- nor is one left over
no_left_over : (count : ℕ) (entries : List Entry) {number : ℕ} (fault : RecordFault) → fault ≢ WrongEntry → left_over count entries ≡ Some (stop_at number fault) → ⊥
no_left_over count [] fault not_entry h = cc
no_left_over count (entry ∷ entries) fault not_entry h = not_entry (sym (same_fault h))

-- so where steps stop that are checked, by another fault, they stop in a run
module _ {number : ℕ} {fault : RecordFault} where
  by_step : (n : ℕ) (found entry : Option RecordFault) (later checked_later : Option Stop) → (entry ≡ Some fault → ⊥) → (checked_later ≡ Some (stop_at number fault) → later ≡ Some (stop_at number fault)) → stopped_or n (option_or found entry) checked_later ≡ Some (stop_at number fault) → stopped_or n found later ≡ Some (stop_at number fault)
  by_step n (Some e) entry later checked_later no_entry onward h = h
  by_step n None None later checked_later no_entry onward h = onward h
  by_step n None (Some e) later checked_later no_entry onward h = absurd (no_entry (ap Some (same_fault h)))

  at_end : (after : Option Stop) (over : Option Stop) → (over ≡ Some (stop_at number fault) → ⊥) → option_or after over ≡ Some (stop_at number fault) → after ≡ Some (stop_at number fault)
  at_end (Some stop) over none h = h
  at_end None over none h = absurd (none h)

  stops_in_run : (steps : List StepValue) (after : Option Stop) (count : ℕ) (state : State) (s : Surface) (entries : List Entry) → fault ≢ WrongEntry → fault ≢ BoxTooSmall → fault ≢ NibTooSmall → checked steps after count state s entries ≡ Some (stop_at number fault) → stopped steps after state s ≡ Some (stop_at number fault)
  stops_in_run [] after count state s entries not_entry not_box not_nib h = at_end after (left_over count entries) (no_left_over count entries fault not_entry) h
  stops_in_run (step ∷ steps) after count state s entries not_entry not_box not_nib h =
      by_step step.number (fault_of step.operation state s) (entry_fault step.number (drawing_of step.operation state) entries s)
      (stopped steps after (next step.operation state) s)
      (checked steps after count (next step.operation state) s (entries_after (drawing_of step.operation state) entries))
      (no_entry_fault step.number (drawing_of step.operation state) entries s fault not_entry not_box not_nib)
      (stops_in_run steps after count (next step.operation state) s (entries_after (drawing_of step.operation state) entries) not_entry not_box not_nib) h

-- where the content of a file's records stops, on a surface of allowed sides
module _ (laws : FaultLaws) (nibs : NibLaws) (one : FramedInOneWay) (by_function : FramedByFunction) (opening : OpeningLaws) (rules : Rules) (file : List ℕ) where
  reports_stop : (o : OpenedValue) (content : Content) (width height number : ℕ) (fault : RecordFault) → opened_by rules file ≡ Ok o → HasContentOf o.format (record_bytes o.format file) content → IsSurfaceSide width → IsSurfaceSide height → stop_of content (start_of o) (surface_for o width height) ≡ Some (stop_at number fault) → ReportsStop rules file number fault
  reports_stop o content width height number fault opens it wide high stops =
      let f = framing_of o.format in
      let framed = framed_records o.format file in
      let s = surface_for o width height in
      let largest = opening.frame rules file o surface_side_limit surface_side_limit opens in
      let decoded : content ≡ content_of f (meaning_of o.format) 0 framed =
      it.decoded ∙ ap (content_of f (meaning_of o.format) 0) (only_framed one by_function f (record_bytes o.format file) it.framed it.is_framed) in
      let all = content_of f (meaning_of o.format) 0 framed in
      let all_stop : stop_of all (start_of o) s ≡ Some (stop_at number fault) = ap (λ (c : Content). stop_of c (start_of o) s) (sym decoded) ∙ stops in
      let counted : 0 + length all.steps ≡ length all.steps = omega arith in
      reported laws nibs by_function rules file o.format (surface_for o 1 1) s (surface_for o surface_side_limit surface_side_limit) (record { wide = largest.wide; high = largest.high }) largest
      (up_from_smallest o width height wide high) (up_to_largest o width height wide high) (length all.steps) number fault (end_of all (start_of o))
      framed.records 0 (first_place o.format) framed.after framed.fault (start_of o) none_found refl counted refl all_stop
      (some_record f (record_bytes o.format file) framed (by_function f (record_bytes o.format file))) (reached_first rules file o opens)

  reports_each_stop : (width height : ℕ) (image : Image) (number : ℕ) (fault : RecordFault) → IsSurfaceSide width → IsSurfaceSide height
      → Run rules file width height image (rejected (Some number) (InRecord fault)) → ReportsStop rules file number fault
  reports_each_stop width height image number fault wide high run =
      let s = surface_for run.headers width height in
      let stops : stop_of run.content (start_of run.headers) s ≡ Some (stop_at number fault) =
      run.stops ∙ ap (λ (h : RecordFault). Some (stop_at number h)) (sym (same_record run.in_record)) in
      reports_stop run.headers run.content width height number fault run.of_file.opens run.of_file.records wide high stops

  reports_refusal : TextLaws → (certificate : List ℕ) (number : ℕ) (fault : RecordFault) → AreBytes certificate → fault ≢ WrongEntry → fault ≢ BoxTooSmall → fault ≢ NibTooSmall
      → AnswersOpened (opened_by rules file) file certificate (rejects (Some number) (InRecord fault)) → ReportsStop rules file number fault
  reports_refusal text certificate number fault bytes not_entry not_box not_nib answers = by_opening (opened_by rules file) refl answers
    where
      by_reading : (o : OpenedValue) → opened_by rules file ≡ Ok o → (read : Result CertificateValue Fault) → read_certificate certificate ≡ read → AnswersRead read o (record_bytes o.format file) (rejects (Some number) (InRecord fault)) → ReportsStop rules file number fault
      by_reading o opens (Err e) reads h = absurd (in_a_record h)
      by_reading o opens (Ok c) reads h =
          let is = (text.is_certificate certificate c bytes reads).within in
          let stops = stops_in_run h.content.steps (end_of h.content (start_of o)) (length h.content.steps) (start_of o) (bound_of o c) c.entries not_entry not_box not_nib (rejected_at number fault (check_of h.content (start_of o) (bound_of o c) c.entries) _ (sym h.answers)) in
          reports_stop o h.content c.max_width c.max_height number fault opens h.of_records is.wide is.high stops

      by_opening : (open_or : Result OpenedValue Fault) → opened_by rules file ≡ open_or → AnswersOpened open_or file certificate (rejects (Some number) (InRecord fault)) → ReportsStop rules file number fault
      by_opening (Err e) opens h = absurd (in_a_record h)
      by_opening (Ok o) opens h = by_reading o opens (read_certificate certificate) refl h

pub listing_laws : FaultLaws → NibLaws → FramedInOneWay → FramedByFunction → OpeningLaws → TextLaws → ListingLaws
listing_laws laws nibs one by_function opening text = record {
  stops = λ file rules. reports_each_stop laws nibs one by_function opening rules file;
  refusals = λ file certificate. reports_refusal laws nibs one by_function opening (rules_in certificate) file text certificate;
  runs = meets_faults;
  paintings = no_painting_off;
}
