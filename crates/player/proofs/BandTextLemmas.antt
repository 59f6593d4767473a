-- The text of a run, written band by band.
use Rattle.std.proofs.Common.{◌≡◌, ℕ, ◌+◌, ◌-◌, ◌≤◌, List, ◌++◌, Option, sym, ap, subst, ◌∙◌, arith}
use Rattle.std.proofs.KnownBytes.{Appends-trans}
use Rattle.std.proofs.lemmas.List.{append_assoc, append-nil}
use Rattle.std.specs.Io.KnownBytes.{Appends}
use Rattle.mapping.specs.Image.{Image, blank}
use Rattle.mapping.specs.Surface.{Surface}
use Rattle.mapping.specs.declared.geometry.Colour.{Colour}
use Rattle.draw_ops.specs.Content.{Content}
use Rattle.draw_ops.specs.RecordContent.{ContentIsOne}
use Rattle.canvas.specs.CanvasState.{CanvasState, image_of}
use Rattle.canvas.specs.Ppm.{AppendsPrefix, header, ppm_text, raster}
use Rattle.meta_headers.specs.Headers.{OpenedValue}
use Rattle.meta_headers.specs.Opening.{HasContentOf, framing_of, meaning_of}
use Rattle.dc_stack.specs.MachineState.{GoesOn, MachineState}
use Rattle.dc_stack.specs.State.{State, start_of}
use Rattle.preflight_cert.specs.Drawings.{drawings_of}
use Rattle.preflight_cert.specs.RowsLaws.{RowsLaws}
use Rattle.preflight_cert.specs.Apply.{rows_after}
use Rattle.preflight_cert.specs.Writes.{writes_of_drawings}
use Rattle.preflight_cert.specs.declared.cleared.Cleared.{Cleared}
use Rattle.player.specs.Bands.{HasCountedRows, HasWrittenPrefix, HasWrittenRows, PlaysBand, row_writes, rows_played}
use Rattle.player.specs.Plays.{PlaysRecords}
use Rattle.player.specs.Ready.{IsReadyToPlay}
use Rattle.player.proofs.BandLemmas.{no_raster, no_writes, raster_laid}

-- what was played on rows of one colour is the band of these rows
pub band_played :
    ContentIsOne → (o : OpenedValue) (records : List ℕ) (s : Surface) (start : Colour) (first rows : ℕ) (from : MachineState) (old empty new : CanvasState)
    → from.state ≡ start_of o → from.surface ≡ s → image_of empty ≡ blank s.width rows start → empty.first ≡ first → empty.writes ≡ old.writes
    → PlaysRecords o.format records from empty new → PlaysBand o records s start first rows old new
band_played contents o records s start first rows from old empty new state surface image top writes played =
    let one = contents (framing_of o.format) (meaning_of o.format) records in
    let same = λ (content : Content) (h : HasContentOf o.format records content). one.only played.content played.of_records ∙ sym (one.only content h) in
    let high : empty.rows ≡ rows = ap (λ (i : Image). i.height) image in
    let drawings = λ (z : State). drawings_of played.content.steps z in
    let at_start : image_of new ≡ rows_after (drawings (start_of o)) from.surface empty.first (image_of empty) = subst (λ (z : State). image_of new ≡ rows_after (drawings z) from.surface empty.first (image_of empty)) state played.plays.image in
    let on_surface : image_of new ≡ rows_after (drawings (start_of o)) s empty.first (image_of empty) = subst (λ (t : Surface). image_of new ≡ rows_after (drawings (start_of o)) t empty.first (image_of empty)) surface at_start in
    let from_top : image_of new ≡ rows_after (drawings (start_of o)) s first (image_of empty) = subst (λ (n : ℕ). image_of new ≡ rows_after (drawings (start_of o)) s n (image_of empty)) top on_surface in
    let shown : image_of new ≡ rows_played o played.content s start first rows = subst (λ (i : Image). image_of new ≡ rows_after (drawings (start_of o)) s first i) image from_top in
    let count_start : new.writes ≡ empty.writes + writes_of_drawings (drawings (start_of o)) from.surface empty.first empty.rows = subst (λ (z : State). new.writes ≡ empty.writes + writes_of_drawings (drawings z) from.surface empty.first empty.rows) state played.plays.writes in
    let count_surface : new.writes ≡ empty.writes + writes_of_drawings (drawings (start_of o)) s empty.first empty.rows = subst (λ (t : Surface). new.writes ≡ empty.writes + writes_of_drawings (drawings (start_of o)) t empty.first empty.rows) surface count_start in
    let count_top : new.writes ≡ empty.writes + writes_of_drawings (drawings (start_of o)) s first empty.rows = subst (λ (n : ℕ). new.writes ≡ empty.writes + writes_of_drawings (drawings (start_of o)) s n empty.rows) top count_surface in
    let count_rows : new.writes ≡ empty.writes + row_writes o played.content s first rows = subst (λ (n : ℕ). new.writes ≡ empty.writes + writes_of_drawings (drawings (start_of o)) s first n) high count_top in
    let counted : new.writes ≡ old.writes + row_writes o played.content s first rows = subst (λ (n : ℕ). new.writes ≡ n + row_writes o played.content s first rows) writes count_rows in
    record {
      image = λ content h. subst (λ (c : Content). image_of new ≡ rows_played o c s start first rows) (same content h) shown;
      writes = λ content h. subst (λ (c : Content). new.writes ≡ old.writes + row_writes o c s first rows) (same content h) counted;
    }

module _ (laws : RowsLaws) (o : OpenedValue) (records : List ℕ) (s : Surface) (start : Colour) (wide : 1 ≤ s.width) where
  -- the text of the whole surface is the header and the samples of all rows
  pub whole_text : (content : Content) → ppm_text (rows_played o content s start 0 s.height) ≡ header s.width s.height ++ raster (rows_played o content s start 0 s.height).colours
  whole_text content =
      let image = rows_played o content s start 0 s.height in
      let kept = laws.dimensions (drawings_of content.steps (start_of o)) s 0 (blank s.width s.height start) in
      ap (λ (w : ℕ). header w image.height ++ raster image.colours) kept.width ∙ ap (λ (n : ℕ). header s.width n ++ raster image.colours) kept.height

  -- after the header no row has been written
  pub none_written : (old new : Option (List ℕ)) → Appends old new (header s.width s.height) → HasWrittenRows o records s start 0 old new
  none_written old new sent content h =
      let text = header s.width s.height in
      subst (Appends old new) (sym (ap (λ (samples : List ℕ). text ++ samples) (no_raster laws (drawings_of content.steps (start_of o)) s start wide) ∙ append-nil text)) sent

  pub none_counted : (writes : ℕ) → writes ≡ 0 → HasCountedRows o records s 0 writes
  none_counted writes none content h = none ∙ sym (no_writes laws (drawings_of content.steps (start_of o)) s start wide)

  module _ (first rows : ℕ) (before after : CanvasState) (played : PlaysBand o records s start first rows before after) where
    -- the samples before a band, and those of the band
    band_text : (content : Content) → HasContentOf o.format records content
        → header s.width s.height ++ raster (rows_played o content s start 0 (first + rows)).colours ≡ (header s.width s.height ++ raster (rows_played o content s start 0 first).colours) ++ raster after.colours
    band_text content h =
        let text = header s.width s.height in
        let upper = raster (rows_played o content s start 0 first).colours in
        let here : raster (rows_played o content s start first rows).colours ≡ raster after.colours = sym (ap (λ (i : Image). raster i.colours) (played.image content h)) in
        ap (λ (samples : List ℕ). text ++ samples) (raster_laid laws (drawings_of content.steps (start_of o)) s start wide first rows ∙ ap (λ (samples : List ℕ). upper ++ samples) here)
        ∙ sym (append_assoc text upper (raster after.colours))

    -- one more band is written and counted
    pub band_written : (old mid new : Option (List ℕ)) → HasWrittenRows o records s start first old mid → Appends mid new (raster after.colours) → HasWrittenRows o records s start (first + rows) old new
    band_written old mid new so_far sent content h =
        subst (Appends old new) (sym (band_text content h)) (Appends-trans old mid new _ _ (so_far content h) sent)

    pub band_counted : HasCountedRows o records s first before.writes → HasCountedRows o records s (first + rows) after.writes
    band_counted so_far content h =
        let counted = laws.writes (drawings_of content.steps (start_of o)) s 0 first rows in
        let above = so_far content h in
        let here = played.writes content h in
        let e : 0 + first ≡ first = omega arith in
        let there : row_writes o content s (0 + first) rows ≡ row_writes o content s first rows = ap (λ (n : ℕ). row_writes o content s n rows) e in
        omega (arith, counted, above, here, there)

    -- if writing a band fails, a prefix of the text was written
    pub prefix_written : (old mid new : Option (List ℕ)) → first + rows ≤ s.height → HasWrittenRows o records s start first old mid → AppendsPrefix mid new (raster after.colours) → HasWrittenPrefix o records s start old new
    prefix_written old mid new within so_far prefix content h =
        let text = header s.width s.height in
        let upper = text ++ raster (rows_played o content s start 0 first).colours in
        let rest : ℕ = s.height - (first + rows) in
        let lower = raster (rows_played o content s start (first + rows) rest).colours in
        let all : (first + rows) + rest ≡ s.height = omega (arith, within) in
        let samples : raster (rows_played o content s start 0 s.height).colours ≡ raster (rows_played o content s start 0 (first + rows)).colours ++ lower =
        ap (λ (n : ℕ). raster (rows_played o content s start 0 n).colours) (sym all) ∙ raster_laid laws (drawings_of content.steps (start_of o)) s start wide (first + rows) rest in
        let whole : ppm_text (rows_played o content s start 0 s.height) ≡ (upper ++ raster after.colours) ++ lower =
        whole_text content ∙ ap (λ (t : List ℕ). text ++ t) samples ∙ sym (append_assoc text _ lower) ∙ ap (λ (t : List ℕ). t ++ lower) (band_text content h) in
        record {
          sent = upper ++ prefix.sent;
          unsent = prefix.unsent ++ lower;
          prefix = whole ∙ ap (λ (t : List ℕ). (upper ++ t) ++ lower) prefix.prefix ∙ regrouped upper prefix.sent prefix.unsent lower;
          appended = Appends-trans old mid new upper prefix.sent (so_far content h) prefix.appended;
        }
      where
        regrouped : (a b c d : List ℕ) → (a ++ (b ++ c)) ++ d ≡ (a ++ b) ++ (c ++ d)
        regrouped a b c d = ap (λ (t : List ℕ). t ++ d) (sym (append_assoc a b c)) ∙ append_assoc (a ++ b) c d

  -- the same if writing the header fails
  pub prefix_of_header : (old new : Option (List ℕ)) → AppendsPrefix old new (header s.width s.height) → HasWrittenPrefix o records s start old new
  prefix_of_header old new prefix content h =
      let samples = raster (rows_played o content s start 0 s.height).colours in
      record {
        sent = prefix.sent;
        unsent = prefix.unsent ++ samples;
        prefix = whole_text content ∙ ap (λ (t : List ℕ). t ++ samples) prefix.prefix ∙ append_assoc prefix.sent prefix.unsent samples;
        appended = prefix.appended;
      }

-- the machine is ready again for the next band
pub ready_again : (cleared : Cleared) (lines new_lines : ℕ) (m n : MachineState) → GoesOn m n → new_lines ≡ lines → IsReadyToPlay cleared lines m → IsReadyToPlay cleared new_lines n
ready_again cleared lines new_lines m n on same ready =
    let capacity = ready.capacity in
    let depth = capacity.depth in
    let slots = capacity.slots in
    let pieces = capacity.pieces in
    let more_depth = on.depth in
    let more_slots = on.slots in
    let more_pieces = on.pieces in
    record {
      kind = on.kind ∙ ready.kind;
      within = rw on.surface ready.within;
      capacity = record { depth = omega (arith, depth, more_depth); slots = omega (arith, slots, more_slots); pieces = omega (arith, pieces, more_pieces) };
      lines = rw same ready.lines;
    }

pub goes_on_twice : (m between n : MachineState) → GoesOn m between → GoesOn between n → GoesOn m n
goes_on_twice m between n a b =
    let depth = a.depth in
    let slots = a.slots in
    let pieces = a.pieces in
    let more_depth = b.depth in
    let more_slots = b.slots in
    let more_pieces = b.pieces in
    record {
      kind = b.kind ∙ a.kind;
      surface = b.surface ∙ a.surface;
      depth = omega (arith, depth, more_depth);
      slots = omega (arith, slots, more_slots);
      pieces = omega (arith, pieces, more_pieces);
    }
