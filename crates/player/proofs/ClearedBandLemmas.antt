-- The text and the writes of a cleared file's run.
use Rattle.std.proofs.Common.{◌≡◌, ℕ, ◌+◌, ◌≤◌, List, Option, refl, sym, subst, arith}
use Rattle.std.specs.Io.KnownBytes.{Appends}
use Rattle.mapping.specs.Image.{blank}
use Rattle.mapping.specs.PlacingLaws.{IsNoLarger, ShowsFrame}
use Rattle.mapping.specs.Surface.{Surface}
use Rattle.draw_ops.specs.Content.{Content}
use Rattle.draw_ops.specs.ExactlyOne.{ExactlyOne}
use Rattle.draw_ops.specs.RecordContent.{ContentIsOne}
use Rattle.canvas.specs.Ppm.{ppm_text}
use Rattle.meta_headers.specs.File.{IsFile, IsOpenedFrom}
use Rattle.meta_headers.specs.Headers.{OpenedValue}
use Rattle.meta_headers.specs.OpenedOf.{opened_of}
use Rattle.meta_headers.specs.Opening.{HasContentOf, framing_of, meaning_of}
use Rattle.dc_stack.specs.State.{start_of}
use Rattle.preflight_cert.specs.Answer.{AnswerLaws, bound_of}
use Rattle.preflight_cert.specs.CertificateOf.{certificate_of}
use Rattle.preflight_cert.specs.CertificateReading.{CertificateValue}
use Rattle.preflight_cert.specs.RowsLaws.{RowsLaws}
use Rattle.preflight_cert.specs.Run.{Run, shown}
use Rattle.preflight_cert.specs.SizeLaws.{SizeLaws}
use Rattle.preflight_cert.specs.declared.cleared.Cleared.{Cleared}
use Rattle.player.specs.Bands.{HasCountedRows, HasWrittenPrefix, HasWrittenRows, IsClearedText, WritesRun, WritesRunPrefix, plan_surface, rows_played}
use Rattle.player.specs.ClearedPlay.{AreClearedWrites}
use Rattle.player.specs.ReadyBands.{IsReadyForBands}
use Rattle.player.specs.Rows.{CopiesPlayed, CopiesRun}
use Rattle.player.specs.declared.band_plan.BandPlan.{BandPlan}
use Rattle.player.specs.declared.band_scratch.BandScratch.{BandScratch}
use Rattle.player.specs.declared.row_layout.RowLayout.{RowLayout}
use Rattle.player.proofs.BandTextLemmas.{whole_text}
use Rattle.player.proofs.ClearedLemmas.{few_written, fits}

module _ (answers : AnswerLaws) (sizes : SizeLaws) (contents : ContentIsOne) (cleared : Cleared) (plan : BandPlan) (scratch : BandScratch) (ready : IsReadyForBands cleared plan scratch) where
  abbrev o : OpenedValue
  o = opened_of cleared.opened

  abbrev records : List ℕ
  records = cleared.opened.records.now

  abbrev c : CertificateValue
  c = certificate_of cleared.certificate

  abbrev s : Surface
  s = plan_surface cleared plan

  smaller : IsNoLarger s (bound_of o c)
  smaller = subst (λ (t : Surface). IsNoLarger t (bound_of o c)) ready.surface ready.ready.within

  frame : ShowsFrame (bound_of o c)
  frame = record { wide = cleared.opened.fine_frame.wide; high = cleared.opened.fine_frame.high }

  -- the records have one content, and it has no fault on this surface
  one : ExactlyOne (HasContentOf o.format records)
  one = contents (framing_of o.format) (meaning_of o.format) records

  abbrev content : Content
  content = one.value

  of_file : (file : List ℕ) → IsOpenedFrom file cleared.opened → IsFile cleared.opened.rules file o content
  of_file file from = record { opens = from.opens; records = subst (λ (bytes : List ℕ). HasContentOf o.format bytes content) from.records one.holds }

  shows_rows : (file : List ℕ) → IsOpenedFrom file cleared.opened
      → Run cleared.opened.rules file plan.width plan.height (blank plan.width plan.height plan.start) (shown (rows_played o content s plan.start 0 plan.height))
  shows_rows file from = record {
    headers = o;
    content = content;
    of_file = of_file file from;
    unstopped = sizes.unstopped content (start_of o) s (bound_of o c) frame smaller (fits answers o records c cleared.checked content one.holds).unstopped;
    shows = refl;
  }

  of_run : IsClearedText cleared plan.width plan.height plan.start (ppm_text (rows_played o content s plan.start 0 plan.height))
  of_run file from = record { image = rows_played o content s plan.start 0 plan.height; run = shows_rows file from; is_text = refl }

  pub run_written : RowsLaws → (old new : Option (List ℕ)) → HasWrittenRows o records s plan.start plan.height old new → WritesRun cleared plan.width plan.height plan.start old new
  run_written laws old new sent = record {
    text = ppm_text (rows_played o content s plan.start 0 plan.height);
    of_run = of_run;
    appended = subst (Appends old new) (sym (whole_text laws o records s plan.start plan.wide content)) (sent content one.holds);
  }

  pub run_prefix : (old new : Option (List ℕ)) → HasWrittenPrefix o records s plan.start old new → WritesRunPrefix cleared plan.width plan.height plan.start old new
  run_prefix old new prefix = record { text = ppm_text (rows_played o content s plan.start 0 plan.height); of_run = of_run; appended = prefix content one.holds }

  pub run_counted : (writes : ℕ) → HasCountedRows o records s plan.height writes → AreClearedWrites cleared plan.width plan.height writes
  run_counted writes counted file from = record {
    headers = o;
    content = content;
    of_file = of_file file from;
    unstopped = sizes.unstopped content (start_of o) s (bound_of o c) frame smaller (fits answers o records c cleared.checked content one.holds).unstopped;
    count = counted content one.holds;
  }

  pub run_few : (writes : ℕ) → HasCountedRows o records s plan.height writes → writes ≤ cleared.certificate.writes
  run_few writes counted =
      let none : writes ≡ 0 + writes = omega arith in
      let count = counted content one.holds in
      few_written answers o records c cleared.checked sizes s frame smaller content one.holds 0 writes writes none (omega (arith, count))

  -- the rows that were copied are those of the image that the file's run makes
  pub run_copied : (layout : RowLayout) (old new : List ℕ) → CopiesPlayed cleared plan layout (layout.first + layout.count) old new → CopiesRun cleared plan layout old new
  run_copied layout old new copied = record {
    image = rows_played o content s plan.start 0 plan.height;
    of_run = shows_rows;
    rows = copied content one.holds;
  }
