-- There is one answer, it is 'accepted' where the certificate fits, and what is accepted is sound.
use Rattle.std.proofs.Common.{◌≡◌, ℕ, ◌≤◌, Bool, true, false, ◌&&◌, ◌==◌, cond, List, [], ◌∷◌, length, Option, Some, None, Result, Ok, Err, refl, ap, sym, ◌∙◌, arith}
use Rattle.std.specs.Prelude.{nat_le}
use Rattle.std.specs.Option.{option_or}
use Rattle.std.proofs.lemmas.Bool.{and_from, and_parts, eq-eqb, eqb-true, le-leb, leb-true}
use Rattle.mapping.specs.Image.{Image}
use Rattle.mapping.specs.Nibs.{CoversNib}
use Rattle.mapping.specs.PlacingLaws.{IsNoLarger, ShowsFrame}
use Rattle.mapping.specs.Surface.{Surface}
use Rattle.mapping.specs.declared.nib.Nib.{Nib}
use Rattle.draw_ops.specs.Content.{Content, StepValue}
use Rattle.draw_ops.specs.ExactlyOne.{ExactlyOne}
use Rattle.draw_ops.specs.RecordContent.{ContentIsOne}
use Rattle.draw_ops.specs.declared.fault.Fault.{Fault}
use Rattle.draw_ops.specs.declared.fault.Fault.TheVariants.{BudgetTooSmall, NeedTooSmall}
use Rattle.draw_ops.specs.declared.record_fault.RecordFault.TheVariants.{BoxTooSmall, NibTooSmall, WrongEntry}
use Rattle.draw_ops.specs.declared.rules.Rules.{Rules}
use Rattle.meta_headers.specs.File.{FileIsOne, IsFile}
use Rattle.meta_headers.specs.Headers.{OpenedValue}
use Rattle.meta_headers.specs.Opening.{framing_of, meaning_of, record_bytes, surface_for}
use Rattle.meta_headers.specs.OpeningRules.{opened_by}
use Rattle.dc_stack.specs.Drawing.{Drawing, drawing_nib, drawing_of, drawing_points}
use Rattle.dc_stack.specs.Next.{next}
use Rattle.dc_stack.specs.OperationFault.{fault_of}
use Rattle.dc_stack.specs.State.{State, start_of}
use Rattle.dc_stack.specs.declared.needs.Needs.{Needs}
use Rattle.preflight_cert.specs.After.{file_needs}
use Rattle.preflight_cert.specs.Answer.{Answer, AnswerLaws, AnswersOpened, AnswersRead, Fits, RecordsAnswer, Sound, accepted, answer_from, answer_to, are_within, bound_of, file_budget, rejects}
use Rattle.preflight_cert.specs.Apply.{image_after}
use Rattle.preflight_cert.specs.CertificateReading.{CertificateValue, read_certificate, rules_in}
use Rattle.preflight_cert.specs.Checked.{checked, left_over}
use Rattle.preflight_cert.specs.Drawings.{NumberedDrawing, drawing_then, drawings_of}
use Rattle.meta_headers.specs.OpeningLaws.{OpeningLaws}
use Rattle.preflight_cert.specs.Entries.{AreCovered, Covers, covers, covers_nib, entries_after, entry_fault, extent_fault}
use Rattle.preflight_cert.specs.NeedLaws.{AreWithin}
use Rattle.preflight_cert.specs.Run.{Rejected, ShowsImage, StopsInRecord, RunWrites}
use Rattle.preflight_cert.specs.SizeLaws.{SizeLaws}
use Rattle.preflight_cert.specs.Stop.{Stop, end_of, stop_at, stop_of, stopped}
use Rattle.preflight_cert.specs.Writes.{writes_after}
use Rattle.preflight_cert.specs.declared.certificate_entry.Entry.{Entry}
use Rattle.preflight_cert.proofs.CoverLemmas.{points_in, points_of}
use Rattle.preflight_cert.proofs.RunLemmas.{opens_or_not}
use Rattle.preflight_cert.proofs.StopLemmas.{none_first, none_here, none_later, none_second}

-- behind the last step
none_at_end : (after : Option Stop) (count : ℕ) (entries : List Entry) → option_or after (left_over count entries) ≡ None → after ≡ None
none_at_end None count entries h = refl
none_at_end (Some stop) count entries h = absurd (cc)

-- an entry that is in order covers its drawing, and the other way round
module _ (s : Surface) where
  covered_end : (after : Option Stop) (count : ℕ) (entries : List Entry) → option_or after (left_over count entries) ≡ None → AreCovered [] entries s
  covered_end None count [] h = tt
  covered_end None count (entry ∷ entries) h = absurd (cc)
  covered_end (Some stop) count entries h = absurd (cc)

  widened : (nib other : Nib) → covers_nib nib other ≡ true → CoversNib nib other
  widened nib other t =
      let parts = and_parts (nat_le other.x nib.x) (nat_le other.y nib.y) t in record { x = leb-true _ _ parts.0; y = leb-true _ _ parts.1 }

  widens : (nib other : Nib) → CoversNib nib other → covers_nib nib other ≡ true
  widens nib other h = and_from (nat_le other.x nib.x) (nat_le other.y nib.y) (le-leb _ _ h.x) (le-leb _ _ h.y)

  boxed : (drawing : Drawing) (entry : Entry) (has_points has_nib : Bool) → covers entry.bounds (drawing_points drawing) ≡ has_points
      → covers_nib entry.nib (drawing_nib drawing s) ≡ has_nib → (number : ℕ) → entry.number ≡ number
      → cond has_points (cond has_nib None (Some NibTooSmall)) (Some BoxTooSmall) ≡ None → Covers entry (record { number = number; drawing = drawing }) s
  boxed drawing entry true true t u number same h =
      record { number = same; box = points_in entry.bounds (drawing_points drawing) t; nib = widened entry.nib (drawing_nib drawing s) u }
  boxed drawing entry true false t u number same h = absurd (cc)
  boxed drawing entry false has_nib t u number same h = absurd (cc)

  numbered : (number : ℕ) (drawing : Drawing) (entry : Entry) (test : Bool) → (entry.number == number) ≡ test
      → cond test (extent_fault entry drawing s) (Some WrongEntry) ≡ None
      → Covers entry (record { number = number; drawing = drawing }) s
  numbered number drawing entry true t h =
      boxed drawing entry (covers entry.bounds (drawing_points drawing)) (covers_nib entry.nib (drawing_nib drawing s)) refl refl number (eqb-true _ _ t) h
  numbered number drawing entry false t h = absurd (cc)

  covered_then : (number : ℕ) (drawing : Option Drawing) (later : List NumberedDrawing) (entries : List Entry) → entry_fault number drawing entries s ≡ None
      → AreCovered later (entries_after drawing entries) s → AreCovered (drawing_then number drawing later) entries s
  covered_then number None later entries h rest = rest
  covered_then number (Some drawing) later [] h rest = absurd (cc)
  covered_then number (Some drawing) later (entry ∷ entries) h rest = (numbered number drawing entry (entry.number == number) refl h, rest)

  faultless : (number : ℕ) (drawing : Option Drawing) (later : List NumberedDrawing) (entries : List Entry) → AreCovered (drawing_then number drawing later) entries s → entry_fault number drawing entries s ≡ None
  faultless number None later entries h = refl
  faultless number (Some drawing) later [] h = absurd h
  faultless number (Some drawing) later (entry ∷ entries) h =
      let right = eq-eqb _ _ h.0.number in
      let has_points = points_of entry.bounds (drawing_points drawing) h.0.box in
      let has_nib = widens entry.nib (drawing_nib drawing s) h.0.nib in rw (right, has_points, has_nib) refl

  covered_after : (number : ℕ) (drawing : Option Drawing) (later : List NumberedDrawing) (entries : List Entry) → AreCovered (drawing_then number drawing later) entries s → AreCovered later (entries_after drawing entries) s
  covered_after number None later entries h = h
  covered_after number (Some drawing) later [] h = absurd h
  covered_after number (Some drawing) later (entry ∷ entries) h = h.1

module _ (s : Surface) (after : Option Stop) (count : ℕ) where
  unstopped_of : (steps : List StepValue) (state : State) (entries : List Entry) → checked steps after count state s entries ≡ None → stopped steps after state s ≡ None
  unstopped_of [] state entries h = none_at_end after count entries h
  unstopped_of (step ∷ steps) state entries h =
      let here : fault_of step.operation state s ≡ None = none_first (fault_of step.operation state s) (entry_fault step.number (drawing_of step.operation state) entries s) (none_here _ _ _ h) in
      let rest = unstopped_of steps (next step.operation state) (entries_after (drawing_of step.operation state) entries) (none_later _ _ _ h) in
      rw (here, rest) refl

  covered_of : (steps : List StepValue) (state : State) (entries : List Entry) → checked steps after count state s entries ≡ None → AreCovered (drawings_of steps state) entries s
  covered_of [] state entries h = covered_end s after count entries h
  covered_of (step ∷ steps) state entries h =
      let fits = none_second (fault_of step.operation state s) (entry_fault step.number (drawing_of step.operation state) entries s) (none_here _ _ _ h) in
      covered_then s step.number (drawing_of step.operation state) (drawings_of steps (next step.operation state)) entries fits
      (covered_of steps (next step.operation state) (entries_after (drawing_of step.operation state) entries) (none_later _ _ _ h))

  checked_at_end : (entries : List Entry) → after ≡ None → AreCovered [] entries s → option_or after (left_over count entries) ≡ None
  checked_at_end [] h covered = rw h refl
  checked_at_end (entry ∷ entries) h covered = absurd covered

  checked_from : (steps : List StepValue) (state : State) (entries : List Entry) → stopped steps after state s ≡ None → AreCovered (drawings_of steps state) entries s → checked steps after count state s entries ≡ None
  checked_from [] state entries h covered = checked_at_end entries h covered
  checked_from (step ∷ steps) state entries h covered =
      let here : fault_of step.operation state s ≡ None = none_here step.number (fault_of step.operation state s) _ h in
      let fits = faultless s step.number (drawing_of step.operation state) (drawings_of steps (next step.operation state)) entries covered in
      let after_it = covered_after s step.number (drawing_of step.operation state) (drawings_of steps (next step.operation state)) entries covered in
      let rest = checked_from steps (next step.operation state) (entries_after (drawing_of step.operation state) entries) (none_later _ _ _ h) after_it in
      rw (here, fits, rest) refl

-- needs within others, as a test and as a fact
within_of : (needs others : Needs) → are_within needs others ≡ true → AreWithin needs others
within_of needs others t =
    let a = and_parts (nat_le needs.depth others.depth && nat_le needs.slots others.slots && nat_le needs.edges others.edges) (nat_le needs.pieces others.pieces) t in
    let b = and_parts (nat_le needs.depth others.depth && nat_le needs.slots others.slots) (nat_le needs.edges others.edges) a.0 in
    let c = and_parts (nat_le needs.depth others.depth) (nat_le needs.slots others.slots) b.0 in
    record { depth = leb-true _ _ c.0; slots = leb-true _ _ c.1; edges = leb-true _ _ b.1; pieces = leb-true _ _ a.1 }

within_from : (needs others : Needs) → AreWithin needs others → are_within needs others ≡ true
within_from needs others h =
    and_from (nat_le needs.depth others.depth && nat_le needs.slots others.slots && nat_le needs.edges others.edges) (nat_le needs.pieces others.pieces)
    (and_from (nat_le needs.depth others.depth && nat_le needs.slots others.slots) (nat_le needs.edges others.edges)
    (and_from (nat_le needs.depth others.depth) (nat_le needs.slots others.slots) (le-leb _ _ h.depth) (le-leb _ _ h.slots)) (le-leb _ _ h.edges)) (le-leb _ _ h.pieces)

both_none : (stop : Option Stop) (total : Option Fault) → accepted ≡ answer_from stop total → (stop ≡ None) × (total ≡ None)
both_none None None h = (refl, refl)
both_none None (Some fault) h = absurd (cc)
both_none (Some stop) total h = absurd (cc)

both_true : (within few : Bool) → cond within (cond few None (Some BudgetTooSmall)) (Some NeedTooSmall) ≡ None → (within ≡ true) × (few ≡ true)
both_true true true h = (refl, refl)
both_true true false h = absurd (cc)
both_true false few h = absurd (cc)

pub fits_of : (content : Content) (o : OpenedValue) (c : CertificateValue) → accepted ≡ answer_to content o c → Fits c o content
fits_of content o c h =
    let none = both_none _ _ h in
    let pair = both_true (are_within (file_needs content o) c.needs) (nat_le (file_budget content o c) c.writes) none.1 in
    record {
      unstopped = unstopped_of (bound_of o c) (end_of content (start_of o)) (length content.steps) content.steps (start_of o) c.entries none.0;
      covered = covered_of (bound_of o c) (end_of content (start_of o)) (length content.steps) content.steps (start_of o) c.entries none.0;
      needs = within_of (file_needs content o) c.needs pair.0;
      budget = leb-true _ _ pair.1;
    }

accepted_of : (content : Content) (o : OpenedValue) (c : CertificateValue) → Fits c o content → accepted ≡ answer_to content o c
accepted_of content o c fits =
    let order = checked_from (bound_of o c) (end_of content (start_of o)) (length content.steps) content.steps (start_of o) c.entries fits.unstopped fits.covered in
    let within = within_from (file_needs content o) c.needs fits.needs in
    let few = le-leb _ _ fits.budget in
    rw (order, within, few) refl

one_of : (answer : Answer) → ExactlyOne (λ (other : Answer). other ≡ answer)
one_of answer = record { value = answer; holds = refl; only = λ other h. h }

one_read : ContentIsOne → (read : Result CertificateValue Fault) (o : OpenedValue) (file : List ℕ) → ExactlyOne (AnswersRead read o (record_bytes o.format file))
one_read one (Err fault) o file = one_of (rejects None fault)
one_read one (Ok c) o file =
    let content = one (framing_of o.format) (meaning_of o.format) (record_bytes o.format file) in
    record {
      value = answer_to content.value o c;
      holds = record { content = content.value; of_records = content.holds; answers = refl };
      only = λ other h. h.answers ∙ ap (λ (k : Content). answer_to k o c) (content.only h.content h.of_records);
    }

one_opened : ContentIsOne → (o : Result OpenedValue Fault) (file certificate : List ℕ) → ExactlyOne (AnswersOpened o file certificate)
one_opened one (Err fault) file certificate = one_of (rejects None fault)
one_opened one (Ok o) file certificate = one_read one (read_certificate certificate) o file

some_none : (stop : Option Stop) (at : Stop) → stop ≡ Some at → stop ≡ None → ⊥
some_none stop at h k = cc

no_larger : (o : OpenedValue) (c : CertificateValue) (width height : ℕ) → width ≤ c.max_width → height ≤ c.max_height → IsNoLarger (surface_for o width height) (bound_of o c)
no_larger o c width height w h = record { width = w; height = h; frame_width = refl; frame_height = refl }

module _ (one : FileIsOne) (laws : SizeLaws) (rules : Rules) (file : List ℕ) (o : OpenedValue) (opens : opened_by rules file ≡ Ok o) (c : CertificateValue) (frame : ShowsFrame (bound_of o c)) (answer : RecordsAnswer o (record_bytes o.format file) c accepted) where
  abbrev fits : Fits c o answer.content
  fits = fits_of answer.content o c answer.answers

  of_file : IsFile rules file o answer.content
  of_file = record { opens = opens; records = answer.of_records }

  same : (headers : OpenedValue) (content : Content) → IsFile rules file headers content → ◌≡◌ {A = OpenedValue × Content} (headers, content) (o, answer.content)
  same headers content h = let the_one = one rules file o opens in the_one.only (headers, content) h ∙ sym (the_one.only (o, answer.content) of_file)

  unstopped : (width height : ℕ) → width ≤ c.max_width → height ≤ c.max_height → stop_of answer.content (start_of o) (surface_for o width height) ≡ None
  unstopped width height w h = laws.unstopped answer.content (start_of o) (surface_for o width height) (bound_of o c) frame (no_larger o c width height w h) fits.unstopped

  shows_image : (width height : ℕ) (image : Image) → width ≤ c.max_width → height ≤ c.max_height
      → ShowsImage rules file width height image (image_after (drawings_of answer.content.steps (start_of o)) (surface_for o width height) image)
  shows_image width height image w h = record { headers = o; content = answer.content; of_file = of_file; unstopped = unstopped width height w h; shows = refl }

  never_stops : (width height number : ℕ) (fault : Fault) → width ≤ c.max_width → height ≤ c.max_height → StopsInRecord rules file width height number fault → ⊥
  never_stops width height number fault w h k =
      let e = ap (λ (it : OpenedValue × Content). stop_of it.1 (start_of it.0) (surface_for it.0 width height)) (same k.headers k.content k.of_file) in
      let none = unstopped width height w h in
      let some = k.stops in some_none _ (stop_at number k.here) some (e ∙ none)

  never_rejected : (width height : ℕ) (number : Option ℕ) (fault : Fault) → width ≤ c.max_width → height ≤ c.max_height → Rejected rules file width height number fault → ⊥
  never_rejected width height None fault w h k = opens_or_not (opened_by rules file) o fault opens k
  never_rejected width height (Some number) fault w h k = never_stops width height number fault w h k

  few_written : (width height writes : ℕ) → width ≤ c.max_width → height ≤ c.max_height → RunWrites rules file width height writes → writes ≤ c.writes
  few_written width height writes w h k =
      let e = ap (λ (it : OpenedValue × Content). writes_after (drawings_of it.1.steps (start_of it.0)) (surface_for it.0 width height)) (same k.headers k.content k.of_file) in
      let few = laws.few (drawings_of answer.content.steps (start_of o)) c.entries (surface_for o width height) (bound_of o c) frame (no_larger o c width height w h) fits.covered in
      let budget = fits.budget in
      let count = k.count in omega (arith, e, few, budget, count)

-- the same at the definitions
from_answer : (o : Result OpenedValue Fault) (v : OpenedValue) (c : CertificateValue) (file bytes : List ℕ) (answer : Answer) → o ≡ Ok v → read_certificate bytes ≡ Ok c → AnswersOpened o file bytes answer → RecordsAnswer v (record_bytes v.format file) c answer
from_answer o v c file bytes answer e f h = let k : AnswersRead (read_certificate bytes) v (record_bytes v.format file) answer = rw e at h in rw f at k

pub sound_of :
    FileIsOne → OpeningLaws → SizeLaws → (rules : Rules) (file : List ℕ) (o : OpenedValue) (c : CertificateValue) → opened_by rules file ≡ Ok o
    → RecordsAnswer o (record_bytes o.format file) c accepted → Sound rules file c.max_width c.max_height c.writes
sound_of one opening laws rules file o c e answer =
    let frame = opening.frame rules file o c.max_width c.max_height e in
    record {
      shows = λ width height image w k. record { after = _; ends = shows_image one laws rules file o e c frame answer width height image w k };
      faultless = λ width height image number fault w k r. never_rejected one laws rules file o e c frame answer width height number fault w k r;
      few = λ width height writes w k r. few_written one laws rules file o e c frame answer width height writes w k r;
    }

pub answer_laws : ContentIsOne → FileIsOne → OpeningLaws → SizeLaws → AnswerLaws
answer_laws one of_file opening laws = record {
  one = λ file certificate. one_opened one (opened_by (rules_in certificate) file) file certificate;
  fits = λ content o c. (fits_of content o c, accepted_of content o c);
  sound = λ file bytes o c e f h. sound_of of_file opening laws (rules_in bytes) file o c e (from_answer (opened_by (rules_in bytes) file) o c file bytes accepted e f h);
}
