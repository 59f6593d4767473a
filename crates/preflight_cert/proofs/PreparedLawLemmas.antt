-- A file that plays has a certificate, which is accepted.
use Rattle.std.proofs.Common.{◌≡◌, ℕ, suc, ◌+◌, ◌<◌, ◌≤◌, ◌^◌, Bool, true, false, List, [], ◌∷◌, length, Option, Some, None, Result, Ok, Err, refl, ap, sym, subst, ◌∙◌, arith}
use Rattle.std.specs.Prelude.{IfSome, IsTrue}
use Rattle.std.specs.List.{All}
use Rattle.std.proofs.lemmas.Bool.{and_parts}
use Rattle.std.proofs.lemmas.Nat.{mul-le}
use Rattle.mapping.specs.BoxLaws.{BoxLaws}
use Rattle.mapping.specs.Image.{Image}
use Rattle.mapping.specs.Limits.{IsSurfaceSide, is_surface_side, surface_side_true}
use Rattle.mapping.specs.Surface.{Surface}
use Rattle.draw_ops.specs.Content.{Content, StepValue}
use Rattle.draw_ops.specs.NumberLaws.{StepsAreNumbered}
use Rattle.draw_ops.specs.Records.{record_limit}
use Rattle.draw_ops.specs.RuleSets.{in_force, is_print}
use Rattle.draw_ops.specs.declared.rules.Rules.{Rules}
use Rattle.draw_ops.specs.declared.fault.Fault.{Fault}
use Rattle.dc_stack.specs.Drawing.{Drawing, drawing_of}
use Rattle.dc_stack.specs.Next.{next}
use Rattle.dc_stack.specs.State.{State, start_of}
use Rattle.meta_headers.specs.Headers.{OpenedValue}
use Rattle.meta_headers.specs.Opening.{HasContentOf, framing_of, meaning_of, record_bytes, surface_for}
use Rattle.meta_headers.specs.OpeningRules.{opened_by}
use Rattle.preflight_cert.specs.Answer.{AnswerLaws, IsAnswer, RecordsAnswer, Shows, accepted}
use Rattle.preflight_cert.specs.CertificateReading.{CertificateValue, read_certificate, rules_in}
use Rattle.preflight_cert.specs.CertificateText.{certificate_text}
use Rattle.preflight_cert.specs.Drawings.{NumberedDrawing, drawing_then, drawings_of}
use Rattle.meta_headers.specs.OpeningLaws.{OpeningLaws}
use Rattle.preflight_cert.specs.Gathered.{least_budget, least_entries}
use Rattle.preflight_cert.specs.NeedLaws.{NeedLaws}
use Rattle.preflight_cert.specs.Preparation.{Prepares, PreparesIfOpened, PreparesRecords, PreparesWithin, have_single_pixels, is_bound}
use Rattle.preflight_cert.specs.PreparationLaws.{PreparationLaws}
use Rattle.preflight_cert.specs.PreparedLaws.{AreCertificate, HasPrepared, PreparedLaws}
use Rattle.preflight_cert.specs.Stop.{end_of, stop_of}
use Rattle.preflight_cert.specs.TextLaws.{AreBytes, IsCertificate, IsCertificateUnder, IsEntry, TextLaws}
use Rattle.preflight_cert.specs.declared.version.Version.TheVariants.{Mpc2}
use Rattle.preflight_cert.proofs.BudgetLimits.{of_drawings}
use Rattle.preflight_cert.proofs.ClearedLemmas.{file_answer}
use Rattle.preflight_cert.proofs.EntryLimits.{entries_fit}
use Rattle.preflight_cert.proofs.PreparedLemmas.{by_version, few_entries, few_slots, is_prepared, least_certificate, version_under}
use Rattle.preflight_cert.proofs.RulesLemmas.{in_force_twice}
use Rattle.preflight_cert.proofs.StepCountLemmas.{few_steps}

-- each step has at most one drawing, and each drawing one entry
one_drawing : (number : ℕ) (drawing : Option Drawing) (later : List NumberedDrawing) (n : ℕ) → length later ≤ n → length (drawing_then number drawing later) ≤ n + 1
one_drawing number None later n h = omega (arith, h)
one_drawing number (Some drawing) later n h = omega (arith, h)

few_drawings : (steps : List StepValue) (state : State) → length (drawings_of steps state) ≤ length steps
few_drawings [] state = omega arith
few_drawings (step ∷ steps) state =
    let rest = few_drawings steps (next step.operation state) in
    let all = one_drawing step.number (drawing_of step.operation state) (drawings_of steps (next step.operation state)) (length steps) rest in omega (arith, all)

one_entry_each : (drawings : List NumberedDrawing) (s : Surface) → length (least_entries drawings s) ≡ length drawings
one_entry_each [] s = refl
one_entry_each (one ∷ later) s = ap suc (one_entry_each later s)

in_limit : (n : ℕ) → n ≤ record_limit → n ≤ 2 ^ 20
unfolding record_limit
in_limit n h = omega (arith, h)

side : (n : ℕ) → IsSurfaceSide n → n ≤ 8192
side n h = let within = h.within in omega (arith, within)

module _ (numbers : StepsAreNumbered) (needs : NeedLaws) (content : Content) (o : OpenedValue) (records : List ℕ) (of_records : HasContentOf o.format records content)
    (width height : ℕ) (wide : IsSurfaceSide width) (high : IsSurfaceSide height) (handles : IfSome o.handles (λ n. n < 2 ^ 16)) (unstopped : stop_of content (start_of o) (surface_for o width height) ≡ None) where
  abbrev s : Surface
  s = surface_for o width height

  abbrev drawings : List NumberedDrawing
  drawings = drawings_of content.steps (start_of o)

  abbrev made : CertificateValue
  made = least_certificate content o width height

  short : length content.steps ≤ 2 ^ 20
  short = in_limit _ (few_steps (framing_of o.format) (meaning_of o.format) records content of_records)

  few : length drawings ≤ 2 ^ 20
  few = let all = short in let each = few_drawings content.steps (start_of o) in omega (arith, all, each)

  writes : least_budget drawings s < 2 ^ 64
  writes =
      let all = of_drawings s (side width wide) (side height high) drawings in
      let product = mul-le (length drawings) 134217728 (2 ^ 20) 134217728 few (omega arith) in omega (arith, all, product)

  fit : All (IsEntry Mpc2) (least_entries drawings s)
  fit = let all = short in
      entries_fit s content.steps (end_of content (start_of o)) (start_of o) 0 unstopped (numbers (framing_of o.format) (meaning_of o.format) records content of_records) (omega (arith, all))

  within : IsCertificate made
  within =
      let most = needs.limited content o s unstopped in
      let slots = few_slots o.handles handles in let asked = most.slots in
      let size = one_entry_each drawings s in let all = few in
      record {
        wide = wide;
        high = high;
        writes = writes;
        depth = most.depth;
        slots = omega (arith, slots, asked);
        edges = most.edges;
        pieces = most.pieces;
        few = few_entries (length made.entries) (omega (arith, size, all));
        entries = by_version (is_print o.rules) (have_single_pixels made.entries) made.entries refl fit;
      }

module _ (boxes : BoxLaws) (numbers : StepsAreNumbered) (opening : OpeningLaws) (needs : NeedLaws) (preparation : PreparationLaws) (texts : TextLaws) (answers : AnswerLaws) where
  module _ (rules : Rules) (file bytes : List ℕ) (width height : ℕ) (wide : IsSurfaceSide width) (high : IsSurfaceSide height) (o : OpenedValue) (opens : opened_by rules file ≡ Ok o) (are : AreBytes file)
      (p : PreparesRecords o (record_bytes o.format file) width height bytes) where
    is_made : least_certificate p.content o width height ≡ p.certificate
    is_made = preparation.one (least_certificate p.content o width height) p.certificate o p.content width height (is_prepared boxes p.content o width height) p.is_prepared

    its_limits : IsCertificate p.certificate
    its_limits = subst IsCertificate is_made (within numbers needs p.content o (record_bytes o.format file) p.of_records width height wide high (opening.handles rules file o are opens) p.unstopped)

    is_under : (rules : Rules) → o.rules ≡ rules → IsCertificateUnder rules p.certificate
    is_under rules e = record { within = its_limits; version = λ fine. p.is_prepared.version ∙ version_under o.rules p.certificate.entries (ap is_print e ∙ fine) }

    its_rules : o.rules ≡ in_force rules
    its_rules = opening.in_force rules file o opens

    is_text : bytes ≡ certificate_text (in_force rules) p.certificate
    is_text = p.is_text ∙ ap (λ (r : Rules). certificate_text r p.certificate) its_rules

    same_rules : rules_in bytes ≡ in_force rules
    same_rules = ap rules_in is_text ∙ texts.rules_back (in_force rules) p.certificate ∙ in_force_twice rules

    opens_again : opened_by (rules_in bytes) file ≡ Ok o
    opens_again = ap (λ (r : Rules). opened_by r file) same_rules ∙ opening.again rules file ∙ opens

    certificate : AreCertificate (in_force rules) bytes
    certificate = record { value = p.certificate; is_certificate = is_under (in_force rules) its_rules; is_text = is_text; same_rules = same_rules }

    answered : IsAnswer file bytes accepted
    answered =
        let back : read_certificate bytes ≡ Ok p.certificate = ap read_certificate p.is_text ∙ texts.reads_back o.rules p.certificate (is_under o.rules refl) in
        let fitting = preparation.fits p.certificate o p.content width height p.is_prepared p.unstopped in
        let answer : RecordsAnswer o (record_bytes o.format file) p.certificate accepted = record { content = p.content; of_records = p.of_records; answers = (answers.fits p.content o p.certificate).1 fitting } in
        file_answer file bytes (record_bytes o.format file) o p.certificate accepted opens_again back refl answer

  by_opened : (rules : Rules) (file bytes : List ℕ) (width height : ℕ) → IsSurfaceSide width → IsSurfaceSide height → AreBytes file → (found : Result OpenedValue Fault) → opened_by rules file ≡ found → PreparesIfOpened found file width height bytes
      → AreCertificate (in_force rules) bytes × IsAnswer file bytes accepted
  by_opened rules file bytes width height wide high are (Err fault) opens p = absurd p
  by_opened rules file bytes width height wide high are (Ok o) opens p = (certificate rules file bytes width height wide high o opens are p, answered rules file bytes width height wide high o opens are p)

  by_bound : (rules : Rules) (file bytes : List ℕ) (width height : ℕ) → AreBytes file → (test : Bool) → is_bound width height ≡ test → PreparesWithin test rules file width height bytes → AreCertificate (in_force rules) bytes × IsAnswer file bytes accepted
  by_bound rules file bytes width height are false e p = absurd p
  by_bound rules file bytes width height are true e p =
      let dimensions = and_parts (is_surface_side width) (is_surface_side height) e in
      by_opened rules file bytes width height (surface_side_true width dimensions.0) (surface_side_true height dimensions.1) are (opened_by rules file) refl p

  exists : (rules : Rules) (file : List ℕ) (width height : ℕ) (image : Image) → IsTrue (is_bound width height) → Shows rules file width height image → HasPrepared rules file width height
  exists rules file width height image bound shows =
      let run = shows.ends in
      let o = run.headers in
      let made = least_certificate run.content o width height in
      let records : PreparesRecords o (record_bytes o.format file) width height (certificate_text o.rules made) =
      record { content = run.content; of_records = run.of_file.records; unstopped = run.unstopped; certificate = made; is_prepared = is_prepared boxes run.content o width height; is_text = refl } in
      let it : Prepares rules file width height (certificate_text o.rules made) = rw (bound, run.of_file.opens) records in
      record { bytes = certificate_text o.rules made; prepared = it }

  pub prepared_laws : PreparedLaws
  prepared_laws = record {
    exists = exists;
    within = λ rules file bytes width height are p. (by_bound rules file bytes width height are (is_bound width height) refl p).0;
    accepts = λ rules file bytes width height are p. (by_bound rules file bytes width height are (is_bound width height) refl p).1;
  }
