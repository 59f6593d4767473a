-- What is gathered of an opened file's records is the text of the certificate for it, and that is accepted.
use Rattle.std.proofs.Common.{◌≡◌, ℕ, ◌<◌, ◌≤◌, ◌^◌, suc, Bool, true, false, ◌&&◌, not, ◌==◌, if◌then◌else◌, List, [], ◌∷◌, length, Option, Some, None, Result, Ok, refl, ap, sym, subst, ◌∙◌, arith}
use Rattle.std.specs.Prelude.{IfSome}
use Rattle.std.specs.List.{All, flat_map}
use Rattle.std.specs.Result.{ForOk}
use Rattle.std.proofs.lemmas.Bool.{and_parts}
use Rattle.std.proofs.lemmas.List.{length-map}
use Rattle.std.proofs.lemmas.List.Elements.{All-cons, All-head, All-nil, All-tail}
use Rattle.mapping.specs.BoxLaws.{BoxLaws}
use Rattle.mapping.specs.Limits.{IsSurfaceSide}
use Rattle.mapping.specs.Surface.{Surface}
use Rattle.draw_ops.specs.Content.{Content, StepValue}
use Rattle.draw_ops.specs.RuleSets.{is_print}
use Rattle.draw_ops.specs.declared.fault.Fault.{Fault}
use Rattle.draw_ops.specs.declared.rules.Rules.{Rules}
use Rattle.dc_stack.specs.Drawing.{Drawing, drawing_of, drawing_points}
use Rattle.dc_stack.specs.MachineState.{MachineState}
use Rattle.dc_stack.specs.Next.{next}
use Rattle.dc_stack.specs.State.{State, start_of}
use Rattle.dc_stack.specs.declared.needs.Needs.{Needs}
use Rattle.meta_headers.specs.Headers.{OpenedValue}
use Rattle.meta_headers.specs.Opening.{HasContentOf, surface_for}
use Rattle.object_tables.specs.Table.{index_bound, table_kind_of}
use Rattle.preflight_cert.specs.After.{file_needs, needs_after}
use Rattle.preflight_cert.specs.Answer.{AnswerLaws, AnswersRead, RecordsAnswer, accepted}
use Rattle.preflight_cert.specs.CertificateReading.{CertificateValue, entry_limit, read_certificate, slot_limit}
use Rattle.preflight_cert.specs.CertificateText.{certificate_text, entry_text, text_with}
use Rattle.preflight_cert.specs.DraftOf.{Holds, space_for}
use Rattle.preflight_cert.specs.Drawings.{NumberedDrawing, drawing_then, drawings_of}
use Rattle.preflight_cert.specs.Gathered.{Gathers, least_budget, least_entries, least_entry}
use Rattle.preflight_cert.specs.NeedLaws.{NeedLaws}
use Rattle.preflight_cert.specs.Preparation.{AreLeast, HasBound, IsPrepared, PreparesRecords, have_single_pixels, version_for}
use Rattle.preflight_cert.specs.PreparationLaws.{PreparationLaws}
use Rattle.preflight_cert.specs.Stop.{stop_of}
use Rattle.preflight_cert.specs.TextLaws.{IsCertificate, IsEntry, TextLaws}
use Rattle.preflight_cert.specs.TextParts.{head_value}
use Rattle.preflight_cert.specs.declared.draft.Draft.{Draft}
use Rattle.preflight_cert.specs.declared.certificate_entry.Entry.{Entry}
use Rattle.preflight_cert.specs.declared.version.Version.{Version}
use Rattle.preflight_cert.specs.declared.version.Version.TheVariants.{Mpc1, Mpc2}
use Rattle.preflight_cert.specs.declared.entry_check.Totals.{Totals}
use Rattle.preflight_cert.specs.declared.writing.Head.{Head}
use Rattle.preflight_cert.proofs.DraftLemmas.{one_is, short_text, small_space}
use Rattle.preflight_cert.proofs.BoundingBoxLemmas.{is_least}
use Rattle.preflight_cert.proofs.StartLemmas.{IsAtStart}

abbrev read_so : CertificateValue → Result CertificateValue Fault
read_so c = Ok c

same_value : (one other : CertificateValue) → read_so one ≡ read_so other → one ≡ other
same_value one other e = cc

-- what a certificate says in front of its entries
abbrev a_head : ℕ → ℕ → ℕ → Needs → Head
a_head width height writes needs = record { max_width = width; max_height = height; writes = writes; needs = needs }

-- the certificate that is gathered
abbrev pub least_certificate : Content → OpenedValue → ℕ → ℕ → CertificateValue
least_certificate content o width height = record {
  version = version_for o.rules (least_entries (drawings_of content.steps (start_of o)) (surface_for o width height));
  max_width = width;
  max_height = height;
  writes = least_budget (drawings_of content.steps (start_of o)) (surface_for o width height);
  needs = file_needs content o;
  entries = least_entries (drawings_of content.steps (start_of o)) (surface_for o width height);
}

are_least : BoxLaws → (s : Surface) (drawings : List NumberedDrawing) → AreLeast drawings (least_entries drawings s) s
are_least laws s [] = tt
are_least laws s (one ∷ later) = (record { number = refl; box = is_least laws (drawing_points one.drawing); nib = refl }, are_least laws s later)

pub is_prepared : BoxLaws → (content : Content) (o : OpenedValue) (width height : ℕ) → IsPrepared (least_certificate content o width height) o content width height
is_prepared laws content o width height = record {
  wide = refl;
  high = refl;
  version = refl;
  entries = are_least laws (surface_for o width height) (drawings_of content.steps (start_of o));
  writes = refl;
  needs = refl;
}

pub few_entries : (n : ℕ) → n ≤ 2 ^ 20 → n ≤ entry_limit
unfolding entry_limit
few_entries n h = omega (arith, h)

-- entries fit the version that is chosen for them
thinned : (entries : List Entry) → have_single_pixels entries ≡ true → All (IsEntry Mpc2) entries → All (IsEntry Mpc1) entries
thinned [] t all = All-nil (IsEntry Mpc1)
thinned (entry ∷ entries) t all =
    let parts = and_parts (entry.nib.x == 1 && entry.nib.y == 1) (have_single_pixels entries) t in
    let h = All-head (IsEntry Mpc2) entry entries all in
    All-cons (IsEntry Mpc1) entry entries
    (record { number = h.number; left = h.left; top = h.top; right = h.right; bottom = h.bottom; nib = one_is entry.nib parts.0 })
    (thinned entries parts.1 (All-tail (IsEntry Mpc2) entry entries all))

pub by_version : (fine single : Bool) (entries : List Entry) → have_single_pixels entries ≡ single → All (IsEntry Mpc2) entries → All (IsEntry (if not fine && single then Mpc1 else Mpc2)) entries
by_version true single entries t all = all
by_version false true entries t all = thinned entries t all
by_version false false entries t all = all

-- under the print profile it is the later one
pub version_under : (rules : Rules) (entries : List Entry) → is_print rules ≡ true → version_for rules entries ≡ Mpc2
version_under rules entries fine = rw fine refl

-- an index of 16 bits bounds the slots
pub few_slots : (handles : Option ℕ) → IfSome handles (λ n. n < 2 ^ 16) → index_bound (table_kind_of handles) ≤ slot_limit
few_slots None h = omega arith
few_slots (Some n) h = omega (arith, h)

-- the text of what is gathered
abbrev pub gathered_text : Rules → ℕ → ℕ → ℕ → Needs → Version → List Entry → List ℕ
gathered_text rules width height writes needs version entries =
    text_with rules version (head_value (a_head width height writes needs)) (length entries) (flat_map (entry_text version) entries)

-- a record draws once at most
few_then : (number : ℕ) (drawing : Option Drawing) (later : List NumberedDrawing) (n : ℕ) → length later ≤ n → length (drawing_then number drawing later) ≤ suc n
few_then number None later n h = omega (arith, h)
few_then number (Some drawing) later n h = omega (arith, h)

few_drawn : (steps : List StepValue) (state : State) → length (drawings_of steps state) ≤ length steps
few_drawn [] state = omega arith
few_drawn (step ∷ steps) state =
    few_then step.number (drawing_of step.operation state) (drawings_of steps (next step.operation state)) (length steps)
    (few_drawn steps (next step.operation state))

module _ (content : Content) (o : OpenedValue) (records : List ℕ) (width height : ℕ) (m : MachineState) (of_records : HasContentOf o.format records content) (at : IsAtStart o (surface_for o width height) m) where
  abbrev drawings : List NumberedDrawing
  drawings = drawings_of content.steps (start_of o)

  abbrev made : CertificateValue
  made = least_certificate content o width height

  same_stop : stop_of content m.state m.surface ≡ stop_of content (start_of o) (surface_for o width height)
  same_stop = ap (λ (state : State). stop_of content state m.surface) at.state ∙ ap (λ (s : Surface). stop_of content (start_of o) s) at.surface

  module _ (noted : List ℕ) (totals : Totals) (new : MachineState) (before after : Draft) (none : Holds o.rules before []) (h : Gathers content m before noted totals new after) where
    unstopped : stop_of content (start_of o) (surface_for o width height) ≡ None
    unstopped = sym same_stop ∙ h.unstopped

    entries_are : least_entries (drawings_of content.steps m.state) m.surface ≡ made.entries
    entries_are = ap (λ (state : State). least_entries (drawings_of content.steps state) m.surface) at.state ∙ ap (least_entries drawings) at.surface

    pub held : Holds o.rules after made.entries
    held = subst (Holds o.rules after) entries_are (h.entries o.rules [] none)

    count_is : length made.entries ≤ totals.records
    count_is =
        let few = few_drawn content.steps (start_of o) in
        let records = h.records in
        let size = length-map drawings (λ (one : NumberedDrawing). least_entry one (surface_for o width height)) in omega (arith, few, records, size)

    -- its bytes are not too many
    pub capacity : space_for o.rules ≤ length after.text.items
    capacity = held.standing.capacity

    pub short : totals.records ≤ 2 ^ 20 → length after.text.items < 2 ^ 32
    short few = let count = count_is in short_text (space_for o.rules) after.version after.text.items made.entries (small_space o.rules) held.standing (omega (arith, count, few))

    budget_is : totals.writes ≡ made.writes
    budget_is = h.is_budget ∙ ap (λ (state : State). least_budget (drawings_of content.steps state) m.surface) at.state ∙ ap (λ (s : Surface). least_budget drawings s) at.surface

    needs_are : new.needs ≡ made.needs
    needs_are = h.needs ∙ ap (λ (state : State). needs_after content.steps state m.needs) at.state ∙ ap (λ (needs : Needs). needs_after content.steps (start_of o) needs) at.needs

    pub text_is : (text : List ℕ) → text ≡ gathered_text o.rules width height totals.writes new.needs after.version made.entries → text ≡ certificate_text o.rules made
    text_is text written = written ∙ rw (held.version, budget_is, needs_are) refl

    pub records_prepared : (text : List ℕ) → text ≡ gathered_text o.rules width height totals.writes new.needs after.version made.entries → BoxLaws → PreparesRecords o records width height text
    records_prepared text written laws = record {
      content = content;
      of_records = of_records;
      unstopped = unstopped;
      certificate = made;
      is_prepared = is_prepared laws content o width height;
      is_text = text_is text written;
    }

    is_certificate : NeedLaws → IsSurfaceSide width → IsSurfaceSide height → IfSome o.handles (λ n. n < 2 ^ 16) → totals.writes < 2 ^ 64 → totals.records ≤ 2 ^ 20 → IsCertificate made
    is_certificate laws wide high handles fits few =
        let within = laws.limited content o (surface_for o width height) unstopped in
        let slots = few_slots o.handles handles in
        let same = budget_is in
        let depth = within.depth in let most_slots = within.slots in let edges = within.edges in let pieces = within.pieces in
        let size = count_is in
        let fit : All (IsEntry Mpc2) made.entries = subst (λ (s : Surface). All (IsEntry Mpc2) (least_entries drawings s)) at.surface
        (subst (λ (state : State). All (IsEntry Mpc2) (least_entries (drawings_of content.steps state) m.surface)) at.state h.fit) in
        record {
          wide = wide;
          high = high;
          writes = omega (arith, same, fits);
          depth = depth;
          slots = omega (arith, slots, most_slots);
          edges = edges;
          pieces = pieces;
          few = few_entries (length made.entries) (omega (arith, size, few));
          entries = by_version (is_print o.rules) (have_single_pixels made.entries) made.entries refl fit;
        }

    -- so it is read as it was
    pub text_back : (text : List ℕ) → text ≡ gathered_text o.rules width height totals.writes new.needs after.version made.entries → NeedLaws → TextLaws → IsSurfaceSide width → IsSurfaceSide height → IfSome o.handles (λ n. n < 2 ^ 16) → totals.writes < 2 ^ 64
        → totals.records ≤ 2 ^ 20 → read_certificate text ≡ Ok made
    text_back text written needs texts wide high handles fits few =
        ap read_certificate (text_is text written)
        ∙ texts.reads_back o.rules made (record { within = is_certificate needs wide high handles fits few; version = version_under o.rules made.entries })

    pub bound_back : (text : List ℕ) → read_certificate text ≡ Ok made → ForOk (read_certificate text) (HasBound width height)
    bound_back text back c read =
        let same = same_value made c (sym back ∙ read) in
        record { wide = ap (λ (v : CertificateValue). v.max_width) (sym same); high = ap (λ (v : CertificateValue). v.max_height) (sym same) }

    -- and accepted
    pub records_read : (text : List ℕ) → text ≡ gathered_text o.rules width height totals.writes new.needs after.version made.entries → BoxLaws → NeedLaws → PreparationLaws → TextLaws → AnswerLaws → IsSurfaceSide width → IsSurfaceSide height → IfSome o.handles (λ n. n < 2 ^ 16) → totals.writes < 2 ^ 64
        → totals.records ≤ 2 ^ 20 → AnswersRead (read_certificate text) o records accepted
    records_read text written boxes needs preparation texts answers wide high handles fits few =
        let back = text_back text written needs texts wide high handles fits few in
        let fitting = preparation.fits made o content width height (is_prepared boxes content o width height) unstopped in
        let answer : RecordsAnswer o records made accepted = record { content = content; of_records = of_records; answers = (answers.fits content o made).1 fitting } in
        rw back answer
