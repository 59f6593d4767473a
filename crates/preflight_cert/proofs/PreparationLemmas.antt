-- What is prepared is accepted, and it is the least that is.
use Rattle.std.proofs.Common.{◌≡◌, ℕ, ◌≤◌, List, [], ◌∷◌, None, Ok, refl, ap, sym, subst, ◌∙◌, arith}
use Rattle.mapping.specs.CellLaws.{CellLaws, WideCellLaws}
use Rattle.mapping.specs.Nibs.{CoversNib}
use Rattle.mapping.specs.declared.nib.Nib.{Nib}
use Rattle.mapping.specs.PlacingLaws.{ShowsFrame}
use Rattle.mapping.specs.Surface.{Surface}
use Rattle.mapping.specs.declared.geometry.Rect.{Rect}
use Rattle.draw_ops.specs.Content.{Content}
use Rattle.draw_ops.specs.declared.rules.Rules.{Rules}
use Rattle.dc_stack.specs.Drawing.{drawing_nib, drawing_points}
use Rattle.dc_stack.specs.State.{start_of}
use Rattle.dc_stack.specs.declared.needs.Needs.{Needs}
use Rattle.meta_headers.specs.Headers.{OpenedValue}
use Rattle.meta_headers.specs.Opening.{surface_for}
use Rattle.preflight_cert.specs.After.{file_needs}
use Rattle.preflight_cert.specs.Answer.{Fits, bound_of, file_budget}
use Rattle.preflight_cert.specs.CertificateReading.{CertificateValue}
use Rattle.preflight_cert.specs.Drawings.{NumberedDrawing, drawings_of}
use Rattle.preflight_cert.specs.Entries.{AreCovered, budget_of}
use Rattle.meta_headers.specs.OpeningLaws.{OpeningLaws}
use Rattle.meta_headers.specs.OpeningRules.{opened_by}
use Rattle.preflight_cert.specs.Layer.{layers_of}
use Rattle.preflight_cert.specs.NeedLaws.{AreWithin}
use Rattle.preflight_cert.specs.Preparation.{AreLeast, IsPrepared, version_for}
use Rattle.preflight_cert.specs.PreparationLaws.{AreHeldBy, IsNoMore, PreparationLaws}
use Rattle.preflight_cert.specs.Stop.{stop_of}
use Rattle.preflight_cert.specs.declared.certificate_entry.Entry.{Entry}
use Rattle.preflight_cert.specs.declared.version.Version.{Version}
use Rattle.preflight_cert.proofs.BudgetLemmas.{layers_grow}
use Rattle.preflight_cert.proofs.BoundingBoxLemmas.{held, least_has, one_least}
use Rattle.preflight_cert.proofs.NeedLemmas.{within_same}

abbrev an_entry : ℕ → Rect → Nib → Entry
an_entry number bounds nib = record { number = number; bounds = bounds; nib = nib }

same_entry : (m n : ℕ) (a b : Rect) (x y : Nib) → m ≡ n → a ≡ b → x ≡ y → an_entry m a x ≡ an_entry n b y
same_entry m n a b x y e f g = rw (e, f, g) refl

same_list : {x y : Entry} {xs ys : List Entry} → x ≡ y → xs ≡ ys → (x ∷ xs) ≡ (y ∷ ys)
same_list e f = cc

module _ (s : Surface) where
  same_nib : (nib other : Nib) → nib ≡ other → CoversNib nib other
  same_nib nib other e = rw e (record { x = omega arith; y = omega arith })

  -- entries with least boxes and the drawings' nibs cover their drawings
  covering : (drawings : List NumberedDrawing) (entries : List Entry) → AreLeast drawings entries s → AreCovered drawings entries s
  covering [] [] least = tt
  covering [] (entry ∷ entries) least = absurd least
  covering (one ∷ later) [] least = absurd least
  covering (one ∷ later) (entry ∷ entries) least = (
    record {
      number = least.0.number;
      box = least_has entry.bounds (drawing_points one.drawing) least.0.box;
      nib = same_nib entry.nib (drawing_nib one.drawing s) least.0.nib;
    },
    covering later entries least.1,
  )

  one_list : (drawings : List NumberedDrawing) (entries others : List Entry) → AreLeast drawings entries s → AreLeast drawings others s → entries ≡ others
  one_list [] [] [] least other = refl
  one_list [] [] (entry ∷ entries) least other = absurd other
  one_list [] (entry ∷ entries) others least other = absurd least
  one_list (one ∷ later) [] others least other = absurd least
  one_list (one ∷ later) (entry ∷ entries) [] least other = absurd other
  one_list (one ∷ later) (entry ∷ entries) (second ∷ others) least other =
      same_list
      (same_entry entry.number second.number entry.bounds second.bounds entry.nib second.nib (least.0.number ∙ sym other.0.number) (one_least entry.bounds second.bounds (drawing_points one.drawing) least.0.box other.0.box) (least.0.nib ∙ sym other.0.nib))
      (one_list later entries others least.1 other.1)

  are_held : (drawings : List NumberedDrawing) (entries others : List Entry) → AreLeast drawings entries s → AreCovered drawings others s → AreHeldBy entries others
  are_held [] [] [] least covered = tt
  are_held [] [] (entry ∷ entries) least covered = absurd covered
  are_held [] (entry ∷ entries) others least covered = absurd least
  are_held (one ∷ later) [] others least covered = absurd least
  are_held (one ∷ later) (entry ∷ entries) [] least covered = absurd covered
  are_held (one ∷ later) (entry ∷ entries) (second ∷ others) least covered = (
    record {
      number = least.0.number ∙ sym covered.0.number;
      box = held second.bounds entry.bounds (drawing_points one.drawing) least.0.box covered.0.box;
      nib = subst (CoversNib second.nib) (sym least.0.nib) covered.0.nib;
    },
    are_held later entries others least.1 covered.1,
  )

  module _ (laws : CellLaws) (wide_laws : WideCellLaws) (frame : ShowsFrame s) where
    budget_grows : (drawings : List NumberedDrawing) (entries others : List Entry) → AreLeast drawings entries s → AreCovered drawings others s → budget_of drawings entries s ≤ budget_of drawings others s
    budget_grows [] entries others least covered = omega arith
    budget_grows (one ∷ later) [] others least covered = omega arith
    budget_grows (one ∷ later) (entry ∷ entries) [] least covered = absurd covered
    budget_grows (one ∷ later) (entry ∷ entries) (second ∷ others) least covered =
        let covers = subst (CoversNib second.nib) (sym least.0.nib) covered.0.nib in
        let first = layers_grow laws wide_laws s frame second.bounds entry.bounds second.nib entry.nib covers (layers_of one.drawing) (drawing_points one.drawing) least.0.box covered.0.box in
        let rest = budget_grows later entries others least.1 covered.1 in omega (arith, first, rest)

-- the bound that is asked for
same_bound : (c : CertificateValue) (o : OpenedValue) (width height : ℕ) → c.max_width ≡ width → c.max_height ≡ height → bound_of o c ≡ surface_for o width height
same_bound c o width height e f = ap (λ (w : ℕ). surface_for o w c.max_height) e ∙ ap (λ (h : ℕ). surface_for o width h) f

fits : (c : CertificateValue) (o : OpenedValue) (content : Content) (width height : ℕ) → IsPrepared c o content width height
    → stop_of content (start_of o) (surface_for o width height) ≡ None → Fits c o content
fits c o content width height h unstopped = record {
  unstopped = ap (λ (s : Surface). stop_of content (start_of o) s) (same_bound c o width height h.wide h.high) ∙ unstopped;
  covered = subst (λ (s : Surface). AreCovered (drawings_of content.steps (start_of o)) c.entries s) (sym (same_bound c o width height h.wide h.high))
      (covering (surface_for o width height) (drawings_of content.steps (start_of o)) c.entries h.entries);
  needs = subst (λ (needs : Needs). AreWithin (file_needs content o) needs) (sym h.needs) (within_same (file_needs content o));
  budget = let e = h.writes in omega (arith, e);
}

abbrev a_certificate : Version → ℕ → ℕ → ℕ → Needs → List Entry → CertificateValue
a_certificate version w h writes needs entries = record { version = version; max_width = w; max_height = h; writes = writes; needs = needs; entries = entries }

same_certificate : (u v : Version) (w x h i m n : ℕ) (needs others : Needs) (es fs : List Entry) → u ≡ v → w ≡ x → h ≡ i → m ≡ n → needs ≡ others → es ≡ fs → a_certificate u w h m needs es ≡ a_certificate v x i n others fs
same_certificate u v w x h i m n needs others es fs a b d e f g = rw (a, b, d, e, f, g) refl

module _ (c other : CertificateValue) (o : OpenedValue) (content : Content) (width height : ℕ) (h : IsPrepared c o content width height) (k : IsPrepared other o content width height) where
  abbrev drawings : List NumberedDrawing
  drawings = drawings_of content.steps (start_of o)

  same_entries : c.entries ≡ other.entries
  same_entries = one_list (surface_for o width height) drawings c.entries other.entries h.entries k.entries

  same_writes : c.writes ≡ other.writes
  same_writes =
      h.writes ∙ ap (λ (s : Surface). budget_of drawings c.entries s) (same_bound c o width height h.wide h.high)
      ∙ ap (λ (es : List Entry). budget_of drawings es (surface_for o width height)) same_entries
      ∙ sym (k.writes ∙ ap (λ (s : Surface). budget_of drawings other.entries s) (same_bound other o width height k.wide k.high))

  one : c ≡ other
  one =
      same_certificate c.version other.version c.max_width other.max_width c.max_height other.max_height c.writes other.writes c.needs other.needs c.entries other.entries
      (h.version ∙ ap (version_for o.rules) same_entries ∙ sym k.version) (h.wide ∙ sym k.wide) (h.high ∙ sym k.high) same_writes
      (h.needs ∙ sym k.needs) same_entries

least : CellLaws → WideCellLaws → OpeningLaws → (c other : CertificateValue) (rules : Rules) (file : List ℕ) (o : OpenedValue) (content : Content) → opened_by rules file ≡ Ok o
    → IsPrepared c o content other.max_width other.max_height → Fits other o content → IsNoMore c other
least laws wide_laws opening c other rules file o content opens h fitting =
    let frame = opening.frame rules file o other.max_width other.max_height opens in
    let drawings = drawings_of content.steps (start_of o) in
    let grows = budget_grows (bound_of o other) laws wide_laws frame drawings c.entries other.entries h.entries fitting.covered in
    let same : file_budget content o c ≡ budget_of drawings c.entries (bound_of o other) = ap (λ (s : Surface). budget_of drawings c.entries s) (same_bound c o other.max_width other.max_height h.wide h.high) in
    let is = h.writes in let enough = fitting.budget in
    record {
      entries = are_held (bound_of o other) drawings c.entries other.entries h.entries fitting.covered;
      needs = subst (λ (needs : Needs). AreWithin needs other.needs) (sym h.needs) fitting.needs;
      writes = omega (arith, grows, same, is, enough);
    }

pub preparation_laws : CellLaws → WideCellLaws → OpeningLaws → PreparationLaws
preparation_laws laws wide_laws opening = record { fits = fits; one = one; least = least laws wide_laws opening }
