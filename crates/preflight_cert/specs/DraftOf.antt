-- A certificate that is being written, and its entries so far.
use Rattle.std.specs.Prelude.{◌≡◌, ◌≤◌, true, ℕ, if◌then◌else◌, List, [], ◌∷◌, ◌++◌, length, drop}
use Rattle.std.specs.List.{flat_map}
use Rattle.draw_ops.specs.RuleSets.{is_print}
use Rattle.draw_ops.specs.declared.rules.Rules.{Rules}
use Rattle.preflight_cert.specs.CertificateReading.{head_size, print_head_size}
use Rattle.preflight_cert.specs.CertificateText.{HeadValue, entry_text, text_with}
use Rattle.preflight_cert.specs.Preparation.{have_single_pixels, version_for}
use Rattle.preflight_cert.specs.declared.draft.Draft.{Draft}
use Rattle.preflight_cert.specs.declared.certificate_entry.Entry.{Entry}
use Rattle.preflight_cert.specs.declared.version.Version.{Version}
use Rattle.preflight_cert.specs.declared.version.Version.TheVariants.{Mpc1, Mpc2}

-- the number of bytes before the entries of a certificate under rules
abbrev pub space_for : Rules → ℕ
space_for rules = if is_print rules then print_head_size else head_size

-- the bytes are entries, encoded for a version, after the space for a head
pub record StandIn (space : ℕ) (version : Version) (bytes : List ℕ) (entries : List Entry) : Type 0 where
  pub capacity : space ≤ length bytes
  pub after : drop space bytes ≡ flat_map (entry_text version) entries

-- a draft under rules has these entries, and the version that they need
pub record Holds (rules : Rules) (draft : Draft) (entries : List Entry) : Type 0 where
  pub version : draft.version ≡ version_for rules entries
  pub standing : StandIn (space_for rules) draft.version draft.text.items entries

-- a draft under rules has these entries, and the version that they and one more need
pub record Awaits (rules : Rules) (draft : Draft) (entries : List Entry) (entry : Entry) : Type 0 where
  pub version : draft.version ≡ version_for rules (entries ++ (entry ∷ []))
  pub standing : StandIn (space_for rules) draft.version draft.text.items entries

-- a draft has the version that one entry more needs, whatever its rules and its entries
abbrev pub AwaitsEntry : Draft → Draft → Entry → Type 0
AwaitsEntry old new entry = (rules : Rules) (entries : List Entry) → Holds rules old entries → Awaits rules new entries entry

-- entries were added after those that a draft had, whatever its rules
abbrev pub Adds : Draft → Draft → List Entry → Type 0
Adds old new entries = (rules : Rules) (before : List Entry) → Holds rules old before → Holds rules new (before ++ entries)

-- the entries of a draft were encoded for the later version
abbrev pub Widens : Draft → Draft → Type 0
Widens old new = (rules : Rules) (entries : List Entry) → Holds rules old entries → StandIn (space_for rules) Mpc2 new.text.items entries

-- a nib of one pixel was added after each entry
abbrev pub PutsNibs : List ℕ → List ℕ → Type 0
PutsNibs old new =
    (entries : List Entry) → have_single_pixels entries ≡ true → StandIn head_size Mpc1 old entries → StandIn head_size Mpc2 new entries

-- a nib of one pixel was added after each of this many entries, without anything before them
abbrev pub Spreads : ℕ → List ℕ → List ℕ → Type 0
Spreads count old new =
    (entries : List Entry) (after : List ℕ) → length entries ≡ count → have_single_pixels entries ≡ true
    → old ≡ flat_map (entry_text Mpc1) entries ++ after → new ≡ flat_map (entry_text Mpc2) entries

-- a text is that of the certificate under rules with this head and the entries of a draft
abbrev pub IsFinished : Rules → Draft → HeadValue → List ℕ → Type 0
IsFinished rules draft head text =
    (entries : List Entry) → Holds rules draft entries
    → text ≡ text_with rules draft.version head (length entries) (flat_map (entry_text draft.version) entries)
