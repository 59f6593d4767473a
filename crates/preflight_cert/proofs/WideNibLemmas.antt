-- Entries with wide nibs.
use Rattle.std.proofs.Common.{◌≡◌, ◌↔◌, ◌∙◌, ℕ, zero, suc, Bool, true, false, List, drop, refl, sym}
use Rattle.std.proofs.lemmas.List.Folds.{Any-from_list_any, list_any-from_Any}
use Rattle.preflight_cert.specs.CertificateReading.{entries_in}
use Rattle.preflight_cert.specs.WideNibs.{HasWideNib, have_wide_nib, is_wide}
use Rattle.preflight_cert.specs.declared.certificate_entry.Entry.{Entry}
use Rattle.preflight_cert.specs.declared.version.Version.TheVariants.{Mpc1}

-- entries without a nib have that of one pixel
pub no_wide_nib : (n : ℕ) (bytes : List ℕ) → have_wide_nib (entries_in Mpc1 n bytes) ≡ false
no_wide_nib zero bytes = refl
no_wide_nib (suc n) bytes = no_wide_nib n (drop 20 bytes)

-- the test finds what there is
pub wide_found : (test : Bool) (entries : List Entry) → test ≡ have_wide_nib entries → (test ≡ true) ↔ HasWideNib entries
wide_found test entries e = (
  (λ found. Any-from_list_any (λ (entry : Entry). is_wide entry.nib) entries (sym e ∙ found)),
  (λ has. e ∙ list_any-from_Any (λ (entry : Entry). is_wide entry.nib) entries has),
)
