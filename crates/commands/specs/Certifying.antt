-- The work of `certify` on a file.
use Rattle.std.specs.Prelude.{◌≡◌, ◌⊎◌, ℕ, List, Option, Some}
use Rattle.mapping.specs.Limits.{IsSurfaceSide}
use Rattle.preflight_cert.specs.Preparation.{Prepares}
use Rattle.preflight_cert.specs.Refusal.{IsWantOfMemory}
use Rattle.preflight_cert.specs.Run.{Rejected}
use Rattle.preflight_cert.specs.declared.refusal.Refusal.{Refusal}
use Rattle.commands.specs.CertifyLines.{Certificates, IsCertifyLine, certificate_path, digest_text}
use Rattle.commands.specs.Stored.{Stores}
use Rattle.commands.specs.declared.certifying.Certifying.{Certifying}
use Rattle.commands.specs.declared.certifying.Place.{Place}
use Rattle.commands.specs.declared.command_end.CommandEnd.TheVariants.{Done}
use Rattle.commands.specs.declared.file_line.FileLine.{FileLine}

-- what certificates are asked for
abbrev pub certificates_of : Certifying → Certificates
certificates_of asked = record { rules = asked.rules; width = asked.width; height = asked.height; folder = asked.folder.now }

-- surfaces may have this size
pub record HasSides (asked : Certifying) : Type 0 where
  pub wide : IsSurfaceSide asked.width
  pub high : IsSurfaceSide asked.height

-- a file has its certificate at this path, and this digest
pub record IsPlace (asked : Certifying) (place : Place) : Type 0 where
  pub named : certificate_path asked.folder.now place.name.now ≡ Some place.path.now
  pub digest : place.file_digest.now ≡ digest_text place.file.now

-- the refusal is the fault of the file's run at the bound, or an allocation failed
abbrev pub IsRefusalFor : Certifying → List ℕ → Refusal → Type 0
IsRefusalFor asked file r = Rejected asked.rules file asked.width asked.height r.number r.fault ⊎ IsWantOfMemory r

-- the line about the file with this name
abbrev pub IsLineFor : Certifying → List ℕ → FileLine → Type 0
IsLineFor asked name line = IsCertifyLine line.end (certificates_of asked) name line.text.items

module _ {F : Type 0} where
  -- if the line says that there is a certificate, it is the prepared one, and was stored
  abbrev pub StoresIfDone : (F → Option (List ℕ)) → Certifying → List ℕ → FileLine → Type 0
  StoresIfDone contents asked file line = line.end ≡ Done → Stores contents (Prepares asked.rules file asked.width asked.height)
