-- The line says why there is no certificate.
use Rattle.std.proofs.Common.{◌∙◌, Some, ap, rules}
use Rattle.commands.proofs.CertifyLemmas.{unstored_is}
use Rattle.commands.specs.CertifyLines.{failed_line}
use Rattle.commands.specs.Certifying.{certificates_of}
use Rattle.commands.proofs.certify.unstored_line.Goals as goal

pub returns-clause-line : goal.returns-clause-line
returns-clause-line c =
    let name = c.args.place.name.now in
    let text = c.in_ok-failed_text.ensures ∙ ap (failed_line name (Some c.args.place.path.now) (Some c.args.place.file_digest.now)) c.text.ensures in
    unstored_is (certificates_of c.args.asked) name c.args.place.file.now c.args.place.path.now _ _ c.args.fault (search rules) c.requires.place.named text c.requires.place.digest
