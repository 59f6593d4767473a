-- The line says what was accepted.
use Rattle.std.proofs.Common.{◌∙◌, Some, sym}
use Rattle.commands.proofs.CertifyLemmas.{same_digests}
use Rattle.commands.proofs.ReportLemmas.{accepts_with}
use Rattle.commands.specs.ClearedFiles.{members_of}
use Rattle.commands.proofs.certified.certified_line.Goals as goal

pub returns : goal.returns
returns c =
    let cleared = c.args.cleared.now in
    record {
      bytes = c.args.place.file.now;
      certificate = c.args.certificate.now;
      path = c.args.place.path.now;
      members = members_of cleared;
      named = c.requires.place.named;
      accepts = accepts_with _ _ cleared c.answer_law.ensures (sym cleared.ruled ∙ c.requires.rules) c.requires.accepted c.requires.opened c.requires.read cleared.counted;
      under = c.requires.under;
      bound = c.requires.bound;
      is_text = same_digests c.args.place.name.now (Some c.args.place.path.now) _ _ _ _ (members_of cleared) _ c.in_ok-certified_text.ensures (c.as_str.ensures.value ∙ c.in_ok-digest.ensures) c.requires.place.digest;
    }
