-- The line says by which fault the file is rejected.
use Rattle.std.proofs.Common.{rules}
use Rattle.commands.proofs.CertifyLemmas.{rejected_is}
use Rattle.commands.specs.Certifying.{certificates_of}
use Rattle.commands.proofs.certify.rejected_line.Goals as goal

pub returns-clause-line : goal.returns-clause-line
returns-clause-line c =
    rejected_is (certificates_of c.args.asked) c.args.place.name.now c.args.place.file.now _ _ c.args.refusal c.requires.refusal (search rules) c.in_ok-rejected_text.ensures c.requires.place.digest
