use Rattle.std.proofs.Common.{rules}
use Rattle.preflight_cert.specs.CertificateOf.{certificate_of}
use Rattle.preflight_cert.proofs.prepared.Prepared.clear.Goals as goal

pub invariant_of-result : goal.invariant_of-result
invariant_of-result c =
    record { ruled = search rules; checked = c.args.self.now.cleared (certificate_of c.in-Ok.certificate) (search rules); counted = c.args.self.now.counted }

pub returns-clause-sound : goal.returns-clause-sound
returns-clause-sound c =
    let self = c.args.self.now in
    c.cleared_law.ensures (record {
      opened = self.opened;
      certificate = c.in-Ok.certificate;
      records = self.records;
      notes = self.notes;
      uses = self.uses;
      ruled = search rules;
      checked = self.cleared (certificate_of c.in-Ok.certificate) (search rules);
      counted = self.counted;
    })
