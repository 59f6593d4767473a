-- The first entry is read, and the others stand behind it.
use Rattle.preflight_cert.proofs.EntryLemmas.{first_at, rest_whole}
use Rattle.preflight_cert.proofs.certificate_entry.Entries.split_first.Goals as goal

pub invariant_of-rest : goal.invariant_of-rest
invariant_of-rest c =
    record { whole = rest_whole c.args.self.version _ c.args.self.bytes.now c.entry_size-size.ensures c.if-self-size.false c.args.self.whole }

pub returns-clause-entries : goal.returns-clause-entries
returns-clause-entries c =
    rw c.first_entry.ensures (first_at c.args.self.version _ c.args.self.bytes.now c.entry_size-size.ensures c.if-self-size.false)
