-- The entry stands at its index.
use Rattle.std.proofs.Common.{arith, rules}
use Rattle.preflight_cert.proofs.EntryLemmas.{entry_in, length_rest, within}
use Rattle.preflight_cert.proofs.certificate_entry.Entries.get.Goals as goal

pub overflow_mul-entry_size : goal.overflow_mul-entry_size
overflow_mul-entry_size c = let there = within c.args.self.version _ c.args.i c.args.self.bytes.now c.entry_size.ensures c.requires in search (there, rules)

pub slice_bounds-first_entry-count : goal.slice_bounds-first_entry-count
slice_bounds-first_entry-count c = let there = within c.args.self.version _ c.args.i c.args.self.bytes.now c.entry_size.ensures c.requires in omega (arith, there)

pub slice_bounds-first_entry-start : goal.slice_bounds-first_entry-start
slice_bounds-first_entry-start c = let there = within c.args.self.version _ c.args.i c.args.self.bytes.now c.entry_size.ensures c.requires in omega (arith, there)

pub first_entry-requires : goal.first_entry-requires
first_entry-requires c =
    let there = within c.args.self.version _ c.args.i c.args.self.bytes.now c.entry_size.ensures c.requires in
    rw (length_rest _ c.args.self.bytes.now) (omega (arith, there))

pub returns : goal.returns
returns c = rw c.first_entry.ensures (entry_in c.args.self.version _ c.args.i c.args.self.bytes.now c.entry_size.ensures c.requires)
