-- The law of listings, by those of faults, of nibs, of records and of certificates.
use Rattle.listing.proofs.LawLemmas.{listing_laws}
use Rattle.listing.proofs.laws.listing_law.Goals as goal

pub returns : goal.returns
returns c = listing_laws c.fault_law.ensures c.nib_law.ensures c.records_law.ensures.one_way c.records_law.ensures.by_function c.opening_law.ensures c.text_law.ensures
