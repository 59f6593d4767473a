use Rattle.listing.proofs.CoreListingLemmas.{core_listing_laws}
use Rattle.listing.proofs.laws.core_listing_law.Goals as goal

pub returns : goal.returns
returns c = core_listing_laws c.opening_law.ensures
