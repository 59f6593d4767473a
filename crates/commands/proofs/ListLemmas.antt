-- What a finished listing is.
use Rattle.std.proofs.Common.{◌≡◌, inl, inr, ℕ, List, refl}
use Rattle.draw_ops.specs.declared.rules.Rules.{Rules}
use Rattle.listing.specs.Listing.{listed_of, listing_of}
use Rattle.listing.specs.declared.listing_end.ListingEnd.{ListingEnd}
use Rattle.listing.specs.declared.listing_end.ListingEnd.TheVariants.{Broken, Ended}
use Rattle.commands.specs.Listings.{IsListing}

module _ (rules : Rules) (file : List ℕ) where
  -- by how the records end
  by_end : (listed : ListingEnd) → listed ≡ listed_of file → IsListing rules file (listing_of rules file)
  by_end Ended end = inl (record { end = end; printed = refl })
  by_end Broken end = inr (record { end = end; printed = refl })

  -- the records end in one of the ways
  pub is_listing : IsListing rules file (listing_of rules file)
  is_listing = by_end (listed_of file) refl
