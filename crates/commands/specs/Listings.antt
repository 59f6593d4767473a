-- What listing a file writes.
use Rattle.std.specs.Prelude.{◌≡◌, ◌⊎◌, ℕ, List}
use Rattle.draw_ops.specs.declared.rules.Rules.{Rules}
use Rattle.listing.specs.Listing.{listed_of, listing_of}
use Rattle.listing.specs.declared.listing_end.ListingEnd.{ListingEnd}
use Rattle.listing.specs.declared.listing_end.ListingEnd.TheVariants.{Broken, Ended}

-- a text is the listing of a file under rules, and its records end in this way
pub record Lists (rules : Rules) (file : List ℕ) (listed : ListingEnd) (text : List ℕ) : Type 0 where
  pub end : listed ≡ listed_of file
  pub printed : text ≡ listing_of rules file

-- a text is the listing of a file under rules, however its records end
abbrev pub IsListing : Rules → List ℕ → List ℕ → Type 0
IsListing rules file text = Lists rules file Ended text ⊎ Lists rules file Broken text
