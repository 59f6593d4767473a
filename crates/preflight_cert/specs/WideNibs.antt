-- Entries whose nib is larger than one pixel.
use Rattle.std.specs.Prelude.{Bool, ◌||◌, nat_lt, List, Any, IsTrue}
use Rattle.std.specs.List.{list_any}
use Rattle.mapping.specs.declared.nib.Nib.{Nib}
use Rattle.preflight_cert.specs.declared.certificate_entry.Entry.{Entry}

-- a nib has more than one column or row
abbrev pub is_wide : Nib → Bool
is_wide nib = nat_lt 1 nib.x || nat_lt 1 nib.y

-- whether some entry has such a nib
abbrev pub have_wide_nib : List Entry → Bool
have_wide_nib entries = list_any (λ (entry : Entry). is_wide entry.nib) entries

-- some entry has a nib of more than one pixel
abbrev pub HasWideNib : List Entry → Type 0
HasWideNib entries = Any (λ (entry : Entry). IsTrue (is_wide entry.nib)) entries
