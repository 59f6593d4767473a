-- Files that open, with the content of their records.
use Rattle.std.specs.Prelude.{◌≡◌, ℕ, List, Ok}
use Rattle.draw_ops.specs.Content.{Content}
use Rattle.draw_ops.specs.ExactlyOne.{ExactlyOne}
use Rattle.draw_ops.specs.declared.rules.Rules.{Rules}
use Rattle.meta_headers.specs.Headers.{OpenedValue}
use Rattle.meta_headers.specs.Opening.{HasContentOf, record_bytes}
use Rattle.meta_headers.specs.OpeningRules.{opened_by}
use Rattle.meta_headers.specs.OpenedOf.{opened_of}
use Rattle.meta_headers.specs.declared.opened.Opened.{Opened}

-- Under these rules the file opens with these headers, and its records have this content.
pub record IsFile (rules : Rules) (file : List ℕ) (headers : OpenedValue) (content : Content) : Type 0 where
  pub opens : opened_by rules file ≡ Ok headers
  pub records : HasContentOf headers.format (record_bytes headers.format file) content

-- an opened file was opened from these bytes, under its rules
pub record IsOpenedFrom (file : List ℕ) (o : Opened) : Type 0 where
  pub opens : opened_by o.rules file ≡ Ok (opened_of o)
  pub records : o.records.now ≡ record_bytes o.format file

-- under given rules a file opens in only one way, and its records have only one content
abbrev pub FileIsOne : Type 0
FileIsOne =
    (rules : Rules) (file : List ℕ) (headers : OpenedValue) → opened_by rules file ≡ Ok headers
    → ExactlyOne (λ (it : OpenedValue × Content). IsFile rules file it.0 it.1)
