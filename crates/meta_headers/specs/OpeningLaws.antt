-- The numbers of a file that opens are within their limits, and the core profile is the default.
use Rattle.std.specs.Prelude.{◌≡◌, ◌⊎◌, ◌<◌, ◌≤◌, ◌*◌, ◌^◌, ℕ, false, max, List, IfSome, Ok}
use Rattle.std.specs.List.{All}
use Rattle.mapping.specs.PlacingLaws.{ShowsFrame}
use Rattle.draw_ops.specs.RuleSets.{in_force, is_print}
use Rattle.draw_ops.specs.declared.rules.Rules.{Rules}
use Rattle.meta_headers.specs.OpeningRules.{opened_by}
use Rattle.meta_headers.specs.Headers.{OpenedValue}
use Rattle.meta_headers.specs.Opening.{opened, surface_for}

-- A file that opens has a frame whose size is within the limits, under any rules. A unit has one part, or the longer side
-- has at most 2^20. If the file is a list of bytes, its handle count, if any, has 16 bits. Under the core profile a file
-- opens as without rules. The rules of an opened file are those in force, and under these it opens in the same way.
pub record OpeningLaws : Type 0 where
  pub frame :
      (rules : Rules) (file : List ℕ) (o : OpenedValue) (width height : ℕ) → opened_by rules file ≡ Ok o
      → ShowsFrame (surface_for o width height)
  pub parts :
      (rules : Rules) (file : List ℕ) (o : OpenedValue) → opened_by rules file ≡ Ok o
      → (o.map.x.parts ≡ 1) ⊎ (o.map.x.parts * max o.frame_width o.frame_height ≤ 2 ^ 20)
  pub handles :
      (rules : Rules) (file : List ℕ) (o : OpenedValue) → All (λ byte. byte < 2 ^ 8) file → opened_by rules file ≡ Ok o
      → IfSome o.handles (λ n. n < 2 ^ 16)
  pub core : (rules : Rules) (file : List ℕ) → is_print rules ≡ false → opened_by rules file ≡ opened file
  pub again : (rules : Rules) (file : List ℕ) → opened_by (in_force rules) file ≡ opened_by rules file
  pub in_force : (rules : Rules) (file : List ℕ) (o : OpenedValue) → opened_by rules file ≡ Ok o → o.rules ≡ in_force rules
