-- Reports under the core profile.
use Rattle.std.specs.Prelude.{◌≡◌, false}
use Rattle.serde_json.specs.Data.{Data, Members}
use Rattle.draw_ops.specs.RuleSets.{is_print}
use Rattle.draw_ops.specs.declared.rules.Rules.{Rules}
use Rattle.report_parts.specs.Profile.{with_allowed, with_profile}

-- Under the core profile a report has no member for the profile, and none for what the rules allow.
pub record CoreReportLaws : Type 0 where
  pub profile : (rules : Rules) (members : Members) → is_print rules ≡ false → with_profile rules members ≡ members
  pub allowed : (rules : Rules) (uses : Data) (members : Members) → is_print rules ≡ false → with_allowed rules uses members ≡ members
