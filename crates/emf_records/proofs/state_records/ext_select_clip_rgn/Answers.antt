use Rattle.std.proofs.Common.{rules}
use Rattle.emf_records.proofs.state_records.ext_select_clip_rgn.Goals as goal

pub returns-else-u32_at-eq0 : goal.returns-else-u32_at-eq0
returns-else-u32_at-eq0 c = search rules
