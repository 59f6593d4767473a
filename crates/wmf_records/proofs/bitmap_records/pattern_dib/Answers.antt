use Rattle.std.proofs.Common.{rules}
use Rattle.wmf_records.proofs.bitmap_records.pattern_dib.Goals as goal

pub returns-else-u16_at-eq-BS_PATTERN : goal.returns-else-u16_at-eq-BS_PATTERN
returns-else-u16_at-eq-BS_PATTERN c = search rules
