use Rattle.std.proofs.Common.{rules}
use Rattle.emf_records.proofs.state_records.comment.Goals as goal

pub returns-else-bytes-ge16 : goal.returns-else-bytes-ge16
returns-else-bytes-ge16 c = search rules

pub returns-then-u32_at-eq-EMF_PLUS : goal.returns-then-u32_at-eq-EMF_PLUS
returns-then-u32_at-eq-EMF_PLUS c = search rules
