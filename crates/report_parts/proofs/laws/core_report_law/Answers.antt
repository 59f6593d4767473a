-- The law, member by member.
use Rattle.std.proofs.Common.{refl}
use Rattle.report_parts.proofs.laws.core_report_law.Goals as goal

pub returns : goal.returns
returns c = record { profile = λ rules members core. rw core refl; allowed = λ rules uses members core. rw core refl }
