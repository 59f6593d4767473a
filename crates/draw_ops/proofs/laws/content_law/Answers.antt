use Rattle.draw_ops.proofs.ContentLemmas.{one_content}
use Rattle.draw_ops.proofs.laws.content_law.Goals as goal

pub returns : goal.returns
returns c = one_content
