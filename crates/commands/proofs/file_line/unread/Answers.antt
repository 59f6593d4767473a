-- The reason is in the line.
use Rattle.commands.proofs.FileLineLemmas.{not_read}
use Rattle.commands.proofs.file_line.unread.Goals as goal

pub returns : goal.returns
returns c = not_read c.args.rules c.args.name.now _ _ _ c.end.ensures (rw c.text.ensures.text at c.in_ok-unread_text.ensures)
